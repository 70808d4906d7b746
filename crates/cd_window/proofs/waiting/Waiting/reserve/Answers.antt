-- a slot more changes no list
use Rattle.std.proofs.Common.{refl, arith}
use Rattle.cd_window.specs.declared.waiting.Waiting.{Waiting}
use Rattle.cd_window.specs.Lists.{no_key}
use Rattle.cd_window.proofs.Listing.{filled_kept_all}
use Rattle.cd_window.proofs.Stepping.{step_slots, as_many}
use Rattle.cd_window.proofs.waiting.Waiting.reserve.Goals as goal

pub reserve-requires : goal.reserve-requires
reserve-requires c =
    let a = as_many c.args.self.now in
    let b = c.requires.listed.counted in
    let few = c.requires.few in
    omega arith

pub returns-clause-listed : goal.returns-clause-listed
returns-clause-listed c =
    let x' : Waiting = record c.args.self.now { store = c.reserve.new.self } in
    (step_slots c.args.self.now x' refl c.reserve.ensures.values c.reserve.ensures.lists c.requires.listed c.requires.listed.primaries c.requires.listed.exchanges).listed

pub returns-clause-same : goal.returns-clause-same
returns-clause-same c =
    let x' : Waiting = record c.args.self.now { store = c.reserve.new.self } in
    (step_slots c.args.self.now x' refl c.reserve.ensures.values c.reserve.ensures.lists c.requires.listed c.requires.listed.primaries c.requires.listed.exchanges).waits

pub returns-clause-filled : goal.returns-clause-filled
returns-clause-filled c = record {
  primaries = filled_kept_all c.args.self.now.primaries c.args.self.now.store c.reserve.new.self 1 no_key c.reserve.ensures.lists c.requires.filled.primaries;
  exchanges = filled_kept_all c.args.self.now.exchanges c.args.self.now.store c.reserve.new.self 2 no_key c.reserve.ensures.lists c.requires.filled.exchanges;
}
