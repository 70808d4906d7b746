-- the list of a primary and a secondary is there, or that of the primary goes again
use Rattle.std.proofs.Common.{◌<◌, refl, arith}
use Rattle.cd_window.specs.declared.waiting.Waiting.{Waiting}
use Rattle.cd_window.specs.Lists.{slots_in, no_key, but_key}
use Rattle.cd_window.proofs.Listing.{indexed_rest, filled_rest, Same}
use Rattle.cd_window.proofs.Stepping.{step_primaries, step_exchanges, same_twice}
use Rattle.cd_window.proofs.waiting.Waiting.add_exchange.Goals as goal

pub add_list_of-requires-clause-slots : goal.add_list_of-requires-clause-slots
add_list_of-requires-clause-slots c = (slots_in c.args.self.now, c.requires.listed.exchanges)

pub returns-in-Ok-clause-listed : goal.returns-in-Ok-clause-listed
returns-in-Ok-clause-listed c =
    let y : Waiting = record c.args.self.now { store = c.add_list_of.new.store; exchanges = c.add_list_of.new.numbers } in
    (step_exchanges c.args.self.now y refl c.add_list_of.ensures.rest c.requires.listed c.requires.listed.primaries (c.add_list_of.ensures.indexed (slots_in c.args.self.now) c.requires.listed.exchanges)).listed

pub returns-in-Ok-clause-same : goal.returns-in-Ok-clause-same
returns-in-Ok-clause-same c =
    let y : Waiting = record c.args.self.now { store = c.add_list_of.new.store; exchanges = c.add_list_of.new.numbers } in
    (step_exchanges c.args.self.now y refl c.add_list_of.ensures.rest c.requires.listed c.requires.listed.primaries (c.add_list_of.ensures.indexed (slots_in c.args.self.now) c.requires.listed.exchanges)).waits

pub returns-in-Ok-clause-room : goal.returns-in-Ok-clause-room
returns-in-Ok-clause-room c = record {
  spare = (let a = c.add_list_of.ensures.rest.spare in let b = c.requires.spare in let d : 0 < c.add_list_of.new.store.spare = omega arith in d);
  primary = c.requires.primary;
  exchange = c.in-Ok.ensures.number;
  primaries = filled_rest c.args.self.now.primaries c.args.self.now.store c.add_list_of.new.store 2 1 (but_key c.args.waiter.now.alone) c.add_list_of.ensures.rest (λ z. omega arith) c.requires.primaries;
  exchanges = c.in-Ok.ensures.filled;
}

pub drop_list_of-requires-clause-slots : goal.drop_list_of-requires-clause-slots
drop_list_of-requires-clause-slots c = (slots_in c.args.self.now, indexed_rest c.args.self.now.primaries c.args.self.now.store c.add_list_of.new.store 2 1 (slots_in c.args.self.now) c.add_list_of.ensures.rest (λ z. omega arith) c.requires.listed.primaries)

pub drop_list_of-requires-clause-filled : goal.drop_list_of-requires-clause-filled
drop_list_of-requires-clause-filled c = filled_rest c.args.self.now.primaries c.args.self.now.store c.add_list_of.new.store 2 1 (but_key c.args.waiter.now.alone) c.add_list_of.ensures.rest (λ z. omega arith) c.requires.primaries

pub returns-in-Err-clause-listed : goal.returns-in-Err-clause-listed
returns-in-Err-clause-listed c =
    let x : Waiting = c.args.self.now in
    let y : Waiting = record c.args.self.now { store = c.add_list_of.new.store; exchanges = c.add_list_of.new.numbers } in
    let z : Waiting = record c.args.self.now { store = c.drop_list_of.new.store; exchanges = c.add_list_of.new.numbers; primaries = c.drop_list_of.new.numbers } in
    let A : Same x y = step_exchanges x y refl c.add_list_of.ensures.rest c.requires.listed c.requires.listed.primaries (c.add_list_of.ensures.indexed (slots_in x) c.requires.listed.exchanges) in
    (step_primaries y z refl c.drop_list_of.ensures.rest A.listed (c.drop_list_of.ensures.indexed (slots_in y) A.listed.primaries) A.listed.exchanges).listed

pub returns-in-Err-clause-same : goal.returns-in-Err-clause-same
returns-in-Err-clause-same c =
    let x : Waiting = c.args.self.now in
    let y : Waiting = record c.args.self.now { store = c.add_list_of.new.store; exchanges = c.add_list_of.new.numbers } in
    let z : Waiting = record c.args.self.now { store = c.drop_list_of.new.store; exchanges = c.add_list_of.new.numbers; primaries = c.drop_list_of.new.numbers } in
    let A : Same x y = step_exchanges x y refl c.add_list_of.ensures.rest c.requires.listed c.requires.listed.primaries (c.add_list_of.ensures.indexed (slots_in x) c.requires.listed.exchanges) in
    (same_twice x y z A (step_primaries y z refl c.drop_list_of.ensures.rest A.listed (c.drop_list_of.ensures.indexed (slots_in y) A.listed.primaries) A.listed.exchanges)).waits

pub returns-in-Err-clause-err_filled : goal.returns-in-Err-clause-err_filled
returns-in-Err-clause-err_filled c = record {
  primaries = c.drop_list_of.ensures.filled;
  exchanges = filled_rest c.add_list_of.new.numbers c.add_list_of.new.store c.drop_list_of.new.store 1 2 no_key c.drop_list_of.ensures.rest (λ z. omega arith) c.in-Err.ensures.err_filled;
}
