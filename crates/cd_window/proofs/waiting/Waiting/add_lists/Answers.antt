-- the list of a primary is there
use Rattle.std.proofs.Common.{refl, arith, ◌∙◌}
use Rattle.cd_window.specs.declared.waiting.Waiting.{Waiting}
use Rattle.cd_window.specs.Lists.{slots_in, no_key}
use Rattle.cd_window.proofs.Listing.{filled_rest}
use Rattle.cd_window.proofs.Stepping.{step_primaries, primaries_room, exchanges_room}
use Rattle.cd_window.proofs.waiting.Waiting.add_lists.Goals as goal

pub add_list_of-requires-clause-room : goal.add_list_of-requires-clause-room
add_list_of-requires-clause-room c = primaries_room c.args.self.now c.requires.listed c.requires.filled c.requires.few

pub add_list_of-requires-clause-slots : goal.add_list_of-requires-clause-slots
add_list_of-requires-clause-slots c = (slots_in c.args.self.now, c.requires.listed.primaries)

pub add_list_of-requires-clause-filled : goal.add_list_of-requires-clause-filled
add_list_of-requires-clause-filled c = c.requires.filled.primaries

pub add_exchange-requires-clause-listed : goal.add_exchange-requires-clause-listed
add_exchange-requires-clause-listed c =
    let y : Waiting = record c.args.self.now { store = c.add_list_of.new.store; primaries = c.add_list_of.new.numbers } in
    (step_primaries c.args.self.now y refl c.add_list_of.ensures.rest c.requires.listed (c.add_list_of.ensures.indexed (slots_in c.args.self.now) c.requires.listed.primaries) c.requires.listed.exchanges).listed

pub add_exchange-requires-clause-exchanges : goal.add_exchange-requires-clause-exchanges
add_exchange-requires-clause-exchanges c = filled_rest c.args.self.now.exchanges c.args.self.now.store c.add_list_of.new.store 1 2 no_key c.add_list_of.ensures.rest (λ z. omega arith) c.requires.filled.exchanges

pub add_exchange-requires-clause-few : goal.add_exchange-requires-clause-few
add_exchange-requires-clause-few c =
    let a = exchanges_room c.args.self.now c.requires.listed c.requires.filled c.requires.few in
    let b = (c.add_list_of.ensures.rest.lanes 2 (λ z. omega arith)).counts in
    omega arith

pub add_exchange-requires-clause-spare : goal.add_exchange-requires-clause-spare
add_exchange-requires-clause-spare c = let a = c.add_list_of.ensures.rest.spare in let b = c.requires.spare in omega arith

pub returns-in-Ok-clause-same : goal.returns-in-Ok-clause-same
returns-in-Ok-clause-same c =
    let y : Waiting = record c.args.self.now { store = c.add_list_of.new.store; primaries = c.add_list_of.new.numbers } in
    c.add_exchange.ensures.same ∙ (step_primaries c.args.self.now y refl c.add_list_of.ensures.rest c.requires.listed (c.add_list_of.ensures.indexed (slots_in c.args.self.now) c.requires.listed.primaries) c.requires.listed.exchanges).waits

pub returns-in-Err-clause-listed : goal.returns-in-Err-clause-listed
returns-in-Err-clause-listed c =
    let y : Waiting = record c.args.self.now { store = c.add_list_of.new.store; primaries = c.add_list_of.new.numbers } in
    (step_primaries c.args.self.now y refl c.add_list_of.ensures.rest c.requires.listed (c.add_list_of.ensures.indexed (slots_in c.args.self.now) c.requires.listed.primaries) c.requires.listed.exchanges).listed

pub returns-in-Err-clause-same : goal.returns-in-Err-clause-same
returns-in-Err-clause-same c =
    let y : Waiting = record c.args.self.now { store = c.add_list_of.new.store; primaries = c.add_list_of.new.numbers } in
    (step_primaries c.args.self.now y refl c.add_list_of.ensures.rest c.requires.listed (c.add_list_of.ensures.indexed (slots_in c.args.self.now) c.requires.listed.primaries) c.requires.listed.exchanges).waits

pub returns-in-Err-clause-err_filled : goal.returns-in-Err-clause-err_filled
returns-in-Err-clause-err_filled c = record {
  primaries = c.in-Err.ensures.err_filled;
  exchanges = filled_rest c.args.self.now.exchanges c.args.self.now.store c.add_list_of.new.store 1 2 no_key c.add_list_of.ensures.rest (λ z. omega arith) c.requires.filled.exchanges;
}
