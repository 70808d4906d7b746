-- the slot goes from each list, and the lists that became empty go
use Rattle.std.proofs.Common.{arith, refl}
use Rattle.cd_chain.specs.Chains.{without}
use Rattle.cd_window.specs.declared.waiting.Waiting.{Waiting}
use Rattle.cd_window.specs.Lists.{slots_in, no_key, but_key}
use Rattle.cd_window.proofs.Listing.{emptied, indexed_rest, filled_rest, taken}
use Rattle.cd_window.proofs.waiting.Waiting.remove.Goals as goal

pub remove-waiter-requires : goal.remove-waiter-requires
remove-waiter-requires c = c.requires.listed.used c.args.slot c.requires.slot

pub drop_list_of-requires-clause-slots : goal.drop_list_of-requires-clause-slots
drop_list_of-requires-clause-slots c =
    let E = emptied c.args.self.now c.remove-waiter.new.self c.args.slot c.remove-waiter.result c.requires.listed c.requires.filled c.remove-waiter.ensures.values c.remove-waiter.ensures.lists in
    (without c.args.slot (slots_in c.args.self.now), E.primaries)

pub drop_list_of-requires-clause-filled : goal.drop_list_of-requires-clause-filled
drop_list_of-requires-clause-filled c =
    let E = emptied c.args.self.now c.remove-waiter.new.self c.args.slot c.remove-waiter.result c.requires.listed c.requires.filled c.remove-waiter.ensures.values c.remove-waiter.ensures.lists in
    E.primaries_filled

pub drop_list_of-requires-2-clause-slots : goal.drop_list_of-requires-2-clause-slots
drop_list_of-requires-2-clause-slots c =
    let E = emptied c.args.self.now c.remove-waiter.new.self c.args.slot c.remove-waiter.result c.requires.listed c.requires.filled c.remove-waiter.ensures.values c.remove-waiter.ensures.lists in
    (without c.args.slot (slots_in c.args.self.now), indexed_rest c.args.self.now.exchanges c.remove-waiter.new.self c.drop_list_of.new.store 1 2 (without c.args.slot (slots_in c.args.self.now)) c.drop_list_of.ensures.rest (λ z. omega arith) E.exchanges)

pub drop_list_of-requires-2-clause-filled : goal.drop_list_of-requires-2-clause-filled
drop_list_of-requires-2-clause-filled c =
    let E = emptied c.args.self.now c.remove-waiter.new.self c.args.slot c.remove-waiter.result c.requires.listed c.requires.filled c.remove-waiter.ensures.values c.remove-waiter.ensures.lists in
    filled_rest c.args.self.now.exchanges c.remove-waiter.new.self c.drop_list_of.new.store 1 2 (but_key c.remove-waiter.result.whole) c.drop_list_of.ensures.rest (λ z. omega arith) E.exchanges_filled

pub returns-clause-listed : goal.returns-clause-listed
returns-clause-listed c =
    let E = emptied c.args.self.now c.remove-waiter.new.self c.args.slot c.remove-waiter.result c.requires.listed c.requires.filled c.remove-waiter.ensures.values c.remove-waiter.ensures.lists in
    let x' : Waiting = record c.args.self.now { store = c.drop_list_of-2.new.store; primaries = c.drop_list_of.new.numbers; exchanges = c.drop_list_of-2.new.numbers } in
    let left = without c.args.slot (slots_in c.args.self.now) in
    let T = taken c.args.self.now x' c.remove-waiter.new.self c.drop_list_of.new.store c.args.slot c.remove-waiter.result refl c.requires.listed c.requires.slot E c.drop_list_of.ensures.rest c.drop_list_of-2.ensures.rest
    (c.drop_list_of.ensures.indexed left E.primaries)
    (c.drop_list_of-2.ensures.indexed left (indexed_rest c.args.self.now.exchanges c.remove-waiter.new.self c.drop_list_of.new.store 1 2 left c.drop_list_of.ensures.rest (λ z. omega arith) E.exchanges)) in
    T.listed

pub returns-clause-removes : goal.returns-clause-removes
returns-clause-removes c =
    let E = emptied c.args.self.now c.remove-waiter.new.self c.args.slot c.remove-waiter.result c.requires.listed c.requires.filled c.remove-waiter.ensures.values c.remove-waiter.ensures.lists in
    let x' : Waiting = record c.args.self.now { store = c.drop_list_of-2.new.store; primaries = c.drop_list_of.new.numbers; exchanges = c.drop_list_of-2.new.numbers } in
    let left = without c.args.slot (slots_in c.args.self.now) in
    let T = taken c.args.self.now x' c.remove-waiter.new.self c.drop_list_of.new.store c.args.slot c.remove-waiter.result refl c.requires.listed c.requires.slot E c.drop_list_of.ensures.rest c.drop_list_of-2.ensures.rest
    (c.drop_list_of.ensures.indexed left E.primaries)
    (c.drop_list_of-2.ensures.indexed left (indexed_rest c.args.self.now.exchanges c.remove-waiter.new.self c.drop_list_of.new.store 1 2 left c.drop_list_of.ensures.rest (λ z. omega arith) E.exchanges)) in
    T.removes

pub returns-clause-filled : goal.returns-clause-filled
returns-clause-filled c = record {
  primaries = filled_rest c.drop_list_of.new.numbers c.drop_list_of.new.store c.drop_list_of-2.new.store 2 1 no_key c.drop_list_of-2.ensures.rest (λ z. omega arith) c.drop_list_of.ensures.filled;
  exchanges = c.drop_list_of-2.ensures.filled;
}

pub returns-clause-value : goal.returns-clause-value
returns-clause-value c = c.remove-waiter.ensures.values.was
