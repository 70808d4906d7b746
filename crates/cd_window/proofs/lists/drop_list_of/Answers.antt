-- a list that is not empty stays
use Rattle.std.proofs.Common.{refl, sym, subst}
use Rattle.std.specs.Prelude.{IsSome}
use Rattle.cd_chain.specs.Contents.{list_at}
use Rattle.cd_window.specs.Keys.{same_key}
use Rattle.cd_window.specs.Lists.{has_key, number_of}
use Rattle.cd_window.proofs.Filling.{filled_absent}
use Rattle.cd_window.proofs.Keying.{keys_are}
use Rattle.cd_window.proofs.KeyCalls.{empty_list}
use Rattle.cd_window.proofs.LaneCalls.{rest_same}
use Rattle.cd_window.proofs.lists.drop_list_of.Goals as goal

pub first-requires : goal.first-requires
first-requires c = subst (λ o. IsSome o) (sym (c.requires.slots.1.lists c.args.key.now c.in-Some.list (sym c.in-Some.ensures.number))) refl

pub drop_list-requires-clause-number : goal.drop_list-requires-clause-number
drop_list-requires-clause-number c = sym c.in-Some.ensures.number

pub drop_list-requires-clause-empty : goal.drop_list-requires-clause-empty
drop_list-requires-clause-empty c = empty_list (list_at c.args.store.now c.args.lane c.in-Some.list) _ (c.requires.slots.1.lists c.args.key.now c.in-Some.list (sym c.in-Some.ensures.number)) (sym c.in-None-first.ensures.first)

pub returns-in-None-clause-filled : goal.returns-in-None-clause-filled
returns-in-None-clause-filled c = filled_absent (number_of c.args.numbers.now) (list_at c.args.store.now c.args.lane) (has_key c.args.store.now c.args.lane) same_key (keys_are c.args.numbers.now c.args.store.now c.args.lane) c.args.key.now (sym c.in-None.ensures.number) c.requires.filled

pub returns-in-None-clause-rest : goal.returns-in-None-clause-rest
returns-in-None-clause-rest c = rest_same c.args.store.now c.args.lane
