-- the list of a key is there, and has the slots of the key
use Rattle.std.proofs.Common.{filter, refl, ap, sym, ◌∙◌, subst}
use Rattle.std.specs.Prelude.{IsSome, slice_get}
use Rattle.cd_chain.specs.Cells.{AreDistinct}
use Rattle.cd_chain.specs.Contents.{list_at, slots_of}
use Rattle.cd_window.specs.Keys.{same_key}
use Rattle.cd_window.specs.Lists.{has_key, number_of, still_in_slot}
use Rattle.cd_window.proofs.Indexing.{none_has}
use Rattle.cd_window.proofs.Passing.{distinct_filter, filter_swap}
use Rattle.cd_window.proofs.lists.first_of.Goals as goal

pub first_open-requires-clause-there : goal.first_open-requires-clause-there
first_open-requires-clause-there c = subst (λ o. IsSome o) (sym (c.requires.1.lists c.args.key.now c.in-Some.list (sym c.in-Some.ensures))) refl

pub first_open-requires-clause-distinct : goal.first_open-requires-clause-distinct
first_open-requires-clause-distinct c = subst (λ o. AreDistinct (slots_of o)) (sym (c.requires.1.lists c.args.key.now c.in-Some.list (sym c.in-Some.ensures)))
    (distinct_filter (has_key c.args.store.now c.args.lane c.args.key.now) c.requires.0 c.requires.2)

pub returns-in-None : goal.returns-in-None
returns-in-None c = λ slots A. sym (ap (λ xs. slice_get xs 0)
    (filter_swap (has_key c.args.store.now c.args.lane c.args.key.now) (still_in_slot c.args.windows.now c.args.side c.args.now c.args.store.now) slots
    ∙ ap (filter (still_in_slot c.args.windows.now c.args.side c.args.now c.args.store.now))
    (none_has (number_of c.args.numbers.now) (list_at c.args.store.now c.args.lane) (has_key c.args.store.now c.args.lane) same_key slots c.args.key.now (sym c.in-None.ensures) A)))

pub returns-in-Some : goal.returns-in-Some
returns-in-Some c = λ slots A. c.first_open.ensures
    ∙ ap (λ o. slice_get (filter (still_in_slot c.args.windows.now c.args.side c.args.now c.args.store.now) (slots_of o)) 0) (A.lists c.args.key.now c.in-Some.list (sym c.in-Some.ensures))
    ∙ ap (λ xs. slice_get xs 0) (filter_swap (still_in_slot c.args.windows.now c.args.side c.args.now c.args.store.now) (has_key c.args.store.now c.args.lane c.args.key.now) slots)
