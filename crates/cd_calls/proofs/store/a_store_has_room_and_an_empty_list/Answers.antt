use Rattle.std.proofs.Common.{◌≡◌, ◌∙◌, ap, refl, rules, arith, true}
use Rattle.std.specs.Prelude.{eqb}
use Rattle.cd_chain.specs.Contents.{list_count}
use Rattle.cd_calls.proofs.store.a_store_has_room_and_an_empty_list.Goals as goal

pub add_list-requires-clause-room : goal.add_list-requires-clause-room
add_list-requires-clause-room g c =
    rw (c.reserve.ensures.lists.counts 0 ∙ ap (λ s. list_count s 0) c.new-store.ensures) (omega arith)

pub first-first-requires : goal.first-first-requires
first-first-requires g c =
    let same : eqb c.in_ok-list.list c.in_ok-list.list ≡ true = search rules in
    rw (c.in_ok-list.ensures.ok.lists 0 c.in_ok-list.list, same) refl
