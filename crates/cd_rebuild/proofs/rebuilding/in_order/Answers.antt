use Rattle.std.proofs.Common.{rules, ◌∙◌}
use Rattle.std.proofs.lemmas.List.Sorted.{IsNonDecreasingBy-from_sort_by_key, answers_always}
use Rattle.cd_rebuild.specs.declared.rebuilt_block.Raw.{Raw}
use Rattle.cd_rebuild.proofs.Ordering.{in_order_by_time, stable_same_time}
use Rattle.cd_rebuild.proofs.rebuilding.in_order.Goals as goal

pub returns : goal.returns
returns c =
    let sorted = IsNonDecreasingBy-from_sort_by_key (λ (p : Raw). p.time) _ c.in_ok-sort_by_key.ensures.sorted (λ a r q k. search rules) in
    let stable = c.in_ok-sort_by_key.ensures.stable (λ (p : Raw). p.time) (answers_always _ _ _ (λ f a r g h. search rules)) in
    c.from_vec.ensures ∙ in_order_by_time c.args.packets.items c.sort_by_key.new.self.items sorted (stable_same_time c.args.packets.items c.sort_by_key.new.self.items stable)
