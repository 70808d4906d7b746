use Rattle.std.proofs.Common.{rules, ◌≡◌, ◌⊎◌, ℕ, ◌%◌, sym, ap, ◌∙◌, subst}
use mathlib.Core.Option.{some}
use lib.ListN.{get_elem?}
use Rattle.cd_ring.specs.declared.view.Note.TheVariants.{Met}
use Rattle.cd_ring.specs.Rule.{Holds}
use Rattle.cd_ring.proofs.CoordinatorSteps.{marks_free}
use Rattle.cd_ring.proofs.ring.Ring.mark_free.Goals as goal

pub store-requires : goal.store-requires
store-requires g c = let old = c.requires.oldest in let key = sym c.args.self.now.keyed in let count = ap (λ k. k.slots) key in let slot : ℕ = c.args.slot in let k = c.args.seat.now.me.0.known in (
  search rules,
  search rules,
  marks_free _ _ _ _ _ _ slot old.0 old.1 c.args.done.now c.requires.turn.2 (c.requires.turn.0 ∙ ap (λ (n : ℕ). k.taken % n) count) old.2
      (subst (λ z. (get_elem? k.notes slot ≡ some (Met c.args.done.now)) ⊎ (Holds k slot old.0 × g.T.Task.meets z.task old.0 c.args.done.now)) key old.3),
)
