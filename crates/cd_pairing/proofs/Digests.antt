-- Digests that differ are of primaries that differ.
use Rattle.std.proofs.Common.{◌≡◌, ◌≢◌, Bool, false, ◌&&◌, List, ap, sym, ◌∙◌, inl, inr}
use Rattle.std.specs.Prelude.{nat_eq}
use Rattle.std.specs.Cmp.Lexicographic.{pointwise, same_text}
use Rattle.std.proofs.Math.Bool.{and-false}
use Rattle.std.proofs.lemmas.Bool.{cases_Bool, ne_eqb}
use Rattle.cd_pairing.specs.declared.keyed.Windows.{Windows}
use Rattle.cd_pairing.specs.declared.stamp.Stamp.{Stamp}
use Rattle.cd_pairing.specs.Events.{EventView, event_at, are_opposite, secondaries_agree}
use Rattle.cd_pairing.specs.Pairing.{is_in_window, may_pair}
use Rattle.cd_pairing.specs.Waiting.{digest_of, event_of, IsInside}

-- primaries of two digests are not equal
primaries_differ : (events : List EventView) (then now : Stamp) → IsInside events then → IsInside events now → then.digest ≢ now.digest →
    pointwise nat_eq (event_at events then.index).primary (event_at events now.index).primary ≡ false
primaries_differ events then now t n differ =
    let a = (event_at events then.index).primary in
    let b = (event_at events now.index).primary in
    elim (cases_Bool (pointwise nat_eq a b)) [
      | inl same ↦ absurd (differ (t.digest ∙ ap digest_of (same_text a b (sym same)) ∙ sym n.digest))
      | inr other ↦ other
    ]

-- so their events are not compatible
pub other_digests_fail : (windows : Windows) (events : List EventView) (then now : Stamp) → IsInside events then → IsInside events now → then.digest ≢ now.digest →
    nat_eq then.digest now.digest ≡ may_pair windows (event_of events then) (event_of events now)
unfolding may_pair
other_digests_fail windows events then now t n differ =
    let a = event_at events then.index in
    let b = event_at events now.index in
    let same_window : Bool = is_in_window windows (event_of events then) (event_of events now) in
    let fails = ap (λ (x : Bool). are_opposite a.side b.side && (x && secondaries_agree a.secondary b.secondary) && same_window) (primaries_differ events then now t n differ) in
    ne_eqb then.digest now.digest differ ∙ sym (fails ∙ ap (λ (x : Bool). x && same_window) (and-false (are_opposite a.side b.side)))
