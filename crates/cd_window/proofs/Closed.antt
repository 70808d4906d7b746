-- What is left when the first event is let go of, or stays.
use Rattle.std.proofs.Common.{◌≡◌, ℕ, ◌<◌, true, false, ◌∷◌, length, filter, Some, refl, ap, sym, ◌∙◌, subst, arith}
use Rattle.std.specs.Prelude.{slice_get}
use Rattle.cd_pairing.specs.declared.keyed.Side.{Side}
use Rattle.cd_pairing.specs.declared.keyed.Windows.{Windows}
use Rattle.cd_chain.specs.Chains.{without}
use Rattle.cd_window.specs.declared.stamps.Stamp.{Stamp}
use Rattle.cd_window.specs.declared.waiting.Waiting.{Waiting}
use Rattle.cd_window.specs.Waiting.{Waits, waits_still, AreRising, AllBefore, NoneBefore, but_at}
use Rattle.cd_window.specs.Lists.{slots_in, waits_in_slot, waits_in, IsListed, Removes}
use Rattle.cd_window.proofs.Listing.{front_gone, front_waits, first_in}
use Rattle.cd_window.proofs.Sublists.{length_without}
use Rattle.cd_window.proofs.Waits.{front_still, but_front, but_other}

-- a first event that waits no more is let go of
pub record Closes (windows : Windows) (side : Side) (now : Stamp) (x x' : Waiting) : Type 0 where
  pub rising : AreRising (waits_in x')
  pub before : AllBefore now.index now.clock now.weight_sum (waits_in x')
  pub same : filter (waits_still windows side now) (waits_in x') ≡ filter (waits_still windows side now) (waits_in x)
  pub shorter : length (slots_in x') < length (slots_in x)

pub closes : (windows : Windows) (side : Side) (now : Stamp) (x x' : Waiting) (slot : ℕ) → IsListed x → Removes x x' slot → slice_get (slots_in x) 0 ≡ Some slot → waits_still windows side now (waits_in_slot x.store slot) ≡ false →
    AreRising (waits_in x) → AllBefore now.index now.clock now.weight_sum (waits_in x) → Closes windows side now x x'
closes windows side now x x' slot L R e closed r b =
    let g = front_gone x x' slot L.distinct R e in
    let y : Waits = waits_in_slot x.store slot in
    let r' : AreRising (y ∷ waits_in x') = subst AreRising g r in
    let b' : AllBefore now.index now.clock now.weight_sum (y ∷ waits_in x') = subst (AllBefore now.index now.clock now.weight_sum) g b in
    let skip : filter (waits_still windows side now) (waits_in_slot x.store slot ∷ waits_in x') ≡ filter (waits_still windows side now) (waits_in x') = rw closed refl in
    record {
      rising = r'.1;
      before = b'.1;
      same = sym skip ∙ ap (filter (waits_still windows side now)) (sym g);
      shorter =
          let l = length_without slot (slots_in x) L.distinct (first_in (slots_in x) slot e) in
          let d : length (slots_in x') ≡ length (without slot (slots_in x)) = ap length R.slots in
          omega arith;
    }

-- where the first event waits still, all do
pub stays : (windows : Windows) (side : Side) (now : Stamp) (x : Waiting) → AreRising (waits_in x) → AllBefore now.index now.clock now.weight_sum (waits_in x) →
    ((s : ℕ) → slice_get (slots_in x) 0 ≡ Some s → waits_still windows side now (waits_in_slot x.store s) ≡ true) → waits_in x ≡ filter (waits_still windows side now) (waits_in x)
stays windows side now x r b h = sym (front_still windows side now (waits_in x) r b (λ y e.
    let f = front_waits x y e in
    ap (waits_still windows side now) (sym f.2) ∙ h f.0 f.1))

-- the first event, which stands at this position, is let go of
pub front_taken : (x x' : Waiting) (slot position : ℕ) → IsListed x → Removes x x' slot → slice_get (slots_in x) 0 ≡ Some slot → (waits_in_slot x.store slot).index ≡ position → AreRising (waits_in x) → waits_in x' ≡ but_at position (waits_in x)
front_taken x x' slot position L R e at r =
    let g = front_gone x x' slot L.distinct R e in
    let r' : AreRising (waits_in_slot x.store slot ∷ waits_in x') = subst AreRising g r in
    sym (but_front position (waits_in_slot x.store slot) (waits_in x') r' at) ∙ ap (but_at position) (sym g)

-- no event stands at this position
pub none_taken : (x : Waiting) (position : ℕ) → AreRising (waits_in x) → NoneBefore position (waits_in x) → ((s : ℕ) → slice_get (slots_in x) 0 ≡ Some s → (waits_in_slot x.store s).index ≡ position → ⊥) → waits_in x ≡ but_at position (waits_in x)
none_taken x position r n h = sym (but_other position (waits_in x) r n (λ y e at.
    let f = front_waits x y e in
    h f.0 f.1 (ap (λ (z : Waits). z.index) f.2 ∙ at)))
