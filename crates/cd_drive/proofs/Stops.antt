-- What ended the input, by the bytes taken.
use Rattle.std.proofs.Common.{◌≡◌, ℕ, ◌+◌, ◌-◌, ◌<◌, ◌≤◌, min, Bool, List, ◌++◌, length, take, Some, None, refl, ap}
use Rattle.std.proofs.Common.{sym, ◌∙◌, arith, inl, inr}
use Rattle.std.proofs.lemmas.Bool.{lt-ltb, le-ltb, cases_lt}
use Rattle.std.proofs.lemmas.List.{take_all, take-take, length-take}
use Rattle.std.proofs.Math.Seq.{take-append-add}
use Rattle.std.specs.Prelude.{if◌then◌else◌}
use Rattle.cd_drive.specs.Behaviors.{Behavior}
use Rattle.cd_drive.specs.Driving.{stopped_by, refused_or}
use Rattle.cd_drive.specs.declared.driving.Stop.TheVariants as stop

-- bytes that are few and not refused
pub stopped_few : {R C : Type 0} (d : Behavior R C) (max : ℕ) (taken : List ℕ) (told_end : Bool) →
    length taken ≤ max → d.refusal taken ≡ None →
    stopped_by d max taken told_end ≡ (if told_end then refused_or (d.at_end taken) stop.Done else stop.ReadFault)
stopped_few d max taken told_end few none = rw (take_all max taken few, none, le-ltb max (length taken) few) refl

-- bytes whose front is refused
pub stopped_refused : {R C : Type 0} (d : Behavior R C) (max : ℕ) (taken : List ℕ) (told_end : Bool) (answer : R) →
    d.refusal (take max taken) ≡ Some answer →
    stopped_by d max taken told_end ≡ stop.Refused answer
stopped_refused d max taken told_end answer some = rw some refl

-- too many bytes, whose front is not refused
pub stopped_long : {R C : Type 0} (d : Behavior R C) (max : ℕ) (taken : List ℕ) (told_end : Bool) →
    max < length taken → d.refusal (take max taken) ≡ None →
    stopped_by d max taken told_end ≡ stop.TooLong
stopped_long d max taken told_end long none = rw (none, lt-ltb max (length taken) long) refl

-- the front of the bytes taken, once a chunk was added to them
pub front_grown : (max room n used : ℕ) (taken items : List ℕ) → length taken + room ≡ max + 1 → 0 < room →
    used ≡ min n (room - 1) →
    take max (taken ++ take n items) ≡ taken ++ take used items
front_grown max room n used taken items count some is =
    let split : max ≡ length taken + (room - 1) = omega arith in
    let least : used ≤ n = omega arith in
    let whole : take (room - 1) (take n items) ≡ take used items = cut (room - 1) n used items is in
    rw split (take-append-add taken (take n items) (room - 1) ∙ ap (λ t. taken ++ t) whole)
  where
    cut : (m k u : ℕ) (xs : List ℕ) → u ≡ min k m → take m (take k xs) ≡ take u xs
    cut m k u xs e = elim (cases_lt m k) [
      | inl less ↦ let same : u ≡ m = omega arith in take-take m k xs (omega arith) ∙ ap (λ j. take j xs) (sym same)
      | inr more ↦ let same : u ≡ k = omega arith in
          take_all m (take k xs) (omega (arith, length-take k xs)) ∙ ap (λ j. take j xs) (sym same)
    ]
