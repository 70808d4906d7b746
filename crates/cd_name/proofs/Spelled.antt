-- A name is labels and the root.
use Rattle.std.proofs.Common.{◌≡◌, ℕ, zero, suc, ◌<◌, ◌≤◌, true, List, [], ◌∷◌, ◌++◌, length, take, drop, refl, ap, sym, ◌∙◌, arith, append_assoc, inl, inr}
use Rattle.std.proofs.lemmas.Bool.{cases_eq, cases_lt, false≢true}
use Rattle.std.proofs.lemmas.List.{take-append-drop, length-take-le, nil_from_length}
use Rattle.std.specs.List.{AllByRecursion}
use Rattle.cd_name.specs.Names.{are_labels_and_root}
use Rattle.cd_name.specs.NameLaws.{IsLabel, label_bytes, NamesAreLabels}
use Rattle.cd_name.proofs.Labels.{AreLabels, no_labels, labels_with_label, labels-root, labels-early_root, labels-long, labels-label}

-- after the rest of a label, bytes are labels and the root
record AreSpelled (inside : ℕ) (bytes : List ℕ) : Type 0 where
  within : inside < length bytes
  labels : List (List ℕ)
  are_labels : AllByRecursion IsLabel labels
  spelled : drop inside bytes ≡ label_bytes labels ++ 0 ∷ []

-- a label, and labels and the root after it
label_first : (n : ℕ) (bytes : List ℕ) → 0 < n → n ≤ 63 → AreSpelled n bytes → AreSpelled 0 (n ∷ bytes)
label_first n bytes some few deeper =
    let l : List ℕ = take n bytes in
    let size : length l ≡ n = length-take-le n bytes (omega (arith, deeper.within)) in
    record {
      within = omega arith;
      labels = l ∷ deeper.labels;
      are_labels = ((omega arith, omega arith), deeper.are_labels);
      spelled = ap (λ bs. n ∷ bs) (sym (take-append-drop n bytes) ∙ ap (λ t. l ++ t) deeper.spelled) ∙ ap (λ k. (k ∷ l) ++ (label_bytes deeper.labels ++ 0 ∷ [])) (sym size)
          ∙ sym (append_assoc (length l ∷ l) (label_bytes deeper.labels) (0 ∷ []));
    }

-- the first byte is a root or begins a label
root_or_label_first : (n : ℕ) (bytes : List ℕ) → are_labels_and_root 0 (n ∷ bytes) ≡ true → (are_labels_and_root n bytes ≡ true → AreSpelled n bytes) → AreSpelled 0 (n ∷ bytes)
root_or_label_first n bytes h deeper =
    elim (cases_eq n 0) [
      | inl e ↦ elim (cases_eq (length bytes) 0) [
        | inl none ↦ record { within = omega arith; labels = []; are_labels = tt; spelled = ap (λ k. k ∷ bytes) e ∙ ap (λ bs. 0 ∷ bs) (nil_from_length bytes none) }
        | inr some ↦ absurd (false≢true (sym (labels-early_root n bytes e (omega arith)) ∙ h))
      ]
      | inr e ↦ elim (cases_lt 63 n) [
        | inl long ↦ absurd (false≢true (sym (labels-long n bytes long) ∙ h))
        | inr short ↦ label_first n bytes (omega arith) short (deeper (sym (labels-label n bytes (omega arith) short) ∙ h))
      ]
    ]

-- bytes that pass the test are labels and the root
are_spelled : (inside : ℕ) (bytes : List ℕ) → are_labels_and_root inside bytes ≡ true → AreSpelled inside bytes
unfolding are_labels_and_root
are_spelled zero [] h = absurd (false≢true h)
are_spelled (suc k) [] h = absurd (false≢true h)
are_spelled (suc k) (b ∷ bytes) h =
    let r = are_spelled k bytes h in
    record { within = omega (arith, r.within); labels = r.labels; are_labels = r.are_labels; spelled = r.spelled }
are_spelled zero (n ∷ bytes) h = root_or_label_first n bytes h (are_spelled n bytes)

-- the bytes of labels pass the test
label_bytes_are_labels : (labels : List (List ℕ)) → AllByRecursion IsLabel labels → AreLabels (label_bytes labels)
label_bytes_are_labels [] are more = refl
label_bytes_are_labels (l ∷ ls) are more =
    ap (λ t. are_labels_and_root 0 t) (append_assoc (length l ∷ l) (label_bytes ls) more)
    ∙ labels_with_label [] (length l) l no_labels are.0.0 are.0.1 refl (label_bytes ls ++ more) ∙ label_bytes_are_labels ls are.1 more

-- a name is labels and the root
pub names_are_labels : NamesAreLabels
names_are_labels name = (
  λ is. let r = are_spelled 0 name is.0 in (r.labels, r.are_labels, r.spelled, is.1),
  λ s. (ap (λ t. are_labels_and_root 0 t) s.2 ∙ label_bytes_are_labels s.0 s.1 (0 ∷ []) ∙ labels-root 0 [] refl refl, s.3),
)
