-- A name stays a name in lower case.
use Rattle.std.proofs.Common.{◌≡◌, ℕ, zero, suc, ◌<◌, ◌≤◌, List, [], ◌∷◌, length, map, refl, ap, sym, ◌∙◌, arith, inl, inr}
use Rattle.std.proofs.lemmas.Bool.{le-ltb, cases_eq, cases_lt}
use Rattle.std.proofs.lemmas.List.{length-map}
use Rattle.cd_name.specs.Names.{are_labels_and_root, IsName, lower_case}
use Rattle.cd_name.proofs.Labels.{labels-root, labels-early_root, labels-long, labels-label}

-- bytes up to 64 stay
low : (n : ℕ) → n ≤ 64 → lower_case n ≡ n
low n h = rw (le-ltb 64 n h) refl

-- no byte becomes a length byte of a label
high : (n : ℕ) → 63 < n → 63 < lower_case n
high n h = grind arith

-- the first byte
label_in_lower_case : (n : ℕ) (bytes : List ℕ) → (are_labels_and_root n (map lower_case bytes) ≡ are_labels_and_root n bytes) →
    are_labels_and_root 0 (lower_case n ∷ map lower_case bytes) ≡ are_labels_and_root 0 (n ∷ bytes)
label_in_lower_case n bytes deeper =
    let size : length (map lower_case bytes) ≡ length bytes = length-map bytes lower_case in
    elim (cases_lt 63 n) [
      | inl long ↦ labels-long (lower_case n) (map lower_case bytes) (high n long) ∙ sym (labels-long n bytes long)
      | inr short ↦ ap (λ k. are_labels_and_root 0 (k ∷ map lower_case bytes)) (low n (omega arith)) ∙
          elim (cases_eq n 0) [
            | inl root ↦ (elim (cases_eq (length bytes) 0) [
              | inl none ↦ labels-root n (map lower_case bytes) root (size ∙ none) ∙ sym (labels-root n bytes root none)
              | inr some ↦ labels-early_root n (map lower_case bytes) root (omega arith) ∙ sym (labels-early_root n bytes root (omega arith))
            ])
            | inr other ↦ labels-label n (map lower_case bytes) (omega arith) short ∙ deeper ∙ sym (labels-label n bytes (omega arith) short)
          ]
    ]

-- the test answers as before
labels_in_lower_case : (inside : ℕ) (bytes : List ℕ) → are_labels_and_root inside (map lower_case bytes) ≡ are_labels_and_root inside bytes
unfolding are_labels_and_root
labels_in_lower_case zero [] = refl
labels_in_lower_case (suc k) [] = refl
labels_in_lower_case (suc k) (b ∷ bytes) = labels_in_lower_case k bytes
labels_in_lower_case zero (n ∷ bytes) = label_in_lower_case n bytes (labels_in_lower_case n bytes)

-- a name in lower case is a name
pub lower_case_is_name : (name new : List ℕ) → new ≡ map lower_case name → IsName name → IsName new
lower_case_is_name name new e is =
    (ap (λ t. are_labels_and_root 0 t) e ∙ labels_in_lower_case 0 name ∙ is.0, omega (arith, ap length e, length-map name lower_case, is.1))
