-- Labels and the root.
use Rattle.std.proofs.Common.{◌≡◌, ℕ, zero, suc, ◌+◌, ◌<◌, ◌≤◌, true, false, List, [], ◌∷◌, ◌++◌, length, take, drop, get_or, refl, ap, sym, ◌∙◌, arith, append_assoc, length-append, subst}
use Rattle.std.proofs.lemmas.Bool.{le-ltb, lt-ltb, eq-eqb, ne_eqb}
use Rattle.std.proofs.lemmas.List.{length-drop, length-take-le}
use Rattle.std.proofs.Math.Seq.{drop-append_seam}
use Rattle.cd_name.proofs.Bytes.{drop-byte, take-label, drop-label}
use Rattle.cd_name.specs.Names.{are_labels_and_root, IsName}

-- these bytes are labels: whatever comes after decides
abbrev pub AreLabels : List ℕ → Type 0
AreLabels labels = (more : List ℕ) → are_labels_and_root 0 (labels ++ more) ≡ are_labels_and_root 0 more

-- after the rest of a label the test goes on
pub labels-inside : (inside : ℕ) (bytes : List ℕ) → inside ≤ length bytes → are_labels_and_root inside bytes ≡ are_labels_and_root 0 (drop inside bytes)
unfolding are_labels_and_root
labels-inside zero bytes h = refl
labels-inside (suc k) [] h = absurd (omega arith)
labels-inside (suc k) (b ∷ bytes) h = labels-inside k bytes (omega arith)

-- a label with bytes missing, or nothing after it
pub labels-short : (inside : ℕ) (bytes : List ℕ) → length bytes ≤ inside → are_labels_and_root inside bytes ≡ false
unfolding are_labels_and_root
labels-short zero [] h = refl
labels-short (suc k) [] h = refl
labels-short zero (b ∷ bytes) h = absurd (omega arith)
labels-short (suc k) (b ∷ bytes) h = labels-short k bytes (omega arith)

-- a root that is the last byte
pub labels-root : (n : ℕ) (bytes : List ℕ) → n ≡ 0 → length bytes ≡ 0 → are_labels_and_root 0 (n ∷ bytes) ≡ true
unfolding are_labels_and_root
labels-root n bytes h k = rw (eq-eqb n 0 h) (eq-eqb (length bytes) 0 k)

-- bytes after the root
pub labels-early_root : (n : ℕ) (bytes : List ℕ) → n ≡ 0 → 0 < length bytes → are_labels_and_root 0 (n ∷ bytes) ≡ false
unfolding are_labels_and_root
labels-early_root n bytes h k = rw (eq-eqb n 0 h) (ne_eqb (length bytes) 0 (λ e. omega arith))

-- a length byte of 64 or more
pub labels-long : (n : ℕ) (bytes : List ℕ) → 63 < n → are_labels_and_root 0 (n ∷ bytes) ≡ false
unfolding are_labels_and_root
labels-long n bytes h = rw (ne_eqb n 0 (λ e. omega arith), lt-ltb 63 n h) refl

-- a label
pub labels-label : (n : ℕ) (bytes : List ℕ) → 0 < n → n ≤ 63 → are_labels_and_root 0 (n ∷ bytes) ≡ are_labels_and_root n bytes
unfolding are_labels_and_root
labels-label n bytes h k = rw (ne_eqb n 0 (λ e. omega arith), le-ltb 63 n k) refl

-- no labels are labels
pub no_labels : AreLabels []
no_labels more = refl

-- one label more
pub labels_with_label : (labels : List ℕ) (n : ℕ) (bytes : List ℕ) → AreLabels labels → 0 < n → n ≤ 63 → length bytes ≡ n → AreLabels (labels ++ n ∷ bytes)
labels_with_label labels n bytes are h k size more =
    let seam : drop n (bytes ++ more) ≡ more = ap (λ j. drop j (bytes ++ more)) (sym size) ∙ drop-append_seam bytes more in
    let there : n ≤ length (bytes ++ more) = omega (arith, length-append bytes more) in
    ap (λ t. are_labels_and_root 0 t) (append_assoc labels (n ∷ bytes) more) ∙ are ((n ∷ bytes) ++ more)
    ∙ labels-label n (bytes ++ more) h k ∙ labels-inside n (bytes ++ more) there ∙ ap (λ t. are_labels_and_root 0 t) seam

-- labels with the root are a name
pub labels_are_name : (labels : List ℕ) → AreLabels labels → length labels ≤ 254 → IsName (labels ++ 0 ∷ [])
labels_are_name labels are h = (are (0 ∷ []) ∙ labels-root 0 [] refl refl, omega (arith, length-append labels (0 ∷ [])))

-- a label read from a payload
pub labels_with_label_at : (p labels : List ℕ) (at n : ℕ) → AreLabels labels → 0 < n → n ≤ 63 → at + n < length p → get_or p at 0 ≡ n →
    AreLabels (labels ++ take (n + 1) (drop at p))
labels_with_label_at p labels at n are h k m e =
    let size : length (take n (drop (at + 1) p)) ≡ n = length-take-le n (drop (at + 1) p) (omega (arith, length-drop (at + 1) p)) in
    subst (λ t. AreLabels (labels ++ t)) (sym (take-label p at n e (omega arith))) (labels_with_label labels n (take n (drop (at + 1) p)) are h k size)

-- no byte at an offset
pub labels-none_at : (p : List ℕ) (at : ℕ) → length p ≤ at → are_labels_and_root 0 (drop at p) ≡ false
labels-none_at p at h = labels-short 0 (drop at p) (omega (arith, length-drop at p))

-- a label at an offset
pub labels-label_at : (p : List ℕ) (at n : ℕ) → get_or p at 0 ≡ n → 0 < n → n ≤ 63 → at + n < length p →
    are_labels_and_root 0 (drop at p) ≡ are_labels_and_root 0 (drop (at + (n + 1)) p)
labels-label_at p at n e h k m =
    let head : drop at p ≡ n ∷ drop (at + 1) p = drop-byte p at n e (omega arith) in
    let there : n ≤ length (drop (at + 1) p) = omega (arith, length-drop (at + 1) p) in
    ap (λ t. are_labels_and_root 0 t) head ∙ labels-label n (drop (at + 1) p) h k ∙ labels-inside n (drop (at + 1) p) there
    ∙ ap (λ t. are_labels_and_root 0 t) (drop-label p at n)
