-- The steps in which a name is written.
use Rattle.std.proofs.Common.{◌≡◌, ℕ, suc, ◌+◌, ◌<◌, List, [], ◌∷◌, ◌++◌, inl, inr, Some, None, length, refl, ap, sym, ◌∙◌, subst, arith, append_assoc, add-zero}
use Rattle.std.specs.List.{Contains}
use Rattle.std.proofs.lemmas.Bool.{cases_lt, eq-eqb, ne_eqb, lt-ltb, le-ltb}
use Rattle.cd_name.specs.WrittenNames.{Suffix, Written, least_offset, pointer_to, suffix_at, only_bytes, label_then, name_from}
use Rattle.cd_name.proofs.LeastOffsets.{first_or_after, first_stands}

-- a suffix comes to stand at an offset to which a pointer can lead
pub suffix_at-near : (name : List ℕ) (at : ℕ) → at < 16384 → suffix_at name at ≡ record { name = name; offset = at } ∷ []
suffix_at-near name at near = rw (lt-ltb at 16384 near) refl

-- the suffix at an offset comes to stand there, if a pointer can lead there
pub suffix_at_has : (s : Suffix) (name : List ℕ) (at : ℕ) → s.name ≡ name → s.offset ≡ at → s.offset < 16384 → Contains (suffix_at name at) s
suffix_at_has s name at n o near =
    let own : Contains (suffix_at s.name s.offset) s = rw (lt-ltb s.offset 16384 near) (first_stands s []) in
    let P : List ℕ → Type 0 = λ t. Contains (suffix_at t at) s in
    let Q : ℕ → Type 0 = λ k. Contains (suffix_at s.name k) s in
    subst P n (subst Q o own)

-- no other does
pub suffix_at_only : (s : Suffix) (name : List ℕ) (at : ℕ) → Contains (suffix_at name at) s → (s.name ≡ name) × (s.offset ≡ at) × (s.offset < 16384)
suffix_at_only s name at h =
    elim (cases_lt at 16384) [
      | inl near ↦
          let here : Suffix = record { name = name; offset = at } in
          let h2 : Contains (here ∷ []) s = rw (lt-ltb at 16384 near) at h in
          elim (first_or_after here [] s h2) [
            | inl e ↦ (sym (ap (λ (x : Suffix). x.name) e), sym (ap (λ (x : Suffix). x.offset) e), omega (arith, ap (λ (x : Suffix). x.offset) e))
            | inr none ↦ absurd (omega (arith, none.1))
          ]
      | inr far ↦
          let h2 : Contains [] s = rw (le-ltb at 16384 far) at h in
          absurd (omega (arith, h2.1))
    ]

-- bytes and suffixes before what is written
abbrev pub written_before : List ℕ → List Suffix → Written → Written
written_before bytes suffixes w = record { bytes = bytes ++ w.bytes; suffixes = suffixes ++ w.suffixes }

-- bytes and suffixes before others are those of both
pub written_before-twice : (a b : List ℕ) (s t : List Suffix) (w : Written) → written_before a s (written_before b t w) ≡ written_before (a ++ b) (s ++ t) w
written_before-twice a b s t w =
    ap (λ (bytes : List ℕ). record { bytes = bytes; suffixes = s ++ (t ++ w.suffixes) }) (sym (append_assoc a b w.bytes))
    ∙ ap (λ (suffixes : List Suffix). record { bytes = (a ++ b) ++ w.bytes; suffixes = suffixes }) (sym (append_assoc s t w.suffixes))

-- a root is written as it is
pub name_from-root : (standing : List Suffix) (at n : ℕ) (bytes : List ℕ) → n ≡ 0 → name_from standing at 0 (n ∷ bytes) ≡ only_bytes (n ∷ bytes)
unfolding name_from
name_from-root standing at n bytes h = rw (eq-eqb n 0 h) refl

-- a suffix that stands is written as a pointer
pub name_from-standing : (standing : List Suffix) (at n offset : ℕ) (bytes : List ℕ) → 0 < n → least_offset standing (n ∷ bytes) ≡ Some offset →
    name_from standing at 0 (n ∷ bytes) ≡ only_bytes (pointer_to offset)
unfolding name_from
name_from-standing standing at n offset bytes some stands = rw (ne_eqb n 0 (λ z. omega arith), stands) refl

-- the bytes of a label are written as they are
name_from-inside : (standing : List Suffix) (at : ℕ) (l more : List ℕ) → name_from standing at (length l) (l ++ more) ≡ written_before l [] (name_from standing (at + length l) 0 more)
unfolding name_from
name_from-inside standing at [] more = ap (λ k. name_from standing k 0 more) (sym (add-zero at))
name_from-inside standing at (b ∷ l) more =
    let place : at + 1 + length l ≡ at + suc (length l) = omega arith in
    ap (λ w. written_before (b ∷ []) [] w) (name_from-inside standing (at + 1) l more) ∙ ap (λ k. written_before (b ∷ l) [] (name_from standing k 0 more)) place

-- a label is written before what is after it if no suffix that stands begins with it
pub name_from-label : (standing : List Suffix) (at : ℕ) (l more : List ℕ) → 0 < length l → least_offset standing ((length l ∷ l) ++ more) ≡ None →
    name_from standing at 0 ((length l ∷ l) ++ more)
    ≡ written_before (length l ∷ l) (suffix_at ((length l ∷ l) ++ more) at) (name_from standing (at + length (length l ∷ l)) 0 more)
unfolding name_from
name_from-label standing at l more some none =
    let first : List Suffix = suffix_at ((length l ∷ l) ++ more) at in
    let place : at + 1 + length l ≡ at + length (length l ∷ l) = omega arith in
    rw (ne_eqb (length l) 0 (λ e. omega arith), none)
    (ap (λ w. label_then first (length l) w) (name_from-inside standing (at + 1) l more) ∙ ap (λ k. label_then first (length l) (written_before l [] (name_from standing k 0 more))) place)

-- the same of bytes that are a label and of all from it on
pub name_from-label_of : (standing : List Suffix) (at : ℕ) (name first l more : List ℕ) → name ≡ first ++ more → first ≡ length l ∷ l → 0 < length l →
    least_offset standing name ≡ None → name_from standing at 0 name ≡ written_before first (suffix_at name at) (name_from standing (at + length first) 0 more)
name_from-label_of standing at name first l more is_all is_label some =
    let P : List ℕ → List ℕ → Type 0 = λ n f. least_offset standing n ≡ None → name_from standing at 0 n ≡ written_before f (suffix_at n at) (name_from standing (at + length f) 0 more) in
    let Q : List ℕ → Type 0 = λ n. P n first in
    let R : List ℕ → Type 0 = λ f. P (f ++ more) f in
    subst Q (sym is_all) (subst R (sym is_label) (name_from-label standing at l more some))
