-- Where a name without pointers ends.
use Rattle.std.proofs.Common.{◌≡◌, ◌↔◌, ℕ, zero, suc, ◌<◌, ◌≤◌, true, List, [], ◌∷◌, length, take, eqb, Bool, IsTrue, Option, Some, None, refl, ap, sym, subst, ◌∙◌, arith, inl, inr}
use Rattle.std.specs.Option.{option_map, option_and_then, option_eq}
use Rattle.std.proofs.lemmas.Bool.{le-ltb, lt-ltb, eq-eqb, ne_eqb, eqb-true, cases_eq, cases_lt, false≢true}
use Rattle.std.proofs.lemmas.List.{length-take-le, take_all}
use Rattle.cd_name.specs.Names.{are_labels_and_root, IsName}
use Rattle.cd_name.specs.NameSizes.{size_from, name_size, at_most_255, NameSizesAreExact}
use Rattle.cd_name.proofs.Labels.{labels-short, labels-root, labels-early_root, labels-long, labels-label}

-- so many of the bytes, which begin with so many bytes of a label, are labels and the root
abbrev pub AreLabelsAndRoot : ℕ → List ℕ → ℕ → Type 0
AreLabelsAndRoot inside bytes n = (n ≤ length bytes) × (are_labels_and_root inside (take n bytes) ≡ true)

-- one byte more
one_more : (r : Option ℕ) (n : ℕ) → (option_map suc r ≡ Some (suc n)) ↔ (r ≡ Some n)
one_more None n = (λ e. cc, λ e. cc)
one_more (Some m) n = (λ e. cc, λ e. cc)

-- at least one byte
not_none : (r : Option ℕ) → option_map suc r ≡ Some 0 → ⊥
not_none None e = cc
not_none (Some m) e = cc

-- a root
pub size-root : (n : ℕ) (bytes : List ℕ) → n ≡ 0 → size_from 0 (n ∷ bytes) ≡ Some 1
unfolding size_from
size-root n bytes h = rw (eq-eqb n 0 h) refl

-- a length byte of 64 or more
pub size-long : (n : ℕ) (bytes : List ℕ) → 63 < n → size_from 0 (n ∷ bytes) ≡ None
unfolding size_from
size-long n bytes h = rw (ne_eqb n 0 (λ e. omega arith), lt-ltb 63 n h) refl

-- a label
pub size-label : (n : ℕ) (bytes : List ℕ) → 0 < n → n ≤ 63 → size_from 0 (n ∷ bytes) ≡ option_map suc (size_from n bytes)
unfolding size_from
size-label n bytes h k = rw (ne_eqb n 0 (λ e. omega arith), le-ltb 63 n k) refl

-- one option holds one number
same_number : (m n : ℕ) → Some m ≡ Some n → m ≡ n
same_number m n e = cc

-- none is not some
none_some : (n : ℕ) → None ≡ Some n → ⊥
none_some n e = cc

-- a name has a byte
size_zero : (b : ℕ) (bytes : List ℕ) → size_from 0 (b ∷ bytes) ≡ Some 0 → ⊥
size_zero b bytes e =
    elim (cases_eq b 0) [
      | inl root ↦ absurd (omega (arith, same_number 1 0 (sym (size-root b bytes root) ∙ e)))
      | inr some ↦ elim (cases_lt 63 b) [
        | inl long ↦ none_some 0 (sym (size-long b bytes long) ∙ e)
        | inr short ↦ not_none (size_from b bytes) (sym (size-label b bytes (omega arith) short) ∙ e)
      ]
    ]

-- the first byte is a root or begins a label
size_at_first : (b : ℕ) (bytes : List ℕ) (n : ℕ) → ((size_from b bytes ≡ Some n) ↔ AreLabelsAndRoot b bytes n) →
    (size_from 0 (b ∷ bytes) ≡ Some (suc n)) ↔ AreLabelsAndRoot 0 (b ∷ bytes) (suc n)
size_at_first b bytes n deeper =
    elim (cases_eq b 0) [
      | inl root ↦ (
        λ e. let one : 1 ≡ suc n = same_number 1 (suc n) (sym (size-root b bytes root) ∙ e) in
            (omega arith, labels-root b (take n bytes) root (omega (arith, length-take-le n bytes (omega arith)))),
        λ r. elim (cases_eq n 0) [
          | inl none ↦ size-root b bytes root ∙ ap (λ k. Some (suc k)) (sym none)
          | inr some ↦ absurd (false≢true (sym (labels-early_root b (take n bytes) root (omega (arith, r.0, length-take-le n bytes))) ∙ r.1))
        ],
      )
      | inr some ↦ elim (cases_lt 63 b) [
        | inl long ↦ (λ e. absurd (none_some (suc n) (sym (size-long b bytes long) ∙ e)), λ r. absurd (false≢true (sym (labels-long b (take n bytes) long) ∙ r.1)))
        | inr short ↦ (
          λ e. let d = deeper.0 ((one_more (size_from b bytes) n).0 (sym (size-label b bytes (omega arith) short) ∙ e)) in
              (omega (arith, d.0), labels-label b (take n bytes) (omega arith) short ∙ d.1),
          λ r. size-label b bytes (omega arith) short ∙ (one_more (size_from b bytes) n).1 (deeper.1 (omega (arith, r.0), sym (labels-label b (take n bytes) (omega arith) short) ∙ r.1)),
        )
      ]
    ]

-- no bytes are labels and the root
not_without_bytes : (inside n : ℕ) → AreLabelsAndRoot inside [] n → ⊥
not_without_bytes inside n r = false≢true (sym (labels-short inside (take n []) (omega (arith, length-take-le {A = ℕ} n [] r.0, r.0))) ∙ r.1)

-- it is the number of bytes of labels and the root
pub size_is_exact : (inside : ℕ) (bytes : List ℕ) (n : ℕ) → (size_from inside bytes ≡ Some n) ↔ AreLabelsAndRoot inside bytes n
unfolding size_from are_labels_and_root
size_is_exact zero [] n = (λ e. absurd (none_some n e), λ r. absurd (not_without_bytes zero n r))
size_is_exact (suc k) [] n = (λ e. absurd (none_some n e), λ r. absurd (not_without_bytes (suc k) n r))
size_is_exact (suc k) (b ∷ bytes) zero = (λ e. absurd (not_none (size_from k bytes) e), λ r. absurd (false≢true r.1))
size_is_exact (suc k) (b ∷ bytes) (suc n) =
    let d = size_is_exact k bytes n in
    let m = one_more (size_from k bytes) n in
    (λ e. let r = d.0 (m.0 e) in (omega (arith, r.0), r.1), λ r. m.1 (d.1 (omega (arith, r.0), r.1)))
size_is_exact zero (b ∷ bytes) zero = (λ e. absurd (size_zero b bytes e), λ r. absurd (false≢true r.1))
size_is_exact zero (b ∷ bytes) (suc n) = size_at_first b bytes n (size_is_exact b bytes n)

-- a number of at most 255
few : (r : Option ℕ) (n : ℕ) → (option_and_then at_most_255 r ≡ Some n) ↔ ((r ≡ Some n) × (n ≤ 255))
few None n = (λ e. cc, λ r. cc)
few (Some m) n =
    elim (cases_lt 255 m) [
      | inl many ↦ (
        λ e. let f : None ≡ Some n = rw (lt-ltb 255 m many) at e in absurd (none_some n f),
        λ r. absurd (omega (arith, same_number m n r.0, r.1)),
      )
      | inr small ↦ (
        λ e. let f : Some m ≡ Some n = rw (le-ltb 255 m small) at e in (f, omega (arith, same_number m n f)),
        λ r. rw (le-ltb 255 m small) r.0,
      )
    ]

-- it is the number of bytes of a name at the front exactly if there is one
pub name_sizes_are_exact : NameSizesAreExact
name_sizes_are_exact bytes n =
    let few = few (size_from 0 bytes) n in
    let exact = size_is_exact 0 bytes n in (
      λ e. let f = few.0 e in let r = exact.0 f.0 in (r.0, (r.1, omega (arith, f.1, length-take-le n bytes r.0))),
      λ r. few.1 (exact.1 (r.0, r.1.0), omega (arith, r.1.1, length-take-le n bytes r.0)),
    )

-- a test of a number that may be there
number_is : (r : Option ℕ) (n : ℕ) → (option_eq eqb r (Some n) ≡ true) ↔ (r ≡ Some n)
number_is None n = (λ e. absurd (false≢true e), λ e. absurd (none_some n e))
number_is (Some m) n = (λ e. ap Some (eqb-true m n e), λ e. eq-eqb m n (same_number m n e))

-- bytes are a name if a name at their front has all of them
pub whole_is_name : (bytes : List ℕ) (size : Option ℕ) (test : Bool) → size ≡ name_size bytes → test ≡ option_eq eqb size (Some (length bytes)) → IsTrue test ↔ IsName bytes
whole_is_name bytes size test is says =
    let whole : take (length bytes) bytes ≡ bytes = take_all (length bytes) bytes (omega arith) in
    let exact = name_sizes_are_exact bytes (length bytes) in
    let decides = number_is size (length bytes) in
    (λ t. subst IsName whole (exact.0 (sym is ∙ decides.0 (sym says ∙ t))).1, λ n. says ∙ decides.1 (is ∙ exact.1 (omega arith, subst IsName (sym whole) n)))
