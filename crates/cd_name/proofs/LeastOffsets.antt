-- The least offset at which a suffix stands.
use Rattle.std.proofs.Common.{◌≡◌, ℕ, ◌<◌, min, false, List, [], ◌∷◌, ◌++◌, length, ◌⊎◌, inl, inr, Option, Some, None, Decides, refl, ap, sym, ◌∙◌, subst, arith}
use Rattle.std.specs.List.{All, AllByRecursion, Contains}
use Rattle.std.specs.Option.{option_map_or}
use Rattle.std.specs.Str.{bytes_eq}
use Rattle.std.proofs.lemmas.Bool.{cases_Bool, cases_lt, cond_both, false≢true}
use Rattle.std.proofs.lemmas.Slice.Eq.{bytes_eq-Decides}
use Rattle.std.proofs.lemmas.List.Elements.{All-head, All-tail, Contains-append_right, Contains-append_cases, Contains-push_cases}
use Rattle.cd_name.specs.WrittenNames.{Suffix, least_offset, StandsAt, IsLeastOffset}

-- what stands is the first or stands after it
pub first_or_after : (s : Suffix) (others : List Suffix) (x : Suffix) → Contains (s ∷ others) x → (s ≡ x) ⊎ Contains others x
first_or_after s others x h =
    elim (Contains-append_cases (s ∷ []) others x h) [
      | inl one ↦ elim (Contains-push_cases [] s x one) [ inl none ↦ absurd (omega (arith, none.1)) | inr e ↦ inl e ]
      | inr after ↦ inr after
    ]

-- the first one stands
pub first_stands : (s : Suffix) (others : List Suffix) → Contains (s ∷ others) s
first_stands s others = (0, omega arith, refl)

-- the least offset of a suffix, or that it does not stand
abbrev pub IsLeast : List Suffix → List ℕ → Option ℕ → Type 0
IsLeast standing name None = (offset : ℕ) → StandsAt standing name offset → ⊥
IsLeast standing name (Some offset) = IsLeastOffset standing name offset

-- a suffix that stands first stands at its offset
stands_first : (s : Suffix) (others : List Suffix) (name : List ℕ) (offset : ℕ) → name ≡ s.name → offset ≡ s.offset → StandsAt (s ∷ others) name offset
stands_first s others name offset e same =
    let P : List ℕ → Type 0 = λ n. StandsAt (s ∷ others) n offset in
    subst P (sym e) (let Q : ℕ → Type 0 = λ o. StandsAt (s ∷ others) s.name o in subst Q (sym same) (first_stands s others))

-- the offset at which the first suffix stands is its own
offset_of_first : (s : Suffix) (name : List ℕ) (offset : ℕ) → s ≡ record { name = name; offset = offset } → s.offset ≡ offset
offset_of_first s name offset e = ap (λ (x : Suffix). x.offset) e

-- where the first suffix is this one, the least offset is the lower one of its own and that after it
least_with_first : (s : Suffix) (others : List Suffix) (name : List ℕ) (found : Option ℕ) → name ≡ s.name → IsLeast others name found →
    IsLeast (s ∷ others) name (Some (option_map_or (min s.offset) found s.offset))
least_with_first s others name None e least = record {
  stands = stands_first s others name s.offset e refl;
  is_least = λ other h. elim (first_or_after s others (record { name = name; offset = other }) h) [
    | inl same ↦ omega (arith, offset_of_first s name other same)
    | inr after ↦ absurd (least other after)
  ];
}
least_with_first s others name (Some o) e least = record {
  stands = elim (cases_lt s.offset o) [
    | inl before ↦ stands_first s others name (min s.offset o) e (omega arith)
    | inr after ↦
        let is : o ≡ min s.offset o = omega arith in
        let P : ℕ → Type 0 = λ k. StandsAt (s ∷ others) name k in
        subst P is (Contains-append_right (s ∷ []) others (record { name = name; offset = o }) least.stands)
  ];
  is_least = λ other h. elim (first_or_after s others (record { name = name; offset = other }) h) [
    | inl same ↦ omega (arith, offset_of_first s name other same)
    | inr after ↦ omega (arith, least.is_least other after)
  ];
}

-- a suffix that is not the first stands after it
after_other : (s : Suffix) (others : List Suffix) (name : List ℕ) (offset : ℕ) → (name ≡ s.name → ⊥) → StandsAt (s ∷ others) name offset → StandsAt others name offset
after_other s others name offset other h =
    elim (first_or_after s others (record { name = name; offset = offset }) h) [
      | inl same ↦ absurd (other (sym (ap (λ (x : Suffix). x.name) same)))
      | inr after ↦ after
    ]

-- where the first suffix is another one, the least offset is that after it
least_without_first : (s : Suffix) (others : List Suffix) (name : List ℕ) (found : Option ℕ) → (name ≡ s.name → ⊥) → IsLeast others name found → IsLeast (s ∷ others) name found
least_without_first s others name None other least = λ offset h. least offset (after_other s others name offset other h)
least_without_first s others name (Some o) other least = record {
  stands = Contains-append_right (s ∷ []) others (record { name = name; offset = o }) least.stands;
  is_least = λ offset h. least.is_least offset (after_other s others name offset other h);
}

-- the least offset is the least, or the suffix does not stand
pub least_is_least : (standing : List Suffix) (name : List ℕ) → IsLeast standing name (least_offset standing name)
unfolding least_offset
least_is_least [] name = λ offset h. absurd (omega (arith, h.1))
least_is_least (s ∷ others) name =
    let decides : Decides (bytes_eq name s.name) (name ≡ s.name) = bytes_eq-Decides name s.name in
    cond_both (bytes_eq name s.name) (Some (option_map_or (min s.offset) (least_offset others name) s.offset)) (least_offset others name) (IsLeast (s ∷ others) name)
    (λ e. least_with_first s others name (least_offset others name) (decides.0 e) (least_is_least others name))
    (λ e. least_without_first s others name (least_offset others name) (λ same. false≢true (sym e ∙ decides.1 same)) (least_is_least others name))

-- a name is none of some suffixes
abbrev pub IsNoneOf : List ℕ → List Suffix → Type 0
IsNoneOf name suffixes = AllByRecursion (λ (s : Suffix). bytes_eq name s.name ≡ false) suffixes

-- then it does not stand
pub least_offset-none : (suffixes : List Suffix) (name : List ℕ) → IsNoneOf name suffixes → least_offset suffixes name ≡ None
unfolding least_offset
least_offset-none [] name is_none = refl
least_offset-none (s ∷ others) name is_none = rw is_none.0 (least_offset-none others name is_none.1)

-- they change nothing for it after others
pub least_offset-after : (standing suffixes : List Suffix) (name : List ℕ) → IsNoneOf name suffixes → least_offset (standing ++ suffixes) name ≡ least_offset standing name
unfolding least_offset
least_offset-after [] suffixes name is_none = least_offset-none suffixes name is_none
least_offset-after (s ∷ others) suffixes name is_none = rw (least_offset-after others suffixes name is_none) refl

-- a name is none of the suffixes that are longer
pub longer_are_others : (suffixes : List Suffix) (name : List ℕ) → All (λ (s : Suffix). length name < length s.name) suffixes → IsNoneOf name suffixes
longer_are_others [] name longer = tt
longer_are_others (s ∷ others) name longer =
    let P : Suffix → Type 0 = λ s. length name < length s.name in
    let long : length name < length s.name = All-head P s others longer in
    let other : bytes_eq name s.name ≡ false =
    elim (cases_Bool (bytes_eq name s.name)) [
      | inl same ↦ absurd (omega (arith, ap length ((bytes_eq-Decides name s.name).0 same)))
      | inr other ↦ other
    ] in (
      other,
      longer_are_others others name (All-tail P s others longer),
    )
