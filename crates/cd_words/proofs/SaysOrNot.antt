-- A word says a value of an option of a command or does not.
use Rattle.std.proofs.Common.{◌≡◌, ◌≢◌, ℕ, ◌<◌, ◌≤◌, ◌⊎◌, inl, inr, leb, true, false, List, Option, Some, None, IsSome, IsSomeAnd, refl, arith}
use Rattle.std.specs.Int.{bit_at}
use Rattle.std.proofs.lemmas.Bool.{false≢true}
use Rattle.std.proofs.lemmas.Bool.Decides.{eqb_tells, leb_tells}
use Rattle.cd_hints.specs.declared.settings.interval.Interval.{Interval}
use Rattle.cd_hints.specs.declared.settings.options.NumberOption.{NumberOption}
use Rattle.cd_hints.specs.declared.settings.options.NumberOption.TheVariants.{Ticks, QrHints, SigHints}
use Rattle.cd_hints.specs.Options.{Admits, IsAllowed, option_range, list_range}
use Rattle.cd_words.specs.declared.compact_option.CompactOption.{CompactOption}
use Rattle.cd_words.specs.declared.compact_option.CompactOption.TheVariants.{Number, Parts}
use Rattle.cd_words.specs.declared.drill_option.DrillOption.{DrillOption}
use Rattle.cd_words.specs.declared.reading_option.ReadingOption.{ReadingOption}
use Rattle.cd_words.specs.Drill.{drill_range, DrillSays}
use Rattle.cd_words.specs.Numbers.{number_of, IsIn, SaysNumber}
use Rattle.cd_words.specs.Parts.{parts_of}
use Rattle.cd_words.specs.Options.{Says}
use Rattle.cd_words.specs.Reading.{number_option, ReadingSays}

-- two numbers are equal or not
equal_or_not : (a b : ℕ) → (a ≡ b) ⊎ (a ≢ b)
equal_or_not a b = elim (eqb_tells a b) [ inl h ↦ inl h.1 | inr h ↦ inr h.1 ]

-- one of two facts holds or none
either_or_not : (A B : Type 0) → A ⊎ ¬ A → B ⊎ ¬ B → (A ⊎ B) ⊎ ¬ (A ⊎ B)
either_or_not A B (inl a) b = inl (inl a)
either_or_not A B (inr a) (inl b) = inl (inr b)
either_or_not A B (inr a) (inr b) = inr (λ h. elim h [ inl x ↦ a x | inr y ↦ b y ])

-- what a range does not say of a number holds or not
allowed_or_not : (option : NumberOption) (n : ℕ) → IsAllowed option n ⊎ ¬ (IsAllowed option n)
allowed_or_not Ticks n = either_or_not (n ≡ 1000000) (n ≡ 1000000000) (equal_or_not n 1000000) (equal_or_not n 1000000000)
allowed_or_not QrHints n = equal_or_not (bit_at n 10) 0
allowed_or_not SigHints n = equal_or_not (bit_at n 3) 0
allowed_or_not _ n = inl tt

-- an option may say a number or not
admits_or_not : (option : NumberOption) (n : ℕ) → Admits option n ⊎ ¬ (Admits option n)
admits_or_not option n = by (leb_tells (option_range option).least n) (leb_tells n (option_range option).most) (allowed_or_not option n)
  where
    by : ((leb (option_range option).least n ≡ true) × ((option_range option).least ≤ n)) ⊎ ((leb (option_range option).least n ≡ false) × (n < (option_range option).least)) →
        ((leb n (option_range option).most ≡ true) × (n ≤ (option_range option).most)) ⊎ ((leb n (option_range option).most ≡ false) × ((option_range option).most < n)) →
        IsAllowed option n ⊎ ¬ (IsAllowed option n) → Admits option n ⊎ ¬ (Admits option n)
    by (inl least) (inl most) (inl allowed) = inl (record { least = least.1; most = most.1; allowed = allowed })
    by (inl least) (inl most) (inr other) = inr (λ a. other a.allowed)
    by (inl least) (inr above) allowed = inr (λ a. absurd (omega (arith, above.1, a.most)))
    by (inr below) most allowed = inr (λ a. absurd (omega (arith, below.1, a.least)))

-- a word says a number that an option may say or does not
number_or_not : (option : NumberOption) (word : List ℕ) → SaysNumber option word ⊎ ¬ (SaysNumber option word)
number_or_not option word = by (number_of word)
  where
    by : (o : Option ℕ) → IsSomeAnd o (Admits option) ⊎ ¬ (IsSomeAnd o (Admits option))
    by None = inr (λ h. h)
    by (Some n) = admits_or_not option n

-- a word says a value of an option of `compact` or not
pub says_or_not : (option : CompactOption) (word : List ℕ) → Says option word ⊎ ¬ (Says option word)
says_or_not (Number option) word = number_or_not option word
says_or_not (Parts option) word = by (parts_of (list_range option) word)
  where
    by : (o : Option (List Interval)) → IsSome o ⊎ ¬ (IsSome o)
    by None = inr (λ h. false≢true h)
    by (Some parts) = inl refl

-- a word says a value of an option of `check` and `inspect` or not
pub reading_says_or_not : (option : ReadingOption) (word : List ℕ) → ReadingSays option word ⊎ ¬ (ReadingSays option word)
reading_says_or_not option word = number_or_not (number_option option) word

-- a number is one of a range or not
in_or_not : (range : Interval) (n : ℕ) → IsIn range n ⊎ ¬ (IsIn range n)
in_or_not range n = by (leb_tells range.least n) (leb_tells n range.most)
  where
    by : ((leb range.least n ≡ true) × (range.least ≤ n)) ⊎ ((leb range.least n ≡ false) × (n < range.least)) →
        ((leb n range.most ≡ true) × (n ≤ range.most)) ⊎ ((leb n range.most ≡ false) × (range.most < n)) → IsIn range n ⊎ ¬ (IsIn range n)
    by (inl least) (inl most) = inl (record { least = least.1; most = most.1 })
    by (inl least) (inr above) = inr (λ h. absurd (omega (arith, above.1, h.most)))
    by (inr below) most = inr (λ h. absurd (omega (arith, below.1, h.least)))

-- a word says a value of an option of `drill` or not
pub drill_says_or_not : (option : DrillOption) (word : List ℕ) → DrillSays option word ⊎ ¬ (DrillSays option word)
drill_says_or_not option word = by (number_of word)
  where
    by : (o : Option ℕ) → IsSomeAnd o (IsIn (drill_range option)) ⊎ ¬ (IsSomeAnd o (IsIn (drill_range option)))
    by None = inr (λ h. h)
    by (Some n) = in_or_not (drill_range option) n
