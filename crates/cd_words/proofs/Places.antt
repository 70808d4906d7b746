-- The names of a command line, by their places.
use Rattle.std.proofs.Common.{◌≡◌, ◌≢◌, ℕ, ◌+◌, ◌*◌, ◌%◌, ◌/◌, ◌<◌, ◌≤◌, ltb, Bool, true, false, List, Some, sym, ap, ◌∙◌, refl, arith, is_some}
use Rattle.std.proofs.lemmas.Bool.{ltb-true, ltb-false}
use Rattle.cd_words.specs.CommandLines.{Language, word_at, IsNamedBefore, NamesOption}

-- an option that a name at an odd place names
pub named_there : {C S : Type 0} (language : Language C S) (words : List (List ℕ)) (before place : ℕ) (option : C) → before % 2 ≡ 1 → before < place →
    language.named (word_at words before) ≡ Some option → IsNamedBefore language words place option
named_there language words before place option odd there named =
    let here : before ≡ 2 * (before / 2) + 1 = omega arith in
    (before / 2, omega arith, ap (λ n. language.named (word_at words n)) (sym here) ∙ named)

-- none before the first name
pub none_named : {C S : Type 0} (language : Language C S) (words : List (List ℕ)) (option : C) → ¬ (IsNamedBefore language words 1 option)
none_named language words option named = absurd (omega (arith, named.1))

-- none before the next name
pub none_named_more : {C S : Type 0} (language : Language C S) (words : List (List ℕ)) (before : ℕ) (option : C) → before % 2 ≡ 1 →
    ¬ (IsNamedBefore language words before option) → (language.named (word_at words before) ≢ Some option) → ¬ (IsNamedBefore language words (before + 2) option)
none_named_more language words before option odd none other named = by (ltb (2 * named.0 + 1) before) refl
  where
    by : (b : Bool) → ltb (2 * named.0 + 1) before ≡ b → ⊥
    by true e = none (named.0, ltb-true (2 * named.0 + 1) before e, named.2)
    by false e =
        let below : before ≤ 2 * named.0 + 1 = ltb-false (2 * named.0 + 1) before e in
        let above : 2 * named.0 + 1 < before + 2 = named.1 in
        let here : before ≡ 2 * named.0 + 1 = omega (arith, below, above, odd) in
        other (ap (λ n. language.named (word_at words n)) here ∙ named.2)

-- none before a place that is not after those that were passed
pub none_named_before : {C S : Type 0} (language : Language C S) (words : List (List ℕ)) (place passed : ℕ) (option : C) → place ≤ passed →
    ¬ (IsNamedBefore language words passed option) → ¬ (IsNamedBefore language words place option)
none_named_before language words place passed option within none named = none (named.0, omega (arith, named.1), named.2)

-- a word that names an option is a name, where no name before it names this option
pub first_name : {C S : Type 0} (language : Language C S) (words : List (List ℕ)) (place : ℕ) (option : C) → language.named (word_at words place) ≡ Some option →
    ¬ (IsNamedBefore language words place option) → NamesOption language words place
first_name language words place option named none = record { named = ap is_some named; first = λ k there same. none (k, there, same ∙ named) }

-- and it is none, where one does
pub second_name : {C S : Type 0} (language : Language C S) (words : List (List ℕ)) (place : ℕ) (option : C) → language.named (word_at words place) ≡ Some option →
    IsNamedBefore language words place option → ¬ (NamesOption language words place)
second_name language words place option named before names = names.first before.0 before.1 (before.2 ∙ sym named)
