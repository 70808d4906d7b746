-- Words are a command line or break a rule at one place, in any language.
use Rattle.std.proofs.Common.{◌≡◌, ◌≢◌, ℕ, ◌+◌, ◌*◌, ◌<◌, ◌≤◌, ◌⊎◌, inl, inr, ltb, Bool, true, false, List, [], ◌∷◌, length, take, get_or-take, Option, Some, None, is_some, IsSomeAnd, suc, zero, refl, sym, ap, ◌∙◌, subst, arith}
use Rattle.std.specs.Str.{bytes_eq}
use Rattle.std.proofs.lemmas.Bool.{false≢true, ltb-true, ltb-false}
use Rattle.std.proofs.lemmas.List.{length-take-le, take_all}
use Rattle.std.proofs.lemmas.Slice.Eq.{bytes_eq-Decides}
use Rattle.cd_words.specs.CommandLines.{Language, word_at, HasCommand, IsNamedBefore, NamesOption, SaysValue, HasOptions, BreaksAt}
use Rattle.cd_words.specs.CommandLines.BreaksAt.{no_name, no_value}
use Rattle.cd_words.proofs.Places.{first_name, second_name}
use Rattle.cd_words.proofs.Lines.{name_of_front, value_of_front, first_line, line_more, missing_value}

-- the words break a rule of a language at this place and at no other, and are no command line of it
pub record BreaksItOnce {C S : Type 0} (language : Language C S) (words : List (List ℕ)) (place : ℕ) : Type 0 where
  pub here : BreaksAt language words place
  pub only : (other : ℕ) → BreaksAt language words other → other ≡ place
  pub outside : ¬ (HasOptions language words)

-- words are a command line of a language and break no rule of it, or break one at exactly one place and are none
abbrev pub LineOrBreak : {C S : Type 0} → Language C S → List (List ℕ) → Type 0
LineOrBreak language words = (HasOptions language words × ((place : ℕ) → ¬ (BreaksAt language words place))) ⊎ ((place : ℕ) × BreaksItOnce language words place)

-- ---- one place

-- a command line breaks no rule
no_break : {C S : Type 0} (language : Language C S) (words : List (List ℕ)) (place : ℕ) → HasOptions language words → BreaksAt language words place → ⊥
no_break language words _ line (no_name k below before other) = other (line.name k below)
no_break language words _ line (no_value k below before name other) = other (line.value k below)

-- nor does any word in a front that is one
no_break_in_front : {C S : Type 0} (language : Language C S) (words : List (List ℕ)) (n place : ℕ) → n ≤ length words → place < n → HasOptions language (take n words) → BreaksAt language words place → ⊥
no_break_in_front language words n _ within below line (no_name k there before other) =
    other (name_of_front language words n (2 * k + 1) below (line.name k (omega (arith, length-take-le n words within))))
no_break_in_front language words n _ within below line (no_value k there before name other) =
    other (value_of_front language words n (2 * k + 1) within (omega arith) (line.value k (omega (arith, length-take-le n words within))))

-- nor does a word that is a name
no_break_at_name : {C S : Type 0} (language : Language C S) (words : List (List ℕ)) (place k : ℕ) → place ≡ 2 * k + 1 → NamesOption language words place → BreaksAt language words place → ⊥
no_break_at_name language words _ k odd names (no_name j there before other) = other names
no_break_at_name language words _ k odd names (no_value j there before name other) = omega arith

-- no rule is broken before another
not_before : {C S : Type 0} (language : Language C S) (words : List (List ℕ)) (first second : ℕ) → BreaksAt language words first → first < second → BreaksAt language words second → ⊥
not_before language words first _ breaks before (no_name k there line other) = no_break_in_front language words (2 * k + 1) first (omega arith) before line breaks
not_before language words first _ breaks before (no_value k there line name other) = by (ltb first (2 * k + 1)) refl
  where
    by : (b : Bool) → ltb first (2 * k + 1) ≡ b → ⊥
    by true e = no_break_in_front language words (2 * k + 1) first (omega arith) (ltb-true first (2 * k + 1) e) line breaks
    by false e =
        let here : first ≡ 2 * k + 1 = omega (arith, ltb-false first (2 * k + 1) e) in
        let P : ℕ → Type 0 = λ p. NamesOption language words p in
        no_break_at_name language words first k here (subst P (sym here) name) breaks

-- two places are one
one_place : {C S : Type 0} (language : Language C S) (words : List (List ℕ)) (first second : ℕ) → BreaksAt language words first → BreaksAt language words second → second ≡ first
one_place language words first second a b = by (ltb first second) (ltb second first) refl refl
  where
    by : (x y : Bool) → ltb first second ≡ x → ltb second first ≡ y → second ≡ first
    by true y e f = absurd (not_before language words first second a (ltb-true first second e) b)
    by false true e f = absurd (not_before language words second first b (ltb-true second first f) a)
    by false false e f = omega (arith, ltb-false first second e, ltb-false second first f)

-- ---- one or the other

-- each word says a value of an option or does not, and two options are the same or not
pub record IsDecided {C S : Type 0} (language : Language C S) : Type 0 where
  pub says : (option : C) (word : List ℕ) → language.Says option word ⊎ ¬ (language.Says option word)
  pub same : (first second : C) → (first ≡ second) ⊎ (first ≢ second)

-- a word that may name an option names this one or not
is_it_or_not : {C S : Type 0} (language : Language C S) → IsDecided language → (o : Option C) (option : C) → (o ≡ Some option) ⊎ (o ≢ Some option)
is_it_or_not language decided None option = inr (λ e. absurd (cc))
is_it_or_not language decided (Some other) option =
    elim (decided.same other option) [ inl same ↦ inl (ap Some same) | inr apart ↦ inr (λ e. apart (some_same e)) ]
  where
    some_same : Some other ≡ Some option → other ≡ option
    some_same e = cc

-- one of so many first names names an option, or none does
among_or_not : {C S : Type 0} (language : Language C S) → IsDecided language → (words : List (List ℕ)) (option : C) (n : ℕ) →
    IsNamedBefore language words (2 * n) option ⊎ ¬ (IsNamedBefore language words (2 * n) option)
among_or_not language decided words option zero = inr (λ named. absurd (omega (arith, named.1)))
among_or_not language decided words option (suc n) =
    by (among_or_not language decided words option n) (is_it_or_not language decided (language.named (word_at words (2 * n + 1))) option)
  where
    by : IsNamedBefore language words (2 * n) option ⊎ ¬ (IsNamedBefore language words (2 * n) option) →
        (language.named (word_at words (2 * n + 1)) ≡ Some option) ⊎ (language.named (word_at words (2 * n + 1)) ≢ Some option) →
        IsNamedBefore language words (2 * suc n) option ⊎ ¬ (IsNamedBefore language words (2 * suc n) option)
    by (inl named) it = inl (named.0, omega (arith, named.1), named.2)
    by (inr none) (inl it) = inl (n, omega arith, it)
    by (inr none) (inr other) = inr (λ named. last named (ltb (2 * named.0 + 1) (2 * n)) refl)
      where
        last : (named : IsNamedBefore language words (2 * suc n) option) (b : Bool) → ltb (2 * named.0 + 1) (2 * n) ≡ b → ⊥
        last named true e = none (named.0, ltb-true (2 * named.0 + 1) (2 * n) e, named.2)
        last named false e =
            let here : n ≡ named.0 = omega (arith, named.1, ltb-false (2 * named.0 + 1) (2 * n) e) in
            other (ap (λ k. language.named (word_at words (2 * k + 1))) here ∙ named.2)

-- the word at an odd place is a name or not
names_or_not : {C S : Type 0} (language : Language C S) → IsDecided language → (words : List (List ℕ)) (j : ℕ) →
    NamesOption language words (2 * j + 1) ⊎ ¬ (NamesOption language words (2 * j + 1))
names_or_not {C} language decided words j = by (language.named (word_at words (2 * j + 1))) refl
  where
    by : (o : Option C) → language.named (word_at words (2 * j + 1)) ≡ o → NamesOption language words (2 * j + 1) ⊎ ¬ (NamesOption language words (2 * j + 1))
    by None e = inr (λ names. false≢true (ap is_some (sym e) ∙ names.named))
    by (Some option) e = elim (among_or_not language decided words option j) [
      | inl named ↦ inr (second_name language words (2 * j + 1) option e (named.0, omega (arith, named.1), named.2))
      | inr none ↦ inl (first_name language words (2 * j + 1) option e (λ named. none (named.0, omega (arith, named.1), named.2)))
    ]

-- the word after a name says a value of an option that may be named
abbrev Said : {C S : Type 0} → Language C S → List (List ℕ) → ℕ → Option C → Type 0
Said language words place o = IsSomeAnd o (λ option. language.Says option (word_at words (place + 1)))

-- the word after a name says a value or not
value_or_not : {C S : Type 0} (language : Language C S) → IsDecided language → (words : List (List ℕ)) (place : ℕ) → SaysValue language words place ⊎ ¬ (SaysValue language words place)
value_or_not {C} language decided words place = by (ltb (place + 1) (length words)) refl (said (language.named (word_at words place)))
  where
    said : (o : Option C) → Said language words place o ⊎ ¬ (Said language words place o)
    said None = inr (λ h. h)
    said (Some option) = decided.says option (word_at words (place + 1))

    by : (b : Bool) → ltb (place + 1) (length words) ≡ b → Said language words place (language.named (word_at words place)) ⊎ ¬ (Said language words place (language.named (word_at words place))) →
        SaysValue language words place ⊎ ¬ (SaysValue language words place)
    by true e (inl says) = inl (record { there = ltb-true (place + 1) (length words) e; said = says })
    by true e (inr other) = inr (λ value. other value.said)
    by false e says = inr (missing_value language words place (ltb-false (place + 1) (length words) e))

-- words are a command line or break a rule
abbrev Judged : {C S : Type 0} → Language C S → List (List ℕ) → Type 0
Judged language words = HasOptions language words ⊎ ((place : ℕ) × BreaksAt language words place)

-- a front that is a command line is all, or a rule is broken after it, or it goes on by an option and its value
abbrev Longer : {C S : Type 0} → Language C S → List (List ℕ) → ℕ → Type 0
Longer language words k = (2 * k + 1 ≤ length words) × HasOptions language (take (2 * k + 1) words)

all_or_longer : {C S : Type 0} (language : Language C S) → IsDecided language → (words : List (List ℕ)) (k : ℕ) → 2 * k + 1 ≤ length words → HasOptions language (take (2 * k + 1) words) → Judged language words ⊎ Longer language words (k + 1)
all_or_longer language decided words k within line = by (ltb (2 * k + 1) (length words)) refl
  where
    by : (b : Bool) → ltb (2 * k + 1) (length words) ≡ b → Judged language words ⊎ Longer language words (k + 1)
    by false e =
        let all : take (2 * k + 1) words ≡ words = take_all (2 * k + 1) words (ltb-false (2 * k + 1) (length words) e) in
        let P : List (List ℕ) → Type 0 = λ ws. HasOptions language ws in
        inl (inl (subst P all line))
    by true e = named (ltb-true (2 * k + 1) (length words) e) (names_or_not language decided words k) (value_or_not language decided words (2 * k + 1))
      where
        named : 2 * k + 1 < length words → NamesOption language words (2 * k + 1) ⊎ ¬ (NamesOption language words (2 * k + 1)) → SaysValue language words (2 * k + 1) ⊎ ¬ (SaysValue language words (2 * k + 1)) →
            Judged language words ⊎ Longer language words (k + 1)
        named below (inr other) value = inl (inr (2 * k + 1, no_name k below line other))
        named below (inl name) (inr other) = inl (inr (2 * k + 2, no_value k below line name other))
        named below (inl name) (inl value) = longer (ltb (2 * k + 1 + 1) (length words)) refl
          where
            longer : (b : Bool) → ltb (2 * k + 1 + 1) (length words) ≡ b → Judged language words ⊎ Longer language words (k + 1)
            longer false f = absurd (missing_value language words (2 * k + 1) (ltb-false (2 * k + 1 + 1) (length words) f) value)
            longer true f =
                let there : 2 * k + 1 + 1 < length words = ltb-true (2 * k + 1 + 1) (length words) f in
                let next : 2 * k + 1 + 2 ≡ 2 * (k + 1) + 1 = omega arith in
                let P : ℕ → Type 0 = λ n. HasOptions language (take n words) in
                inr (omega arith, subst P next (line_more language words (2 * k + 1) k refl line name value))

-- so each list of words is judged
judge : {C S : Type 0} (language : Language C S) → IsDecided language → (steps : ℕ) (words : List (List ℕ)) (k : ℕ) → length words ≤ 2 * k + 1 + steps → 2 * k + 1 ≤ length words → HasOptions language (take (2 * k + 1) words) → Judged language words
judge language decided zero words k most within line =
    let all : take (2 * k + 1) words ≡ words = take_all (2 * k + 1) words (omega arith) in
    let P : List (List ℕ) → Type 0 = λ ws. HasOptions language ws in
    inl (subst P all line)
judge language decided (suc steps) words k most within line =
    elim (all_or_longer language decided words k within line) [ inl judged ↦ judged | inr more ↦ judge language decided steps words (k + 1) (omega arith) more.0 more.1 ]

-- words that break a rule at a place
broken : {C S : Type 0} (language : Language C S) (words : List (List ℕ)) (place : ℕ) → BreaksAt language words place → BreaksItOnce language words place
broken language words place breaks = record { here = breaks; only = λ other there. one_place language words place other breaks there; outside = λ line. no_break language words place line breaks }

-- the words begin with a command or not
pub command_or_not : (command : List ℕ) (words : List (List ℕ)) → HasCommand command words ⊎ ¬ (HasCommand command words)
command_or_not command [] = inr (λ has. absurd (omega (arith, has.0)))
command_or_not command (word ∷ words) = by (bytes_eq word command) refl
  where
    by : (b : Bool) → bytes_eq word command ≡ b → HasCommand command (word ∷ words) ⊎ ¬ (HasCommand command (word ∷ words))
    by true e = inl (omega arith, (bytes_eq-Decides word command).0 e)
    by false e = inr (λ has. false≢true (sym e ∙ (bytes_eq-Decides word command).1 has.1))

-- one or the other, at one place, where the language is decided
pub line_or_break : {C S : Type 0} (language : Language C S) → IsDecided language → (words : List (List ℕ)) → 0 < length words → LineOrBreak language words
line_or_break language decided words there =
    elim (judge language decided (length words) words 0 (omega arith) (omega arith) (first_line language words there)) [
      | inl line ↦ inl (line, λ place breaks. no_break language words place line breaks)
      | inr breaks ↦ inr (breaks.0, broken language words breaks.0 breaks.1)
    ]
