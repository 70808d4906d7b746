-- Command lines that grow by an option and its value, in any language.
use Rattle.std.proofs.Common.{◌≡◌, ℕ, ◌+◌, ◌*◌, ◌<◌, ◌≤◌, List, [], ◌∷◌, ◌++◌, length, take, drop, get_or-take, Some, refl, sym, ap, ◌∙◌, subst, arith, suc, zero, ltb, Bool, true, false, append_assoc}
use Rattle.std.proofs.lemmas.Bool.{ltb-true, ltb-false}
use Rattle.std.proofs.lemmas.List.{length-take-le, take_more}
use Rattle.std.specs.Option.{option_map_or}
use Rattle.cd_words.specs.CommandLines.{Language, word_at, NamesOption, SaysValue, HasOptions, BreaksAt, settings_from, settings_of}
use Rattle.cd_words.specs.CommandLines.BreaksAt.{no_name, no_value}

-- a name among the first words is one among all
pub name_of_front : {C S : Type 0} (language : Language C S) (words : List (List ℕ)) (n place : ℕ) → place < n → NamesOption language (take n words) place → NamesOption language words place
name_of_front language words n place below names = record {
  named = rw (← get_or-take n words place [] below) names.named;
  first = λ k under same.
      names.first k under
      (ap language.named (get_or-take n words (2 * k + 1) [] (omega arith)) ∙ same ∙ sym (ap language.named (get_or-take n words place [] below)));
}

-- and the other way round
pub name_in_front : {C S : Type 0} (language : Language C S) (words : List (List ℕ)) (n place : ℕ) → place < n → NamesOption language words place → NamesOption language (take n words) place
name_in_front language words n place below names = record {
  named = rw (get_or-take n words place [] below) names.named;
  first = λ k under same.
      names.first k under
      (sym (ap language.named (get_or-take n words (2 * k + 1) [] (omega arith))) ∙ same ∙ ap language.named (get_or-take n words place [] below));
}

-- a value among the first words is one among all
pub value_of_front : {C S : Type 0} (language : Language C S) (words : List (List ℕ)) (n place : ℕ) → n ≤ length words → place + 1 < n → SaysValue language (take n words) place → SaysValue language words place
value_of_front language words n place within below says = record {
  there = omega arith;
  said = rw (← get_or-take n words place [] (omega arith), ← get_or-take n words (place + 1) [] below) says.said;
}

-- and the other way round
pub value_in_front : {C S : Type 0} (language : Language C S) (words : List (List ℕ)) (n place : ℕ) → n ≤ length words → place + 1 < n → SaysValue language words place → SaysValue language (take n words) place
value_in_front language words n place within below says = record {
  there = omega (arith, length-take-le n words within);
  said = rw (get_or-take n words place [] (omega arith), get_or-take n words (place + 1) [] below) says.said;
}

-- the command alone has options: none
pub first_line : {C S : Type 0} (language : Language C S) (words : List (List ℕ)) → 0 < length words → HasOptions language (take 1 words)
first_line language words there = record {
  first = omega (arith, length-take-le 1 words (omega arith));
  name = λ k below. absurd (omega (arith, length-take-le 1 words (omega arith)));
  value = λ k below. absurd (omega (arith, length-take-le 1 words (omega arith)));
}

-- a command line with one more option and its value
pub line_more : {C S : Type 0} (language : Language C S) (words : List (List ℕ)) (place k : ℕ) → place ≡ 2 * k + 1 → HasOptions language (take place words) →
    NamesOption language words place → SaysValue language words place → HasOptions language (take (place + 2) words)
line_more language words place k odd line name value =
    let there : place + 1 < length words = value.there in
    let short : length (take place words) ≡ place = length-take-le place words (omega arith) in
    let long : length (take (place + 2) words) ≡ place + 2 = length-take-le (place + 2) words (omega arith) in
    record {
      first = omega arith;
      name = λ j below. name_in_front language words (place + 2) (2 * j + 1) (omega arith) (names j (omega arith));
      value = λ j below. value_in_front language words (place + 2) (2 * j + 1) (omega arith) (omega arith) (values there j (omega arith));
    }
  where
    names : (j : ℕ) → 2 * j + 1 < place + 2 → NamesOption language words (2 * j + 1)
    names j below = by (ltb j k) refl
      where
        by : (b : Bool) → ltb j k ≡ b → NamesOption language words (2 * j + 1)
        by true e =
            let before : j < k = ltb-true j k e in
            let there : place + 1 < length words = value.there in
            name_of_front language words place (2 * j + 1) (omega arith) (line.name j (omega (arith, length-take-le place words (omega arith))))
        by false e =
            let after : k ≤ j = ltb-false j k e in
            let here : place ≡ 2 * j + 1 = omega arith in
            let P : ℕ → Type 0 = λ p. NamesOption language words p in
            subst P here name

    values : place + 1 < length words → (j : ℕ) → 2 * j + 1 < place + 2 → SaysValue language words (2 * j + 1)
    values there j below = by (ltb j k) refl
      where
        by : (b : Bool) → ltb j k ≡ b → SaysValue language words (2 * j + 1)
        by true e =
            let before : j < k = ltb-true j k e in
            value_of_front language words place (2 * j + 1) (omega arith) (omega arith) (line.value j (omega (arith, length-take-le place words (omega arith))))
        by false e =
            let after : k ≤ j = ltb-false j k e in
            let here : place ≡ 2 * j + 1 = omega arith in
            let P : ℕ → Type 0 = λ p. SaysValue language words p in
            subst P here value

-- the first words with two more
two_more : (words : List (List ℕ)) (place : ℕ) → place + 1 < length words → take (place + 2) words ≡ take place words ++ word_at words place ∷ word_at words (place + 1) ∷ []
two_more words place there =
    let next : place + 2 ≡ place + 1 + 1 = omega arith in
    ap (λ n. take n words) next ∙ take_more words (place + 1) [] there ∙ ap (λ xs. xs ++ word_at words (place + 1) ∷ []) (take_more words place [] (omega arith))
    ∙ append_assoc (take place words) (word_at words place ∷ []) (word_at words (place + 1) ∷ [])

-- settings with one more option and its value
from_more : {C S : Type 0} (language : Language C S) (s : S) (words : List (List ℕ)) (k : ℕ) (name value : List ℕ) → length words ≡ 2 * k →
    settings_from language s (words ++ name ∷ value ∷ []) ≡ settings_from language (settings_from language s words) (name ∷ value ∷ [])
from_more language s [] k name value even = refl
from_more language s (a ∷ []) k name value even = absurd (omega arith)
from_more language s (a ∷ b ∷ words) zero name value even = absurd (omega arith)
from_more language s (a ∷ b ∷ words) (suc k) name value even =
    from_more language (option_map_or (λ option. language.with_value option b s) (language.named a) s) words k name value (omega arith)

-- the same after the command
after_command : {C S : Type 0} (language : Language C S) (s : S) (words : List (List ℕ)) (k : ℕ) (name value : List ℕ) → length words ≡ 2 * k + 1 →
    settings_from language s (drop 1 (words ++ name ∷ value ∷ [])) ≡ settings_from language (settings_from language s (drop 1 words)) (name ∷ value ∷ [])
after_command language s [] k name value odd = absurd (omega arith)
after_command language s (command ∷ words) k name value odd = from_more language s words k name value (omega arith)

-- the settings of a command line with one more option and its value
more_from : {C S : Type 0} (language : Language C S) (s : S) (words : List (List ℕ)) (place k : ℕ) (option : C) → place ≡ 2 * k + 1 → place + 1 < length words →
    language.named (word_at words place) ≡ Some option →
    settings_from language s (drop 1 (take (place + 2) words)) ≡ language.with_value option (word_at words (place + 1)) (settings_from language s (drop 1 (take place words)))
more_from language s words place k option odd there named =
    let short : length (take place words) ≡ 2 * k + 1 = omega (arith, length-take-le place words (omega arith)) in
    ap (λ xs. settings_from language s (drop 1 xs)) (two_more words place there)
    ∙ after_command language s (take place words) k (word_at words place) (word_at words (place + 1)) short ∙ rw named refl

-- from the defaults on
pub settings_more : {C S : Type 0} (language : Language C S) (words : List (List ℕ)) (place k : ℕ) (option : C) → place ≡ 2 * k + 1 → place + 1 < length words →
    language.named (word_at words place) ≡ Some option →
    settings_of language (take (place + 2) words) ≡ language.with_value option (word_at words (place + 1)) (settings_of language (take place words))
unfolding settings_of
settings_more language words place k option odd there named = more_from language language.defaults words place k option odd there named

-- the settings of the command alone are the defaults
pub settings_first : {C S : Type 0} (language : Language C S) (words : List (List ℕ)) → settings_of language (take 1 words) ≡ language.defaults
unfolding settings_of
settings_first language [] = refl
settings_first language (command ∷ words) = refl

-- after a command line stands no name
pub breaks_name : {C S : Type 0} (language : Language C S) (words : List (List ℕ)) (place k : ℕ) → place ≡ 2 * k + 1 → place < length words →
    HasOptions language (take place words) → ¬ (NamesOption language words place) → BreaksAt language words place
breaks_name language words place k odd there line other =
    let P : ℕ → Type 0 = λ p. p < length words → HasOptions language (take p words) → ¬ (NamesOption language words p) → BreaksAt language words p in
    subst P (sym odd) (no_name k) there line other

-- after a name stands no value
pub breaks_value : {C S : Type 0} (language : Language C S) (words : List (List ℕ)) (place k : ℕ) → place ≡ 2 * k + 1 → place < length words →
    HasOptions language (take place words) → NamesOption language words place → ¬ (SaysValue language words place) → BreaksAt language words (place + 1)
breaks_value language words place k odd there line name other =
    let P : ℕ → Type 0 = λ p. p < length words → HasOptions language (take p words) → NamesOption language words p → ¬ (SaysValue language words p) → BreaksAt language words (2 * k + 2) in
    let after : 2 * k + 2 ≡ place + 1 = omega arith in
    let Q : ℕ → Type 0 = λ p. BreaksAt language words p in
    subst Q after (subst P (sym odd) (no_value k) there line name other)

-- a word that is missing is no value
pub missing_value : {C S : Type 0} (language : Language C S) (words : List (List ℕ)) (place : ℕ) → length words ≤ place + 1 → ¬ (SaysValue language words place)
missing_value language words place short says = let there : place + 1 < length words = says.there in omega arith

-- no other value is said of the option that is named
pub other_value : {C S : Type 0} (language : Language C S) (words : List (List ℕ)) (place : ℕ) (option : C) → language.named (word_at words place) ≡ Some option →
    ¬ (language.Says option (word_at words (place + 1))) → ¬ (SaysValue language words place)
other_value language words place option named other says = other (rw named at says.said)

-- the value that is said
pub value_said : {C S : Type 0} (language : Language C S) (words : List (List ℕ)) (place : ℕ) (option : C) → place + 1 < length words →
    language.named (word_at words place) ≡ Some option → language.Says option (word_at words (place + 1)) → SaysValue language words place
value_said language words place option there named says = record { there = there; said = rw named says }
