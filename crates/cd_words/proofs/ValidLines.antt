-- The settings of a command line are valid, in any language whose values keep them so.
use Rattle.std.proofs.Common.{◌≡◌, ℕ, ◌+◌, ◌*◌, ◌<◌, suc, List, [], ◌∷◌, length, Option, Some, None, IsSomeAnd, refl, subst, arith}
use Rattle.std.specs.Option.{option_map_or}
use Rattle.cd_words.specs.CommandLines.{Language, word_at, HasOptions, SaysValue, settings_from, settings_of}

-- the defaults are valid, and settings stay so where an option has a value that a word says
pub record KeepsValid {C S : Type 0} (language : Language C S) (is_valid : S → Type 0) : Type 0 where
  pub defaults : is_valid language.defaults
  pub value : (option : C) (word : List ℕ) (s : S) → language.Says option word → is_valid s → is_valid (language.with_value option word s)

-- at the even places stand names, each before a value of its option
abbrev pub SayValues : {C S : Type 0} → Language C S → List (List ℕ) → Type 0
SayValues language words = (place k : ℕ) → place ≡ 2 * k → suc place < length words →
    IsSomeAnd (language.named (word_at words place)) (λ option. language.Says option (word_at words (suc place)))

-- settings stay valid where options have the values that words say
valid_from : {C S : Type 0} (language : Language C S) (is_valid : S → Type 0) → KeepsValid language is_valid → (s : S) (words : List (List ℕ)) → SayValues language words → is_valid s →
    is_valid (settings_from language s words)
valid_from language is_valid keeps s [] say v = v
valid_from language is_valid keeps s (name ∷ []) say v = v
valid_from {C} language is_valid keeps s (name ∷ value ∷ words) say v =
    valid_from language is_valid keeps (option_map_or (λ option. language.with_value option value s) (language.named name) s) words
    (λ place k even below. say (suc (suc place)) (suc k) (omega arith) (omega arith))
    (by (language.named name) (say 0 0 refl (omega arith)))
  where
    by : (found : Option C) → IsSomeAnd found (λ option. language.Says option value) →
        is_valid (option_map_or (λ option. language.with_value option value s) found s)
    by None no_option = absurd no_option
    by (Some option) says = keeps.value option value s says v

-- the settings of a command line are valid
pub valid_lines : {C S : Type 0} (language : Language C S) (is_valid : S → Type 0) → KeepsValid language is_valid → (words : List (List ℕ)) → HasOptions language words →
    is_valid (settings_of language words)
unfolding settings_of
valid_lines language is_valid keeps [] line = absurd (omega (arith, line.first))
valid_lines language is_valid keeps (command ∷ words) line = valid_from language is_valid keeps language.defaults words says keeps.defaults
  where
    says : SayValues language words
    says place k even below =
        let value : SaysValue language (command ∷ words) (2 * k + 1) = line.value k (omega arith) in
        let name : 2 * k + 1 ≡ suc place = omega arith in
        let after : 2 * k + 1 + 1 ≡ suc (suc place) = omega arith in
        let P : ℕ → ℕ → Type 0 = λ p q. IsSomeAnd (language.named (word_at (command ∷ words) p)) (λ option. language.Says option (word_at (command ∷ words) q)) in
        subst (λ q. P (suc place) q) after (subst (λ p. P p (2 * k + 1 + 1)) name value.said)
