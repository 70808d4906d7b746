-- The words of a command line: the grammar of a command and its options, for any command.
use Rattle.std.specs.Prelude.{◌≡◌, ◌≢◌, ℕ, ◌+◌, ◌*◌, ◌<◌, List, length, [], ◌∷◌, take, drop, slice_index_or, Option}
use Rattle.std.specs.Prelude.{Some, IsSome, IsSomeAnd}
use Rattle.std.specs.Option.{option_map_or}

-- The language of what stands after a command: the options that words name, the values that they may say, and what
-- these change.
pub record Language (Choice Settings : Type 0) : Type 1 where
  -- the option that a word names, if it names one
  pub named : List ℕ → Option Choice
  -- a word says a value of an option
  pub Says : Choice → List ℕ → Type 0
  -- the settings where no option is given
  pub defaults : Settings
  -- settings in which an option has the value that a word says
  pub with_value : Choice → List ℕ → Settings → Settings

-- the word at a place, from 0; after the last word stand words without bytes
abbrev pub word_at : List (List ℕ) → ℕ → List ℕ
word_at words place = slice_index_or words place []

-- the words begin with a command
abbrev pub HasCommand : List ℕ → List (List ℕ) → Type 0
HasCommand command words = (0 < length words) × (word_at words 0 ≡ command)

-- A word names an option that no name before it names. Names stand at the odd places.
pub record NamesOption {C S : Type 0} (language : Language C S) (words : List (List ℕ)) (place : ℕ) : Type 0 where
  pub named : IsSome (language.named (word_at words place))
  pub first : (k : ℕ) → 2 * k + 1 < place →
      language.named (word_at words (2 * k + 1)) ≢ language.named (word_at words place)

-- a name before a place names this option
abbrev pub IsNamedBefore : {C S : Type 0} → Language C S → List (List ℕ) → ℕ → C → Type 0
IsNamedBefore language words place option =
    (k : ℕ) × (2 * k + 1 < place) × (language.named (word_at words (2 * k + 1)) ≡ Some option)

-- a word names an option, and a word that stands after it says a value of this option
pub record SaysValue {C S : Type 0} (language : Language C S) (words : List (List ℕ)) (place : ℕ) : Type 0 where
  pub there : place + 1 < length words
  pub said : IsSomeAnd (language.named (word_at words place))
      (λ option. language.Says option (word_at words (place + 1)))

-- after a first word stand names and values by turns
pub record HasOptions {C S : Type 0} (language : Language C S) (words : List (List ℕ)) : Type 0 where
  pub first : 0 < length words
  pub name : (k : ℕ) → 2 * k + 1 < length words → NamesOption language words (2 * k + 1)
  pub value : (k : ℕ) → 2 * k + 1 < length words → SaysValue language words (2 * k + 1)

-- a command line: this command, and after it options of this language
abbrev pub IsCommandLine : {C S : Type 0} → List ℕ → Language C S → List (List ℕ) → Type 0
IsCommandLine command language words = HasCommand command words × HasOptions language words

-- after a first word, the place of the first word that breaks a rule, or of a word that is missing
pub data BreaksAt {C S : Type 0} (language : Language C S) (words : List (List ℕ)) : ℕ → Type 0 where
  -- after options stands a word that names no option, or one that was named before
  no_name : (k : ℕ) → 2 * k + 1 < length words → HasOptions language (take (2 * k + 1) words) →
      ¬ (NamesOption language words (2 * k + 1)) →
      BreaksAt language words (2 * k + 1)
  -- after options and a name stands no value of the option, or no word
  no_value : (k : ℕ) → 2 * k + 1 < length words → HasOptions language (take (2 * k + 1) words) →
      NamesOption language words (2 * k + 1) →
      ¬ (SaysValue language words (2 * k + 1)) → BreaksAt language words (2 * k + 2)

-- settings in which the options of these names have these values
abbrev pub settings_from : {C S : Type 0} → Language C S → S → List (List ℕ) → S
settings_from language s [] = s
settings_from language s (name ∷ []) = s
settings_from language s (name ∷ value ∷ words) =
    settings_from language (option_map_or (λ option. language.with_value option value s) (language.named name) s) words

-- the settings that a command line says; an option that it does not name has its default
unfoldable pub settings_of : {C S : Type 0} → Language C S → List (List ℕ) → S
settings_of language words = settings_from language language.defaults (drop 1 words)
