-- Laws of the command line.
use Rattle.std.specs.Prelude.{◌≡◌, ◌↔◌, ℕ, ◌^◌, ◌<◌, ◌⊎◌, List, Some}
use Rattle.std.specs.Fmt.{decimal}
use Rattle.cd_words.specs.declared.command.Command.{Command}
use Rattle.cd_words.specs.Commands.{SaysCommand, IsLine, BreaksRuleAt, HasValidSettings}
use Rattle.cd_words.specs.CommandLines.{Language}
use Rattle.cd_words.specs.Numbers.{number_of}

-- bytes are a number exactly where they are what std writes of it
abbrev pub NumbersAreDecimal : Type 0
NumbersAreDecimal = (text : List ℕ) (n : ℕ) → n < 2 ^ 64 → (number_of text ≡ Some n) ↔ (text ≡ decimal n)

-- the word of each option of a language names this option
abbrev pub OptionsHaveNames : {C S : Type 0} → Language C S → (C → List ℕ) → Type 0
OptionsHaveNames {C} language word_of = (option : C) → language.named (word_of option) ≡ Some option

-- each option of a language has a value that a word says, so words that end with a name can go on
abbrev pub OptionsHaveValues : {C S : Type 0} → Language C S → Type 0
OptionsHaveValues {C} language = (option : C) → (word : List ℕ) × language.Says option word

-- the words break a rule at this place and at no other, and are no command line
pub record BreaksOnce (words : List (List ℕ)) (place : ℕ) : Type 0 where
  pub here : BreaksRuleAt words place
  pub only : (other : ℕ) → BreaksRuleAt words other → other ≡ place
  pub outside : ¬ (IsLine words)

-- words are a command line and break no rule, or break a rule at exactly one place and are none
abbrev pub LinesOrBreaks : Type 0
LinesOrBreaks = (words : List (List ℕ)) →
    (IsLine words × ((place : ℕ) → ¬ (BreaksRuleAt words place))) ⊎ ((place : ℕ) × BreaksOnce words place)

-- words say at most one command
abbrev pub CommandsAreOne : Type 0
CommandsAreOne = (words : List (List ℕ)) (first second : Command) → SaysCommand words first →
    SaysCommand words second → first ≡ second

-- the settings of a command that words say are valid
abbrev pub CommandsAreValid : Type 0
CommandsAreValid = (words : List (List ℕ)) (command : Command) → SaysCommand words command → HasValidSettings command
