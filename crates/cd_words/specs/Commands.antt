-- The commands of the program, and the words that say them.
use Rattle.std.specs.Prelude.{◌≡◌, ℕ, List, codes}
use Rattle.cd_hints.specs.declared.settings.options.NumberOption.TheVariants.{MaxInput}
use Rattle.cd_hints.specs.Options.{Admits}
use Rattle.cd_hints.specs.Validity.{IsValid}
use Rattle.cd_words.specs.declared.command.Command.{Command}
use Rattle.cd_words.specs.declared.command.Command.TheVariants.{Compact, Check, Inspect, Drill}
use Rattle.cd_words.specs.declared.fault.WordsFault.{WordsFault}
use Rattle.cd_words.specs.declared.fault.WordsFault.TheVariants.{Usage, NoMemory}
use Rattle.cd_words.specs.Compact.{compact}
use Rattle.cd_words.specs.Drill.{drill, IsValidDrill}
use Rattle.cd_words.specs.Faults.{BreaksAfter}
use Rattle.cd_words.specs.CommandLines.{HasCommand, IsCommandLine, settings_of}
use Rattle.cd_words.specs.Reading.{reading}

-- the words say this command
abbrev pub SaysCommand : List (List ℕ) → Command → Type 0
SaysCommand words (Compact settings) =
    IsCommandLine (codes "compact") compact words × (settings ≡ settings_of compact words)
SaysCommand words (Check max_input) =
    IsCommandLine (codes "check") reading words × (max_input ≡ settings_of reading words)
SaysCommand words (Inspect max_input) =
    IsCommandLine (codes "inspect") reading words × (max_input ≡ settings_of reading words)
SaysCommand words (Drill settings) =
    IsCommandLine (codes "drill") drill words × (settings ≡ settings_of drill words)

-- the words are a command line of a command: they say one
abbrev pub IsLine : List (List ℕ) → Type 0
IsLine words = (command : Command) × SaysCommand words command

-- the words begin with no command of the program
pub record HasNoCommand (words : List (List ℕ)) : Type 0 where
  pub not_compact : ¬ (HasCommand (codes "compact") words)
  pub not_check : ¬ (HasCommand (codes "check") words)
  pub not_inspect : ¬ (HasCommand (codes "inspect") words)
  pub not_drill : ¬ (HasCommand (codes "drill") words)

-- the place of the first word that breaks a rule, or of a word that is missing
pub data BreaksRuleAt (words : List (List ℕ)) : ℕ → Type 0 where
  -- the first word is no command, or there is none
  no_command : HasNoCommand words → BreaksRuleAt words 0
  -- after the command the words break a rule of its language
  after_compact : (place : ℕ) → BreaksAfter (codes "compact") compact words place → BreaksRuleAt words place
  after_check : (place : ℕ) → BreaksAfter (codes "check") reading words place → BreaksRuleAt words place
  after_inspect : (place : ℕ) → BreaksAfter (codes "inspect") reading words place → BreaksRuleAt words place
  after_drill : (place : ℕ) → BreaksAfter (codes "drill") drill words place → BreaksRuleAt words place

-- the words break a rule at the place of a fault; want of memory says nothing of them
abbrev pub HasFault : List (List ℕ) → WordsFault → Type 0
HasFault words (Usage place) = BreaksRuleAt words place
HasFault words NoMemory = Unit {0}

-- the settings of a command are valid
abbrev pub HasValidSettings : Command → Type 0
HasValidSettings (Compact settings) = IsValid settings
HasValidSettings (Check max_input) = Admits MaxInput max_input
HasValidSettings (Inspect max_input) = Admits MaxInput max_input
HasValidSettings (Drill settings) = IsValidDrill settings
