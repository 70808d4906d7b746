-- The settings of a command that words say are valid.
use Rattle.std.proofs.Common.{ℕ, List, [], Option, Some, None, IsSomeAnd, unwrap_or, lit≤, sym, subst}
use Rattle.cd_hints.specs.declared.settings.Settings.{Settings}
use Rattle.cd_hints.specs.declared.settings.options.NumberOption.TheVariants as number
use Rattle.cd_hints.specs.Options.{Admits, list_range}
use Rattle.cd_hints.specs.Settings.{with_number}
use Rattle.cd_hints.specs.Validity.{IsValid}
use Rattle.cd_words.specs.declared.reading_option.ReadingOption.{ReadingOption}
use Rattle.cd_words.specs.declared.reading_option.ReadingOption.TheVariants.{MaxInput}
use Rattle.cd_words.specs.declared.command.Command.TheVariants.{Compact, Check, Inspect, Drill}
use Rattle.cd_words.specs.declared.compact_option.CompactOption.{CompactOption}
use Rattle.cd_words.specs.declared.drill.DrillSettings.{DrillSettings}
use Rattle.cd_words.specs.declared.drill_option.DrillOption.{DrillOption}
use Rattle.cd_words.specs.declared.compact_option.CompactOption.TheVariants.{Number, Parts}
use Rattle.cd_words.specs.Numbers.{number_of, IsIn}
use Rattle.cd_words.specs.Parts.{parts_of}
use Rattle.cd_words.specs.Options.{Says}
use Rattle.cd_words.specs.Compact.{compact, with_value}
use Rattle.cd_words.specs.Drill.{drill, DrillSays, drill_range, drill_with_number, drill_with_value, IsValidDrill}
use Rattle.cd_words.specs.Laws.{CommandsAreValid}
use Rattle.cd_words.specs.Reading.{reading, ReadingSays, reading_with_value}
use Rattle.cd_words.proofs.ValidDrill.{valid_drill_number, valid_drill_defaults}
use Rattle.cd_words.proofs.ValidLines.{KeepsValid, valid_lines}
use Rattle.cd_words.proofs.ValidParts.{valid_parts}
use Rattle.cd_words.proofs.ValidNumbers.{valid_number, valid_defaults}

-- settings of `compact` stay valid where an option has a value that a word says
valid_value : (option : CompactOption) (word : List ℕ) (s : Settings) → Says option word → IsValid s → IsValid (with_value option word s)
valid_value (Number option) word s says v = by (number_of word) says
  where
    by : (found : Option ℕ) → IsSomeAnd found (Admits option) → IsValid (with_number option (unwrap_or found 0) s)
    by None no_number = absurd no_number
    by (Some n) admits = valid_number option n s admits v
valid_value (Parts option) word s says v = valid_parts option (unwrap_or (parts_of (list_range option) word) []) s v

-- so do those of `check` and `inspect`
reading_valid_value : (option : ReadingOption) (word : List ℕ) (n : ℕ) → ReadingSays option word → Admits number.MaxInput n → Admits number.MaxInput (reading_with_value option word n)
reading_valid_value MaxInput word n says v = by (number_of word) says
  where
    by : (found : Option ℕ) → IsSomeAnd found (Admits number.MaxInput) → Admits number.MaxInput (unwrap_or found 0)
    by None no_number = absurd no_number
    by (Some m) admits = admits

-- so do those of `drill`
drill_valid_value : (option : DrillOption) (word : List ℕ) (s : DrillSettings) → DrillSays option word → IsValidDrill s → IsValidDrill (drill_with_value option word s)
drill_valid_value option word s says v = by (number_of word) says
  where
    by : (found : Option ℕ) → IsSomeAnd found (IsIn (drill_range option)) → IsValidDrill (drill_with_number option (unwrap_or found 0) s)
    by None no_number = absurd no_number
    by (Some n) said = valid_drill_number option n s said v

-- the language of `compact` keeps settings valid
compact_keeps : KeepsValid compact IsValid
compact_keeps = record { defaults = valid_defaults; value = valid_value }

-- so does that of `check` and `inspect`
reading_keeps : KeepsValid reading (Admits number.MaxInput)
reading_keeps = record { defaults = record { least = lit≤ tt; most = lit≤ tt; allowed = tt }; value = reading_valid_value }

-- so does that of `drill`
drill_keeps : KeepsValid drill IsValidDrill
drill_keeps = record { defaults = valid_drill_defaults; value = drill_valid_value }

-- the settings of a command that words say are valid
pub commands_are_valid : CommandsAreValid
commands_are_valid words (Compact settings) says = subst IsValid (sym says.1) (valid_lines compact IsValid compact_keeps words says.0.1)
commands_are_valid words (Check max_input) says = subst (Admits number.MaxInput) (sym says.1) (valid_lines reading (Admits number.MaxInput) reading_keeps words says.0.1)
commands_are_valid words (Inspect max_input) says = subst (Admits number.MaxInput) (sym says.1) (valid_lines reading (Admits number.MaxInput) reading_keeps words says.0.1)
commands_are_valid words (Drill settings) says = subst IsValidDrill (sym says.1) (valid_lines drill IsValidDrill drill_keeps words says.0.1)
