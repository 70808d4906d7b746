-- The language of `drill`.
use Rattle.std.specs.Prelude.{ℕ, List, [], ◌∷◌, ◌++◌, Option, unwrap_or, codes}
use Rattle.std.specs.List.{find}
use Rattle.std.specs.Str.{bytes_eq}
use Rattle.cd_hints.specs.declared.settings.interval.Interval.{Interval}
use Rattle.cd_hints.specs.declared.settings.options.NumberOption.TheVariants as number
use Rattle.cd_hints.specs.Options.{between, name_of, option_range, option_default}
use Rattle.cd_words.specs.declared.drill_option.DrillOption.{DrillOption}
use Rattle.cd_words.specs.declared.drill_option.DrillOption.TheVariants.{Count, Seed, Workers}
use Rattle.cd_words.specs.declared.drill.DrillSettings.{DrillSettings}
use Rattle.cd_words.specs.Numbers.{number_of, IsIn, SaysNumberIn}
use Rattle.cd_words.specs.CommandLines.{Language}

-- the options of `drill`
abbrev pub drill_options : List DrillOption
drill_options = Count ∷ Seed ∷ Workers ∷ []

-- the name of an option of `drill`, without the dashes before it; the workers have that of `compact`
abbrev pub drill_name_of : DrillOption → List ℕ
drill_name_of Count = codes "count"
drill_name_of Seed = codes "seed"
drill_name_of Workers = name_of number.Workers

-- the numbers that an option of `drill` may say
abbrev pub drill_range : DrillOption → Interval
drill_range Count = between 1 200000
drill_range Seed = between 0 18446744073709551615
drill_range Workers = option_range number.Workers

-- the word that names an option of `drill`
abbrev pub drill_word_of : DrillOption → List ℕ
drill_word_of option = codes "--" ++ drill_name_of option

-- the option of `drill` that a word names, if it names one
unfoldable pub drill_option_named : List ℕ → Option DrillOption
drill_option_named word = find (λ option. bytes_eq word (drill_word_of option)) drill_options

-- the word says a value of the option: a number that it may say
abbrev pub DrillSays : DrillOption → List ℕ → Type 0
DrillSays option word = SaysNumberIn (drill_range option) word

-- the settings of `drill` where no option is given
abbrev pub drill_defaults : DrillSettings
drill_defaults = record { count = 1000; seed = 1; workers = option_default number.Workers }

-- settings of `drill` in which an option has a number
abbrev pub drill_with_number : DrillOption → ℕ → DrillSettings → DrillSettings
drill_with_number Count n s = record s { count = n }
drill_with_number Seed n s = record s { seed = n }
drill_with_number Workers n s = record s { workers = n }

-- settings of `drill` in which an option has the value that a word says
abbrev pub drill_with_value : DrillOption → List ℕ → DrillSettings → DrillSettings
drill_with_value option word s = drill_with_number option (unwrap_or (number_of word) 0) s

-- the language of `drill`
abbrev pub drill : Language DrillOption DrillSettings
drill = record {
  named = drill_option_named;
  Says = DrillSays;
  defaults = drill_defaults;
  with_value = drill_with_value;
}

-- valid settings of `drill`: each number is one that its option may say
pub record IsValidDrill (s : DrillSettings) : Type 0 where
  pub count : IsIn (drill_range Count) s.count
  pub seed : IsIn (drill_range Seed) s.seed
  pub workers : IsIn (drill_range Workers) s.workers
