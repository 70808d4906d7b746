-- The language of `check` and of `inspect`, which both read a C-DNS file.
use Rattle.std.specs.Prelude.{ℕ, List, ◌++◌, Option, Some, None, if◌then◌else◌, unwrap_or, codes}
use Rattle.std.specs.Str.{bytes_eq}
use Rattle.cd_hints.specs.declared.settings.options.NumberOption.{NumberOption}
use Rattle.cd_hints.specs.declared.settings.options.NumberOption.TheVariants as number
use Rattle.cd_hints.specs.Options.{name_of, option_default}
use Rattle.cd_words.specs.declared.reading_option.ReadingOption.{ReadingOption}
use Rattle.cd_words.specs.declared.reading_option.ReadingOption.TheVariants.{MaxInput}
use Rattle.cd_words.specs.Numbers.{number_of, SaysNumber}
use Rattle.cd_words.specs.CommandLines.{Language}

-- the option of `compact` that has the name, the range and the default of an option of `check` and `inspect`
abbrev pub number_option : ReadingOption → NumberOption
number_option MaxInput = number.MaxInput

-- the word that names an option of `check` and `inspect`
abbrev pub reading_word_of : ReadingOption → List ℕ
reading_word_of option = codes "--" ++ name_of (number_option option)

-- the option of `check` and `inspect` that a word names, if it names one
unfoldable pub reading_option_named : List ℕ → Option ReadingOption
reading_option_named word = if bytes_eq word (reading_word_of MaxInput) then Some MaxInput else None

-- the word says a value of the option: a number that it may say
abbrev pub ReadingSays : ReadingOption → List ℕ → Type 0
ReadingSays option word = SaysNumber (number_option option) word

-- the number of bytes that are read at most, where an option has the value that a word says
abbrev pub reading_with_value : ReadingOption → List ℕ → ℕ → ℕ
reading_with_value MaxInput word max_input = unwrap_or (number_of word) 0

-- the language of `check` and of `inspect`
abbrev pub reading : Language ReadingOption ℕ
reading = record {
  named = reading_option_named;
  Says = ReadingSays;
  defaults = option_default number.MaxInput;
  with_value = reading_with_value;
}
