-- The options of `compact` on a command line.
use Rattle.std.specs.Prelude.{ℕ, List, [], ◌∷◌, ◌++◌, Option, IsSome, codes}
use Rattle.std.specs.List.{find}
use Rattle.std.specs.Str.{bytes_eq}
use Rattle.cd_hints.specs.declared.settings.options.NumberOption.TheVariants.{Workers, Ticks, QueryTimeout, SkewTimeout}
use Rattle.cd_hints.specs.declared.settings.options.NumberOption.TheVariants.{Window, WindowBytes, BlockItems}
use Rattle.cd_hints.specs.declared.settings.options.NumberOption.TheVariants.{BlockBytes, QrHints, SigHints, RrHints}
use Rattle.cd_hints.specs.declared.settings.options.NumberOption.TheVariants.{OtherHints, ClientPrefix4, ClientPrefix6}
use Rattle.cd_hints.specs.declared.settings.options.NumberOption.TheVariants.{ServerPrefix4, ServerPrefix6, Port}
use Rattle.cd_hints.specs.declared.settings.options.NumberOption.TheVariants.{MaxInput}
use Rattle.cd_hints.specs.declared.settings.options.ListOption.TheVariants.{Opcodes, RrTypes}
use Rattle.cd_hints.specs.Options.{name_of, list_name_of, list_range}
use Rattle.cd_words.specs.declared.compact_option.CompactOption.{CompactOption}
use Rattle.cd_words.specs.declared.compact_option.CompactOption.TheVariants.{Number, Parts}
use Rattle.cd_words.specs.Numbers.{SaysNumber}
use Rattle.cd_words.specs.Parts.{parts_of}

-- the options of `compact`
abbrev pub all_options : List CompactOption
all_options = Number Workers ∷ Number Ticks ∷ Number QueryTimeout ∷ Number SkewTimeout
    ∷ Number Window ∷ Number WindowBytes
    ∷ Number BlockItems ∷ Number BlockBytes ∷ Number QrHints ∷ Number SigHints ∷ Number RrHints ∷ Number OtherHints
    ∷ Parts Opcodes ∷ Parts RrTypes
    ∷ Number ClientPrefix4 ∷ Number ClientPrefix6 ∷ Number ServerPrefix4 ∷ Number ServerPrefix6
    ∷ Number Port ∷ Number MaxInput ∷ []

-- the name of an option, without the dashes before it
abbrev pub option_name : CompactOption → List ℕ
option_name (Number option) = name_of option
option_name (Parts option) = list_name_of option

-- the word that names an option of `compact`
abbrev pub word_of : CompactOption → List ℕ
word_of option = codes "--" ++ option_name option

-- the option that a word names, if it names one
unfoldable pub option_named : List ℕ → Option CompactOption
option_named word = find (λ option. bytes_eq word (word_of option)) all_options

-- the word says a value of the option: a number that the option may say, or a list of parts in its range
abbrev pub Says : CompactOption → List ℕ → Type 0
Says (Number option) word = SaysNumber option word
Says (Parts option) word = IsSome (parts_of (list_range option) word)
