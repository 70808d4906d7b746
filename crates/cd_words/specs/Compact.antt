-- The language of `compact`.
use Rattle.std.specs.Prelude.{ℕ, List, [], unwrap_or}
use Rattle.cd_hints.specs.declared.settings.interval.Interval.{Interval}
use Rattle.cd_hints.specs.declared.settings.Settings.{Settings}
use Rattle.cd_hints.specs.declared.settings.options.ListOption.{ListOption}
use Rattle.cd_hints.specs.declared.settings.options.ListOption.TheVariants.{Opcodes, RrTypes}
use Rattle.cd_hints.specs.Options.{list_range}
use Rattle.cd_hints.specs.Listing.{listed_types, listed_opcodes}
use Rattle.cd_hints.specs.Settings.{default_settings, with_params, with_number}
use Rattle.cd_words.specs.declared.compact_option.CompactOption.{CompactOption}
use Rattle.cd_words.specs.declared.compact_option.CompactOption.TheVariants.{Number, Parts}
use Rattle.cd_words.specs.Numbers.{number_of}
use Rattle.cd_words.specs.Parts.{parts_of}
use Rattle.cd_words.specs.Options.{option_named, Says}
use Rattle.cd_words.specs.CommandLines.{Language}

-- settings in which an option with a list has the union of these parts
unfoldable pub with_parts : ListOption → List Interval → Settings → Settings
with_parts Opcodes parts s = with_params (record s.params { opcodes = listed_opcodes parts }) s
with_parts RrTypes parts s = with_params (record s.params { rr_types = listed_types parts }) s

-- settings in which an option has the value that a word says
abbrev pub with_value : CompactOption → List ℕ → Settings → Settings
with_value (Number option) word s = with_number option (unwrap_or (number_of word) 0) s
with_value (Parts option) word s = with_parts option (unwrap_or (parts_of (list_range option) word) []) s

-- the language of `compact`
abbrev pub compact : Language CompactOption Settings
compact = record {
  named = option_named;
  Says = Says;
  defaults = default_settings;
  with_value = with_value;
}
