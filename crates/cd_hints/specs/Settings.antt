-- The settings where no option is given, and where the number of an option is put in.
use Rattle.std.specs.Prelude.{ℕ, nat_eq, if◌then◌else◌, Option, Some, None, [], ◌∷◌, slice_set}
use Rattle.cd_block.specs.declared.hints.Hints.{Hints}
use Rattle.cd_block.specs.declared.params.Params.{Params}
use Rattle.cd_hints.specs.declared.settings.Settings.{Settings}
use Rattle.cd_hints.specs.declared.settings.options.NumberOption.{NumberOption}
use Rattle.cd_hints.specs.declared.settings.options.NumberOption.TheVariants.{Workers, Ticks, QueryTimeout, SkewTimeout}
use Rattle.cd_hints.specs.declared.settings.options.NumberOption.TheVariants.{Window, WindowBytes, BlockItems}
use Rattle.cd_hints.specs.declared.settings.options.NumberOption.TheVariants.{BlockBytes, QrHints, SigHints, RrHints}
use Rattle.cd_hints.specs.declared.settings.options.NumberOption.TheVariants.{OtherHints, ClientPrefix4, ClientPrefix6}
use Rattle.cd_hints.specs.declared.settings.options.NumberOption.TheVariants.{ServerPrefix4, ServerPrefix6, Port}
use Rattle.cd_hints.specs.declared.settings.options.NumberOption.TheVariants.{MaxInput}
use Rattle.cd_hints.specs.declared.settings.options.ListOption.TheVariants.{Opcodes, RrTypes}
use Rattle.cd_hints.specs.Listing.{listed_types, listed_opcodes}
use Rattle.cd_hints.specs.Options.{option_range, option_default, list_default}

-- a prefix as it is stored: one of the full width, the most that its option may say, is absent
abbrev pub stored_prefix : NumberOption → ℕ → Option ℕ
stored_prefix option bits = if nat_eq bits (option_range option).most then None else Some bits

-- the storage hints of the defaults
abbrev pub default_hints : Hints
default_hints = record {
  qr = option_default QrHints;
  sig = option_default SigHints;
  rr = option_default RrHints;
  other = option_default OtherHints;
}

-- the parameters of the defaults
abbrev pub default_params : Params
default_params = record {
  ticks = option_default Ticks;
  max_items = option_default BlockItems;
  hints = default_hints;
  opcodes = listed_opcodes (list_default Opcodes);
  rr_types = listed_types (list_default RrTypes);
  flags = 0;
  prefixes = stored_prefix ClientPrefix4 (option_default ClientPrefix4)
      ∷ stored_prefix ClientPrefix6 (option_default ClientPrefix6)
      ∷ stored_prefix ServerPrefix4 (option_default ServerPrefix4)
      ∷ stored_prefix ServerPrefix6 (option_default ServerPrefix6) ∷ [];
  query_ms = Some (option_default QueryTimeout);
  skew_us = Some (option_default SkewTimeout);
}

-- the settings where no option is given
abbrev pub default_settings : Settings
default_settings = record {
  params = default_params;
  window = option_default Window;
  window_bytes = option_default WindowBytes;
  block_bytes = option_default BlockBytes;
  port = option_default Port;
  workers = option_default Workers;
  max_input = option_default MaxInput;
}

-- the settings with other parameters
abbrev pub with_params : Params → Settings → Settings
with_params params s = record s { params = params }

-- the settings with other hints
abbrev pub with_hints : Hints → Settings → Settings
with_hints hints s = record s { params = record s.params { hints = hints } }

-- the settings with the prefix of an option at its index
abbrev pub with_prefix : ℕ → NumberOption → ℕ → Settings → Settings
with_prefix index option bits s =
    record s { params = record s.params { prefixes = slice_set s.params.prefixes index (stored_prefix option bits) } }

-- the settings with the number of an option in the field that it stands for
abbrev pub with_number : NumberOption → ℕ → Settings → Settings
with_number Workers n s = record s { workers = n }
with_number Ticks n s = with_params (record s.params { ticks = n }) s
with_number QueryTimeout n s = with_params (record s.params { query_ms = Some n }) s
with_number SkewTimeout n s = with_params (record s.params { skew_us = Some n }) s
with_number Window n s = record s { window = n }
with_number WindowBytes n s = record s { window_bytes = n }
with_number BlockItems n s = with_params (record s.params { max_items = n }) s
with_number BlockBytes n s = record s { block_bytes = n }
with_number QrHints n s = with_hints (record s.params.hints { qr = n }) s
with_number SigHints n s = with_hints (record s.params.hints { sig = n }) s
with_number RrHints n s = with_hints (record s.params.hints { rr = n }) s
with_number OtherHints n s = with_hints (record s.params.hints { other = n }) s
with_number ClientPrefix4 n s = with_prefix 0 ClientPrefix4 n s
with_number ClientPrefix6 n s = with_prefix 1 ClientPrefix6 n s
with_number ServerPrefix4 n s = with_prefix 2 ServerPrefix4 n s
with_number ServerPrefix6 n s = with_prefix 3 ServerPrefix6 n s
with_number Port n s = record s { port = n }
with_number MaxInput n s = record s { max_input = n }
