-- Settings stay valid where an option has the union of some parts.
use Rattle.std.proofs.Common.{List}
use Rattle.cd_hints.specs.declared.settings.interval.Interval.{Interval}
use Rattle.cd_hints.specs.declared.settings.Settings.{Settings}
use Rattle.cd_hints.specs.declared.settings.options.ListOption.{ListOption}
use Rattle.cd_hints.specs.declared.settings.options.ListOption.TheVariants.{Opcodes, RrTypes}
use Rattle.cd_hints.specs.Validity.{AreValidParams, IsValid}
use Rattle.cd_words.specs.Compact.{with_parts}
use Rattle.cd_hints.proofs.Listed.{listed_below_ascends}

-- the opcodes may be any, and the types ascend
pub valid_parts : (option : ListOption) (parts : List Interval) (s : Settings) → IsValid s → IsValid (with_parts option parts s)
unfolding with_parts
valid_parts Opcodes parts s v =
    let p : AreValidParams s.params = v.params in
    record {
      params = record { ticks = p.ticks; block_items = p.block_items; hints = p.hints; rr_types = p.rr_types; flags = p.flags; prefixes = p.prefixes; query_timeout = p.query_timeout; skew_timeout = p.skew_timeout };
      window = v.window;
      window_bytes = v.window_bytes;
      block_bytes = v.block_bytes;
      port = v.port;
      workers = v.workers;
      max_input = v.max_input;
    }
valid_parts RrTypes parts s v =
    let p : AreValidParams s.params = v.params in
    record {
      params = record { ticks = p.ticks; block_items = p.block_items; hints = p.hints; rr_types = listed_below_ascends 65536 parts; flags = p.flags; prefixes = p.prefixes; query_timeout = p.query_timeout; skew_timeout = p.skew_timeout };
      window = v.window;
      window_bytes = v.window_bytes;
      block_bytes = v.block_bytes;
      port = v.port;
      workers = v.workers;
      max_input = v.max_input;
    }
