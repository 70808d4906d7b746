-- Valid settings: each number is one that its option may say.
use Rattle.std.specs.Prelude.{◌≡◌, ℕ, List, Option, None, IfSome, IsSomeAnd, slice_index_or}
use Rattle.std.specs.List.Sorted.{IsStrictlyIncreasing}
use Rattle.cd_block.specs.declared.hints.Hints.{Hints}
use Rattle.cd_block.specs.declared.params.Params.{Params}
use Rattle.cd_hints.specs.declared.settings.Settings.{Settings}
use Rattle.cd_hints.specs.declared.settings.options.NumberOption.TheVariants.{Workers, Ticks, QueryTimeout, SkewTimeout}
use Rattle.cd_hints.specs.declared.settings.options.NumberOption.TheVariants.{Window, WindowBytes, BlockItems}
use Rattle.cd_hints.specs.declared.settings.options.NumberOption.TheVariants.{BlockBytes, QrHints, SigHints, RrHints}
use Rattle.cd_hints.specs.declared.settings.options.NumberOption.TheVariants.{OtherHints, ClientPrefix4, ClientPrefix6}
use Rattle.cd_hints.specs.declared.settings.options.NumberOption.TheVariants.{ServerPrefix4, ServerPrefix6, Port}
use Rattle.cd_hints.specs.declared.settings.options.NumberOption.TheVariants.{MaxInput}
use Rattle.cd_hints.specs.Options.{Admits}

-- each of the storage hints may stand there
pub record AreValidHints (h : Hints) : Type 0 where
  pub qr_hints : Admits QrHints h.qr
  pub sig_hints : Admits SigHints h.sig
  pub rr_hints : Admits RrHints h.rr
  pub other_hints : Admits OtherHints h.other

-- each prefix that is there may stand there
pub record AreValidPrefixes (prefixes : List (Option ℕ)) : Type 0 where
  pub client_prefix4 : IfSome (slice_index_or prefixes 0 None) (Admits ClientPrefix4)
  pub client_prefix6 : IfSome (slice_index_or prefixes 1 None) (Admits ClientPrefix6)
  pub server_prefix4 : IfSome (slice_index_or prefixes 2 None) (Admits ServerPrefix4)
  pub server_prefix6 : IfSome (slice_index_or prefixes 3 None) (Admits ServerPrefix6)

-- each parameter may stand there: the timeouts are there too, no flag is set, and the types ascend, each once
pub record AreValidParams (p : Params) : Type 0 where
  pub ticks : Admits Ticks p.ticks
  pub block_items : Admits BlockItems p.max_items
  pub hints : AreValidHints p.hints
  pub rr_types : IsStrictlyIncreasing p.rr_types
  pub flags : p.flags ≡ 0
  pub prefixes : AreValidPrefixes p.prefixes
  pub query_timeout : IsSomeAnd p.query_ms (Admits QueryTimeout)
  pub skew_timeout : IsSomeAnd p.skew_us (Admits SkewTimeout)

-- valid settings; their opcodes and types are in range by their types
pub record IsValid (s : Settings) : Type 0 where
  pub params : AreValidParams s.params
  pub window : Admits Window s.window
  pub window_bytes : Admits WindowBytes s.window_bytes
  pub block_bytes : Admits BlockBytes s.block_bytes
  pub port : Admits Port s.port
  pub workers : Admits Workers s.workers
  pub max_input : Admits MaxInput s.max_input
