-- Settings stay valid where an option has a number that it admits.
use Rattle.std.proofs.Common.{◌≢◌, ℕ, suc, zero, Bool, true, false, List, [], ◌∷◌, Option, Some, None, IfSome, nat_eq, cond, lit≤, inl, refl, ap, arith}
use Rattle.std.specs.Prelude.{slice_index_or, slice_set}
use Rattle.cd_block.specs.declared.hints.Hints.{Hints}
use Rattle.cd_block.specs.declared.params.Params.{Params}
use Rattle.cd_hints.specs.declared.settings.Settings.{Settings}
use Rattle.cd_hints.specs.declared.settings.options.NumberOption.{NumberOption}
use Rattle.cd_hints.specs.declared.settings.options.NumberOption.TheVariants.{Workers, Ticks, QueryTimeout, SkewTimeout, Window, WindowBytes, BlockItems, BlockBytes, QrHints, SigHints, RrHints, OtherHints, ClientPrefix4, ClientPrefix6, ServerPrefix4, ServerPrefix6, Port, MaxInput}
use Rattle.cd_hints.specs.declared.settings.options.ListOption.TheVariants.{RrTypes}
use Rattle.cd_hints.specs.Options.{Admits, option_range, list_default}
use Rattle.cd_hints.specs.Settings.{stored_prefix, default_hints, default_params, default_settings, with_params, with_hints, with_number}
use Rattle.cd_hints.specs.Validity.{AreValidHints, AreValidPrefixes, AreValidParams, IsValid}
use Rattle.cd_hints.proofs.Listed.{listed_below_ascends}

-- ---- the prefixes

-- a fact of the number that is put at an index, and of the one that was there, holds of the one that is there then
set_here : (P : ℕ → Type 0) (xs : List (Option ℕ)) (i : ℕ) (x : Option ℕ) → IfSome x P → IfSome (slice_index_or xs i None) P → IfSome (slice_index_or (slice_set xs i x) i None) P
set_here P [] i x new old = old
set_here P (y ∷ xs) zero x new old = new
set_here P (y ∷ xs) (suc i) x new old = set_here P xs i x new old

-- a fact of the number at another index holds on
set_apart : (P : ℕ → Type 0) (xs : List (Option ℕ)) (i j : ℕ) (x : Option ℕ) → i ≢ j → IfSome (slice_index_or xs j None) P → IfSome (slice_index_or (slice_set xs i x) j None) P
set_apart P [] i j x apart old = old
set_apart P (y ∷ xs) zero zero x apart old = absurd (apart refl)
set_apart P (y ∷ xs) zero (suc j) x apart old = old
set_apart P (y ∷ xs) (suc i) zero x apart old = old
set_apart P (y ∷ xs) (suc i) (suc j) x apart old = set_apart P xs i j x (λ e. apart (ap suc e)) old

-- a prefix is stored as one that the option admits, or is absent
stored_admitted : (option : NumberOption) (n : ℕ) → Admits option n → IfSome (stored_prefix option n) (Admits option)
stored_admitted option n a = by (nat_eq n (option_range option).most)
  where
    by : (b : Bool) → IfSome (cond b None (Some n)) (Admits option)
    by true = tt
    by false = a

-- ---- settings with one change

-- other parameters that are valid
valid_params : (p : Params) (s : Settings) → AreValidParams p → IsValid s → IsValid (with_params p s)
valid_params p s a v = record { params = a; window = v.window; window_bytes = v.window_bytes; block_bytes = v.block_bytes; port = v.port; workers = v.workers; max_input = v.max_input }

-- other hints that are valid
valid_hints : (h : Hints) (s : Settings) → AreValidHints h → IsValid s → IsValid (with_hints h s)
valid_hints h s a v =
    let p : AreValidParams s.params = v.params in
    valid_params (record s.params { hints = h }) s (record { ticks = p.ticks; block_items = p.block_items; hints = a; rr_types = p.rr_types; flags = p.flags; prefixes = p.prefixes; query_timeout = p.query_timeout; skew_timeout = p.skew_timeout }) v

-- other prefixes that are valid
valid_prefixes : (prefixes : List (Option ℕ)) (s : Settings) → AreValidPrefixes prefixes → IsValid s → IsValid (with_params (record s.params { prefixes = prefixes }) s)
valid_prefixes prefixes s a v =
    let p : AreValidParams s.params = v.params in
    valid_params (record s.params { prefixes = prefixes }) s (record { ticks = p.ticks; block_items = p.block_items; hints = p.hints; rr_types = p.rr_types; flags = p.flags; prefixes = a; query_timeout = p.query_timeout; skew_timeout = p.skew_timeout }) v

-- an option has a number that it admits
pub valid_number : (option : NumberOption) (n : ℕ) (s : Settings) → Admits option n → IsValid s → IsValid (with_number option n s)
valid_number Workers n s a v = record { params = v.params; window = v.window; window_bytes = v.window_bytes; block_bytes = v.block_bytes; port = v.port; workers = a; max_input = v.max_input }
valid_number Ticks n s a v =
    let p : AreValidParams s.params = v.params in
    valid_params (record s.params { ticks = n }) s (record { ticks = a; block_items = p.block_items; hints = p.hints; rr_types = p.rr_types; flags = p.flags; prefixes = p.prefixes; query_timeout = p.query_timeout; skew_timeout = p.skew_timeout }) v
valid_number QueryTimeout n s a v =
    let p : AreValidParams s.params = v.params in
    valid_params (record s.params { query_ms = Some n }) s (record { ticks = p.ticks; block_items = p.block_items; hints = p.hints; rr_types = p.rr_types; flags = p.flags; prefixes = p.prefixes; query_timeout = a; skew_timeout = p.skew_timeout }) v
valid_number SkewTimeout n s a v =
    let p : AreValidParams s.params = v.params in
    valid_params (record s.params { skew_us = Some n }) s (record { ticks = p.ticks; block_items = p.block_items; hints = p.hints; rr_types = p.rr_types; flags = p.flags; prefixes = p.prefixes; query_timeout = p.query_timeout; skew_timeout = a }) v
valid_number Window n s a v = record { params = v.params; window = a; window_bytes = v.window_bytes; block_bytes = v.block_bytes; port = v.port; workers = v.workers; max_input = v.max_input }
valid_number WindowBytes n s a v = record { params = v.params; window = v.window; window_bytes = a; block_bytes = v.block_bytes; port = v.port; workers = v.workers; max_input = v.max_input }
valid_number BlockItems n s a v =
    let p : AreValidParams s.params = v.params in
    valid_params (record s.params { max_items = n }) s (record { ticks = p.ticks; block_items = a; hints = p.hints; rr_types = p.rr_types; flags = p.flags; prefixes = p.prefixes; query_timeout = p.query_timeout; skew_timeout = p.skew_timeout }) v
valid_number BlockBytes n s a v = record { params = v.params; window = v.window; window_bytes = v.window_bytes; block_bytes = a; port = v.port; workers = v.workers; max_input = v.max_input }
valid_number QrHints n s a v =
    let h : AreValidHints s.params.hints = v.params.hints in
    valid_hints (record s.params.hints { qr = n }) s (record { qr_hints = a; sig_hints = h.sig_hints; rr_hints = h.rr_hints; other_hints = h.other_hints }) v
valid_number SigHints n s a v =
    let h : AreValidHints s.params.hints = v.params.hints in
    valid_hints (record s.params.hints { sig = n }) s (record { qr_hints = h.qr_hints; sig_hints = a; rr_hints = h.rr_hints; other_hints = h.other_hints }) v
valid_number RrHints n s a v =
    let h : AreValidHints s.params.hints = v.params.hints in
    valid_hints (record s.params.hints { rr = n }) s (record { qr_hints = h.qr_hints; sig_hints = h.sig_hints; rr_hints = a; other_hints = h.other_hints }) v
valid_number OtherHints n s a v =
    let h : AreValidHints s.params.hints = v.params.hints in
    valid_hints (record s.params.hints { other = n }) s (record { qr_hints = h.qr_hints; sig_hints = h.sig_hints; rr_hints = h.rr_hints; other_hints = a }) v
valid_number ClientPrefix4 n s a v =
    let prefixes = s.params.prefixes in
    let x = stored_prefix ClientPrefix4 n in
    let p : AreValidPrefixes prefixes = v.params.prefixes in
    valid_prefixes (slice_set prefixes 0 x) s (record {
      client_prefix4 = set_here (Admits ClientPrefix4) prefixes 0 x (stored_admitted ClientPrefix4 n a) p.client_prefix4;
      client_prefix6 = set_apart (Admits ClientPrefix6) prefixes 0 1 x (omega arith) p.client_prefix6;
      server_prefix4 = set_apart (Admits ServerPrefix4) prefixes 0 2 x (omega arith) p.server_prefix4;
      server_prefix6 = set_apart (Admits ServerPrefix6) prefixes 0 3 x (omega arith) p.server_prefix6;
    }) v
valid_number ClientPrefix6 n s a v =
    let prefixes = s.params.prefixes in
    let x = stored_prefix ClientPrefix6 n in
    let p : AreValidPrefixes prefixes = v.params.prefixes in
    valid_prefixes (slice_set prefixes 1 x) s (record {
      client_prefix4 = set_apart (Admits ClientPrefix4) prefixes 1 0 x (omega arith) p.client_prefix4;
      client_prefix6 = set_here (Admits ClientPrefix6) prefixes 1 x (stored_admitted ClientPrefix6 n a) p.client_prefix6;
      server_prefix4 = set_apart (Admits ServerPrefix4) prefixes 1 2 x (omega arith) p.server_prefix4;
      server_prefix6 = set_apart (Admits ServerPrefix6) prefixes 1 3 x (omega arith) p.server_prefix6;
    }) v
valid_number ServerPrefix4 n s a v =
    let prefixes = s.params.prefixes in
    let x = stored_prefix ServerPrefix4 n in
    let p : AreValidPrefixes prefixes = v.params.prefixes in
    valid_prefixes (slice_set prefixes 2 x) s (record {
      client_prefix4 = set_apart (Admits ClientPrefix4) prefixes 2 0 x (omega arith) p.client_prefix4;
      client_prefix6 = set_apart (Admits ClientPrefix6) prefixes 2 1 x (omega arith) p.client_prefix6;
      server_prefix4 = set_here (Admits ServerPrefix4) prefixes 2 x (stored_admitted ServerPrefix4 n a) p.server_prefix4;
      server_prefix6 = set_apart (Admits ServerPrefix6) prefixes 2 3 x (omega arith) p.server_prefix6;
    }) v
valid_number ServerPrefix6 n s a v =
    let prefixes = s.params.prefixes in
    let x = stored_prefix ServerPrefix6 n in
    let p : AreValidPrefixes prefixes = v.params.prefixes in
    valid_prefixes (slice_set prefixes 3 x) s (record {
      client_prefix4 = set_apart (Admits ClientPrefix4) prefixes 3 0 x (omega arith) p.client_prefix4;
      client_prefix6 = set_apart (Admits ClientPrefix6) prefixes 3 1 x (omega arith) p.client_prefix6;
      server_prefix4 = set_apart (Admits ServerPrefix4) prefixes 3 2 x (omega arith) p.server_prefix4;
      server_prefix6 = set_here (Admits ServerPrefix6) prefixes 3 x (stored_admitted ServerPrefix6 n a) p.server_prefix6;
    }) v
valid_number Port n s a v = record { params = v.params; window = v.window; window_bytes = v.window_bytes; block_bytes = v.block_bytes; port = a; workers = v.workers; max_input = v.max_input }
valid_number MaxInput n s a v = record { params = v.params; window = v.window; window_bytes = v.window_bytes; block_bytes = v.block_bytes; port = v.port; workers = v.workers; max_input = a }

-- ---- the defaults

-- the hints
valid_default_hints : AreValidHints default_hints
valid_default_hints = record {
  qr_hints = record { least = lit≤ tt; most = lit≤ tt; allowed = refl };
  sig_hints = record { least = lit≤ tt; most = lit≤ tt; allowed = refl };
  rr_hints = record { least = lit≤ tt; most = lit≤ tt; allowed = tt };
  other_hints = record { least = lit≤ tt; most = lit≤ tt; allowed = tt };
}

-- the parameters
valid_default_params : AreValidParams default_params
valid_default_params = record {
  ticks = record { least = lit≤ tt; most = lit≤ tt; allowed = inl refl };
  block_items = record { least = lit≤ tt; most = lit≤ tt; allowed = tt };
  hints = valid_default_hints;
  rr_types = listed_below_ascends 65536 (list_default RrTypes);
  flags = refl;
  prefixes = record { client_prefix4 = tt; client_prefix6 = tt; server_prefix4 = tt; server_prefix6 = tt };
  query_timeout = record { least = lit≤ tt; most = lit≤ tt; allowed = tt };
  skew_timeout = record { least = lit≤ tt; most = lit≤ tt; allowed = tt };
}

-- the settings where no option is given
pub valid_defaults : IsValid default_settings
valid_defaults = record {
  params = valid_default_params;
  window = record { least = lit≤ tt; most = lit≤ tt; allowed = tt };
  window_bytes = record { least = lit≤ tt; most = lit≤ tt; allowed = tt };
  block_bytes = record { least = lit≤ tt; most = lit≤ tt; allowed = tt };
  port = record { least = lit≤ tt; most = lit≤ tt; allowed = tt };
  workers = record { least = lit≤ tt; most = lit≤ tt; allowed = tt };
  max_input = record { least = lit≤ tt; most = lit≤ tt; allowed = tt };
}
