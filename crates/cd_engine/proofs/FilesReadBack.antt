-- The file of a capture is read back.
use Rattle.std.proofs.Common.{◌≡◌, ℕ, zero, suc, ◌+◌, ◌-◌, ◌<◌, ◌≤◌, List, [], ◌∷◌, length, map, take, Option, Some, None, refl, ap, ◌∙◌, arith, subst, inl, inr}
use Rattle.std.specs.Prelude.{IfSome, IsSomeAnd, slice_index, slice_index_or}
use Rattle.std.specs.List.{All, AllByRecursion}
use Rattle.std.specs.List.Sorted.{IsStrictlyIncreasing}
use Rattle.std.proofs.lemmas.Bool.{cases_lt, lt-ltb, le-ltb}
use Rattle.std.proofs.lemmas.List.Elements.{All-nil, All-cons, All-head, All-tail}
use Rattle.cd_block.specs.declared.params.Params.{Params}
use Rattle.cd_block.proofs.Indexing.{indexed_resolves}
use Rattle.cd_file.specs.ReadFile.{read_file}
use Rattle.cd_file.specs.Readable.{ReadableParams, ReadableBlock}
use Rattle.cd_file.specs.KeptFile.{kept_file}
use Rattle.cd_file.specs.ReadBack.{AreResolved}
use Rattle.cd_file.proofs.FilesReadBack.{file_is_read_back, open_file_is_read_back, file_is_kept}
use Rattle.cd_file.proofs.PreambleSize.{preamble_short}
use Rattle.cd_hints.specs.Records.{RecordParts}
use Rattle.cd_hints.specs.Validity.{IsValid}
use Rattle.cd_hints.specs.declared.settings.Settings.{Settings}
use Rattle.cd_ident.specs.Events.{EventParts}
use Rattle.cd_ident.specs.declared.event_rules.EventRules.{EventRules}
use Rattle.cd_message.specs.MessageLaws.{AreBytes}
use Rattle.cd_capture.specs.Formats.{capture}
use Rattle.cd_packet.specs.Layers.{Found, datagram, skipped, layer_of}
use Rattle.cd_packet.specs.declared.packet.Packet.{Packet}
use Rattle.cd_pairing.specs.Records.{Record}
use Rattle.cd_record.specs.Blocks.{kept_block}
use Rattle.cd_record.specs.Runs.{limits_of, IsAdmissible, AreRuns}
use Rattle.cd_size.specs.Ranges.{EventInRange, EventIsTimed, RecordInRange, RecordIsTimed}
use Rattle.cd_size.proofs.DatagramRanges.{datagrams_in_range}
use Rattle.cd_size.proofs.EventRanges.{events_in_range}
use Rattle.cd_size.proofs.EventTimes.{events_timed}
use Rattle.cd_size.proofs.NamesKept.{blocks_named}
use Rattle.cd_size.proofs.RunsReadable.{blocks_readable}
use Rattle.cd_engine.specs.Compactions.{Compaction, blocks_of, but_last}
use Rattle.cd_engine.specs.Events.{rules_of, event_found, event_of, events_of}
use Rattle.cd_engine.specs.ReadBack.{ParamsInRange, FilesAreReadBack, FilesAreKept, ClosedPartsAreReadBack}
use Rattle.cd_engine.specs.Records.{records_at}
use Rattle.cd_engine.specs.Refusals.{compacted_events}
use Rattle.cd_engine.proofs.EventsHave.{filter_map_each, of_records, of_runs, each_of}
use Rattle.cd_engine.proofs.PacketBytes.{packets_have_bytes}
use Rattle.cd_engine.proofs.PcapBytes.{HasBytes}

-- what is said of a value that is there, in other words
if_weaker : (P Q : ℕ → Type 0) → ((n : ℕ) → P n → Q n) → (o : Option ℕ) → IfSome o P → IfSome o Q
if_weaker P Q turn None h = tt
if_weaker P Q turn (Some n) h = turn n h

if_there : (P Q : ℕ → Type 0) → ((n : ℕ) → P n → Q n) → (o : Option ℕ) → IsSomeAnd o P → IfSome o Q
if_there P Q turn None h = tt
if_there P Q turn (Some n) h = turn n h

-- numbers that ascend are at or above their places
at_or_above : (xs : List ℕ) → IsStrictlyIncreasing xs → (k : ℕ) → k < length xs → k ≤ slice_index xs k
at_or_above xs up zero within = omega arith
at_or_above xs up (suc k) within =
    let e : k + 1 ≡ suc k = omega arith in
    let less : slice_index xs k < slice_index xs (suc k) = subst (λ j. slice_index xs k < slice_index xs j) e (up k (omega (arith, within))) in
    let low : k ≤ slice_index xs k = at_or_above xs up k (omega (arith, within)) in
    omega (arith, less, low)

each_low : (bound : ℕ) (xs : List ℕ) → AllByRecursion (λ x. x < bound) xs → (k : ℕ) → k < length xs → slice_index xs k < bound
each_low bound [] all k within = absurd (omega (arith, within))
each_low bound (x ∷ xs) all zero within = all.0
each_low bound (x ∷ xs) all (suc k) within = each_low bound xs all.1 k (omega (arith, within))

-- so there are no more of them than numbers below a bound
few_ascending : (bound : ℕ) (xs : List ℕ) → IsStrictlyIncreasing xs → AllByRecursion (λ x. x < bound) xs → length xs ≤ bound
few_ascending bound xs up all =
    elim (cases_lt bound (length xs)) [
      | inr few ↦ few
      | inl many ↦
          let above : bound ≤ slice_index xs bound = at_or_above xs up bound many in
          let below : slice_index xs bound < bound = each_low bound xs all bound many in absurd (omega (arith, above, below))
    ]

-- the block parameters of valid settings
params_readable : (s : Settings) → IsValid s → ParamsInRange s.params → ReadableParams s.params
params_readable s valid range =
    let v = valid.params in
    let p : Params = s.params in
    let few : length p.rr_types ≤ 0x1_0000 = few_ascending 0x1_0000 p.rr_types v.rr_types range.rr_types in
    record {
      some_ticks = omega (arith, v.ticks.least);
      few_ticks = v.ticks.most;
      max_items = omega (arith, v.block_items.most);
      hints = record {
        qr = omega (arith, v.hints.qr_hints.most);
        sig = omega (arith, v.hints.sig_hints.most);
        rr = omega (arith, v.hints.rr_hints.most);
        other = omega (arith, v.hints.other_hints.most);
      };
      opcodes = range.opcodes;
      rr_types = range.rr_types;
      flags = v.flags;
      four_prefixes = range.four_prefixes;
      client_prefix4 = if_weaker _ _ (λ n h. omega (arith, h.most)) (slice_index_or p.prefixes 0 None) v.prefixes.client_prefix4;
      client_prefix6 = if_weaker _ _ (λ n h. omega (arith, h.most)) (slice_index_or p.prefixes 1 None) v.prefixes.client_prefix6;
      server_prefix4 = if_weaker _ _ (λ n h. omega (arith, h.most)) (slice_index_or p.prefixes 2 None) v.prefixes.server_prefix4;
      server_prefix6 = if_weaker _ _ (λ n h. omega (arith, h.most)) (slice_index_or p.prefixes 3 None) v.prefixes.server_prefix6;
      query_ms = if_there _ _ (λ n h. omega (arith, h.most)) p.query_ms v.query_timeout;
      skew_us = if_there _ _ (λ n h. omega (arith, h.most)) p.skew_us v.skew_timeout;
      is_short = omega (arith, preamble_short p, few);
    }

-- an event of a packet of bytes is in range, and its time and its size too
abbrev IsKept : EventParts → Type 0
IsKept e = EventInRange e × EventIsTimed e

found_kept : (rules : EventRules) (p : Packet) → HasBytes p → (f : Found) → layer_of rules.port p ≡ f → IfSome (event_found rules f) IsKept
found_kept rules p bytes (skipped reason) is = tt
found_kept rules p bytes (datagram d) is =
    elim (cases_lt 65535 (length d.payload)) [
      | inl long ↦ rw (lt-ltb 65535 (length d.payload) long) tt
      | inr short ↦ rw (le-ltb 65535 (length d.payload) short)
          (events_in_range rules d (datagrams_in_range rules.port p d bytes is), events_timed rules p d is short)
    ]

packet_kept : (rules : EventRules) (p : Packet) → HasBytes p → IfSome (event_of rules p) IsKept
unfolding event_of
packet_kept rules p bytes = found_kept rules p bytes (layer_of rules.port p) refl

events_kept : (rules : EventRules) (ps : List Packet) → All HasBytes ps → All IsKept (events_of rules ps)
events_kept rules [] all = All-nil IsKept
events_kept rules (p ∷ ps) all =
    filter_map_each IsKept (event_of rules) p ps (event_of rules p) refl (packet_kept rules p (All-head HasBytes p ps all))
    (events_kept rules ps (All-tail HasBytes p ps all))

-- those of a capture of bytes
compacted_kept : (rules : EventRules) (bytes : List ℕ) → AreBytes bytes → All IsKept (compacted_events rules bytes)
compacted_kept rules bytes all = events_kept rules (capture bytes).packets (packets_have_bytes bytes all)

all_first : (es : List EventParts) → All IsKept es → All EventInRange es
all_first [] all = All-nil EventInRange
all_first (e ∷ es) all = All-cons EventInRange e es (All-head IsKept e es all).0 (all_first es (All-tail IsKept e es all))

all_second : (es : List EventParts) → All IsKept es → All EventIsTimed es
all_second [] all = All-nil EventIsTimed
all_second (e ∷ es) all = All-cons EventIsTimed e es (All-head IsKept e es all).1 (all_second es (All-tail IsKept e es all))

-- the blocks of runs
runs_readable : (s : Settings) → IsValid s → (runs : List (List RecordParts)) → AllByRecursion (λ run. All RecordInRange run) runs →
    AllByRecursion (λ run. All RecordIsTimed run) runs → AllByRecursion (IsAdmissible (limits_of s)) runs →
    AllByRecursion ReadableBlock (blocks_of s.params runs)
runs_readable s valid [] range timed admissible = tt
runs_readable s valid (run ∷ runs) range timed admissible =
    let fits : IsAdmissible (limits_of s) run = admissible.0 in (
      blocks_readable s.params run range.0 timed.0 (omega (arith, fits.light, valid.block_bytes.most)),
      runs_readable s valid runs range.1 timed.1 admissible.1,
    )

-- the blocks of the runs of some records of a capture
blocks_readable_of : (s : Settings) (bytes : List ℕ) (rs : List Record) (runs : List (List RecordParts)) → IsValid s → AreBytes bytes →
    AreRuns (limits_of s) (records_at (compacted_events (rules_of s) bytes) rs) runs → AllByRecursion ReadableBlock (blocks_of s.params runs)
blocks_readable_of s bytes rs runs valid all cut =
    let es : List EventParts = compacted_events (rules_of s) bytes in
    let kept = compacted_kept (rules_of s) bytes all in
    let range = of_runs RecordInRange (records_at es rs) runs cut.whole (of_records EventInRange es rs (all_first es kept)) in
    let timed = of_runs RecordIsTimed (records_at es rs) runs cut.whole (of_records EventIsTimed es rs (all_second es kept)) in
    runs_readable s valid runs range timed (each_of (IsAdmissible (limits_of s)) runs cut.admissible)

-- the law of files
pub files_read_back : FilesAreReadBack
files_read_back s bytes file valid range all is =
    ap read_file is.same
    ∙ file_is_read_back s.params (blocks_of s.params is.compaction.runs) (params_readable s valid range)
    (blocks_readable_of s bytes _ is.compaction.runs valid all is.compaction.cut)

-- blocks resolve to the kept blocks of their runs
runs_resolved : (p : Params) (runs : List (List RecordParts)) → AllByRecursion (λ run. All RecordInRange run) runs →
    AreResolved (blocks_of p runs) (map (kept_block p) runs)
runs_resolved p [] range = tt
runs_resolved p (run ∷ runs) range =
    (indexed_resolves (kept_block p run) (blocks_named p run range.0), runs_resolved p runs range.1)

-- the records of each run of a capture of bytes are in range
pub runs_in_range : (s : Settings) (bytes : List ℕ) (c : Compaction s (compacted_events (rules_of s) bytes)) → AreBytes bytes →
    AllByRecursion (λ run. All RecordInRange run) c.runs
runs_in_range s bytes c all =
    let es : List EventParts = compacted_events (rules_of s) bytes in
    of_runs RecordInRange _ c.runs c.cut.whole (of_records EventInRange es _ (all_first es (compacted_kept (rules_of s) bytes all)))

-- the law of files with each value in its place
pub files_kept : FilesAreKept
files_kept s bytes file valid range all is =
    let runs : List (List RecordParts) = is.compaction.runs in
    ap kept_file is.same
    ∙ file_is_kept s.params (blocks_of s.params runs) (map (kept_block s.params) runs) (params_readable s valid range)
    (blocks_readable_of s bytes _ runs valid all is.compaction.cut) (runs_resolved s.params runs (runs_in_range s bytes is.compaction all))

-- the first of some blocks
first_readable : (p : Params) (n : ℕ) (runs : List (List RecordParts)) → AllByRecursion ReadableBlock (blocks_of p runs) →
    AllByRecursion ReadableBlock (blocks_of p (take n runs))
first_readable p zero runs all = tt
first_readable p (suc n) [] all = tt
first_readable p (suc n) (run ∷ runs) all = (all.0, first_readable p n runs all.1)

-- the law of closed parts
pub closed_parts_read_back : ClosedPartsAreReadBack
closed_parts_read_back s bytes front valid range all is =
    ap read_file is.same
    ∙ open_file_is_read_back s.params (blocks_of s.params (but_last is.released.runs)) (params_readable s valid range)
    (first_readable s.params (length is.released.runs - 1) is.released.runs
    (blocks_readable_of s bytes _ is.released.runs valid all is.released.cut))
