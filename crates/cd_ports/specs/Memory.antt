-- What the sources and sinks in memory mean.
use Rattle.std.specs.Prelude.{◌≡◌, ℕ, ◌-◌, min, max, Bool, true, false, nat_eq, List, [], ◌++◌, length, take, drop, is_err, IfOk, MatchResult, slice_get}
use Rattle.std.specs.List.{list_any}
use Rattle.std.specs.declared.option.Option.TheVariants.{Some}
use Rattle.std.specs.declared.option.Option.{Option}
use Rattle.std.specs.declared.option.Option.TheVariants.{None}
use Rattle.std.specs.declared.result.Result.{Result}
use Rattle.std.specs.declared.result.Result.TheVariants.{Ok, Err}
use Rattle.cd_ports.specs.Counter.{next_count}
use Rattle.cd_ports.specs.Reading.{SourceMeaning}
use Rattle.cd_ports.specs.Writing.{SinkMeaning}
use Rattle.cd_ports.specs.declared.mem_sink.MemSink.{MemSink}
use Rattle.cd_ports.specs.declared.mem_source.MemSource.{MemSource}
use Rattle.cd_ports.specs.declared.sure_source.SureSource.{SureSource}
use Rattle.cd_ports.specs.declared.cut_source.CutSource.{CutSource}
use Rattle.cd_ports.specs.declared.sink.SinkFault.{SinkFault}
use Rattle.cd_ports.specs.declared.sink.SinkFault.TheVariants as fault

-- what a `MemSource` means
abbrev pub mem_source : MemSource → SourceMeaning
mem_source s = record {
  left = Some (drop s.at s.bytes);
  faults = s.faults;
  ended = s.ended;
  failed = s.failed;
  calls = s.calls;
  late = s.late;
}

-- what a `SureSource` means
abbrev pub sure_source : SureSource → SourceMeaning
sure_source s = record {
  left = Some (drop s.at s.bytes);
  faults = 0;
  ended = s.ended;
  failed = false;
  calls = s.calls;
  late = false;
}

-- the numbers of the calls that fail
abbrev pub mem_source_fails : MemSource → List ℕ
mem_source_fails s = s.fails

-- a new source of these bytes
abbrev pub fresh_source : List ℕ → SourceMeaning
fresh_source bytes = record {
  left = Some bytes;
  faults = 0;
  ended = false;
  failed = false;
  calls = 0;
  late = false;
}

-- a call fails exactly where its number is listed
abbrev pub FailsAsListed : MemSource → {T E : Type 0} → Result T E → Type 0
FailsAsListed s result = is_err result ≡ list_any (λ k. nat_eq k s.calls) s.fails

-- a call raises the count where it fails, and leaves it otherwise
abbrev pub CountsFaults : MemSource → MemSource → {T E : Type 0} → Result T E → Type 0
CountsFaults old new result = MatchResult result (λ _. new.faults ≡ old.faults) (λ _. new.faults ≡ next_count old.faults)

-- what a `MemSource` gives is what is left, as far as it fits
abbrev pub GivesAsManyAsFit : MemSource → {E : Type 0} → Result ℕ E → List ℕ → Type 0
GivesAsManyAsFit s result buf = IfOk result (λ n. n ≡ min (length s.bytes - s.at) (length buf))

-- what a `SureSource` gives is what is left, as far as it fits
abbrev pub SureGivesAsManyAsFit : SureSource → {E : Type 0} → Result ℕ E → List ℕ → Type 0
SureGivesAsManyAsFit s result buf = IfOk result (λ n. n ≡ min (length s.bytes - s.at) (length buf))

-- what a `CutSource` means
abbrev pub cut_source : CutSource → SourceMeaning
cut_source s = record {
  left = Some (drop s.at s.bytes);
  faults = 0;
  ended = s.ended;
  failed = false;
  calls = s.calls;
  late = false;
}

-- the sizes of the chunks
abbrev pub cut_source_sizes : CutSource → List ℕ
cut_source_sizes s = s.sizes

-- the room of a chunk: its size where there is one, and at least 1; else the buffer's
abbrev pub chunk_room : Option ℕ → ℕ → ℕ
chunk_room None buffer = buffer
chunk_room (Some size) buffer = max size 1

-- the room of the next chunk
abbrev pub cut_room : CutSource → ℕ → ℕ
cut_room s buffer = chunk_room (slice_get s.sizes s.calls) buffer

-- what is given is what is left, as far as the chunk and the buffer have room
abbrev pub GivesChunk : CutSource → {E : Type 0} → Result ℕ E → List ℕ → Type 0
GivesChunk s result buf = IfOk result (λ n. n ≡ min (length s.bytes - s.at) (min (cut_room s (length buf)) (length buf)))

-- what a `MemSink` means
abbrev pub mem_sink : MemSink → SinkMeaning
mem_sink s = record {
  contents = Some s.held.items;
  faults = s.faults;
  failed = s.failed;
  refused = s.refused;
}

-- what it holds
abbrev pub mem_sink_held : MemSink → List ℕ
mem_sink_held s = s.held.items

-- how many calls of `write` there were
abbrev pub mem_sink_calls : MemSink → ℕ
mem_sink_calls s = s.calls

-- the numbers of the calls that fail
abbrev pub mem_sink_fails : MemSink → List ℕ
mem_sink_fails s = s.fails

-- how many bytes of its piece a call that fails appends
abbrev pub mem_sink_keep : MemSink → ℕ
mem_sink_keep s = s.keep

-- the next call is one of those that fail
abbrev pub next_fails : MemSink → Bool
next_fails s = list_any (λ k. nat_eq k s.calls) s.fails

-- What a call appends. It fails exactly where its number is listed, or finds no memory.
abbrev pub WritesAsListed : {T : Type 0} → MemSink → MemSink → List ℕ → Result T SinkFault → Type 0
WritesAsListed old new piece (Ok x) =
    (next_fails old ≡ false) × (mem_sink_held new ≡ mem_sink_held old ++ piece) × (new.faults ≡ old.faults)
WritesAsListed old new piece (Err fault.Failed) =
    (next_fails old ≡ true) × (mem_sink_held new ≡ mem_sink_held old ++ take old.keep piece) × (new.faults ≡ next_count old.faults)
WritesAsListed old new piece (Err fault.NoMemory) = (mem_sink_held new ≡ mem_sink_held old) × (new.faults ≡ old.faults)

-- a new sink
abbrev pub fresh_sink : SinkMeaning
fresh_sink = record {
  contents = Some [];
  faults = 0;
  failed = false;
  refused = false;
}
