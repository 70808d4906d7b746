-- What the adapters of std's readers and writers mean. They tell no bytes.
use Rattle.std.specs.Prelude.{false, None}
use Rattle.cd_ports.specs.Reading.{SourceMeaning}
use Rattle.cd_ports.specs.Writing.{SinkMeaning}
use Rattle.cd_ports.specs.declared.std_ports.StdSource.{StdSource}
use Rattle.cd_ports.specs.declared.std_ports.StdSink.{StdSink}

-- what a `StdSource` means
abbrev pub std_source : {R : Type 0} → StdSource R → SourceMeaning
std_source s = record { left = None; faults = s.faults; ended = s.ended; failed = s.failed; calls = s.calls; late = s.late }

-- the reader below
abbrev pub std_source_reader : {R : Type 0} → StdSource R → R
std_source_reader s = s.inner

-- a new source that tells no bytes
abbrev pub silent_source : SourceMeaning
silent_source = record { left = None; faults = 0; ended = false; failed = false; calls = 0; late = false }

-- what a `StdSink` means
abbrev pub std_sink : {W : Type 0} → StdSink W → SinkMeaning
std_sink s = record { contents = None; faults = s.faults; failed = s.failed; refused = s.failed }

-- the writer below
abbrev pub std_sink_writer : {W : Type 0} → StdSink W → W
std_sink_writer s = s.inner

-- a new sink that tells no bytes
abbrev pub silent_sink : SinkMeaning
silent_sink = record { contents = None; faults = 0; failed = false; refused = false }
