-- What a sink that drops its bytes means: it tells nothing, and never fails.
use Rattle.std.specs.Prelude.{false, None}
use Rattle.cd_ports.specs.Writing.{SinkMeaning}
use Rattle.cd_drive.specs.declared.no_sink.NoSink.{NoSink}

-- what a `NoSink` means
abbrev pub no_sink : NoSink → SinkMeaning
no_sink s = record { contents = None; faults = 0; failed = false; refused = false }
