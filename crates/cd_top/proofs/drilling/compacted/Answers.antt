use Rattle.std.proofs.Common.{refl}
use Rattle.std.specs.Prelude.{drop}
use Rattle.cd_hints.specs.Settings.{default_settings}
use Rattle.cd_ports.specs.Memory.{sure_source, mem_sink, mem_sink_held}
use Rattle.cd_top.proofs.Drilled.{file_made, counts_made}
use Rattle.cd_top.proofs.Telling.{done_goes}
use Rattle.cd_top.proofs.drilling.compacted.Goals as goal

pub returns-in-Done-clause-file : goal.returns-in-Done-clause-file
returns-in-Done-clause-file c =
    file_made c.in_ok-settings.settings default_settings c.in_ok-settings.ensures.defaults c.args.capture
    (drop c.compact_plain-ended.new.src.at c.compact_plain-ended.new.src.bytes) (sure_source c.new-src.result) (sure_source c.compact_plain-ended.new.src)
    (mem_sink c.new-file.result) (mem_sink c.compact_plain-ended.new.out) c.compact_plain-ended.result c.new-src.ensures refl
    (c.compact_plain-ended.ensures.at_end (done_goes c.compact_plain-ended.result.0 c.in-Done.is) (c.compact_plain-ended.ensures.done c.in-Done.is)) c.in-Done.is
    c.compact_plain-ended.ensures.told c.each_capture_has_one_file.ensures (mem_sink_held c.compact_plain-ended.new.out) c.in_ok-settings.ensures.valid
    c.new-file.ensures.meaning refl

pub returns-in-Done-clause-counts : goal.returns-in-Done-clause-counts
returns-in-Done-clause-counts c =
    counts_made c.in_ok-settings.settings default_settings c.in_ok-settings.ensures.defaults c.args.capture
    (drop c.compact_plain-ended.new.src.at c.compact_plain-ended.new.src.bytes) (sure_source c.new-src.result) (sure_source c.compact_plain-ended.new.src)
    (mem_sink c.new-file.result) (mem_sink c.compact_plain-ended.new.out) c.compact_plain-ended.result c.new-src.ensures refl
    (c.compact_plain-ended.ensures.at_end (done_goes c.compact_plain-ended.result.0 c.in-Done.is) (c.compact_plain-ended.ensures.done c.in-Done.is)) c.in-Done.is
    c.compact_plain-ended.ensures.told
