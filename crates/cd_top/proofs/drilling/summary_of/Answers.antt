use Rattle.cd_ports.specs.Memory.{mem_sink_held}
use Rattle.cd_top.proofs.Drilled.{summary_is}
use Rattle.cd_top.proofs.drilling.summary_of.Goals as goal

pub returns : goal.returns
returns c =
    summary_is c.args.settings.now c.in_ok-capture.capture (mem_sink_held c.in_ok-made.made.file) c.contents-file.result.now c.in_ok-made.made.counts
    c.in_ok-rebuilt.rebuilt c.summary.result (λ text. text.bytes.items) c.in_ok-capture.ensures c.contents-file.ensures c.in_ok-made.ensures.file
    c.in_ok-made.ensures.counts c.in_ok-rebuilt.ensures c.summary.ensures
