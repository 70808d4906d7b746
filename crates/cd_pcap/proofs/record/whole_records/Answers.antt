use Rattle.std.proofs.Common.{drop, arith}
use Rattle.std.proofs.lemmas.List.{length-drop, take_rest}
use Rattle.cd_pcap.specs.Fronts.{HasRecord}
use Rattle.cd_pcap.proofs.Marks.{none_whole, one_more_whole}
use Rattle.cd_pcap.proofs.record.whole_records.Goals as goal

pub records-init : goal.records-init
records-init c = record { within = omega arith; whole = λ link. none_whole c.args.form link c.args.at }

pub records-preserved : goal.records-preserved
records-preserved c =
    let first : HasRecord c.args.form c.in-Record.more (drop c.records.size c.args.bytes.now) =
    rw take_rest at c.in-Record.ensures in
    record {
      within = omega (arith, first.whole, c.records.invariant.within, length-drop c.records.size c.args.bytes.now);
      whole = λ link. one_more_whole c.args.form link c.args.at c.records.size c.in-Record.more c.args.bytes.now c.records.invariant.within (c.records.invariant.whole link) first;
    }

pub returns-in-Refused : goal.returns-in-Refused
returns-in-Refused c = record {
  within = c.records.invariant.within;
  whole = c.records.invariant.whole;
  stopped = rw take_rest at c.in-Refused.ensures;
}
