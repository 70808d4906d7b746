use Rattle.std.proofs.lemmas.List.Elements.{All-nil}
use Rattle.cd_message.specs.Written.{record_piece}
use Rattle.cd_message.specs.WrittenLaws.{RecordNumbersFit}
use Rattle.cd_message.proofs.InTurn.{rest_with_item, rest_fails_at_item, rest_is_none, all_with_item, all_of_front}
use Rattle.cd_message.proofs.writing.Writing.put_records.Goals as goal

pub records-init : goal.records-init
records-init c = (λ end r h. h, c.requires, All-nil RecordNumbersFit)

pub returns-in_err-put_record-clause-puts : goal.returns-in_err-put_record-clause-puts
returns-in_err-put_record-clause-puts c =
    rest_fails_at_item record_piece c.args.records.now c.records.record-index c.record-item.result c.args.self.now c.records.self c.put_record.new.self c.in_err-put_record.field-0.0
    c.from_residual.result c.records-test.true c.record-item.is c.records.invariant.0 c.in_err-put_record.ensures.puts c.from_residual.ensures

pub records-preserved : goal.records-preserved
records-preserved c = (
  rest_with_item record_piece c.args.records.now c.records.record-index c.record-item.result c.args.self.now c.records.self c.put_record.new.self c.records-test.true c.record-item.is
      c.records.invariant.0 c.in_ok-put_record.ensures.puts,
  c.in_ok-put_record.ensures.puts.1,
  all_with_item RecordNumbersFit c.args.records.now c.records.record-index c.record-item.result c.records-test.true c.record-item.is c.records.invariant.2 c.in_ok-put_record.ensures.fits,
)

pub returns-clause-puts : goal.returns-clause-puts
returns-clause-puts c = rest_is_none record_piece c.args.records.now c.records.record-index c.args.self.now c.records.self c.records-test.false c.records.invariant.1 c.records.invariant.0

pub returns-clause-fit : goal.returns-clause-fit
returns-clause-fit c = all_of_front RecordNumbersFit c.args.records.now c.records.record-index c.records-test.false c.records.invariant.2
