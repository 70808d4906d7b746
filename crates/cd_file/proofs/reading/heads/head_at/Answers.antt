-- A head is read as the definition reads it.
use Rattle.cd_file.proofs.HeadsOf.{no_byte, no_argument, argument_head, bare_head, is_fault}
use Rattle.cd_file.proofs.reading.heads.head_at.Goals as goal

pub returns-in-Err : goal.returns-in-Err
returns-in-Err c = λ depth item end is.
    let f = is_fault c.args.bytes.now c.in-Err._none _ c.in-Err.ensures.read c.in-Err.ensures.fault in
    absurd (no_byte depth c.args.bytes.now c.args.at item end is f.0 f.1)

pub returns-then-info-ge-NO_ARGUMENT : goal.returns-then-info-ge-NO_ARGUMENT
returns-then-info-ge-NO_ARGUMENT c = λ depth item end is.
    rw c.major_type-kind.ensures
    (bare_head depth c.args.bytes.now c.args.at item end is c.in-Ok.first c.in-Ok.ensures.read c.if-info-ge-NO_ARGUMENT.true)

pub returns-in-Ok-argument_at : goal.returns-in-Ok-argument_at
returns-in-Ok-argument_at c = λ depth item end is.
    rw c.major_type-kind.ensures
    (argument_head depth c.args.bytes.now c.args.at item end is c.in-Ok.first c.in-Ok-argument_at.argument c.in-Ok-argument_at.next c.in-Ok.ensures.read c.if-info-ge-NO_ARGUMENT.false
    c.in-Ok-argument_at.ensures.read)

pub returns-in-Err-argument_at : goal.returns-in-Err-argument_at
returns-in-Err-argument_at c = λ depth item end is.
    let f = is_fault c.args.bytes.now c.in-Err-argument_at._none _ c.in-Err-argument_at.ensures.read c.in-Err-argument_at.ensures.fault in
    absurd (no_argument depth c.args.bytes.now c.args.at item end is c.in-Ok.first f.0 c.in-Ok.ensures.read c.if-info-ge-NO_ARGUMENT.false f.1)
