use Rattle.std.proofs.Common.{◌+◌, ◌-◌, ◌*◌, ◌∙◌, sym, arith}
use Rattle.cd_name.proofs.Readings.{reading-none, reading-root, reading-label, reading-cut, reading-reserved, reading-pointer_cut, reading-back, reading-forward}
use Rattle.cd_name.proofs.piece.piece_at.Goals as goal

pub returns-then-at-payload : goal.returns-then-at-payload
returns-then-at-payload c = (_, reading-none c.args.payload.now c.args.start c.args.at (omega arith))

pub returns-then-first-eq0 : goal.returns-then-first-eq0
returns-then-first-eq0 c = (omega arith, reading-root c.args.payload.now c.args.start c.args.at (omega arith) (sym c.from-first.ensures ∙ c.if-first-eq0.true))

pub returns-then-first-payload : goal.returns-then-first-payload
returns-then-first-payload c =
    (omega arith, omega arith, omega arith, sym c.from-first.ensures, reading-label c.args.payload.now c.args.start c.args.at c.from-first.result (sym c.from-first.ensures) (omega arith) (omega arith) (omega arith))

pub returns-else-first-payload : goal.returns-else-first-payload
returns-else-first-payload c =
    (_, reading-cut c.args.payload.now c.args.start c.args.at c.from-first.result (sym c.from-first.ensures) (omega arith) (omega arith) (omega arith) (omega arith))

pub returns-then-first-lt-FIRST_POINTER : goal.returns-then-first-lt-FIRST_POINTER
returns-then-first-lt-FIRST_POINTER c =
    (_, reading-reserved c.args.payload.now c.args.start c.args.at c.from-first.result (sym c.from-first.ensures) (omega arith) (omega arith) (omega arith))

pub returns-then-payload-at-lt2 : goal.returns-then-payload-at-lt2
returns-then-payload-at-lt2 c =
    (_, reading-pointer_cut c.args.payload.now c.args.start c.args.at c.from-first.result (sym c.from-first.ensures) (omega arith) (omega arith))

pub returns-then-target-start : goal.returns-then-target-start
returns-then-target-start c =
    (omega arith, omega arith, reading-back c.args.payload.now c.args.start c.args.at c.from-first.result _ (sym c.from-first.ensures) (omega arith) (omega arith) (omega (arith, c.from.ensures)) (omega arith))

pub returns-else-target-start : goal.returns-else-target-start
returns-else-target-start c =
    (_, reading-forward c.args.payload.now c.args.start c.args.at c.from-first.result ((c.from-first.result - 192) * 256 + c.from.result) (sym c.from-first.ensures) (omega arith) (omega arith) (omega (arith, c.from.ensures)) (omega arith))
