use Rattle.std.proofs.Common.{sym, arith}
use Rattle.cd_pcapng.proofs.Units.{ten_pos, coarse_units, fine_units, tiny_units}
use Rattle.cd_pcapng.proofs.clock.decimal_nanos.Goals as goal

pub nonzero_div-ticks : goal.nonzero_div-ticks
nonzero_div-ticks c = rw c.pow-then-resolution-le28.ensures (ten_pos c.from-then-resolution-le28.result)

pub returns-then-resolution-le9 : goal.returns-then-resolution-le9
returns-then-resolution-le9 c =
    rw (c.from.ensures, c.from-then-resolution-le9-2.ensures, c.pow.ensures, c.from-then-resolution-le9.ensures)
    (coarse_units c.args.resolution c.args.ticks (omega arith))

pub returns-then-resolution-le28 : goal.returns-then-resolution-le28
returns-then-resolution-le28 c =
    rw (c.from-then-resolution-le28-2.ensures, c.pow-then-resolution-le28.ensures, c.from-then-resolution-le28.ensures)
    (fine_units c.args.resolution c.args.ticks (omega arith))

pub returns-else-resolution-le28 : goal.returns-else-resolution-le28
returns-else-resolution-le28 c = sym (tiny_units c.args.resolution c.args.ticks (omega arith) (omega arith))
