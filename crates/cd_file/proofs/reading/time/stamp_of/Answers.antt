-- The two numbers are those of the time.
use Rattle.std.proofs.Common.{arith}
use Rattle.cd_file.proofs.TimesSeen.{two_numbers}
use Rattle.cd_file.proofs.reading.time.stamp_of.Goals as goal

pub returns-in-len2 : goal.returns-in-len2
returns-in-len2 c = two_numbers c.args.numbers.now (omega (arith, c.in-len2.len_at_least, c.in-len2.len_below)) (omega (arith, c.in-len2.len_at_least, c.in-len2.len_below))
