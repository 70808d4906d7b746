-- The array has the numbers of the time, and what is wrong with it is wrong with the time.
use Rattle.std.proofs.Common.{◌≡◌, Some, sym, ◌∙◌}
use Rattle.std.specs.Prelude.{pos}
use Rattle.cd_file.specs.Kinds.{stamp_in}
use Rattle.cd_file.proofs.TimesSeen.{stamp_fault, stamp_read}
use Rattle.cd_file.proofs.reading.time.stamp.Goals as goal

pub returns-in-Err : goal.returns-in-Err
returns-in-Err c = λ item end stands. stamp_fault (pos c.args.key) item end c.in-Err.fault (rw c.in-Err.is at c.array_of.ensures item end stands)

pub returns-in-Some : goal.returns-in-Some
returns-in-Some c = λ item end stands.
    let is : stamp_in c.in-Ok.read.0 ≡ Some c.in-Some.time = rw c.as_slice.ensures at (sym c.stamp_of.ensures ∙ c.in-Some.is) in
    stamp_read (pos c.args.key) item end c.in-Ok.read.0 c.in-Ok.read.1 c.in-Some.time (rw c.in-Ok.is at c.array_of.ensures item end stands) is
