use Rattle.std.proofs.Common.{◌≡◌, ◌+◌, ◌≤◌, false, length}
use Rattle.cd_drive.proofs.BetweenReads.{BetweenReads}
use Rattle.cd_drive.proofs.driving.read_all.Given as goal

abbrev pub invariant-reads : goal.invariant-reads
invariant-reads g l =
    let m = g.M.Machine in
    let old = g.S.Source.means l.fn.src in
    let now = g.S.Source.means l.src in
    record {
      buffer : length l.chunk.items ≡ 65536;
      between : BetweenReads (m.means l.fn.machine) l.max_input (m.stands l.machine) old now
          (g.K.Sink.means l.fn.out) (g.K.Sink.means l.out) l.room;
      same : m.means l.machine ≡ m.means l.fn.machine;
      space : l.room ≤ m.space l.machine + 1;
      later : old.faults ≤ now.faults;
      failed : now.failed ≡ old.failed;
      late : old.failed ≡ false → now.late ≡ old.late;
      calls : now.calls + l.room ≤ old.calls + l.max_input + 1;
    }

abbrev pub decreases-reads : goal.decreases-reads
decreases-reads g l = l.room
