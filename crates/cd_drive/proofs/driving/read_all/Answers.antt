use Rattle.std.proofs.Common.{◌∙◌, length, arith, sym, refl, ◌<◌}
use Rattle.std.proofs.Math.Bool.{or-false}
use Rattle.cd_drive.proofs.BetweenReads.{reads_none, reads_refused, reads_stopped, reads_cut}
use Rattle.cd_drive.proofs.BetweenReads.{chunk_at, writes_at, between_next}
use Rattle.cd_drive.proofs.driving.read_all.Goals as goal

pub returns-in-Err-clause-reads : goal.returns-in-Err-clause-reads
returns-in-Err-clause-reads g c = reads_none _ _ _ _ _ (g.met.M.Machine.lawful c.args.machine.now)

pub returns-in-Err-take_chunk-clause-reads : goal.returns-in-Err-take_chunk-clause-reads
returns-in-Err-take_chunk-clause-reads g c =
    reads_refused _ _ _ _ _ _ _ _ _ _ _ c.in-Err-take_chunk.field-0
    (g.met.M.Machine.lawful c.args.machine.now) c.reads.invariant.between
    (chunk_at _ _ _ _ (g.S.Source.means c.reads.src) (g.S.Source.means c.take_chunk.new.src) _ _ _
    c.reads.invariant.same c.in-Err-take_chunk.ensures.step)
    (omega (arith, c.take_chunk.ensures.calls, c.reads.invariant.calls, c.reads.invariant.between.count))

pub returns-in-Some-clause-reads : goal.returns-in-Some-clause-reads
returns-in-Some-clause-reads g c =
    reads_stopped _ _ _ _ _ _ _ _ _ _ _ _ _ c.reads.invariant.between
    (chunk_at _ _ _ _ (g.S.Source.means c.reads.src) (g.S.Source.means c.take_chunk.new.src) _ _ _
    c.reads.invariant.same (rw c.in-Some.is at c.in-Ok-take_chunk.ensures.step))
    (omega (arith, c.take_chunk.ensures.calls, c.reads.invariant.calls, c.reads.invariant.between.count))

pub returns-in-Err-write_ready-2-clause-reads : goal.returns-in-Err-write_ready-2-clause-reads
returns-in-Err-write_ready-2-clause-reads g c =
    let same = c.in-Ok-take_chunk.ensures.same ∙ c.reads.invariant.same in
    reads_cut _ _ _ _ (g.M.Machine.stands c.take_chunk.new.machine) _ _ _ _ _ _ _ _ _ _ c.reads.invariant.between
    (chunk_at _ _ _ _ (g.S.Source.means c.reads.src) (g.S.Source.means c.take_chunk.new.src) _ _ _
    c.reads.invariant.same (rw c.in-None.is at c.in-Ok-take_chunk.ensures.step))
    (writes_at _ _ _ _ _ _ same c.in-Err-write_ready-2.ensures.step)
    (omega (arith, c.take_chunk.ensures.calls, c.reads.invariant.calls, c.reads.invariant.between.count))

pub reads-preserved : goal.reads-preserved
reads-preserved g c =
    let same = c.in-Ok-take_chunk.ensures.same ∙ c.reads.invariant.same in
    let step = rw c.in-None.is at c.in-Ok-take_chunk.ensures.step in
    let more : 0 < length step.0 = step.2.more refl in
    let w = c.in-Ok-write_ready-2.ensures in
    record {
      buffer = c.take_chunk.ensures.buffer;
      between = between_next _ _ _ _ (g.M.Machine.stands c.take_chunk.new.machine) _ _ _ _ _ _ _ _ _
          c.reads.invariant.between
          (chunk_at _ _ _ _ (g.S.Source.means c.reads.src) (g.S.Source.means c.take_chunk.new.src) _ _ _
          c.reads.invariant.same step)
          (writes_at _ _ _ _ _ _ same w.step)
          (λ fed cleared stands. rw (sym same) (w.history fed cleared stands));
      same = w.same ∙ same;
      space = omega (arith, w.space, c.in-Ok-take_chunk.ensures.space);
      later = omega (arith, c.take_chunk.ensures.later, c.reads.invariant.later);
      failed = rw c.in-None.is at c.in-Ok-take_chunk.ensures.failed ∙ or-false _ ∙ c.reads.invariant.failed;
      late = λ e. c.in-Ok-take_chunk.ensures.late (c.reads.invariant.failed ∙ e) ∙ c.reads.invariant.late e;
      calls = omega (arith, c.take_chunk.ensures.calls, c.reads.invariant.calls, step.2.room, more);
    }
