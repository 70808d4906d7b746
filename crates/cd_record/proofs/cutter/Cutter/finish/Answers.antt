use Rattle.std.proofs.Common.{◌≡◌, Some, refl, arith}
use Rattle.std.proofs.lemmas.Grind.{common_steps}
use Rattle.cd_record.specs.Blocks.{run_parts, counted_run}
use Rattle.cd_record.proofs.Histories.{AreRuns_finish}
use Rattle.cd_record.proofs.Tallying.{sound_empty}
use Rattle.cd_record.proofs.cutter.Cutter.finish.Goals as goal

pub invariant_of-self : goal.invariant_of-self
invariant_of-self c =
    rw (c.replace-run.ensures.after, c.new.ensures.recs, c.new.ensures.tally c.self.inside.ticks) (sound_empty _ _ _ _ c.self.invariant)

pub returns-clause-none : goal.returns-clause-none
returns-clause-none c = grind (arith, common_steps)

pub returns-clause-whole : goal.returns-clause-whole
returns-clause-whole c = λ pushed runs before.
    let given : run_parts c.into_block.result ≡ counted_run c.args.self.now.ticks c.args.self.now.run =
    rw (← c.self.view_is, c.into_block.ensures, c.replace-run.ensures.value, c.self.invariant.counted) refl in
    AreRuns_finish c.args.self.now (Some c.into_block.result) pushed runs (returns-clause-none c) given before
