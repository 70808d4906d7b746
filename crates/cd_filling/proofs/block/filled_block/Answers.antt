-- what was put is the block of the run
use Rattle.std.proofs.Common.{ap, ◌∙◌}
use Rattle.cd_record.specs.Blocks.{RunParts, run_parts}
use Rattle.cd_filling.proofs.Filled.{filled}
use Rattle.cd_filling.proofs.block.filled_block.Goals as goal

pub returns : goal.returns
returns c =
    let run : RunParts = run_parts c.args.run in
    let items = rw (c.new-tables.ensures, c.into_vec.ensures) at c.in_ok-placed.ensures.items in
    let messages = rw (c.new-tables.ensures, c.into_vec.ensures) at c.in_ok-placed.ensures.malformed in
    let tables = rw (c.new-tables.ensures, c.into_vec.ensures) at c.in_ok-placed.ensures.tables in
    rw c.empty_block-frame.ensures at c.in_ok-block.ensures
    ∙ filled c.args.settings.now.params run.records run.earliest run.stats _ _ _
    (ap (λ (r : RunParts). r.earliest) c.requires.counted) (ap (λ (r : RunParts). r.stats) c.requires.counted) items messages tables
