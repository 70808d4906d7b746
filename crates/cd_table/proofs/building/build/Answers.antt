-- The block whose tables grow in order is the block of the kept block, which resolves to it.
use Rattle.std.proofs.Common.{◌≡◌, Ok, Err, ap, ◌∙◌}
use Rattle.std.specs.Prelude.{Result, IfOk}
use Rattle.cd_block.specs.declared.block.Block.{Block}
use Rattle.cd_block.specs.declared.kept.KeptBlock.{KeptBlock}
use Rattle.cd_block.specs.Resolving.{resolved}
use Rattle.cd_block.specs.Tables.{indexed}
use Rattle.cd_table.specs.Growing.{built}
use Rattle.cd_table.proofs.Built.{built_is_indexed}
use Rattle.cd_table.proofs.building.build.Goals as goal

-- a block that is built resolves to the kept block where the indexed block does
resolves_built : {E : Type 0} (kept : KeptBlock) (r : Result Block E) → IfOk r (λ b. b ≡ built kept) → resolved (indexed kept) ≡ Ok kept → IfOk r (λ b. resolved b ≡ Ok kept)
resolves_built kept (Ok b) same law = ap resolved (same ∙ built_is_indexed kept) ∙ law
resolves_built kept (Err e) same law = tt

pub returns-clause-indexed : goal.returns-clause-indexed
returns-clause-indexed c = rw (← built_is_indexed c.args.kept.now) c.build_in_order.ensures

pub returns-clause-resolves : goal.returns-clause-resolves
returns-clause-resolves c =
    resolves_built c.args.kept.now c.build_in_order.result c.build_in_order.ensures c.what_is_indexed_resolves.ensures
