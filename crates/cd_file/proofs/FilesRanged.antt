-- What any bytes give as a file lies in its ranges.
use Rattle.std.proofs.Common.{◌≡◌, List, Option, Some, None, Ok, refl}
use Rattle.std.specs.Prelude.{IfSome}
use Rattle.std.specs.List.{AllByRecursion}
use Rattle.cd_block.specs.Resolving.{resolved}
use Rattle.cd_block.specs.declared.block.Block.{Block}
use Rattle.cd_block.specs.declared.kept.KeptBlock.{KeptBlock}
use Rattle.cd_block.specs.declared.params.Params.{Params}
use Rattle.cd_file.specs.KeptFile.{kept_file}
use Rattle.cd_file.specs.ReadFile.{read_file}
use Rattle.cd_file.specs.ReadRanges.{ParamsAreRead, BlockIsRead, ReadInRange}
use Rattle.cd_file.proofs.BlocksTold.{Holding, Named, Holds, file_holds}
use Rattle.cd_file.proofs.KeptRanged.{kept_ranged}
use Rattle.cd_file.proofs.KeptTold.{kept_all}
use Rattle.cd_file.proofs.ParamsRanged.{params_ranged}
use Rattle.cd_file.proofs.TablesRanged.{BlockRanged, block_ranged}

-- the ranges of the parts of a file
in_range : Holding
in_range = record { of_params = AllByRecursion ParamsAreRead; of_block = λ count. BlockRanged }

parts_in_range : Holds in_range
unfolding in_range
parts_in_range = record { params = params_ranged; block = λ count item b h named. block_ranged item b h }

params_in_range : (o : Option (List Params)) → ((entries : List Params) → o ≡ Some entries → AllByRecursion ParamsAreRead entries) → IfSome o (AllByRecursion ParamsAreRead)
params_in_range None each = tt
params_in_range (Some entries) each = each entries refl

kept_in_range : (entries : Option (List Params)) (b : Block) (kept : KeptBlock) → resolved b ≡ Ok kept → Named in_range entries b → BlockIsRead kept
unfolding in_range
kept_in_range None b kept is named = absurd named
kept_in_range (Some entries) b kept is named = kept_ranged b named kept is

pub read_in_range : ReadInRange
unfolding kept_file in_range
read_in_range bytes =
    let of = file_holds in_range parts_in_range bytes in
    let file = read_file bytes in
    record {
      params = params_in_range file.params (let each : (entries : List Params) → file.params ≡ Some entries → AllByRecursion ParamsAreRead entries = of.params in each);
      blocks = kept_all (Named in_range file.params) BlockIsRead (kept_in_range file.params) file.blocks file.end of.blocks;
    }
