-- The bytes are too many, or all of them are judged.
use Rattle.std.proofs.Common.{sym, arith}
use Rattle.std.proofs.lemmas.List.{length-take-le, take_all}
use Rattle.cd_file.specs.ReadFile.{most_item}
use Rattle.cd_file.proofs.fronts.item.judged_of.Goals as goal

pub slice_bounds-result-end : goal.slice_bounds-result-end
slice_bounds-result-end c = sym (length-take-le most_item c.args.held.now (omega arith))

pub returns-else-held-gt-MOST_ITEM : goal.returns-else-held-gt-MOST_ITEM
returns-else-held-gt-MOST_ITEM c = sym (take_all most_item c.args.held.now (omega arith))
