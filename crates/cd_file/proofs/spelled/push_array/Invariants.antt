-- the items so far
use Rattle.std.proofs.Common.{◌≡◌, ◌++◌, take, map}
use Rattle.cd_cbor.specs.Spelling.{spelling_all}
use Rattle.cd_file.proofs.spelled.push_array.Given as goal

abbrev pub invariant-values : goal.invariant-values
invariant-values g l = l.out ≡ l.initial.out ++ spelling_all (map g.T.Spelled.item (take l.value-index l.values))
