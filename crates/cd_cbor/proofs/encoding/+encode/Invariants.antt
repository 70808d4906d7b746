-- what is written and the items that are left are all that is to be written
use Rattle.std.proofs.Common.{◌≡◌, ◌++◌, length, drop}
use Rattle.cd_cbor.specs.Spelling.{head, spelling_all, spelling_pairs}
use Rattle.cd_cbor.proofs.encoding.+encode.Given as goal

abbrev pub invariant-items : goal.invariant-items
invariant-items l =
    l.out ++ spelling_all (drop l.inner-index l.items)
    ≡ l.fn.out ++ (head 4 (length l.items) ++ spelling_all l.items)

abbrev pub invariant-pairs : goal.invariant-pairs
invariant-pairs l =
    l.out ++ spelling_pairs (drop l.pair-index l.pairs)
    ≡ l.fn.out ++ (head 5 (length l.pairs) ++ spelling_pairs l.pairs)
