-- What reading the pairs that are left gives from here is what reading all gives.
use Rattle.std.proofs.Common.{ℕ, List}
use Rattle.cd_cbor.specs.declared.item.Item.{Item}
use Rattle.cd_file.specs.ItemReading.{PairsAt}
use Rattle.cd_file.proofs.Courses.{Visits}
use Rattle.cd_file.proofs.reading.maps.read_pairs.Given as goal

abbrev pub invariant-pairs : goal.invariant-pairs
invariant-pairs g l =
    (pairs : List (Item × Item)) (end : ℕ) → PairsAt l.depth l.bytes l.fn.left l.fn.at pairs end →
    Visits g.T.Table.table l.depth l.bytes l.fn.fields pairs end l.still l.here l.counter l.met l.fields
