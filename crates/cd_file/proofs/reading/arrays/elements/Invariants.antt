-- The values so far, before what the items that are left give, are what all items give.
use Rattle.std.proofs.Common.{ℕ, List}
use Rattle.std.specs.Prelude.{pos}
use Rattle.cd_cbor.specs.declared.item.Item.{Item}
use Rattle.cd_file.specs.ItemReading.{ItemsAt, Gathers}
use Rattle.cd_file.proofs.reading.arrays.elements.Given as goal

abbrev pub invariant-elements : goal.invariant-elements
invariant-elements g l =
    (items : List Item) (end : ℕ) → ItemsAt l.depth l.bytes l.fn.left l.fn.at items end →
    Gathers g.K.Kind.kind (pos l.key) l.depth l.bytes l.still l.here l.counter l.values.items items end
