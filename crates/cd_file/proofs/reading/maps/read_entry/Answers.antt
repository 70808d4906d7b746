-- A key is an integer, or passed over with its value.
use Rattle.std.proofs.Common.{◌≡◌, None, Ok, ap, refl, ◌∙◌, option_map}
use Rattle.cd_cbor.specs.declared.item.Item.TheViews.{out-Item}
use Rattle.cd_file.specs.ItemReading.{key_by}
use Rattle.cd_file.specs.Kinds.{integer_in}
use Rattle.cd_file.specs.MapReading.{entry_by}
use Rattle.cd_file.proofs.EntriesMet.{integer_by}
use Rattle.cd_file.proofs.reading.maps.read_entry.Goals as goal

pub returns-in-None : goal.returns-in-None
unfolding entry_by
returns-in-None g c = λ keys pair middle end keeps first second.
    let none : integer_in (out-Item pair.0) ≡ None = integer_by (out-Item pair.0) ∙ ap (option_map key_by) (c.in-None.ensures c.args.depth pair.0 middle first) in
    let behind = c.item_end-middle.ensures pair.0 middle first in
    let passed : c.passed_over.result ≡ Ok end = c.passed_over.ensures pair.1 end (rw behind second) in
    rw (none, passed) ((keys, refl, keeps), refl)
