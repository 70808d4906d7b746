-- Integers as items.
use Rattle.std.specs.Prelude.{ℤ, pos, negsuc}
use Rattle.cd_cbor.specs.declared.item.Item.{Item}
use Rattle.cd_cbor.specs.declared.integer.Integer.{Integer}
use Rattle.cd_cbor.specs.declared.integer.Integer.TheVariants.{Unsigned, Negative}
use Rattle.cd_cbor.specs.Items.{unsigned, negative}

-- a signed number as an item: below 0 it is -1 - n (RFC 8949 3.1)
abbrev pub signed : ℤ → Item
signed (pos n) = unsigned n
signed (negsuc n) = negative n

-- an integer as an item
abbrev pub integer_item : Integer → Item
integer_item (Unsigned n) = unsigned n
integer_item (Negative n) = negative n
