-- What is seen of an item that stands at an offset, by its head.
use Rattle.std.proofs.Common.{◌≡◌, ℕ, zero, suc, ◌+◌, List, Option, Some, None, refl, ap, arith}
use Rattle.std.specs.Prelude.{pos, negsuc, ◌-ℤ◌}
use Rattle.cd_cbor.specs.declared.item.Item.{Item}
use Rattle.cd_cbor.specs.declared.item.Item.TheViews.{out-Item}
use Rattle.cd_cbor.specs.declared.major_type.MajorType.{MajorType}
use Rattle.cd_cbor.specs.declared.major_type.MajorType.TheVariants as major
use Rattle.cd_file.specs.Kinds.{unsigned_in, items_in, pairs_in}
use Rattle.cd_file.specs.ItemReading.{HeadOf, Views, ViewsItems, ViewsPairs, number_in, number_of_head, unsigned_of_head, items_of_head, pairs_of_head}

module _ (next depth : ℕ) (bytes : List ℕ) (item : Item) (end : ℕ) where
  pub number_seen : (kind : MajorType) (argument : Option ℕ) → HeadOf kind argument next depth bytes item end →
      Views (number_of_head kind argument next) (number_in (out-Item item)) end
  number_seen major.Unsigned None h = absurd h
  number_seen major.Unsigned (Some n) h = (ap number_in h.0, h.1)
  number_seen major.Negative None h = absurd h
  number_seen major.Negative (Some n) h = (ap number_in h.0, h.1)
  number_seen major.Bytes None h = ap number_in h.1
  number_seen major.Bytes (Some n) h = ap number_in h.0
  number_seen major.Text None h = ap number_in h.1
  number_seen major.Text (Some n) h = ap number_in h.1
  number_seen major.Array None h = ap number_in h.1
  number_seen major.Array (Some n) h = ap number_in h.1
  number_seen major.Map None h = ap number_in h.1
  number_seen major.Map (Some n) h = ap number_in h.1
  number_seen major.Tag None h = ap number_in h.1
  number_seen major.Tag (Some n) h = ap number_in h.1
  number_seen major.Simple None h = ap number_in h.1
  number_seen major.Simple (Some n) h = ap number_in h.1

  pub unsigned_seen : (kind : MajorType) (argument : Option ℕ) → HeadOf kind argument next depth bytes item end →
      Views (unsigned_of_head kind argument next) (unsigned_in (out-Item item)) end
  unsigned_seen major.Unsigned None h = absurd h
  unsigned_seen major.Unsigned (Some n) h = (ap unsigned_in h.0, h.1)
  unsigned_seen major.Negative None h = absurd h
  unsigned_seen major.Negative (Some n) h = ap unsigned_in h.0
  unsigned_seen major.Bytes None h = ap unsigned_in h.1
  unsigned_seen major.Bytes (Some n) h = ap unsigned_in h.0
  unsigned_seen major.Text None h = ap unsigned_in h.1
  unsigned_seen major.Text (Some n) h = ap unsigned_in h.1
  unsigned_seen major.Array None h = ap unsigned_in h.1
  unsigned_seen major.Array (Some n) h = ap unsigned_in h.1
  unsigned_seen major.Map None h = ap unsigned_in h.1
  unsigned_seen major.Map (Some n) h = ap unsigned_in h.1
  unsigned_seen major.Tag None h = ap unsigned_in h.1
  unsigned_seen major.Tag (Some n) h = ap unsigned_in h.1
  unsigned_seen major.Simple None h = ap unsigned_in h.1
  unsigned_seen major.Simple (Some n) h = ap unsigned_in h.1

  pub items_seen : (kind : MajorType) (argument : Option ℕ) → HeadOf kind argument next depth bytes item end →
      ViewsItems (items_of_head kind argument next) (items_in (out-Item item)) depth bytes end
  items_seen major.Unsigned None h = absurd h
  items_seen major.Unsigned (Some n) h = ap items_in h.0
  items_seen major.Negative None h = absurd h
  items_seen major.Negative (Some n) h = ap items_in h.0
  items_seen major.Bytes None h = ap items_in h.1
  items_seen major.Bytes (Some n) h = ap items_in h.0
  items_seen major.Text None h = ap items_in h.1
  items_seen major.Text (Some n) h = ap items_in h.1
  items_seen major.Array None h = (h.0, ap items_in h.1, h.2)
  items_seen major.Array (Some n) h = (h.0, ap items_in h.1, h.2)
  items_seen major.Map None h = ap items_in h.1
  items_seen major.Map (Some n) h = ap items_in h.1
  items_seen major.Tag None h = ap items_in h.1
  items_seen major.Tag (Some n) h = ap items_in h.1
  items_seen major.Simple None h = ap items_in h.1
  items_seen major.Simple (Some n) h = ap items_in h.1

  pub pairs_seen : (kind : MajorType) (argument : Option ℕ) → HeadOf kind argument next depth bytes item end →
      ViewsPairs (pairs_of_head kind argument next) (pairs_in (out-Item item)) depth bytes end
  pairs_seen major.Unsigned None h = absurd h
  pairs_seen major.Unsigned (Some n) h = ap pairs_in h.0
  pairs_seen major.Negative None h = absurd h
  pairs_seen major.Negative (Some n) h = ap pairs_in h.0
  pairs_seen major.Bytes None h = ap pairs_in h.1
  pairs_seen major.Bytes (Some n) h = ap pairs_in h.0
  pairs_seen major.Text None h = ap pairs_in h.1
  pairs_seen major.Text (Some n) h = ap pairs_in h.1
  pairs_seen major.Array None h = ap pairs_in h.1
  pairs_seen major.Array (Some n) h = ap pairs_in h.1
  pairs_seen major.Map None h = (h.0, ap pairs_in h.1, h.2)
  pairs_seen major.Map (Some n) h = (h.0, ap pairs_in h.1, h.2)
  pairs_seen major.Tag None h = ap pairs_in h.1
  pairs_seen major.Tag (Some n) h = ap pairs_in h.1
  pairs_seen major.Simple None h = ap pairs_in h.1
  pairs_seen major.Simple (Some n) h = ap pairs_in h.1

-- one less than the negation of a number
pub minus_one_less : (n : ℕ) → negsuc 0 -ℤ pos n ≡ negsuc n
minus_one_less zero = refl
minus_one_less (suc n) = let k : suc (0 + n) ≡ suc n = omega arith in ap negsuc k
