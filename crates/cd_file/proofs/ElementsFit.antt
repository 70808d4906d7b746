-- An item has a byte for its head and one for each of its elements.
use Rattle.std.proofs.Common.{◌≡◌, ℕ, ◌+◌, ◌-◌, ◌%◌, ◌/◌, ◌<◌, ◌≤◌, Bool, true, false, cond, List, [], ◌∷◌, length, Option, Some, None, Result, Ok, Err, inl, inr, refl, sym, arith}
use Rattle.std.specs.Prelude.{nat_eq}
use Rattle.std.proofs.lemmas.Bool.{cases_lt}
use Rattle.cd_cbor.specs.Heads.{major_type}
use Rattle.cd_cbor.specs.Readings.{byte_at}
use Rattle.cd_cbor.specs.Reading.{argument_at}
use Rattle.cd_cbor.specs.declared.item.Item.{Item}
use Rattle.cd_cbor.specs.declared.item.Item.TheViews.{out-Item}
use Rattle.cd_cbor.specs.declared.fault.Why.TheVariants as why
use Rattle.cd_cbor.specs.declared.fault.CborFault.{CborFault}
use Rattle.cd_cbor.specs.declared.major_type.MajorType.{MajorType}
use Rattle.cd_cbor.specs.declared.major_type.MajorType.TheVariants as major
use Rattle.cd_file.specs.ReadFile.{one_less}
use Rattle.cd_file.specs.Kinds.{items_in, pairs_in}
use Rattle.cd_file.specs.ItemReading.{ItemAt, ItemsAt, PairsAt, HeadOf, ended_at}
use Rattle.cd_file.proofs.HeadsOf.{no_byte, argument_head, no_argument, bare_head}
use Rattle.cd_file.proofs.HeadsSeen.{items_seen, pairs_seen}
use Rattle.cd_file.proofs.ItemsWithin.{item_lies, argument_lies}

-- what a head tells of an item that begins with it
record Begins (depth : ℕ) (bytes : List ℕ) (at : ℕ) (item : Item) (end : ℕ) : Type 0 where
  pub kind : MajorType
  pub argument : Option ℕ
  pub next : ℕ
  pub ahead : at + 1 ≤ next
  pub head : HeadOf kind argument next depth bytes item end

module _ (depth : ℕ) (bytes : List ℕ) (at : ℕ) (item : Item) (end : ℕ) (is : ItemAt depth bytes at item end) where
  begins_with : (first : ℕ) → byte_at at bytes ≡ Ok first → first % 32 < 28 → (r : Result (ℕ × ℕ) CborFault) → argument_at (first % 32) at bytes ≡ r → Begins depth bytes at item end
  begins_with first there low (Err e) a = absurd (no_argument depth bytes at item end is first e there low a)
  begins_with first there low (Ok (n, next)) a = record {
    kind = major_type (first / 32);
    argument = Some n;
    next = next;
    ahead = (argument_lies bytes (first % 32) at (n, next) a).0;
    head = argument_head depth bytes at item end is first n next there low a;
  }

  begins_by : (r : Result ℕ CborFault) → byte_at at bytes ≡ r → Begins depth bytes at item end
  begins_by (Err e) h = absurd (no_byte depth bytes at item end is e h)
  begins_by (Ok first) there =
      elim (cases_lt (first % 32) 28) [
        | inl low ↦ begins_with first there low (argument_at (first % 32) at bytes) refl
        | inr high ↦ record {
          kind = major_type (first / 32);
          argument = None;
          next = at + 1;
          ahead = omega arith;
          head = bare_head depth bytes at item end is first there high;
        }
      ]

  -- an item begins with a head
  item_begins : Begins depth bytes at item end
  item_begins = begins_by (byte_at at bytes) refl

  -- an item has a byte
  item_ahead : at + 1 ≤ end
  item_ahead = (item_lies depth bytes why.Break at (item, end) is).0

-- the end of items is not before them
ended_if : (b : Bool) (x end : ℕ) → cond b (Some x) None ≡ Some end → x ≡ end
ended_if true x end h = cc
ended_if false x end h = absurd cc

ended_ahead : (left : Option ℕ) (bytes : List ℕ) (at end : ℕ) → ended_at left bytes at ≡ Some end → at ≤ end
ended_ahead (Some n) bytes at end h = let same : at ≡ end = ended_if (nat_eq n 0) at end h in omega (arith, same)
ended_ahead None bytes at end h =
    let same : at + 1 ≡ end = ended_if _ (at + 1) end h in omega (arith, same)

-- each of some items has a byte
items_fit : (depth : ℕ) (bytes : List ℕ) (left : Option ℕ) (at : ℕ) (items : List Item) (end : ℕ) → ItemsAt depth bytes left at items end → at + length items ≤ end
items_fit depth bytes left at [] end stands = let w = ended_ahead left bytes at end stands in omega (arith, w)
items_fit depth bytes left at (item ∷ items) end stands =
    let one = item_ahead depth bytes at item stands.1.0 stands.1.1 in
    let others = items_fit depth bytes (one_less left) stands.1.0 items end stands.1.2 in
    omega (arith, one, others)

-- how many elements an array has
abbrev pub how_many : Option (List Item) → ℕ
how_many None = 0
how_many (Some items) = length items

-- how many elements an item has, if it is an array
unfoldable pub element_count : Item → ℕ
element_count item = how_many (items_in (out-Item item))

none_fit : (at end : ℕ) (seen : Option (List Item)) → seen ≡ None → at + 1 ≤ end → at + 1 + how_many seen ≤ end
none_fit at end seen is ahead = rw is (omega (arith, ahead))

some_fit : (at next end : ℕ) (seen : Option (List Item)) (items : List Item) → seen ≡ Some items → at + 1 ≤ next → next + length items ≤ end → at + 1 + how_many seen ≤ end
some_fit at next end seen items is ahead fit = rw is (omega (arith, ahead, fit))

-- an item has a byte for its head and one for each of its elements
module _ (depth : ℕ) (bytes : List ℕ) (at : ℕ) (item : Item) (end : ℕ) (is : ItemAt depth bytes at item end) where
  elements_by : (kind : MajorType) (argument : Option ℕ) (next : ℕ) → at + 1 ≤ next → HeadOf kind argument next depth bytes item end → at + 1 + element_count item ≤ end
  unfolding element_count
  elements_by major.Array left next ahead h =
      let seen = items_seen next depth bytes item end major.Array left h in
      some_fit at next end _ seen.0 seen.1 ahead (items_fit (depth - 1) bytes left next seen.0 end seen.2)
  elements_by major.Unsigned argument next ahead h = none_fit at end _ (items_seen next depth bytes item end major.Unsigned argument h) (item_ahead depth bytes at item end is)
  elements_by major.Negative argument next ahead h = none_fit at end _ (items_seen next depth bytes item end major.Negative argument h) (item_ahead depth bytes at item end is)
  elements_by major.Bytes argument next ahead h = none_fit at end _ (items_seen next depth bytes item end major.Bytes argument h) (item_ahead depth bytes at item end is)
  elements_by major.Text argument next ahead h = none_fit at end _ (items_seen next depth bytes item end major.Text argument h) (item_ahead depth bytes at item end is)
  elements_by major.Map argument next ahead h = none_fit at end _ (items_seen next depth bytes item end major.Map argument h) (item_ahead depth bytes at item end is)
  elements_by major.Tag argument next ahead h = none_fit at end _ (items_seen next depth bytes item end major.Tag argument h) (item_ahead depth bytes at item end is)
  elements_by major.Simple argument next ahead h = none_fit at end _ (items_seen next depth bytes item end major.Simple argument h) (item_ahead depth bytes at item end is)

  pub elements_fit : at + 1 + element_count item ≤ end
  elements_fit = let b = item_begins depth bytes at item end is in elements_by b.kind b.argument b.next b.ahead b.head

-- how many elements the arrays have that are values of some pairs
unfoldable pub value_elements : List (Item × Item) → ℕ
value_elements [] = 0
value_elements (pair ∷ pairs) = element_count pair.1 + value_elements pairs

pairs_fit : (depth : ℕ) (bytes : List ℕ) (left : Option ℕ) (at : ℕ) (pairs : List (Item × Item)) (end : ℕ) → PairsAt depth bytes left at pairs end → at + value_elements pairs ≤ end
unfolding value_elements
pairs_fit depth bytes left at [] end stands = let w = ended_ahead left bytes at end stands in omega (arith, w)
pairs_fit depth bytes left at (pair ∷ pairs) end stands =
    let key = item_ahead depth bytes at pair.0 stands.1.0 stands.1.2 in
    let value = elements_fit depth bytes stands.1.0 pair.1 stands.1.1 stands.1.3 in
    let others = pairs_fit depth bytes (one_less left) stands.1.1 pairs end stands.1.4 in
    omega (arith, key, value, others)

none_map : {P : Type 0} (pairs : List (Item × Item)) (seen : Option (List (Item × Item))) → seen ≡ None → seen ≡ Some pairs → P
none_map pairs seen is there = absurd cc

-- a map has a byte for its head and one for each element of an array in it
module _ (depth : ℕ) (bytes : List ℕ) (at : ℕ) (item : Item) (end : ℕ) (is : ItemAt depth bytes at item end) (pairs : List (Item × Item)) (map : pairs_in (out-Item item) ≡ Some pairs) where
  same_pairs : (others : List (Item × Item)) (seen : Option (List (Item × Item))) → seen ≡ Some others → seen ≡ Some pairs → others ≡ pairs
  same_pairs others seen is there = cc

  map_by : (kind : MajorType) (argument : Option ℕ) (next : ℕ) → at + 1 ≤ next → HeadOf kind argument next depth bytes item end → at + 1 + value_elements pairs ≤ end
  map_by major.Map left next ahead h =
      let seen = pairs_seen next depth bytes item end major.Map left h in
      let same = same_pairs seen.0 _ seen.1 map in
      let fit = pairs_fit (depth - 1) bytes left next seen.0 end seen.2 in
      let here : next + value_elements pairs ≤ end = rw (sym same) fit in
      omega (arith, ahead, here)
  map_by major.Unsigned argument next ahead h = none_map pairs _ (pairs_seen next depth bytes item end major.Unsigned argument h) map
  map_by major.Negative argument next ahead h = none_map pairs _ (pairs_seen next depth bytes item end major.Negative argument h) map
  map_by major.Bytes argument next ahead h = none_map pairs _ (pairs_seen next depth bytes item end major.Bytes argument h) map
  map_by major.Text argument next ahead h = none_map pairs _ (pairs_seen next depth bytes item end major.Text argument h) map
  map_by major.Array argument next ahead h = none_map pairs _ (pairs_seen next depth bytes item end major.Array argument h) map
  map_by major.Tag argument next ahead h = none_map pairs _ (pairs_seen next depth bytes item end major.Tag argument h) map
  map_by major.Simple argument next ahead h = none_map pairs _ (pairs_seen next depth bytes item end major.Simple argument h) map

  pub map_fits : at + 1 + value_elements pairs ≤ end
  map_fits = let b = item_begins depth bytes at item end is in map_by b.kind b.argument b.next b.ahead b.head
