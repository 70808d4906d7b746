-- A block that is read has no more items and malformed messages than bytes behind its first one.
use Rattle.std.proofs.Common.{◌≡◌, ℕ, ◌+◌, ◌≤◌, List, [], ◌∷◌, length, Ok, refl, ap, sym, subst, arith}
use Rattle.std.specs.Prelude.{ℤ, pos, ⊤, ok_or, Option, Some, None}
use Rattle.std.specs.List.{AllByRecursion}
use Rattle.cd_cbor.specs.Reading.{item_at}
use Rattle.cd_cbor.specs.declared.item.Item.{Item}
use Rattle.cd_cbor.specs.declared.item.Item.TheViews.{out-Item}
use Rattle.cd_cbor.specs.declared.fault.Why.TheVariants as why
use Rattle.cd_block.specs.declared.block.Block.{Block}
use Rattle.cd_block.specs.declared.keys.TheConstants as key
use Rattle.cd_file.specs.declared.refusal.FileWhy.{FileWhy}
use Rattle.cd_file.specs.declared.refusal.FileWhy.TheVariants.{NotMap}
use Rattle.cd_file.specs.Kinds.{Kind, unsigned, stamp, byte_string, short_byte_string, array_of, each, items_in, pairs_in, or_shape}
use Rattle.cd_file.specs.MapReading.{map_from, optional, fields_of}
use Rattle.cd_file.specs.ReadTables.{classtype_table, signature_table, no_signature, question_table, no_question, rr_table, no_rr, malformed_data_table, no_data, tables_table}
use Rattle.cd_file.specs.ReadBlock.{block_preamble_table, statistics_table, no_statistics, item_table, no_item, malformed_table, no_malformed, block_table, no_block, read_block}
use Rattle.cd_file.proofs.ElementsFit.{element_count, map_fits}
use Rattle.cd_file.proofs.MapsKeep.{bind_read, read_same, shape_read, LineKeeps, Widens, fields_keep, required_within_keeps, optional_within_keeps, optional_keeps, any_value}

-- how many items and malformed messages a block has
abbrev pub block_parts : Block → ℕ
block_parts b = length b.items + length b.malformed

-- a block has so many at most
abbrev FewParts : ℕ → Block → Type 0
FewParts n b = block_parts b ≤ n

few_widens : Widens FewParts
few_widens n more b few = omega (arith, few)

-- a line that puts another value into a block
still : {A : Type 0} (n : ℕ) (key : ℕ) (kind : Kind A) (put : A → Block → Block) → ((value : A) (b : Block) → block_parts (put value b) ≡ block_parts b) →
    LineKeeps (λ k. FewParts n) (optional key kind put)
still n key kind put same =
    optional_keeps (λ k. FewParts n) (λ k more b few. few) (λ value. ⊤) kind put key (any_value kind) (λ value b k q few. rw (same value b) few)

-- the values of an array are as many as its elements
each_as_many : {A : Type 0} (kind : Kind A) (key : ℤ) (items : List Item) (values : List A) → each kind key items ≡ Ok values → length values ≡ length items
unfolding each
each_as_many kind key [] values h = ap length (sym (read_same [] values h))
each_as_many kind key (item ∷ items) values h =
    let one = bind_read (kind key item) _ values h in
    let others = bind_read (each kind key items) _ values one.2 in
    let same = read_same (one.0 ∷ others.0) values others.2 in
    let rest = each_as_many kind key items others.0 others.1 in
    rw (sym same, rest) refl

array_as_many : {A : Type 0} (kind : Kind A) (key : ℤ) (item : Item) (values : List A) → array_of kind key item ≡ Ok values → length values ≡ element_count item
unfolding array_of element_count
array_as_many kind key item values h =
    let k = bind_read (or_shape key (items_in (out-Item item))) _ values h in
    let same : items_in (out-Item item) ≡ Some k.0 = shape_read key (items_in (out-Item item)) k.0 k.1 in
    let many : length values ≡ length k.0 = each_as_many kind key k.0 values k.2 in
    rw (same, many) refl

-- a line that puts an array into a block
grows_by : {A : Type 0} (key : ℕ) (kind : Kind A) (put : List A → Block → Block) → ((values : List A) (b : Block) → block_parts (put values b) ≤ block_parts b + length values) →
    LineKeeps FewParts (optional key (array_of kind) put)
grows_by key kind put grow = record {
  keeps = λ item before after n h few.
      let k = bind_read (array_of kind (pos key) item) _ after h in
      let many = array_as_many kind (pos key) item k.0 k.1 in
      let more = grow k.0 before in
      subst (FewParts (n + element_count item)) (read_same (put k.0 before) after k.2) (omega (arith, many, more, few));
}

preamble_lines : (n : ℕ) → AllByRecursion (LineKeeps (λ k. FewParts n)) block_preamble_table
preamble_lines n = (
  still n key.BLOCK_PREAMBLE_EARLIEST_TIME stamp (λ s b. record b { earliest = Some s }) (λ s b. refl),
  (
    still n key.BLOCK_PREAMBLE_PARAMETERS_INDEX unsigned (λ k b. record b { params = k }) (λ k b. refl),
    tt,
  ),
)

tables_lines : (n : ℕ) → AllByRecursion (LineKeeps (λ k. FewParts n)) tables_table
tables_lines n = (
  still n key.TABLES_IP_ADDRESS (array_of (short_byte_string 16)) (λ xs b. record b { ip_address = xs }) (λ xs b. refl),
  (
    still n key.TABLES_CLASSTYPE (array_of (map_from classtype_table (0, 0))) (λ xs b. record b { classtype = xs }) (λ xs b. refl),
    (
      still n key.TABLES_NAME_RDATA (array_of byte_string) (λ xs b. record b { name_rdata = xs }) (λ xs b. refl),
      (
        still n key.TABLES_QR_SIG (array_of (map_from signature_table no_signature)) (λ xs b. record b { qr_sig = xs }) (λ xs b. refl),
        (
          still n key.TABLES_QLIST (array_of (array_of unsigned)) (λ xs b. record b { qlist = xs }) (λ xs b. refl),
          (
            still n key.TABLES_QRR (array_of (map_from question_table no_question)) (λ xs b. record b { qrr = xs }) (λ xs b. refl),
            (
              still n key.TABLES_RRLIST (array_of (array_of unsigned)) (λ xs b. record b { rrlist = xs }) (λ xs b. refl),
              (
                still n key.TABLES_RR (array_of (map_from rr_table no_rr)) (λ xs b. record b { rr = xs }) (λ xs b. refl),
                (
                  still n key.TABLES_MALFORMED_MESSAGE_DATA (array_of (map_from malformed_data_table no_data)) (λ xs b. record b { malformed_message_data = xs }) (λ xs b. refl),
                  tt,
                ),
              ),
            ),
          ),
        ),
      ),
    ),
  ),
)

statistics_line : LineKeeps FewParts (optional key.BLOCK_STATISTICS (map_from statistics_table no_statistics) (λ s b. record b { stats = Some s }))
statistics_line =
    optional_keeps FewParts few_widens (λ s. ⊤) (map_from statistics_table no_statistics) (λ s b. record b { stats = Some s }) key.BLOCK_STATISTICS
    (any_value (map_from statistics_table no_statistics)) (λ s b n q few. few)

block_lines : AllByRecursion (LineKeeps FewParts) block_table
block_lines = (
  required_within_keeps FewParts few_widens key.BLOCK_PREAMBLE block_preamble_table preamble_lines,
  (
    statistics_line,
    (
      optional_within_keeps FewParts few_widens key.BLOCK_TABLES tables_table tables_lines,
      (
        grows_by key.BLOCK_ITEMS (map_from item_table no_item) (λ xs b. record b { items = xs }) (λ xs b. omega arith),
        (
          grows_by key.BLOCK_MALFORMED (map_from malformed_table no_malformed) (λ xs b. record b { malformed = xs }) (λ xs b. omega arith),
          tt,
        ),
      ),
    ),
  ),
)

map_there : {A : Type 0} (o : Option A) (why : FileWhy) (x : A) → ok_or o why ≡ Ok x → o ≡ Some x
map_there (Some y) why x h = let same : y ≡ x = cc in ap Some same
map_there None why x h = absurd cc

-- the parts of a block are elements of its arrays
pub block_is_map : (item : Item) (b : Block) → read_block item ≡ Ok b → (pairs : List (Item × Item)) × (pairs_in (out-Item item) ≡ Some pairs) × (fields_of block_table no_block pairs ≡ Ok b)
unfolding read_block
block_is_map item b h =
    let k = bind_read (ok_or (pairs_in (out-Item item)) NotMap) _ b h in (k.0, map_there (pairs_in (out-Item item)) NotMap k.0 k.1, k.2)

pub parts_fit : (depth : ℕ) (bytes : List ℕ) (item : Item) (end : ℕ) (b : Block) → item_at depth bytes why.Break 0 ≡ Ok (item, end) → read_block item ≡ Ok b → 1 + block_parts b ≤ end
parts_fit depth bytes item end b is h =
    let k = block_is_map item b h in
    let few = fields_keep FewParts few_widens block_table block_lines k.0 no_block b 0 k.2 (omega arith) in
    let fit = map_fits depth bytes 0 item end is k.0 k.1 in
    omega (arith, few, fit)
