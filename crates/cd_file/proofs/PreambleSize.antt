-- How long the preamble of a file is.
use Rattle.std.proofs.Common.{ℕ, zero, suc, ◌+◌, ◌*◌, ◌/◌, ◌%◌, ◌^◌, ◌<◌, ◌≤◌, List, [], ◌∷◌, ◌++◌, length, map, Some, refl, arith, inl, inr, length-append}
use Rattle.std.proofs.lemmas.Bool.{cases_eq, eq-eqb, ne_eqb}
use Rattle.cd_cbor.specs.declared.item.Item.{Item}
use Rattle.cd_cbor.specs.Items.{unsigned, array}
use Rattle.cd_cbor.specs.Spelling.{head, spelling, spelling_all}
use Rattle.cd_cbor.proofs.Spelled.{spelling_unsigned, spelling_array}
use Rattle.cd_block.specs.declared.hints.Hints.{Hints}
use Rattle.cd_block.specs.declared.params.Params.{Params}
use Rattle.cd_file.specs.Head.{hints_item, listed_opcode, opcodes_below, unless_zero, prefix, storage_item, collection_entries, collection_item, parameters_item, preamble_item}
use Rattle.cd_file.specs.Maps.{map_of, numbers, entries_count, entry_spelling}
use Rattle.cd_file.proofs.Maps.{none_present, some_present}
use Rattle.cd_file.proofs.Sizes.{head_short, entry_some, entry_none, number_entry_short, entries_end, entries_more, map_short}

-- numbers one after the other
numbers_long : (ns : List ℕ) → length (spelling_all (map unsigned ns)) ≤ 9 * length ns
numbers_long [] = omega arith
numbers_long (n ∷ ns) =
    let one : length (spelling (unsigned n)) ≤ 9 = rw (spelling_unsigned n) (head_short 0 n) in
    omega (arith, one, numbers_long ns, length-append (spelling (unsigned n)) (spelling_all (map unsigned ns)))

-- an array of numbers
numbers_short : (ns : List ℕ) → length (spelling (numbers ns)) ≤ 9 + 9 * length ns
numbers_short ns =
    rw (spelling_array (map unsigned ns))
    (omega (
      arith,
      head_short 4 (length (map unsigned ns)),
      numbers_long ns,
      length-append (head 4 (length (map unsigned ns))) (spelling_all (map unsigned ns)),
    ))

-- at most one opcode for each number below
listed_few : (n opcodes : ℕ) → length (listed_opcode opcodes n) ≤ 1
listed_few n opcodes =
    elim (cases_eq (opcodes / 2 ^ n % 2) 1) [
      | inl e ↦ rw (eq-eqb (opcodes / 2 ^ n % 2) 1 e) (omega arith)
      | inr apart ↦ rw (ne_eqb (opcodes / 2 ^ n % 2) 1 apart) (omega arith)
    ]

opcodes_few : (n opcodes : ℕ) → length (opcodes_below n opcodes) ≤ n
unfolding opcodes_below
opcodes_few zero opcodes = omega arith
opcodes_few (suc n) opcodes =
    omega (arith, opcodes_few n opcodes, listed_few n opcodes, length-append (opcodes_below n opcodes) (listed_opcode opcodes n))

-- the storage hints
hints_short : (h : Hints) → length (spelling (hints_item h)) ≤ 41
hints_short h =
    map_short _ 40 (omega arith)
    (entries_more _ _ _ 10 30 (number_entry_short 0 (Some h.qr) refl)
    (entries_more _ _ _ 10 20 (number_entry_short 1 (Some h.sig) refl)
    (entries_more _ _ _ 10 10 (number_entry_short 2 (Some h.rr) refl)
    (entries_more _ _ _ 10 0 (number_entry_short 3 (Some h.other) refl) entries_end))))

-- the storage parameters
storage_short : (p : Params) → length (spelling (storage_item p)) ≤ 300 + 9 * length p.rr_types
storage_short p =
    let opcodes : length (spelling (numbers (opcodes_below 16 p.opcodes))) ≤ 153 = omega (arith, numbers_short (opcodes_below 16 p.opcodes), opcodes_few 16 p.opcodes) in
    let whole =
    map_short _ _ (omega arith)
    (entries_more _ _ _ 10 _ (number_entry_short 0 (Some p.ticks) refl)
    (entries_more _ _ _ 10 _ (number_entry_short 1 (Some p.max_items) refl)
    (entries_more _ _ _ 42 _ (entry_some 2 41 (hints_item p.hints) refl (hints_short p.hints))
    (entries_more _ _ _ 154 _ (entry_some 3 153 (numbers (opcodes_below 16 p.opcodes)) refl opcodes)
    (entries_more _ _ _ _ _ (entry_some 4 (9 + 9 * length p.rr_types) (numbers p.rr_types) refl (numbers_short p.rr_types))
    (entries_more _ _ _ 10 _ (number_entry_short 5 (unless_zero p.flags) refl)
    (entries_more _ _ _ 10 _ (number_entry_short 6 (prefix 0 p) refl)
    (entries_more _ _ _ 10 _ (number_entry_short 7 (prefix 1 p) refl)
    (entries_more _ _ _ 10 _ (number_entry_short 8 (prefix 2 p) refl)
    (entries_more _ _ _ 10 0 (number_entry_short 9 (prefix 3 p) refl) entries_end)))))))))) in
    omega (arith, whole)

-- the collection parameters
collection_short : (p : Params) → length (entry_spelling 1 (collection_item p)) ≤ 22
collection_short p =
    elim (cases_eq (entries_count (collection_entries p)) 0) [
      | inl none ↦ rw (none_present (collection_entries p) none) (entry_none 1 22)
      | inr some ↦
          let one : 0 < entries_count (collection_entries p) = omega (arith, some) in
          rw (some_present (collection_entries p) one)
          (entry_some 1 21 (map_of (collection_entries p)) refl
          (map_short _ 20 (omega arith)
          (entries_more _ _ _ 10 10 (number_entry_short 0 p.query_ms refl)
          (entries_more _ _ _ 10 0 (number_entry_short 1 p.skew_us refl) entries_end))))
    ]

-- block parameters
parameters_short : (p : Params) → length (spelling (parameters_item p)) ≤ 324 + 9 * length p.rr_types
parameters_short p =
    let whole =
    map_short _ _ (omega arith)
    (entries_more _ _ _ _ _ (entry_some 0 (300 + 9 * length p.rr_types) (storage_item p) refl (storage_short p))
    (entries_more _ _ _ 22 0 (collection_short p) entries_end)) in
    omega (arith, whole)

-- an array of one item
one_short : (item : Item) → length (spelling (array (item ∷ []))) ≤ 9 + length (spelling item)
one_short item =
    rw (spelling_array (item ∷ []))
    (omega (
      arith,
      head_short 4 1,
      length-append (head 4 1) (spelling item ++ []),
      length-append (spelling item) [],
    ))

-- a preamble
pub preamble_short : (p : Params) → length (spelling (preamble_item p)) ≤ 400 + 9 * length p.rr_types
preamble_short p =
    let entry = one_short (parameters_item p) in
    let parameters : length (spelling (array (parameters_item p ∷ []))) ≤ 333 + 9 * length p.rr_types = omega (arith, entry, parameters_short p) in
    let whole =
    map_short _ _ (omega arith)
    (entries_more _ _ _ 10 _ (number_entry_short 0 (Some 1) refl)
    (entries_more _ _ _ 10 _ (number_entry_short 1 (Some 0) refl)
    (entries_more _ _ _ _ 0 (entry_some 3 (333 + 9 * length p.rr_types) (array (parameters_item p ∷ [])) refl parameters) entries_end))) in
    omega (arith, whole)
