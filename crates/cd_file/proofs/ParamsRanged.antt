-- The ranges of the block parameters that are read.
use Rattle.std.proofs.Common.{◌≡◌, ℕ, zero, suc, ◌+◌, ◌%◌, ◌^◌, ◌<◌, Bool, true, false, cond, List, [], ◌∷◌, length, Option, Some, None, Ok, Err, refl, subst, ◌∙◌, arith}
use Rattle.std.proofs.lemmas.List.{length-set}
use Rattle.std.specs.Prelude.{⊤, nat_eq, ok_or, slice_set, slice_index_or}
use Rattle.std.specs.List.{AllByRecursion}
use Rattle.std.proofs.lemmas.Bool.{and_parts}
use Rattle.std.proofs.lemmas.Nat.{mod_below}
use Rattle.cd_cbor.specs.declared.item.Item.{Item}
use Rattle.cd_cbor.specs.declared.item.Item.TheViews.{out-Item}
use Rattle.cd_block.specs.declared.params.Params.{Params}
use Rattle.cd_block.specs.declared.keys.TheConstants as key
use Rattle.cd_file.specs.declared.preamble.Preamble.{Preamble}
use Rattle.cd_file.specs.declared.refusal.FileWhy.TheVariants.{NotCdns, TimeRange, Version}
use Rattle.cd_file.specs.Head.{has_opcode}
use Rattle.cd_file.specs.Kinds.{unsigned, unsigned_below, array_of, filled_array_of, pairs_in}
use Rattle.cd_file.specs.MapReading.{map_from, fields_of}
use Rattle.cd_file.specs.Ranges.{IsByte}
use Rattle.cd_file.specs.Readable.{ReadableHints}
use Rattle.cd_file.specs.ReadHead.{no_hints, hints_table, with_opcode, opcode_bits, with_prefix, storage_table, collection_table, parameters_table, no_params, preamble_table, no_preamble, has_ticks, have_ticks, judged_preamble, read_params}
use Rattle.cd_file.specs.ReadRanges.{ParamsAreRead}
use Rattle.cd_file.specs.Refusing.{Refusing}
use Rattle.cd_file.proofs.KindsGive.{below_gives, filled_gives}
use Rattle.cd_file.proofs.MapsKeep.{Keeps, bind_read, read_same, map_keeps, fields_keep, any_value, array_gives, optional_line, required_line, within_line, required_within_line}
use Rattle.cd_file.proofs.OpcodeBits.{room_for}
use Rattle.cd_file.proofs.TicksHeld.{ticks_are}

-- hints
hints_lines : AllByRecursion (Keeps ReadableHints) hints_table
hints_lines = (
  required_line ReadableHints (λ n. ⊤) unsigned (λ n h. record h { qr = n % 2 ^ 18 }) key.HINTS_QUERY_RESPONSE (any_value unsigned) (λ n h q p. record { qr = mod_below n (2 ^ 18) (omega arith); sig = p.sig; rr = p.rr; other = p.other }),
  (
    required_line ReadableHints (λ n. ⊤) unsigned (λ n h. record h { sig = n % 2 ^ 17 }) key.HINTS_SIGNATURE (any_value unsigned) (λ n h q p. record { qr = p.qr; sig = mod_below n (2 ^ 17) (omega arith); rr = p.rr; other = p.other }),
    (
      required_line ReadableHints (λ n. ⊤) unsigned (λ n h. record h { rr = n % 2 ^ 2 }) key.HINTS_RR (any_value unsigned) (λ n h q p. record { qr = p.qr; sig = p.sig; rr = mod_below n (2 ^ 2) (omega arith); other = p.other }),
      (
        required_line ReadableHints (λ n. ⊤) unsigned (λ n h. record h { other = n % 2 ^ 2 }) key.HINTS_OTHER_DATA (any_value unsigned) (λ n h q p. record { qr = p.qr; sig = p.sig; rr = p.rr; other = mod_below n (2 ^ 2) (omega arith) }),
        tt,
      ),
    ),
  ),
)

no_hints_ranged : ReadableHints no_hints
no_hints_ranged = record { qr = omega arith; sig = omega arith; rr = omega arith; other = omega arith }

-- the bits of opcodes
bit_more : (opcodes n : ℕ) (is_listed : Bool) → has_opcode opcodes n ≡ is_listed → opcodes < 0x1_0000 → n < 16 → cond is_listed opcodes (opcodes + 2 ^ n) < 0x1_0000
bit_more opcodes n true is low small = low
bit_more opcodes n false is low small = room_for opcodes n small low is

bits_ranged : (opcodes : ℕ) (ns : List ℕ) → opcodes < 0x1_0000 → AllByRecursion (λ n. n < 16) ns → opcode_bits opcodes ns < 0x1_0000
unfolding opcode_bits
bits_ranged opcodes [] low all = low
bits_ranged opcodes (n ∷ ns) low all = bits_ranged (with_opcode opcodes n) ns (bit_more opcodes n (has_opcode opcodes n) refl low all.0) all.1

-- a value is put among others
set_ranged : {A : Type 0} (Q : A → Type 0) (xs : List A) (i : ℕ) (x : A) → AllByRecursion Q xs → Q x → AllByRecursion Q (slice_set xs i x)
set_ranged Q [] i x all q = tt
set_ranged Q (y ∷ xs) zero x all q = (q, all.1)
set_ranged Q (y ∷ xs) (suc i) x all q = (all.0, set_ranged Q xs i x all.1 q)

byte_at : (xs : List (Option ℕ)) (i : ℕ) → AllByRecursion IsByte xs → IsByte (slice_index_or xs i None)
byte_at [] i all = tt
byte_at (x ∷ xs) zero all = all.0
byte_at (x ∷ xs) (suc i) all = byte_at xs i all.1

-- the ranges of block parameters but for their ticks, which are judged together
record ParamsRanged (p : Params) : Type 0 where
  pub hints : ReadableHints p.hints
  pub opcodes : p.opcodes < 0x1_0000
  pub rr_types : AllByRecursion (λ rtype. rtype < 0x1_0000) p.rr_types
  pub flags : p.flags ≡ 0
  pub four_prefixes : length p.prefixes ≡ 4
  pub prefixes : AllByRecursion IsByte p.prefixes

no_params_ranged : ParamsRanged no_params
no_params_ranged = record { hints = no_hints_ranged; opcodes = omega arith; rr_types = tt; flags = refl; four_prefixes = refl; prefixes = (tt, (tt, (tt, (tt, tt)))) }

-- one prefix more
prefix_ranged : (place bits : ℕ) (p : Params) → bits < 0x100 → ParamsRanged p → ParamsRanged (with_prefix place bits p)
prefix_ranged place bits p low of = record {
  hints = of.hints;
  opcodes = of.opcodes;
  rr_types = of.rr_types;
  flags = of.flags;
  four_prefixes = length-set p.prefixes place (Some bits) ∙ of.four_prefixes;
  prefixes = set_ranged IsByte p.prefixes place (Some bits) of.prefixes low;
}

-- the keys of storage parameters
storage_lines : AllByRecursion (Keeps ParamsRanged) storage_table
storage_lines = (
  required_line ParamsRanged (λ n. ⊤) unsigned (λ n p. record p { ticks = n }) key.STORAGE_TICKS_PER_SECOND (any_value unsigned) (λ n p q of. record { hints = of.hints; opcodes = of.opcodes; rr_types = of.rr_types; flags = of.flags; four_prefixes = of.four_prefixes; prefixes = of.prefixes }),
  (
    required_line ParamsRanged (λ n. ⊤) unsigned (λ n p. record p { max_items = n }) key.STORAGE_MAX_BLOCK_ITEMS (any_value unsigned) (λ n p q of. record { hints = of.hints; opcodes = of.opcodes; rr_types = of.rr_types; flags = of.flags; four_prefixes = of.four_prefixes; prefixes = of.prefixes }),
    (
      required_line ParamsRanged ReadableHints (map_from hints_table no_hints) (λ h p. record p { hints = h }) key.STORAGE_HINTS (map_keeps ReadableHints hints_table hints_lines no_hints no_hints_ranged) (λ h p q of. record { hints = q; opcodes = of.opcodes; rr_types = of.rr_types; flags = of.flags; four_prefixes = of.four_prefixes; prefixes = of.prefixes }),
      (
        required_line ParamsRanged (AllByRecursion (λ n. n < 16)) (array_of (unsigned_below 16)) (λ ns p. record p { opcodes = opcode_bits 0 ns }) key.STORAGE_OPCODES (array_gives (λ n. n < 16) (unsigned_below 16) (below_gives 16)) (λ ns p q of. record { hints = of.hints; opcodes = bits_ranged 0 ns (omega arith) q; rr_types = of.rr_types; flags = of.flags; four_prefixes = of.four_prefixes; prefixes = of.prefixes }),
        (
          required_line ParamsRanged (AllByRecursion (λ n. n < 0x1_0000)) (array_of (unsigned_below 0x1_0000)) (λ ns p. record p { rr_types = ns }) key.STORAGE_RR_TYPES (array_gives (λ n. n < 0x1_0000) (unsigned_below 0x1_0000) (below_gives 0x1_0000)) (λ ns p q of. record { hints = of.hints; opcodes = of.opcodes; rr_types = q; flags = of.flags; four_prefixes = of.four_prefixes; prefixes = of.prefixes }),
          (
            optional_line ParamsRanged (λ n. n < 0x100) (unsigned_below 0x100) (with_prefix 0) key.STORAGE_CLIENT_PREFIX_IPV4 (below_gives 0x100) (prefix_ranged 0),
            (
              optional_line ParamsRanged (λ n. n < 0x100) (unsigned_below 0x100) (with_prefix 1) key.STORAGE_CLIENT_PREFIX_IPV6 (below_gives 0x100) (prefix_ranged 1),
              (
                optional_line ParamsRanged (λ n. n < 0x100) (unsigned_below 0x100) (with_prefix 2) key.STORAGE_SERVER_PREFIX_IPV4 (below_gives 0x100) (prefix_ranged 2),
                (
                  optional_line ParamsRanged (λ n. n < 0x100) (unsigned_below 0x100) (with_prefix 3) key.STORAGE_SERVER_PREFIX_IPV6 (below_gives 0x100) (prefix_ranged 3),
                  tt,
                ),
              ),
            ),
          ),
        ),
      ),
    ),
  ),
)

-- those of collection parameters
collection_lines : AllByRecursion (Keeps ParamsRanged) collection_table
collection_lines = (
  optional_line ParamsRanged (λ n. ⊤) unsigned (λ n p. record p { query_ms = Some n }) key.COLLECTION_QUERY_TIMEOUT (any_value unsigned) (λ n p q of. record { hints = of.hints; opcodes = of.opcodes; rr_types = of.rr_types; flags = of.flags; four_prefixes = of.four_prefixes; prefixes = of.prefixes }),
  (
    optional_line ParamsRanged (λ n. ⊤) unsigned (λ n p. record p { skew_us = Some n }) key.COLLECTION_SKEW_TIMEOUT (any_value unsigned) (λ n p q of. record { hints = of.hints; opcodes = of.opcodes; rr_types = of.rr_types; flags = of.flags; four_prefixes = of.four_prefixes; prefixes = of.prefixes }),
    tt,
  ),
)

-- those of block parameters
parameters_lines : AllByRecursion (Keeps ParamsRanged) parameters_table
parameters_lines = (
  required_within_line ParamsRanged key.BLOCK_PARAMETERS_STORAGE storage_table storage_lines,
  (
    within_line ParamsRanged key.BLOCK_PARAMETERS_COLLECTION collection_table collection_lines,
    tt,
  ),
)

-- the ranges of a preamble
abbrev PreambleRanged : Preamble → Type 0
PreambleRanged p = AllByRecursion ParamsRanged p.entries

-- its keys
preamble_lines : AllByRecursion (Keeps PreambleRanged) preamble_table
preamble_lines = (
  required_line PreambleRanged (λ n. ⊤) unsigned (λ n p. record p { major = n }) key.PREAMBLE_MAJOR_VERSION (any_value unsigned) (λ n p q of. of),
  (
    required_line PreambleRanged (λ n. ⊤) unsigned (λ n p. p) key.PREAMBLE_MINOR_VERSION (any_value unsigned) (λ n p q of. of),
    (
      optional_line PreambleRanged (λ n. ⊤) unsigned (λ n p. p) key.PREAMBLE_PRIVATE_VERSION (any_value unsigned) (λ n p q of. of),
      (
        required_line PreambleRanged (AllByRecursion ParamsRanged) (filled_array_of (map_from parameters_table no_params)) (λ es p. record p { entries = es }) key.PREAMBLE_BLOCK_PARAMETERS (filled_gives ParamsRanged (map_from parameters_table no_params) (map_keeps ParamsRanged parameters_table parameters_lines no_params no_params_ranged)) (λ es p q of. q),
        tt,
      ),
    ),
  ),
)

-- a preamble that is not refused
judged_by : (major ticks : Bool) (entries judged : List Params) → ◌≡◌ {A = Refusing (List Params)} (cond major (cond ticks (Ok entries) (Err TimeRange)) (Err Version)) (Ok judged) → (ticks ≡ true) × (entries ≡ judged)
judged_by true true entries judged h = (refl, read_same entries judged h)
judged_by true false entries judged h = absurd cc
judged_by false ticks entries judged h = absurd cc

-- what is known of each, and that each has ticks
params_are_read : (p : Params) → ParamsRanged p → has_ticks p ≡ true → ParamsAreRead p
params_are_read p of h =
    let ticks = ticks_are p h in
    record {
      some_ticks = ticks.least;
      few_ticks = ticks.most;
      hints = of.hints;
      opcodes = of.opcodes;
      rr_types = of.rr_types;
      flags = of.flags;
      four_prefixes = of.four_prefixes;
      client_prefix4 = byte_at p.prefixes 0 of.prefixes;
      client_prefix6 = byte_at p.prefixes 1 of.prefixes;
      server_prefix4 = byte_at p.prefixes 2 of.prefixes;
      server_prefix6 = byte_at p.prefixes 3 of.prefixes;
    }

entries_are_read : (entries : List Params) → AllByRecursion ParamsRanged entries → have_ticks entries ≡ true → AllByRecursion ParamsAreRead entries
unfolding have_ticks
entries_are_read [] all h = tt
entries_are_read (p ∷ entries) all h =
    let ticks = and_parts (has_ticks p) (have_ticks entries) h in (params_are_read p all.0 ticks.0, entries_are_read entries all.1 ticks.1)

-- block parameters that are read have their ranges
pub params_ranged : (item : Item) (entries : List Params) → read_params item ≡ Ok entries → AllByRecursion ParamsAreRead entries
unfolding read_params
params_ranged item entries h =
    let pairs = bind_read (ok_or (pairs_in (out-Item item)) NotCdns) _ entries h in
    let preamble = bind_read (fields_of preamble_table no_preamble pairs.0) judged_preamble entries pairs.2 in
    let judged = judged_by (nat_eq preamble.0.major 1) (have_ticks preamble.0.entries) preamble.0.entries entries preamble.2 in
    let all = fields_keep (λ n. PreambleRanged) (λ n more fields p. p) preamble_table preamble_lines pairs.0 no_preamble preamble.0 0 preamble.1 tt in
    subst (AllByRecursion ParamsAreRead) judged.1 (entries_are_read preamble.0.entries all judged.0)
