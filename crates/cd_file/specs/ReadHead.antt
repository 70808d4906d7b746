-- What the preamble of a file gives: its block parameters, or the first refusal (RFC 8618 7.3.1). Each kind of map has one
-- table, with a line a key: whether it is required, its kind, and its place.
use Rattle.std.specs.Prelude.{◌≡◌, ℕ, ◌+◌, ◌%◌, ◌^◌, nat_eq, nat_le, Bool, true, ◌&&◌, List, [], ◌∷◌, None, Some, Ok, Err, ok_or, slice_set, if◌then◌else◌}
use Rattle.cd_cbor.specs.declared.item.Item.{Item}
use Rattle.cd_cbor.specs.declared.item.Item.TheViews.{out-Item}
use Rattle.cd_block.specs.declared.hints.Hints.{Hints}
use Rattle.cd_block.specs.declared.params.Params.{Params}
use Rattle.cd_block.specs.declared.keys.TheConstants as key
use Rattle.cd_file.specs.declared.preamble.Preamble.{Preamble}
use Rattle.cd_file.specs.declared.refusal.FileWhy.TheVariants.{NotCdns, Version, TimeRange}
use Rattle.cd_file.specs.Head.{has_opcode}
use Rattle.cd_file.specs.Refusing.{Refusing, ◌>>=◌}
use Rattle.cd_file.specs.Kinds.{unsigned, unsigned_below, array_of, filled_array_of, pairs_in}
use Rattle.cd_file.specs.MapReading.{Line, required, optional, required_within, optional_within, map_from, fields_of}

-- no hint
abbrev pub no_hints : Hints
no_hints = record { qr = 0; sig = 0; rr = 0; other = 0 }

-- the keys of storage hints; bits that are not known are dropped (RFC 8618 7.3.1.1.1.1)
abbrev pub hints_table : List (Line Hints)
hints_table =
    required key.HINTS_QUERY_RESPONSE unsigned (λ n h. record h { qr = n % 2 ^ 18 })
    ∷ required key.HINTS_SIGNATURE unsigned (λ n h. record h { sig = n % 2 ^ 17 })
    ∷ required key.HINTS_RR unsigned (λ n h. record h { rr = n % 2 ^ 2 })
    ∷ required key.HINTS_OTHER_DATA unsigned (λ n h. record h { other = n % 2 ^ 2 })
    ∷ []

-- the bits of some opcodes, and of one more
abbrev pub with_opcode : ℕ → ℕ → ℕ
with_opcode opcodes n = if has_opcode opcodes n then opcodes else opcodes + 2 ^ n

-- the bits of opcodes, from those of some before
unfoldable pub opcode_bits : ℕ → List ℕ → ℕ
opcode_bits before [] = before
opcode_bits before (n ∷ ns) = opcode_bits (with_opcode before n) ns

-- how many bits are kept of an address, by the place of the kind of address
abbrev pub with_prefix : ℕ → ℕ → Params → Params
with_prefix place bits p = record p { prefixes = slice_set p.prefixes place (Some bits) }

-- the keys of storage parameters (RFC 8618 7.3.1.1.1)
abbrev pub storage_table : List (Line Params)
storage_table =
    required key.STORAGE_TICKS_PER_SECOND unsigned (λ n p. record p { ticks = n })
    ∷ required key.STORAGE_MAX_BLOCK_ITEMS unsigned (λ n p. record p { max_items = n })
    ∷ required key.STORAGE_HINTS (map_from hints_table no_hints) (λ h p. record p { hints = h })
    ∷ required key.STORAGE_OPCODES (array_of (unsigned_below 16)) (λ ns p. record p { opcodes = opcode_bits 0 ns })
    ∷ required key.STORAGE_RR_TYPES (array_of (unsigned_below 0x1_0000)) (λ ns p. record p { rr_types = ns })
    ∷ optional key.STORAGE_CLIENT_PREFIX_IPV4 (unsigned_below 0x100) (with_prefix 0)
    ∷ optional key.STORAGE_CLIENT_PREFIX_IPV6 (unsigned_below 0x100) (with_prefix 1)
    ∷ optional key.STORAGE_SERVER_PREFIX_IPV4 (unsigned_below 0x100) (with_prefix 2)
    ∷ optional key.STORAGE_SERVER_PREFIX_IPV6 (unsigned_below 0x100) (with_prefix 3)
    ∷ []

-- the keys of collection parameters (RFC 8618 7.3.1.1.2)
abbrev pub collection_table : List (Line Params)
collection_table =
    optional key.COLLECTION_QUERY_TIMEOUT unsigned (λ n p. record p { query_ms = Some n })
    ∷ optional key.COLLECTION_SKEW_TIMEOUT unsigned (λ n p. record p { skew_us = Some n })
    ∷ []

-- the keys of block parameters (RFC 8618 7.3.1.1)
abbrev pub parameters_table : List (Line Params)
parameters_table =
    required_within key.BLOCK_PARAMETERS_STORAGE storage_table
    ∷ optional_within key.BLOCK_PARAMETERS_COLLECTION collection_table
    ∷ []

-- block parameters before their first entry; flags are passed over and stay 0
abbrev pub no_params : Params
no_params = record {
  ticks = 0;
  max_items = 0;
  hints = no_hints;
  opcodes = 0;
  rr_types = [];
  flags = 0;
  prefixes = None ∷ None ∷ None ∷ None ∷ [];
  query_ms = None;
  skew_us = None;
}

-- the keys of the file preamble (RFC 8618 7.3.1)
abbrev pub preamble_table : List (Line Preamble)
preamble_table =
    required key.PREAMBLE_MAJOR_VERSION unsigned (λ n p. record p { major = n })
    ∷ required key.PREAMBLE_MINOR_VERSION unsigned (λ n p. p)
    ∷ optional key.PREAMBLE_PRIVATE_VERSION unsigned (λ n p. p)
    ∷ required key.PREAMBLE_BLOCK_PARAMETERS (filled_array_of (map_from parameters_table no_params))
    (λ es p. record p { entries = es })
    ∷ []

-- a file preamble before its first entry
abbrev pub no_preamble : Preamble
no_preamble = record { major = 0; entries = [] }

-- a second has 1 to 1,000,000,000 ticks
abbrev pub has_ticks : Params → Bool
has_ticks p = nat_le 1 p.ticks && nat_le p.ticks 1000000000

-- so it is by all parameters
unfoldable pub have_ticks : List Params → Bool
have_ticks [] = true
have_ticks (p ∷ ps) = has_ticks p && have_ticks ps

-- by each of these block parameters a second has 1 to 1,000,000,000 ticks
abbrev pub HasTicks : List Params → Type 0
HasTicks entries = have_ticks entries ≡ true

-- the block parameters of a preamble of major version 1 whose ticks are in their range
abbrev pub judged_preamble : Preamble → Refusing (List Params)
judged_preamble p =
    if nat_eq p.major 1 then (if have_ticks p.entries then Ok p.entries else Err TimeRange) else Err Version

-- the block parameters of a file whose preamble is this item, or the first refusal (RFC 8618 7.3.1)
unfoldable pub read_params : Item → Refusing (List Params)
read_params item = do
  pairs ← ok_or (pairs_in (out-Item item)) NotCdns
  preamble ← fields_of preamble_table no_preamble pairs
  judged_preamble preamble
