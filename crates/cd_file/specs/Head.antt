-- The preamble of a file: its version and its block parameters (RFC 8618 7.3.1).
use Rattle.std.specs.Prelude.{ℕ, zero, suc, ◌/◌, ◌%◌, ◌^◌, nat_eq, Bool, List, [], ◌∷◌, ◌++◌, Option, None, Some, slice_index_or, if◌then◌else◌}
use Rattle.cd_cbor.specs.declared.item.Item.{Item}
use Rattle.cd_cbor.specs.Items.{unsigned, array}
use Rattle.cd_file.specs.Maps.{map_of, optional_map, number, numbers}
use Rattle.cd_block.specs.declared.hints.Hints.{Hints}
use Rattle.cd_block.specs.declared.params.Params.{Params}
use Rattle.cd_block.specs.declared.keys.TheConstants as key

-- storage hints (RFC 8618 7.3.1.1.1.1)
abbrev pub hints_item : Hints → Item
hints_item h = map_of (
    (key.HINTS_QUERY_RESPONSE, Some (unsigned h.qr))
    ∷ (key.HINTS_SIGNATURE, Some (unsigned h.sig))
    ∷ (key.HINTS_RR, Some (unsigned h.rr))
    ∷ (key.HINTS_OTHER_DATA, Some (unsigned h.other))
    ∷ [])

-- the bit of an opcode is set
abbrev pub has_opcode : ℕ → ℕ → Bool
has_opcode opcodes n = nat_eq (opcodes / 2 ^ n % 2) 1

-- an opcode whose bit is set
abbrev pub listed_opcode : ℕ → ℕ → List ℕ
listed_opcode opcodes n = if has_opcode opcodes n then n ∷ [] else []

-- the opcodes below a number whose bit is set, ascending
unfoldable pub opcodes_below : ℕ → ℕ → List ℕ
opcodes_below zero opcodes = []
opcodes_below (suc n) opcodes = opcodes_below n opcodes ++ listed_opcode opcodes n

-- a number that is not 0
abbrev pub unless_zero : ℕ → Option ℕ
unless_zero n = if nat_eq n 0 then None else Some n

-- how many bits are kept of an address, absent where all are
abbrev pub prefix : ℕ → Params → Option ℕ
prefix index p = slice_index_or p.prefixes index None

-- the storage parameters that are always there (RFC 8618 7.3.1.1.1)
abbrev pub required_storage : Params → List (ℕ × Option Item)
required_storage p =
    (key.STORAGE_TICKS_PER_SECOND, Some (unsigned p.ticks))
    ∷ (key.STORAGE_MAX_BLOCK_ITEMS, Some (unsigned p.max_items))
    ∷ (key.STORAGE_HINTS, Some (hints_item p.hints))
    ∷ (key.STORAGE_OPCODES, Some (numbers (opcodes_below 16 p.opcodes)))
    ∷ (key.STORAGE_RR_TYPES, Some (numbers p.rr_types))
    ∷ []

-- the storage parameters that may be absent: flags where one is set, and prefixes (RFC 8618 7.3.1.1.1)
abbrev pub optional_storage : Params → List (ℕ × Option Item)
optional_storage p =
    (key.STORAGE_FLAGS, number (unless_zero p.flags))
    ∷ (key.STORAGE_CLIENT_PREFIX_IPV4, number (prefix 0 p))
    ∷ (key.STORAGE_CLIENT_PREFIX_IPV6, number (prefix 1 p))
    ∷ (key.STORAGE_SERVER_PREFIX_IPV4, number (prefix 2 p))
    ∷ (key.STORAGE_SERVER_PREFIX_IPV6, number (prefix 3 p))
    ∷ []

-- storage parameters (RFC 8618 7.3.1.1.1)
abbrev pub storage_item : Params → Item
storage_item p = map_of (required_storage p ++ optional_storage p)

-- the timeouts (RFC 8618 7.3.1.1.2)
abbrev pub collection_entries : Params → List (ℕ × Option Item)
collection_entries p =
    (key.COLLECTION_QUERY_TIMEOUT, number p.query_ms)
    ∷ (key.COLLECTION_SKEW_TIMEOUT, number p.skew_us)
    ∷ []

-- collection parameters, absent where neither timeout is there (RFC 8618 7.3.1.1.2)
abbrev pub collection_item : Params → Option Item
collection_item p = optional_map (collection_entries p)

-- block parameters (RFC 8618 7.3.1.1)
abbrev pub parameters_item : Params → Item
parameters_item p = map_of (
    (key.BLOCK_PARAMETERS_STORAGE, Some (storage_item p))
    ∷ (key.BLOCK_PARAMETERS_COLLECTION, collection_item p)
    ∷ [])

-- the preamble of version 1.0, with one set of block parameters (RFC 8618 7.3.1)
abbrev pub preamble_item : Params → Item
preamble_item p = map_of (
    (key.PREAMBLE_MAJOR_VERSION, Some (unsigned 1))
    ∷ (key.PREAMBLE_MINOR_VERSION, Some (unsigned 0))
    ∷ (key.PREAMBLE_BLOCK_PARAMETERS, Some (array (parameters_item p ∷ [])))
    ∷ [])
