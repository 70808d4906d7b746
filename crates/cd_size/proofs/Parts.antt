-- What the parts of an item cost: addresses, names, types and classes, and signatures.
use Rattle.std.proofs.Common.{◌≡◌, ℕ, ◌+◌, ◌-◌, ◌<◌, ◌≤◌, Bool, true, false, List, [], ◌∷◌, length, Option, Some, None, arith, length-append}
use Rattle.std.specs.Prelude.{IfSome, if◌then◌else◌}
use Rattle.std.proofs.lemmas.Bool.{lt-ltb}
use Rattle.std.proofs.lemmas.List.{length-take}
use Rattle.cd_cbor.specs.Items.{bytes}
use Rattle.cd_cbor.specs.Spelling.{head}
use Rattle.cd_cbor.proofs.Spelled.{spelling_bytes}
use Rattle.cd_file.proofs.Sizes.{head_of_byte, head_of_word, head_of_key}
use Rattle.cd_file.proofs.MapSizes.{signature_short}
use Rattle.cd_file.specs.Ranges.{SignatureInRange}
use Rattle.cd_block.specs.declared.kept.KeptSig.{KeptSig}
use Rattle.cd_block.specs.Tables.{KeptTables, indexed_signature}
use Rattle.cd_block.specs.Traversal.{Visited, where_present, visited_address, visited_classtype, visited_bytes, visited_signature}
use Rattle.cd_packet.specs.declared.address.Addr.{Addr}
use Rattle.cd_hints.specs.Addresses.{stored_address}
use Rattle.cd_hints.specs.Hinted.{is_hinted, kept}
use Rattle.cd_hints.specs.Prefix.{first_bits, prefix_bytes, prefix_size, kept_bits}
use Rattle.cd_size.specs.Costs.{size, value_size}
use Rattle.cd_size.proofs.Totals.{total, total_three}

-- the bytes of some values in their tables
abbrev pub cost : KeptTables → List Visited → ℕ
cost t values = total (value_size t) values

-- a string whose head has some length
bytes_within : (content : List ℕ) (h : ℕ) → length (head 2 (length content)) ≤ h →
    size (bytes content) ≤ h + length content
bytes_within content h short =
    rw (spelling_bytes content) (omega (arith, short, length-append (head 2 (length content)) content))

-- an address
address_short : (content : List ℕ) → length content ≤ 16 → size (bytes content) ≤ 17
address_short content few =
    let below : length content < 24 = omega arith in
    let one : length (head 2 (length content)) ≡ 1 =
    head_of_key 2 (length content) (lt-ltb (length content) 24 below) in
    let whole = bytes_within content 1 (omega (arith, one)) in omega (arith, whole, few)

-- a name
pub name_short : (content : List ℕ) → length content ≤ 255 → size (bytes content) ≤ 2 + length content
name_short content few = bytes_within content 2 (head_of_byte 2 (length content) (omega arith))

-- RDATA
pub rdata_short : (content : List ℕ) → length content ≤ 65535 → size (bytes content) ≤ 3 + length content
rdata_short content few = bytes_within content 3 (head_of_word 2 (length content) (omega arith))

-- the first bits of some bytes are as many bytes
length_first_bits : (bits : ℕ) (bs : List ℕ) → length (first_bits bits bs) ≤ length bs
length_first_bits bits [] = omega arith
length_first_bits bits (b ∷ bs) = omega (arith, length_first_bits (bits - 8) bs)

-- what is kept of an address has at most its bytes
pub stored_short : (bits : Option ℕ) (addr : Addr) → length addr.octets ≤ 16 → length (stored_address bits addr) ≤ 16
stored_short bits addr few =
    omega (
      arith,
      few,
      length-take (prefix_size addr bits) (prefix_bytes addr bits),
      length_first_bits (kept_bits addr bits) addr.octets,
    )

-- a part that is kept or not
either_cost : {X : Type 0} (t : KeptTables) (visit : X → List Visited) (b : Bool) (v : Option X) →
    cost t (where_present visit (if b then v else None)) ≤ cost t (where_present visit v)
either_cost t visit true v = omega arith
either_cost t visit false v = omega arith

-- what is kept of a part costs no more than the part
pub kept_cost : {X : Type 0} (t : KeptTables) (visit : X → List Visited) (hints hint : ℕ) (v : Option X) →
    cost t (where_present visit (kept hints hint v)) ≤ cost t (where_present visit v)
kept_cost t visit hints hint v = either_cost t visit (is_hinted hints hint) v

-- an address that may be absent
pub address_cost : (t : KeptTables) (a : Option (List ℕ)) → IfSome a (λ content. length content ≤ 16) →
    cost t (where_present visited_address a) ≤ 17
address_cost t None few = omega arith
address_cost t (Some content) few =
    let short : size (bytes content) ≤ 17 = address_short content few in omega (arith, short)

-- a signature
pub signature_cost : (t : KeptTables) (s : KeptSig) → SignatureInRange (indexed_signature t s) →
    IfSome s.server_address (λ content. length content ≤ 16) → cost t (visited_signature s) ≤
    96 + (cost t (where_present visited_classtype s.classtype) + cost t (where_present visited_bytes s.opt_rdata))
unfolding visited_signature
signature_cost t s range few =
    omega (
      arith,
      signature_short (indexed_signature t s) range,
      address_cost t s.server_address few,
      total_three (value_size t)
          (where_present visited_address s.server_address)
          (where_present visited_classtype s.classtype)
          (where_present visited_bytes s.opt_rdata),
    )
