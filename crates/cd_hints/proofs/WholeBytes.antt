-- All bits of bytes are the bytes.
use Rattle.std.proofs.Common.{◌≡◌, ℕ, ◌-◌, ◌*◌, ◌/◌, ◌^◌, ◌≤◌, zero, suc, min, Bool, true, false, List, [], ◌∷◌, ◌++◌, length, take, drop, replicate, ap, sym, ◌∙◌, refl, arith}
use Rattle.std.specs.Prelude.{None}
use Rattle.std.proofs.lemmas.List.{append-nil, take-append-drop, length-take}
use Rattle.std.proofs.Math.Nat.{zero-div, zero-mul}
use Rattle.cd_packet.specs.declared.address.Addr.{Addr}
use Rattle.cd_hints.specs.Prefix.{first_bits, first_bits_of_byte, width_of, prefix_bytes}

-- eight bits of a byte or more are the byte
whole_byte : (bits byte : ℕ) → 8 ≤ bits → first_bits_of_byte (min bits 8) byte ≡ byte
whole_byte bits byte enough =
    let eight : min bits 8 ≡ 8 = omega arith in
    ap (λ k. byte / 2 ^ (8 - k) * 2 ^ (8 - k)) eight ∙ omega arith

-- with eight bits for each byte the bytes stay, and what stands after them has the bits that are left
first_bits_append : (bits : ℕ) (bytes after : List ℕ) → 8 * length bytes ≤ bits →
    first_bits bits (bytes ++ after) ≡ bytes ++ first_bits (bits - 8 * length bytes) after
first_bits_append bits [] after enough = ap (λ k. first_bits k after) (omega arith)
first_bits_append bits (byte ∷ bytes) after enough =
    let rest : first_bits (bits - 8) (bytes ++ after) ≡ bytes ++ first_bits (bits - 8 - 8 * length bytes) after = first_bits_append (bits - 8) bytes after (omega arith) in
    let left : bits - 8 - 8 * length bytes ≡ bits - 8 * length (byte ∷ bytes) = omega arith in
    ap (λ first. first ∷ first_bits (bits - 8) (bytes ++ after)) (whole_byte bits byte (omega arith)) ∙ ap (λ bs. byte ∷ bs) (rest ∙ ap (λ k. bytes ++ first_bits k after) left)

-- any bits of a byte that is 0 are 0
zero_byte : (bits : ℕ) → first_bits_of_byte bits 0 ≡ 0
zero_byte bits = ap (λ n. n * 2 ^ (8 - bits)) (zero-div (2 ^ (8 - bits))) ∙ zero-mul (2 ^ (8 - bits))

-- bytes that are 0 stay, however many bits are kept
first_bits_zeros : (bits n : ℕ) → first_bits bits (replicate n 0) ≡ replicate n 0
first_bits_zeros bits zero = refl
first_bits_zeros bits (suc n) =
    ap (λ first. first ∷ first_bits (bits - 8) (replicate n 0)) (zero_byte (min bits 8)) ∙ ap (λ bs. 0 ∷ bs) (first_bits_zeros (bits - 8) n)

-- bytes of which all bits are kept stay
whole_bytes : (bits : ℕ) (bytes : List ℕ) → 8 * length bytes ≤ bits → first_bits bits bytes ≡ bytes
whole_bytes bits bytes enough =
    ap (first_bits bits) (sym (append-nil bytes)) ∙ first_bits_append bits bytes [] enough ∙ append-nil bytes

-- the same of the bytes of an address, by its version: of IPv4 those after the first four are 0
stays_by_version : (v6 : Bool) (octets : List ℕ) → (v6 ≡ false → drop 4 octets ≡ replicate 12 0) → length octets ≡ 16 → first_bits (width_of v6) octets ≡ octets
stays_by_version true octets padded size = whole_bytes 128 octets (omega arith)
stays_by_version false octets padded size =
    let front : length (take 4 octets) ≡ 4 = length-take 4 octets ∙ omega arith in
    let parts : take 4 octets ++ replicate 12 0 ≡ octets = ap (λ bs. take 4 octets ++ bs) (sym (padded refl)) ∙ take-append-drop 4 octets in
    ap (first_bits 32) (sym parts) ∙ first_bits_append 32 (take 4 octets) (replicate 12 0) (omega arith) ∙
    ap (λ bs. take 4 octets ++ bs) (first_bits_zeros (32 - 8 * length (take 4 octets)) 12) ∙ parts

-- an address of which all bits are kept stays
pub whole_address : (addr : Addr) → length addr.octets ≡ 16 → prefix_bytes addr None ≡ addr.octets
whole_address addr size = stays_by_version addr.v6 addr.octets addr.padded size
