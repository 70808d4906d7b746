-- The bits of opcodes.
use Rattle.std.proofs.Common.{◌≡◌, ℕ, zero, suc, ◌+◌, ◌*◌, ◌/◌, ◌%◌, ◌^◌, ◌<◌, ◌≤◌, nat_eq, List, [], ◌∷◌, length, drop, get_or, Ok, false, refl, sym, ◌∙◌, arith, add-one, drop-cons}
use Rattle.std.specs.Prelude.{ℤ, All}
use Rattle.std.specs.List.{AllByRecursion}
use Rattle.std.proofs.Math.Nat.{pow-suc}
use Rattle.std.proofs.lemmas.Nat.Bits.{bit_at_lowest, bit_at-suc}
use Rattle.std.proofs.lemmas.Bool.{eqb-false}
use Rattle.std.specs.Int.{bit_at}
use Rattle.std.proofs.lemmas.List.{drop_all}
use Rattle.std.proofs.lemmas.List.Elements.{All-cons}
use Rattle.cd_cbor.specs.declared.item.Item.{Item}
use Rattle.cd_file.specs.Kinds.{unsigned_below, array_of}
use Rattle.cd_file.specs.ReadHead.{with_opcode, opcode_bits}
use Rattle.cd_file.proofs.KindsGive.{below_gives}
use Rattle.cd_file.proofs.MapsKeep.{array_gives}

-- a number has room for a bit that is not set
pub room : (width place n : ℕ) → place < width → n < 2 ^ width → bit_at n place ≡ 0 → n + 2 ^ place < 2 ^ width
room zero place n within small unset = absurd (omega arith)
room (suc width) zero n within small unset =
    let even : n % 2 ≡ 0 = sym (bit_at_lowest n) ∙ unset in
    let twice : 2 ^ suc width ≡ 2 ^ width * 2 = pow-suc 2 width in
    omega arith
room (suc width) (suc place) n within small unset =
    let twice : 2 ^ suc width ≡ 2 ^ width * 2 = pow-suc 2 width in
    let bit : 2 ^ suc place ≡ 2 ^ place * 2 = pow-suc 2 place in
    let half : n / 2 + 2 ^ place < 2 ^ width = room width place (n / 2) (omega arith) (omega arith) (sym (bit_at-suc n place) ∙ unset) in
    omega arith

pub room_for : (opcodes place : ℕ) → place < 16 → opcodes < 65536 → nat_eq (opcodes / 2 ^ place % 2) 1 ≡ false → opcodes + 2 ^ place < 65536
room_for opcodes place within small unset =
    let not_one = eqb-false (opcodes / 2 ^ place % 2) 1 unset in
    let no_bit : opcodes / 2 ^ place % 2 ≡ 0 = omega arith in
    room 16 place opcodes within small no_bit

-- what holds of each value by recursion holds of each by its index
by_index : (P : ℕ → Type 0) (values : List ℕ) → AllByRecursion P values → All P values
by_index P [] all = λ k d within. absurd (omega arith)
by_index P (value ∷ values) all = All-cons P value values all.0 (by_index P values all.1)

pub opcodes_are_low : (key : ℤ) (item : Item) (values : List ℕ) → array_of (unsigned_below 16) key item ≡ Ok values → All (λ n. n < 16) values
opcodes_are_low key item values is = by_index (λ n. n < 16) values ((array_gives (λ n. n < 16) (unsigned_below 16) (below_gives 16)).gives key item values is)

-- the bits of one more opcode, and of no more
pub bits_more : (opcodes : ℕ) (listed : List ℕ) (i : ℕ) → i < length listed → opcode_bits opcodes (drop i listed) ≡ opcode_bits (with_opcode opcodes (get_or listed i 0)) (drop (i + 1) listed)
unfolding opcode_bits
bits_more opcodes listed i within = rw (drop-cons listed i 0, add-one) refl

pub bits_end : (opcodes : ℕ) (listed : List ℕ) (i : ℕ) → length listed ≤ i → opcode_bits opcodes (drop i listed) ≡ opcodes
unfolding opcode_bits
bits_end opcodes listed i past = rw (drop_all i listed past) refl
