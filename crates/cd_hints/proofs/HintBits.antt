-- The bits of the hints of fields that are never kept.
use Rattle.std.proofs.Common.{◌≡◌, ◌*◌, ℕ, bit_and}
use Rattle.std.specs.Int.{bit_at}
use Rattle.std.proofs.lemmas.Nat.Bits.{and_pow}

-- 1024 is bit 10
pub and_1024 : (n : ℕ) → bit_and n 1024 ≡ bit_at n 10 * 1024
and_1024 n = and_pow n 10

-- 8 is bit 3
pub and_8 : (n : ℕ) → bit_and n 8 ≡ bit_at n 3 * 8
and_8 n = and_pow n 3
