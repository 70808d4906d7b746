-- Sums with end-around carry.
use Rattle.std.proofs.Common.{◌≡◌, ℕ, ◌+◌, ◌-◌, ◌*◌, ◌/◌, ◌%◌, ◌<◌, ◌≤◌, arith}
use Rattle.std.proofs.lemmas.Bool.Decides.{nat_tests}
use Rattle.cd_bytes.specs.Checksum.{carried}

-- a positive sum with its carry
pub carried_positive : (n : ℕ) → 0 < n → carried n ≡ (n - 1) % 0xffff + 1
carried_positive n h = grind (arith, nat_tests)

-- A multiple of 0xffff more leaves it as it is.
pub carried_more : (m n q : ℕ) → 0 < m → n ≡ m + q * 0xffff → carried n ≡ carried m
carried_more m n q h e = grind (arith, carried_positive)

-- A sum of 16 bits has no carry.
pub carried_small : (n : ℕ) → n ≤ 0xffff → carried n ≡ n
carried_small n h = grind (arith, nat_tests)

-- The high bits are added to the low ones.
pub carried_folds : (n : ℕ) → 0xffff < n → carried (n % 0x10000 + n / 0x10000) ≡ carried n
carried_folds n h = grind (arith, carried_more)

-- A carry may be added before the rest of the sum.
pub carried-carried : (m n : ℕ) → carried (carried m + n) ≡ carried (m + n)
carried-carried m n = grind (arith, carried_positive, nat_tests)
