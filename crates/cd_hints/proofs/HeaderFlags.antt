-- The flags of the header, bit by bit and together.
use Rattle.std.proofs.Common.{◌≡◌, ℕ, ◌+◌, ◌*◌, ◌/◌, ◌%◌, arith}
use Rattle.std.specs.Int.{bit_at}

-- seven bits from the fourth on, each where the flag of a query stands
pub query_flags_of : (n : ℕ) → bit_at n 4 * 1 + bit_at n 5 * 2 + bit_at n 6 * 4 + bit_at n 7 * 8 + bit_at n 8 * 16 + bit_at n 9 * 32 + bit_at n 10 * 64 ≡ n / 16 % 128
query_flags_of n = omega arith

-- the same, each where the flag of a response stands
pub response_flags_of : (n : ℕ) → bit_at n 4 * 256 + bit_at n 5 * 512 + bit_at n 6 * 1024 + bit_at n 7 * 2048 + bit_at n 8 * 4096 + bit_at n 9 * 8192 + bit_at n 10 * 16384 ≡ 256 * (n / 16 % 128)
response_flags_of n = omega arith
