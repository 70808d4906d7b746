-- The flags of the header, bit by bit and together.
use Rattle.std.proofs.Common.{◌≡◌, ℕ, ◌+◌, ◌*◌, ◌/◌, ◌%◌, arith}
use Rattle.cd_rebuild.specs.Messages.{query_flags, response_flags}

-- seven bits of a query's flags, each where it stands in the header
pub query_flags_together : (n : ℕ) → query_flags n ≡ n % 128 * 16
query_flags_together n = omega arith

-- seven bits of a response's flags, each where it stands in the header
pub response_flags_together : (n : ℕ) → response_flags n ≡ n / 256 % 128 * 16
response_flags_together n = omega arith
