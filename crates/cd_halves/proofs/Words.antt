-- The second word of a header and the TTL of an OPT record, put together again.
use Rattle.std.proofs.Common.{◌≡◌, ℕ, ◌+◌, ◌*◌, ◌/◌, ◌%◌, ◌^◌, ◌<◌, ◌≤◌, Bool, true, false, cond, not, nat_eq, bit_and, refl, arith}
use Rattle.std.specs.Prelude.{nat_le}
use Rattle.std.specs.Int.{bit_at}
use Rattle.std.proofs.lemmas.Bool.{leb-true, leb-false}
use Rattle.std.proofs.lemmas.Nat.Bits.{and_pow}
use Rattle.cd_edns.specs.Opts.{ttl_of_opt}
use Rattle.cd_hints.specs.Flags.{flag_where, is_dnssec_ok, query_dns_flags, response_dns_flags}
use Rattle.cd_message.specs.declared.message.Message.{Message}
use Rattle.cd_rebuild.specs.Flags.{is_set}
use Rattle.cd_rebuild.specs.Messages as rebuilt
use Rattle.cd_rebuild.proofs.HeaderFlags.{query_flags_together, response_flags_together}

-- a flag as a number of 0 or 1 times it
abbrev pub digit : Bool → ℕ
digit b = cond b 1 0

pub digit_small : (b : Bool) → digit b ≤ 1
digit_small true = omega arith
digit_small false = omega arith

flag_is : (b : Bool) (n : ℕ) → flag_where b n ≡ digit b * n
flag_is true n = omega arith
flag_is false n = omega arith

-- the flags of a query together: those of its header, and DO
pub query_dns : (m : Message) → query_dns_flags m ≡ m.bits / 16 % 128 + digit (is_dnssec_ok m) * 128
query_dns m =
    let is : flag_where (is_dnssec_ok m) 128 ≡ digit (is_dnssec_ok m) * 128 = flag_is (is_dnssec_ok m) 128 in
    omega (arith, is)

-- those of a response
pub response_dns : (m : Message) → response_dns_flags m ≡ 256 * (m.bits / 16 % 128)
response_dns m = omega arith

-- a flag is set where its digit is 1
told_by : (b : Bool) → not (nat_eq (digit b * 128) 0) ≡ b
told_by true = refl
told_by false = refl

-- DO among the flags
pub do_told : (a k n : ℕ) (b : Bool) → a < 128 → n ≡ a + digit b * 128 + 256 * k → is_set n 128 ≡ b
do_told a k n b small is =
    let bit : bit_at n 7 ≡ digit b = omega (arith, is, small, digit_small b) in
    let and : bit_and n 128 ≡ bit_at n 7 * 128 = and_pow n 7 in
    rw (and, bit) (told_by b)

-- the second word of a query's header
pub query_word : (bits flags rcode k d : ℕ) → bits < 2 ^ 16 → bits / 0x8000 % 2 ≡ 0 → d ≤ 1 → flags ≡ bits / 16 % 128 + d * 128 + 256 * k → rcode % 16 ≡ bits % 16 →
    bits / 0x800 % 16 % 16 * 0x0800 + rebuilt.query_flags flags + rcode % 16 ≡ bits
query_word bits flags rcode k d small qr one is low =
    let together : rebuilt.query_flags flags ≡ flags % 128 * 16 = query_flags_together flags in
    let seven : flags % 128 ≡ bits / 16 % 128 = omega (arith, is) in
    rw (together, seven, low) (omega (arith, small, qr))

-- the second word of a response's header
pub response_word : (bits flags rcode q : ℕ) → bits < 2 ^ 16 → bits / 0x8000 % 2 ≡ 1 → q < 256 → flags ≡ q + 256 * (bits / 16 % 128) → rcode % 16 ≡ bits % 16 →
    0x8000 + bits / 0x800 % 16 % 16 * 0x0800 + rebuilt.response_flags flags + rcode % 16 ≡ bits
response_word bits flags rcode q small qr few is low =
    let together : rebuilt.response_flags flags ≡ flags / 256 % 128 * 16 = response_flags_together flags in
    let seven : flags / 256 % 128 ≡ bits / 16 % 128 = omega (arith, is, few) in
    rw (together, seven, low) (omega (arith, small, qr))

-- the TTL of an OPT record whose bits after DO are 0
pub ttl_again : (ttl full low : ℕ) (b : Bool) → ttl < 2 ^ 32 → ttl % 0x8000 ≡ 0 → low < 16 → full ≡ low + 16 * (ttl / 16777216) → b ≡ nat_le 32768 (ttl % 65536) →
    ttl_of_opt (full / 16 % 256) (ttl / 65536 % 256) b ≡ ttl
ttl_again ttl full low b small zeros few is told =
    let high : full / 16 % 256 ≡ ttl / 16777216 = omega (arith, is, few, small) in
    rw (high, told) (by_do (nat_le 32768 (ttl % 65536)) refl)
  where
    by_do : (c : Bool) → nat_le 32768 (ttl % 65536) ≡ c → ttl_of_opt (ttl / 16777216) (ttl / 65536 % 256) c ≡ ttl
    by_do true le = let up : 32768 ≤ ttl % 65536 = leb-true 32768 (ttl % 65536) le in omega (arith, small, zeros, up)
    by_do false gt = let below : ttl % 65536 < 32768 = leb-false 32768 (ttl % 65536) gt in omega (arith, small, zeros, below)
