-- Units of 10^-resolution seconds in nanoseconds, without a division of 128 bits.
use Rattle.std.proofs.Common.{◌≡◌, ℕ, ◌+◌, ◌-◌, ◌*◌, ◌/◌, ◌^◌, ◌<◌, ◌≤◌, ap, sym, ◌∙◌, arith, lit≤, lit<}
use Rattle.std.proofs.lemmas.Nat.{pow-add}
use Rattle.std.proofs.Math.Nat.{mul_assoc, mul-div_cancel, div-div-eq-div-mul, div-eq_of_lt, div-le_self, one-le-pow, pow-le-pow_right}
use Rattle.cd_pcapng.specs.Times.{nanos_of}

-- a power of ten is no zero
pub ten_pos : (k : ℕ) → 0 < 10 ^ k
ten_pos k = one-le-pow k 10 (lit≤ tt)

-- units of a nanosecond or more
pub coarse_units : (n ticks : ℕ) → n ≤ 9 → ticks * 10 ^ (9 - n) ≡ nanos_of (10 ^ n) ticks
coarse_units n ticks few =
    let sum : 9 ≡ 9 - n + n = omega arith in
    let split : 1000000000 ≡ 10 ^ (9 - n) * 10 ^ n = ap (λ k. 10 ^ k) sum ∙ pow-add 10 (9 - n) n in
    sym (mul-div_cancel (ticks * 10 ^ (9 - n)) (ten_pos n)) ∙ ap (λ k. k / 10 ^ n) (mul_assoc ticks (10 ^ (9 - n)) (10 ^ n))
    ∙ ap (λ k. ticks * k / 10 ^ n) (sym split)

-- units of less than a nanosecond
pub fine_units : (n ticks : ℕ) → 9 ≤ n → ticks / 10 ^ (n - 9) ≡ nanos_of (10 ^ n) ticks
fine_units n ticks many =
    let sum : n ≡ 9 + (n - 9) = omega arith in
    let split : 10 ^ n ≡ 1000000000 * 10 ^ (n - 9) = ap (λ k. 10 ^ k) sum ∙ pow-add 10 9 (n - 9) in
    ap (λ k. k / 10 ^ (n - 9)) (sym (mul-div_cancel ticks (lit< tt)))
    ∙ div-div-eq-div-mul (ticks * 1000000000) 1000000000 (10 ^ (n - 9)) ∙ ap (λ k. ticks * 1000000000 / k) (sym split)

-- units so small that 2^64 of them are less than a nanosecond
pub tiny_units : (n ticks : ℕ) → 29 ≤ n → ticks < 2 ^ 64 → nanos_of (10 ^ n) ticks ≡ 0
tiny_units n ticks many small =
    let large : 10 ^ 29 ≤ 10 ^ n = pow-le-pow_right (lit≤ tt) many in
    let few : ticks * 1000000000 < 10 ^ 29 = omega (arith, small) in
    div-eq_of_lt (omega (arith, large, few))

-- a time of 64 bits has fewer nanoseconds than this
pub nanos_small : (units ticks : ℕ) → ticks < 2 ^ 64 → nanos_of units ticks < 2 ^ 94
nanos_small units ticks small =
    let less : ticks * 1000000000 / units ≤ ticks * 1000000000 = div-le_self (ticks * 1000000000) units in
    omega (arith, less, small)
