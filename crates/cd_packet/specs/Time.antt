-- Times in nanoseconds since 1970, below 2^32 seconds.
use Rattle.std.specs.Prelude.{◌≡◌, ℕ, ◌*◌, ◌^◌, ◌<◌, Bool, true, false, nat_lt, if◌then◌else◌, refl}
use Rattle.std.proofs.Common.{subst}
use Rattle.std.proofs.lemmas.Bool.{ltb-true}
use Rattle.cd_packet.specs.declared.packet.When.{When}
use Rattle.cd_packet.specs.declared.packet.When.TheVariants.{At, Outside}

-- the first nanosecond that is no time
abbrev pub end_of_time : ℕ
end_of_time = 2 ^ 32 * 1000000000

-- the time of so many nanoseconds since 1970
abbrev pub when_at : ℕ → When
when_at n = if nat_lt n end_of_time then At n else Outside

-- a choice that is a time was made by its test
chosen : (b : Bool) (n m : ℕ) → (if b then At n else Outside) ≡ At m → (b ≡ true) × (n ≡ m)
chosen true n m e = (refl, cc)
chosen false n m e = absurd cc

-- a time is below its end
pub when_at-timely : (n m : ℕ) → when_at n ≡ At m → m < end_of_time
when_at-timely n m e =
    let c = chosen (nat_lt n end_of_time) n m e in
    let P : ℕ → Type 0 = λ k. k < end_of_time in
    subst P c.1 (ltb-true n end_of_time c.0)
