-- Tests that are joined by "and".
use Rattle.std.proofs.Common.{◌≡◌, ℕ, Bool, true, false, not, ◌&&◌, eqb, refl, ap, sym}
use Rattle.std.proofs.lemmas.Bool.{eq-eqb, ne_eqb}

pub and_true : (a b : Bool) → b ≡ true → (a && b) ≡ a
and_true true b h = h
and_true false b h = refl

pub and_false : (b : Bool) → (b && false) ≡ false
and_false true = refl
and_false false = refl

pub swap_last : (a b c : Bool) → (a && c && b) ≡ (a && b && c)
swap_last true true true = refl
swap_last true true false = refl
swap_last true false true = refl
swap_last true false false = refl
swap_last false b c = refl

-- a test that leaves out another position leaves this one
pub and_other : (b : Bool) (j n : ℕ) → (j ≡ n → ⊥) → b ≡ (b && not (eqb j n))
and_other true j n ne = sym (ap not (ne_eqb j n ne))
and_other false j n ne = refl

pub and_same : (b : Bool) (j n : ℕ) → j ≡ n → (b && not (eqb j n)) ≡ false
and_same true j n e = ap not (eq-eqb j n e)
and_same false j n e = refl
