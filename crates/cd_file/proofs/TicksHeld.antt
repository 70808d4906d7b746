-- By each of the block parameters that are held a second has ticks in their range.
use Rattle.std.proofs.Common.{◌≡◌, ℕ, zero, suc, ◌<◌, ◌≤◌, true, List, [], ◌∷◌, Option, Some, None, sym, subst, arith}
use Rattle.std.specs.Prelude.{nat_le, slice_get, option_map, IfSome}
use Rattle.std.proofs.lemmas.Bool.{and_parts, leb-true}
use Rattle.cd_block.specs.declared.params.Params.{Params}
use Rattle.cd_file.specs.ReadHead.{has_ticks, have_ticks, HasTicks}

-- the ticks of a second
pub record Ticks (p : Params) : Type 0 where
  pub least : 0 < p.ticks
  pub most : p.ticks ≤ 1000000000

pub ticks_are : (p : Params) → has_ticks p ≡ true → Ticks p
ticks_are p h =
    let k = and_parts (nat_le 1 p.ticks) (nat_le p.ticks 1000000000) h in
    let least = leb-true 1 p.ticks k.0 in
    record { least = omega (arith, least); most = leb-true p.ticks 1000000000 k.1 }

-- those of one of them
ticks_at : (entries : List Params) (k : ℕ) (p : Params) → HasTicks entries → slice_get entries k ≡ Some p → Ticks p
unfolding have_ticks
ticks_at [] k p all is = absurd cc
ticks_at (q ∷ entries) zero p all is = let same : q ≡ p = cc in subst Ticks same (ticks_are q (and_parts (has_ticks q) (have_ticks entries) all).0)
ticks_at (q ∷ entries) (suc k) p all is = ticks_at entries k p (and_parts (has_ticks q) (have_ticks entries) all).1 is

-- the same of what a call answers
module _ {R : Type 0} (now : R → Params) (entries : List Params) (all : HasTicks entries) (k : ℕ) where
  pub least_ticks : (o : Option R) → option_map now o ≡ slice_get entries k → IfSome o (λ r. 0 < (now r).ticks)
  least_ticks None is = tt
  least_ticks (Some r) is = (ticks_at entries k (now r) all (sym is)).least

  pub most_ticks : (o : Option R) → option_map now o ≡ slice_get entries k → IfSome o (λ r. (now r).ticks ≤ 1000000000)
  most_ticks None is = tt
  most_ticks (Some r) is = (ticks_at entries k (now r) all (sym is)).most
