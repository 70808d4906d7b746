-- Laws of the order of packets.
use Rattle.std.specs.Prelude.{◌≡◌, ℕ, nat_eq, List, filter}
use Rattle.std.specs.List.Sorted.{IsPermutation, IsNonDecreasingBy}
use Rattle.cd_rebuild.specs.Order.{by_time}
use Rattle.cd_rebuild.specs.declared.rebuilt_block.Raw.{Raw}

-- the packets of one time
abbrev pub of_time : ℕ → List Raw → List Raw
of_time time packets = filter (λ p. nat_eq p.time time) packets

-- packets in order: all of them, no time before an earlier one, and those of one time as they stood
pub record IsInOrder (before after : List Raw) : Type 0 where
  pub all : IsPermutation before after
  pub times : IsNonDecreasingBy (λ (p : Raw). p.time) after
  pub same_time : (time : ℕ) → of_time time after ≡ of_time time before

-- what is put in order is in order, and nothing else is
pub record OneOrder : Type 0 where
  pub is : (packets : List Raw) → IsInOrder packets (by_time packets)
  pub one : (before after : List Raw) → IsInOrder before after → after ≡ by_time before
