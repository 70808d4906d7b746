-- How far the parts of a list reach.
use Rattle.std.specs.Prelude.{◌≡◌, ℕ, ◌<◌, nat_lt, nat_le, ◌==◌, Bool, ◌&&◌, List, length, slice_index}
use Rattle.std.specs.List.{list_any}
use Rattle.cd_hints.specs.declared.settings.interval.Interval.{Interval}

-- a part begins at a number and does not end below another
abbrev pub reaches_from : ℕ → ℕ → Interval → Bool
reaches_from start n part = part.least == start && nat_le n part.most

-- Of each number below a limit there is an entry. The numbers below the entry are those below the limit that a part
-- from there on reaches.
pub record AreReaches (limit : ℕ) (parts : List Interval) (reaches : List ℕ) : Type 0 where
  pub long : length reaches ≡ limit
  pub reach : (start n : ℕ) → start < limit → n < limit →
      nat_lt n (slice_index reaches start) ≡ list_any (reaches_from start n) parts
