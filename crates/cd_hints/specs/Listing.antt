-- Lists of numbers that are written as their parts.
use Rattle.std.specs.Prelude.{ℕ, ◌^◌, Bool, List, filter}
use Rattle.std.specs.Int.{is_in_range}
use Rattle.std.specs.List.{list_any, range_with_len, sum_by}
use Rattle.cd_hints.specs.declared.settings.interval.Interval.{Interval}

-- one of the parts holds the number
abbrev pub is_listed : List Interval → ℕ → Bool
is_listed parts n = list_any (λ part. is_in_range part.least part.most n) parts

-- the numbers below a limit that the parts hold, ascending and each once
unfoldable pub listed_below : ℕ → List Interval → List ℕ
listed_below limit parts = filter (is_listed parts) (range_with_len 0 limit)

-- the types that the parts hold
abbrev pub listed_types : List Interval → List ℕ
listed_types parts = listed_below 65536 parts

-- the opcodes that the parts hold, as bits: bit n stands for opcode n
abbrev pub listed_opcodes : List Interval → ℕ
listed_opcodes parts = sum_by (λ n. 2 ^ n) (listed_below 16 parts)
