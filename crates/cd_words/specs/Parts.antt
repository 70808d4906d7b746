-- Lists of numbers on a command line: their parts.
use Rattle.std.specs.Prelude.{ℕ, Bool, ◌&&◌, nat_le, ◌==◌, List, [], ◌∷◌, Option, Some, None, if◌then◌else◌}
use Rattle.std.specs.Option.{option_map, option_and_then}
use Rattle.std.specs.List.{list_any, before_first, after_first, slice_split}
use Rattle.cd_hints.specs.declared.settings.interval.Interval.{Interval}
use Rattle.cd_hints.specs.Options.{between}
use Rattle.cd_words.specs.Numbers.{number_of}

abbrev pub is_dash : ℕ → Bool
is_dash byte = byte == 45

abbrev pub is_comma : ℕ → Bool
is_comma byte = byte == 44

-- the numbers that a part holds: from the number before its first dash to the one after it, or without a dash that
-- number alone
unfoldable pub interval_of : List ℕ → Option Interval
interval_of text =
    option_and_then
    (λ least.
    option_map (between least) (if list_any is_dash text then number_of (after_first is_dash text) else Some least))
    (number_of (before_first is_dash text))

-- a part holds a number, and all its numbers lie in the range
abbrev pub is_within : Interval → Interval → Bool
is_within range part = nat_le part.least part.most && nat_le range.least part.least && nat_le part.most range.most

-- a part that holds a number, and only numbers of the range
unfoldable pub part_of : Interval → List ℕ → Option Interval
part_of range text = option_and_then (λ part. if is_within range part then Some part else None) (interval_of text)

-- texts that are each a part
abbrev pub each_part : Interval → List (List ℕ) → Option (List Interval)
each_part range [] = Some []
each_part range (text ∷ texts) =
    option_and_then (λ part. option_map (λ parts. part ∷ parts) (each_part range texts)) (part_of range text)

-- the parts of a list, which commas join
unfoldable pub parts_of : Interval → List ℕ → Option (List Interval)
parts_of range text = each_part range (slice_split is_comma text)
