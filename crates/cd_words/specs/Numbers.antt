-- Numbers on a command line.
use Rattle.std.specs.Prelude.{ℕ, Bool, true, false, ◌&&◌, not, ◌==◌, List, [], ◌∷◌, Option, Some, None, if◌then◌else◌}
use Rattle.std.specs.Prelude.{◌≤◌, IsSomeAnd}
use Rattle.std.specs.Str.{all_ascii_digits}
use Rattle.std.specs.Str.Parse.{digits_value}
use Rattle.cd_hints.specs.declared.settings.interval.Interval.{Interval}
use Rattle.cd_hints.specs.declared.settings.options.NumberOption.{NumberOption}
use Rattle.cd_hints.specs.Options.{Admits}

-- there is a byte, and the first of several is not a 0
abbrev pub has_no_leading_zero : List ℕ → Bool
has_no_leading_zero [] = false
has_no_leading_zero (byte ∷ []) = true
has_no_leading_zero (byte ∷ next ∷ bytes) = not (byte == 48)

-- the number that the bytes are, if they are one: decimal digits, without a sign and without a 0 before another digit
unfoldable pub number_of : List ℕ → Option ℕ
number_of text = if has_no_leading_zero text && all_ascii_digits text then Some (digits_value 10 text) else None

-- a word says a number that an option may say
abbrev pub SaysNumber : NumberOption → List ℕ → Type 0
SaysNumber option word = IsSomeAnd (number_of word) (Admits option)

-- a number is one of a range
pub record IsIn (range : Interval) (n : ℕ) : Type 0 where
  pub least : range.least ≤ n
  pub most : n ≤ range.most

-- a word says a number of a range
abbrev pub SaysNumberIn : Interval → List ℕ → Type 0
SaysNumberIn range word = IsSomeAnd (number_of word) (IsIn range)
