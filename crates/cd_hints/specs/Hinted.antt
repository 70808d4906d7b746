-- Fields that are kept where their hint is set (RFC 8618 7.3.1.1.1.1).
use Rattle.std.specs.Prelude.{ℕ, Bool, not, nat_eq, bit_and, Option, None, if◌then◌else◌}

-- the bit of a hint is set
abbrev pub is_hinted : ℕ → ℕ → Bool
is_hinted hints hint = not (nat_eq (bit_and hints hint) 0)

-- what is kept of a field: its value, where it has one and its hint is set
abbrev pub kept : {A : Type 0} → ℕ → ℕ → Option A → Option A
kept hints hint value = if is_hinted hints hint then value else None
