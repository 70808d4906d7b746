-- Where a name without pointers ends (RFC 1035 3.1).
use Rattle.std.specs.Prelude.{◌≡◌, ◌↔◌, ℕ, zero, suc, ◌≤◌, nat_lt, nat_eq, List, [], ◌∷◌, length, take, if◌then◌else◌, Option, Some, None}
use Rattle.std.specs.Option.{option_map, option_and_then}
use Rattle.cd_name.specs.Names.{IsName}

-- how many bytes there are up to the first root, where so many bytes of a label that was begun come first
unfoldable pub size_from : ℕ → List ℕ → Option ℕ
size_from inside [] = None
size_from (suc inside) (b ∷ bytes) = option_map suc (size_from inside bytes)
size_from zero (n ∷ bytes) = if nat_eq n 0 then Some 1 else (if nat_lt 63 n then None else option_map suc (size_from n bytes))

-- a number of at most 255
abbrev pub at_most_255 : ℕ → Option ℕ
at_most_255 n = if nat_lt 255 n then None else Some n

-- the number of bytes of the name without pointers that some bytes begin with
abbrev pub name_size : List ℕ → Option ℕ
name_size bytes = option_and_then at_most_255 (size_from zero bytes)

-- it is the number of bytes of a name at the front exactly if there is one
abbrev pub NameSizesAreExact : Type 0
NameSizesAreExact = (bytes : List ℕ) (n : ℕ) → (name_size bytes ≡ Some n) ↔ ((n ≤ length bytes) × IsName (take n bytes))
