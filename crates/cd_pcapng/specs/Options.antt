-- The options of a block, and what those of an interface say of its clock (the pcapng draft, 3.5 and 4.2).
use Rattle.std.specs.Prelude.{ℕ, zero, suc, ◌+◌, ◌*◌, ◌/◌, ℤ, pos, Bool, ◌&&◌, ◌||◌, nat_lt, nat_eq, List, [], ◌∷◌}
use Rattle.std.specs.Prelude.{length, take, drop, slice_index, if◌then◌else◌}
use Rattle.std.specs.Int.{w64, cast_signed}
use Rattle.cd_bytes.specs.Numbers.{number_of, number16_at}
use Rattle.cd_bytes.specs.declared.order.Order.{Order}

-- an option: its code, and its value without the padding
pub record BlockOption : Type 0 where
  pub code : ℕ
  pub value : List ℕ

-- so many bytes with their padding, up to a multiple of four
abbrev pub padded : ℕ → ℕ
padded n = (n + 3) / 4 * 4

-- the code of the option at the front of these bytes
abbrev pub option_code : Order → List ℕ → ℕ
option_code order bytes = number16_at order 0 bytes

-- the length of its value
abbrev pub option_length : Order → List ℕ → ℕ
option_length order bytes = number16_at order 2 bytes

-- The options end here: four bytes are not there, the code is 0, or the value runs past the bytes.
abbrev pub ends_options : Order → List ℕ → Bool
ends_options order bytes =
    nat_lt (length bytes) 4
    || (nat_eq (option_code order bytes) 0 || nat_lt (length bytes) (4 + option_length order bytes))

-- the option at the front of these bytes
abbrev pub option_at : Order → List ℕ → BlockOption
option_at order bytes = record {
  code = option_code order bytes;
  value = take (option_length order bytes) (drop 4 bytes);
}

-- the options in these bytes, of which so many still belong to the option before
unfoldable pub options : Order → ℕ → List ℕ → List BlockOption
options order zero [] = []
options order (suc inside) [] = []
options order (suc inside) (b ∷ bytes) = options order inside bytes
options order zero (b ∷ bytes) =
    if ends_options order (b ∷ bytes) then []
    else option_at order (b ∷ bytes) ∷ options order (3 + padded (option_length order (b ∷ bytes))) bytes

-- an option of this code, whose value has this length
abbrev pub is_option : ℕ → ℕ → BlockOption → Bool
is_option code size o = nat_eq o.code code && nat_eq (length o.value) size

-- the resolution after an option (if_tsresol)
abbrev pub next_resolution : ℕ → BlockOption → ℕ
next_resolution resolution o = if is_option 9 1 o then slice_index o.value 0 else resolution

-- the resolution after these options: the last of them that tells one holds
abbrev pub resolution_after : ℕ → List BlockOption → ℕ
resolution_after resolution [] = resolution
resolution_after resolution (o ∷ os) = resolution_after (next_resolution resolution o) os

-- the offset in seconds after an option (if_tsoffset)
abbrev pub next_offset : Order → ℤ → BlockOption → ℤ
next_offset order offset o = if is_option 14 8 o then cast_signed w64 (number_of w64 order o.value) else offset

-- the offset after these options: the last of them that tells one holds
abbrev pub offset_after : Order → ℤ → List BlockOption → ℤ
offset_after order offset [] = offset
offset_after order offset (o ∷ os) = offset_after order (next_offset order offset o) os

-- the resolution that the options of an interface tell, and microseconds where none does
abbrev pub resolution_of : Order → List ℕ → ℕ
resolution_of order bytes = resolution_after 6 (options order 0 bytes)

-- the offset that they tell, and 0 where none does
abbrev pub offset_of : Order → List ℕ → ℤ
offset_of order bytes = offset_after order (pos 0) (options order 0 bytes)
