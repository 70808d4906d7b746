-- The first four bytes of a capture.
use Rattle.std.specs.Prelude.{ℕ, Bool, false, nat_lt, nat_eq, List, length, if◌then◌else◌}
use Rattle.cd_bytes.specs.Numbers.{le32}

-- The first four bytes are there, and are this little-endian number.
unfoldable pub has_magic : ℕ → List ℕ → Bool
has_magic n bytes = if nat_lt (length bytes) 4 then false else nat_eq (le32 0 bytes) n
