-- How a string of bytes is read by its head.
use Rattle.std.specs.Prelude.{◌≡◌, ℕ, ◌+◌, ◌≤◌, nat_lt, Bool, false, ℤ, List, length, Option, Some, None, Result, Ok, Err}
use Rattle.cd_cbor.specs.Readings.{piece}
use Rattle.cd_cbor.specs.Reading.{chunks_at}
use Rattle.cd_cbor.specs.declared.major_type.MajorType.{MajorType}
use Rattle.cd_cbor.specs.declared.major_type.MajorType.TheVariants as major
use Rattle.cd_file.specs.declared.refusal.FileWhy.TheVariants.{Shape}
use Rattle.cd_file.specs.declared.reading.fault.ItemFault.{ItemFault}
use Rattle.cd_file.specs.declared.reading.fault.ItemFault.TheVariants as fault
use Rattle.cd_file.specs.ItemReading.{Reads}

-- what a call answers that reads the string of bytes of a head: all its bytes are there, or its chunks are, or it is none
abbrev pub StringOf : MajorType → Option ℕ → ℕ → List ℕ → ℤ → Result (List ℕ × ℕ) ItemFault → Type 0
StringOf major.Bytes (Some size) next bytes key result =
    next + size ≤ length bytes → Reads (λ content. content) result (Ok (piece next size bytes)) (next + size)
StringOf major.Bytes None next bytes key result =
    (content : List ℕ) (end : ℕ) → chunks_at false next bytes ≡ Ok (content, end)
    → Reads (λ content. content) result (Ok content) end
StringOf kind argument next bytes key result = result ≡ Err (fault.Refused (Shape key))

-- the argument of a head is above a number
abbrev pub is_longer : Option ℕ → ℕ → Bool
is_longer None most = false
is_longer (Some size) most = nat_lt most size
