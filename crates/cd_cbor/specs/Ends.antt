-- Where what is read ends.
use Rattle.std.specs.Prelude.{ℕ, Result, Ok}
use Rattle.cd_cbor.specs.Readings.{Reading, ◌>>=◌}
use Rattle.cd_cbor.specs.declared.fault.CborFault.{CborFault}

-- the offset after what is read, or the first fault
abbrev pub end_of : {A : Type 0} → Reading A → Result ℕ CborFault
end_of reading = reading >>= (λ x. Ok x.1)
