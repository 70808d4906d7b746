-- What a reading gives: a value and the offset after it, or the first fault from the left.
use Rattle.std.specs.Prelude.{◌≡◌, ℕ, zero, suc, ◌+◌, ◌≤◌, nat_lt, nat_eq, List, [], ◌∷◌, length, take, drop, slice_index, Result, Ok, Err, if◌then◌else◌}
use Rattle.cd_cbor.specs.declared.fault.Why.{Why}
use Rattle.cd_cbor.specs.declared.fault.Why.TheVariants as why
use Rattle.cd_cbor.specs.declared.fault.CborFault.{CborFault}
use Rattle.cd_cbor.specs.declared.fault.CborFault.TheVariants as fault

-- a value and the offset after it, or the first fault
abbrev pub Reading : Type 0 → Type 0
Reading A = Result (A × ℕ) CborFault

infixl 10 ◌>>=◌
-- one reading and then another, which knows what the first gave
abbrev pub ◌>>=◌ : {A B : Type 0} → Result A CborFault → (A → Result B CborFault) → Result B CborFault
(Ok x) >>= read = read x
(Err e) >>= read = Err e

-- a fault at an offset
abbrev pub refused : {A : Type 0} → ℕ → Why → Result A CborFault
refused at reason = Err (fault.Bad at reason)

-- the bytes end too early
abbrev pub ends : {A : Type 0} → List ℕ → Result A CborFault
ends bytes = refused (length bytes) why.End

-- so many bytes from an offset on
abbrev pub piece : ℕ → ℕ → List ℕ → List ℕ
piece at size bytes = take size (drop at bytes)

-- the byte at an offset
unfoldable pub byte_at : ℕ → List ℕ → Result ℕ CborFault
byte_at at bytes = if nat_lt at (length bytes) then Ok (slice_index bytes at) else ends bytes

-- so many values, one after the other
unfoldable pub times : {A : Type 0} → ℕ → (ℕ → Reading A) → ℕ → Reading (List A)
times zero read at = Ok ([], at)
times (suc count) read at = do
  first ← read at
  others ← times count read first.1
  Ok (first.0 ∷ others.0, others.1)

-- Values one after the other up to a break, from a place at an offset. Each has a byte at least, so no more of them are
-- there than bytes are left.
unfoldable pub until_break : {A P : Type 0} → (P → ℕ) → List ℕ → ℕ → (P → Result (A × P) CborFault) → P → Reading (List A)
until_break offset bytes zero read place = ends bytes
until_break offset bytes (suc left) read place = do
  first ← byte_at (offset place) bytes
  if nat_eq first 0xff then Ok ([], offset place + 1)
      else (do
        value ← read place
        others ← until_break offset bytes left read value.1
        Ok (value.0 ∷ others.0, others.1))

-- a fault is the one that is read, or memory ran out
abbrev pub GivesFault : {Y : Type 0} → CborFault → Result Y CborFault → Type 0
GivesFault (fault.Bad at reason) reading = reading ≡ refused at reason
GivesFault fault.NoMemory reading = Unit {0}

-- what a call answers, looked at by a view, is what is read, unless memory ran out
abbrev pub Gives : {X Y : Type 0} → (X → Y) → Result X CborFault → Result Y CborFault → Type 0
Gives view (Ok x) reading = reading ≡ Ok (view x)
Gives view (Err e) reading = GivesFault e reading

-- a fault lies within these bytes, or at their end, and is none of memory
abbrev pub LiesWithin : List ℕ → CborFault → Type 0
LiesWithin bytes (fault.Bad at reason) = at ≤ length bytes
LiesWithin bytes fault.NoMemory = ⊥
