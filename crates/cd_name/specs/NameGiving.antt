-- What a call that reads a name gives.
use Rattle.std.specs.Prelude.{◌≡◌, ℕ, ◌<◌, ◌≤◌, List, ◌++◌, Option, Some, None, Result, Ok, Err}
use Rattle.arrayvec.specs.ArrayVec.{ArrayVec}
use Rattle.cd_name.specs.declared.fault.NameWhy.{NameWhy}
use Rattle.cd_name.specs.declared.fault.NameFault.{NameFault}
use Rattle.cd_name.specs.declared.fault.NameFault.TheVariants.{Bad, NoMemory}
use Rattle.cd_name.specs.Names.{IsName, NameReading, pointer_then_reading}

-- a call gives what is read, unless memory ran out
abbrev pub GivesName : Result (List ℕ × ℕ) NameFault → Result (List ℕ × ℕ) NameWhy → Type 0
GivesName (Ok r) read = read ≡ Ok r
GivesName (Err (Bad why)) read = read ≡ Err why
GivesName (Err NoMemory) read = Unit {0}

-- a call appends the name that is read and gives the offset after it, unless memory ran out
abbrev pub AppendsName : List ℕ → List ℕ → Result ℕ NameFault → Result (List ℕ × ℕ) NameWhy → Type 0
AppendsName old new (Ok next) read = (name : List ℕ) × (read ≡ Ok (name, next)) × (new ≡ old ++ name) × IsName name
AppendsName old new (Err (Bad why)) read = read ≡ Err why
AppendsName old new (Err NoMemory) read = Unit {0}

-- what is read of a name, where the end of its own bytes may be known
abbrev pub reading_with_end : Option ℕ → NameReading → NameReading
reading_with_end None r = r
reading_with_end (Some next) r = pointer_then_reading next r

-- the end of the own bytes of a name at an offset is known and within the payload, or is at or past here
abbrev pub IsEndWithin : ℕ → ℕ → ℕ → Option ℕ → Type 0
IsEndWithin at here size None = at ≤ here
IsEndWithin at here size (Some next) = (at < next) × (next ≤ size)

-- a walk gives exactly what is read
abbrev pub Walks : Result (ArrayVec ℕ × ℕ) NameWhy → Result (List ℕ × ℕ) NameWhy → Type 0
Walks (Ok walked) read = (read ≡ Ok (walked.0.items, walked.1)) × IsName walked.0.items
Walks (Err why) read = read ≡ Err why
