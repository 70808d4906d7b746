-- What a call that resolves answers.
use Rattle.std.specs.Prelude.{◌≡◌, Result, Ok, Err}
use Rattle.cd_block.specs.declared.resolving.fault.ResolveFault.{ResolveFault}
use Rattle.cd_block.specs.declared.resolving.fault.ResolveFault.TheVariants as fault
use Rattle.cd_block.specs.Resolving.{Resolving, PastTable, NotName}

-- a fault is the one that is found, or memory ran out
abbrev pub GivesFault : {Y : Type 0} → ResolveFault → Resolving Y → Type 0
GivesFault (fault.Index table) reading = reading ≡ Err (PastTable table)
GivesFault fault.Name reading = reading ≡ Err NotName
GivesFault fault.NoMemory reading = Unit {0}

-- what a call answers, looked at by a view, is what is resolved, unless memory ran out
abbrev pub Gives : {X Y : Type 0} → (X → Y) → Result X ResolveFault → Resolving Y → Type 0
Gives view (Ok x) reading = reading ≡ Ok (view x)
Gives view (Err e) reading = GivesFault e reading
