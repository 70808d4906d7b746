-- What putting a value into a table does.
use Rattle.std.specs.Prelude.{Bool, List, [], ◌∷◌, ◌++◌, if◌then◌else◌}
use Rattle.std.specs.List.{list_any}

-- a table with one more value, which it may have already
abbrev pub put : {T : Type 0} → (T → T → Bool) → List T → T → List T
put same table value = if list_any (same value) table then table else table ++ value ∷ []
