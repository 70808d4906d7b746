-- What reading an item of a file gives: a value, or the first refusal.
use Rattle.std.specs.Prelude.{Result, Ok, Err}
use Rattle.cd_file.specs.declared.refusal.FileWhy.{FileWhy}

-- a value, or why it is refused
abbrev pub Refusing : Type 0 → Type 0
Refusing A = Result A FileWhy

infixl 10 ◌>>=◌
-- one value and then another, which may take the first
abbrev pub ◌>>=◌ : {A B : Type 0} → Refusing A → (A → Refusing B) → Refusing B
(Ok x) >>= next = next x
(Err why) >>= next = Err why
