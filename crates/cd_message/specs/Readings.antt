-- What a reading gives: a value, or the first rule that is broken.
use Rattle.std.specs.Prelude.{◌≡◌, ℕ, zero, suc, List, [], ◌∷◌, ◌++◌, Result, Ok, Err}
use Rattle.cd_message.specs.declared.message.MsgWhy.{MsgWhy}
use Rattle.cd_message.specs.declared.message.ParseFault.{ParseFault}
use Rattle.cd_message.specs.declared.message.ParseFault.TheVariants as fault

infixl 10 ◌>>=◌
-- one reading and then another, which knows what the first gave
abbrev pub ◌>>=◌ : {A B : Type 0} → Result A MsgWhy → (A → Result B MsgWhy) → Result B MsgWhy
(Ok x) >>= read = read x
(Err why) >>= read = Err why

-- So many readings, each at the place after the one before: what they give, and the place after the last.
unfoldable pub repeat : {A P : Type 0} → (P → Result (A × P) MsgWhy) → ℕ → P → Result (List A × P) MsgWhy
repeat read zero place = Ok ([], place)
repeat read (suc count) place = do
  first ← read place
  others ← repeat read count first.1
  Ok (first.0 ∷ others.0, others.1)

-- a reading of a list and a place, with some items before the list
abbrev pub with_front : {A P : Type 0} → List A → Result (List A × P) MsgWhy → Result (List A × P) MsgWhy
with_front front reading = do
  items ← reading
  Ok (front ++ items.0, items.1)

-- a fault is what a reading gives, or memory ran out
abbrev pub GivesFault : {Y : Type 0} → ParseFault → Result Y MsgWhy → Type 0
GivesFault fault.NoMemory reading = Unit {0}
GivesFault (fault.Malformed why) reading = reading ≡ Err why

-- what a call answers, looked at by a view, is what a reading gives, unless memory ran out
abbrev pub Gives : {X Y : Type 0} → (X → Y) → Result X ParseFault → Result Y MsgWhy → Type 0
Gives view (Ok x) reading = reading ≡ Ok (view x)
Gives view (Err e) reading = GivesFault e reading

-- a call appends the bytes that a reading gives and answers the place after them, unless memory ran out
abbrev pub Appends : {P : Type 0} → List ℕ → List ℕ → Result P ParseFault → Result (List ℕ × P) MsgWhy → Type 0
Appends old new (Ok place) reading = (bytes : List ℕ) × (reading ≡ Ok (bytes, place)) × (new ≡ old ++ bytes)
Appends old new (Err e) reading = GivesFault e reading
