-- Where words break a rule of a language.
use Rattle.std.specs.Prelude.{ℕ, List}
use Rattle.cd_words.specs.declared.fault.WordsFault.{WordsFault}
use Rattle.cd_words.specs.declared.fault.WordsFault.TheVariants.{Usage, NoMemory}
use Rattle.cd_words.specs.CommandLines.{Language, HasCommand, BreaksAt}

-- words begin with a command, and break a rule of its language after it
abbrev pub BreaksAfter : {C S : Type 0} → List ℕ → Language C S → List (List ℕ) → ℕ → Type 0
BreaksAfter command language words place = HasCommand command words × BreaksAt language words place

-- after a command the words break a rule of a language at the place of a fault; want of memory says nothing of them
abbrev pub HasFaultIn : {C S : Type 0} → Language C S → List (List ℕ) → WordsFault → Type 0
HasFaultIn language words (Usage place) = BreaksAt language words place
HasFaultIn language words NoMemory = Unit {0}
