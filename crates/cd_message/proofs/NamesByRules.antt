-- A name in a message, by the rules of names.
use Rattle.std.proofs.Common.{◌≡◌, ℕ, List, Result, Ok, Err, ◌⊎◌, inl, inr, refl, ap}
use Rattle.cd_name.specs.declared.fault.NameWhy.{NameWhy}
use Rattle.cd_name.specs.Names.{NameAt, NameBroken, name_at}
use Rattle.cd_message.specs.Messages.{why_of, name_reading, name_in}

-- a reading of a name gives a value or a rule
value_or_rule : (r : Result (List ℕ × ℕ) NameWhy) → ((x : List ℕ × ℕ) × (r ≡ Ok x)) ⊎ ((why : NameWhy) × (r ≡ Err why))
value_or_rule (Ok x) = inl (x, refl)
value_or_rule (Err why) = inr (why, refl)

-- a name stands at an offset, or a rule of names is broken there
pub name_or_rule : (p : List ℕ) (at : ℕ) → ((x : List ℕ × ℕ) × NameAt p at x.0 x.1) ⊎ ((why : NameWhy) × NameBroken p at why)
name_or_rule p at = value_or_rule (name_at p at)

-- a name that stands at an offset is read there
pub name_is_read : (p : List ℕ) (at : ℕ) (name : List ℕ) (next : ℕ) → NameAt p at name next → name_in p at ≡ Ok (name, next)
unfolding name_in
name_is_read p at name next h = ap (name_reading why_of) h

-- a rule of names that is broken at an offset is broken in the message
pub name_is_broken : (p : List ℕ) (at : ℕ) (why : NameWhy) → NameBroken p at why → name_in p at ≡ Err (why_of why)
unfolding name_in
name_is_broken p at why h = ap (name_reading why_of) h
