-- What a reader of events keeps, and for which histories it stands.
use Rattle.std.specs.Prelude.{◌≡◌, ℕ, ◌+◌, ◌≤◌, List, [], ◌∷◌, ◌++◌, length, drop, Option, Some, None, Result, Ok, Err, Bool}
use Rattle.cd_cbor.specs.Readings.{Reading, refused}
use Rattle.cd_cbor.specs.Events.{Open, front_step, nothing_open, chunk_front}
use Rattle.cd_cbor.specs.declared.event.Event.{Event}
use Rattle.cd_cbor.specs.declared.wanted.Wanted.{Wanted}
use Rattle.cd_cbor.specs.declared.event.Step.{Step}
use Rattle.cd_cbor.specs.declared.event.Step.TheVariants as step
use Rattle.cd_cbor.specs.declared.fault.Why.{Why}
use Rattle.cd_cbor.specs.declared.fault.Why.TheVariants as why
use Rattle.cd_cbor.specs.declared.fault.CborFault.{CborFault}
use Rattle.cd_cbor.specs.declared.fault.CborFault.TheVariants as fault

-- what a reader keeps
pub record Kept : Type 0 where
  -- how many bytes were fed
  pub fed_count : ℕ
  -- the bytes that were fed and are not read, and their offset
  pub held : List ℕ
  pub at : ℕ
  -- how many bytes the events given have
  pub position : ℕ
  -- what is open at the offset
  pub open_now : Open

-- Heads and chunks of these bytes, one after the other, tell these events: then this is open, so many bytes are those of
-- the events, and so many are read.
pub data Leads (fed : List ℕ) : List Event → Open → ℕ → ℕ → Type 0 where
  begins : Leads fed [] nothing_open 0 0
  -- a head or a chunk that ends no event
  goes_on : (given : List Event) (now next : Open) (position at size : ℕ) → Leads fed given now position at → at + size ≤ length fed →
      front_step now (drop at fed) ≡ Ok ((None, next), size) → Leads fed given next position (at + size)
  -- one that ends an event
  tells : (given : List Event) (now next : Open) (position at size : ℕ) (e : Event) → Leads fed given now position at → at + size ≤ length fed →
      front_step now (drop at fed) ≡ Ok ((Some e, next), size) → Leads fed (given ++ e ∷ []) next (at + size) (at + size)

-- a reader stands for the bytes fed and the events given so far
pub record StandsFor (r : Kept) (fed : List ℕ) (given : List Event) : Type 0 where
  pub leads : Leads fed given r.open_now r.position r.at
  pub holds : r.held ≡ drop r.at fed
  pub within : r.at ≤ length fed

-- After these events the bytes fed hold this fault next, at the head or the chunk at this offset; an end stands at the
-- end of the bytes, and says that the next event is not whole.
pub record Stops (fed : List ℕ) (given : List Event) (at : ℕ) (reason : Why) : Type 0 where
  pub now : Open
  pub position : ℕ
  pub place : ℕ
  pub leads : Leads fed given now position at
  pub stops : front_step now (drop at fed) ≡ refused place reason

-- The history after a call of `next`. `More` says that the bytes end before the next event is whole, and hold no fault.
abbrev pub Nexts : Kept → List ℕ → List Event → Result Step CborFault → Type 0
Nexts new fed given (Ok (step.Event e)) = StandsFor new fed (given ++ e ∷ [])
Nexts new fed given (Ok step.More) = StandsFor new fed given × ((at : ℕ) × Stops fed given at why.End)
Nexts new fed given (Err (fault.Bad at reason)) = StandsFor new fed given × Stops fed given at reason
Nexts new fed given (Err fault.NoMemory) = StandsFor new fed given

-- a chunk of a string with this content before, or its break, or a fault or no memory, and nothing changes
abbrev pub Chunks : Bool → List ℕ → List ℕ → List ℕ → Result (Option Event × ℕ) CborFault → Type 0
Chunks is_text old new bytes (Ok (Some e, size)) = (chunk_front is_text old bytes ≡ Ok ((Some e, None), size)) × (new ≡ [])
Chunks is_text old new bytes (Ok (None, size)) = chunk_front is_text old bytes ≡ Ok ((None, Some (is_text, new)), size)
Chunks is_text old new bytes (Err (fault.Bad place reason)) = (chunk_front is_text old bytes ≡ refused place reason) × (new ≡ old)
Chunks is_text old new bytes (Err fault.NoMemory) = new ≡ old

-- the position after a step: it moves where an event ends
abbrev pub position_after : Option Event → ℕ → ℕ → ℕ
position_after None before at = before
position_after (Some e) before at = at

-- a step of a reader: a head or a chunk at the front of the bytes held, or a fault there, or no memory and nothing changes
abbrev pub Steps : Kept → Kept → Result (Option Event) CborFault → Type 0
Steps old new (Ok e) =
    (size : ℕ) × (front_step old.open_now old.held ≡ Ok ((e, new.open_now), size)) × (1 ≤ size) × (size ≤ length old.held) × (new.held ≡ drop size old.held)
    × (new.at ≡ old.at + size) × (new.fed_count ≡ old.fed_count)
    × (new.position ≡ position_after e old.position new.at)
Steps old new (Err (fault.Bad place reason)) = (front_step old.open_now old.held ≡ refused place reason) × (new ≡ old)
Steps old new (Err fault.NoMemory) = new ≡ old

-- After these events more follow, and then this fault, at this offset unless it is an end.
pub record StopsAfter (fed : List ℕ) (given : List Event) (place : ℕ) (reason : Why) : Type 0 where
  pub told : List Event
  pub now : Open
  pub position : ℕ
  pub at : ℕ
  pub inside : ℕ
  pub leads : Leads fed (given ++ told) now position at
  pub stops : front_step now (drop at fed) ≡ refused inside reason
  pub there : (reason ≡ why.End → ⊥) → at ≡ place

-- Events follow what is read: where it is a value, those up to its end, after which this is open; and where it is a
-- fault, those up to that fault.
abbrev pub Follows : {A : Type 0} → List ℕ → List Event → List Wanted → Reading A → Type 0
Follows fed given after (Ok x) = (told : List Event) × Leads fed (given ++ told) (record { wants = after; chunks = None }) x.1 x.1
Follows fed given after (Err (fault.Bad place reason)) = StopsAfter fed given place reason
Follows fed given after (Err fault.NoMemory) = Unit {0}
