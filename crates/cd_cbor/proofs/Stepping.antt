-- What a reader keeps after a head or a chunk.
use Rattle.std.proofs.Common.{◌≡◌, ℕ, ◌-◌, Bool, List, [], length, Option, Some, None, Ok, Err, refl}
use Rattle.std.specs.Option.{option_map}
use Rattle.cd_cbor.specs.Readings.{refused, GivesFault}
use Rattle.cd_cbor.specs.Following.{Kept, Steps, Chunks}
use Rattle.cd_cbor.specs.Events.{Open, innermost, acted, passed, head_front, chunk_front, step_in, front_step}
use Rattle.cd_cbor.specs.declared.event.Event.{Event}
use Rattle.cd_cbor.specs.declared.event.Act.{Act}
use Rattle.cd_cbor.specs.declared.event.Told.{Told}
use Rattle.cd_cbor.specs.declared.event.Told.TheVariants as told
use Rattle.cd_cbor.specs.declared.wanted.Wanted.{Wanted}
use Rattle.cd_cbor.specs.declared.fault.Why.{Why}
use Rattle.cd_cbor.specs.declared.fault.CborFault.{CborFault}
use Rattle.cd_cbor.specs.declared.fault.CborFault.TheVariants as fault

-- the string in chunks, by its kind and its content
abbrev pub with_content : List ℕ → Bool → Bool × List ℕ
with_content content is_text = (is_text, content)

-- its kind
abbrev pub kind_of : Bool × List ℕ → Bool
kind_of string = string.0

-- no string in chunks is open
pub none_of_map : (chunks : Option Bool) (content : List ℕ) → option_map (with_content content) chunks ≡ None → chunks ≡ None
none_of_map None content h = refl
none_of_map (Some t) content h = absurd cc

-- one is
pub some_of_map : (chunks : Option Bool) (content : List ℕ) (is_text : Bool) → option_map kind_of (option_map (with_content content) chunks) ≡ Some is_text → chunks ≡ Some is_text
some_of_map None content is_text h = absurd cc
some_of_map (Some t) content is_text h = h

module _ (wants : List Wanted) (chunks : Option (Bool × List ℕ)) (room : ℕ) (top : Option Wanted) (held bytes : List ℕ) (none : chunks ≡ None) (left : room ≡ 16 - length wants)
    (inner : top ≡ innermost wants) (there : bytes ≡ held) where
  -- a head that is an event
  pub head_event : (t : Told) (e : Event) (done : Act) (size : ℕ) (after : List Wanted) (later : Option (Bool × List ℕ)) → head_front room top bytes ≡ Ok (t, size) → t ≡ told.Event e done →
      after ≡ acted done wants → later ≡ None → front_step (record { wants = wants; chunks = chunks }) held ≡ Ok ((Some e, record { wants = after; chunks = later }), size)
  unfolding step_in
  head_event t e done size after later read is act still =
      let found : head_front (16 - length wants) (innermost wants) held ≡ Ok (told.Event e done, size) = rw (left, inner, there, is) at read in
      rw (none, still, act, found) refl

  -- a head of a string in chunks
  pub head_chunks : (t : Told) (is_text : Bool) (size : ℕ) (content : List ℕ) → head_front room top bytes ≡ Ok (t, size) → t ≡ told.Chunks is_text → content ≡ [] →
      front_step (record { wants = wants; chunks = chunks }) held ≡ Ok ((None, record { wants = wants; chunks = Some (is_text, content) }), size)
  unfolding step_in
  head_chunks t is_text size content read is empty =
      let found : head_front (16 - length wants) (innermost wants) held ≡ Ok (told.Chunks is_text, size) = rw (left, inner, there, is) at read in
      rw (none, empty, found) refl

  -- a head that is none
  pub head_refused : (place : ℕ) (reason : Why) → head_front room top bytes ≡ refused place reason → front_step (record { wants = wants; chunks = chunks }) held ≡ refused place reason
  unfolding step_in
  head_refused place reason read =
      let found : head_front (16 - length wants) (innermost wants) held ≡ refused place reason = rw (left, inner, there) at read in
      rw (none, found) refl

module _ (wants : List Wanted) (chunks : Option (Bool × List ℕ)) (is_text : Bool) (content held bytes : List ℕ) (some : chunks ≡ Some (is_text, content)) (there : bytes ≡ held) where
  -- a chunk
  pub chunk_on : (new : List ℕ) (later : Option (Bool × List ℕ)) (size : ℕ) → chunk_front is_text content bytes ≡ Ok ((None, Some (is_text, new)), size) → later ≡ Some (is_text, new) →
      front_step (record { wants = wants; chunks = chunks }) held ≡ Ok ((None, record { wants = wants; chunks = later }), size)
  unfolding step_in
  chunk_on new later size read still = let found = rw there at read in rw (some, still, found) refl

  -- the break after the last
  pub chunk_ends : (e : Event) (size : ℕ) (after : List Wanted) → chunk_front is_text content bytes ≡ Ok ((Some e, None), size) → after ≡ passed wants →
      front_step (record { wants = wants; chunks = chunks }) held ≡ Ok ((Some e, record { wants = after; chunks = None }), size)
  unfolding step_in
  chunk_ends e size after read pass = let found = rw there at read in rw (some, pass, found) refl

  -- what is no chunk
  pub chunk_refused : (place : ℕ) (reason : Why) → chunk_front is_text content bytes ≡ refused place reason → front_step (record { wants = wants; chunks = chunks }) held ≡ refused place reason
  unfolding step_in
  chunk_refused place reason read = let found = rw there at read in rw (some, found) refl

-- a head that is none, and nothing changes
pub head_stops : (old : Kept) (e : CborFault) (wants : List Wanted) (chunks : Option (Bool × List ℕ)) (room : ℕ) (top : Option Wanted) (held bytes : List ℕ) → chunks ≡ None → room ≡ 16 - length wants →
    top ≡ innermost wants → bytes ≡ held → ◌≡◌ {A = Open} (record { wants = wants; chunks = chunks }) old.open_now → held ≡ old.held → GivesFault e (head_front room top bytes) → Steps old old (Err e)
head_stops old fault.NoMemory wants chunks room top held bytes none left inner there open_is held_is gives = refl
head_stops old (fault.Bad place reason) wants chunks room top held bytes none left inner there open_is held_is gives =
    (rw (← open_is, ← held_is) (head_refused wants chunks room top held bytes none left inner there place reason gives), refl)

-- what is no chunk, and nothing changes
pub chunk_stops : (old new : Kept) (e : CborFault) (wants : List Wanted) (chunks : Option (Bool × List ℕ)) (is_text : Bool) (content later held bytes : List ℕ) → chunks ≡ Some (is_text, content) →
    bytes ≡ held → ◌≡◌ {A = Open} (record { wants = wants; chunks = chunks }) old.open_now → held ≡ old.held → Chunks is_text content later bytes (Err e) → (later ≡ content → new ≡ old) → Steps old new (Err e)
chunk_stops old new fault.NoMemory wants chunks is_text content later held bytes some there open_is held_is told same = same told
chunk_stops old new (fault.Bad place reason) wants chunks is_text content later held bytes some there open_is held_is told same =
    (rw (← open_is, ← held_is) (chunk_refused wants chunks is_text content held bytes some there place reason told.0), same told.1)
