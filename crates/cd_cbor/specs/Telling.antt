-- The events of an item, by how it is spelled: one for each head with the content of its string, one for a string in
-- chunks, and one for the break of an array or a map.
use Rattle.std.specs.Prelude.{ℕ, zero, suc, List, [], ◌∷◌, ◌++◌, length, Some, None}
use Rattle.std.proofs.Common.{inl, inr}
use Rattle.cd_cbor.specs.Spells.{Each, SpellsPair, SpellsPlain, is_unsigned, is_negative, is_string, is_chunked, is_simple, SpellsHolder, is_array, is_open_array, is_map, is_open_map, is_tagged, Spells, Cbor, most_depth}
use Rattle.cd_cbor.specs.Events.{string_event, simple_event}
use Rattle.cd_cbor.specs.declared.item.Item.{Item}
use Rattle.cd_cbor.specs.declared.event.Event.{Event}
use Rattle.cd_cbor.specs.declared.event.Event.TheVariants as event

-- the events of what is spelled so
abbrev pub Events : {A : Type 0} → (A → List ℕ → Type 0) → Type 0
Events {A} Spelled = (x : A) (bytes : List ℕ) → Spelled x bytes → List Event

-- the event of an item that holds no other one
abbrev pub plain_events : Events SpellsPlain
plain_events item bytes (is_unsigned n head is) = event.Uint n ∷ []
plain_events item bytes (is_negative n head is) = event.Nint n ∷ []
plain_events item bytes (is_string is_text content spelled is) = string_event is_text content ∷ []
plain_events item bytes (is_chunked is_text content spelled is) = string_event is_text content ∷ []
plain_events item bytes (is_simple n head high is) = simple_event head.info n ∷ []

-- the events of things one after the other
abbrev pub each_events : {A : Type 0} (Spelled : A → List ℕ → Type 0) → Events Spelled → Events (Each Spelled)
each_events Spelled events [] bytes each = []
each_events Spelled events (x ∷ xs) bytes each = events x each.0 each.3 ++ each_events Spelled events xs each.1 each.4

-- the events of a key and those of its value
abbrev pub pair_events : (Spelled : Item → List ℕ → Type 0) → Events Spelled → Events (SpellsPair Spelled)
pair_events Spelled events pair bytes both = events pair.0 both.0 both.3 ++ events pair.1 both.1 both.4

-- the events of an array, a map or a tag
abbrev pub holder_events : (Spelled : Item → List ℕ → Type 0) → Events Spelled → Events (SpellsHolder Spelled)
holder_events Spelled events item bytes (is_array items head body tells each whole is) =
    event.Array (Some (length items)) ∷ each_events Spelled events items body each
holder_events Spelled events item bytes (is_open_array items body each whole is) =
    event.Array None ∷ (each_events Spelled events items body each ++ event.Close ∷ [])
holder_events Spelled events item bytes (is_map pairs head body tells each whole is) =
    event.Map (Some (length pairs)) ∷ each_events (SpellsPair Spelled) (pair_events Spelled events) pairs body each
holder_events Spelled events item bytes (is_open_map pairs body each whole is) =
    event.Map None ∷ (each_events (SpellsPair Spelled) (pair_events Spelled events) pairs body each ++ event.Close ∷ [])
holder_events Spelled events item bytes (is_tagged tag content head body tells spelled whole is) =
    event.Tag tag ∷ events content body spelled

-- the events of an item in which so many arrays, maps and tags may be open, by how it is spelled
abbrev pub item_events : (depth : ℕ) → Events (Spells depth)
item_events zero item bytes spelled = plain_events item bytes spelled
item_events (suc depth) item bytes (inl plain) = plain_events item bytes plain
item_events (suc depth) item bytes (inr holder) = holder_events (Spells depth) (item_events depth) item bytes holder

-- the events of an item, by how it is spelled
unfoldable pub events_of : Events Cbor
unfolding Cbor
events_of item bytes spelled = item_events most_depth item bytes spelled
