-- The links of slots, and what writes change in them.
use Rattle.std.specs.Prelude.{ℕ, if◌then◌else◌, eqb, List, map, Option, Some, None, slice_index_or}
use Rattle.cd_chain.specs.declared.link.Link.{Link}
use Rattle.cd_chain.specs.declared.slot.Slot.{Slot}
use Rattle.cd_chain.specs.declared.slot.Place.{Place}
use Rattle.cd_chain.specs.Lanes.{no_link, no_links, lane_link}

-- the link in each lane of each slot
abbrev pub link_in : {T : Type 0} → List (Slot T) → ℕ → ℕ → Link
link_in {T} slots lane s = lane_link (slice_index_or (map (λ (x : Slot T). x.links) slots) s no_links) lane

-- what the slots hold, and which of them are free
abbrev pub places_of : {T : Type 0} → List (Slot T) → List (Place T)
places_of {T} slots = map (λ (x : Slot T). x.place) slots

-- with this link for one slot
abbrev pub with_link : (ℕ → Link) → ℕ → Link → ℕ → Link
with_link at s x t = if eqb t s then x else at t

-- with another one after the slot
abbrev pub led_on : (ℕ → Link) → Option ℕ → Option ℕ → ℕ → Link
led_on at None x = at
led_on at (Some s) x = with_link at s (record { list = (at s).list; before = (at s).before; after = x })

-- with another one before the slot
abbrev pub backed : (ℕ → Link) → Option ℕ → Option ℕ → ℕ → Link
backed at None x = at
backed at (Some s) x = with_link at s (record { list = (at s).list; before = x; after = (at s).after })

-- an end of a list, when a slot goes: that side's neighbour is here, the other's is there
abbrev pub first_past : Option ℕ → Option ℕ → Option ℕ → Option ℕ
first_past end None there = there
first_past end (Some s) there = end

-- the links, when a slot is taken out of its list
abbrev pub unlinked : (ℕ → Link) → ℕ → ℕ → Link
unlinked at s =
    with_link (backed (led_on at (at s).before (at s).after) (at s).after (at s).before) s no_link

-- the links, when a slot comes last in the list k
abbrev pub linked_last : (ℕ → Link) → ℕ → ℕ → Option ℕ → ℕ → Link
linked_last at s k last = led_on (with_link at s (record { list = Some k; before = last; after = None })) last (Some s)
