-- A store as contracts see it.
use Rattle.std.specs.Prelude.{ℕ, eqb, if◌then◌else◌, slice_get, List, [], ◌∷◌, length, map, Option, Some, None, is_some, slice_index_or, count_by, refl}
use Rattle.std.specs.Coded.{Coded, code_by, coded×, coded_ℕ, coded_list, coded_option}
use Rattle.cd_chain.specs.declared.slot.Slot.{Slot}
use Rattle.cd_chain.specs.declared.slot.Place.{Place}
use Rattle.cd_chain.specs.declared.slot.Place.TheVariants.{Used, Vacant}
use Rattle.cd_chain.specs.declared.lane.Lanes.{Lanes}
use Rattle.cd_chain.specs.Lanes.{by_lane, rows_in}
use Rattle.cd_chain.specs.Links.{link_in, places_of}
use Rattle.cd_chain.specs.Lists.{list_of, InList}

-- The value of each used slot, the number of spare slots, and by lane the slots of each list that is there, under its
-- number.
pub record Contents (T : Type 0) : Type 0 where
  pub values : List (Option T)
  pub spare : ℕ
  pub first : List (Option (List ℕ))
  pub second : List (Option (List ℕ))
  pub third : List (Option (List ℕ))

-- lists under their numbers are stored as the list of them
abbrev pub lists_code : Coded (List (Option (List ℕ)))
lists_code = coded_list (coded_option (coded_list coded_ℕ))

-- the contents are stored as the tuple of their parts
abbrev pub contents_code : {T : Type 0} → Coded T → Coded (Contents T)
contents_code {T} code =
    code_by
    (List (Option T) × (ℕ × (List (Option (List ℕ)) × (List (Option (List ℕ)) × List (Option (List ℕ))))))
    (coded× (coded_list (coded_option code)) (coded× coded_ℕ (coded× lists_code (coded× lists_code lists_code))))
    (λ x. (x.values, (x.spare, (x.first, (x.second, x.third)))))
    (λ p. record { values = p.0; spare = p.1.0; first = p.1.1.0; second = p.1.1.1.0; third = p.1.1.1.1 })
    (λ _. refl)

-- the value of a slot, and None where it is not used
abbrev pub value_at : {T : Type 0} → Contents T → ℕ → Option T
value_at it s = slice_index_or it.values s None

-- the number of used slots
abbrev pub used_slots : {T : Type 0} → Contents T → ℕ
used_slots {T} it = count_by (λ (o : Option T). is_some o) it.values

-- the lists of a lane, under their numbers
abbrev pub lists_in : {T : Type 0} → Contents T → ℕ → List (Option (List ℕ))
lists_in it lane = by_lane lane it.first it.second it.third []

-- the slots of a list in their order, and None where no such list is there
abbrev pub list_at : {T : Type 0} → Contents T → ℕ → ℕ → Option (List ℕ)
list_at it lane list = slice_index_or (lists_in it lane) list None

-- the number of lists of a lane that are there
abbrev pub list_count : {T : Type 0} → Contents T → ℕ → ℕ
list_count it lane = count_by (λ (o : Option (List ℕ)). is_some o) (lists_in it lane)

-- the slot stands in a list of the lane
pub record StandsIn {T : Type 0} (it : Contents T) (lane s : ℕ) : Type 0 where
  pub list : ℕ
  pub within : InList (list_at it lane list) s

-- the slots of a list that is there
abbrev pub slots_of : Option (List ℕ) → List ℕ
slots_of None = []
slots_of (Some slots) = slots

-- what comes after this slot
abbrev pub after_in : ℕ → List ℕ → Option ℕ
after_in s [] = None
after_in s (t ∷ ss) = if eqb s t then slice_get ss 0 else after_in s ss

-- the value that a slot holds
abbrev pub value_of : {T : Type 0} → Place T → Option T
value_of (Used value) = Some value
value_of (Vacant next) = None

-- the values of slots
abbrev pub values_of : {T : Type 0} → List (Place T) → List (Option T)
values_of {T} places = map (λ (p : Place T). value_of p) places

-- the lists of one lane, of its rows and of all slots
abbrev pub lists_seen : {T : Type 0} → List (Slot T) → Lanes → ℕ → List (Option (List ℕ))
lists_seen slots lanes lane = map (list_of (link_in slots lane) (length slots)) (rows_in lanes lane)

-- what is seen of a store with these slots and lanes
abbrev pub seen_of : {T : Type 0} → List (Slot T) → Lanes → ℕ → Contents T
seen_of slots lanes spare = record {
  values = values_of (places_of slots);
  spare = spare;
  first = lists_seen slots lanes 0;
  second = lists_seen slots lanes 1;
  third = lists_seen slots lanes 2;
}
