-- For which histories a window stands: the events that were pushed, and the records that were popped.
use Rattle.std.specs.Prelude.{◌≡◌, ℕ, ◌+◌, ◌<◌, ◌≤◌, true, false, max, List, [], ◌∷◌, ◌++◌, length, map, take}
use Rattle.std.specs.Prelude.{Option, Some, None, slice_get, ◌⊎◌}
use Rattle.std.specs.List.{fold, sum_by}
use Rattle.cd_pairing.specs.declared.keyed.Side.TheVariants.{Query}
use Rattle.cd_pairing.specs.Events.{EventView, clock, weight_sum}
use Rattle.cd_pairing.specs.Matching.{partner}
use Rattle.cd_pairing.specs.Pairing.{IsPairing}
use Rattle.cd_pairing.specs.Settling.{is_settled, AreHeavy}
use Rattle.cd_pairing.specs.Records.{Record, pair, single, records}
use Rattle.cd_window.specs.declared.released.Released.{Released}
use Rattle.cd_window.specs.declared.released.Released.TheVariants.{Pair, One}
use Rattle.cd_window.specs.declared.held.Held.{Held}
use Rattle.cd_window.specs.Seen.{Seen, count_of, held_at, held_count, held_weight}

-- this query and this response were pushed at these positions
pub record ArePushed {E : Type 0} (view : E → EventView) (pushed : List E) (i j : ℕ) (query response : E) : Type 0 where
  pub is_query : (view query).side ≡ Query
  pub query_at : slice_get pushed i ≡ Some query
  pub response_at : slice_get pushed j ≡ Some response

-- a popped record is this record of positions, with the events that were pushed there
abbrev pub IsRecord : {E : Type 0} → (E → EventView) → List E → Record → Released E → Type 0
IsRecord view pushed (pair i j) (Pair lead query response) =
    (lead ≡ i) × (ArePushed view pushed i j query response ⊎ ArePushed view pushed j i query response)
IsRecord view pushed (single i) (One lead event) = (lead ≡ i) × (slice_get pushed i ≡ Some event)
IsRecord view pushed (pair i j) (One lead event) = ⊥
IsRecord view pushed (single i) (Pair lead query response) = ⊥

-- popped records are these records of positions, one by one
abbrev pub AreRecords : {E : Type 0} → (E → EventView) → List E → List Record → List (Released E) → Type 0
AreRecords view pushed [] [] = Unit {0}
AreRecords view pushed (r ∷ rs) (x ∷ xs) = IsRecord view pushed r x × AreRecords view pushed rs xs
AreRecords view pushed [] (x ∷ xs) = ⊥
AreRecords view pushed (r ∷ rs) [] = ⊥

-- popped records are a front of these
pub record AreFirstRecords {E : Type 0} (view : E → EventView) (pushed : List E) (all : List Record)
    (popped : List (Released E)) : Type 0 where
  pub front : List Record
  pub rest : List Record
  pub whole : all ≡ front ++ rest
  pub popped_are : AreRecords view pushed front popped

-- what is held of the event at this position
pub record IsHeld {E : Type 0} (view : E → EventView) (pushed : List E)
    (partners : List (Option ℕ)) (first i : ℕ) (h : Held E) : Type 0 where
  pub event : slice_get pushed i ≡ Some h.event
  pub clock : h.clock ≡ clock (map view pushed) i
  pub weight_sum : h.weight_sum ≡ weight_sum (map view pushed) i
  pub partner : h.partner ≡ partner partners i
  -- its record was not popped
  pub unpopped : (j : ℕ) → h.partner ≡ Some j → first ≤ j

-- what is held at this position: nothing where its record was popped with an earlier event
abbrev pub HoldsAt : {E : Type 0} → (E → EventView) → List E → List (Option ℕ) → ℕ → ℕ → Option (Held E) → Type 0
HoldsAt view pushed partners first i (Some h) = IsHeld view pushed partners first i h
HoldsAt view pushed partners first i None = (j : ℕ) × (j < first) × (partner partners i ≡ Some j)

-- how many events a record has
abbrev pub events_in : {E : Type 0} → Released E → ℕ
events_in (Pair lead query response) = 2
events_in (One lead event) = 1

-- the weight of the events of a record
abbrev pub weight_in : {E : Type 0} → (E → EventView) → Released E → ℕ
weight_in view (Pair lead query response) = (view query).weight + (view response).weight
weight_in view (One lead event) = (view event).weight

-- what is held is what was pushed and stands in no popped record
pub record HeldIsUnpopped {E : Type 0} (view : E → EventView) (w : Seen E) (pushed : List E)
    (popped : List (Released E)) : Type 0 where
  pub count : held_count w + sum_by events_in popped ≡ length pushed
  pub weight : held_weight view w + sum_by (weight_in view) popped ≡ sum_by (λ e. e.weight) (map view pushed)

-- the window stands for these events pushed and these records popped
pub record StandsFor {E : Type 0} (view : E → EventView) (w : Seen E) (pushed : List E)
    (popped : List (Released E)) : Type 0 where
  pub partners : List (Option ℕ)
  pub pairing : IsPairing w.windows (map view pushed) partners
  pub heavy : AreHeavy (map view pushed)
  pub count : count_of w ≡ length pushed
  pub clock : w.clock ≡ fold (λ latest e. max latest e.time) 0 (map view pushed)
  pub weight_sum : w.weight_sum ≡ sum_by (λ e. e.weight) (map view pushed)
  pub held : (k : ℕ) → k < length w.held → HoldsAt view pushed partners w.first (w.first + k) (held_at w k)
  pub popped_are : AreRecords view pushed (records (take w.first partners)) popped
  pub unpopped : HeldIsUnpopped view w pushed popped
  pub settled : w.finished ≡ false → (i : ℕ) → i < w.first → is_settled w.windows (map view pushed) partners i ≡ true

-- the records that a pop gave, if any
abbrev pub listed : {E : Type 0} → Option (Released E) → List (Released E)
listed None = []
listed (Some r) = r ∷ []
