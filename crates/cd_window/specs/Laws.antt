-- What holds of a window for each history that it stands for.
use Rattle.std.specs.Prelude.{◌≡◌, ℕ, ◌+◌, ◌<◌, ◌≤◌, true, false, List, [], ◌∷◌, ◌++◌, map, Option, Some, None}
use Rattle.cd_pairing.specs.declared.keyed.TheConstants.{LEAST_WEIGHT}
use Rattle.cd_pairing.specs.Events.{EventView}
use Rattle.cd_pairing.specs.Pairing.{IsPairing, is_in_window}
use Rattle.cd_pairing.specs.Records.{records, released_records}
use Rattle.cd_window.specs.declared.released.Released.{Released}
use Rattle.cd_window.specs.declared.held.Held.{Held}
use Rattle.cd_window.specs.Seen.{Seen, count_of, held_at, stamped, is_open, is_ready}
use Rattle.cd_window.specs.Pushes.{next_held, IsPushed}
use Rattle.cd_window.specs.Pops.{IsTrimmed, IsPopped}
use Rattle.cd_window.specs.Keeping.{StampsRise}
use Rattle.cd_window.specs.History.{StandsFor, AreRecords, AreFirstRecords, listed}

-- before the end is told, what was popped is a front of what is released of the events pushed
abbrev pub PoppedIsReleased : {E : Type 0} → (E → EventView) → Type 0
PoppedIsReleased {E} view = (w : Seen E) (pushed : List E) (popped : List (Released E)) (p : List (Option ℕ)) →
    StandsFor view w pushed popped → w.finished ≡ false → IsPairing w.windows (map view pushed) p →
    AreFirstRecords view pushed (released_records w.windows (map view pushed) p) popped

-- after the end is told it is a front of all records, and all of them once nothing is held
abbrev pub FinishedTellsAll : {E : Type 0} → (E → EventView) → Type 0
FinishedTellsAll {E} view = (w : Seen E) (pushed : List E) (popped : List (Released E)) (p : List (Option ℕ)) →
    StandsFor view w pushed popped → IsPairing w.windows (map view pushed) p →
    AreFirstRecords view pushed (records p) popped × (w.held ≡ [] → AreRecords view pushed (records p) popped)

-- where no record is ready, all that is due was popped: what is released before the end is told, and all records after
abbrev pub DueIsPopped : {E : Type 0} → (E → EventView) → Type 0
DueIsPopped {E} view = (w : Seen E) (pushed : List E) (popped : List (Released E)) (p : List (Option ℕ)) →
    StandsFor view w pushed popped → IsTrimmed w → is_ready view w ≡ false → IsPairing w.windows (map view pushed) p →
    (w.finished ≡ false → AreRecords view pushed (released_records w.windows (map view pushed) p) popped)
    × (w.finished ≡ true → AreRecords view pushed (records p) popped)

-- what a window stands for after a push
abbrev pub PushesStand : {E : Type 0} → (E → EventView) → Type 0
PushesStand {E} view = (w : Seen E) (e : E) (new : Seen E) (pushed : List E) (popped : List (Released E)) →
    StandsFor view w pushed popped → w.finished ≡ false → LEAST_WEIGHT ≤ (view e).weight → IsPushed view w e new →
    StandsFor view new (pushed ++ e ∷ []) popped

-- what a window stands for after a pop
abbrev pub PopsStand : {E : Type 0} → (E → EventView) → Type 0
PopsStand {E} view = (w : Seen E) (result : Option (Released E)) (new : Seen E) (pushed : List E)
    (popped : List (Released E)) → StandsFor view w pushed popped → IsPopped view w result new →
    StandsFor view new pushed (popped ++ listed result)

-- of two events of one side that are held, unpaired or not, the window of the later one is open where that of the
-- earlier one is: so the windows of a side close from the front
abbrev pub WindowsCloseInOrder : {E : Type 0} → (E → EventView) → Type 0
WindowsCloseInOrder {E} view = (w : Seen E) (k l : ℕ) (a b : Held E) →
    StampsRise view 0 0 w.held w.clock w.weight_sum → k < l → held_at w k ≡ Some a → held_at w l ≡ Some b →
    (view a.event).side ≡ (view b.event).side → is_open view w k a ≡ true → is_open view w l b ≡ true

-- where a window is open after a push, the pushed event stands in it, and it was open before
abbrev pub OpenWereOpen : {E : Type 0} → (E → EventView) → Type 0
OpenWereOpen {E} view = (w : Seen E) (e : E) (new : Seen E) → IsPushed view w e new → (k : ℕ) (h : Held E) →
    is_open view new k h ≡ true →
    (is_in_window w.windows (stamped view (w.first + k) h) (stamped view (count_of w) (next_held view w e None)) ≡ true)
    × (is_open view w k h ≡ true)
