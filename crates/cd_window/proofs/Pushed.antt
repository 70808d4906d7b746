-- What a push may ask of the events that wait.
use Rattle.std.proofs.Common.{◌≡◌, ℕ, ◌-◌, false, length, refl, ap, sym, subst, arith}
use Rattle.cd_pairing.specs.declared.keyed.Side.{Side}
use Rattle.cd_pairing.specs.Events.{EventView}
use Rattle.cd_window.specs.declared.stamps.Stamp.{Stamp}
use Rattle.cd_window.specs.declared.waiting.Waiting.{Waiting}
use Rattle.cd_window.specs.Seen.{Seen, count_of, is_ready}
use Rattle.cd_window.specs.Keeping.{Keeps}
use Rattle.cd_window.specs.Waiting.{is_waiting, waiting, AreRising, AllBefore, NoneBefore}
use Rattle.cd_window.specs.Lists.{waits_in, Holds}
use Rattle.cd_window.specs.Joining.{CanJoin}
use Rattle.cd_window.proofs.Picking.{waits_rising, waits_before, waits_from_here, waits_few}
use Rattle.cd_window.proofs.Putting.{IsNext}
use Rattle.cd_window.proofs.Rising.{count_bounded}
use Rattle.cd_window.proofs.Waits.{before_later}

-- the events of a side stand in order
pub holds_rising : {E : Type 0} (view : E → EventView) (w : Seen E) (count weight : ℕ) (x : Waiting) (side : Side) → Keeps view w count weight → Holds x (waiting view w side) → AreRising (waits_in x)
holds_rising view w count weight x side K H = subst AreRising (sym H.waits_are) (waits_rising view (is_waiting view w side) w.first 0 0 w.held w.clock w.weight_sum K.rises)

-- none of them before the front
pub holds_from : {E : Type 0} (view : E → EventView) (w : Seen E) (x : Waiting) (side : Side) → Holds x (waiting view w side) → NoneBefore w.first (waits_in x)
holds_from view w x side H = subst (NoneBefore w.first) (sym H.waits_are) (waits_from_here view (is_waiting view w side) w.first w.first w.held (omega arith))

pub can_join : {E : Type 0} (view : E → EventView) (w : Seen E) (count weight : ℕ) (e : E) (next : Stamp) (x : Waiting) (side : Side) → Keeps view w count weight → is_ready view w ≡ false → IsNext view w e next → Holds x (waiting view w side) →
    CanJoin x next.index next.clock (next.weight_sum - (view e).weight)
can_join view w count weight e next x side K ready N H =
    let i = N.index in
    let c = N.clock in
    let s = N.weight_sum in
    let few = waits_few view (is_waiting view w side) w.first w.held in
    let bounded = count_bounded view w count weight K ready in
    let counted = K.counted in
    let least = K.few in
    let long : length (waits_in x) ≡ length (waiting view w side) = ap length H.waits_are in
    record {
      listed = H.listed;
      filled = H.filled;
      rising = holds_rising view w count weight x side K H;
      before = subst (AllBefore next.index next.clock (next.weight_sum - (view e).weight)) (sym H.waits_are)
          (before_later (count_of w) w.clock w.weight_sum next.index next.clock (next.weight_sum - (view e).weight) (waiting view w side) (omega arith) (omega arith) (omega arith)
          (waits_before view (is_waiting view w side) w.first (count_of w) 0 0 w.held w.clock w.weight_sum refl K.rises));
      few = omega arith;
    }
