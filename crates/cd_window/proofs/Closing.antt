-- In which order windows close, and what was in a window that is open.
use Rattle.std.proofs.Common.{◌≡◌, ℕ, zero, suc, ◌+◌, ◌-◌, ◌<◌, ◌≤◌, inl, inr, Bool, true, ◌&&◌, leb, ltb, max, List, [], ◌∷◌, length, set, get_or, Option, Some, None, ap, ◌∙◌, arith, length-set}
use Rattle.std.proofs.lemmas.Bool.{and_parts, and_from, ltb-true, leb-true, lt-ltb, le-leb}
use Rattle.std.proofs.lemmas.Option.{none-some}
use Rattle.std.proofs.lemmas.List.{length_push}
use Rattle.cd_pairing.specs.declared.keyed.TheConstants.{LEAST_WEIGHT}
use Rattle.cd_pairing.specs.declared.keyed.Windows.{Windows}
use Rattle.cd_pairing.specs.Events.{EventView}
use Rattle.cd_pairing.specs.Pairing.{StampedEvent, timeout}
use Rattle.cd_pairing.proofs.OpenWindows.{in_window_from}
use Rattle.cd_window.specs.declared.held.Held.{Held}
use Rattle.cd_window.specs.Seen.{Seen, count_of, stamped, waits_after}
use Rattle.cd_window.specs.Pushes.{next_held, with_partner, IsPushed}
use Rattle.cd_window.specs.Keeping.{StampsRise}
use Rattle.cd_window.specs.Laws.{WindowsCloseInOrder, OpenWereOpen}

-- the parts of a window that is open
pub record OpenParts (windows : Windows) (count clock weight_sum : ℕ) (s : StampedEvent) : Type 0 where
  pub near : count - s.index < windows.count
  pub time : clock - s.clock ≤ timeout windows s.view.side
  pub light : weight_sum - s.weight_sum + s.view.weight + LEAST_WEIGHT ≤ windows.bytes

pub open_parts : (windows : Windows) (count clock weight_sum : ℕ) (s : StampedEvent) → waits_after windows count clock weight_sum s ≡ true → OpenParts windows count clock weight_sum s
open_parts windows count clock weight_sum s h =
    let near : Bool = ltb (count - s.index) windows.count in
    let time : Bool = leb (clock - s.clock) (timeout windows s.view.side) in
    let light : Bool = leb (weight_sum - s.weight_sum + s.view.weight + LEAST_WEIGHT) windows.bytes in
    let outer = and_parts (near && time) light h in
    let inner = and_parts near time outer.0 in
    record {
      near = ltb-true (count - s.index) windows.count inner.0;
      time = leb-true (clock - s.clock) (timeout windows s.view.side) inner.1;
      light = leb-true (weight_sum - s.weight_sum + s.view.weight + LEAST_WEIGHT) windows.bytes outer.1;
    }

pub open_from : (windows : Windows) (count clock weight_sum : ℕ) (s : StampedEvent) → OpenParts windows count clock weight_sum s → waits_after windows count clock weight_sum s ≡ true
open_from windows count clock weight_sum s W = and_from _ _ (and_from _ _ (lt-ltb _ _ W.near) (le-leb _ _ W.time)) (le-leb _ _ W.light)

-- where an event stands among stamps that rise
pub record Stands {E : Type 0} (view : E → EventView) (c s : ℕ) (b : Held E) (lc ls : ℕ) : Type 0 where
  pub clock : c ≤ b.clock
  pub sum : s + (view b.event).weight ≤ b.weight_sum
  pub last_clock : b.clock ≤ lc
  pub last_sum : b.weight_sum ≤ ls

-- the clock and the sum to which they rise
pub top : {E : Type 0} (view : E → EventView) (c s : ℕ) (hs : List (Option (Held E))) (lc ls : ℕ) → StampsRise view c s hs lc ls → (c ≤ lc) × (s ≤ ls)
top view c s [] lc ls h = h
top view c s (None ∷ hs) lc ls h = top view c s hs lc ls h
top view c s (Some x ∷ hs) lc ls h =
    let a = h.0 in
    let b = h.1 in
    let t = top view x.clock x.weight_sum hs lc ls h.2 in
    let u = t.0 in
    let v = t.1 in
    (omega arith, omega arith)

pub stands : {E : Type 0} (view : E → EventView) (c s : ℕ) (hs : List (Option (Held E))) (l : ℕ) (b : Held E) (lc ls : ℕ) → get_or hs l None ≡ Some b → StampsRise view c s hs lc ls → Stands view c s b lc ls
stands view c s [] zero b lc ls e h = absurd (none-some b e)
stands view c s [] (suc l) b lc ls e h = absurd (none-some b e)
stands view c s (None ∷ hs) zero b lc ls e h = absurd (none-some b e)
stands view c s (None ∷ hs) (suc l) b lc ls e h = stands view c s hs l b lc ls e h
stands {E} view c s (Some x ∷ hs) zero b lc ls e h =
    let same : x ≡ b = cc in
    let p = h.0 in
    let q = h.1 in
    let t = top view x.clock x.weight_sum hs lc ls h.2 in
    let u = t.0 in
    let v = t.1 in
    let ec : x.clock ≡ b.clock = ap (λ (y : Held E). y.clock) same in
    let es : x.weight_sum ≡ b.weight_sum = ap (λ (y : Held E). y.weight_sum) same in
    let ew : (view x.event).weight ≡ (view b.event).weight = ap (λ (y : Held E). (view y.event).weight) same in
    record { clock = omega arith; sum = omega arith; last_clock = omega arith; last_sum = omega arith }
stands view c s (Some x ∷ hs) (suc l) b lc ls e h =
    let p = h.0 in
    let q = h.1 in
    let t = stands view x.clock x.weight_sum hs l b lc ls e h.2 in
    let tc = t.clock in
    let ts = t.sum in
    record { clock = omega arith; sum = omega arith; last_clock = t.last_clock; last_sum = t.last_sum }

between : {E : Type 0} (view : E → EventView) (c s : ℕ) (hs : List (Option (Held E))) (k l : ℕ) (a b : Held E) (lc ls : ℕ) → k < l → get_or hs k None ≡ Some a → get_or hs l None ≡ Some b → StampsRise view c s hs lc ls →
    Stands view a.clock a.weight_sum b lc ls
between view c s [] zero l a b lc ls lt ea eb h = absurd (none-some a ea)
between view c s [] (suc k) l a b lc ls lt ea eb h = absurd (none-some a ea)
between view c s (o ∷ hs) zero zero a b lc ls lt ea eb h = absurd (omega arith)
between view c s (o ∷ hs) (suc k) zero a b lc ls lt ea eb h = absurd (omega arith)
between view c s (None ∷ hs) zero (suc l) a b lc ls lt ea eb h = absurd (none-some a ea)
between {E} view c s (Some x ∷ hs) zero (suc l) a b lc ls lt ea eb h =
    let same : x ≡ a = cc in
    let t = stands view x.clock x.weight_sum hs l b lc ls eb h.2 in
    let tc = t.clock in
    let ts = t.sum in
    let ec : x.clock ≡ a.clock = ap (λ (y : Held E). y.clock) same in
    let es : x.weight_sum ≡ a.weight_sum = ap (λ (y : Held E). y.weight_sum) same in
    record { clock = omega arith; sum = omega arith; last_clock = t.last_clock; last_sum = t.last_sum }
between view c s (None ∷ hs) (suc k) (suc l) a b lc ls lt ea eb h = between view c s hs k l a b lc ls (omega arith) ea eb h
between view c s (Some x ∷ hs) (suc k) (suc l) a b lc ls lt ea eb h = between view x.clock x.weight_sum hs k l a b lc ls (omega arith) ea eb h.2

pub windows_close_in_order : {E : Type 0} (view : E → EventView) → WindowsCloseInOrder view
windows_close_in_order {E} view w k l a b R lt ea eb side opens =
    let W = open_parts w.windows (count_of w) w.clock w.weight_sum (stamped view (w.first + k) a) opens in
    let t = between view 0 0 w.held k l a b w.clock w.weight_sum lt ea eb R in
    let near : count_of w - (w.first + k) < w.windows.count = W.near in
    let time : w.clock - a.clock ≤ timeout w.windows (view a.event).side = W.time in
    let light : w.weight_sum - a.weight_sum + (view a.event).weight + LEAST_WEIGHT ≤ w.windows.bytes = W.light in
    let tc = t.clock in
    let ts = t.sum in
    let tl = t.last_sum in
    let same : timeout w.windows (view a.event).side ≡ timeout w.windows (view b.event).side = ap (timeout w.windows) side in
    open_from w.windows (count_of w) w.clock w.weight_sum (stamped view (w.first + l) b) (record {
      near = let x : count_of w - (w.first + l) < w.windows.count = omega arith in x;
      time = let x : w.clock - b.clock ≤ timeout w.windows (view b.event).side = omega arith in x;
      light = let x : w.weight_sum - b.weight_sum + (view b.event).weight + LEAST_WEIGHT ≤ w.windows.bytes = omega arith in x;
    })

pushed_count : {E : Type 0} (view : E → EventView) (w : Seen E) (e : E) (new : Seen E) → IsPushed view w e new → count_of new ≡ count_of w + 1
pushed_count {E} view w e new P = elim P.held [
  | inl J ↦
      let f = P.first in
      let l : length new.held ≡ length w.held + 1 = ap length J.new_is ∙ length_push (set w.held J.place (Some (with_partner J.was (count_of w)))) (Some (next_held view w e (Some (w.first + J.place))))
      ∙ ap (λ (n : ℕ). n + 1) (length-set w.held J.place (Some (with_partner J.was (count_of w)))) in
      omega arith
  | inr A ↦
      let f = P.first in
      let l : length new.held ≡ length w.held + 1 = ap length A.new_is ∙ length_push w.held (Some (next_held view w e None)) in
      omega arith
]

pub open_were_open : {E : Type 0} (view : E → EventView) → OpenWereOpen view
open_were_open {E} view w e new P k h opens =
    let W = open_parts new.windows (count_of new) new.clock new.weight_sum (stamped view (new.first + k) h) opens in
    let near : count_of new - (new.first + k) < new.windows.count = W.near in
    let time : new.clock - h.clock ≤ timeout new.windows (view h.event).side = W.time in
    let light : new.weight_sum - h.weight_sum + (view h.event).weight + LEAST_WEIGHT ≤ new.windows.bytes = W.light in
    let n = pushed_count view w e new P in
    let f = P.first in
    let c = P.clock in
    let s = P.weight_sum in
    let wc : new.windows.count ≡ w.windows.count = ap (λ (x : Windows). x.count) P.windows in
    let wb : new.windows.bytes ≡ w.windows.bytes = ap (λ (x : Windows). x.bytes) P.windows in
    let wt : timeout new.windows (view h.event).side ≡ timeout w.windows (view h.event).side = ap (λ (x : Windows). timeout x (view h.event).side) P.windows in (
      in_window_from w.windows (stamped view (w.first + k) h) (stamped view (count_of w) (next_held view w e None))
          (let x : max w.clock (view e).time - h.clock ≤ timeout w.windows (view h.event).side = omega arith in x)
          (let x : count_of w - (w.first + k) < w.windows.count = omega arith in x)
          (let x : w.weight_sum + (view e).weight - h.weight_sum + (view h.event).weight ≤ w.windows.bytes = omega arith in x),
      open_from w.windows (count_of w) w.clock w.weight_sum (stamped view (w.first + k) h) (record {
        near = let x : count_of w - (w.first + k) < w.windows.count = omega arith in x;
        time = let x : w.clock - h.clock ≤ timeout w.windows (view h.event).side = omega arith in x;
        light = let x : w.weight_sum - h.weight_sum + (view h.event).weight + LEAST_WEIGHT ≤ w.windows.bytes = omega arith in x;
      }),
    )
