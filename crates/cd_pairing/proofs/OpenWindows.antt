-- Windows: what is compatible is in a window, and what is in a window was in it before.
use Rattle.std.proofs.Common.{◌≡◌, ℕ, ◌+◌, ◌-◌, ◌<◌, ◌≤◌, true, false, max, List, [], ◌∷◌, ◌++◌, length, ap, sym, subst, arith, inl, inr, length-append}
use Rattle.std.proofs.lemmas.Bool.{cases_Bool, and_parts, and_from, ltb-true, leb-true, lt-ltb, le-leb}
use Rattle.std.proofs.lemmas.List.{length_push}
use Rattle.cd_pairing.specs.declared.keyed.TheConstants.{LEAST_WEIGHT}
use Rattle.cd_pairing.specs.declared.keyed.Windows.{Windows}
use Rattle.cd_pairing.specs.Events.{EventView, event_at, clock, weight_sum, are_opposite}
use Rattle.cd_pairing.specs.Pairing.{StampedEvent, stamped_event, may_pair, is_in_window, are_compatible, identifiers_agree, timeout}
use Rattle.cd_pairing.specs.Settling.{is_window_open, AreHeavy, OneMoreJoinsOpen, LaterWaitLonger}
use Rattle.cd_pairing.proofs.Growing.{stamped-append, grown}
use Rattle.cd_pairing.proofs.Rising.{clock_next, weights_next, clock_rises, weights_rise}

-- the parts of a compatible pair
pub record Parts (windows : Windows) (a b : StampedEvent) : Type 0 where
  pub sides : are_opposite a.view.side b.view.side ≡ true
  pub ids : identifiers_agree a.view b.view ≡ true
  pub time : b.clock - a.clock ≤ timeout windows a.view.side
  pub near : b.index - a.index < windows.count
  pub light : b.weight_sum - a.weight_sum + a.view.weight ≤ windows.bytes

pub parts : (windows : Windows) (a b : StampedEvent) → may_pair windows a b ≡ true → Parts windows a b
unfolding may_pair is_in_window
parts windows a b h =
    let outer = and_parts _ _ h in
    let who = and_parts _ _ outer.0 in
    let inner = and_parts _ _ outer.1 in
    let when = and_parts _ _ inner.0 in
    record { sides = who.0; ids = who.1; time = leb-true _ _ when.0; near = ltb-true _ _ when.1; light = leb-true _ _ inner.1 }

pub compatible_parts : (windows : Windows) (events : List EventView) (i j : ℕ) → are_compatible windows events i j ≡ true → Parts windows (stamped_event events i) (stamped_event events j)
unfolding are_compatible
compatible_parts windows events i j h = parts windows (stamped_event events i) (stamped_event events j) h

pub in_window_from : (windows : Windows) (a b : StampedEvent) → b.clock - a.clock ≤ timeout windows a.view.side → b.index - a.index < windows.count → b.weight_sum - a.weight_sum + a.view.weight ≤ windows.bytes → is_in_window windows a b ≡ true
unfolding is_in_window
in_window_from windows a b x y z = and_from _ _ (and_from _ _ (le-leb _ _ x) (lt-ltb _ _ y)) (le-leb _ _ z)

pub record Times (windows : Windows) (a b : StampedEvent) : Type 0 where
  pub time : b.clock - a.clock ≤ timeout windows a.view.side
  pub near : b.index - a.index < windows.count
  pub light : b.weight_sum - a.weight_sum + a.view.weight ≤ windows.bytes

pub in_window_parts : (windows : Windows) (a b : StampedEvent) → is_in_window windows a b ≡ true → Times windows a b
unfolding is_in_window
in_window_parts windows a b h =
    let outer = and_parts _ _ h in
    let inner = and_parts _ _ outer.0 in
    record { time = leb-true _ _ inner.0; near = ltb-true _ _ inner.1; light = leb-true _ _ outer.1 }

-- of two that wait on one side the later one waits longer
pub later_waits : LaterWaitLonger
later_waits windows events i k n before inside last side h =
    let t = in_window_parts windows (stamped_event events i) (stamped_event events n) h in
    let d : ℕ = k - 1 - i in
    let ek : i + d + 1 ≡ k = omega arith in
    let ei : i + d ≡ k - 1 = omega arith in
    let ep : k - 1 + 1 ≡ k = omega arith in
    let rise : weight_sum events i ≤ weight_sum events (k - 1) = subst (λ (x : ℕ). weight_sum events i ≤ weight_sum events x) ei (weights_rise events i d (omega arith)) in
    let clocks : clock events i ≤ clock events k = subst (λ (x : ℕ). clock events i ≤ clock events x) (let e : i + (k - i) ≡ k = omega arith in e) (clock_rises events i (k - i) (omega arith)) in
    let step : weight_sum events k ≡ weight_sum events (k - 1) + (event_at events k).weight = subst (λ (x : ℕ). weight_sum events x ≡ weight_sum events (k - 1) + (event_at events x).weight) ep (weights_next events (k - 1) (omega arith)) in
    let total : weight_sum events k ≤ weight_sum events n = subst (λ (x : ℕ). weight_sum events k ≤ weight_sum events x) (let e : k + (n - k) ≡ n = omega arith in e) (weights_rise events k (n - k) (omega arith)) in
    let same : timeout windows (event_at events k).side ≡ timeout windows (event_at events i).side = ap (timeout windows) (sym side) in
    let time = t.time in
    let near = t.near in
    let light = t.light in
    in_window_from windows (stamped_event events k) (stamped_event events n) (omega arith) (omega arith) (omega arith)

pub record OpenParts (windows : Windows) (events : List EventView) (i : ℕ) : Type 0 where
  pub near : length events - i < windows.count
  pub time : clock events (length events - 1) - clock events i ≤ timeout windows (event_at events i).side
  pub light : weight_sum events (length events - 1) - weight_sum events i + (event_at events i).weight + LEAST_WEIGHT ≤ windows.bytes

pub opened : (windows : Windows) (events : List EventView) (i : ℕ) → length events - i < windows.count → clock events (length events - 1) - clock events i ≤ timeout windows (event_at events i).side →
    weight_sum events (length events - 1) - weight_sum events i + (event_at events i).weight + LEAST_WEIGHT ≤ windows.bytes → is_window_open windows events i ≡ true
unfolding is_window_open
opened windows events i a b c = and_from _ _ (and_from _ _ (lt-ltb _ _ a) (le-leb _ _ b)) (le-leb _ _ c)

-- what an earlier event could stand with later leaves its window open until then
pub still_open : (windows : Windows) (events more : List EventView) (i j : ℕ) → AreHeavy (events ++ more) → i < length events → length events ≤ j → j < length (events ++ more) →
    are_compatible windows (events ++ more) i j ≡ true → is_window_open windows events i ≡ true
still_open windows events more i j heavy li lj inside h =
    let all : List EventView = events ++ more in
    let m : ℕ = length events - 1 in
    let p = compatible_parts windows all i j h in
    let si : stamped_event all i ≡ stamped_event events i = stamped-append events more i li in
    let sm : stamped_event all m ≡ stamped_event events m = stamped-append events more m (omega arith) in
    let ci : clock all i ≡ clock events i = ap (λ (s : StampedEvent). s.clock) si in
    let wi : weight_sum all i ≡ weight_sum events i = ap (λ (s : StampedEvent). s.weight_sum) si in
    let ei : event_at all i ≡ event_at events i = ap (λ (s : StampedEvent). s.view) si in
    let cm : clock all m ≡ clock events m = ap (λ (s : StampedEvent). s.clock) sm in
    let wm : weight_sum all m ≡ weight_sum events m = ap (λ (s : StampedEvent). s.weight_sum) sm in
    let k : ℕ = j - 1 in
    let d : ℕ = k - m in
    let ek : m + d ≡ k = omega arith in
    let ej : k + 1 ≡ j = omega arith in
    let ck : clock all m ≤ clock all k = subst (λ (x : ℕ). clock all m ≤ clock all x) ek (clock_rises all m d (omega arith)) in
    let wk : weight_sum all m ≤ weight_sum all k = subst (λ (x : ℕ). weight_sum all m ≤ weight_sum all x) ek (weights_rise all m d (omega arith)) in
    let cj : clock all j ≡ max (clock all k) (event_at all j).time = subst (λ (x : ℕ). clock all x ≡ max (clock all k) (event_at all x).time) ej (clock_next all k (omega arith)) in
    let wj : weight_sum all j ≡ weight_sum all k + (event_at all j).weight = subst (λ (x : ℕ). weight_sum all x ≡ weight_sum all k + (event_at all x).weight) ej (weights_next all k (omega arith)) in
    let weighs : (event_at all i).weight ≡ (event_at events i).weight = ap (λ (x : EventView). x.weight) ei in
    let waits : timeout windows (event_at all i).side ≡ timeout windows (event_at events i).side = ap (λ (x : EventView). timeout windows x.side) ei in
    let some : LEAST_WEIGHT ≤ (event_at all j).weight = heavy j inside in
    let near = p.near in
    let time = p.time in
    let light = p.light in
    let rise : weight_sum all i ≤ weight_sum all m = subst (λ (x : ℕ). weight_sum all i ≤ weight_sum all x) (let e : i + (m - i) ≡ m = omega arith in e) (weights_rise all i (m - i) (omega arith)) in
    opened windows events i (omega arith) (omega arith) (omega arith)

pub open_parts : (windows : Windows) (events : List EventView) (i : ℕ) → is_window_open windows events i ≡ true → OpenParts windows events i
unfolding is_window_open
open_parts windows events i h =
    let outer = and_parts _ _ h in
    let inner = and_parts _ _ outer.0 in
    record { near = ltb-true _ _ inner.0; time = leb-true _ _ inner.1; light = leb-true _ _ outer.1 }

-- a window that is open was open
pub was_open : (windows : Windows) (events more : List EventView) (i : ℕ) → i < length events → is_window_open windows (events ++ more) i ≡ true → is_window_open windows events i ≡ true
was_open windows events more i li h =
    let all : List EventView = events ++ more in
    let m : ℕ = length events - 1 in
    let l : ℕ = length all - 1 in
    let long : length all ≡ length events + length more = length-append events more in
    let p = open_parts windows all i h in
    let si : stamped_event all i ≡ stamped_event events i = stamped-append events more i li in
    let sm : stamped_event all m ≡ stamped_event events m = stamped-append events more m (omega arith) in
    let ci : clock all i ≡ clock events i = ap (λ (s : StampedEvent). s.clock) si in
    let wi : weight_sum all i ≡ weight_sum events i = ap (λ (s : StampedEvent). s.weight_sum) si in
    let ei : event_at all i ≡ event_at events i = ap (λ (s : StampedEvent). s.view) si in
    let cm : clock all m ≡ clock events m = ap (λ (s : StampedEvent). s.clock) sm in
    let wm : weight_sum all m ≡ weight_sum events m = ap (λ (s : StampedEvent). s.weight_sum) sm in
    let d : ℕ = l - m in
    let e : m + d ≡ l = omega arith in
    let ck : clock all m ≤ clock all l = subst (λ (x : ℕ). clock all m ≤ clock all x) e (clock_rises all m d (omega arith)) in
    let wk : weight_sum all m ≤ weight_sum all l = subst (λ (x : ℕ). weight_sum all m ≤ weight_sum all x) e (weights_rise all m d (omega arith)) in
    let weighs : (event_at all i).weight ≡ (event_at events i).weight = ap (λ (x : EventView). x.weight) ei in
    let waits : timeout windows (event_at all i).side ≡ timeout windows (event_at events i).side = ap (λ (x : EventView). timeout windows x.side) ei in
    let near = p.near in
    let time = p.time in
    let light = p.light in
    opened windows events i (omega arith) (omega arith) (omega arith)

-- where the window is closed, nothing that comes next is compatible
closed_fails : (windows : Windows) (events : List EventView) (e : EventView) → AreHeavy (events ++ e ∷ []) → (k : ℕ) → k < length events →
    (is_window_open windows events k ≡ true → are_compatible windows (events ++ e ∷ []) k (length events) ≡ false) → are_compatible windows (events ++ e ∷ []) k (length events) ≡ false
closed_fails windows events e heavy k lt f =
    elim (cases_Bool (are_compatible windows (events ++ e ∷ []) k (length events))) [
      | inr h ↦ h
      | inl h ↦ f (still_open windows events (e ∷ []) k (length events) heavy lt (let x : length events ≤ length events = omega arith in x) (omega (arith, length_push events e)) h)
    ]

pub grows_by_open : OneMoreJoinsOpen
grows_by_open windows events e p heavy P =
    let g = grown windows events e p P in
    record {
      joined = λ i w. let b = w.within in g.joined i (record {
        within = w.within;
        free = w.free;
        fits = w.fits;
        earliest = λ k lt free. closed_fails windows events e heavy k (omega arith) (w.earliest k lt free);
      });
      alone = λ nil. g.alone (λ i lt free. closed_fails windows events e heavy i lt (nil i lt free));
    }
