-- The stamps of what is held rise, as events come and go, and bound what is held.
use Rattle.std.proofs.Common.{◌≡◌, ℕ, zero, suc, ◌+◌, ◌-◌, ◌<◌, ◌≤◌, Bool, true, false, not, ◌&&◌, ◌||◌, leb, ltb, List, [], ◌∷◌, ◌++◌, drop, set, get_or, Option, Some, None, refl, ap, sym, ◌∙◌, arith}
use Rattle.std.specs.Prelude.{is_some}
use Rattle.std.specs.List.{sum_by, count_by}
use Rattle.std.proofs.lemmas.Bool.{true≢false, and_parts, ltb-true, leb-true}
use Rattle.std.proofs.lemmas.Option.{none-some}
use Rattle.std.proofs.lemmas.List.Sums.{sum_by-cons, count_by-le-length}
use Rattle.cd_pairing.specs.declared.keyed.TheConstants.{LEAST_WEIGHT}
use Rattle.cd_pairing.specs.Events.{EventView}
use Rattle.cd_pairing.specs.Pairing.{timeout}
use Rattle.cd_pairing.specs.Settling.{is_neither}
use Rattle.cd_window.specs.declared.held.Held.{Held}
use Rattle.cd_window.specs.Seen.{Seen, count_of, held_at, is_open, is_ready, is_front_ready, held_count, held_weight, weight_held}
use Rattle.cd_window.specs.Keeping.{StampsRise, Keeps}

-- they rise from anything lower too
pub rises_lower : {E : Type 0} (view : E → EventView) (c s c' s' : ℕ) (hs : List (Option (Held E))) (lc ls : ℕ) → c' ≤ c → s' ≤ s → StampsRise view c s hs lc ls → StampsRise view c' s' hs lc ls
rises_lower view c s c' s' [] lc ls lec les h = let a = h.0 in let b = h.1 in (omega arith, omega arith)
rises_lower view c s c' s' (None ∷ hs) lc ls lec les h = rises_lower view c s c' s' hs lc ls lec les h
rises_lower view c s c' s' (Some x ∷ hs) lc ls lec les h = let a = h.0 in let b = h.1 in (omega arith, omega arith, h.2)

rises_tail : {E : Type 0} (view : E → EventView) (c s : ℕ) (o : Option (Held E)) (hs : List (Option (Held E))) (lc ls : ℕ) → StampsRise view c s (o ∷ hs) lc ls → StampsRise view c s hs lc ls
rises_tail view c s None hs lc ls h = h
rises_tail view c s (Some x) hs lc ls h = let a = h.0 in let b = h.1 in rises_lower view x.clock x.weight_sum c s hs lc ls (omega arith) (omega arith) h.2

pub rises_drop : {E : Type 0} (view : E → EventView) (n c s : ℕ) (hs : List (Option (Held E))) (lc ls : ℕ) → StampsRise view c s hs lc ls → StampsRise view c s (drop n hs) lc ls
rises_drop view zero c s hs lc ls h = h
rises_drop view (suc n) c s [] lc ls h = h
rises_drop view (suc n) c s (o ∷ hs) lc ls h = rises_drop view n c s hs lc ls (rises_tail view c s o hs lc ls h)

-- an event less
pub rises_none : {E : Type 0} (view : E → EventView) (k c s : ℕ) (hs : List (Option (Held E))) (lc ls : ℕ) → StampsRise view c s hs lc ls → StampsRise view c s (set hs k None) lc ls
rises_none view zero c s [] lc ls h = h
rises_none view (suc k) c s [] lc ls h = h
rises_none view zero c s (o ∷ hs) lc ls h = rises_tail view c s o hs lc ls h
rises_none view (suc k) c s (None ∷ hs) lc ls h = rises_none view k c s hs lc ls h
rises_none view (suc k) c s (Some x ∷ hs) lc ls h = (h.0, h.1, rises_none view k x.clock x.weight_sum hs lc ls h.2)

-- another partner
pub rises_same : {E : Type 0} (view : E → EventView) (k c s : ℕ) (hs : List (Option (Held E))) (lc ls : ℕ) (was new : Held E) → get_or hs k None ≡ Some was → new.clock ≡ was.clock → new.weight_sum ≡ was.weight_sum →
    new.event ≡ was.event → StampsRise view c s hs lc ls → StampsRise view c s (set hs k (Some new)) lc ls
rises_same view zero c s [] lc ls was new e ec es ee h = absurd (none-some was e)
rises_same view (suc k) c s [] lc ls was new e ec es ee h = absurd (none-some was e)
rises_same view zero c s (None ∷ hs) lc ls was new e ec es ee h = absurd (none-some was e)
rises_same {E} view zero c s (Some x ∷ hs) lc ls was new e ec es ee h =
    let same : x ≡ was = cc in
    let a = h.0 in
    let b = h.1 in
    let qc : x.clock ≡ new.clock = ap (λ (y : Held E). y.clock) same ∙ sym ec in
    let qs : x.weight_sum ≡ new.weight_sum = ap (λ (y : Held E). y.weight_sum) same ∙ sym es in
    let qw : (view x.event).weight ≡ (view new.event).weight = ap (λ (y : Held E). (view y.event).weight) same ∙ sym (ap (λ (y : E). (view y).weight) ee) in
    (omega arith, omega arith, rises_lower view x.clock x.weight_sum new.clock new.weight_sum hs lc ls (omega arith) (omega arith) h.2)
rises_same view (suc k) c s (None ∷ hs) lc ls was new e ec es ee h = rises_same view k c s hs lc ls was new e ec es ee h
rises_same view (suc k) c s (Some x ∷ hs) lc ls was new e ec es ee h = (h.0, h.1, rises_same view k x.clock x.weight_sum hs lc ls was new e ec es ee h.2)

-- an event more
pub rises_push : {E : Type 0} (view : E → EventView) (c s : ℕ) (hs : List (Option (Held E))) (lc ls : ℕ) (x : Held E) → lc ≤ x.clock → ls + (view x.event).weight ≤ x.weight_sum → StampsRise view c s hs lc ls →
    StampsRise view c s (hs ++ Some x ∷ []) x.clock x.weight_sum
rises_push view c s [] lc ls x lec les h = let a = h.0 in let b = h.1 in (omega arith, omega arith, (omega arith, omega arith))
rises_push view c s (None ∷ hs) lc ls x lec les h = rises_push view c s hs lc ls x lec les h
rises_push view c s (Some y ∷ hs) lc ls x lec les h = (h.0, h.1, rises_push view y.clock y.weight_sum hs lc ls x lec les h.2)

-- what is held weighs no more than the sums have risen
pub rises_weight : {E : Type 0} (view : E → EventView) (c s : ℕ) (hs : List (Option (Held E))) (lc ls : ℕ) → StampsRise view c s hs lc ls → s + sum_by (weight_held view) hs ≤ ls
rises_weight view c s [] lc ls h = let b = h.1 in omega arith
rises_weight {E} view c s (None ∷ hs) lc ls h =
    let a = rises_weight view c s hs lc ls h in
    let q : sum_by (weight_held view) (None ∷ hs) ≡ 0 + sum_by (weight_held view) hs = sum_by-cons (weight_held view) None hs in
    omega arith
rises_weight {E} view c s (Some x ∷ hs) lc ls h =
    let a = rises_weight view x.clock x.weight_sum hs lc ls h.2 in
    let b = h.1 in
    let q : sum_by (weight_held view) (Some x ∷ hs) ≡ (view x.event).weight + sum_by (weight_held view) hs = sum_by-cons (weight_held view) (Some x) hs in
    omega arith

front_weight : {E : Type 0} (view : E → EventView) (c s : ℕ) (hs : List (Option (Held E))) (lc ls : ℕ) (x : Held E) → get_or hs 0 None ≡ Some x → StampsRise view c s hs lc ls →
    (sum_by (weight_held view) hs + x.weight_sum ≤ ls + (view x.event).weight) × (x.weight_sum ≤ ls)
front_weight view c s [] lc ls x e h = absurd (none-some x e)
front_weight view c s (None ∷ hs) lc ls x e h = absurd (none-some x e)
front_weight {E} view c s (Some y ∷ hs) lc ls x e h =
    let same : y ≡ x = cc in
    let a = rises_weight view y.clock y.weight_sum hs lc ls h.2 in
    let q : sum_by (weight_held view) (Some y ∷ hs) ≡ (view y.event).weight + sum_by (weight_held view) hs = sum_by-cons (weight_held view) (Some y) hs in
    let u : y.weight_sum ≡ x.weight_sum = ap (λ (z : Held E). z.weight_sum) same in
    let v : (view y.event).weight ≡ (view x.event).weight = ap (λ (z : Held E). (view z.event).weight) same in
    (omega arith, omega arith)

or_all_false : (a b c d : Bool) → (a || (b || c || not d)) ≡ false → d ≡ true
or_all_false true b c d h = absurd (true≢false h)
or_all_false false true c d h = absurd (true≢false h)
or_all_false false false true d h = absurd (true≢false h)
or_all_false false false false true h = refl
or_all_false false false false false h = absurd (true≢false h)

record Bounds {E : Type 0} (view : E → EventView) (w : Seen E) : Type 0 where
  count : held_count w < w.windows.count
  weight : held_weight view w ≤ w.windows.bytes

bounded_at : {E : Type 0} (view : E → EventView) (w : Seen E) (count weight : ℕ) → Keeps view w count weight → (o : Option (Held E)) → held_at w 0 ≡ o → is_front_ready view w o ≡ false → Bounds view w
bounded_at {E} view w count weight K None e r =
    let nil : w.held ≡ [] = K.trimmed e in
    let a : held_count w ≡ 0 = ap (count_by is_some) nil in
    let b : held_weight view w ≡ 0 = ap (sum_by (weight_held view)) nil in
    let some = K.some in
    record { count = omega arith; weight = omega arith }
bounded_at {E} view w count weight K (Some h) e r =
    let opens : is_open view w 0 h ≡ true = or_all_false w.finished (is_neither (view h.event).side) (is_some h.partner) (is_open view w 0 h) r in
    let age : ℕ = count_of w - (w.first + 0) in
    let passed : ℕ = w.weight_sum - h.weight_sum + (view h.event).weight + LEAST_WEIGHT in
    let outer = and_parts (ltb age w.windows.count && leb (w.clock - h.clock) (timeout w.windows (view h.event).side)) (leb passed w.windows.bytes) opens in
    let inner = and_parts (ltb age w.windows.count) (leb (w.clock - h.clock) (timeout w.windows (view h.event).side)) outer.0 in
    let near : count_of w - (w.first + 0) < w.windows.count = ltb-true age w.windows.count inner.0 in
    let light : w.weight_sum - h.weight_sum + (view h.event).weight + LEAST_WEIGHT ≤ w.windows.bytes = leb-true passed w.windows.bytes outer.1 in
    let few = count_by-le-length is_some w.held in
    let f = front_weight view 0 0 w.held w.clock w.weight_sum h e K.rises in
    let x = f.0 in
    let y = f.1 in
    record { count = omega arith; weight = omega arith }

-- where nothing is ready, what is held stays within the windows
pub count_bounded : {E : Type 0} (view : E → EventView) (w : Seen E) (count weight : ℕ) → Keeps view w count weight → is_ready view w ≡ false → count < w.windows.count
count_bounded view w count weight K r = let b = (bounded_at view w count weight K (held_at w 0) refl r).count in let e = K.counted in omega arith

pub weight_bounded : {E : Type 0} (view : E → EventView) (w : Seen E) (count weight : ℕ) → Keeps view w count weight → is_ready view w ≡ false → weight ≤ w.windows.bytes
weight_bounded view w count weight K r = let b = (bounded_at view w count weight K (held_at w 0) refl r).weight in let e = K.weighed in omega arith

-- what is held weighs no more than all events
pub weight_within : {E : Type 0} (view : E → EventView) (w : Seen E) (count weight : ℕ) → Keeps view w count weight → weight ≤ w.weight_sum
weight_within view w count weight K = let a = rises_weight view 0 0 w.held w.clock w.weight_sum K.rises in let e = K.weighed in omega arith
