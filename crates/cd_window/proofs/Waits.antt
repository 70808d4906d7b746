-- Events that wait, in order: which of them are let go of, and which agrees first with another one.
use Rattle.std.proofs.Common.{◌≡◌, ℕ, ◌<◌, ◌≤◌, ◌+◌, ◌-◌, Bool, true, false, ◌||◌, eqb, List, [], ◌∷◌, ◌++◌, map, filter, Option, Some, None, refl, ap, sym, ◌∙◌, arith, inl, inr}
use Rattle.std.specs.Prelude.{slice_get}
use Rattle.std.specs.Option.{option_map}
use Rattle.std.proofs.lemmas.Bool.{cases_Bool, eqb-true, eq-eqb, ne_eqb, true≢false, false_from_ne_true, le-leb, lt-leb}
use Rattle.cd_pairing.specs.declared.keyed.Side.{Side}
use Rattle.cd_pairing.specs.declared.keyed.Windows.{Windows}
use Rattle.cd_pairing.specs.declared.keyed.TheConstants.{LEAST_WEIGHT}
use Rattle.cd_pairing.specs.Pairing.{timeout}
use Rattle.cd_chain.specs.Cells.{is_in}
use Rattle.cd_chain.specs.Chains.{without}
use Rattle.cd_chain.proofs.Linking.{without_none}
use Rattle.cd_chain.specs.Contents.{Contents}
use Rattle.cd_window.specs.declared.stamps.Stamp.{Stamp}
use Rattle.cd_window.specs.declared.waiter.Waiter.{Waiter}
use Rattle.cd_window.specs.Waiting.{Waits, stamped_waits, waits_still, agrees_with, Rises, RisesTo, AreRising, CameBefore, AllBefore, NoneBefore, but_at, agreeing}
use Rattle.cd_window.specs.Lists.{waits_in_slot, earlier_slot}
use Rattle.cd_window.proofs.Closing.{open_parts, open_from}
use Rattle.cd_window.proofs.Sublists.{first_is}

pub rises_filter : (p : Waits → Bool) (x : Waits) (xs : List Waits) → RisesTo x xs → RisesTo x (filter p xs)
rises_filter p x [] h = h
rises_filter p x (y ∷ ys) h = elim (cases_Bool (p y)) [
  | inl e ↦ rw e (h.0, rises_filter p x ys h.1)
  | inr e ↦ rw e (rises_filter p x ys h.1)
]

pub rising_filter : (p : Waits → Bool) (xs : List Waits) → AreRising xs → AreRising (filter p xs)
rising_filter p [] h = h
rising_filter p (x ∷ xs) h = elim (cases_Bool (p x)) [
  | inl e ↦ rw e (rises_filter p x xs h.0, rising_filter p xs h.1)
  | inr e ↦ rw e (rising_filter p xs h.1)
]

pub before_filter : (p : Waits → Bool) (i c s : ℕ) (xs : List Waits) → AllBefore i c s xs → AllBefore i c s (filter p xs)
before_filter p i c s [] h = h
before_filter p i c s (x ∷ xs) h = elim (cases_Bool (p x)) [
  | inl e ↦ rw e (h.0, before_filter p i c s xs h.1)
  | inr e ↦ rw e (before_filter p i c s xs h.1)
]

pub before_later : (i c s i' c' s' : ℕ) (xs : List Waits) → i ≤ i' → c ≤ c' → s ≤ s' → AllBefore i c s xs → AllBefore i' c' s' xs
before_later i c s i' c' s' [] hi hc hs h = h
before_later i c s i' c' s' (x ∷ xs) hi hc hs h =
    let a = h.0.position in
    let b = h.0.time in
    let d = h.0.sum in
    (record { position = omega arith; time = omega arith; sum = omega arith }, before_later i c s i' c' s' xs hi hc hs h.1)

-- one event more, after all others
pub rises_push : (x y : Waits) (xs : List Waits) → RisesTo x xs → Rises x y → RisesTo x (xs ++ y ∷ [])
rises_push x y [] h r = (r, tt)
rises_push x y (z ∷ zs) h r = (h.0, rises_push x y zs h.1 r)

pub rising_push : (y : Waits) (i c s : ℕ) (xs : List Waits) → i ≤ y.index → c ≤ y.clock → s + y.weight ≤ y.weight_sum → AllBefore i c s xs → AreRising xs → AreRising (xs ++ y ∷ [])
rising_push y i c s [] hi hc hs b h = (tt, tt)
rising_push y i c s (x ∷ xs) hi hc hs b h =
    let p = b.0.position in
    let t = b.0.time in
    let u = b.0.sum in
    (rises_push x y xs h.0 (record { position = omega arith; time = omega arith; sum = omega arith }), rising_push y i c s xs hi hc hs b.1 h.1)

pub before_push : (y : Waits) (i c s : ℕ) (xs : List Waits) → AllBefore i c s xs → CameBefore i c s y → AllBefore i c s (xs ++ y ∷ [])
before_push y i c s [] b h = (h, tt)
before_push y i c s (x ∷ xs) b h = (b.0, before_push y i c s xs b.1 h)

-- a later event waits longer
pub still_later : (windows : Windows) (side : Side) (now : Stamp) (x y : Waits) → Rises x y → CameBefore now.index now.clock now.weight_sum y → waits_still windows side now x ≡ true → waits_still windows side now y ≡ true
still_later windows side now x y R B h =
    let W = open_parts windows now.index now.clock now.weight_sum (stamped_waits side x) h in
    let near : now.index - x.index < windows.count = W.near in
    let time : now.clock - x.clock ≤ timeout windows side = W.time in
    let light : now.weight_sum - x.weight_sum + x.weight + LEAST_WEIGHT ≤ windows.bytes = W.light in
    let p = R.position in
    let t = R.time in
    let s = R.sum in
    let bs = B.sum in
    open_from windows now.index now.clock now.weight_sum (stamped_waits side y) (record {
      near = let g : now.index - y.index < windows.count = omega arith in g;
      time = let g : now.clock - y.clock ≤ timeout windows side = omega arith in g;
      light = let g : now.weight_sum - y.weight_sum + y.weight + LEAST_WEIGHT ≤ windows.bytes = omega arith in g;
    })

-- where the first waits still, all do
all_still : (windows : Windows) (side : Side) (now : Stamp) (x : Waits) (xs : List Waits) → RisesTo x xs → AllBefore now.index now.clock now.weight_sum xs → waits_still windows side now x ≡ true → filter (waits_still windows side now) xs ≡ xs
all_still windows side now x [] r b h = refl
all_still windows side now x (y ∷ ys) r b h = rw (still_later windows side now x y r.0 b.0 h) (ap (λ (zs : List Waits). y ∷ zs) (all_still windows side now x ys r.1 b.1 h))

pub front_still : (windows : Windows) (side : Side) (now : Stamp) (xs : List Waits) → AreRising xs → AllBefore now.index now.clock now.weight_sum xs → ((x : Waits) → slice_get xs 0 ≡ Some x → waits_still windows side now x ≡ true) → filter (waits_still windows side now) xs ≡ xs
front_still windows side now [] r b h = refl
front_still windows side now (x ∷ xs) r b h =
    let e : waits_still windows side now x ≡ true = h x refl in
    rw e (ap (λ (zs : List Waits). x ∷ zs) (all_still windows side now x xs r.0 b.1 e))

-- no event stands at a position that all come after
pub but_none : (i : ℕ) (xs : List Waits) → NoneBefore (i + 1) xs → but_at i xs ≡ xs
but_none i [] h = refl
but_none i (x ∷ xs) h =
    let a = h.0 in
    let e : eqb x.index i ≡ false = ne_eqb x.index i (λ q. omega arith) in
    rw e (ap (λ (zs : List Waits). x ∷ zs) (but_none i xs h.1))

pub none_before_rises : (i : ℕ) (x : Waits) (xs : List Waits) → RisesTo x xs → i ≤ x.index → NoneBefore (i + 1) xs
none_before_rises i x [] r h = tt
none_before_rises i x (y ∷ ys) r h = let a = r.0.position in (omega arith, none_before_rises i x ys r.1 h)

-- without the first, which stands at this position
pub but_front : (i : ℕ) (x : Waits) (xs : List Waits) → AreRising (x ∷ xs) → x.index ≡ i → but_at i (x ∷ xs) ≡ xs
but_front i x xs r e = rw (eq-eqb x.index i e) (but_none i xs (none_before_rises i x xs r.0 (omega arith)))

-- where the first stands at another position, and none before this one, none stands at this one
pub but_other : (i : ℕ) (xs : List Waits) → AreRising xs → NoneBefore i xs → ((x : Waits) → slice_get xs 0 ≡ Some x → x.index ≡ i → ⊥) → but_at i xs ≡ xs
but_other i [] r n h = refl
but_other i (x ∷ xs) r n h =
    let a = n.0 in
    let ne = h x refl in
    but_none i (x ∷ xs) (omega arith, none_before_rises i x xs r.0 (omega arith))

in_rises : (f : ℕ → Waits) (x : Waits) (ss : List ℕ) (s : ℕ) → RisesTo x (map f ss) → is_in s ss ≡ true → x.index < (f s).index
in_rises f x [] s r i = absurd (true≢false (sym i))
in_rises f x (t ∷ ts) s r i = elim (cases_Bool (eqb s t)) [
  | inl e ↦ let same : (f t).index ≡ (f s).index = ap (λ (u : ℕ). (f u).index) (sym (eqb-true s t e)) in let a = r.0.position in omega arith
  | inr e ↦ in_rises f x ts s r.1 (rw e at i)
]

-- without one slot, all but what stands at its position are left
pub gone_waits : (f g : ℕ → Waits) (s : ℕ) (ss : List ℕ) → is_in s ss ≡ true → AreRising (map f ss) → ((t : ℕ) → (t ≡ s → ⊥) → g t ≡ f t) → map g (without s ss) ≡ but_at (f s).index (map f ss)
gone_waits f g s [] i r h = absurd (true≢false (sym i))
gone_waits f g s (t ∷ ts) i r h = elim (cases_Bool (eqb s t)) [
  | inl e ↦
      let same : s ≡ t = eqb-true s t e in
      let out : is_in s ts ≡ false = false_from_ne_true (is_in s ts) (λ j.
      let a = in_rises f (f t) ts s r.0 j in
      let b : (f t).index ≡ (f s).index = ap (λ (u : ℕ). (f u).index) (sym same) in
      omega arith) in
      let kept : map g ts ≡ map f ts = others ts out in
      let b : (f t).index ≡ (f s).index = ap (λ (u : ℕ). (f u).index) (sym same) in
      rw e (ap (map g) (without_none s ts out) ∙ kept ∙ sym (but_front (f s).index (f t) (map f ts) r b))
  | inr e ↦
      let j : is_in s ts ≡ true = rw e at i in
      let a = in_rises f (f t) ts s r.0 j in
      let ne : eqb (f t).index (f s).index ≡ false = ne_eqb (f t).index (f s).index (λ q. omega arith) in
      let c : g t ≡ f t = h t (λ q. true≢false (sym (eq-eqb s t (sym q)) ∙ e)) in
      let d = gone_waits f g s ts j r.1 h in
      rw (e, ne) (ap (λ (y : Waits). y ∷ map g (without s ts)) c ∙ ap (λ (ys : List Waits). f t ∷ ys) d)
]
  where
    others : (us : List ℕ) → is_in s us ≡ false → map g us ≡ map f us
    others [] out = refl
    others (u ∷ us) out = elim (cases_Bool (eqb s u)) [
      | inl e ↦ absurd (true≢false (sym (rw e refl) ∙ out))
      | inr e ↦
          let a : g u ≡ f u = h u (λ q. true≢false (sym (eq-eqb s u (sym q)) ∙ e)) in
          let later : is_in s us ≡ false = rw e at out in
          let b = others us later in
          cc
    ]

pub filter_map_is : (p : Waits → Bool) (f : ℕ → Waits) (ss : List ℕ) → filter p (map f ss) ≡ map f (filter (λ s. p (f s)) ss)
filter_map_is p f [] = refl
filter_map_is p f (s ∷ ss) = elim (cases_Bool (p (f s))) [
  | inl e ↦ rw e (ap (λ (ys : List Waits). f s ∷ ys) (filter_map_is p f ss))
  | inr e ↦ rw e (filter_map_is p f ss)
]

-- the first that agrees is that of the first slot whose event does
pub agreeing_slot : (a : Waits) (f : ℕ → Waits) (ss : List ℕ) (o : Option ℕ) → o ≡ slice_get (filter (λ s. agrees_with a (f s)) ss) 0 → agreeing a (map f ss) ≡ option_map (λ s. (f s).index) o
agreeing_slot a f ss o e =
    ap (λ (xs : List Waits). option_map (λ x. x.index) (slice_get xs 0)) (filter_map_is (agrees_with a) f ss)
    ∙ by (filter (λ s. agrees_with a (f s)) ss)
    ∙ ap (option_map (λ s. (f s).index)) (sym e)
  where
    by : (ts : List ℕ) → option_map (λ x. x.index) (slice_get (map f ts) 0) ≡ option_map (λ s. (f s).index) (slice_get ts 0)
    by [] = refl
    by (t ∷ ts) = refl

-- of two slots that pass tests of their own, the one whose event came first is the first that passes either
pub first_either : (it : Contents Waiter) (p q : ℕ → Bool) (ss : List ℕ) → AreRising (map (waits_in_slot it) ss) → slice_get (filter (λ s. p s || q s) ss) 0 ≡ earlier_slot it (slice_get (filter p ss) 0) (slice_get (filter q ss) 0)
first_either it p q [] r = refl
first_either it p q (s ∷ ss) r = elim (cases_Bool (p s)) [
  | inl e ↦ elim (cases_Bool (q s)) [
    | inl g ↦ rw (e, g) (sym (rw (le-leb (waits_in_slot it s).index (waits_in_slot it s).index (omega arith)) refl))
    | inr g ↦ rw (e, g) (sym (first (slice_get (filter q ss) 0) refl))
  ]
  | inr e ↦ elim (cases_Bool (q s)) [
    | inl g ↦ rw (e, g) (sym (second (slice_get (filter p ss) 0) refl))
    | inr g ↦ rw (e, g) (first_either it p q ss r.1)
  ]
]
  where
    first : (o : Option ℕ) → o ≡ slice_get (filter q ss) 0 → earlier_slot it (Some s) o ≡ Some s
    first None e = refl
    first (Some t) e =
        let i = (first_is q ss t (sym e)).0 in
        let a = in_rises (waits_in_slot it) (waits_in_slot it s) ss t r.0 i in
        rw (le-leb (waits_in_slot it s).index (waits_in_slot it t).index (omega arith)) refl

    second : (o : Option ℕ) → o ≡ slice_get (filter p ss) 0 → earlier_slot it o (Some s) ≡ Some s
    second None e = refl
    second (Some t) e =
        let i = (first_is p ss t (sym e)).0 in
        let a = in_rises (waits_in_slot it) (waits_in_slot it s) ss t r.0 i in
        rw (lt-leb (waits_in_slot it t).index (waits_in_slot it s).index a) refl
