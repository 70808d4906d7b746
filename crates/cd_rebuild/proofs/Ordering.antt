-- Packets in the order of their times: there is one such order.
use Rattle.std.proofs.Common.{◌≡◌, ℕ, zero, suc, ◌+◌, ◌<◌, ◌≤◌, Bool, true, false, cond, not, ◌&&◌, nat_eq, List, [], ◌∷◌, map, length, get_or, drop, refl, sym, ap, ◌∙◌, subst, arith, inl, inr, le_antisymm}
use Rattle.std.specs.Prelude.{nat_le, filter}
use Rattle.std.specs.List.{AllByRecursion}
use Rattle.std.specs.List.Sorted.{IsPermutation, IsNonDecreasingBy, IsStableByKey}
use Rattle.std.specs.Ordering.{nat_cmp, is_lt}
use Rattle.std.proofs.lemmas.List.Elements.{filter_agree}
use Rattle.std.proofs.lemmas.Bool.{cases_Bool, cases_order, eqb-true, eq-eqb, ne_eqb, leb-true, leb-false, lt-ltb, le-ltb, true≢false}
use Rattle.std.proofs.lemmas.List.Sorted.{IsPermutation-refl, IsPermutation-sym, IsPermutation-cons, IsPermutation-middle, IsPermutation-trans}
use Rattle.cd_rebuild.specs.Laws.{of_time, IsInOrder, OneOrder}
use Rattle.cd_rebuild.specs.Order.{put_by_time, by_time}
use Rattle.cd_rebuild.specs.declared.rebuilt_block.Raw.{Raw}

-- a packet is not earlier than a time
abbrev From : ℕ → Raw → Type 0
From t p = t ≤ p.time

-- no packet is earlier than one before it
abbrev Ascends : List Raw → Type 0
Ascends [] = Unit {0}
Ascends (p ∷ more) = AllByRecursion (From p.time) more × Ascends more

-- what is not earlier than a time is not earlier than an earlier one
from_earlier : (s t : ℕ) (ps : List Raw) → s ≤ t → AllByRecursion (From t) ps → AllByRecursion (From s) ps
from_earlier s t [] le all = tt
from_earlier s t (p ∷ ps) le all = (omega (arith, le, all.0), from_earlier s t ps le all.1)

-- one that is put among packets from a time on
put_from : (t : ℕ) (p : Raw) (ps : List Raw) → t ≤ p.time → AllByRecursion (From t) ps → AllByRecursion (From t) (put_by_time p ps)
put_from t p [] le all = (le, tt)
put_from t p (q ∷ ps) le all = elim (nat_le p.time q.time) as (λ b. AllByRecursion (From t) (cond b (p ∷ q ∷ ps) (q ∷ put_by_time p ps))) [
  | true ↦ (le, all)
  | false ↦ (all.0, put_from t p ps le all.1)
]

-- the choice that put_by_time makes
put_ascends_by : (p q : Raw) (ps : List Raw) (b : Bool) → nat_le p.time q.time ≡ b → Ascends (q ∷ ps) → Ascends (put_by_time p ps) →
    Ascends (cond b (p ∷ q ∷ ps) (q ∷ put_by_time p ps))
put_ascends_by p q ps true is up rest =
    let le : p.time ≤ q.time = leb-true p.time q.time is in ((le, from_earlier p.time q.time ps le up.0), up)
put_ascends_by p q ps false is up rest =
    let lt : q.time < p.time = leb-false p.time q.time is in (put_from q.time p ps (omega (arith, lt)) up.0, rest)

-- packets that ascend do so with one more put among them
put_ascends : (p : Raw) (ps : List Raw) → Ascends ps → Ascends (put_by_time p ps)
put_ascends p [] up = (tt, tt)
put_ascends p (q ∷ ps) up = put_ascends_by p q ps (nat_le p.time q.time) refl up (put_ascends p ps up.1)

-- what is put in order ascends
by_time_ascends : (ps : List Raw) → Ascends (by_time ps)
by_time_ascends [] = tt
by_time_ascends (p ∷ ps) = put_ascends p (by_time ps) (by_time_ascends ps)

-- two choices in either order, of which not both are taken
either_order : (a b : Bool) (p q : Raw) (ps : List Raw) → (a ≡ true → b ≡ true → ⊥) →
    cond b (q ∷ cond a (p ∷ ps) ps) (cond a (p ∷ ps) ps) ≡ cond a (p ∷ cond b (q ∷ ps) ps) (cond b (q ∷ ps) ps)
either_order true true p q ps not_both = absurd (not_both refl refl)
either_order true false p q ps not_both = refl
either_order false true p q ps not_both = refl
either_order false false p q ps not_both = refl

-- the packets of one time stay as they stood: by the choice that is made
put_same_by : (t : ℕ) (p q : Raw) (ps : List Raw) (b : Bool) → nat_le p.time q.time ≡ b → of_time t (put_by_time p ps) ≡ of_time t (p ∷ ps) →
    of_time t (cond b (p ∷ q ∷ ps) (q ∷ put_by_time p ps)) ≡ of_time t (p ∷ q ∷ ps)
put_same_by t p q ps true is rest = refl
put_same_by t p q ps false is rest =
    let lt : q.time < p.time = leb-false p.time q.time is in
    let not_both : nat_eq p.time t ≡ true → nat_eq q.time t ≡ true → ⊥ =
    λ e f. (let x : p.time ≡ t = eqb-true p.time t e in let y : q.time ≡ t = eqb-true q.time t f in absurd (omega (arith, lt, x, y))) in
    ap (λ xs. cond (nat_eq q.time t) (q ∷ xs) xs) rest ∙ either_order (nat_eq p.time t) (nat_eq q.time t) p q (of_time t ps) not_both

-- the packets of one time stay as they stood, with one more put among them
put_same : (t : ℕ) (p : Raw) (ps : List Raw) → of_time t (put_by_time p ps) ≡ of_time t (p ∷ ps)
put_same t p [] = refl
put_same t p (q ∷ ps) = put_same_by t p q ps (nat_le p.time q.time) refl (put_same t p ps)

-- the packets of one time stay as they stood
by_time_same : (t : ℕ) (ps : List Raw) → of_time t (by_time ps) ≡ of_time t ps
by_time_same t [] = refl
by_time_same t (p ∷ ps) = put_same t p (by_time ps) ∙ ap (λ xs. cond (nat_eq p.time t) (p ∷ xs) xs) (by_time_same t ps)

-- no packet of a time stands among later ones
none_of : (t : ℕ) (ps : List Raw) (s : ℕ) → t < s → AllByRecursion (From s) ps → of_time t ps ≡ []
none_of t [] s lt all = refl
none_of t (p ∷ ps) s lt all =
    let other : nat_eq p.time t ≡ false = ne_eqb p.time t (λ e. absurd (omega (arith, lt, all.0, e))) in
    rw other (none_of t ps s lt all.1)

-- a packet is among those of its own time
own_time : (p : Raw) (ps : List Raw) → of_time p.time (p ∷ ps) ≡ p ∷ of_time p.time ps
own_time p ps = ap (λ b. cond b (p ∷ of_time p.time ps) (of_time p.time ps)) (eq-eqb p.time p.time refl)

-- no list with an element is empty
cons_nil : (p : Raw) (ps : List Raw) → p ∷ ps ≡ [] → ⊥
cons_nil p ps e = absurd cc

-- where packets that ascend have one of a time, the first is not later
first_not_later : (p q : Raw) (ps qs : List Raw) → Ascends (q ∷ qs) → of_time p.time (p ∷ ps) ≡ of_time p.time (q ∷ qs) → q.time ≤ p.time
first_not_later p q ps qs up same = elim (cases_Bool (nat_le q.time p.time)) [
  | inl le ↦ leb-true q.time p.time le
  | inr gt ↦ (
      let lt : p.time < q.time = leb-false q.time p.time gt in
      let none : of_time p.time (q ∷ qs) ≡ [] = none_of p.time (q ∷ qs) q.time lt (omega arith, up.0) in
      absurd (cons_nil p (of_time p.time ps) (sym (own_time p ps) ∙ same ∙ none)))
]

-- what is left after the first of two lists whose choices are alike
rest_alike : (a b : Bool) (p q : Raw) (ps qs : List Raw) → a ≡ b → cond a (p ∷ ps) ps ≡ cond b (q ∷ qs) qs → ps ≡ qs
rest_alike true true p q ps qs alike e = ap (drop 1) e
rest_alike true false p q ps qs alike e = absurd (true≢false alike)
rest_alike false true p q ps qs alike e = absurd (true≢false (sym alike))
rest_alike false false p q ps qs alike e = e

-- Packets that ascend, and of each time are the same, are the same.
pub one_list : (ps qs : List Raw) → Ascends ps → Ascends qs → ((t : ℕ) → of_time t ps ≡ of_time t qs) → ps ≡ qs
one_list [] [] up1 up2 same = refl
one_list [] (q ∷ qs) up1 up2 same = absurd (cons_nil q (of_time q.time qs) (sym (own_time q qs) ∙ sym (same q.time)))
one_list (p ∷ ps) [] up1 up2 same = absurd (cons_nil p (of_time p.time ps) (sym (own_time p ps) ∙ same p.time))
one_list (p ∷ ps) (q ∷ qs) up1 up2 same =
    let one : q.time ≤ p.time = first_not_later p q ps qs up2 (same p.time) in
    let two : p.time ≤ q.time = first_not_later q p qs ps up1 (sym (same q.time)) in
    let times : p.time ≡ q.time = le_antisymm two one in
    let own : of_time p.time (q ∷ qs) ≡ q ∷ of_time p.time qs = ap (λ b. cond b (q ∷ of_time p.time qs) (of_time p.time qs)) (eq-eqb q.time p.time (sym times)) in
    let heads : p ∷ of_time p.time ps ≡ q ∷ of_time p.time qs = sym (own_time p ps) ∙ same p.time ∙ own in
    let first : p ≡ q = ap (λ xs. get_or xs 0 p) heads in
    let rest : ps ≡ qs = one_list ps qs up1.1 up2.1
    (λ t. rest_alike (nat_eq p.time t) (nat_eq q.time t) p q (of_time t ps) (of_time t qs) (ap (λ n. nat_eq n t) times) (same t)) in
    ap (λ x. x ∷ ps) first ∙ ap (λ xs. q ∷ xs) rest

-- each element of a list, by its index
all_at : (P : Raw → Type 0) (ps : List Raw) → ((k : ℕ) (d : Raw) → k < length ps → P (get_or ps k d)) → AllByRecursion P ps
all_at P [] each = tt
all_at P (p ∷ ps) each = (each 0 p (omega arith), all_at P ps (λ k d lt. each (suc k) d (omega (arith, lt))))

-- packets whose times do not fall ascend
pub from_non_decreasing : (ps : List Raw) → IsNonDecreasingBy (λ (p : Raw). p.time) ps → Ascends ps
from_non_decreasing [] up = tt
from_non_decreasing (p ∷ ps) up = (
  all_at (From p.time) ps (λ k d lt. up 0 (suc k) d (omega arith) (omega (arith, lt))),
  from_non_decreasing ps (λ i j d le lt. up (suc i) (suc j) d (omega (arith, le)) (omega (arith, lt))),
)

-- packets in order are by time
pub in_order_by_time : (before after : List Raw) → IsNonDecreasingBy (λ (p : Raw). p.time) after → ((t : ℕ) → of_time t after ≡ of_time t before) →
    after ≡ by_time before
in_order_by_time before after up same =
    one_list after (by_time before) (from_non_decreasing after up) (by_time_ascends before) (λ t. same t ∙ sym (by_time_same t before))

-- an element of a list whose elements all are so
at_each : (P : Raw → Type 0) (ps : List Raw) (k : ℕ) (d : Raw) → k < length ps → AllByRecursion P ps → P (get_or ps k d)
at_each P [] k d lt all = absurd (omega (arith, lt))
at_each P (p ∷ ps) zero d lt all = all.0
at_each P (p ∷ ps) (suc k) d lt all = at_each P ps k d (omega (arith, lt)) all.1

-- the times of packets that ascend do not fall
to_non_decreasing : (ps : List Raw) → Ascends ps → IsNonDecreasingBy (λ (p : Raw). p.time) ps
to_non_decreasing [] up i j d le lt = absurd (omega (arith, lt))
to_non_decreasing (p ∷ ps) up zero zero d le lt = omega arith
to_non_decreasing (p ∷ ps) up zero (suc j) d le lt = at_each (From p.time) ps j d (omega (arith, lt)) up.0
to_non_decreasing (p ∷ ps) up (suc i) zero d le lt = absurd (omega (arith, le))
to_non_decreasing (p ∷ ps) up (suc i) (suc j) d le lt = to_non_decreasing ps up.1 i j d (omega (arith, le)) (omega (arith, lt))

-- a packet that is put among others goes to another place, and nothing else changes
put_moves : (p : Raw) (ps : List Raw) → IsPermutation (p ∷ ps) (put_by_time p ps)
put_moves p [] = IsPermutation-refl (p ∷ [])
put_moves p (q ∷ ps) = elim (nat_le p.time q.time) as (λ b. IsPermutation (p ∷ q ∷ ps) (cond b (p ∷ q ∷ ps) (q ∷ put_by_time p ps))) [
  | true ↦ IsPermutation-refl (p ∷ q ∷ ps)
  | false ↦ (
      let swapped : IsPermutation (p ∷ q ∷ ps) (q ∷ p ∷ ps) = IsPermutation-sym (q ∷ p ∷ ps) (p ∷ q ∷ ps) (IsPermutation-middle (q ∷ []) p ps) in
      IsPermutation-trans (p ∷ q ∷ ps) (q ∷ p ∷ ps) (q ∷ put_by_time p ps) swapped (IsPermutation-cons q (p ∷ ps) (put_by_time p ps) (put_moves p ps)))
]

-- packets that are put in order only change their places
pub by_time_moves : (ps : List Raw) → IsPermutation ps (by_time ps)
by_time_moves [] = IsPermutation-refl []
by_time_moves (p ∷ ps) =
    IsPermutation-trans (p ∷ ps) (p ∷ by_time ps) (put_by_time p (by_time ps)) (IsPermutation-cons p ps (by_time ps) (by_time_moves ps)) (put_moves p (by_time ps))

-- there is one order by time
pub one_order : OneOrder
one_order = record {
  is = λ packets. record { all = by_time_moves packets; times = to_non_decreasing (by_time packets) (by_time_ascends packets); same_time = λ t. by_time_same t packets };
  one = λ before after order. in_order_by_time before after order.times order.same_time;
}

-- neither of two numbers is below the other exactly where they are equal
ties_where_equal : (t n : ℕ) → nat_eq n t ≡ (not (is_lt (nat_cmp t n)) && not (is_lt (nat_cmp n t)))
ties_where_equal t n = elim (cases_order t n) [
  | inl same ↦ rw (eq-eqb n t (sym same), le-ltb t n (omega (arith, same)), le-ltb n t (omega (arith, same)), eq-eqb t n same) refl
  | inr (inl below) ↦ rw (ne_eqb n t (λ e. absurd (omega (arith, below, e))), lt-ltb t n below) refl
  | inr (inr above) ↦ rw (ne_eqb n t (λ e. absurd (omega (arith, above, e))), le-ltb t n (omega (arith, above)), ne_eqb t n (λ e. absurd (omega (arith, above, e))), lt-ltb n t above) refl
]

-- a stable sort by time keeps the packets of one time as they stood
pub stable_same_time : (before after : List Raw) → IsStableByKey (λ (p : Raw). p.time) nat_cmp before after → (t : ℕ) → of_time t after ≡ of_time t before
stable_same_time before after stable t =
    let tied : Raw → Bool = λ p. not (is_lt (nat_cmp t p.time)) && not (is_lt (nat_cmp p.time t)) in
    let alike : (ps : List Raw) → of_time t ps ≡ filter tied ps = λ ps. filter_agree (λ (p : Raw). nat_eq p.time t) tied (λ p. ties_where_equal t p.time) ps in
    alike after ∙ stable (record { time = t; bytes = [] }) ∙ sym (alike before)
