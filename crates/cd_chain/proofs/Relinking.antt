-- How changes of single lanes make a change of all lanes.
use Rattle.std.proofs.Common.{◌≡◌, ℕ, false, eqb, List, [], Option, Some, None, refl, ap, sym, ◌∙◌, subst, arith, inl, inr}
use Rattle.std.proofs.lemmas.Bool.{cases_Bool, eqb-true, eq-eqb, ne_eqb, cases_eq}
use Rattle.cd_chain.specs.declared.link.Link.{Link}
use Rattle.cd_chain.specs.declared.lane.Row.{Row}
use Rattle.cd_chain.specs.declared.lane.Lanes.{Lanes}
use Rattle.cd_chain.specs.Lanes.{row_at, rows_in}
use Rattle.cd_chain.specs.declared.slot.Slot.{Slot}
use Rattle.cd_chain.specs.Links.{link_in}
use Rattle.cd_chain.specs.Lists.{list_of, AreLists, Relinked, Relinks, in_lane, gone_from, put_last_in}

-- nothing changes
pub unchanged : (at : ℕ → Link) (n s : ℕ) (rows : List Row) → AreLists at n rows → Relinked at at n s rows rows (λ j o. o)
unchanged at n s rows A = record { lists = A; changed = λ j. refl; numbers = refl; others = λ t ne. refl }

pub with_change : (at at' : ℕ → Link) (n s : ℕ) (rows rows' : List Row) (change change' : ℕ → Option (List ℕ) → Option (List ℕ)) → ((j : ℕ) (o : Option (List ℕ)) → change j o ≡ change' j o) →
    Relinked at at' n s rows rows' change → Relinked at at' n s rows rows' change'
with_change at at' n s rows rows' change change' h R = record {
  lists = R.lists;
  changed = λ j. R.changed j ∙ h j (list_of at n (row_at rows j));
  numbers = R.numbers;
  others = R.others;
}

chain : (at at1 at2 : ℕ → Link) (n s : ℕ) (rows rows1 rows2 : List Row) (f g : ℕ → Option (List ℕ) → Option (List ℕ)) → Relinked at at1 n s rows rows1 f → Relinked at1 at2 n s rows1 rows2 g → Relinked at at2 n s rows rows2 (λ j o. g j (f j o))
chain at at1 at2 n s rows rows1 rows2 f g R S = record {
  lists = S.lists;
  changed = λ j. S.changed j ∙ ap (g j) (R.changed j);
  numbers = S.numbers ∙ R.numbers;
  others = λ t ne. S.others t ne ∙ R.others t ne;
}

-- one lane changes, and the others stay
pub in_one : (at at' : ℕ → ℕ → Link) (n s lane : ℕ) (rows rows' : ℕ → List Row) (change : ℕ → Option (List ℕ) → Option (List ℕ)) → ((l : ℕ) → AreLists (at l) n (rows l)) →
    Relinked (at lane) (at' lane) n s (rows lane) (rows' lane) change → ((l : ℕ) → (l ≡ lane → ⊥) → at' l ≡ at l) → ((l : ℕ) → (l ≡ lane → ⊥) → rows' l ≡ rows l) → Relinks at at' n s rows rows' (in_lane lane change)
in_one at at' n s lane rows rows' change A R links lists l = elim (cases_eq l lane) [
  | inl q ↦ subst (λ (x : ℕ). Relinked (at x) (at' x) n s (rows x) (rows' x) (in_lane lane change x)) (sym q)
      (with_change (at lane) (at' lane) n s (rows lane) (rows' lane) change (in_lane lane change lane) (λ j o. rw (eq-eqb lane lane refl) refl) R)
  | inr ne ↦ subst (λ (a : ℕ → Link). Relinked (at l) a n s (rows l) (rows' l) (in_lane lane change l)) (sym (links l ne))
      (subst (λ (rs : List Row). Relinked (at l) (at l) n s (rows l) rs (in_lane lane change l)) (sym (lists l ne))
      (with_change (at l) (at l) n s (rows l) (rows l) (λ j o. o) (in_lane lane change l) (λ j o. rw (ne_eqb l lane ne) refl) (unchanged (at l) n s (rows l) (A l))))
]

-- one lane is left as it is
pub in_none : (at at' : ℕ → ℕ → Link) (n s lane : ℕ) (rows rows' : ℕ → List Row) (change : ℕ → Option (List ℕ) → Option (List ℕ)) → ((l : ℕ) → AreLists (at l) n (rows l)) →
    Relinked (at lane) (at lane) n s (rows lane) (rows lane) change → Relinks at at n s rows rows (in_lane lane change)
in_none at at' n s lane rows rows' change A R = in_one at at n s lane rows rows change A R (λ l ne. refl) (λ l ne. refl)

-- there is no fourth lane
pub no_rows : (lanes : Lanes) (l : ℕ) → eqb l 0 ≡ false → eqb l 1 ≡ false → eqb l 2 ≡ false → rows_in lanes l ≡ []
no_rows lanes l a b c = rw (a, b, c) refl

-- the three lanes in turn
pub three : (at at1 at2 at3 : ℕ → ℕ → Link) (n s : ℕ) (lanes lanes1 lanes2 lanes3 : Lanes) (g : ℕ → ℕ → Option (List ℕ) → Option (List ℕ)) → ((l j : ℕ) → g l j None ≡ None) →
    Relinks at at1 n s (rows_in lanes) (rows_in lanes1) (in_lane 0 (g 0)) → Relinks at1 at2 n s (rows_in lanes1) (rows_in lanes2) (in_lane 1 (g 1)) → Relinks at2 at3 n s (rows_in lanes2) (rows_in lanes3) (in_lane 2 (g 2)) →
    Relinks at at3 n s (rows_in lanes) (rows_in lanes3) g
three at at1 at2 at3 n s lanes lanes1 lanes2 lanes3 g none R0 R1 R2 l =
    let R : (l : ℕ) → Relinked (at l) (at3 l) n s (rows_in lanes l) (rows_in lanes3 l) (λ j o. in_lane 2 (g 2) l j (in_lane 1 (g 1) l j (in_lane 0 (g 0) l j o))) =
    λ l. chain (at l) (at2 l) (at3 l) n s (rows_in lanes l) (rows_in lanes2 l) (rows_in lanes3 l) (λ j o. in_lane 1 (g 1) l j (in_lane 0 (g 0) l j o)) (in_lane 2 (g 2) l)
    (chain (at l) (at1 l) (at2 l) n s (rows_in lanes l) (rows_in lanes1 l) (rows_in lanes2 l) (in_lane 0 (g 0) l) (in_lane 1 (g 1) l) (R0 l) (R1 l)) (R2 l) in
    let P : ℕ → Type 0 = λ x. Relinked (at x) (at3 x) n s (rows_in lanes x) (rows_in lanes3 x) (g x) in
    elim (cases_Bool (eqb l 0)) [
      | inl a ↦ subst P (sym (eqb-true l 0 a)) (R 0)
      | inr a ↦ elim (cases_Bool (eqb l 1)) [
        | inl b ↦ subst P (sym (eqb-true l 1 b)) (R 1)
        | inr b ↦ elim (cases_Bool (eqb l 2)) [
          | inl c ↦ subst P (sym (eqb-true l 2 c)) (R 2)
          | inr c ↦
              let r : rows_in lanes l ≡ [] = no_rows lanes l a b c in
              let r3 : rows_in lanes3 l ≡ [] = no_rows lanes3 l a b c in
              record {
                lists = (R l).lists;
                changed = λ j. ap (λ (rs : List Row). list_of (at3 l) n (row_at rs j)) r3 ∙ sym (none l j) ∙ ap (λ (rs : List Row). g l j (list_of (at l) n (row_at rs j))) (sym r);
                numbers = (R l).numbers;
                others = (R l).others;
              }
        ]
      ]
    ]

pub none_gone : (s l j : ℕ) → gone_from s None ≡ None
none_gone s l j = refl

pub none_put : (o : Option ℕ) (s j : ℕ) → put_last_in o s j None ≡ None
none_put None s j = refl
none_put (Some k) s j = refl

-- after the three lanes in turn a slot stands in no list
pub outs : {T : Type 0} (slots slots1 slots2 slots3 : List (Slot T)) (s : ℕ) → (link_in slots1 0 s).list ≡ None → (link_in slots2 1 s).list ≡ None → (link_in slots3 2 s).list ≡ None →
    ((l : ℕ) → (l ≡ 1 → ⊥) → link_in slots2 l ≡ link_in slots1 l) → ((l : ℕ) → (l ≡ 2 → ⊥) → link_in slots3 l ≡ link_in slots2 l) → (l : ℕ) → (link_in slots3 l s).list ≡ None
outs {T} slots slots1 slots2 slots3 s o0 o1 o2 same2 same3 l =
    let P : ℕ → Type 0 = λ x. (link_in slots3 x s).list ≡ None in
    let on : (x : ℕ) → (x ≡ 2 → ⊥) → (link_in slots2 x s).list ≡ None → (link_in slots3 x s).list ≡ None = λ x ne e. ap (λ (a : ℕ → Link). (a s).list) (same3 x ne) ∙ e in
    elim (cases_Bool (eqb l 0)) [
      | inl a ↦ subst P (sym (eqb-true l 0 a)) (on 0 (λ e. omega arith) (ap (λ (a : ℕ → Link). (a s).list) (same2 0 (λ e. omega arith)) ∙ o0))
      | inr a ↦ elim (cases_Bool (eqb l 1)) [
        | inl b ↦ subst P (sym (eqb-true l 1 b)) (on 1 (λ e. omega arith) o1)
        | inr b ↦ elim (cases_Bool (eqb l 2)) [
          | inl c ↦ subst P (sym (eqb-true l 2 c)) o2
          | inr c ↦ rw (a, b, c) refl
        ]
      ]
    ]

-- the bound is another way to say it
pub at_length : (at at' : ℕ → ℕ → Link) (n m s : ℕ) (rows rows' : ℕ → List Row) (change : ℕ → ℕ → Option (List ℕ) → Option (List ℕ)) → n ≡ m → Relinks at at' n s rows rows' change → Relinks at at' m s rows rows' change
at_length at at' n m s rows rows' change e R = subst (λ (x : ℕ). Relinks at at' x s rows rows' change) e R

pub lists_at : (at at' : ℕ → ℕ → Link) (n m s : ℕ) (rows rows' : ℕ → List Row) (change : ℕ → ℕ → Option (List ℕ) → Option (List ℕ)) → n ≡ m → Relinks at at' n s rows rows' change → (l : ℕ) → AreLists (at' l) m (rows' l)
lists_at at at' n m s rows rows' change e R l = subst (λ (x : ℕ). AreLists (at' l) x (rows' l)) e (R l).lists
