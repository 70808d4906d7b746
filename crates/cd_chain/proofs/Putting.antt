-- What is kept when a slot comes last in a list.
use Rattle.std.proofs.Common.{◌≡◌, ℕ, ◌<◌, true, false, eqb, List, [], ◌∷◌, ◌++◌, length, set, Option, Some, None, refl, ap, sym, ◌∙◌, subst, arith, inl, inr}
use Rattle.std.specs.Prelude.{IfSome}
use Rattle.std.proofs.lemmas.Bool.{cases_Bool, eqb-true, eq-eqb, ne_eqb, both_ways, cases_eq, false_from_ne_true, or_left}
use Rattle.std.proofs.lemmas.Option.{none-some}
use Rattle.std.proofs.lemmas.List.{get_or-set_same, get_or-set_other}
use Rattle.cd_chain.specs.declared.link.Link.{Link}
use Rattle.cd_chain.specs.declared.lane.Ends.{Ends}
use Rattle.cd_chain.specs.declared.lane.Row.{Row}
use Rattle.cd_chain.specs.declared.lane.Row.TheVariants.{There, Free}
use Rattle.cd_chain.specs.Lanes.{row_at}
use Rattle.cd_chain.specs.Cells.{is_in, AreDistinct}
use Rattle.cd_chain.specs.Chains.{IsChain, walked_on, or_else}
use Rattle.cd_chain.specs.Links.{with_link, led_on, linked_last}
use Rattle.cd_chain.specs.Lists.{list_of, InList, IsThere, RowHolds, AreLists, ends_with, put_in, Relinked}
use Rattle.cd_chain.proofs.Linking.{LinkedOn, appended, stays, walked, short, member, is_last, last_ends, last_in, distinct_push}
use Rattle.cd_chain.proofs.Unlinking.{with_here, with_miss, led_hit, led_miss, some_or_not, numbers_kept, list_within}

or_else_some : (s : ℕ) (o : Option ℕ) → (o ≡ None → ⊥) → or_else s o ≡ o
or_else_some s None h = absurd (h refl)
or_else_some s (Some t) h = refl

abbrev new_link : ℕ → Option ℕ → Link
new_link k last = record { list = Some k; before = last; after = None }

abbrev begun : (ℕ → Link) → ℕ → ℕ → Option ℕ → ℕ → Link
begun at s k last = with_link at s (new_link k last)

-- the link of a slot that is not s
kept_link : (at : ℕ → Link) (s k : ℕ) (last : Option ℕ) (t : ℕ) → eqb t s ≡ false → (last ≡ Some t → ⊥) → linked_last at s k last t ≡ at t
kept_link at s k last t ne nl = led_miss (begun at s k last) t last (Some s) nl ∙ with_miss at s t (new_link k last) ne

own_link : (at : ℕ → Link) (s k : ℕ) (last : Option ℕ) → (last ≡ Some s → ⊥) → linked_last at s k last s ≡ new_link k last
own_link at s k last nl = led_miss (begun at s k last) s last (Some s) nl ∙ with_here at s (new_link k last)

list_kept : (at : ℕ → Link) (s k : ℕ) (last : Option ℕ) (t : ℕ) → eqb t s ≡ false → (linked_last at s k last t).list ≡ (at t).list
list_kept at s k last t ne = elim (some_or_not last t) [
  | inl e ↦ ap (λ (x : Link). x.list) (led_hit (begun at s k last) t last (Some s) e) ∙ ap (λ (x : Link). x.list) (with_miss at s t (new_link k last) ne)
  | inr e ↦ ap (λ (x : Link). x.list) (kept_link at s k last t ne e)
]

unlisted : (at : ℕ → Link) (n k s : ℕ) (slots : List ℕ) (f l : Option ℕ) → (at s).list ≡ None → IsChain at n k None slots f l → (t : ℕ) → is_in t slots ≡ true → eqb t s ≡ false
unlisted at n k s slots f l hs c t i = ne_eqb t s (λ e. none-some k (sym hs ∙ ap (λ (x : ℕ). (at x).list) (sym e) ∙ (member at n k None slots f l t i c).list))

not_last : (at : ℕ → Link) (n k s : ℕ) (slots : List ℕ) (f l : Option ℕ) → (at s).list ≡ None → IsChain at n k None slots f l → l ≡ Some s → ⊥
not_last at n k s slots f l hs c e = elim (last_in at n k None slots f l s e c) [
  | inl p ↦ none-some s p
  | inr p ↦ both_ways _ (unlisted at n k s slots f l hs c s p) (eq-eqb s s refl)
]

own_chain : (at : ℕ → Link) (n k s : ℕ) (slots : List ℕ) (f l : Option ℕ) → s < n → (at s).list ≡ None → AreDistinct slots → IsChain at n k None slots f l →
    IsChain (linked_last at s k l) n k None (slots ++ s ∷ []) (or_else s f) (Some s)
own_chain at n k s slots f l lt hs d c =
    let one : ℕ → Link = begun at s k l in
    let mine = own_link at s k l (not_last at n k s slots f l hs c) in
    let on : LinkedOn at (linked_last at s k l) s slots = record {
      list = λ t i. list_kept at s k l t (unlisted at n k s slots f l hs c t i);
      before = λ t i. let ne = unlisted at n k s slots f l hs c t i in elim (some_or_not l t) [
        | inl e ↦ ap (λ (x : Link). x.before) (led_hit one t l (Some s) e) ∙ ap (λ (x : Link). x.before) (with_miss at s t (new_link k l) ne)
        | inr e ↦ ap (λ (x : Link). x.before) (kept_link at s k l t ne e)
      ];
      after = λ t i. let ne = unlisted at n k s slots f l hs c t i in elim (some_or_not l t) [
        | inl e ↦ ap (λ (x : Link). x.after) (led_hit one t l (Some s) e) ∙ sym (ap (or_else s) (last_ends at n k None slots f l t d i e c))
        | inr e ↦ ap (λ (x : Link). x.after) (kept_link at s k l t ne e) ∙ sym (or_else_some s (at t).after (λ a. e (is_last at n k None slots f l t i a c)))
      ];
    } in
    appended at (linked_last at s k l) n k s None slots f l (or_else s f) lt on (ap (λ (x : Link). x.list) mine) (ap (λ (x : Link). x.before) mine) (ap (λ (x : Link). x.after) mine) refl c

record RowPut (at at' : ℕ → Link) (n s k j : ℕ) (row row' : Row) : Type 0 where
  holds : RowHolds at' n j row'
  list : list_of at' n row' ≡ put_in k s j (list_of at n row)

own_row : (at : ℕ → Link) (n k s : ℕ) (e : Ends) → s < n → (at s).list ≡ None → RowHolds at n k (There e) → RowPut at (linked_last at s k e.last) n s k k (There e) (There (ends_with e s))
own_row at n k s e lt hs r =
    let slots : List ℕ = walked_on at n e.first in
    let out : is_in s slots ≡ false = false_from_ne_true _ (λ i. both_ways _ (unlisted at n k s slots e.first e.last hs r.1 s i) (eq-eqb s s refl)) in
    let d : AreDistinct (slots ++ s ∷ []) = distinct_push s slots r.0 out in
    let c = own_chain at n k s slots e.first e.last lt hs r.0 r.1 in
    let w : walked_on (linked_last at s k e.last) n (or_else s e.first) ≡ slots ++ s ∷ [] = walked _ n k None _ _ _ n (short _ n k None _ _ _ d c) c in
    record {
      holds = (subst AreDistinct (sym w) d, subst (λ (xs : List ℕ). IsChain (linked_last at s k e.last) n k None xs (or_else s e.first) (Some s)) (sym w) c);
      list = ap (λ (xs : List ℕ). Some xs) (w ∙ rw (eq-eqb k k refl) refl);
    }

other_row : (at : ℕ → Link) (n s k j : ℕ) (last : Option ℕ) → (at s).list ≡ None → ((t : ℕ) → last ≡ Some t → (at t).list ≡ Some k) → (j ≡ k → ⊥) → (r : Row) → RowHolds at n j r → RowPut at (linked_last at s k last) n s k j r r
other_row at n s k j last hs hl ne (Free next) h = record { holds = tt; list = refl }
other_row at n s k j last hs hl ne (There e) h =
    let slots : List ℕ = walked_on at n e.first in
    let listed : (t : ℕ) → is_in t slots ≡ true → (at t).list ≡ Some j = λ t i. (member at n j None slots e.first e.last t i h.1).list in
    let same : (t : ℕ) → is_in t slots ≡ true → linked_last at s k last t ≡ at t = λ t i. kept_link at s k last t
    (ne_eqb t s (λ x. none-some j (sym hs ∙ ap (λ (y : ℕ). (at y).list) (sym x) ∙ listed t i)))
    (λ x. let both : Some j ≡ Some k = sym (listed t i) ∙ hl t x in ne (cc)) in
    let c = stays at (linked_last at s k last) n n j None slots e.first e.first e.last (omega arith) same refl h.1 in
    let w : walked_on (linked_last at s k last) n e.first ≡ slots = walked _ n j None _ _ _ n (short _ n j None _ _ _ h.0 c) c in
    record {
      holds = (subst AreDistinct (sym w) h.0, subst (λ (xs : List ℕ). IsChain (linked_last at s k last) n j None xs e.first e.last) (sym w) c);
      list = ap (λ (xs : List ℕ). Some xs) (w ∙ rw (ne_eqb j k ne) refl);
    }

row_puts : (at : ℕ → Link) (n s k : ℕ) (rows : List Row) (e : Ends) → k < length rows → s < n → AreLists at n rows → (at s).list ≡ None → row_at rows k ≡ There e → (j : ℕ) →
    RowPut at (linked_last at s k e.last) n s k j (row_at rows j) (row_at (set rows k (There (ends_with e s))) j)
row_puts at n s k rows e lt ls A hs there j =
    let r' : Row = There (ends_with e s) in
    let r : RowHolds at n k (There e) = subst (RowHolds at n k) there (A.each k) in
    let slots : List ℕ = walked_on at n e.first in
    elim (cases_eq j k) [
      | inl q ↦ subst (λ (x : ℕ). RowPut at (linked_last at s k e.last) n s k x (row_at rows x) (row_at (set rows k r') x)) (sym q)
          (subst (λ (x : Row). RowPut at (linked_last at s k e.last) n s k k x (row_at (set rows k r') k)) (sym there)
          (subst (λ (x : Row). RowPut at (linked_last at s k e.last) n s k k (There e) x) (sym (get_or-set_same rows k r' (Free None) lt)) (own_row at n k s e ls hs r)))
      | inr q ↦ subst (λ (x : Row). RowPut at (linked_last at s k e.last) n s k j (row_at rows j) x) (sym (get_or-set_other rows k j r' (Free None) q))
          (other_row at n s k j e.last hs
          (λ t x. elim (last_in at n k None slots e.first e.last t x r.1) [
            | inl p ↦ absurd (none-some t p)
            | inr p ↦ (member at n k None slots e.first e.last t p r.1).list
          ])
          q (row_at rows j) (A.each j))
    ]

in_more : (t : ℕ) (xs ys : List ℕ) → is_in t xs ≡ true → is_in t (xs ++ ys) ≡ true
in_more t [] ys h = absurd (both_ways _ refl h)
in_more t (x ∷ xs) ys h = elim (cases_Bool (eqb t x)) [
  | inl e ↦ or_left (eqb t x) (is_in t (xs ++ ys)) e
  | inr e ↦ rw e (in_more t xs ys (rw e at h))
]

last_is_in : (s : ℕ) (xs : List ℕ) → is_in s (xs ++ s ∷ []) ≡ true
last_is_in s [] = or_left (eqb s s) false (eq-eqb s s refl)
last_is_in s (x ∷ xs) = elim (cases_Bool (eqb s x)) [
  | inl e ↦ or_left (eqb s x) (is_in s (xs ++ s ∷ [])) e
  | inr e ↦ rw e (last_is_in s xs)
]

in_put : (k s j t : ℕ) (o : Option (List ℕ)) → InList o t → InList (put_in k s j o) t
in_put k s j t None i = i
in_put k s j t (Some slots) i = elim (cases_Bool (eqb j k)) [
  | inl q ↦ rw q (in_more t slots (s ∷ []) i)
  | inr q ↦ rw q i
]

puts : (at : ℕ → Link) (n s k : ℕ) (rows : List Row) (e : Ends) → k < length rows → s < n → AreLists at n rows → (at s).list ≡ None → row_at rows k ≡ There e →
    Relinked at (linked_last at s k e.last) n s rows (set rows k (There (ends_with e s))) (put_in k s)
puts at n s k rows e lt ls A hs there =
    let R = row_puts at n s k rows e lt ls A hs there in
    let r : RowHolds at n k (There e) = subst (RowHolds at n k) there (A.each k) in
    let slots : List ℕ = walked_on at n e.first in
    let mine = own_link at s k e.last (not_last at n k s slots e.first e.last hs r.1) in
    record {
      lists = record {
        each = λ j. (R j).holds;
        members = λ t j h. subst (λ (o : Option (List ℕ)). InList o t) (sym (R j).list) (elim (cases_Bool (eqb t s)) [
          | inr w ↦ in_put k s j t (list_of at n (row_at rows j)) (A.members t j (sym (list_kept at s k e.last t w) ∙ h))
          | inl w ↦
              let t_s : t ≡ s = eqb-true t s w in
              let both : Some k ≡ Some j = ap (λ (x : Link). x.list) (sym mine) ∙ ap (λ (y : ℕ). (linked_last at s k e.last y).list) (sym t_s) ∙ h in
              let k_j : k ≡ j = cc in
              subst (λ (m : ℕ). InList (put_in k s m (list_of at n (row_at rows m))) t) k_j
              (subst (λ (x : Row). InList (put_in k s k (list_of at n x)) t) (sym there)
              (rw (eq-eqb k k refl) (subst (λ (m : ℕ). is_in m (slots ++ s ∷ []) ≡ true) (sym t_s) (last_is_in s slots))))
        ]);
      };
      changed = λ j. (R j).list;
      numbers = numbers_kept rows k e (ends_with e s) there;
      others = λ t ne. list_kept at s k e.last t (ne_eqb t s ne);
    }

-- the writes one by one
pub puts_by : (at at1 at2 : ℕ → Link) (n s k : ℕ) (rows rows' : List Row) (e : Ends) (f : Option ℕ) → at1 ≡ with_link at s (record { list = Some k; before = e.last; after = None }) → at2 ≡ led_on at1 e.last (Some s) →
    row_at rows k ≡ There e → f ≡ or_else s e.first → rows' ≡ set rows k (There (record { first = f; last = Some s })) → s < n → IsThere (row_at rows k) → AreLists at n rows → (at s).list ≡ None →
    Relinked at at2 n s rows rows' (put_in k s)
puts_by at at1 at2 n s k rows rows' e f e1 e2 there ef er lt is A hs =
    let at_is : at2 ≡ linked_last at s k e.last = e2 ∙ ap (λ (a : ℕ → Link). led_on a e.last (Some s)) e1 in
    subst (λ (rs : List Row). Relinked at at2 n s rows rs (put_in k s)) (ap (λ (y : Option ℕ). set rows k (There (record { first = y; last = Some s }))) (sym ef) ∙ sym er)
    (subst (λ (a : ℕ → Link). Relinked at a n s rows (set rows k (There (ends_with e s))) (put_in k s)) (sym at_is)
    (puts at n s k rows e (list_within rows k is) lt A hs there))

chain_last : (at : ℕ → Link) (n k : ℕ) (slots : List ℕ) (f l : Option ℕ) → IsChain at n k None slots f l → (o : Option ℕ) → l ≡ o → IfSome o (λ t. t < n)
chain_last at n k slots f l c None e = tt
chain_last at n k slots f l c (Some t) e = elim (last_in at n k None slots f l t e c) [
  | inl p ↦ absurd (none-some t p)
  | inr p ↦ (member at n k None slots f l t p c).within
]

-- the last slot of a list is one
pub last_within : (at : ℕ → Link) (n k : ℕ) (rows : List Row) (e : Ends) → row_at rows k ≡ There e → AreLists at n rows → IfSome e.last (λ t. t < n)
last_within at n k rows e there A =
    let r : RowHolds at n k (There e) = subst (RowHolds at n k) there (A.each k) in
    chain_last at n k (walked_on at n e.first) e.first e.last r.1 e.last refl
