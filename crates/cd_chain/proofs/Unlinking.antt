-- What is kept when a slot is taken out of its list.
use Rattle.std.proofs.Common.{◌≡◌, ℕ, ◌<◌, true, false, eqb, List, length, set, Option, Some, None, refl, ap, sym, ◌∙◌, subst, arith, ◌⊎◌, inl, inr}
use Rattle.std.proofs.lemmas.Bool.{eqb-false, eq-eqb, ne_eqb, cases_eq, cases_lt, false_from_ne_true}
use Rattle.std.specs.Prelude.{IfSome}
use Rattle.std.proofs.Math.Seq.{map-set_same}
use Rattle.std.proofs.lemmas.Option.{none-some}
use Rattle.std.proofs.lemmas.List.{get_or-set_same, get_or-set_other, get_or_past}
use Rattle.cd_chain.specs.declared.link.Link.{Link}
use Rattle.cd_chain.specs.declared.lane.Ends.{Ends}
use Rattle.cd_chain.specs.declared.lane.Row.{Row}
use Rattle.cd_chain.specs.declared.lane.Row.TheVariants.{There, Free}
use Rattle.cd_chain.specs.Lanes.{no_link, row_at}
use Rattle.cd_chain.specs.Cells.{is_in, AreDistinct, row_cell, row_cells}
use Rattle.cd_chain.specs.Chains.{without, IsChain, walked_on, past}
use Rattle.cd_chain.specs.Links.{with_link, led_on, backed, first_past, unlinked}
use Rattle.cd_chain.specs.Lists.{list_of, InList, IsThere, RowHolds, AreLists, gone_from, ends_past, Relinked}
use Rattle.cd_chain.proofs.Linking.{past_other, past_same, LinkedPast, gone, stays, walked, short, member, led, led_in, followed, is_first, first_led, is_last, last_ends, distinct_without, still_in, without_none}

pub with_here : (at : ℕ → Link) (s : ℕ) (x : Link) → with_link at s x s ≡ x
with_here at s x = rw (eq-eqb s s refl) refl

pub with_miss : (at : ℕ → Link) (s t : ℕ) (x : Link) → eqb t s ≡ false → with_link at s x t ≡ at t
with_miss at s t x e = rw e refl

-- a pointer names a slot or it does not
pub some_or_not : (o : Option ℕ) (t : ℕ) → (o ≡ Some t) ⊎ (o ≡ Some t → ⊥)
some_or_not None t = inr (λ h. none-some t h)
some_or_not (Some s) t = elim (cases_eq s t) [
  | inl e ↦ inl (ap (λ (x : ℕ). Some x) e)
  | inr e ↦ inr (λ h. e (cc))
]

past_unless : (next : Option ℕ) (s : ℕ) (o : Option ℕ) → (o ≡ Some s → ⊥) → past next s o ≡ o
past_unless next s None h = refl
past_unless next s (Some t) h = past_other next s t (ne_eqb s t (λ e. h (ap (λ (x : ℕ). Some x) (sym e))))

-- what the two writes leave of a link
pub led_miss : (at : ℕ → Link) (t : ℕ) (o x : Option ℕ) → (o ≡ Some t → ⊥) → led_on at o x t ≡ at t
led_miss at t None x h = refl
led_miss at t (Some s) x h = with_miss at s t _ (ne_eqb t s (λ e. h (ap (λ (y : ℕ). Some y) (sym e))))

backed_miss : (at : ℕ → Link) (t : ℕ) (o x : Option ℕ) → (o ≡ Some t → ⊥) → backed at o x t ≡ at t
backed_miss at t None x h = refl
backed_miss at t (Some s) x h = with_miss at s t _ (ne_eqb t s (λ e. h (ap (λ (y : ℕ). Some y) (sym e))))

pub led_hit : (at : ℕ → Link) (t : ℕ) (o x : Option ℕ) → o ≡ Some t → led_on at o x t ≡ record { list = (at t).list; before = (at t).before; after = x }
led_hit at t o x e = rw e (with_here at t _)

backed_hit : (at : ℕ → Link) (t : ℕ) (o x : Option ℕ) → o ≡ Some t → backed at o x t ≡ record { list = (at t).list; before = x; after = (at t).after }
backed_hit at t o x e = rw e (with_here at t _)

abbrev one : (ℕ → Link) → ℕ → ℕ → Link
one at s = led_on at (at s).before (at s).after

abbrev two : (ℕ → Link) → ℕ → ℕ → Link
two at s = backed (one at s) (at s).after (at s).before

-- a slot that is neither s nor beside it
far_slot : (at : ℕ → Link) (s t : ℕ) → eqb t s ≡ false → ((at s).before ≡ Some t → ⊥) → ((at s).after ≡ Some t → ⊥) → unlinked at s t ≡ at t
far_slot at s t ne nb na = with_miss (two at s) s t no_link ne ∙ backed_miss (one at s) t (at s).after (at s).before na ∙ led_miss at t (at s).before (at s).after nb

flip : (s t : ℕ) → eqb s t ≡ false → eqb t s ≡ false
flip s t e = ne_eqb t s (λ h. eqb-false s t e (sym h))

-- the slots of the list, with the links then
linked_past : (at : ℕ → Link) (n k s : ℕ) (slots : List ℕ) (f l : Option ℕ) → is_in s slots ≡ true → IsChain at n k None slots f l → LinkedPast at (unlinked at s) s slots
linked_past at n k s slots f l h c =
    let b : Option ℕ = (at s).before in
    let a : Option ℕ = (at s).after in
    let at1 : ℕ → Link = led_on at b a in
    let first_list : (t : ℕ) → (at1 t).list ≡ (at t).list = λ t. elim (some_or_not b t) [
      | inl e ↦ ap (λ (x : Link). x.list) (led_hit at t b a e)
      | inr e ↦ ap (λ (x : Link). x.list) (led_miss at t b a e)
    ] in
    let first_before : (t : ℕ) → (at1 t).before ≡ (at t).before = λ t. elim (some_or_not b t) [
      | inl e ↦ ap (λ (x : Link). x.before) (led_hit at t b a e)
      | inr e ↦ ap (λ (x : Link). x.before) (led_miss at t b a e)
    ] in
    record {
      list = λ t i ne. ap (λ (x : Link). x.list) (with_miss (two at s) s t no_link (flip s t ne)) ∙ elim (some_or_not a t) [
        | inl e ↦ ap (λ (x : Link). x.list) (backed_hit at1 t a b e) ∙ first_list t
        | inr e ↦ ap (λ (x : Link). x.list) (backed_miss at1 t a b e) ∙ first_list t
      ];
      before = λ t i ne. ap (λ (x : Link). x.before) (with_miss (two at s) s t no_link (flip s t ne)) ∙ elim (some_or_not a t) [
        | inl e ↦ ap (λ (x : Link). x.before) (backed_hit at1 t a b e) ∙ sym (ap (past b s) (led at n k None slots f l s t h e c) ∙ past_same b s)
        | inr e ↦ ap (λ (x : Link). x.before) (backed_miss at1 t a b e) ∙ first_before t ∙ sym (past_unless b s (at t).before (λ q. elim (followed at n k None slots f l s t i q c) [
          | inl p ↦ none-some s p.0
          | inr p ↦ e p.0
        ]))
      ];
      after = λ t i ne. ap (λ (x : Link). x.after) (with_miss (two at s) s t no_link (flip s t ne)) ∙ elim (some_or_not a t) [
        | inl e ↦ ap (λ (x : Link). x.after) (backed_hit at1 t a b e)
        | inr e ↦ ap (λ (x : Link). x.after) (backed_miss at1 t a b e)
      ] ∙ elim (some_or_not b t) [
        | inl e ↦ ap (λ (x : Link). x.after) (led_hit at t b a e) ∙ sym (elim (followed at n k None slots f l t s h e c) [
          | inl p ↦ absurd (none-some t p.0)
          | inr p ↦ ap (past a s) p.0 ∙ past_same a s
        ])
        | inr e ↦ ap (λ (x : Link). x.after) (led_miss at t b a e) ∙ sym (past_unless a s (at t).after (λ q. e (led at n k None slots f l t s i q c)))
      ];
    }

first_then : (at : ℕ → Link) (n k s : ℕ) (slots : List ℕ) (f l : Option ℕ) (b : Option ℕ) → (at s).before ≡ b → is_in s slots ≡ true → IsChain at n k None slots f l → first_past f b (at s).after ≡ past (at s).after s f
first_then at n k s slots f l None e h c = sym (ap (past (at s).after s) (is_first at n k None slots f l s h e c) ∙ past_same _ s)
first_then at n k s slots f l (Some p) e h c = sym (past_unless _ s f (λ q. none-some p (sym (first_led at n k None slots f l s q c) ∙ e)))

last_then : (at : ℕ → Link) (n k s : ℕ) (slots : List ℕ) (f l : Option ℕ) (a : Option ℕ) → (at s).after ≡ a → AreDistinct slots → is_in s slots ≡ true → IsChain at n k None slots f l → first_past l a (at s).before ≡ past (at s).before s l
last_then at n k s slots f l None e d h c = sym (ap (past (at s).before s) (is_last at n k None slots f l s h e c) ∙ past_same _ s)
last_then at n k s slots f l (Some p) e d h c = sym (past_unless _ s l (λ q. none-some p (sym (last_ends at n k None slots f l s d h q c) ∙ e)))

-- the list of the slot
own_chain : (at : ℕ → Link) (n k s : ℕ) (slots : List ℕ) (f l : Option ℕ) → AreDistinct slots → is_in s slots ≡ true → IsChain at n k None slots f l →
    IsChain (unlinked at s) n k None (without s slots) (first_past f (at s).before (at s).after) (first_past l (at s).after (at s).before)
own_chain at n k s slots f l d h c = gone at (unlinked at s) n k s None slots f l None _ _ d (linked_past at n k s slots f l h c) refl refl
    (first_then at n k s slots f l _ refl h c) (last_then at n k s slots f l _ refl d h c) c

-- what is shown of each list
record RowGoes (at at' : ℕ → Link) (n s j : ℕ) (row row' : Row) : Type 0 where
  holds : RowHolds at' n j row'
  list : list_of at' n row' ≡ gone_from s (list_of at n row)

own_row : (at : ℕ → Link) (n k s : ℕ) (e : Ends) → RowHolds at n k (There e) → is_in s (walked_on at n e.first) ≡ true →
    RowGoes at (unlinked at s) n s k (There e) (There (ends_past e (at s)))
own_row at n k s e r h =
    let slots : List ℕ = walked_on at n e.first in
    let d : AreDistinct (without s slots) = distinct_without s slots r.0 in
    let c = own_chain at n k s slots e.first e.last r.0 h r.1 in
    let w : walked_on (unlinked at s) n (first_past e.first (at s).before (at s).after) ≡ without s slots =
    walked _ n k None _ _ _ n (short _ n k None _ _ _ d c) c in
    record {
      holds = (subst AreDistinct (sym w) d, subst (λ (xs : List ℕ). IsChain (unlinked at s) n k None xs (first_past e.first (at s).before (at s).after) (first_past e.last (at s).after (at s).before)) (sym w) c);
      list = ap (λ (xs : List ℕ). Some xs) w;
    }

-- a list none of whose slots' links change
same_row : (at at' : ℕ → Link) (n s j : ℕ) (e : Ends) → RowHolds at n j (There e) → ((t : ℕ) → is_in t (walked_on at n e.first) ≡ true → at' t ≡ at t) →
    is_in s (walked_on at n e.first) ≡ false → RowGoes at at' n s j (There e) (There e)
same_row at at' n s j e r same out =
    let slots : List ℕ = walked_on at n e.first in
    let c = stays at at' n n j None slots e.first e.first e.last (omega arith) same refl r.1 in
    let w : walked_on at' n e.first ≡ slots = walked _ n j None _ _ _ n (short _ n j None _ _ _ r.0 c) c in
    record {
      holds = (subst AreDistinct (sym w) r.0, subst (λ (xs : List ℕ). IsChain at' n j None xs e.first e.last) (sym w) c);
      list = ap (λ (xs : List ℕ). Some xs) (w ∙ sym (without_none s slots out));
    }

-- a list that the slot does not stand in
other_row : (at : ℕ → Link) (n s k j : ℕ) → (at s).list ≡ Some k → ((t : ℕ) → (at s).before ≡ Some t → (at t).list ≡ Some k) → ((t : ℕ) → (at s).after ≡ Some t → (at t).list ≡ Some k) →
    (j ≡ k → ⊥) → (r : Row) → RowHolds at n j r → RowGoes at (unlinked at s) n s j r r
other_row at n s k j hs nb na ne (Free next) h = record { holds = tt; list = refl }
other_row at n s k j hs nb na ne (There e) h =
    let slots : List ℕ = walked_on at n e.first in
    let unlike : (t : ℕ) → is_in t slots ≡ true → (at t).list ≡ Some k → ⊥ = λ t i w.
    let both : Some j ≡ Some k = sym (member at n j None slots e.first e.last t i h.1).list ∙ w in ne (cc) in
    same_row at (unlinked at s) n s j e h
    (λ t i. far_slot at s t
    (ne_eqb t s (λ x. unlike t i (ap (λ (y : ℕ). (at y).list) x ∙ hs)))
    (λ x. unlike t i (nb t x))
    (λ x. unlike t i (na t x)))
    (false_from_ne_true (is_in s slots) (λ i. unlike s i hs))

in_gone : (s t : ℕ) (o : Option (List ℕ)) → eqb s t ≡ false → InList o t → InList (gone_from s o) t
in_gone s t None h i = i
in_gone s t (Some slots) h i = still_in s t slots h i

list_kept : (at : ℕ → Link) (s t : ℕ) → eqb t s ≡ false → (unlinked at s t).list ≡ (at t).list
list_kept at s t h =
    ap (λ (x : Link). x.list) (with_miss (two at s) s t no_link h) ∙ (elim (some_or_not (at s).after t) [
      | inl e ↦ ap (λ (x : Link). x.list) (backed_hit (one at s) t (at s).after (at s).before e)
      | inr e ↦ ap (λ (x : Link). x.list) (backed_miss (one at s) t (at s).after (at s).before e)
    ]) ∙ (elim (some_or_not (at s).before t) [
      | inl e ↦ ap (λ (x : Link). x.list) (led_hit at t (at s).before (at s).after e)
      | inr e ↦ ap (λ (x : Link). x.list) (led_miss at t (at s).before (at s).after e)
    ])

row_goes : (at : ℕ → Link) (n s k : ℕ) (rows : List Row) (e : Ends) → k < length rows → AreLists at n rows → (at s).list ≡ Some k → row_at rows k ≡ There e → (j : ℕ) →
    RowGoes at (unlinked at s) n s j (row_at rows j) (row_at (set rows k (There (ends_past e (at s)))) j)
row_goes at n s k rows e lt A hs there j =
    let r' : Row = There (ends_past e (at s)) in
    let r : RowHolds at n k (There e) = subst (RowHolds at n k) there (A.each k) in
    let m : InList (list_of at n (There e)) s = subst (λ (x : Row). InList (list_of at n x) s) there (A.members s k hs) in
    let slots : List ℕ = walked_on at n e.first in
    elim (cases_eq j k) [
      | inl q ↦ subst (λ (x : ℕ). RowGoes at (unlinked at s) n s x (row_at rows x) (row_at (set rows k r') x)) (sym q)
          (subst (λ (x : Row). RowGoes at (unlinked at s) n s k x (row_at (set rows k r') k)) (sym there)
          (subst (λ (x : Row). RowGoes at (unlinked at s) n s k (There e) x) (sym (get_or-set_same rows k r' (Free None) lt)) (own_row at n k s e r m)))
      | inr q ↦ subst (λ (x : Row). RowGoes at (unlinked at s) n s j (row_at rows j) x) (sym (get_or-set_other rows k j r' (Free None) q))
          (other_row at n s k j hs
          (λ t x. elim (followed at n k None slots e.first e.last t s m x r.1) [
            | inl p ↦ absurd (none-some t p.0)
            | inr p ↦ (member at n k None slots e.first e.last t p.1 r.1).list
          ])
          (λ t x. (member at n k None slots e.first e.last t (led_in at n k None slots e.first e.last s t m x r.1) r.1).list)
          q (row_at rows j) (A.each j))
    ]

-- writing other ends of a list changes no number
pub numbers_kept : (rows : List Row) (k : ℕ) (e e' : Ends) → row_at rows k ≡ There e → row_cells (set rows k (There e')) ≡ row_cells rows
numbers_kept rows k e e' there = map-set_same row_cell rows k (There e') (Free None) (sym (ap row_cell there))

unlinks : (at : ℕ → Link) (n s k : ℕ) (rows : List Row) (e : Ends) → k < length rows → AreLists at n rows → (at s).list ≡ Some k → row_at rows k ≡ There e →
    Relinked at (unlinked at s) n s rows (set rows k (There (ends_past e (at s)))) (λ j. gone_from s)
unlinks at n s k rows e lt A hs there =
    let R = row_goes at n s k rows e lt A hs there in
    record {
      lists = record {
        each = λ j. (R j).holds;
        members = λ t j h. subst (λ (o : Option (List ℕ)). InList o t) (sym (R j).list) (
            let apart : eqb s t ≡ false = ne_eqb s t (λ w. none-some j (sym (ap (λ (x : Link). x.list) (with_here (two at s) s no_link)) ∙ ap (λ (x : ℕ). (unlinked at s x).list) w ∙ h)) in
            in_gone s t (list_of at n (row_at rows j)) apart (A.members t j (sym (list_kept at s t (flip s t apart)) ∙ h)));
      };
      changed = λ j. (R j).list;
      numbers = numbers_kept rows k e (ends_past e (at s)) there;
      others = λ t ne. list_kept at s t (ne_eqb t s ne);
    }

there_in : (at : ℕ → Link) (n s : ℕ) (r : Row) → InList (list_of at n r) s → IsThere r
there_in at n s (There e) h = tt
there_in at n s (Free next) h = h

-- the links of a slot name lists and slots that are there
pub list_there : (at : ℕ → Link) (n s k : ℕ) (rows : List Row) → AreLists at n rows → (at s).list ≡ Some k → IsThere (row_at rows k)
list_there at n s k rows A hs = there_in at n s (row_at rows k) (A.members s k hs)

pub list_within : (rows : List Row) (k : ℕ) → IsThere (row_at rows k) → k < length rows
list_within rows k h = elim (cases_lt k (length rows)) [
  | inl lt ↦ lt
  | inr le ↦ absurd (subst IsThere (get_or_past rows k (Free None) le) h)
]

chain_before : (at : ℕ → Link) (n s k : ℕ) (r : Row) → RowHolds at n k r → InList (list_of at n r) s → (o : Option ℕ) → (at s).before ≡ o → IfSome o (λ t. t < n)
chain_before at n s k (Free next) h i o e = absurd i
chain_before at n s k (There x) h i None e = tt
chain_before at n s k (There x) h i (Some t) e =
    elim (followed at n k None (walked_on at n x.first) x.first x.last t s i e h.1) [
      | inl p ↦ absurd (none-some t p.0)
      | inr p ↦ (member at n k None (walked_on at n x.first) x.first x.last t p.1 h.1).within
    ]

chain_after : (at : ℕ → Link) (n s k : ℕ) (r : Row) → RowHolds at n k r → InList (list_of at n r) s → (o : Option ℕ) → (at s).after ≡ o → IfSome o (λ t. t < n)
chain_after at n s k (Free next) h i o e = absurd i
chain_after at n s k (There x) h i None e = tt
chain_after at n s k (There x) h i (Some t) e =
    let slots : List ℕ = walked_on at n x.first in
    (member at n k None slots x.first x.last t (led_in at n k None slots x.first x.last s t i e h.1) h.1).within

pub before_within : (at : ℕ → Link) (n s k : ℕ) (rows : List Row) → AreLists at n rows → (at s).list ≡ Some k → IfSome (at s).before (λ t. t < n)
before_within at n s k rows A hs = chain_before at n s k (row_at rows k) (A.each k) (A.members s k hs) (at s).before refl

pub after_within : (at : ℕ → Link) (n s k : ℕ) (rows : List Row) → AreLists at n rows → (at s).list ≡ Some k → IfSome (at s).after (λ t. t < n)
after_within at n s k rows A hs = chain_after at n s k (row_at rows k) (A.each k) (A.members s k hs) (at s).after refl

-- the writes one by one
pub unlinks_by : (at at1 at2 at3 : ℕ → Link) (n s k : ℕ) (rows rows' : List Row) (e : Ends) (x : Link) (f l : Option ℕ) → x ≡ at s → at1 ≡ led_on at x.before x.after → at2 ≡ backed at1 x.after x.before →
    at3 ≡ with_link at2 s no_link → row_at rows k ≡ There e → f ≡ first_past e.first x.before x.after → l ≡ first_past e.last x.after x.before →
    rows' ≡ set rows k (There (record { first = f; last = l })) → AreLists at n rows → (at s).list ≡ Some k → Relinked at at3 n s rows rows' (λ j. gone_from s)
unlinks_by at at1 at2 at3 n s k rows rows' e x f l ex e1 e2 e3 there ef el er A hs =
    let two_is : at3 ≡ unlinked at s =
    e3 ∙ ap (λ (a : ℕ → Link). with_link a s no_link) (e2 ∙ ap (λ (a : ℕ → Link). backed a x.after x.before) e1)
    ∙ ap (λ (y : Link). with_link (backed (led_on at y.before y.after) y.after y.before) s no_link) ex in
    let ends_are : ends_past e (at s) ≡ record { first = f; last = l } =
    ap (λ (y : Link). ends_past e y) (sym ex) ∙ sym (ap (λ (y : Option ℕ). record { first = y; last = l }) ef ∙ ap (λ (y : Option ℕ). record { first = first_past e.first x.before x.after; last = y }) el) in
    subst (λ (rs : List Row). Relinked at at3 n s rows rs (λ j. gone_from s)) (ap (λ (y : Ends). set rows k (There y)) ends_are ∙ sym er)
    (subst (λ (a : ℕ → Link). Relinked at a n s rows (set rows k (There (ends_past e (at s)))) (λ j. gone_from s)) (sym two_is)
    (unlinks at n s k rows e (list_within rows k (list_there at n s k rows A hs)) A hs there))

pub is_out : (at2 at3 : ℕ → Link) (s : ℕ) → at3 ≡ with_link at2 s no_link → (at3 s).list ≡ None
is_out at2 at3 s e = ap (λ (a : ℕ → Link). (a s).list) e ∙ ap (λ (x : Link). x.list) (with_here at2 s no_link)

-- a slot that stands in no list is taken out of none
not_in_row : (at : ℕ → Link) (n s k : ℕ) (r : Row) → (at s).list ≡ None → RowHolds at n k r → list_of at n r ≡ gone_from s (list_of at n r)
not_in_row at n s k (Free next) out h = refl
not_in_row at n s k (There e) out h = ap (λ (xs : List ℕ). Some xs) (sym (without_none s (walked_on at n e.first)
    (false_from_ne_true _ (λ i. none-some k (sym out ∙ (member at n k None _ e.first e.last s i h.1).list)))))

pub not_in : (at : ℕ → Link) (n s : ℕ) (rows : List Row) → (at s).list ≡ None → AreLists at n rows → Relinked at at n s rows rows (λ j. gone_from s)
not_in at n s rows out A = record {
  lists = A;
  changed = λ j. not_in_row at n s j (row_at rows j) out (A.each j);
  numbers = refl;
  others = λ t ne. refl;
}

-- a pointer that names no slot
pub not_some : (o : Option ℕ) → ((t : ℕ) → o ≡ Some t → ⊥) → o ≡ None
not_some None h = refl
not_some (Some t) h = absurd (h t refl)
