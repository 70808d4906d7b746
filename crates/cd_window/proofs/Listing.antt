-- What stands in the lists of events that wait, as events come and go.
use Rattle.std.proofs.Common.{◌≡◌, ℕ, zero, suc, ◌<◌, ◌≤◌, ◌+◌, Bool, true, false, eqb, List, [], ◌∷◌, ◌++◌, length, map, Option, Some, None, refl, ap, sym, ◌∙◌, subst, arith, inl, inr}
use Rattle.std.specs.Prelude.{IsSome, IfSome, slice_get, slice_index_or}
use Rattle.std.proofs.lemmas.Bool.{eqb-true, eq-eqb, both_ways, true≢false, false_from_ne_true}
use Rattle.std.proofs.lemmas.Option.{none-some}
use Rattle.std.proofs.lemmas.List.{length_push, map_push}
use Rattle.indexmap.specs.IndexMap.{IndexMap}
use Rattle.cd_chain.specs.Cells.{is_in, AreDistinct}
use Rattle.cd_chain.specs.Chains.{without}
use Rattle.cd_chain.specs.Lists.{gone_from, put_in}
use Rattle.cd_chain.specs.Contents.{Contents, value_at, used_slots, list_at, list_count, slots_of}
use Rattle.cd_chain.specs.Calls.{ChangesLists, KeepsLists, KeepsValues, PutsValue, TakesValue}
use Rattle.cd_chain.proofs.Linking.{head_in, tail_in, without_none, in_without, distinct_without, in_push, distinct_push}
use Rattle.cd_window.specs.declared.key.Key.{Key}
use Rattle.cd_window.specs.declared.waiter.Waiter.{Waiter}
use Rattle.cd_window.specs.declared.waiting.Room.{Room}
use Rattle.cd_window.specs.declared.waiting.Waiting.{Waiting}
use Rattle.cd_window.specs.Keys.{same_key}
use Rattle.cd_window.specs.Waiting.{Waits, waits_of}
use Rattle.cd_window.specs.Lists.{key_in, key_is, has_key, number_of, IsIndexed, IsFilled, but_key, KeepsRest, slots_in, shown, waits_in_slot, waits_in, IsListed, HasNoEmpty, HasRoom, Removes}
use Rattle.cd_window.proofs.Sublists.{not_in_without, length_without}
use Rattle.cd_window.proofs.Indexing.{not_none, same_index, index_without, index_with}
use Rattle.cd_window.proofs.Filling.{same_filled, filled_without, filled_with, few_lists}
use Rattle.cd_window.proofs.Keying.{same_key_laws, keys_are}

-- the values that a call leaves
pub rest_value : (it it' : Contents Waiter) (lane s : ℕ) → KeepsRest it it' lane → value_at it' s ≡ value_at it s
rest_value it it' lane s R = ap (λ (vs : List (Option Waiter)). slice_index_or vs s None) R.values

pub rest_used : (it it' : Contents Waiter) (lane : ℕ) → KeepsRest it it' lane → used_slots it' ≡ used_slots it
rest_used it it' lane R = ap (λ (vs : List (Option Waiter)). used_slots (record it { values = vs })) R.values

-- the lists of another lane
pub indexed_rest : {S : Type 0} (m : IndexMap Key ℕ S) (it it' : Contents Waiter) (lane l : ℕ) (slots : List ℕ) → KeepsRest it it' lane → (l ≡ lane → ⊥) → IsIndexed it m l slots → IsIndexed it' m l slots
indexed_rest m it it' lane l slots R ne A = same_index (number_of m) (list_at it l) (has_key it l) same_key slots (number_of m) (list_at it' l) (has_key it' l) (λ k. refl) (R.lanes l ne).lists (λ k s. ap (key_is l k) (rest_value it it' lane s R)) A

pub filled_rest : {S : Type 0} (m : IndexMap Key ℕ S) (it it' : Contents Waiter) (lane l : ℕ) (but : Key → Bool) → KeepsRest it it' lane → (l ≡ lane → ⊥) → IsFilled it m l but → IsFilled it' m l but
filled_rest m it it' lane l but R ne F = same_filled (number_of m) (list_at it l) but (number_of m) (list_at it' l) (λ k. refl) (R.lanes l ne).lists F

-- the lists of a lane, where lists and values are as they were
pub indexed_kept : {S : Type 0} (m : IndexMap Key ℕ S) (it it' : Contents Waiter) (l : ℕ) (slots : List ℕ) → KeepsValues it it' → KeepsLists it it' → IsIndexed it m l slots → IsIndexed it' m l slots
indexed_kept m it it' l slots V L A = same_index (number_of m) (list_at it l) (has_key it l) same_key slots (number_of m) (list_at it' l) (has_key it' l) (λ k. refl) (L.lists l) (λ k s. ap (key_is l k) (V.values s)) A

pub filled_kept_all : {S : Type 0} (m : IndexMap Key ℕ S) (it it' : Contents Waiter) (l : ℕ) (but : Key → Bool) → KeepsLists it it' → IsFilled it m l but → IsFilled it' m l but
filled_kept_all m it it' l but L F = same_filled (number_of m) (list_at it l) but (number_of m) (list_at it' l) (λ k. refl) (L.lists l) F

-- the same events wait
pub record Same (x x' : Waiting) : Type 0 where
  pub listed : IsListed x'
  pub slots : slots_in x' ≡ slots_in x
  pub waits : waits_in x' ≡ waits_in x

map_same : (f g : ℕ → Waits) (xs : List ℕ) → ((s : ℕ) → g s ≡ f s) → map g xs ≡ map f xs
map_same f g [] h = refl
map_same f g (x ∷ xs) h = let a = h x in let b = map_same f g xs h in cc

pub listed_same : (x x' : Waiting) → x'.all ≡ x.all → IsListed x → ((s : ℕ) → value_at x'.store s ≡ value_at x.store s) → used_slots x'.store ≡ used_slots x.store → list_at x'.store 0 x.all ≡ list_at x.store 0 x.all →
    IsIndexed x'.store x'.primaries 1 (slots_in x) → IsIndexed x'.store x'.exchanges 2 (slots_in x) → Same x x'
listed_same x x' ea L ev eu el P E =
    let e : list_at x'.store 0 x'.all ≡ list_at x.store 0 x.all = ap (list_at x'.store 0) ea ∙ el in
    let es : slots_in x' ≡ slots_in x = ap slots_of e in
    record {
      listed = record {
        there = subst (λ (o : Option (List ℕ)). IsSome o) (sym e) L.there;
        distinct = subst AreDistinct (sym es) L.distinct;
        used = λ s i. subst (λ (o : Option Waiter). IsSome o) (sym (ev s)) (L.used s (ap (is_in s) (sym es) ∙ i));
        counted = eu ∙ L.counted ∙ ap length (sym es);
        primaries = subst (IsIndexed x'.store x'.primaries 1) (sym es) P;
        exchanges = subst (IsIndexed x'.store x'.exchanges 2) (sym es) E;
      };
      slots = es;
      waits = map_same (waits_in_slot x.store) (waits_in_slot x'.store) (slots_in x') (λ s. ap shown (ev s)) ∙ ap (map (waits_in_slot x.store)) es;
    }

slots_gone : (s : ℕ) (o : Option (List ℕ)) → slots_of (gone_from s o) ≡ without s (slots_of o)
slots_gone s None = refl
slots_gone s (Some xs) = refl

some_gone : (s : ℕ) (o : Option (List ℕ)) → IsSome o → IsSome (gone_from s o)
some_gone s None h = h
some_gone s (Some xs) h = refl

-- what a store shows once a slot was emptied
pub record Emptied (x : Waiting) (it : Contents Waiter) (slot : ℕ) (w : Waiter) : Type 0 where
  pub list : list_at it 0 x.all ≡ gone_from slot (list_at x.store 0 x.all)
  pub others : (s : ℕ) → (s ≡ slot → ⊥) → value_at it s ≡ value_at x.store s
  pub used : used_slots it + 1 ≡ used_slots x.store
  pub primaries : IsIndexed it x.primaries 1 (without slot (slots_in x))
  pub exchanges : IsIndexed it x.exchanges 2 (without slot (slots_in x))
  pub primaries_filled : IsFilled it x.primaries 1 (but_key w.alone)
  pub exchanges_filled : IsFilled it x.exchanges 2 (but_key w.whole)

pub emptied : (x : Waiting) (it : Contents Waiter) (slot : ℕ) (w : Waiter) → IsListed x → HasNoEmpty x → TakesValue x.store it slot w → ChangesLists x.store it (λ l k. gone_from slot) → Emptied x it slot w
emptied x it slot w L F V C = record {
  list = C.lists 0 x.all;
  others = λ s ne. other s ne;
  used = V.used;
  primaries = index_without (number_of x.primaries) (list_at x.store 1) (has_key x.store 1) same_key (slots_in x) slot (list_at it 1) (has_key it 1) (C.lists 1) (λ k t e. ap (key_is 1 k) (far t e)) L.primaries;
  exchanges = index_without (number_of x.exchanges) (list_at x.store 2) (has_key x.store 2) same_key (slots_in x) slot (list_at it 2) (has_key it 2) (C.lists 2) (λ k t e. ap (key_is 2 k) (far t e)) L.exchanges;
  primaries_filled = filled_without (number_of x.primaries) (list_at x.store 1) (has_key x.store 1) same_key (keys_are x.primaries x.store 1) (slots_in x) slot w.alone (list_at it 1) L.primaries (own 1) (C.lists 1) F.primaries;
  exchanges_filled = filled_without (number_of x.exchanges) (list_at x.store 2) (has_key x.store 2) same_key (keys_are x.exchanges x.store 2) (slots_in x) slot w.whole (list_at it 2) L.exchanges (own 2) (C.lists 2) F.exchanges;
}
  where
    other : (s : ℕ) → (s ≡ slot → ⊥) → value_at it s ≡ value_at x.store s
    other s ne = V.values s ∙ rw (false_from_ne_true (eqb s slot) (λ t. ne (eqb-true s slot t))) refl

    far : (t : ℕ) → eqb slot t ≡ false → value_at it t ≡ value_at x.store t
    far t e = other t (λ q. true≢false (sym (eq-eqb slot t (sym q)) ∙ e))

    own : (lane : ℕ) → has_key x.store lane (key_in lane w) slot ≡ true
    own lane = ap (key_is lane (key_in lane w)) V.was ∙ same_key_laws.refl (key_in lane w)

-- what is left when an event was taken out of its slot and the lists that became empty are gone
pub record Taken (x x' : Waiting) (slot : ℕ) : Type 0 where
  pub listed : IsListed x'
  pub removes : Removes x x' slot

pub taken : (x x' : Waiting) (it it' : Contents Waiter) (slot : ℕ) (w : Waiter) → x'.all ≡ x.all → IsListed x → is_in slot (slots_in x) ≡ true → Emptied x it slot w → KeepsRest it it' 1 → KeepsRest it' x'.store 2 →
    IsIndexed it' x'.primaries 1 (without slot (slots_in x)) → IsIndexed x'.store x'.exchanges 2 (without slot (slots_in x)) → Taken x x' slot
taken x x' it it' slot w ea L i M R S P E =
    let e : list_at x'.store 0 x'.all ≡ gone_from slot (list_at x.store 0 x.all) =
    ap (list_at x'.store 0) ea ∙ (S.lanes 0 (λ z. omega arith)).lists x.all ∙ (R.lanes 0 (λ z. omega arith)).lists x.all ∙ M.list in
    let es : slots_in x' ≡ without slot (slots_in x) = ap slots_of e ∙ slots_gone slot (list_at x.store 0 x.all) in
    let others : (s : ℕ) → (s ≡ slot → ⊥) → value_at x'.store s ≡ value_at x.store s = λ s ne. rest_value it' x'.store 2 s S ∙ rest_value it it' 1 s R ∙ M.others s ne in
    record {
      listed = record {
        there = subst (λ (o : Option (List ℕ)). IsSome o) (sym e) (some_gone slot (list_at x.store 0 x.all) L.there);
        distinct = subst AreDistinct (sym es) (distinct_without slot (slots_in x) L.distinct);
        used = λ s j.
            let k : is_in s (without slot (slots_in x)) ≡ true = ap (is_in s) (sym es) ∙ j in
            let ne : s ≡ slot → ⊥ = λ q. true≢false (sym (eq-eqb slot s (sym q)) ∙ not_in_without slot s (slots_in x) k) in
            subst (λ (o : Option Waiter). IsSome o) (sym (others s ne)) (L.used s (in_without slot s (slots_in x) k));
        counted =
            let a : used_slots x'.store ≡ used_slots it = rest_used it' x'.store 2 S ∙ rest_used it it' 1 R in
            let b = M.used in
            let c = L.counted in
            let l = length_without slot (slots_in x) L.distinct i in
            let d : length (slots_in x') ≡ length (without slot (slots_in x)) = ap length es in
            omega arith;
        primaries = subst (IsIndexed x'.store x'.primaries 1) (sym es) (indexed_rest x'.primaries it' x'.store 2 1 (without slot (slots_in x)) S (λ z. omega arith) P);
        exchanges = subst (IsIndexed x'.store x'.exchanges 2) (sym es) E;
      };
      removes = record { slots = es; others = others };
    }

-- there are fewer lists of keys than slots that may be used
pub few_primaries : (x : Waiting) → IsListed x → HasNoEmpty x → list_count x.store 1 ≤ length (slots_in x)
few_primaries x L F = few_lists (number_of x.primaries) x.store.second (has_key x.store 1) same_key (slots_in x) (keys_are x.primaries x.store 1) L.distinct L.primaries F.primaries

pub few_exchanges : (x : Waiting) → IsListed x → HasNoEmpty x → list_count x.store 2 ≤ length (slots_in x)
few_exchanges x L F = few_lists (number_of x.exchanges) x.store.third (has_key x.store 2) same_key (slots_in x) (keys_are x.exchanges x.store 2) L.distinct L.exchanges F.exchanges

-- what is left when an event has come to wait
pub record Put (x x' : Waiting) (w : Waiter) : Type 0 where
  pub listed : IsListed x'
  pub filled : HasNoEmpty x'
  pub waits : waits_in x' ≡ waits_in x ++ waits_of w ∷ []

map_same_in : (f g : ℕ → Waits) (xs : List ℕ) → ((s : ℕ) → is_in s xs ≡ true → g s ≡ f s) → map g xs ≡ map f xs
map_same_in f g [] h = refl
map_same_in f g (x ∷ xs) h = let a = h x (head_in x xs) in let b = map_same_in f g xs (λ s i. h s (tail_in s x xs i)) in cc

slots_put : (k s : ℕ) (o : Option (List ℕ)) → IsSome o → put_in k s k o ≡ Some (slots_of o ++ s ∷ [])
slots_put k s None h = absurd (both_ways _ refl h)
slots_put k s (Some xs) h = rw (eq-eqb k k refl) refl

pub put_waits : (x x' : Waiting) (w : Waiter) (slot primary exchange : ℕ) → x'.all ≡ x.all → IsListed x → IsIndexed x.store x'.primaries 1 (slots_in x) → IsIndexed x.store x'.exchanges 2 (slots_in x) →
    IsFilled x.store x'.primaries 1 (but_key w.alone) → IsFilled x.store x'.exchanges 2 (but_key w.whole) → number_of x'.primaries w.alone ≡ Some primary → number_of x'.exchanges w.whole ≡ Some exchange → PutsValue x.store x'.store slot w →
    ((k : ℕ) → list_at x'.store 0 k ≡ put_in x.all slot k (list_at x.store 0 k)) → ((k : ℕ) → list_at x'.store 1 k ≡ put_in primary slot k (list_at x.store 1 k)) → ((k : ℕ) → list_at x'.store 2 k ≡ put_in exchange slot k (list_at x.store 2 k)) → Put x x' w
put_waits x x' w slot primary exchange ea L P E FP FE np ne V l0 l1 l2 =
    let e : list_at x'.store 0 x'.all ≡ Some (slots_in x ++ slot ∷ []) = ap (list_at x'.store 0) ea ∙ l0 x.all ∙ slots_put x.all slot (list_at x.store 0 x.all) L.there in
    let es : slots_in x' ≡ slots_in x ++ slot ∷ [] = ap slots_of e in
    let out : is_in slot (slots_in x) ≡ false = false_from_ne_true (is_in slot (slots_in x)) (λ i. not_none (value_at x.store slot) V.fresh (L.used slot i)) in
    let here : value_at x'.store slot ≡ Some w = V.values slot ∙ rw (eq-eqb slot slot refl) refl in
    let others : (t : ℕ) → eqb t slot ≡ false → value_at x'.store t ≡ value_at x.store t = λ t q. V.values t ∙ rw q refl in
    let far : (t : ℕ) → is_in t (slots_in x) ≡ true → eqb t slot ≡ false = λ t i. false_from_ne_true (eqb t slot) (λ q. true≢false (sym i ∙ ap (λ (y : ℕ). is_in y (slots_in x)) (eqb-true t slot q) ∙ out)) in
    record {
      listed = record {
        there = subst (λ (o : Option (List ℕ)). IsSome o) (sym e) refl;
        distinct = subst AreDistinct (sym es) (distinct_push slot (slots_in x) L.distinct out);
        used = λ s i. elim (in_push slot s (slots_in x) (ap (is_in s) (sym es) ∙ i)) [
          | inl j ↦ subst (λ (o : Option Waiter). IsSome o) (sym (others s (far s j))) (L.used s j)
          | inr q ↦ subst (λ (y : ℕ). IsSome (value_at x'.store y)) (sym q) (subst (λ (o : Option Waiter). IsSome o) (sym here) refl)
        ];
        counted =
            let u = V.used in
            let c = L.counted in
            let l : length (slots_in x') ≡ length (slots_in x) + 1 = ap length es ∙ length_push (slots_in x) slot in
            omega arith;
        primaries = subst (IsIndexed x'.store x'.primaries 1) (sym es)
            (index_with (number_of x'.primaries) (list_at x.store 1) (has_key x.store 1) same_key (slots_in x) slot primary w.alone (list_at x'.store 1) (has_key x'.store 1) (keys_are x'.primaries x.store 1) out np l1 (λ k t q. ap (key_is 1 k) (others t q)) (λ k. ap (key_is 1 k) here) P);
        exchanges = subst (IsIndexed x'.store x'.exchanges 2) (sym es)
            (index_with (number_of x'.exchanges) (list_at x.store 2) (has_key x.store 2) same_key (slots_in x) slot exchange w.whole (list_at x'.store 2) (has_key x'.store 2) (keys_are x'.exchanges x.store 2) out ne l2 (λ k t q. ap (key_is 2 k) (others t q)) (λ k. ap (key_is 2 k) here) E);
      };
      filled = record {
        primaries = filled_with (number_of x'.primaries) (list_at x.store 1) (has_key x.store 1) same_key (keys_are x'.primaries x.store 1) (slots_in x) slot primary w.alone (list_at x'.store 1) P np l1 FP;
        exchanges = filled_with (number_of x'.exchanges) (list_at x.store 2) (has_key x.store 2) same_key (keys_are x'.exchanges x.store 2) (slots_in x) slot exchange w.whole (list_at x'.store 2) E ne l2 FE;
      };
      waits = ap (map (waits_in_slot x'.store)) es ∙ map_push (waits_in_slot x'.store) (slots_in x) slot
          ∙ ap (λ (ys : List Waits). ys ++ waits_in_slot x'.store slot ∷ []) (map_same_in (waits_in_slot x.store) (waits_in_slot x'.store) (slots_in x) (λ s i. ap shown (others s (far s i))))
          ∙ ap (λ (o : Option Waiter). waits_in x ++ shown o ∷ []) here;
    }

-- the first event is gone
pub front_gone : (x x' : Waiting) (slot : ℕ) → AreDistinct (slots_in x) → Removes x x' slot → slice_get (slots_in x) 0 ≡ Some slot → waits_in x ≡ waits_in_slot x.store slot ∷ waits_in x'
front_gone x x' slot d R e = by (slots_in x) refl e
  where
    by : (xs : List ℕ) → xs ≡ slots_in x → slice_get xs 0 ≡ Some slot → waits_in x ≡ waits_in_slot x.store slot ∷ waits_in x'
    by [] q f = absurd (none-some slot f)
    by (y ∷ ys) q f =
        let same : y ≡ slot = cc in
        let dy : AreDistinct (y ∷ ys) = subst AreDistinct (sym q) d in
        let out : is_in slot ys ≡ false = subst (λ (s : ℕ). is_in s ys ≡ false) same dy.0 in
        let rest : without slot (y ∷ ys) ≡ ys = rw (eq-eqb slot y (sym same)) (without_none slot ys out) in
        let es : slots_in x' ≡ ys = R.slots ∙ ap (without slot) (sym q) ∙ rest in
        let kept : map (waits_in_slot x'.store) ys ≡ map (waits_in_slot x.store) ys = map_same_in (waits_in_slot x.store) (waits_in_slot x'.store) ys
        (λ s i. ap shown (R.others s (λ z. true≢false (sym i ∙ ap (λ (t : ℕ). is_in t ys) z ∙ out)))) in
        ap (map (waits_in_slot x.store)) (sym q)
        ∙ ap (λ (s : ℕ). waits_in_slot x.store s ∷ map (waits_in_slot x.store) ys) same
        ∙ ap (λ (ws : List Waits). waits_in_slot x.store slot ∷ ws) (sym kept ∙ ap (map (waits_in_slot x'.store)) (sym es))

-- the first event is that of the first slot
pub front_waits : (x : Waiting) (y : Waits) → slice_get (waits_in x) 0 ≡ Some y → (s : ℕ) × (slice_get (slots_in x) 0 ≡ Some s) × (waits_in_slot x.store s ≡ y)
front_waits x y e = by (slots_in x) e
  where
    by : (xs : List ℕ) → slice_get (map (waits_in_slot x.store) xs) 0 ≡ Some y → (s : ℕ) × (slice_get xs 0 ≡ Some s) × (waits_in_slot x.store s ≡ y)
    by [] f = absurd (none-some y f)
    by (s ∷ ss) f = let g : waits_in_slot x.store s ≡ y = cc in (s, refl, g)

pub first_in : (xs : List ℕ) (s : ℕ) → slice_get xs 0 ≡ Some s → is_in s xs ≡ true
first_in [] s e = absurd (none-some s e)
first_in (x ∷ xs) s e = let same : s ≡ x = cc in rw (eq-eqb s x same) refl

list_of_key : {S : Type 0} (m : IndexMap Key ℕ S) (it : Contents Waiter) (lane : ℕ) (slots : List ℕ) (key : Key) (k : ℕ) → IsIndexed it m lane slots → number_of m key ≡ Some k → IsSome (list_at it lane k)
list_of_key m it lane slots key k A e = subst (λ (u : Option (List ℕ)). IsSome u) (sym (A.lists key k e)) refl

-- the lists that an event comes last in are there
pub lists_there : (x : Waiting) (w : Waiter) (room : Room) → IsListed x → HasRoom x w room →
    (l : ℕ) → l < 3 → IfSome (slice_index_or (Some x.all ∷ Some room.primary ∷ Some room.exchange ∷ []) l None) (λ k. IsSome (list_at x.store l k))
lists_there x w room L R zero lt = L.there
lists_there x w room L R (suc zero) lt = list_of_key x.primaries x.store 1 (slots_in x) w.alone room.primary L.primaries R.primary
lists_there x w room L R (suc (suc zero)) lt = list_of_key x.exchanges x.store 2 (slots_in x) w.whole room.exchange L.exchanges R.exchange
lists_there x w room L R (suc (suc (suc l))) lt = absurd (omega arith)
