-- Where no event waits.
use Rattle.std.proofs.Common.{◌≡◌, ℕ, List, [], length, map, Option, Some, None, refl, ap, sym, ◌∙◌, subst, arith}
use Rattle.std.specs.Prelude.{IsSome}
use Rattle.std.specs.Map.{lookup}
use Rattle.std.proofs.lemmas.Bool.{eq-eqb, true≢false}
use Rattle.std.proofs.lemmas.Option.{none-some}
use Rattle.std.proofs.lemmas.List.{get_or_past}
use Rattle.indexmap.specs.IndexMap.{IndexMap}
use Rattle.cd_chain.specs.Cells.{is_in, AreDistinct}
use Rattle.cd_chain.specs.Contents.{Contents, used_slots, list_at, slots_of}
use Rattle.cd_chain.specs.Calls.{AddsList}
use Rattle.cd_window.specs.declared.key.Key.{Key}
use Rattle.cd_window.specs.declared.waiter.Waiter.{Waiter}
use Rattle.cd_window.specs.declared.waiting.Waiting.{Waiting}
use Rattle.cd_window.specs.Keys.{same_key}
use Rattle.cd_window.specs.Lists.{number_of, IsIndexed, slots_in, waits_in_slot, waits_in, IsListed}
use Rattle.cd_window.proofs.Indexing.{not_none}

-- a store without slots and lists
abbrev pub no_contents : Contents Waiter
no_contents = record { values = []; spare = 0; first = []; second = []; third = [] }

none_indexed : {S : Type 0} (m : IndexMap Key ℕ S) (it : Contents Waiter) (lane : ℕ) → m.entries ≡ [] → ((j : ℕ) → list_at it lane j ≡ None) → IsIndexed it m lane []
none_indexed m it lane em el = record {
  lists = λ k j e. absurd (none-some j (sym (none k) ∙ e));
  known = λ k s i h. absurd (true≢false (sym i));
  apart = λ k l j e f. absurd (none-some j (sym (none k) ∙ e));
  named = λ j h. absurd (not_none (list_at it lane j) (el j) h);
}
  where
    none : (k : Key) → number_of m k ≡ None
    none k = ap (lookup (same_key k)) em

pub record Begins (x : Waiting) : Type 0 where
  pub listed : IsListed x
  pub empty : waits_in x ≡ []

pub begins : (x : Waiting) (it : Contents Waiter) → it ≡ no_contents → AddsList it x.store 0 x.all → x.store.values ≡ it.values → x.primaries.entries ≡ [] → x.exchanges.entries ≡ [] → Begins x
begins x it e A ev ep ee =
    let here : list_at x.store 0 x.all ≡ Some [] = A.lists 0 x.all ∙ rw (eq-eqb x.all x.all refl) refl in
    let es : slots_in x ≡ [] = ap slots_of here in
    let values : x.store.values ≡ [] = ev ∙ ap (λ (y : Contents Waiter). y.values) e in
    let lane1 : (j : ℕ) → list_at x.store 1 j ≡ None = λ j. A.lists 1 j ∙ ap (λ (y : Contents Waiter). list_at y 1 j) e ∙ get_or_past [] j None (omega arith) in
    let lane2 : (j : ℕ) → list_at x.store 2 j ≡ None = λ j. A.lists 2 j ∙ ap (λ (y : Contents Waiter). list_at y 2 j) e ∙ get_or_past [] j None (omega arith) in
    record {
      listed = record {
        there = subst (λ (o : Option (List ℕ)). IsSome o) (sym here) refl;
        distinct = subst AreDistinct (sym es) tt;
        used = λ s i. absurd (true≢false (sym (ap (is_in s) (sym es) ∙ i)));
        counted = ap (λ (vs : List (Option Waiter)). used_slots (record x.store { values = vs })) values ∙ sym (ap length es);
        primaries = subst (IsIndexed x.store x.primaries 1) (sym es) (none_indexed x.primaries x.store 1 ep lane1);
        exchanges = subst (IsIndexed x.store x.exchanges 2) (sym es) (none_indexed x.exchanges x.store 2 ee lane2);
      };
      empty = ap (map (waits_in_slot x.store)) es;
    }
