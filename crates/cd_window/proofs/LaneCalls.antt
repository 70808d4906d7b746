-- What calls on a store change in one lane, and what they leave.
use Rattle.std.proofs.Common.{◌≡◌, ℕ, ◌+◌, Bool, true, false, ◌&&◌, eqb, List, [], cond, Option, Some, None, refl, ap, sym, ◌∙◌, arith}
use Rattle.std.proofs.lemmas.Bool.{eq-eqb, ne_eqb, eqb-true}
use Rattle.cd_chain.specs.Contents.{Contents, list_at, list_count}
use Rattle.cd_chain.specs.Calls.{AddsList, DropsList}
use Rattle.cd_window.specs.declared.waiter.Waiter.{Waiter}
use Rattle.cd_window.specs.Lists.{KeepsRest}

pub adds_lane : (old new : Contents Waiter) (lane n : ℕ) → AddsList old new lane n → (j : ℕ) → list_at new lane j ≡ cond (eqb j n) (Some []) (list_at old lane j)
adds_lane old new lane n A j = A.lists lane j ∙ ap (λ (b : Bool). cond (b && eqb j n) (Some []) (list_at old lane j)) (eq-eqb lane lane refl)

pub adds_rest : (old new : Contents Waiter) (lane n : ℕ) → AddsList old new lane n → new.values ≡ old.values → new.spare ≡ old.spare → KeepsRest old new lane
adds_rest old new lane n A ev es = record {
  values = ev;
  spare = es;
  lanes = λ l ne. record {
    lists = λ j. A.lists l j ∙ ap (λ (b : Bool). cond (b && eqb j n) (Some []) (list_at old l j)) (ne_eqb l lane ne);
    counts = let c : list_count new l ≡ list_count old l + 0 = A.counts l ∙ ap (λ (b : Bool). list_count old l + cond b 1 0) (ne_eqb l lane ne) in omega arith;
  };
}

pub drops_lane : (old new : Contents Waiter) (lane n : ℕ) → DropsList old new lane n → (j : ℕ) → list_at new lane j ≡ cond (eqb j n) None (list_at old lane j)
drops_lane old new lane n A j = A.lists lane j ∙ ap (λ (b : Bool). cond (b && eqb j n) None (list_at old lane j)) (eq-eqb lane lane refl)

pub drops_rest : (old new : Contents Waiter) (lane n : ℕ) → DropsList old new lane n → new.values ≡ old.values → new.spare ≡ old.spare → KeepsRest old new lane
drops_rest old new lane n A ev es = record {
  values = ev;
  spare = es;
  lanes = λ l ne. record {
    lists = λ j. A.lists l j ∙ ap (λ (b : Bool). cond (b && eqb j n) None (list_at old l j)) (ne_eqb l lane ne);
    counts = let c : list_count new l + 0 ≡ list_count old l = ap (λ (b : Bool). list_count new l + cond b 1 0) (sym (ne_eqb l lane ne)) ∙ A.counts l in omega arith;
  };
}

pub rest_twice : (a b c : Contents Waiter) (lane : ℕ) → KeepsRest a b lane → KeepsRest b c lane → KeepsRest a c lane
rest_twice a b c lane R S = record {
  values = S.values ∙ R.values;
  spare = S.spare ∙ R.spare;
  lanes = λ l ne. record {
    lists = λ j. (S.lanes l ne).lists j ∙ (R.lanes l ne).lists j;
    counts = (S.lanes l ne).counts ∙ (R.lanes l ne).counts;
  };
}

pub rest_same : (a : Contents Waiter) (lane : ℕ) → KeepsRest a a lane
rest_same a lane = record { values = refl; spare = refl; lanes = λ l ne. record { lists = λ j. refl; counts = refl } }

-- a list that was added and dropped again
pub added_dropped : (old mid new : Contents Waiter) (lane n : ℕ) → AddsList old mid lane n → DropsList mid new lane n → (j : ℕ) → list_at new lane j ≡ list_at old lane j
added_dropped old mid new lane n A D j =
    drops_lane mid new lane n D j
    ∙ ap (λ (o : Option (List ℕ)). cond (eqb j n) None o) (adds_lane old mid lane n A j)
    ∙ by (eqb j n) refl
  where
    by : (b : Bool) → b ≡ eqb j n → cond b None (cond b (Some []) (list_at old lane j)) ≡ list_at old lane j
    by true q = sym (ap (list_at old lane) (eqb-true j n (sym q)) ∙ A.fresh)
    by false q = refl
