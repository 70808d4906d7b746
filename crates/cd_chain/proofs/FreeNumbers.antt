-- What is left of the free numbers when one is taken, given back or made.
use Rattle.std.proofs.Common.{◌≡◌, ℕ, zero, suc, ◌<◌, ◌≤◌, ◌+◌, Bool, true, false, not, List, [], ◌∷◌, ◌++◌, length, set, get_or, cond, Option, Some, None, refl, ap, sym, ◌∙◌, subst, arith, inl, inr}
use Rattle.std.specs.Prelude.{is_some, IsSome}
use Rattle.std.specs.List.{sum_by}
use Rattle.std.proofs.lemmas.Bool.{ne_eqb, both_ways, cases_eq, cases_lt}
use Rattle.std.proofs.lemmas.Option.{none-some}
use Rattle.std.proofs.lemmas.List.{get_or-set_same, get_or-set_other, get_or_past, get_or_append_left, length-append}
use Rattle.std.proofs.Math.Seq.{get_or-append_seam}
use Rattle.std.proofs.lemmas.List.Sums.{sum_by-set, sum_by-cons, sum_by_push}
use Rattle.std.proofs.lemmas.Map.Steps.{length-le_from_distinct_below}
use Rattle.cd_chain.specs.Cells.{is_in, walk, IsRun, lead_of, cell_at, next_in, free_from, IsFreeRun, AreFree, used_cells}
use Rattle.cd_chain.proofs.Linking.{head_in, tail_in, distinct}

run_same : (next next' : ℕ → Option ℕ) (o : Option ℕ) (ss : List ℕ) → ((t : ℕ) → is_in t ss ≡ true → next' t ≡ next t) → IsRun next o ss → IsRun next' o ss
run_same next next' o [] h r = r
run_same next next' o (s ∷ ss) h r = (r.0, subst (λ (x : Option ℕ). IsRun next' x ss) (sym (h s (head_in s ss))) (run_same next next' (next s) ss (λ t i. h t (tail_in t s ss i)) r.1))

run_walked : (next : ℕ → Option ℕ) (o : Option ℕ) (ss : List ℕ) (fuel : ℕ) → length ss ≤ fuel → IsRun next o ss → walk next fuel o ≡ ss
run_walked next o [] zero le r = refl
run_walked next o [] (suc fuel) le r = ap (walk next (suc fuel)) r
run_walked next o (s ∷ ss) zero le r = absurd (omega arith)
run_walked next o (s ∷ ss) (suc fuel) le r = ap (walk next (suc fuel)) r.0 ∙ ap (λ (xs : List ℕ). s ∷ xs) (run_walked next (next s) ss fuel (omega arith) r.1)

-- a number that is free is below their number
pub free_within : (cells : List (Option (Option ℕ))) (s : ℕ) → is_some (cell_at cells s) ≡ true → s < length cells
free_within cells s h = elim (cases_lt s (length cells)) [
  | inl lt ↦ lt
  | inr le ↦ absurd (both_ways _ (ap (λ (c : Option (Option ℕ)). is_some c) (get_or_past cells s None le)) h)
]

frees_short : (cells : List (Option (Option ℕ))) (head : Option ℕ) (frees : List ℕ) → IsFreeRun cells head frees → length frees ≤ length cells
frees_short cells head frees R = length-le_from_distinct_below frees (length cells) (distinct frees R.distinct) (λ q h. free_within cells q (sym (R.all q) ∙ h))

free_is : (cells : List (Option (Option ℕ))) (head : Option ℕ) (frees : List ℕ) → IsFreeRun cells head frees → free_from cells head ≡ frees
free_is cells head frees R = run_walked (next_in cells) head frees (length cells) (frees_short cells head frees R) R.run

-- the free numbers are met, and how many there are
pub record Frees (cells : List (Option (Option ℕ))) (head : Option ℕ) (many : ℕ) : Type 0 where
  pub are : AreFree cells head
  pub count : length (free_from cells head) ≡ many

frees_are : (cells : List (Option (Option ℕ))) (head : Option ℕ) (frees : List ℕ) → IsFreeRun cells head frees → Frees cells head (length frees)
frees_are cells head frees R = record {
  are = subst (IsFreeRun cells head) (sym (free_is cells head frees R)) R;
  count = ap (λ (xs : List ℕ). length xs) (free_is cells head frees R);
}

head_of_run : (cells : List (Option (Option ℕ))) (s : ℕ) (frees : List ℕ) → IsFreeRun cells (Some s) frees → is_some (cell_at cells s) ≡ true
head_of_run cells s [] R = absurd (none-some s (sym R.run))
head_of_run cells s (t ∷ ss) R =
    let e : Some s ≡ Some t = R.run.0 in
    let s_t : t ≡ s = cc in
    sym (R.all s) ∙ subst (λ (x : ℕ). is_in s (x ∷ ss) ≡ true) (sym s_t) (head_in s ss)

-- the first free number is free
pub head_free : (cells : List (Option (Option ℕ))) (s : ℕ) → AreFree cells (Some s) → is_some (cell_at cells s) ≡ true
head_free cells s R = head_of_run cells s (free_from cells (Some s)) R

took_here : (cells : List (Option (Option ℕ))) (s : ℕ) (next : Option ℕ) (ss : List ℕ) → cell_at cells s ≡ Some next → IsFreeRun cells (Some s) (s ∷ ss) → IsFreeRun (set cells s None) next ss
took_here cells s next ss e R =
    let lt : s < length cells = free_within cells s (ap (λ (c : Option (Option ℕ)). is_some c) e) in
    record {
      run = run_same (next_in cells) (next_in (set cells s None)) next ss
          (λ t i. ap lead_of (get_or-set_other cells s t None None (λ q. both_ways _ R.distinct.0 (subst (λ (x : ℕ). is_in x ss ≡ true) q i))))
          (subst (λ (x : Option ℕ). IsRun (next_in cells) x ss) (ap lead_of e) R.run.1);
      distinct = R.distinct.1;
      all = λ t. elim (cases_eq t s) [
        | inl q ↦ subst (λ (x : ℕ). is_in x ss ≡ is_some (cell_at (set cells s None) x)) (sym q)
            (R.distinct.0 ∙ sym (ap (λ (c : Option (Option ℕ)). is_some c) (get_or-set_same cells s None None lt)))
        | inr ne ↦ (rw (ne_eqb t s ne) at (R.all t)) ∙ sym (ap (λ (c : Option (Option ℕ)). is_some c) (get_or-set_other cells s t None None ne))
      ];
    }

took_run : (cells : List (Option (Option ℕ))) (s : ℕ) (next : Option ℕ) (frees : List ℕ) (many : ℕ) → length frees ≡ many + 1 → cell_at cells s ≡ Some next → IsFreeRun cells (Some s) frees → Frees (set cells s None) next many
took_run cells s next [] many l e R = absurd (none-some s (sym R.run))
took_run cells s next (t ∷ ss) many l e R =
    let w : Some s ≡ Some t = R.run.0 in
    let t_s : t ≡ s = cc in
    let m : length ss ≡ many = omega arith in
    subst (Frees (set cells s None) next) m (frees_are (set cells s None) next ss (took_here cells s next ss e (subst (λ (x : ℕ). IsFreeRun cells (Some s) (x ∷ ss)) t_s R)))

-- the first free number is taken
pub took : (cells : List (Option (Option ℕ))) (s : ℕ) (next : Option ℕ) (many : ℕ) → length (free_from cells (Some s)) ≡ many + 1 → cell_at cells s ≡ Some next → AreFree cells (Some s) → Frees (set cells s None) next many
took cells s next many l e R = took_run cells s next (free_from cells (Some s)) many l e R

took_run_any : (cells : List (Option (Option ℕ))) (s : ℕ) (next : Option ℕ) (frees : List ℕ) → cell_at cells s ≡ Some next → IsFreeRun cells (Some s) frees → AreFree (set cells s None) next
took_run_any cells s next [] e R = absurd (none-some s (sym R.run))
took_run_any cells s next (t ∷ ss) e R = (took_run cells s next (t ∷ ss) (length ss) (omega arith) e R).are

-- the same, of no matter how many
pub took_any : (cells : List (Option (Option ℕ))) (s : ℕ) (next : Option ℕ) → cell_at cells s ≡ Some next → AreFree cells (Some s) → AreFree (set cells s None) next
took_any cells s next e R = took_run_any cells s next (free_from cells (Some s)) e R

gave_here : (cells : List (Option (Option ℕ))) (s : ℕ) (head : Option ℕ) (frees : List ℕ) → s < length cells → cell_at cells s ≡ None → IsFreeRun cells head frees → IsFreeRun (set cells s (Some head)) (Some s) (s ∷ frees)
gave_here cells s head frees lt e R =
    let out : is_in s frees ≡ false = R.all s ∙ ap (λ (c : Option (Option ℕ)). is_some c) e in
    record {
      run = (
        refl,
        subst (λ (x : Option ℕ). IsRun (next_in (set cells s (Some head))) x frees) (sym (ap lead_of (get_or-set_same cells s (Some head) None lt)))
            (run_same (next_in cells) (next_in (set cells s (Some head))) head frees
            (λ t i. ap lead_of (get_or-set_other cells s t (Some head) None (λ q. both_ways _ out (subst (λ (x : ℕ). is_in x frees ≡ true) q i)))) R.run),
      );
      distinct = (out, R.distinct);
      all = λ t. elim (cases_eq t s) [
        | inl q ↦ subst (λ (x : ℕ). is_in x (s ∷ frees) ≡ is_some (cell_at (set cells s (Some head)) x)) (sym q)
            (head_in s frees ∙ sym (ap (λ (c : Option (Option ℕ)). is_some c) (get_or-set_same cells s (Some head) None lt)))
        | inr ne ↦ rw (ne_eqb t s ne) (R.all t ∙ sym (ap (λ (c : Option (Option ℕ)). is_some c) (get_or-set_other cells s t (Some head) None ne)))
      ];
    }

-- a number is given back
pub gave : (cells : List (Option (Option ℕ))) (s : ℕ) (head : Option ℕ) (many : ℕ) → length (free_from cells head) ≡ many → s < length cells → cell_at cells s ≡ None → AreFree cells head → Frees (set cells s (Some head)) (Some s) (many + 1)
gave cells s head many l lt e R =
    let m : length (s ∷ free_from cells head) ≡ many + 1 = omega arith in
    subst (Frees (set cells s (Some head)) (Some s)) m (frees_are (set cells s (Some head)) (Some s) (s ∷ free_from cells head) (gave_here cells s head (free_from cells head) lt e R))

past_one : (cells : List (Option (Option ℕ))) (c : Option (Option ℕ)) (t : ℕ) → (t ≡ length cells → ⊥) → cell_at (cells ++ c ∷ []) t ≡ cell_at cells t
past_one cells c t ne = elim (cases_lt t (length cells)) [
  | inl lt ↦ get_or_append_left cells (c ∷ []) None t lt
  | inr le ↦ get_or_past (cells ++ c ∷ []) t None (omega (arith, length-append cells (c ∷ []))) ∙ sym (get_or_past cells t None le)
]

made_here : (cells : List (Option (Option ℕ))) (head : Option ℕ) (frees : List ℕ) → IsFreeRun cells head frees → IsFreeRun (cells ++ Some head ∷ []) (Some (length cells)) (length cells ∷ frees)
made_here cells head frees R =
    let n : ℕ = length cells in
    let out : is_in (length cells) frees ≡ false = R.all (length cells) ∙ ap (λ (c : Option (Option ℕ)). is_some c) (get_or_past cells (length cells) None (omega arith)) in
    record {
      run = (
        refl,
        subst (λ (x : Option ℕ). IsRun (next_in (cells ++ Some head ∷ [])) x frees) (sym (ap lead_of (get_or-append_seam cells (Some head) [] None)))
            (run_same (next_in cells) (next_in (cells ++ Some head ∷ [])) head frees
            (λ t i. ap lead_of (past_one cells (Some head) t (λ q. both_ways _ out (subst (λ (x : ℕ). is_in x frees ≡ true) q i)))) R.run),
      );
      distinct = (out, R.distinct);
      all = λ t. elim (cases_eq t (length cells)) [
        | inl q ↦ subst (λ (x : ℕ). is_in x (length cells ∷ frees) ≡ is_some (cell_at (cells ++ Some head ∷ []) x)) (sym q)
            (head_in (length cells) frees ∙ sym (ap (λ (c : Option (Option ℕ)). is_some c) (get_or-append_seam cells (Some head) [] None)))
        | inr ne ↦ rw (ne_eqb t (length cells) ne) (R.all t ∙ sym (ap (λ (c : Option (Option ℕ)). is_some c) (past_one cells (Some head) t ne)))
      ];
    }

-- one more free number is made
pub made : (cells : List (Option (Option ℕ))) (head : Option ℕ) (many : ℕ) → length (free_from cells head) ≡ many → AreFree cells head → Frees (cells ++ Some head ∷ []) (Some (length cells)) (many + 1)
made cells head many l R =
    let m : length (length cells ∷ free_from cells head) ≡ many + 1 = omega arith in
    subst (Frees (cells ++ Some head ∷ []) (Some (length cells))) m (frees_are (cells ++ Some head ∷ []) (Some (length cells)) (length cells ∷ free_from cells head) (made_here cells head (free_from cells head) R))

used_more : (cells : List (Option (Option ℕ))) (t : ℕ) → cell_at (cells ++ None ∷ []) t ≡ cell_at cells t
used_more cells t = elim (cases_eq t (length cells)) [
  | inl q ↦ subst (λ (x : ℕ). cell_at (cells ++ None ∷ []) x ≡ cell_at cells x) (sym q) (get_or-append_seam cells None [] None ∙ sym (get_or_past cells (length cells) None (omega arith)))
  | inr ne ↦ past_one cells None t ne
]

-- one more number is made that is in use
pub made_used : (cells : List (Option (Option ℕ))) (head : Option ℕ) → AreFree cells head → AreFree (cells ++ None ∷ []) head
made_used cells head R =
    let frees : List ℕ = free_from cells head in
    let F : IsFreeRun (cells ++ None ∷ []) head frees = record {
      run = run_same (next_in cells) (next_in (cells ++ None ∷ [])) head frees (λ t i. ap lead_of (used_more cells t)) R.run;
      distinct = R.distinct;
      all = λ t. R.all t ∙ sym (ap (λ (c : Option (Option ℕ)). is_some c) (used_more cells t));
    } in
    (frees_are (cells ++ None ∷ []) head frees F).are

-- how many are in use, when one more is, or one less
abbrev weight : Option (Option ℕ) → ℕ
weight c = cond (not (is_some c)) 1 0

pub used_took : (cells : List (Option (Option ℕ))) (s : ℕ) (next : Option ℕ) → cell_at cells s ≡ Some next → used_cells (set cells s None) ≡ used_cells cells + 1
used_took cells s next e =
    let lt : s < length cells = free_within cells s (ap (λ (c : Option (Option ℕ)). is_some c) e) in
    let h : sum_by weight (set cells s None) + weight (get_or cells s None) ≡ sum_by weight cells + weight None = sum_by-set weight cells s None None lt in
    let w : weight (get_or cells s None) ≡ 0 = ap weight e in
    omega arith

pub used_gave : (cells : List (Option (Option ℕ))) (s : ℕ) (head : Option ℕ) → s < length cells → cell_at cells s ≡ None → used_cells (set cells s (Some head)) + 1 ≡ used_cells cells
used_gave cells s head lt e =
    let h : sum_by weight (set cells s (Some head)) + weight (get_or cells s None) ≡ sum_by weight cells + weight (Some head) = sum_by-set weight cells s (Some head) None lt in
    let w : weight (get_or cells s None) ≡ 1 = ap weight e in
    omega arith

pub used_push : (cells : List (Option (Option ℕ))) (c : Option (Option ℕ)) → used_cells (cells ++ c ∷ []) ≡ used_cells cells + weight c
used_push cells c = sum_by_push weight cells c

all_used : (cells : List (Option (Option ℕ))) → ((t : ℕ) → is_some (cell_at cells t) ≡ false) → used_cells cells ≡ length cells
all_used [] h = refl
all_used (c ∷ cs) h =
    let one : weight c ≡ 1 = ap (λ (b : Bool). cond (not b) 1 0) (h 0) in
    let more : used_cells cs ≡ length cs = all_used cs (λ t. h (suc t)) in
    let e : used_cells (c ∷ cs) ≡ weight c + used_cells cs = sum_by-cons weight c cs in
    omega arith

no_run : (cells : List (Option (Option ℕ))) (frees : List ℕ) → IsFreeRun cells None frees → (t : ℕ) → is_some (cell_at cells t) ≡ false
no_run cells [] R t = sym (R.all t)
no_run cells (s ∷ ss) R t = absurd (none-some s R.run.0)

-- where nothing is free, all are in use
pub none_free : (cells : List (Option (Option ℕ))) → AreFree cells None → used_cells cells ≡ length cells
none_free cells R = all_used cells (no_run cells (free_from cells None) R)

some_head : (cells : List (Option (Option ℕ))) (head : Option ℕ) → 0 < length (free_from cells head) → IsFreeRun cells head (free_from cells head) → (o : Option ℕ) → head ≡ o → IsSome o
some_head cells head lt R (Some s) e = refl
some_head cells head lt R None e =
    let z : free_from cells head ≡ [] = free_is cells head [] (record { run = e; distinct = tt; all = λ t. sym (no_run cells (free_from cells None) (subst (λ (x : Option ℕ). AreFree cells x) e R) t) }) in
    let l : length (free_from cells head) ≡ 0 = ap (λ (xs : List ℕ). length xs) z in
    absurd (omega arith)

-- where some number is free, there is a first one
pub head_there : (cells : List (Option (Option ℕ))) (head : Option ℕ) → 0 < length (free_from cells head) → AreFree cells head → IsSome head
head_there cells head lt R = some_head cells head lt R head refl
