-- What is kept when a list of a lane is added or dropped.
use Rattle.std.proofs.Common.{◌≡◌, ℕ, ◌<◌, ◌+◌, List, [], ◌∷◌, ◌++◌, length, set, Option, Some, None, refl, ap, sym, ◌∙◌, subst, arith, inl, inr}
use Rattle.std.specs.Prelude.{is_some}
use Rattle.std.proofs.lemmas.Bool.{cases_lt, both_ways}
use Rattle.std.proofs.lemmas.List.{get_or-set_same, get_or-set_other, get_or_past, get_or_append_left, get_or-map, map-set, map-append, length-append, length-map}
use Rattle.std.proofs.Math.Seq.{get_or-append_seam}
use Rattle.cd_chain.specs.declared.lane.Row.{Row}
use Rattle.cd_chain.specs.declared.lane.Row.TheVariants.{There, Free}
use Rattle.cd_chain.specs.Lanes.{row_at}
use Rattle.cd_chain.specs.Cells.{cell_at, AreFree, used_cells, row_cell, row_cells}
use Rattle.cd_chain.specs.Lists.{IsThere, no_ends, AddsRow, DropsRow}
use Rattle.cd_chain.proofs.FreeNumbers.{free_within, head_free, took_any, gave, made_used, used_took, used_gave, used_push, none_free}

-- the number that is given out next
pub free_row_within : (rows : List Row) (k : ℕ) → AreFree (row_cells rows) (Some k) → k < length rows
free_row_within rows k R = let lt : k < length (row_cells rows) = free_within (row_cells rows) k (head_free (row_cells rows) k R) in rw length-map at lt

cell_of : (rows : List Row) (k : ℕ) → k < length rows → cell_at (row_cells rows) k ≡ row_cell (row_at rows k)
cell_of rows k lt = get_or-map row_cell rows k (Free None) None lt

there_used : (r : Row) → IsThere r → row_cell r ≡ None
there_used (There e) h = refl
there_used (Free next) h = absurd h

pub free_row_gone : (rows : List Row) (k : ℕ) → AreFree (row_cells rows) (Some k) → IsThere (row_at rows k) → ⊥
free_row_gone rows k R h = both_ways _
    (ap (λ (c : Option (Option ℕ)). is_some c) (cell_of rows k (free_row_within rows k R) ∙ there_used (row_at rows k) h))
    (head_free (row_cells rows) k R)

-- a list comes under a number that was free
pub adds_freed : (rows rows' : List Row) (k : ℕ) (next head : Option ℕ) → head ≡ Some k → AreFree (row_cells rows) head → row_at rows k ≡ Free next → rows' ≡ set rows k (There no_ends) → AddsRow rows rows' next k
adds_freed rows rows' k next head eh R0 e er =
    let R : AreFree (row_cells rows) (Some k) = subst (λ (h : Option ℕ). AreFree (row_cells rows) h) eh R0 in
    let lt : k < length rows = free_row_within rows k R in
    let c : cell_at (row_cells rows) k ≡ Some next = cell_of rows k lt ∙ ap row_cell e in
    let cells : row_cells (set rows k (There no_ends)) ≡ set (row_cells rows) k None = map-set row_cell rows k (There no_ends) in
    subst (λ (rs : List Row). AddsRow rows rs next k) (sym er) (record {
      was = λ h. subst IsThere e h;
      there = get_or-set_same rows k (There no_ends) (Free None) lt;
      kept = λ j ne. get_or-set_other rows k j (There no_ends) (Free None) ne;
      frees = subst (λ (cs : List (Option (Option ℕ))). AreFree cs next) (sym cells) (took_any (row_cells rows) k next c R);
      used = ap used_cells cells ∙ used_took (row_cells rows) k next c;
    })

-- a list comes under one more number
pub adds_new : (rows rows' : List Row) (head head' : Option ℕ) → head ≡ None → head' ≡ None → AreFree (row_cells rows) head → rows' ≡ rows ++ There no_ends ∷ [] → AddsRow rows rows' head' (length rows)
adds_new rows rows' head head' eh eh' R0 er =
    let R : AreFree (row_cells rows) None = subst (λ (h : Option ℕ). AreFree (row_cells rows) h) eh R0 in
    let r' : List Row = rows ++ There no_ends ∷ [] in
    let cells : row_cells (rows ++ There no_ends ∷ []) ≡ row_cells rows ++ None ∷ [] = map-append row_cell rows (There no_ends ∷ []) in
    subst (λ (h : Option ℕ). AddsRow rows rows' h (length rows)) (sym eh') (subst (λ (rs : List Row). AddsRow rows rs None (length rows)) (sym er) (record {
      was = λ h. subst IsThere (get_or_past rows (length rows) (Free None) (omega arith)) h;
      there = get_or-append_seam rows (There no_ends) [] (Free None);
      kept = λ j ne. elim (cases_lt j (length rows)) [
        | inl lt ↦ get_or_append_left rows (There no_ends ∷ []) (Free None) j lt
        | inr le ↦ get_or_past (rows ++ There no_ends ∷ []) j (Free None) (omega (arith, length-append rows (There no_ends ∷ []))) ∙ sym (get_or_past rows j (Free None) le)
      ];
      frees = subst (λ (cs : List (Option (Option ℕ))). AreFree cs None) (sym cells) (made_used (row_cells rows) None R);
      used = ap used_cells cells ∙ used_push (row_cells rows) None;
    }))

-- where no number is free, there are as many as lists
pub all_there : (rows : List Row) (head : Option ℕ) → head ≡ None → AreFree (row_cells rows) head → used_cells (row_cells rows) ≡ length rows
all_there rows head eh R = none_free (row_cells rows) (subst (λ (h : Option ℕ). AreFree (row_cells rows) h) eh R) ∙ length-map rows row_cell

-- the number of a list is free again
pub drops : (rows rows' : List Row) (k : ℕ) (head : Option ℕ) → k < length rows → IsThere (row_at rows k) → AreFree (row_cells rows) head → rows' ≡ set rows k (Free head) → DropsRow rows rows' k
drops rows rows' k head lt h R er =
    let c : cell_at (row_cells rows) k ≡ None = cell_of rows k lt ∙ there_used (row_at rows k) h in
    let cells : row_cells (set rows k (Free head)) ≡ set (row_cells rows) k (Some head) = map-set row_cell rows k (Free head) in
    let lc : k < length (row_cells rows) = rw length-map lt in
    subst (λ (rs : List Row). DropsRow rows rs k) (sym er) (record {
      gone = λ w. subst IsThere (get_or-set_same rows k (Free head) (Free None) lt) w;
      kept = λ j ne. get_or-set_other rows k j (Free head) (Free None) ne;
      frees = subst (λ (cs : List (Option (Option ℕ))). AreFree cs (Some k)) (sym cells) (gave (row_cells rows) k head _ refl lc c R).are;
      used = ap (λ (n : ℕ). n + 1) (ap used_cells cells) ∙ used_gave (row_cells rows) k head lc c;
    })
