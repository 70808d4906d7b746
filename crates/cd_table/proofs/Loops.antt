-- A step for each value of a list, in a loop.
use Rattle.std.proofs.Common.{◌≡◌, ℕ, ◌+◌, ◌<◌, ◌≤◌, suc, List, [], ◌∷◌, ◌++◌, length, drop, get_or, ap, sym, ◌∙◌, add-one, drop-cons}
use Rattle.std.proofs.lemmas.List.{append-nil, append_assoc, drop_all}
use Rattle.cd_table.specs.declared.tables.Tables.{Tables}
use Rattle.cd_table.specs.Growing.{Growing, each, in_front}

-- a step for a value in front of others
pub each_cons : {A B : Type 0} (step : A → Growing B) (x : A) (xs : List A) (front : List B) (t : Tables) → in_front front (each step (x ∷ xs) t) ≡ in_front (front ++ (step x t).value ∷ []) (each step xs (step x t).tables)
unfolding each
each_cons step x xs front t =
    let rest = each step xs (step x t).tables in
    let joined = append_assoc front ((step x t).value ∷ []) rest.value in
    λ i. record { tables = rest.tables; value = sym joined i }

-- what one more turn gives stands in front of what the others give
pub each_next : {A B : Type 0} (step : A → Growing B) (xs : List A) (k : ℕ) (x : A) (front : List B) (t : Tables) → k < length xs → x ≡ get_or xs k x → in_front front (each step (drop k xs) t) ≡ in_front (front ++ (step x t).value ∷ []) (each step (drop (k + 1) xs) (step x t).tables)
each_next {A} step xs k x front t within at =
    let split : drop k xs ≡ x ∷ drop (k + 1) xs =
    drop-cons xs k x within ∙ ap (λ y. y ∷ drop (suc k) xs) (sym at) ∙ ap (λ n. x ∷ drop n xs) (sym (add-one k)) in
    ap (λ l. in_front front (each step l t)) split ∙ each_cons step x (drop (k + 1) xs) front t

-- one turn of the loop
pub each_turn : {A B : Type 0} (step : A → Growing B) (all xs : List A) (k : ℕ) (x : A) (v : B) (front longer : List B) (first t next : Tables) → each step all first ≡ in_front front (each step (drop k xs) t) → k < length xs → x ≡ get_or xs k x → longer ≡ front ++ v ∷ [] → v ≡ (step x t).value → next ≡ (step x t).tables → each step all first ≡ in_front longer (each step (drop (k + 1) xs) next)
each_turn step all xs k x v front longer first t next so within at more value tables =
    let rest = drop (k + 1) xs in
    so ∙ each_next step xs k x front t within at
    ∙ ap (λ w. in_front (front ++ w ∷ []) (each step rest (step x t).tables)) (sym value)
    ∙ ap (λ l. in_front l (each step rest (step x t).tables)) (sym more)
    ∙ ap (λ u. in_front longer (each step rest u)) (sym tables)

-- after the last turn nothing is left
pub each_done : {A B : Type 0} (step : A → Growing B) (xs : List A) (k : ℕ) (front : List B) (t : Tables) → length xs ≤ k → in_front front (each step (drop k xs) t) ≡ record { tables = t; value = front }
unfolding each
each_done step xs k front t past =
    ap (λ l. in_front front (each step l t)) (drop_all k xs past) ∙ (λ i. record { tables = t; value = append-nil front i })

-- what the loop gives at its end
pub each_given : {A B : Type 0} (step : A → Growing B) (all xs : List A) (k : ℕ) (front : List B) (first t : Tables) → each step all first ≡ in_front front (each step (drop k xs) t) → length xs ≤ k → each step all first ≡ record { tables = t; value = front }
each_given step all xs k front first t so past = so ∙ each_done step xs k front t past
