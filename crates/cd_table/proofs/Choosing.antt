-- A step for each value that is made of the values of a list, or of those that pass a test, in a loop.
use Rattle.std.proofs.Common.{◌≡◌, ℕ, ◌+◌, ◌<◌, ◌≤◌, suc, Bool, true, false, cond, List, [], ◌∷◌, ◌++◌, map, length, drop, get_or, ap, sym, ◌∙◌, add-one, drop-cons}
use Rattle.std.specs.List.{filter}
use Rattle.std.proofs.lemmas.List.{append-nil, drop_all}
use Rattle.cd_table.specs.declared.tables.Tables.{Tables}
use Rattle.cd_table.specs.Growing.{Growing, each, in_front}
use Rattle.cd_table.proofs.Loops.{each_cons}

-- what is made of the values that pass a test
abbrev pub chosen : {A B : Type 0} → (A → Bool) → (A → B) → List A → List B
chosen p f xs = map f (filter p xs)

-- the value at an index stands before those after it
split_at : {A : Type 0} (xs : List A) (k : ℕ) (x : A) → k < length xs → x ≡ get_or xs k x → drop k xs ≡ x ∷ drop (k + 1) xs
split_at xs k x within at =
    drop-cons xs k x within ∙ ap (λ y. y ∷ drop (suc k) xs) (sym at) ∙ ap (λ n. x ∷ drop n xs) (sym (add-one k))

-- one step more, whose value is put after those that were given
next_step : {B C : Type 0} (step : B → Growing C) (all : List B) (y : B) (rest : List B) (v : C) (front longer : List C) (first t next : Tables) →
    each step all first ≡ in_front front (each step (y ∷ rest) t) →
    longer ≡ front ++ v ∷ [] → v ≡ (step y t).value → next ≡ (step y t).tables →
    each step all first ≡ in_front longer (each step rest next)
next_step step all y rest v front longer first t next so more value tables =
    so ∙ each_cons step y rest front t
    ∙ ap (λ w. in_front (front ++ w ∷ []) (each step rest (step y t).tables)) (sym value)
    ∙ ap (λ l. in_front l (each step rest (step y t).tables)) (sym more)
    ∙ ap (λ u. in_front longer (each step rest u)) (sym tables)

-- nothing is left
nothing_left : {B C : Type 0} (step : B → Growing C) (all rest : List B) (front : List C) (first t : Tables) →
    each step all first ≡ in_front front (each step rest t) → rest ≡ [] → each step all first ≡ record { tables = t; value = front }
unfolding each
nothing_left step all rest front first t so none =
    so ∙ ap (λ l. in_front front (each step l t)) none ∙ (λ i. record { tables = t; value = append-nil front i })

-- a turn of a loop that makes a value of each
pub mapped_turn : {A B C : Type 0} (step : B → Growing C) (f : A → B) (all : List B) (xs : List A) (k : ℕ) (x : A) (v : C) (front longer : List C) (first t next : Tables) →
    each step all first ≡ in_front front (each step (map f (drop k xs)) t) → k < length xs → x ≡ get_or xs k x →
    longer ≡ front ++ v ∷ [] → v ≡ (step (f x) t).value → next ≡ (step (f x) t).tables →
    each step all first ≡ in_front longer (each step (map f (drop (k + 1) xs)) next)
mapped_turn step f all xs k x v front longer first t next so within at more value tables =
    next_step step all (f x) (map f (drop (k + 1) xs)) v front longer first t next
    (so ∙ ap (λ l. in_front front (each step (map f l) t)) (split_at xs k x within at)) more value tables

-- its end
pub mapped_given : {A B C : Type 0} (step : B → Growing C) (f : A → B) (all : List B) (xs : List A) (k : ℕ) (front : List C) (first t : Tables) →
    each step all first ≡ in_front front (each step (map f (drop k xs)) t) → length xs ≤ k →
    each step all first ≡ record { tables = t; value = front }
mapped_given step f all xs k front first t so past =
    nothing_left step all (map f (drop k xs)) front first t so (ap (map f) (drop_all k xs past))

-- the value at an index that passes the test
passed : {A B : Type 0} (p : A → Bool) (f : A → B) (x : A) (xs : List A) → p x ≡ true → chosen p f (x ∷ xs) ≡ f x ∷ chosen p f xs
passed p f x xs passes = ap (λ b. map f (cond b (x ∷ filter p xs) (filter p xs))) passes

-- one that does not
refused : {A B : Type 0} (p : A → Bool) (f : A → B) (x : A) (xs : List A) → p x ≡ false → chosen p f (x ∷ xs) ≡ chosen p f xs
refused p f x xs fails = ap (λ b. map f (cond b (x ∷ filter p xs) (filter p xs))) fails

-- a turn at a value that passes the test
pub chosen_turn : {A B C : Type 0} (step : B → Growing C) (p : A → Bool) (f : A → B) (all : List B) (xs : List A) (k : ℕ) (x : A) (v : C) (front longer : List C) (first t next : Tables) →
    each step all first ≡ in_front front (each step (chosen p f (drop k xs)) t) → k < length xs → x ≡ get_or xs k x → p x ≡ true →
    longer ≡ front ++ v ∷ [] → v ≡ (step (f x) t).value → next ≡ (step (f x) t).tables →
    each step all first ≡ in_front longer (each step (chosen p f (drop (k + 1) xs)) next)
chosen_turn step p f all xs k x v front longer first t next so within at passes more value tables =
    let rest = drop (k + 1) xs in
    next_step step all (f x) (chosen p f rest) v front longer first t next
    (so ∙ ap (λ l. in_front front (each step (chosen p f l) t)) (split_at xs k x within at)
    ∙ ap (λ l. in_front front (each step l t)) (passed p f x rest passes)) more value tables

-- a turn at one that does not
pub chosen_skip : {A B C : Type 0} (step : B → Growing C) (p : A → Bool) (f : A → B) (all : List B) (xs : List A) (k : ℕ) (x : A) (front : List C) (first t : Tables) →
    each step all first ≡ in_front front (each step (chosen p f (drop k xs)) t) → k < length xs → x ≡ get_or xs k x → p x ≡ false →
    each step all first ≡ in_front front (each step (chosen p f (drop (k + 1) xs)) t)
chosen_skip step p f all xs k x front first t so within at fails =
    so ∙ ap (λ l. in_front front (each step (chosen p f l) t)) (split_at xs k x within at)
    ∙ ap (λ l. in_front front (each step l t)) (refused p f x (drop (k + 1) xs) fails)

-- the end
pub chosen_given : {A B C : Type 0} (step : B → Growing C) (p : A → Bool) (f : A → B) (all : List B) (xs : List A) (k : ℕ) (front : List C) (first t : Tables) →
    each step all first ≡ in_front front (each step (chosen p f (drop k xs)) t) → length xs ≤ k →
    each step all first ≡ record { tables = t; value = front }
chosen_given step p f all xs k front first t so past =
    nothing_left step all (chosen p f (drop k xs)) front first t so (ap (chosen p f) (drop_all k xs past))
