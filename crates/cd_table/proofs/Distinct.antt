-- A table grown value by value is the values with every later repeat removed.
use Rattle.std.proofs.Common.{◌≡◌, Bool, true, false, not, cond, ◌&&◌, List, [], ◌∷◌, ◌++◌, fold, Decides, refl, ap, sym, ◌∙◌, arith}
use Rattle.std.specs.List.{filter, list_any}
use Rattle.std.specs.Cmp.{both_ways}
use Rattle.std.proofs.lemmas.List.{append-nil, append_assoc}
use Rattle.std.proofs.lemmas.List.Elements.{filter_agree}
use Rattle.std.proofs.lemmas.List.Folds.{list_any-append}
use Rattle.cd_block.specs.Tables.{table_of}
use Rattle.cd_table.specs.Interning.{put}

-- a filter of what a filter kept keeps what passes both
filter-filter : {T : Type 0} (p q : T → Bool) (xs : List T) → filter p (filter q xs) ≡ filter (λ x. q x && p x) xs
filter-filter p q [] = refl
filter-filter p q (x ∷ xs) = grind (arith, filter-filter p q xs)

-- whether a table lacks a value
abbrev lacks : {T : Type 0} → (T → T → Bool) → List T → T → Bool
lacks same table w = not (list_any (same w) table)

-- a filter by a test that all pass keeps all
filter-all : {T : Type 0} (xs : List T) → filter (λ _. true) xs ≡ xs
filter-all [] = refl
filter-all (x ∷ xs) = ap (λ ys. x ∷ ys) (filter-all xs)

-- what a table lacks is no repeat of a value that it has
lacks-found : {T : Type 0} (same : T → T → Bool) → ((a b : T) → Decides (same a b) (a ≡ b)) → (table : List T) (v : T) → lacks same table v ≡ false → (w : T) → (not (same v w) && lacks same table w) ≡ lacks same table w
lacks-found same decides table v has w =
    let P : Bool → Type 0 = λ b. same v w ≡ b → (not b && lacks same table w) ≡ lacks same table w in
    let cases : (b : Bool) → P b =
    λ b. elim b as P [ true ↦ λ e. sym has ∙ ap (lacks same table) ((decides v w).0 e) | false ↦ λ _. refl ] in
    cases (same v w) refl

-- a test that decides equality asks the same both ways
pub same-sym : {T : Type 0} (same : T → T → Bool) → ((a b : T) → Decides (same a b) (a ≡ b)) → (a b : T) → same a b ≡ same b a
same-sym same decides a b = both_ways (same a b) (same b a) (λ e. (decides b a).1 (sym ((decides a b).0 e))) (λ e. (decides a b).1 (sym ((decides b a).0 e)))

-- a longer table lacks what the shorter one lacks and is no repeat of the last value
lacks-push : {T : Type 0} (same : T → T → Bool) → ((a b : T) → Decides (same a b) (a ≡ b)) → (table : List T) (v w : T) → (not (same v w) && lacks same table w) ≡ lacks same (table ++ v ∷ []) w
lacks-push same decides table v w =
    let pushed = list_any-append (same w) table (v ∷ []) in
    let turned = same-sym same decides v w in
    grind (arith, pushed, turned)

-- a table that takes many values has after its own those that it lacks, each once
fold_put-from : {T : Type 0} (same : T → T → Bool) → ((a b : T) → Decides (same a b) (a ≡ b)) → (table values : List T) → fold (put same) table values ≡ table ++ filter (lacks same table) (table_of same values)
fold_put-from same decides table [] = sym (append-nil table)
fold_put-from {T} same decides table (v ∷ vs) =
    let rest : List T = table_of same vs in
    let longer : List T = table ++ v ∷ [] in
    let others : List T = filter (lacks same table) (filter (λ w. not (same v w)) rest) in
    let P : Bool → Type 0 =
    λ b. list_any (same v) table ≡ b → fold (put same) (cond b table longer) vs ≡ table ++ cond (not b) (v ∷ others) others in
    let merged = filter-filter (lacks same table) (λ w. not (same v w)) rest in
    let old : list_any (same v) table ≡ true → fold (put same) table vs ≡ table ++ others =
    λ e. fold_put-from same decides table vs
    ∙ ap (λ r. table ++ r) (sym (merged ∙ filter_agree (λ w. not (same v w) && lacks same table w) (lacks same table) (lacks-found same decides table v (ap not e)) rest)) in
    let new : fold (put same) longer vs ≡ table ++ (v ∷ others) =
    fold_put-from same decides longer vs ∙ append_assoc table (v ∷ []) (filter (lacks same longer) rest)
    ∙ ap (λ r. table ++ (v ∷ r)) (sym (merged ∙ filter_agree (λ w. not (same v w) && lacks same table w) (lacks same longer) (lacks-push same decides table v) rest)) in
    let cases : (b : Bool) → P b = λ b. elim b as P [ true ↦ old | false ↦ λ _. new ] in
    cases (list_any (same v) table) refl

-- a table grown from nothing is the values with every later repeat removed
pub fold_put : {T : Type 0} (same : T → T → Bool) → ((a b : T) → Decides (same a b) (a ≡ b)) → (values : List T) → fold (put same) [] values ≡ table_of same values
fold_put same decides values = fold_put-from same decides [] values ∙ filter-all (table_of same values)
