-- That a value is among others, and the place of a value in the table of some values.
use Rattle.std.proofs.Common.{◌≡◌, suc, ◌+◌, ◌<◌, Bool, true, false, not, cond, List, [], ◌∷◌, ◌++◌, length, map, Option, Some, None, Decides, refl, ap, sym, subst, ◌∙◌, inl, inr, arith}
use Rattle.std.specs.Prelude.{◌⊎◌, slice_get}
use Rattle.std.specs.List.{filter, filter_map, flat_map, position_or_len, AllByRecursion}
use Rattle.std.specs.Option.{option_map}
use Rattle.std.proofs.lemmas.Option.{slice_get-map}
use Rattle.cd_block.specs.Tables.{table_of, index_in}

-- a value is among some values
abbrev pub Among : {T : Type 0} → T → List T → Type 0
Among v [] = ⊥
Among v (x ∷ xs) = (v ≡ x) ⊎ Among v xs

-- what holds of each of some values holds of a value among them
pub all_among : {T : Type 0} (P : T → Type 0) (xs : List T) (x : T) → AllByRecursion P xs → Among x xs → P x
all_among P [] x all m = absurd m
all_among P (y ∷ ys) x all (inl e) = subst P (sym e) all.0
all_among P (y ∷ ys) x all (inr m) = all_among P ys x all.1 m

-- a value among the first of two lists
pub among_first : {T : Type 0} (v : T) (xs ys : List T) → Among v xs → Among v (xs ++ ys)
among_first v [] ys m = absurd m
among_first v (x ∷ xs) ys (inl e) = inl e
among_first v (x ∷ xs) ys (inr m) = inr (among_first v xs ys m)

-- a value among the second of two lists
pub among_second : {T : Type 0} (v : T) (xs ys : List T) → Among v ys → Among v (xs ++ ys)
among_second v [] ys m = m
among_second v (x ∷ xs) ys m = inr (among_second v xs ys m)

-- a value among those of one of some lists
pub among_each : {S T : Type 0} (f : S → List T) (xs : List S) (x : S) (v : T) → Among x xs → Among v (f x) → Among v (flat_map f xs)
among_each f [] x v m n = absurd m
among_each f (y ∷ ys) x v (inl e) n = among_first v (f y) (flat_map f ys) (let P : _ → Type 0 = λ z. Among v (f z) in subst P e n)
among_each f (y ∷ ys) x v (inr m) n = among_second v (f y) (flat_map f ys) (among_each f ys x v m n)

-- a value that passes is among those that pass
among_filter : {T : Type 0} (p : T → Bool) (xs : List T) (x : T) → p x ≡ true → Among x xs → Among x (filter p xs)
among_filter p [] x passes m = absurd m
among_filter {T} p (y ∷ ys) x passes (inl e) =
    let there : p y ≡ true = sym (ap p e) ∙ passes in
    let P : Bool → Type 0 = λ b. Among x (cond b (y ∷ filter p ys) (filter p ys)) in
    subst P (sym there) (inl e)
among_filter p (y ∷ ys) x passes (inr m) =
    let others = among_filter p ys x passes m in
    let P : Bool → Type 0 = λ b. Among x (cond b (y ∷ filter p ys) (filter p ys)) in
    let cases : (b : Bool) → P b = λ b. elim b as P [ true ↦ inr others | false ↦ others ] in
    cases (p y)

-- a value of a kind is among the values of that kind
pub among_kind : {S T : Type 0} (kind : S → Option T) (values : List S) (v : S) (x : T) → kind v ≡ Some x → Among v values → Among x (filter_map kind values)
among_kind kind [] v x is m = absurd m
among_kind kind (w ∷ ws) v x is (inl e) =
    let there : kind w ≡ Some x = sym (ap kind e) ∙ is in
    rw there (inl refl)
among_kind {S} {T} kind (w ∷ ws) v x is (inr m) =
    let others = among_kind kind ws v x is m in
    let cases : (o : Option T) → kind w ≡ o → Among x (filter_map kind (w ∷ ws)) =
    λ o. elim o as (λ o. kind w ≡ o → Among x (filter_map kind (w ∷ ws))) [ None ↦ λ e. rw e others | Some y ↦ λ e. rw e (inr others) ] in
    cases (kind w) refl

module _ {T : Type 0} (same : T → T → Bool) (decides : (a b : T) → Decides (same a b) (a ≡ b)) where
  -- each of some values is in their table
  among_table : (x : T) (values : List T) → Among x values → Among x (table_of same values)
  among_table x [] m = absurd m
  among_table x (v ∷ vs) (inl e) = inl e
  among_table x (v ∷ vs) (inr m) =
      let others = among_table x vs m in
      let P : Bool → Type 0 = λ b. same v x ≡ b → Among x (v ∷ filter (λ w. not (same v w)) (table_of same vs)) in
      let cases : (b : Bool) → P b =
      λ b. elim b as P [
        | true ↦ λ e. inl (sym ((decides v x).0 e))
        | false ↦ λ e. inr (among_filter (λ w. not (same v w)) (table_of same vs) x (ap not e) others)
      ] in
      cases (same v x) refl

  -- a value of a table stands at its place
  place_of : (x : T) (ts : List T) → Among x ts → (position_or_len (same x) ts < length ts) × (slice_get ts (position_or_len (same x) ts) ≡ Some x)
  place_of x [] m = absurd m
  place_of x (t ∷ ts) m =
      let P : Bool → Type 0 =
      λ b. same x t ≡ b → (cond (not b) (1 + position_or_len (same x) ts) 0 < length (t ∷ ts)) × (slice_get (t ∷ ts) (cond (not b) (1 + position_or_len (same x) ts) 0) ≡ Some x) in
      let first : P true = λ e. let is : x ≡ t = (decides x t).0 e in (omega arith, ap (λ v. Some v) (sym is)) in
      let later : P false =
      λ e. elim m [
        | inl is ↦ let no : same x t ≡ true = (decides x t).1 is in absurd cc
        | inr n ↦
            let place = place_of x ts n in
            let one : 1 + position_or_len (same x) ts ≡ suc (position_or_len (same x) ts) = omega arith in
            (omega arith, rw one place.1)
      ] in
      let cases : (b : Bool) → P b = λ b. elim b as P [ true ↦ first | false ↦ later ] in
      cases (same x t) refl

  -- the index of a value that has a place
  index_is : (x : T) (ts : List T) → position_or_len (same x) ts < length ts → index_in same ts x ≡ position_or_len (same x) ts
  index_is x ts within = grind arith

  -- the table of some values has each of them at its index
  pub found : (values : List T) (x : T) → Among x values → slice_get (table_of same values) (index_in same (table_of same values) x) ≡ Some x
  found values x m =
      let place = place_of x (table_of same values) (among_table x values m) in
      rw (index_is x (table_of same values) place.0) place.1

  -- the images of that table have the image of each value at its index
  pub found_image : {S : Type 0} (f : T → S) (values : List T) (x : T) → Among x values → slice_get (map f (table_of same values)) (index_in same (table_of same values) x) ≡ Some (f x)
  found_image f values x m =
      slice_get-map f (table_of same values) (index_in same (table_of same values) x) ∙ ap (option_map f) (found values x m)
