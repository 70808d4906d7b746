-- A table of values and the table of their images.
use Rattle.std.proofs.Common.{◌≡◌, ℕ, ◌+◌, ◌<◌, Bool, true, false, not, cond, ◌||◌, List, [], ◌∷◌, ◌++◌, length, map, position, Some, refl, ap, sym, ◌∙◌, arith, if◌then◌else◌}
use Rattle.std.specs.List.{list_any, position_or_len, fold, AllByRecursion}
use Rattle.std.proofs.lemmas.List.{map_push}
use Rattle.std.proofs.lemmas.Grind.{common_steps}
use Rattle.cd_table.specs.Interning.{put}

-- an image is found where the value is
pub position_or_len_map : {A B : Type 0} (p : B → Bool) (f : A → B) (xs : List A) → position_or_len p (map f xs) ≡ position_or_len (λ x. p (f x)) xs
position_or_len_map p f [] = refl
position_or_len_map p f (x ∷ xs) = ap (λ n. cond (not (p (f x))) (1 + n) 0) (position_or_len_map p f xs)

-- an image is among the images as the value is among the values
pub list_any_map : {A B : Type 0} (p : B → Bool) (f : A → B) (xs : List A) → list_any p (map f xs) ≡ list_any (λ x. p (f x)) xs
list_any_map p f [] = refl
list_any_map p f (x ∷ xs) = ap (λ b. p (f x) || b) (list_any_map p f xs)

length_map : {A B : Type 0} (f : A → B) (xs : List A) → length (map f xs) ≡ length xs
length_map f [] = refl
length_map f (x ∷ xs) = grind (arith, length_map f xs)

-- an image has its place among the images as the value has among the values
pub position_map : {A B : Type 0} (p : B → Bool) (f : A → B) (xs : List A) → position (λ x. p (f x)) xs ≡ position p (map f xs)
position_map p f xs =
    let place = position_or_len_map p f xs in
    let size = length_map f xs in
    grind (arith, place, size)

-- the images of a table that takes a value are the table of the images, which takes its image
pub put_map : {A B : Type 0} (same : B → B → Bool) (f : A → B) (xs : List A) (x : A) → map f (put (λ a b. same (f a) (f b)) xs x) ≡ put same (map f xs) (f x)
put_map same f xs x =
    let among = list_any_map (same (f x)) f xs in
    let either : (b : Bool) → map f (if b then xs else xs ++ x ∷ []) ≡ (if b then map f xs else map f xs ++ f x ∷ []) =
    λ b. elim b as (λ b. map f (if b then xs else xs ++ x ∷ []) ≡ (if b then map f xs else map f xs ++ f x ∷ [])) [ true ↦ refl | false ↦ map_push f xs x ] in
    either (list_any (λ a. same (f x) (f a)) xs) ∙ ap (λ b. if b then map f xs else map f xs ++ f x ∷ []) (sym among)

-- a value that is found is there
found_any : {A : Type 0} (p : A → Bool) (xs : List A) → position_or_len p xs < length xs → list_any p xs ≡ true
found_any p [] h = absurd (omega arith)
found_any p (x ∷ xs) h = grind (arith, common_steps, found_any p xs)

-- a table that has a value stays as it is
pub table_has : {A : Type 0} (same : A → A → Bool) (xs : List A) (x : A) (i : ℕ) → Some i ≡ position (same x) xs → xs ≡ put same xs x
table_has same xs x i found =
    let within : position_or_len (same x) xs < length xs = grind arith in
    let there = found_any (same x) xs within in
    ap (λ b. if b then xs else xs ++ x ∷ []) (sym there)

module _ {A : Type 0} (same : A → A → Bool) (P : A → Type 0) where
  all_push : (x : A) → P x → (xs : List A) → AllByRecursion P xs → AllByRecursion P (xs ++ x ∷ [])
  all_push x px [] all = (px, tt)
  all_push x px (y ∷ xs) all = (all.0, all_push x px xs all.1)

  -- a table that takes a value with the property has it of each value
  all_put : (x : A) → P x → (xs : List A) → AllByRecursion P xs → AllByRecursion P (put same xs x)
  all_put x px xs all =
      elim (list_any (same x) xs) as (λ b. AllByRecursion P (if b then xs else xs ++ x ∷ [])) [ true ↦ all | false ↦ all_push x px xs all ]

  -- a table of values that all have the property has it of each value
  pub all_fold : (us xs : List A) → AllByRecursion P us → AllByRecursion P xs → AllByRecursion P (fold (put same) xs us)
  all_fold [] xs all there = there
  all_fold (u ∷ us) xs all there = all_fold us (put same xs u) all.1 (all_put u all.0 xs there)

-- a test of images that agrees with a test of the values that have a property
module _ {A B : Type 0} (f : A → B) (eq : B → B → Bool) (same : A → A → Bool) (P : A → Type 0) (agree : (a b : A) → P a → P b → eq (f a) (f b) ≡ same a b) where
  -- an image is among the images as its value is among the values
  any_image : (x : A) → P x → (xs : List A) → AllByRecursion P xs → list_any (eq (f x)) (map f xs) ≡ list_any (same x) xs
  any_image x px [] all = refl
  any_image x px (y ∷ xs) all =
      ap (λ b. b || list_any (eq (f x)) (map f xs)) (agree x y px all.0) ∙ ap (λ b. same x y || b) (any_image x px xs all.1)

  -- an image has the place of its value
  pub place_image : (x : A) → P x → (xs : List A) → AllByRecursion P xs → position_or_len (eq (f x)) (map f xs) ≡ position_or_len (same x) xs
  place_image x px [] all = refl
  place_image x px (y ∷ xs) all =
      ap (λ b. cond (not b) (1 + position_or_len (eq (f x)) (map f xs)) 0) (agree x y px all.0)
      ∙ ap (λ n. cond (not (same x y)) (1 + n) 0) (place_image x px xs all.1)

  -- putting an image is putting its value
  put_image : (x : A) → P x → (xs : List A) → AllByRecursion P xs → put eq (map f xs) (f x) ≡ map f (put same xs x)
  put_image x px xs all =
      let either : (b : Bool) → (if b then map f xs else map f xs ++ f x ∷ []) ≡ map f (if b then xs else xs ++ x ∷ []) =
      λ b. elim b as (λ b. (if b then map f xs else map f xs ++ f x ∷ []) ≡ map f (if b then xs else xs ++ x ∷ [])) [ true ↦ refl | false ↦ sym (map_push f xs x) ] in
      ap (λ b. if b then map f xs else map f xs ++ f x ∷ []) (any_image x px xs all) ∙ either (list_any (same x) xs)

  -- putting images one after the other is putting their values
  pub fold_image : (us xs : List A) → AllByRecursion P us → AllByRecursion P xs → fold (put eq) (map f xs) (map f us) ≡ map f (fold (put same) xs us)
  fold_image [] xs all there = refl
  fold_image (u ∷ us) xs all there =
      ap (λ t. fold (put eq) t (map f us)) (put_image u all.0 xs there) ∙ fold_image us (put same xs u) all.1 (all_put same P u all.0 xs there)
