-- Values resolved one after the other, as a loop does it.
use Rattle.std.proofs.Common.{◌≡◌, ℕ, suc, ◌+◌, ◌≤◌, ◌<◌, List, [], ◌∷◌, ◌++◌, length, drop, get_or, Ok, Err, refl, sym, ◌∙◌, append_assoc, add-one, drop-cons}
use Rattle.std.proofs.lemmas.List.{append-nil, drop_all}
use Rattle.cd_block.specs.declared.resolving.fault.ResolveFault.{ResolveFault}
use Rattle.cd_block.specs.declared.resolving.fault.ResolveFault.TheVariants as fault
use Rattle.cd_block.specs.Giving.{GivesFault}
use Rattle.cd_block.specs.Resolving.{Resolving, ◌>>=◌, each}

-- values before those that are resolved
abbrev pub with_front : {B : Type 0} → List B → Resolving (List B) → Resolving (List B)
with_front front reading = do
  values ← reading
  Ok (front ++ values)

-- values before values before what is resolved
with_front-with_front : {B : Type 0} (front ys : List B) (reading : Resolving (List B)) → with_front front (with_front ys reading) ≡ with_front (front ++ ys) reading
with_front-with_front front ys (Ok values) = rw (append_assoc front ys values) refl
with_front-with_front front ys (Err why) = refl

-- values before none
with_front-end : {B : Type 0} (front : List B) → with_front front (Ok []) ≡ Ok front
with_front-end front = rw (append-nil front) refl

-- one more value that resolves
pub each_more : {A B : Type 0} (resolved : A → Resolving B) (front : List B) (xs : List A) (i : ℕ) (d : A) (y : B) (total : Resolving (List B)) →
    i < length xs → resolved (get_or xs i d) ≡ Ok y → with_front front (each resolved (drop i xs)) ≡ total →
    with_front (front ++ y ∷ []) (each resolved (drop (i + 1) xs)) ≡ total
unfolding each
each_more resolved front xs i d y total lt gives so_far =
    let one : with_front front (each resolved (drop i xs)) ≡ with_front (front ++ y ∷ []) (each resolved (drop (i + 1) xs)) =
    rw (add-one, drop-cons xs i d, gives) (with_front-with_front front (y ∷ []) (each resolved (drop (suc i) xs))) in
    sym one ∙ so_far

-- a value that does not resolve
pub each_fault : {A B : Type 0} (e : ResolveFault) (resolved : A → Resolving B) (front : List B) (xs : List A) (i : ℕ) (d : A) (total : Resolving (List B)) →
    i < length xs → GivesFault e (resolved (get_or xs i d)) → with_front front (each resolved (drop i xs)) ≡ total → GivesFault e total
unfolding each
each_fault fault.NoMemory resolved front xs i d total lt gives so_far = tt
each_fault (fault.Index table) resolved front xs i d total lt gives so_far =
    sym so_far ∙ rw (drop-cons xs i d, gives) refl
each_fault fault.Name resolved front xs i d total lt gives so_far =
    sym so_far ∙ rw (drop-cons xs i d, gives) refl

-- after the last value
pub each_end : {A B : Type 0} (resolved : A → Resolving B) (front : List B) (xs : List A) (i : ℕ) (total : Resolving (List B)) →
    length xs ≤ i → with_front front (each resolved (drop i xs)) ≡ total → total ≡ Ok front
unfolding each
each_end resolved front xs i total le so_far =
    let none : drop i xs ≡ [] = drop_all i xs le in
    sym so_far ∙ rw none (with_front-end front)
