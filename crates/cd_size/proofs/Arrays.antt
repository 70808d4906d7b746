-- How long arrays are, by the sizes of their items.
use Rattle.std.proofs.Common.{◌≡◌, ℕ, zero, suc, ◌+◌, ◌*◌, ◌<◌, ◌≤◌, true, nat_lt, List, [], ◌∷◌, length, map, Option, Some, None, refl, sym, arith, length-append}
use Rattle.std.proofs.lemmas.List.{length-map}
use Rattle.cd_cbor.specs.declared.item.Item.{Item}
use Rattle.cd_cbor.specs.Items.{unsigned, array}
use Rattle.cd_cbor.specs.Spelling.{head, spelling, spelling_all}
use Rattle.cd_cbor.proofs.Spelled.{spelling_unsigned, spelling_array}
use Rattle.cd_file.specs.Maps.{optional_map, optional_array, entries_count, entry_spelling, entries_spelling}
use Rattle.cd_file.proofs.Maps.{none_present, some_present}
use Rattle.cd_file.proofs.Sizes.{head_short, head_of_word, head_of_key, map_short}
use Rattle.cd_size.specs.Costs.{size}
use Rattle.cd_size.proofs.Totals.{total}

-- items, one after another
all_size : {X : Type 0} (f : X → Item) (xs : List X) → length (spelling_all (map f xs)) ≡ total (λ x. size (f x)) xs
all_size f [] = refl
all_size f (x ∷ xs) = omega (arith, length-append (spelling (f x)) (spelling_all (map f xs)), all_size f xs)

-- an array whose head has some length
array_within : {X : Type 0} (f : X → Item) (xs : List X) (h : ℕ) → length (head 4 (length (map f xs))) ≤ h →
    size (array (map f xs)) ≤ h + total (λ x. size (f x)) xs
array_within f xs h short =
    rw (spelling_array (map f xs))
    (omega (arith, short, length-append (head 4 (length (map f xs))) (spelling_all (map f xs)), all_size f xs))

-- an array
pub array_short : {X : Type 0} (f : X → Item) (xs : List X) → size (array (map f xs)) ≤ 9 + total (λ x. size (f x)) xs
array_short f xs = array_within f xs 9 (head_short 4 (length (map f xs)))

-- an array of at most 65,535 items
pub array_of_few : {X : Type 0} (f : X → Item) (xs : List X) → length xs < 0x1_0000 →
    size (array (map f xs)) ≤ 3 + total (λ x. size (f x)) xs
array_of_few f xs few = array_within f xs 3 (head_of_word 4 (length (map f xs)) (rw (length-map xs f) few))

-- an array of numbers takes nine bytes for each at most
pub numbers_total : (ns : List ℕ) → total (λ n. size (unsigned n)) ns ≤ 9 * length ns
numbers_total [] = omega arith
numbers_total (n ∷ ns) =
    let one : size (unsigned n) ≤ 9 = rw (spelling_unsigned n) (head_short 0 n) in omega (arith, one, numbers_total ns)

-- an entry whose value is not there
entry_none : (key m : ℕ) → length (entry_spelling key None) ≤ m
unfolding entry_spelling
entry_none key m = omega arith

-- an entry whose value is there
pub entry_there : (key m : ℕ) (item : Item) → nat_lt key 24 ≡ true → size item ≤ m →
    length (entry_spelling key (Some item)) ≤ 1 + m
unfolding entry_spelling
entry_there key m item small short =
    let one : length (spelling (unsigned key)) ≡ 1 = rw (spelling_unsigned key) (head_of_key 0 key small) in
    omega (arith, one, short, length-append (spelling (unsigned key)) (spelling item))

-- an entry of an array that may be absent
pub optional_array_short : {X : Type 0} (f : X → Item) (key : ℕ) (xs : List X) → nat_lt key 24 ≡ true →
    length (entry_spelling key (optional_array (map f xs))) ≤ 10 + total (λ x. size (f x)) xs
optional_array_short f key [] small = entry_none key 10
optional_array_short f key (x ∷ xs) small =
    let whole =
    entry_there key (9 + total (λ y. size (f y)) (x ∷ xs)) (array (map f (x ∷ xs))) small (array_short f (x ∷ xs)) in
    omega (arith, whole)

-- an entry of a map that may be absent, of so many values
optional_map_counted : (key : ℕ) (es : List (ℕ × Option Item)) (n m : ℕ) → n ≡ entries_count es →
    nat_lt key 24 ≡ true → length es < 24 →
    length (entries_spelling es) ≤ m → length (entry_spelling key (optional_map es)) ≤ 2 + m
optional_map_counted key es zero m counted small few short = rw (none_present es (sym counted)) (entry_none key (2 + m))
optional_map_counted key es (suc n) m counted small few short =
    let some : 0 < entries_count es = omega (arith, counted) in
    rw (some_present es some)
    (let whole = entry_there key (1 + m) _ small (map_short es m few short) in omega (arith, whole))

-- an entry of a map that may be absent
pub optional_map_short : (key m : ℕ) (es : List (ℕ × Option Item)) → nat_lt key 24 ≡ true → length es < 24 →
    length (entries_spelling es) ≤ m → length (entry_spelling key (optional_map es)) ≤ 2 + m
optional_map_short key m es small few short = optional_map_counted key es (entries_count es) m refl small few short
