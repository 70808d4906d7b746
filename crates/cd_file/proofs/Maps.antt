-- How a map and its entries are spelled.
use Rattle.std.proofs.Common.{◌≡◌, ℕ, ◌+◌, ◌<◌, List, [], ◌∷◌, ◌++◌, length, map, take, get_or, Option, Some, None, refl, ap, sym, ◌∙◌, arith, append_assoc}
use Rattle.std.proofs.lemmas.List.{append-nil, map_more}
use Rattle.cd_cbor.specs.declared.item.Item.{Item}
use Rattle.cd_cbor.specs.Items.{unsigned, array, present}
use Rattle.cd_cbor.specs.Spelling.{head, spelling, spelling_pairs}
use Rattle.cd_cbor.proofs.Spelled.{spelling_entries, grown}
use Rattle.cd_file.specs.Maps.{map_of, optional_map, optional_array, there, entries_count, entry_spelling, entries_spelling}

-- as many pairs as values that are there
length-present : (es : List (ℕ × Option Item)) → length (present es) ≡ entries_count es
unfolding present
length-present [] = refl
length-present ((k, None) ∷ es) = omega (arith, length-present es)
length-present ((k, Some i) ∷ es) = omega (arith, length-present es)

-- the keys and values that are there, in turn
spelling-present : (es : List (ℕ × Option Item)) → spelling_pairs (present es) ≡ entries_spelling es
unfolding present entry_spelling entries_spelling
spelling-present [] = refl
spelling-present ((k, None) ∷ es) = spelling-present es
spelling-present ((k, Some i) ∷ es) =
    ap (λ t. spelling (unsigned k) ++ (spelling i ++ t)) (spelling-present es)
    ∙ sym (append_assoc (spelling (unsigned k)) (spelling i) (entries_spelling es))

-- a map of the values that are there
pub map_spelled : (es : List (ℕ × Option Item)) → spelling (map_of es) ≡ head 5 (entries_count es) ++ entries_spelling es
unfolding map_of
map_spelled es =
    spelling_entries (present es)
    ∙ ap (λ n. head 5 n ++ spelling_pairs (present es)) (length-present es)
    ∙ ap (λ t. head 5 (entries_count es) ++ t) (spelling-present es)

-- no entry is there
pub none_present : (es : List (ℕ × Option Item)) → entries_count es ≡ 0 → optional_map es ≡ None
unfolding optional_map present
none_present [] h = refl
none_present ((k, None) ∷ es) h = none_present es (omega (arith, h))
none_present ((k, Some i) ∷ es) h = absurd (omega (arith, h))

-- some entry is there
pub some_present : (es : List (ℕ × Option Item)) → 0 < entries_count es → optional_map es ≡ Some (map_of es)
unfolding optional_map map_of present
some_present [] h = absurd (omega (arith, h))
some_present ((k, None) ∷ es) h = some_present es (omega (arith, h))
some_present ((k, Some i) ∷ es) h = refl

-- entries after others
entries_count_append : (es fs : List (ℕ × Option Item)) → entries_count (es ++ fs) ≡ entries_count es + entries_count fs
entries_count_append [] fs = omega arith
entries_count_append (e ∷ es) fs = omega (arith, entries_count_append es fs)

-- entries after others are spelled after them
entries_spelling_append : (es fs : List (ℕ × Option Item)) → entries_spelling (es ++ fs) ≡ entries_spelling es ++ entries_spelling fs
unfolding entries_spelling
entries_spelling_append [] fs = refl
entries_spelling_append (e ∷ es) fs =
    ap (λ t. entry_spelling e.0 e.1 ++ t) (entries_spelling_append es fs)
    ∙ sym (append_assoc (entry_spelling e.0 e.1) (entries_spelling es) (entries_spelling fs))

-- one more entry of a list
pub entries_count_more : {X : Type 0} (f : X → ℕ × Option Item) (xs : List X) (i : ℕ) (d : X) → i < length xs →
    entries_count (map f (take (i + 1) xs)) ≡ entries_count (map f (take i xs)) + there (f (get_or xs i d)).1
entries_count_more f xs i d h =
    ap entries_count (map_more f xs i d h)
    ∙ (let e = entries_count_append (map f (take i xs)) (f (get_or xs i d) ∷ []) in omega (arith, e))

-- one more entry of a list is spelled after the others
pub entries_spelling_more : {X : Type 0} (f : X → ℕ × Option Item) (xs : List X) (i : ℕ) (d : X) → i < length xs →
    entries_spelling (map f (take (i + 1) xs)) ≡ entries_spelling (map f (take i xs)) ++ entry_spelling (f (get_or xs i d)).0 (f (get_or xs i d)).1
unfolding entries_spelling
entries_spelling_more f xs i d h =
    ap entries_spelling (map_more f xs i d h)
    ∙ entries_spelling_append (map f (take i xs)) (f (get_or xs i d) ∷ [])
    ∙ ap (λ t. entries_spelling (map f (take i xs)) ++ t) (append-nil (entry_spelling (f (get_or xs i d)).0 (f (get_or xs i d)).1))

-- no entry is nothing
pub entries_begun : (start : List ℕ) → start ≡ start ++ entries_spelling []
unfolding entries_spelling
entries_begun start = sym (append-nil start)

-- the head and the entries of a map
pub map_written : (start now next : List ℕ) (es : List (ℕ × Option Item)) (n : ℕ) →
    now ≡ start ++ head 5 n → next ≡ now ++ entries_spelling es → n ≡ entries_count es → next ≡ start ++ spelling (map_of es)
map_written start now next es n begun added counted =
    grown start now next (head 5 n) (entries_spelling es) (spelling (map_of es)) begun added
    (map_spelled es ∙ ap (λ m. head 5 m ++ entries_spelling es) (sym counted))

-- a key and its value
pub entry_written : (start now next : List ℕ) (key : ℕ) (item : Item) →
    now ≡ start ++ spelling (unsigned key) → next ≡ now ++ spelling item → next ≡ start ++ entry_spelling key (Some item)
unfolding entry_spelling
entry_written start now next key item begun added =
    grown start now next (spelling (unsigned key)) (spelling item) (entry_spelling key (Some item)) begun added refl

-- nothing is written of a value that is not there
pub entry_left_out : (start : List ℕ) (key : ℕ) (value : Option Item) → value ≡ None → start ≡ start ++ entry_spelling key value
unfolding entry_spelling
entry_left_out start key value none = sym (ap (λ v. start ++ entry_spelling key v) none ∙ append-nil start)

-- a map that is left out
pub map_left_out : (start : List ℕ) (key : ℕ) (es : List (ℕ × Option Item)) → entries_count es ≡ 0 →
    start ≡ start ++ entry_spelling key (optional_map es)
map_left_out start key es none = entry_left_out start key (optional_map es) (none_present es none)

-- a key and a map that is there
pub map_added : (start now next : List ℕ) (key : ℕ) (es : List (ℕ × Option Item)) → 0 < entries_count es →
    now ≡ start ++ spelling (unsigned key) → next ≡ now ++ spelling (map_of es) → next ≡ start ++ entry_spelling key (optional_map es)
map_added start now next key es some begun added =
    let whole = entry_written start now next key (map_of es) begun added in
    whole ∙ ap (λ v. start ++ entry_spelling key v) (sym (some_present es some))

-- 0 where a map is left out
pub map_count_none : (es : List (ℕ × Option Item)) → entries_count es ≡ 0 → 0 ≡ there (optional_map es)
map_count_none es none = sym (ap there (none_present es none))

-- 1 where a map is there
pub map_count_some : (es : List (ℕ × Option Item)) → 0 < entries_count es → 1 ≡ there (optional_map es)
map_count_some es some = sym (ap there (some_present es some))

-- entries, and then others
pub entries_then : (start now next : List ℕ) (es fs : List (ℕ × Option Item)) →
    now ≡ start ++ entries_spelling es → next ≡ now ++ entries_spelling fs → next ≡ start ++ entries_spelling (es ++ fs)
entries_then start now next es fs begun added =
    grown start now next (entries_spelling es) (entries_spelling fs) (entries_spelling (es ++ fs)) begun added
    (entries_spelling_append es fs)

-- an entry, and then others
pub entry_then : (start now next : List ℕ) (key : ℕ) (value : Option Item) (fs : List (ℕ × Option Item)) →
    now ≡ start ++ entry_spelling key value → next ≡ now ++ entries_spelling fs → next ≡ start ++ entries_spelling ((key, value) ∷ fs)
unfolding entries_spelling
entry_then start now next key value fs begun added =
    grown start now next (entry_spelling key value) (entries_spelling fs) (entries_spelling ((key, value) ∷ fs)) begun added refl

-- a last entry
pub entry_last : (start next : List ℕ) (key : ℕ) (value : Option Item) →
    next ≡ start ++ entry_spelling key value → next ≡ start ++ entries_spelling ((key, value) ∷ [])
entry_last start next key value begun = entry_then start next next key value [] begun (entries_begun next)

-- a value that is not there
pub absent : (value : Option Item) → there value ≡ 0 → value ≡ None
absent None h = refl
absent (Some i) h = absurd (omega (arith, h))

-- an array that is there
pub some_array : (items : List Item) → 0 < there (optional_array items) → optional_array items ≡ Some (array items)
some_array [] h = absurd (omega (arith, h))
some_array (i ∷ is) h = refl

-- a key and an array that is there
pub array_added : (start now next : List ℕ) (key : ℕ) (items : List Item) → 0 < there (optional_array items) →
    now ≡ start ++ spelling (unsigned key) → next ≡ now ++ spelling (array items) → next ≡ start ++ entry_spelling key (optional_array items)
array_added start now next key items some begun added =
    let whole = entry_written start now next key (array items) begun added in
    whole ∙ ap (λ v. start ++ entry_spelling key v) (sym (some_array items some))
