-- The bytes of each word for an item.
use Rattle.std.proofs.Common.{◌≡◌, ℕ, ◌+◌, ◌<◌, ◌≤◌, List, [], ◌∷◌, ◌++◌, length, map, take, get_or, refl, ap, sym, ◌∙◌, append_assoc}
use Rattle.std.proofs.lemmas.List.{append-nil, take_all, map_more, length-map}
use Rattle.cd_cbor.specs.declared.item.Item.{Item}
use Rattle.cd_cbor.specs.declared.item.Item.TheOpen.{Item-F}
use Rattle.cd_cbor.specs.declared.item.Item.TheFolds.{fold-roll-Item}
use Rattle.cd_cbor.specs.declared.item.Item.TheVariants.{rolls-Uint, rolls-Nint, rolls-Bytes, rolls-Text, rolls-Array, rolls-Map}
use Rattle.cd_cbor.specs.Spelling.{head, spelling, spelling_step, spelling_all, spelling_pairs, pair_spelling}
use Rattle.cd_cbor.specs.Items.{unsigned, negative, bytes, text, array, entries}

-- a number is its head
pub spelling_unsigned : (n : ℕ) → spelling (unsigned n) ≡ head 0 n
unfolding spelling unsigned
spelling_unsigned n =
    ap spelling (sym (rolls-Uint n)) ∙ fold-roll-Item (List ℕ) spelling_step (Item-F.Uint n)

-- so is a negative number
pub spelling_negative : (n : ℕ) → spelling (negative n) ≡ head 1 n
unfolding spelling negative
spelling_negative n =
    ap spelling (sym (rolls-Nint n)) ∙ fold-roll-Item (List ℕ) spelling_step (Item-F.Nint n)

-- a string of bytes stands after the head of its length
pub spelling_bytes : (content : List ℕ) → spelling (bytes content) ≡ head 2 (length content) ++ content
unfolding spelling bytes
spelling_bytes content =
    ap spelling (sym (rolls-Bytes content)) ∙ fold-roll-Item (List ℕ) spelling_step (Item-F.Bytes content)

-- so does a text
pub spelling_text : (content : List ℕ) → spelling (text content) ≡ head 3 (length content) ++ content
unfolding spelling text
spelling_text content =
    ap spelling (sym (rolls-Text content)) ∙ fold-roll-Item (List ℕ) spelling_step (Item-F.Text content)

-- the items of an array stand after the head of their number
pub spelling_array : (items : List Item) → spelling (array items) ≡ head 4 (length items) ++ spelling_all items
unfolding spelling array
spelling_array items =
    ap spelling (sym (rolls-Array items)) ∙ fold-roll-Item (List ℕ) spelling_step (Item-F.Array items)
    ∙ ap (λ n. head 4 n ++ spelling_all items) (length-map items spelling)

-- the pairs of a map stand after the head of their number
pub spelling_entries : (pairs : List (Item × Item)) → spelling (entries pairs) ≡ head 5 (length pairs) ++ spelling_pairs pairs
unfolding spelling entries
spelling_entries pairs =
    ap spelling (sym (rolls-Map pairs)) ∙ fold-roll-Item (List ℕ) spelling_step (Item-F.Map pairs)
    ∙ ap (λ n. head 5 n ++ spelling_pairs pairs) (length-map pairs pair_spelling)

-- items after others
pub spelling_all_append : (xs ys : List Item) → spelling_all (xs ++ ys) ≡ spelling_all xs ++ spelling_all ys
spelling_all_append [] ys = refl
spelling_all_append (x ∷ xs) ys =
    ap (λ t. spelling x ++ t) (spelling_all_append xs ys) ∙ sym (append_assoc (spelling x) (spelling_all xs) (spelling_all ys))

-- one more value's item, in a loop that writes them
pub spelling_all_more : {X : Type 0} (f : X → Item) (xs : List X) (i : ℕ) (d : X) → i < length xs →
    spelling_all (map f (take (i + 1) xs)) ≡ spelling_all (map f (take i xs)) ++ spelling (f (get_or xs i d))
spelling_all_more f xs i d within =
    ap spelling_all (map_more f xs i d within) ∙ spelling_all_append (map f (take i xs)) (f (get_or xs i d) ∷ [])
    ∙ ap (λ t. spelling_all (map f (take i xs)) ++ t) (append-nil (spelling (f (get_or xs i d))))

-- the items of all values, after such a loop
pub spelling_array_all : {X : Type 0} (f : X → Item) (xs : List X) (i : ℕ) → length xs ≤ i →
    spelling (array (map f xs)) ≡ head 4 (length xs) ++ spelling_all (map f (take i xs))
spelling_array_all f xs i over =
    spelling_array (map f xs) ∙ ap (λ n. head 4 n ++ spelling_all (map f xs)) (length-map xs f)
    ∙ ap (λ ys. head 4 (length xs) ++ spelling_all (map f ys)) (sym (take_all i xs over))

-- a front, and then a piece
pub grown : (start now next front piece whole : List ℕ) → now ≡ start ++ front → next ≡ now ++ piece → whole ≡ front ++ piece → next ≡ start ++ whole
grown start now next front piece whole begun one_more is =
    one_more ∙ ap (λ t. t ++ piece) begun ∙ append_assoc start front piece ∙ ap (λ t. start ++ t) (sym is)
