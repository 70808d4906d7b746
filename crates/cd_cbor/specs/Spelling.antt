-- The one spelling that is written of an item: the shortest heads and definite lengths (RFC 8949 4.2.1).
use Rattle.std.specs.Prelude.{ℕ, ◌+◌, ◌*◌, nat_lt, List, [], ◌∷◌, ◌++◌, map, length, if◌then◌else◌}
use Rattle.std.specs.List.{concat}
use Rattle.std.specs.Int.{to_be_bytes, w16, w32, w64}
use Rattle.cd_cbor.specs.declared.item.Item.{Item}
use Rattle.cd_cbor.specs.declared.item.Item.TheOpen.{Item-F}
use Rattle.cd_cbor.specs.declared.item.Item.TheFolds.{fold-Item}

-- the shortest head of a major type, by its number, with an argument (RFC 8949 3)
unfoldable pub head : ℕ → ℕ → List ℕ
head major argument =
    if nat_lt argument 24 then (32 * major + argument) ∷ []
    else (if nat_lt argument 0x100 then (32 * major + 24) ∷ argument ∷ []
    else (if nat_lt argument 0x1_0000 then (32 * major + 25) ∷ to_be_bytes w16 argument
    else (if nat_lt argument 0x1_0000_0000 then (32 * major + 26) ∷ to_be_bytes w32 argument
    else (32 * major + 27) ∷ to_be_bytes w64 argument)))

-- the two pieces of each pair, one pair after another
abbrev pub concat_pairs : List (List ℕ × List ℕ) → List ℕ
concat_pairs [] = []
concat_pairs (pair ∷ pairs) = pair.0 ++ (pair.1 ++ concat_pairs pairs)

-- the bytes of an item, from the bytes of each item in it
abbrev pub spelling_step : Item-F (List ℕ) → List ℕ
spelling_step (Item-F.Uint n) = head 0 n
spelling_step (Item-F.Nint n) = head 1 n
spelling_step (Item-F.Bytes content) = head 2 (length content) ++ content
spelling_step (Item-F.Text content) = head 3 (length content) ++ content
spelling_step (Item-F.Array items) = head 4 (length items) ++ concat items
spelling_step (Item-F.Map pairs) = head 5 (length pairs) ++ concat_pairs pairs
spelling_step (Item-F.Other content) = content

-- the bytes of an item
unfoldable pub spelling : Item → List ℕ
spelling = fold-Item (List ℕ) spelling_step

-- the bytes of items, one after another
abbrev pub spelling_all : List Item → List ℕ
spelling_all items = concat (map spelling items)

-- the bytes of a key and its value
abbrev pub pair_spelling : Item × Item → List ℕ × List ℕ
pair_spelling pair = (spelling pair.0, spelling pair.1)

-- the bytes of pairs, one after another, each key before its value
abbrev pub spelling_pairs : List (Item × Item) → List ℕ
spelling_pairs pairs = concat_pairs (map pair_spelling pairs)
