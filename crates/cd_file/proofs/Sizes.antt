-- How long heads, entries and maps are.
use Rattle.std.proofs.Common.{◌≡◌, ℕ, zero, suc, ℤ, pos, negsuc, ◌+◌, ◌*◌, ◌<◌, ◌≤◌, Bool, true, false, nat_lt, List, [], ◌∷◌, length, Option, Some, None, refl, sym, arith, length-append}
use Rattle.std.specs.Prelude.{if◌then◌else◌}
use Rattle.std.specs.Option.{option_map}
use Rattle.std.proofs.lemmas.Bool.{lt-ltb}
use Rattle.cd_cbor.specs.declared.item.Item.{Item}
use Rattle.cd_cbor.specs.Items.{unsigned, bytes}
use Rattle.cd_cbor.specs.Integers.{signed}
use Rattle.cd_cbor.specs.Spelling.{head, spelling}
use Rattle.cd_cbor.proofs.Spelled.{spelling_unsigned, spelling_negative, spelling_bytes}
use Rattle.cd_file.specs.Maps.{map_of, optional_map, number, there, entries_count, entry_spelling, entries_spelling}
use Rattle.cd_file.specs.Ranges.{IsByte, IsWord, string_length}
use Rattle.cd_file.specs.Blocks.{extended_entries, extended_item}
use Rattle.cd_block.specs.declared.block.BlockLists.{BlockLists}
use Rattle.cd_file.proofs.Maps.{map_spelled, none_present, some_present}

-- either of two pieces
if_either : (b : Bool) (xs ys : List ℕ) (m : ℕ) → length xs ≤ m → length ys ≤ m → length (if b then xs else ys) ≤ m
if_either true xs ys m h k = h
if_either false xs ys m h k = k

-- a head has at most nine bytes
pub head_short : (major n : ℕ) → length (head major n) ≤ 9
unfolding head
head_short major n =
    if_either (nat_lt n 24) _ _ 9 (omega arith) (if_either (nat_lt n 0x100) _ _ 9 (omega arith)
    (if_either (nat_lt n 0x1_0000) _ _ 9 (omega arith) (if_either (nat_lt n 0x1_0000_0000) _ _ 9 (omega arith) (omega arith))))

-- a head of a number of two bytes has at most three
pub head_of_word : (major n : ℕ) → n < 0x1_0000 → length (head major n) ≤ 3
unfolding head
head_of_word major n h =
    if_either (nat_lt n 24) _ _ 3 (omega arith) (if_either (nat_lt n 0x100) _ _ 3 (omega arith)
    (rw (lt-ltb n 0x1_0000 h) (omega arith)))

-- a head of a byte has at most two
pub head_of_byte : (major n : ℕ) → n < 0x100 → length (head major n) ≤ 2
unfolding head
head_of_byte major n h =
    if_either (nat_lt n 24) _ _ 2 (omega arith) (rw (lt-ltb n 0x100 h) (omega arith))

-- a head of a number below 24 is one byte
pub head_of_key : (major n : ℕ) → nat_lt n 24 ≡ true → length (head major n) ≡ 1
unfolding head
head_of_key major n h = rw h refl

-- a number
number_short : (n m : ℕ) → length (head 0 n) ≤ m → length (spelling (unsigned n)) ≤ m
number_short n m h = rw (spelling_unsigned n) h

-- an entry whose value is there
pub entry_some : (key m : ℕ) (item : Item) → nat_lt key 24 ≡ true → length (spelling item) ≤ m → length (entry_spelling key (Some item)) ≤ 1 + m
unfolding entry_spelling
entry_some key m item small short =
    let one : length (spelling (unsigned key)) ≡ 1 = rw (spelling_unsigned key) (head_of_key 0 key small) in
    omega (arith, one, short, length-append (spelling (unsigned key)) (spelling item))

-- an entry whose value is not there
pub entry_none : (key m : ℕ) → length (entry_spelling key None) ≤ m
unfolding entry_spelling
entry_none key m = omega arith

-- an entry of a value of limited length
pub entry_short : {X : Type 0} (f : X → Item) (key m : ℕ) (value : Option X) → nat_lt key 24 ≡ true →
    ((x : X) → length (spelling (f x)) ≤ m) → length (entry_spelling key (option_map f value)) ≤ 1 + m
entry_short f key m None small short = entry_none key (1 + m)
entry_short f key m (Some x) small short = entry_some key m (f x) small (short x)

-- an entry of a number
pub number_entry_short : (key : ℕ) (value : Option ℕ) → nat_lt key 24 ≡ true → length (entry_spelling key (number value)) ≤ 10
number_entry_short key value small = entry_short unsigned key 9 value small (λ n. number_short n 9 (head_short 0 n))

-- an entry of a number of two bytes
pub word_entry_short : (key : ℕ) (value : Option ℕ) → nat_lt key 24 ≡ true → IsWord value → length (entry_spelling key (number value)) ≤ 4
word_entry_short key None small fits = entry_none key 4
word_entry_short key (Some n) small fits = entry_some key 3 (unsigned n) small (number_short n 3 (head_of_word 0 n fits))

-- an entry of a byte
pub byte_entry_short : (key : ℕ) (value : Option ℕ) → nat_lt key 24 ≡ true → IsByte value → length (entry_spelling key (number value)) ≤ 3
byte_entry_short key None small fits = entry_none key 3
byte_entry_short key (Some n) small fits = entry_some key 2 (unsigned n) small (number_short n 2 (head_of_byte 0 n fits))

-- a signed number
pub signed_short : (z : ℤ) → length (spelling (signed z)) ≤ 9
signed_short (pos n) = number_short n 9 (head_short 0 n)
signed_short (negsuc n) = rw (spelling_negative n) (head_short 1 n)

-- no entries
pub entries_end : length (entries_spelling []) ≤ 0
unfolding entries_spelling
entries_end = omega arith

-- one more entry in front
pub entries_more : (key : ℕ) (value : Option Item) (es : List (ℕ × Option Item)) (a b : ℕ) →
    length (entry_spelling key value) ≤ a → length (entries_spelling es) ≤ b → length (entries_spelling ((key, value) ∷ es)) ≤ a + b
unfolding entries_spelling
entries_more key value es a b h k = omega (arith, h, k, length-append (entry_spelling key value) (entries_spelling es))

-- at most one value an entry
entries_few : (es : List (ℕ × Option Item)) → entries_count es ≤ length es
entries_few [] = omega arith
entries_few ((k, None) ∷ es) = omega (arith, entries_few es)
entries_few ((k, Some i) ∷ es) = omega (arith, entries_few es)

-- a map of few entries
pub map_short : (es : List (ℕ × Option Item)) (m : ℕ) → length es < 24 → length (entries_spelling es) ≤ m → length (spelling (map_of es)) ≤ 1 + m
map_short es m few short =
    let count : entries_count es < 24 = omega (arith, entries_few es, few) in
    let one : length (head 5 (entries_count es)) ≡ 1 = head_of_key 5 (entries_count es) (lt-ltb (entries_count es) 24 count) in
    rw (map_spelled es) (omega (arith, one, short, length-append (head 5 (entries_count es)) (entries_spelling es)))

-- a string of bytes
pub bytes_short : (content : List ℕ) → length (spelling (bytes content)) ≤ 9 + length content
bytes_short content =
    rw (spelling_bytes content) (omega (arith, head_short 2 (length content), length-append (head 2 (length content)) content))

-- an entry of a string of bytes
pub bytes_entry_short : (key : ℕ) (value : Option (List ℕ)) → nat_lt key 24 ≡ true →
    length (entry_spelling key (option_map bytes value)) ≤ 10 + string_length value
bytes_entry_short key None small = entry_none key 10
bytes_entry_short key (Some content) small =
    let short = entry_some key (9 + length content) (bytes content) small (bytes_short content) in omega (arith, short)

-- an entry of a number takes ten bytes where it is there
number_entry_counted : (key : ℕ) (value : Option ℕ) → nat_lt key 24 ≡ true →
    length (entry_spelling key (number value)) ≤ 10 * there (number value)
number_entry_counted key None small = entry_none key 0
number_entry_counted key (Some n) small = number_entry_short key (Some n) small

-- a map that may be absent takes twelve bytes for each entry that is there
optional_map_counted : (key : ℕ) (es : List (ℕ × Option Item)) (n : ℕ) → n ≡ entries_count es → nat_lt key 24 ≡ true → length es < 24 →
    length (entries_spelling es) ≤ 10 * n → length (entry_spelling key (optional_map es)) ≤ 12 * n
optional_map_counted key es zero counted small few short = rw (none_present es (sym counted)) (entry_none key 0)
optional_map_counted key es (suc n) counted small few short =
    let some : 0 < entries_count es = omega (arith, counted) in
    let whole = entry_some key (1 + 10 * suc n) (map_of es) small (map_short es (10 * suc n) few short) in
    rw (some_present es some) (omega (arith, whole))

-- an extended part takes twelve bytes for each of its lists
pub extended_short : (key : ℕ) (lists : BlockLists) → nat_lt key 24 ≡ true →
    length (entry_spelling key (extended_item lists)) ≤ 12 * entries_count (extended_entries lists)
extended_short key lists small =
    let lengths = entries_more _ _ _ _ _ (number_entry_counted 0 lists.question refl)
    (entries_more _ _ _ _ _ (number_entry_counted 1 lists.answer refl)
    (entries_more _ _ _ _ _ (number_entry_counted 2 lists.authority refl)
    (entries_more _ _ _ _ _ (number_entry_counted 3 lists.additional refl) entries_end))) in
    optional_map_counted key (extended_entries lists) (entries_count (extended_entries lists)) refl small (omega arith) (omega (arith, lengths))
