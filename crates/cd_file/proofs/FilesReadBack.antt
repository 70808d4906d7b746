-- A file that is written is read back.
use Rattle.std.proofs.Common.{◌≡◌, ℕ, zero, suc, ◌+◌, ◌-◌, ◌*◌, ◌/◌, ◌%◌, ◌<◌, List, [], ◌∷◌, ◌++◌, length, map, take, drop, Some, None, Ok, refl, ap, sym, ◌∙◌, arith, append_assoc, length-append}
use Rattle.std.specs.Prelude.{true, false, nat_eq, nat_lt, codes}
use Rattle.std.specs.List.{concat, AllByRecursion}
use Rattle.std.specs.Str.{is_utf8, IsAscii}
use Rattle.std.proofs.lemmas.Bool.{lt-ltb, le-ltb, ne_eqb}
use Rattle.std.proofs.lemmas.List.{append-nil}
use Rattle.std.proofs.lemmas.Str.{IsUtf8-from_ascii, is_utf8-from_IsUtf8}
use Rattle.std.proofs.Math.Seq.{take-append-add, drop-append_seam}
use Rattle.cd_cbor.specs.declared.item.Item.{Item}
use Rattle.cd_cbor.specs.declared.fault.Why.TheVariants as why
use Rattle.cd_cbor.specs.declared.major_type.MajorType.{MajorType}
use Rattle.cd_cbor.specs.declared.major_type.MajorType.TheVariants as major
use Rattle.cd_cbor.specs.MajorTypes.{major_number}
use Rattle.cd_cbor.specs.Heads.{IsHead, major_type}
use Rattle.cd_cbor.specs.Items.{text}
use Rattle.cd_cbor.specs.Fitting.{Fits}
use Rattle.cd_cbor.specs.Spelling.{head, spelling}
use Rattle.cd_cbor.specs.Spells.{Spells}
use Rattle.cd_cbor.specs.Readings.{piece}
use Rattle.cd_cbor.specs.Reading.{item_at, content_at}
use Rattle.cd_cbor.proofs.HeadsRead.{HeadIs, head_reads, type_of_number, Begins}
use Rattle.cd_cbor.proofs.ItemsRead.{item_begins, item_reads}
use Rattle.cd_cbor.proofs.Offsets.{first_is}
use Rattle.cd_cbor.proofs.Spelled.{spelling_text}
use Rattle.cd_cbor.proofs.Written.{head_is_head, item_written}
use Rattle.cd_block.specs.declared.block.Block.{Block}
use Rattle.cd_block.specs.declared.kept.KeptBlock.{KeptBlock}
use Rattle.cd_block.specs.declared.params.Params.{Params}
use Rattle.cd_file.specs.Head.{preamble_item}
use Rattle.cd_file.specs.Blocks.{block_item}
use Rattle.cd_file.specs.Files.{file_head, block_spelling, file_end, file_begun, file_of}
use Rattle.cd_file.specs.Maps.{entries_spelling}
use Rattle.cd_file.specs.ItemHeads.{is_too_long, definite_head, indefinite_head, begun_item}
use Rattle.cd_file.specs.ReadFile.{FileEnd, Whole, Open, after_blocks, blockless, element_head, item_front, outer_front, title_head, title_front, title_on, preamble_front, preamble_on, count_front, array_on, block_front, closing, blocks_on, read_file}
use Rattle.cd_file.specs.Readable.{ReadableParams, ReadableBlock}
use Rattle.cd_file.specs.KeptFile.{kept_blocks, kept_file}
use Rattle.cd_file.specs.ReadBack.{holding, FileIsReadBack, OpenFileIsReadBack, AreResolved, FileIsKept}
use Rattle.cd_file.proofs.Maps.{map_spelled}
use Rattle.cd_file.proofs.ValuesReadBack.{IsShort}
use Rattle.cd_file.proofs.BlocksReadBack.{block_read, block_fits}
use Rattle.cd_file.proofs.HeadReadBack.{preamble_read, preamble_fits}

-- an item that fits and is short stands at the front
item_stands : (depth at : ℕ) (item : Item) (more : List ℕ) → IsShort item → Fits depth item →
    item_front depth at (spelling item ++ more) ≡ Ok (item, length (spelling item))
unfolding item_front
item_stands depth at item more short fits =
    let s : List ℕ = spelling item in
    let n : ℕ = 134217728 - length s in
    let most : length s + n ≡ 134217728 = omega (arith, short) in
    let front : take 134217728 (s ++ more) ≡ s ++ take n more = ap (λ k. take k (s ++ more)) (sym most) ∙ take-append-add s more n in
    let spelled : Spells depth item s = item_written depth item fits in
    let sum : 0 + length s ≡ length s = omega arith in
    let there : item_at depth (take 134217728 (s ++ more)) why.Break 0 ≡ Ok (item, length s) =
    item_reads depth (take 134217728 (s ++ more)) why.Break 0 item s (take n more) front spelled ∙ ap (λ k. Ok (item, k)) sum in
    rw there refl

-- a definite head, of an item that is no simple value, at the front
head_stands : (kind : MajorType) (n : ℕ) (h rest : List ℕ) → IsHead kind n h → major_number kind < 7 → is_too_long kind n ≡ false →
    begun_item (h ++ rest) ≡ Ok (record { kind = kind; argument = Some n }, length h)
unfolding begun_item definite_head
head_stands kind n h rest is low short =
    let a : HeadIs kind n 0 (h ++ rest) h is.info = head_reads kind n 0 (h ++ rest) h rest refl is in
    let type : (32 * major_number kind + is.info) / 32 ≡ major_number kind = omega (arith, is.definite) in
    let same : (32 * major_number kind + is.info) % 32 ≡ is.info = omega (arith, is.definite) in
    let plain : nat_eq (32 * major_number kind + is.info) 0xf8 ≡ false = ne_eqb (32 * major_number kind + is.info) 0xf8 (λ e. omega (arith, low, is.definite)) in
    let sum : 0 + length h ≡ length h = omega arith in
    rw (a.first, same, lt-ltb is.info 28 is.definite, a.argument, plain, type, type_of_number kind, short, sum) refl

-- the head of the outer array
outer_stands : (rest : List ℕ) → outer_front (head 4 3 ++ rest) ≡ Ok (false, 1)
unfolding outer_front head
outer_stands rest = rw (head_stands major.Array 3 (head 4 3) rest (head_is_head major.Array 3 (omega arith)) (omega arith) refl) refl

-- the title
title_head_stands : (at : ℕ) (rest : List ℕ) → title_head false at (head 3 5 ++ rest) ≡ Ok (false, 1)
unfolding title_head element_head head
title_head_stands at rest = rw (head_stands major.Text 5 (head 3 5) rest (head_is_head major.Text 5 (omega arith)) (omega arith) refl) refl

title_head_size : length (head 3 5) ≡ 1
unfolding head
title_head_size = refl

title_piece : (rest : List ℕ) → piece 1 5 (head 3 5 ++ (codes "C-DNS" ++ rest)) ≡ codes "C-DNS"
unfolding head
title_piece rest = refl

no_ascii : IsAscii []
no_ascii i = omega arith

more_ascii : (x : ℕ) (xs : List ℕ) → x < 128 → IsAscii xs → IsAscii (x ∷ xs)
more_ascii x xs low all zero = low
more_ascii x xs low all (suc i) = all i

title_ascii : IsAscii (codes "C-DNS")
title_ascii =
    more_ascii 67 (45 ∷ 68 ∷ 78 ∷ 83 ∷ []) (omega arith) (more_ascii 45 (68 ∷ 78 ∷ 83 ∷ []) (omega arith)
    (more_ascii 68 (78 ∷ 83 ∷ []) (omega arith) (more_ascii 78 (83 ∷ []) (omega arith) (more_ascii 83 [] (omega arith) no_ascii))))

title_utf8 : is_utf8 (codes "C-DNS") ≡ true
title_utf8 = is_utf8-from_IsUtf8 (codes "C-DNS") (IsUtf8-from_ascii (codes "C-DNS") title_ascii)

title_stands : (at : ℕ) (rest : List ℕ) → title_front 1 at (head 3 5 ++ (codes "C-DNS" ++ rest)) ≡ Ok (codes "C-DNS", 6)
unfolding title_front content_at
title_stands at rest =
    let one : length (head 3 5) ≡ 1 = title_head_size in
    let long : nat_lt (length (head 3 5 ++ (codes "C-DNS" ++ rest))) 6 ≡ false =
    le-ltb (length (head 3 5 ++ (codes "C-DNS" ++ rest))) 6
    (omega (arith, one, length-append (head 3 5) (codes "C-DNS" ++ rest), length-append (codes "C-DNS") rest)) in
    rw (long, title_piece rest, title_utf8) refl

title_dropped : (rest : List ℕ) → drop 6 (head 3 5 ++ (codes "C-DNS" ++ rest)) ≡ rest
unfolding head
title_dropped rest = refl

title_on_stands : (at : ℕ) (rest : List ℕ) → title_on false at (spelling (text (codes "C-DNS")) ++ rest) ≡ preamble_on false (at + 6) rest
unfolding title_on
title_on_stands at rest =
    let whole : spelling (text (codes "C-DNS")) ++ rest ≡ head 3 5 ++ (codes "C-DNS" ++ rest) =
    ap (λ t. t ++ rest) (spelling_text (codes "C-DNS")) ∙ append_assoc (head 3 5) (codes "C-DNS") rest in
    rw (whole, title_head_stands at (codes "C-DNS" ++ rest), title_stands at rest, title_dropped rest) refl

-- the preamble
preamble_stands : (at : ℕ) (p : Params) (rest : List ℕ) → ReadableParams p →
    preamble_front false at (spelling (preamble_item p) ++ rest) ≡ Ok (p ∷ [], length (spelling (preamble_item p)))
unfolding preamble_front element_head
preamble_stands at p rest r =
    let spelled : spelling (preamble_item p) ≡ head 5 3 ++ entries_spelling _ = map_spelled _ in
    let whole : spelling (preamble_item p) ++ rest ≡ head 5 3 ++ (entries_spelling _ ++ rest) =
    ap (λ t. t ++ rest) spelled ∙ append_assoc (head 5 3) (entries_spelling _) rest in
    let begins : begun_item (spelling (preamble_item p) ++ rest) ≡ Ok (record { kind = major.Map; argument = Some 3 }, length (head 5 3)) =
    ap begun_item whole ∙ head_stands major.Map 3 (head 5 3) (entries_spelling _ ++ rest) (head_is_head major.Map 3 (omega arith)) (omega arith) refl in
    rw (begins, item_stands 15 at (preamble_item p) rest r.is_short (preamble_fits 10 p r r.is_short), preamble_read p r) refl

-- the head of the array of blocks
count_stands : (at : ℕ) (rest : List ℕ) → count_front false at (0x9f ∷ rest) ≡ Ok (None, 1)
unfolding count_front element_head begun_item indefinite_head major_type
count_stands at rest = rw (first_is 0 (0x9f ∷ rest) 0x9f rest refl) refl

-- all before the first block
outer_dropped : (rest : List ℕ) → drop 1 (head 4 3 ++ rest) ≡ rest
unfolding head
outer_dropped rest = refl

outer_reads_on : (rest : List ℕ) → read_file (head 4 3 ++ rest) ≡ title_on false 1 rest
unfolding read_file
outer_reads_on rest = rw (outer_stands rest, outer_dropped rest) refl

preamble_reads_on : (at : ℕ) (p : Params) (rest : List ℕ) → ReadableParams p →
    preamble_on false at (spelling (preamble_item p) ++ rest) ≡ array_on false (p ∷ []) (at + length (spelling (preamble_item p))) rest
unfolding preamble_on
preamble_reads_on at p rest r = rw (preamble_stands at p rest r, drop-append_seam (spelling (preamble_item p)) rest) refl

count_reads_on : (at : ℕ) (p : Params) (rest : List ℕ) → array_on false (p ∷ []) at (0x9f ∷ rest) ≡ blocks_on false (p ∷ []) None 0 (at + 1) rest
unfolding array_on
count_reads_on at p rest = rw (count_stands at rest) refl

head_split : (p : Params) (body : List ℕ) →
    file_head p ++ body ≡ head 4 3 ++ (spelling (text (codes "C-DNS")) ++ (spelling (preamble_item p) ++ (0x9f ∷ body)))
unfolding file_head
head_split p body =
    let t : List ℕ = spelling (text (codes "C-DNS")) in
    let s : List ℕ = spelling (preamble_item p) in
    append_assoc (head 4 3) (t ++ (s ++ 0x9f ∷ [])) body
    ∙ ap (λ x. head 4 3 ++ x) (append_assoc t (s ++ 0x9f ∷ []) body ∙ ap (λ x. t ++ x) (append_assoc s (0x9f ∷ []) body))

head_reads_on : (p : Params) (body : List ℕ) → ReadableParams p →
    (at : ℕ) × (read_file (file_head p ++ body) ≡ blocks_on false (p ∷ []) None 0 at body)
head_reads_on p body r =
    let s : List ℕ = spelling (preamble_item p) in (
      7 + length s + 1,
      ap read_file (head_split p body) ∙ outer_reads_on (spelling (text (codes "C-DNS")) ++ (s ++ (0x9f ∷ body)))
          ∙ title_on_stands 1 (s ++ (0x9f ∷ body)) ∙ preamble_reads_on 7 p (0x9f ∷ body) r ∙ count_reads_on (7 + length s) p body,
    )

-- bytes that belong to the block before are passed
blocks_skip : (ps : List Params) (n : ℕ) (s more : List ℕ) (at : ℕ) → length s ≡ n →
    (place : ℕ) × (blocks_on false ps None n at (s ++ more) ≡ blocks_on false ps None 0 place more)
unfolding blocks_on
blocks_skip ps zero [] more at h = (at, refl)
blocks_skip ps zero (x ∷ s) more at h = absurd (omega arith)
blocks_skip ps (suc n) [] more at h = absurd (omega arith)
blocks_skip ps (suc n) (x ∷ s) more at h = blocks_skip ps n s more (at + 1) (omega arith)

-- a block is read from its first byte on
block_on : (p : Params) (at first : ℕ) (rest : List ℕ) (x : Block × ℕ) → nat_eq first 0xff ≡ false → block_front 1 at (first ∷ rest) ≡ Ok x →
    blocks_on false (p ∷ []) None 0 at (first ∷ rest) ≡ after_blocks (x.0 ∷ []) (blocks_on false (p ∷ []) None (x.1 - 1) (at + 1) rest)
unfolding blocks_on
block_on p at first rest x apart is = rw (apart, is) refl

-- a block at the front
block_stands : (at : ℕ) (b : Block) (more : List ℕ) → ReadableBlock b → block_front 1 at (block_spelling b ++ more) ≡ Ok (b, length (block_spelling b))
unfolding block_front block_spelling
block_stands at b more r =
    rw (item_stands 14 at (block_item b) more r.is_short (block_fits 10 b r r.is_short), block_read b r, r.params) refl

block_begins : (b : Block) → ReadableBlock b → Begins (block_spelling b)
unfolding block_spelling
block_begins b r = item_begins 14 (block_item b) (spelling (block_item b)) (item_written 14 (block_item b) (block_fits 10 b r r.is_short))

-- one block, and then the others
block_then : (p : Params) (b : Block) (more : List ℕ) (at : ℕ) → ReadableBlock b →
    (place : ℕ) × (blocks_on false (p ∷ []) None 0 at (block_spelling b ++ more) ≡ after_blocks (b ∷ []) (blocks_on false (p ∷ []) None 0 place more))
block_then p b more at r =
    let s : List ℕ = block_spelling b in
    let begins : Begins s = block_begins b r in
    let whole : s ++ more ≡ begins.0 ∷ (begins.1 ++ more) = ap (λ t. t ++ more) begins.2 in
    let front : block_front 1 at (begins.0 ∷ (begins.1 ++ more)) ≡ Ok (b, length s) = ap (block_front 1 at) (sym whole) ∙ block_stands at b more r in
    let size : length begins.1 ≡ length s - 1 = let l : length s ≡ length (begins.0 ∷ begins.1) = ap length begins.2 in omega (arith, l) in
    let skip = blocks_skip (p ∷ []) (length s - 1) begins.1 more (at + 1) size in (
      skip.0,
      ap (blocks_on false (p ∷ []) None 0 at) whole
          ∙ block_on p at begins.0 (begins.1 ++ more) (b, length s) (ne_eqb begins.0 0xff begins.3) front
          ∙ ap (after_blocks (b ∷ [])) skip.1,
    )

-- all blocks, and then what follows
blocks_then : (p : Params) (bs : List Block) (more : List ℕ) (at : ℕ) → AllByRecursion ReadableBlock bs →
    (place : ℕ) × (blocks_on false (p ∷ []) None 0 at (concat (map block_spelling bs) ++ more) ≡ after_blocks bs (blocks_on false (p ∷ []) None 0 place more))
blocks_then p [] more at all = (at, refl)
blocks_then p (b ∷ bs) more at all =
    let rest : List ℕ = concat (map block_spelling bs) in
    let one = block_then p b (rest ++ more) at all.0 in
    let others = blocks_then p bs more one.0 all.1 in (
      others.0,
      ap (blocks_on false (p ∷ []) None 0 at) (append_assoc (block_spelling b) rest more) ∙ one.1 ∙ ap (after_blocks (b ∷ [])) others.1,
    )

-- nothing follows
open_ends : (p : Params) (at : ℕ) → blocks_on false (p ∷ []) None 0 at [] ≡ blockless (p ∷ []) Open
unfolding blocks_on
open_ends p at = refl

-- the break follows
whole_ends : (p : Params) (at : ℕ) → blocks_on false (p ∷ []) None 0 at (0xff ∷ []) ≡ blockless (p ∷ []) Whole
unfolding blocks_on closing
whole_ends p at = refl

-- these blocks, and no other
held : (p : Params) (bs : List Block) (e : FileEnd) → after_blocks bs (blockless (p ∷ []) e) ≡ holding p bs e
held p bs e = ap (λ xs. holding p xs e) (append-nil bs)

-- a file, whose blocks end so
file_ends : (p : Params) (bs : List Block) (tail : List ℕ) (e : FileEnd) → ReadableParams p → AllByRecursion ReadableBlock bs →
    ((at : ℕ) → blocks_on false (p ∷ []) None 0 at tail ≡ blockless (p ∷ []) e) → read_file (file_begun p bs ++ tail) ≡ holding p bs e
unfolding file_begun
file_ends p bs tail e r all ends =
    let begun = head_reads_on p (concat (map block_spelling bs) ++ tail) r in
    let blocks = blocks_then p bs tail begun.0 all in
    ap read_file (append_assoc (file_head p) (concat (map block_spelling bs)) tail)
    ∙ begun.1 ∙ blocks.1 ∙ ap (after_blocks bs) (ends blocks.0) ∙ held p bs e

pub file_is_read_back : FileIsReadBack
unfolding file_of
file_is_read_back params blocks r all = file_ends params blocks file_end Whole r all (whole_ends params)

pub open_file_is_read_back : OpenFileIsReadBack
open_file_is_read_back params blocks r all =
    ap read_file (sym (append-nil (file_begun params blocks))) ∙ file_ends params blocks [] Open r all (open_ends params)

-- blocks that resolve are kept
blocks_kept : (blocks : List Block) (kept : List KeptBlock) (e : FileEnd) → AreResolved blocks kept → kept_blocks blocks e ≡ (kept, e)
unfolding kept_blocks
blocks_kept [] [] e are = refl
blocks_kept [] (k ∷ kept) e are = absurd are
blocks_kept (b ∷ blocks) [] e are = absurd are
blocks_kept (b ∷ blocks) (k ∷ kept) e are = rw (are.0, blocks_kept blocks kept e are.1) refl

pub file_is_kept : FileIsKept
unfolding kept_file
file_is_kept params blocks kept r all are = rw (file_is_read_back params blocks r all, blocks_kept blocks kept Whole are) refl
