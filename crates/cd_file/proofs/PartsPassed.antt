-- Each part at the front of the bytes of a file leads to what is read after it, or ends the file.
use Rattle.std.proofs.Common.{◌≡◌, ℕ, zero, suc, ◌+◌, ◌-◌, ◌≤◌, Bool, true, false, cond, List, [], ◌∷◌, ◌++◌, length, take, drop, Result, Ok, Err, refl, ap, sym, ◌∙◌, arith, take_all, length-append}
use Rattle.std.proofs.lemmas.Bool.{both_ways, ne_eqb}
use Rattle.std.specs.Prelude.{nat_eq, Option, Some, None}
use Rattle.std.proofs.lemmas.List.{drop-append-le}
use Rattle.cd_cbor.specs.Readings.{refused, byte_at}
use Rattle.cd_cbor.specs.Reading.{item_by, item_at}
use Rattle.cd_cbor.specs.declared.fault.Why.TheVariants as why
use Rattle.cd_cbor.proofs.Depths.{item_at_is}
use Rattle.cd_block.specs.declared.block.Block.{Block}
use Rattle.cd_block.specs.declared.params.Params.{Params}
use Rattle.cd_file.specs.declared.stage.Stage.{Stage}
use Rattle.cd_file.specs.declared.stage.Stage.TheVariants as stage
use Rattle.cd_file.specs.declared.refusal.FileWhy.TheVariants.{NotCdns}
use Rattle.cd_file.specs.ItemHeads.{chunk_head}
use Rattle.cd_file.specs.ReadFile.{FileEnd, Open, Refused, FileRead, headless, blockless, after_blocks, Front, onward, begins_with_break, most_item, item_front, outer_front, title_head, is_title, title_front, chunk_front, preamble_front, count_front, block_front, closing, one_less, blocks_on, array_on, preamble_on, chunks_on, title_on, read_file}
use Rattle.cd_file.specs.FileGrowth.{Grows}
use Rattle.cd_file.specs.FileReading.{stage_on}
use Rattle.cd_file.specs.Passing.{Advances, end_of_blocks}
use Rattle.cd_file.proofs.FrontsGo.{Stays, outer_stays, outer_fills, title_head_stays, title_head_fills, title_stays, title_fills, chunk_stays, chunk_fills, preamble_stays, preamble_fills, count_stays, count_fills, block_stays, block_fills}
use Rattle.cd_file.proofs.FileGrows.{block_by, blocks_known, onward_there, files_grow, title_grows, chunks_grow, preamble_grows, array_grows, blocks_grows}

-- what is read from here on stays as the bytes go on
pub stage_grows : (s : Stage) (is_open : Bool) (title : List ℕ) (entries : List Params) (at : ℕ) (bytes more : List ℕ) →
    Grows (stage_on s is_open title entries at bytes) (stage_on s is_open title entries at (bytes ++ more))
stage_grows stage.Outer is_open title entries at bytes more = files_grow bytes more
stage_grows stage.Title is_open title entries at bytes more = title_grows is_open more at bytes
stage_grows stage.Chunk is_open title entries at bytes more = chunks_grow is_open more title 0 at bytes
stage_grows stage.Preamble is_open title entries at bytes more = preamble_grows is_open more at bytes
stage_grows stage.Array is_open title entries at bytes more = array_grows is_open more entries at bytes
stage_grows (stage.Block left) is_open title entries at bytes more = blocks_grows entries is_open more left 0 at bytes

-- where a part at the front ends the file
onward_ends : {A : Type 0} (front : Front A) (at : ℕ) (bytes : List ℕ) (go : A → ℕ → List ℕ → FileRead) (e : FileEnd) → front ≡ Err e → onward front at bytes go ≡ headless e
onward_ends front at bytes go e is = rw is refl

-- a part that is there stays there
there : {A : Type 0} (now later : Result A FileEnd) (x : A) → Stays now later → now ≡ Ok x → later ≡ Ok x
there now later x stays is = stays (λ h. let both : Ok x ≡ Err Open = sym is ∙ h in absurd cc) ∙ is

-- so many bytes still belong to the chunk before
chunks_skip : (is_open : Bool) (title : List ℕ) (inside at : ℕ) (bytes : List ℕ) → inside ≤ length bytes →
    chunks_on is_open title inside at bytes ≡ chunks_on is_open title 0 (at + inside) (drop inside bytes)
unfolding chunks_on
chunks_skip is_open title zero at bytes room = let same : at ≡ at + 0 = omega arith in ap (λ n. chunks_on is_open title 0 n bytes) same
chunks_skip is_open title (suc inside) at [] room = absurd (omega arith)
chunks_skip is_open title (suc inside) at (byte ∷ bytes) room =
    let same : at + 1 + inside ≡ at + suc inside = omega arith in
    chunks_skip is_open title inside (at + 1) bytes (omega arith) ∙ ap (λ n. chunks_on is_open title 0 n (drop inside bytes)) same

-- one byte of the block before
block_byte : (is_open : Bool) (entries : List Params) (left : Option ℕ) (inside at byte : ℕ) (bytes : List ℕ) →
    blocks_on is_open entries left (suc inside) at (byte ∷ bytes) ≡ blocks_on is_open entries left inside (at + 1) bytes
unfolding blocks_on
block_byte is_open entries None inside at byte bytes = refl
block_byte is_open entries (Some zero) inside at byte bytes = refl
block_byte is_open entries (Some (suc n)) inside at byte bytes = refl

-- so many bytes still belong to the block before
blocks_skip : (is_open : Bool) (entries : List Params) (left : Option ℕ) (inside at : ℕ) (bytes : List ℕ) → inside ≤ length bytes →
    blocks_on is_open entries left inside at bytes ≡ blocks_on is_open entries left 0 (at + inside) (drop inside bytes)
blocks_skip is_open entries left zero at bytes room = let same : at ≡ at + 0 = omega arith in ap (λ n. blocks_on is_open entries left 0 n bytes) same
blocks_skip is_open entries left (suc inside) at [] room = absurd (omega arith)
blocks_skip is_open entries left (suc inside) at (byte ∷ bytes) room =
    let same : at + 1 + inside ≡ at + suc inside = omega arith in
    block_byte is_open entries left inside at byte bytes ∙ blocks_skip is_open entries left inside (at + 1) bytes (omega arith)
    ∙ ap (λ n. blocks_on is_open entries left 0 n (drop inside bytes)) same

-- past the first byte of a part
drop_rest : (byte : ℕ) (bytes : List ℕ) (size : ℕ) → 1 ≤ size → drop size (byte ∷ bytes) ≡ drop (size - 1) bytes
drop_rest byte bytes zero some = absurd (omega arith)
drop_rest byte bytes (suc size) some = let same : size ≡ suc size - 1 = omega arith in ap (λ n. drop n bytes) same

-- where goes byte is, nothing is whole
no_chunk : (title : List ℕ) (at : ℕ) → chunk_front title at [] ≡ Err Open
unfolding chunk_front chunk_head byte_at
no_chunk title at = refl

no_first : (most depth : ℕ) → item_at depth (take most []) why.Break 0 ≡ refused 0 why.End
unfolding item_by byte_at
no_first most depth = rw (take_all {A = ℕ} most [] (omega arith)) (item_at_is depth [] why.Break 0)

no_block : (entry_count at : ℕ) → block_front entry_count at [] ≡ Err Open
unfolding block_front item_front
no_block entry_count at = rw (no_first most_item 14) refl

-- a choice that gave nothing, or something
none_if : (b : Bool) (x : FileEnd) → cond b (Some x) None ≡ None → b ≡ false
none_if true x h = absurd cc
none_if false x h = refl

some_if : (b : Bool) (x e : FileEnd) → cond b (Some x) None ≡ Some e → (b ≡ true) × (x ≡ e)
some_if true x e h = (refl, cc)
some_if false x e h = absurd cc

module _ (o : Bool) (t later : List ℕ) (es fs : List Params) (at : ℕ) (held : List ℕ) where
  -- the head of the outer array
  pub outer_passed : (x : Bool × ℕ) → at ≡ 0 → outer_front held ≡ Ok x →
      Advances (record { stage = stage.Outer; is_open = o; title = t; entries = es }) (record { stage = stage.Title; is_open = x.0; title = later; entries = fs }) at x.1 held []
  unfolding read_file
  outer_passed x first is =
      let w = outer_fills held x is in
      record {
        some = w.0;
        within = w.1;
        placed = tt;
        known = tt;
        reads = λ more.
            onward_there (outer_front held) (outer_front (held ++ more)) 0 held more title_on (outer_stays held more) (outer_fills held) x is
            ∙ ap (λ n. title_on x.0 (n + x.1) (drop x.1 held ++ more)) (sym first);
      }

  pub outer_ends : (e : FileEnd) → outer_front held ≡ Err e → read_file held ≡ headless e
  unfolding read_file
  outer_ends e is = onward_ends (outer_front held) 0 held title_on e is

  -- the head of a title in chunks
  pub title_begins : (size : ℕ) → title_head o at held ≡ Ok (true, size) →
      Advances (record { stage = stage.Title; is_open = o; title = t; entries = es }) (record { stage = stage.Chunk; is_open = o; title = []; entries = fs }) at size held []
  unfolding title_on
  title_begins size is =
      let w = title_head_fills o at held (true, size) is in
      record {
        some = w.0;
        within = w.1;
        placed = tt;
        known = tt;
        reads = λ more.
            rw (there (title_head o at held) (title_head o at (held ++ more)) (true, size) (title_head_stays o at held more) is)
            (ap (chunks_on o [] 0 (at + size)) (drop-append-le size held more w.1));
      }

  -- a title at once
  pub title_passed : (size : ℕ) (x : List ℕ × ℕ) → title_head o at held ≡ Ok (false, size) → title_front size at held ≡ Ok x →
      Advances (record { stage = stage.Title; is_open = o; title = t; entries = es }) (record { stage = stage.Preamble; is_open = o; title = later; entries = fs }) at x.1 held []
  unfolding title_on
  title_passed size x head is =
      let w = title_fills size at held x is in
      record {
        some = w.0;
        within = w.1;
        placed = tt;
        known = tt;
        reads = λ more.
            rw (there (title_head o at held) (title_head o at (held ++ more)) (false, size) (title_head_stays o at held more) head)
            (onward_there (title_front size at held) (title_front size at (held ++ more)) at held more (λ title. preamble_on o) (title_stays size at held more) (title_fills size at held) x is);
      }

  pub title_head_ends : (e : FileEnd) → title_head o at held ≡ Err e → title_on o at held ≡ headless e
  unfolding title_on
  title_head_ends e is = rw is refl

  pub title_ends : (size : ℕ) (e : FileEnd) → title_head o at held ≡ Ok (false, size) → title_front size at held ≡ Err e → title_on o at held ≡ headless e
  unfolding title_on
  title_ends size e head is = rw head (onward_ends (title_front size at held) at held (λ title. preamble_on o) e is)

  -- the preamble
  pub preamble_passed : (x : List Params × ℕ) → preamble_front o at held ≡ Ok x →
      Advances (record { stage = stage.Preamble; is_open = o; title = t; entries = es }) (record { stage = stage.Array; is_open = o; title = later; entries = x.0 }) at x.1 held []
  unfolding preamble_on
  preamble_passed x is =
      let w = preamble_fills o at held x is in
      record {
        some = w.0;
        within = w.1;
        placed = tt;
        known = tt;
        reads = λ more.
            onward_there (preamble_front o at held) (preamble_front o at (held ++ more)) at held more (array_on o) (preamble_stays o at held more) (preamble_fills o at held) x is;
      }

  pub preamble_ends : (e : FileEnd) → preamble_front o at held ≡ Err e → preamble_on o at held ≡ headless e
  unfolding preamble_on
  preamble_ends e is = onward_ends (preamble_front o at held) at held (array_on o) e is

  -- the head of the array of blocks
  pub array_passed : (x : Option ℕ × ℕ) → count_front o at held ≡ Ok x →
      Advances (record { stage = stage.Array; is_open = o; title = t; entries = es }) (record { stage = stage.Block x.0; is_open = o; title = later; entries = es }) at x.1 held []
  unfolding array_on
  array_passed x is =
      let w = count_fills o at held x is in
      record {
        some = w.0;
        within = w.1;
        placed = tt;
        known = tt;
        reads = λ more.
            onward_there (count_front o at held) (count_front o at (held ++ more)) at held more (λ count. blocks_on o es count 0) (count_stays o at held more) (count_fills o at held) x is;
      }

  pub array_ends : (e : FileEnd) → count_front o at held ≡ Err e → array_on o es at held ≡ headless e
  unfolding array_on
  array_ends e is = onward_ends (count_front o at held) at held (λ count. blocks_on o es count 0) e is

-- a chunk of the title
module _ (o : Bool) (t : List ℕ) (at : ℕ) where
  chunk_reads : (held : List ℕ) (x : List ℕ × ℕ) → begins_with_break held ≡ false → chunk_front t at held ≡ Ok x → (1 ≤ x.1) × (x.1 ≤ length held) → (more : List ℕ) →
      chunks_on o t 0 at (held ++ more) ≡ chunks_on o x.0 0 (at + x.1) (drop x.1 held ++ more)
  unfolding chunks_on
  chunk_reads [] x goes is w more = absurd (omega (arith, w.0, w.1))
  chunk_reads (byte ∷ bytes) x goes is w more =
      let other : nat_eq byte 255 ≡ false = goes in
      let later : chunk_front t at (byte ∷ bytes ++ more) ≡ Ok x =
      there (chunk_front t at (byte ∷ bytes)) (chunk_front t at (byte ∷ bytes ++ more)) x (chunk_stays t at (byte ∷ bytes) more) is in
      let room : x.1 - 1 ≤ length bytes = omega (arith, w.0, w.1) in
      let place : at + 1 + (x.1 - 1) ≡ at + x.1 = omega (arith, w.0) in
      rw (other, later)
      (chunks_skip o x.0 (x.1 - 1) (at + 1) (bytes ++ more) (omega (arith, room, length-append bytes more))
      ∙ ap (λ n. chunks_on o x.0 0 n (drop (x.1 - 1) (bytes ++ more))) place
      ∙ ap (chunks_on o x.0 0 (at + x.1)) (drop-append-le (x.1 - 1) bytes more room ∙ ap (λ bs. bs ++ more) (sym (drop_rest byte bytes x.1 w.0))))

  pub chunk_passed : (es fs : List Params) (held : List ℕ) (x : List ℕ × ℕ) → begins_with_break held ≡ false → chunk_front t at held ≡ Ok x →
      Advances (record { stage = stage.Chunk; is_open = o; title = t; entries = es }) (record { stage = stage.Chunk; is_open = o; title = x.0; entries = fs }) at x.1 held []
  chunk_passed es fs held x goes is =
      let w = chunk_fills t at held x is in
      record { some = w.0; within = w.1; placed = tt; known = tt; reads = chunk_reads held x goes is w }

  pub chunk_ends : (held : List ℕ) (e : FileEnd) → begins_with_break held ≡ false → chunk_front t at held ≡ Err e → chunks_on o t 0 at held ≡ headless e
  unfolding chunks_on
  chunk_ends [] e goes is = let same : ◌≡◌ {A = Front (List ℕ)} (Err Open) (Err e) = sym (no_chunk t at) ∙ is in let end : Open ≡ e = cc in ap headless end
  chunk_ends (byte ∷ bytes) e goes is = let other : nat_eq byte 255 ≡ false = goes in rw (other, is) refl

  -- the break after the chunks
  break_reads : (held : List ℕ) → begins_with_break held ≡ true → is_title t ≡ true → (1 ≤ length held) × ((more : List ℕ) → chunks_on o t 0 at (held ++ more) ≡ preamble_on o (at + 1) (drop 1 held ++ more))
  unfolding chunks_on
  break_reads [] there title = absurd cc
  break_reads (byte ∷ bytes) there title = (omega arith, λ more. let stop : nat_eq byte 255 ≡ true = there in rw (stop, title) refl)

  pub break_passed : (later : List ℕ) (es fs : List Params) (held : List ℕ) → begins_with_break held ≡ true → is_title t ≡ true →
      Advances (record { stage = stage.Chunk; is_open = o; title = t; entries = es }) (record { stage = stage.Preamble; is_open = o; title = later; entries = fs }) at 1 held []
  break_passed later es fs held there title =
      let w = break_reads held there title in record { some = omega arith; within = w.0; placed = tt; known = tt; reads = w.1 }

  pub break_ends : (held : List ℕ) → begins_with_break held ≡ true → is_title t ≡ false → chunks_on o t 0 at held ≡ headless (Refused NotCdns)
  unfolding chunks_on
  break_ends [] there title = absurd cc
  break_ends (byte ∷ bytes) there title = let stop : nat_eq byte 255 ≡ true = there in rw (stop, title) refl

-- a block
module _ (o : Bool) (es : List Params) (at : ℕ) where
  -- the array of blocks does not end here, whatever comes after the first byte
  still_blocks : (left : Option ℕ) (byte : ℕ) (bytes others : List ℕ) → end_of_blocks o left (byte ∷ bytes) ≡ None → end_of_blocks o left (byte ∷ others) ≡ None
  unfolding end_of_blocks
  still_blocks None byte bytes others h = rw (none_if (nat_eq byte 255) (closing o bytes) h) refl
  still_blocks (Some n) byte bytes others h = rw (none_if (nat_eq n 0) (closing o (byte ∷ bytes)) h) refl

  block_turn : (left : Option ℕ) (byte : ℕ) (bytes : List ℕ) → end_of_blocks o left (byte ∷ bytes) ≡ None →
      blocks_on o es left 0 at (byte ∷ bytes) ≡ block_by es (block_front (length es) at (byte ∷ bytes)) (λ inside. blocks_on o es (one_less left) inside (at + 1) bytes)
  unfolding blocks_on end_of_blocks
  block_turn None byte bytes h = rw (none_if (nat_eq byte 255) (closing o bytes) h) refl
  block_turn (Some zero) byte bytes h = absurd cc
  block_turn (Some (suc n)) byte bytes h = refl

  block_reads : (left : Option ℕ) (held : List ℕ) (x : Block × ℕ) → end_of_blocks o left held ≡ None → block_front (length es) at held ≡ Ok x → (1 ≤ x.1) × (x.1 ≤ length held) → (more : List ℕ) →
      blocks_on o es left 0 at (held ++ more) ≡ after_blocks (x.0 ∷ []) (blocks_on o es (one_less left) 0 (at + x.1) (drop x.1 held ++ more))
  block_reads left [] x goes is w more = absurd (omega (arith, w.0, w.1))
  block_reads left (byte ∷ bytes) x goes is w more =
      let later : block_front (length es) at (byte ∷ bytes ++ more) ≡ Ok x =
      there (block_front (length es) at (byte ∷ bytes)) (block_front (length es) at (byte ∷ bytes ++ more)) x (block_stays (length es) at (byte ∷ bytes) more) is in
      let room : x.1 - 1 ≤ length bytes = omega (arith, w.0, w.1) in
      let place : at + 1 + (x.1 - 1) ≡ at + x.1 = omega (arith, w.0) in
      let go : ℕ → FileRead = λ inside. blocks_on o es (one_less left) inside (at + 1) (bytes ++ more) in
      let rest : go (x.1 - 1) ≡ blocks_on o es (one_less left) 0 (at + x.1) (drop x.1 (byte ∷ bytes) ++ more) =
      blocks_skip o es (one_less left) (x.1 - 1) (at + 1) (bytes ++ more) (omega (arith, room, length-append bytes more))
      ∙ ap (λ n. blocks_on o es (one_less left) 0 n (drop (x.1 - 1) (bytes ++ more))) place
      ∙ ap (blocks_on o es (one_less left) 0 (at + x.1)) (drop-append-le (x.1 - 1) bytes more room ∙ ap (λ bs. bs ++ more) (sym (drop_rest byte bytes x.1 w.0))) in
      block_turn left byte (bytes ++ more) (still_blocks left byte bytes (bytes ++ more) goes)
      ∙ ap (λ front. block_by es front go) later
      ∙ ap (after_blocks (x.0 ∷ [])) rest

  pub block_passed : (left : Option ℕ) (t later : List ℕ) (held : List ℕ) (x : Block × ℕ) → end_of_blocks o left held ≡ None → block_front (length es) at held ≡ Ok x →
      Advances (record { stage = stage.Block left; is_open = o; title = t; entries = es }) (record { stage = stage.Block (one_less left); is_open = o; title = later; entries = es }) at x.1 held (x.0 ∷ [])
  block_passed left t later held x goes is =
      let w = block_fills (length es) at held x is in
      record { some = w.0; within = w.1; placed = tt; known = λ place bytes. blocks_known es o (one_less left) 0 place bytes; reads = block_reads left held x goes is w }

  pub block_ends : (left : Option ℕ) (held : List ℕ) (e : FileEnd) → end_of_blocks o left held ≡ None → block_front (length es) at held ≡ Err e → blocks_on o es left 0 at held ≡ blockless es e
  unfolding blocks_on end_of_blocks
  block_ends (Some zero) held e goes is = absurd cc
  block_ends None [] e goes is = let same : ◌≡◌ {A = Front Block} (Err Open) (Err e) = sym (no_block (length es) at) ∙ is in let end : Open ≡ e = cc in ap (blockless es) end
  block_ends (Some (suc n)) [] e goes is = let same : ◌≡◌ {A = Front Block} (Err Open) (Err e) = sym (no_block (length es) at) ∙ is in let end : Open ≡ e = cc in ap (blockless es) end
  block_ends None (byte ∷ bytes) e goes is = rw (none_if (nat_eq byte 255) (closing o bytes) goes, is) refl
  block_ends (Some (suc n)) (byte ∷ bytes) e goes is = rw is refl

  -- the end of the array of blocks
  pub blocks_end : (left : Option ℕ) (held : List ℕ) (e : FileEnd) → end_of_blocks o left held ≡ Some e → blocks_on o es left 0 at held ≡ blockless es e
  unfolding blocks_on end_of_blocks
  blocks_end (Some zero) held e h = let same : closing o held ≡ e = cc in ap (blockless es) same
  blocks_end (Some (suc n)) held e h = let k = some_if (nat_eq (suc n) 0) (closing o held) e h in absurd (both_ways (nat_eq (suc n) 0) (ne_eqb (suc n) 0 (λ z. omega arith)) k.0)
  blocks_end None [] e h = absurd cc
  blocks_end None (byte ∷ bytes) e h = let k = some_if (nat_eq byte 255) (closing o bytes) e h in rw k.0 (ap (blockless es) k.1)
