-- What a call answers that reads a part at the front of the bytes held, by what is due there.
use Rattle.std.proofs.Common.{◌≡◌, ℕ, Bool, true, false, List, [], length, drop, Option, Some, None, Ok, Err, refl, sym}
use Rattle.std.specs.Prelude.{option_map}
use Rattle.cd_cbor.specs.Scanning.{Mark}
use Rattle.cd_block.specs.declared.block.Block.{Block}
use Rattle.cd_block.specs.declared.params.Params.{Params}
use Rattle.cd_file.specs.declared.fronts.ending.Ending.{Ending}
use Rattle.cd_file.specs.declared.fronts.ending.Ending.TheVariants as ending
use Rattle.cd_file.specs.declared.fronts.ending.Unread.{Unread}
use Rattle.cd_file.specs.declared.fronts.ending.Unread.TheVariants as unread
use Rattle.cd_file.specs.declared.progress.Found.TheVariants as found
use Rattle.cd_file.specs.declared.stage.Stage.TheVariants as stage
use Rattle.cd_file.specs.declared.refusal.FileWhy.TheVariants.{NotCdns}
use Rattle.cd_file.specs.ReadFile.{begins_with_break, outer_front, title_head, is_title, title_front, chunk_front, preamble_front, count_front, block_front, one_less}
use Rattle.cd_file.specs.Fronts.{ending_of, GivesPart, StandsForItem}
use Rattle.cd_file.specs.Passing.{Progressed, Passes, IsScanned, end_of_blocks}
use Rattle.cd_file.proofs.PartsPassed.{outer_passed, outer_ends, title_begins, title_passed, title_head_ends, title_ends, preamble_passed, preamble_ends, array_passed, array_ends, chunk_passed, chunk_ends, break_passed, break_ends, block_passed, block_ends, blocks_end}

module _ (old : Progressed) (entries : List Params) (held : List ℕ) where
  -- the outer array
  module _ (due : old.stage ≡ stage.Outer) where
    pub passes_outer : (o : Bool) (t : List ℕ) (m : Mark) (size : ℕ) → outer_front held ≡ Ok (o, size) →
        Passes old (record { stage = stage.Title; is_open = o; title = t; mark = m }) entries 0 held (Ok (found.Nothing, size))
    passes_outer o t m size is = rw due (outer_passed old.is_open old.title t [] [] 0 held (o, size) refl is, tt)

    pub stops_outer : (e : Ending) → outer_front held ≡ Err (ending_of e) → Passes old old entries 0 held (Err (unread.Ended e))
    stops_outer e is = rw due (refl, tt, outer_ends old.is_open old.title [] [] [] 0 held (ending_of e) is)

  module _ (at : ℕ) where
    -- the title
    module _ (due : old.stage ≡ stage.Title) where
      pub begins_title : (m : Mark) (size : ℕ) → title_head old.is_open at held ≡ Ok (true, size) →
          Passes old (record { stage = stage.Chunk; is_open = old.is_open; title = []; mark = m }) entries at held (Ok (found.Nothing, size))
      begins_title m size is = rw due (title_begins old.is_open old.title [] [] [] at held size is, tt)

      pub passes_title : (t : List ℕ) (m : Mark) (size : ℕ) (x : List ℕ × ℕ) → title_head old.is_open at held ≡ Ok (false, size) → title_front size at held ≡ Ok x →
          ((bytes : List ℕ) → StandsForItem 15 m bytes) → Passes old (record { stage = stage.Preamble; is_open = old.is_open; title = t; mark = m }) entries at held (Ok (found.Nothing, x.1))
      passes_title t m size x head is scan = rw due (title_passed old.is_open old.title t [] [] at held size x head is, scan (drop x.1 held))

      pub stops_title_head : (e : Ending) → title_head old.is_open at held ≡ Err (ending_of e) → Passes old old entries at held (Err (unread.Ended e))
      stops_title_head e is = rw due (refl, tt, title_head_ends old.is_open old.title [] [] [] at held (ending_of e) is)

      pub stops_title : (size : ℕ) (e : Ending) → title_head old.is_open at held ≡ Ok (false, size) → title_front size at held ≡ Err (ending_of e) →
          Passes old old entries at held (Err (unread.Ended e))
      stops_title size e head is = rw due (refl, tt, title_ends old.is_open old.title [] [] [] at held size (ending_of e) head is)

    -- a chunk of it, or the break after the last
    module _ (due : old.stage ≡ stage.Chunk) where
      pub passes_break : (t : List ℕ) (m : Mark) → begins_with_break held ≡ true → is_title old.title ≡ true → ((bytes : List ℕ) → StandsForItem 15 m bytes) →
          Passes old (record { stage = stage.Preamble; is_open = old.is_open; title = t; mark = m }) entries at held (Ok (found.Nothing, 1))
      passes_break t m there title scan = rw due (break_passed old.is_open old.title at t [] [] held there title, scan (drop 1 held))

      pub stops_break : begins_with_break held ≡ true → is_title old.title ≡ false → Passes old old entries at held (Err (unread.Ended (ending.Refused NotCdns)))
      stops_break there title = rw due (refl, tt, break_ends old.is_open old.title at held there title)

      pub passes_chunk : (m : Mark) (x : List ℕ × ℕ) → begins_with_break held ≡ false → chunk_front old.title at held ≡ Ok x →
          Passes old (record { stage = old.stage; is_open = old.is_open; title = x.0; mark = m }) entries at held (Ok (found.Nothing, x.1))
      passes_chunk m x goes is = rw due (chunk_passed old.is_open old.title at [] [] held x goes is, tt)

      pub stops_chunk : (e : Ending) → begins_with_break held ≡ false → chunk_front old.title at held ≡ Err (ending_of e) → Passes old old entries at held (Err (unread.Ended e))
      stops_chunk e goes is = rw due (refl, tt, chunk_ends old.is_open old.title at held (ending_of e) goes is)

      pub chunk_unheld : Passes old old entries at held (Err unread.NoMemory)
      chunk_unheld = rw due (refl, tt)

    -- the preamble
    module _ (due : old.stage ≡ stage.Preamble) where
      pub passes_preamble : (t : List ℕ) (m : Mark) (x : List Params × ℕ) → preamble_front old.is_open at held ≡ Ok x →
          Passes old (record { stage = stage.Array; is_open = old.is_open; title = t; mark = m }) entries at held (Ok (found.Entries x.0, x.1))
      passes_preamble t m x is = rw due (preamble_passed old.is_open old.title t [] [] at held x is, tt)

      pub stops_preamble : (u : Unread) (m : Mark) → GivesPart (λ (x : List Params × ℕ). (x.0, x.1)) (Err u) (preamble_front old.is_open at held) → StandsForItem 15 m held →
          Passes old (record { stage = old.stage; is_open = old.is_open; title = old.title; mark = m }) entries at held (Err u)
      stops_preamble (unread.Ended e) m is scan = rw due (refl, scan, preamble_ends old.is_open old.title [] [] [] at held (ending_of e) is)
      stops_preamble unread.NoMemory m is scan = rw due (refl, scan)

    -- the head of the array of blocks
    module _ (due : old.stage ≡ stage.Array) where
      pub passes_array : (t : List ℕ) (m : Mark) (count : Option ℕ) (size : ℕ) → count_front old.is_open at held ≡ Ok (count, size) → ((bytes : List ℕ) → StandsForItem 14 m bytes) →
          Passes old (record { stage = stage.Block count; is_open = old.is_open; title = t; mark = m }) entries at held (Ok (found.Nothing, size))
      passes_array t m count size is scan = rw due (array_passed old.is_open old.title t entries [] at held (count, size) is, scan (drop size held))

      pub stops_array : (e : Ending) → count_front old.is_open at held ≡ Err (ending_of e) → Passes old old entries at held (Err (unread.Ended e))
      stops_array e is = rw due (refl, tt, array_ends old.is_open old.title [] entries [] at held (ending_of e) is)

    -- a block, or the end of the array of blocks
    module _ (left : Option ℕ) (due : old.stage ≡ stage.Block left) where
      pub passes_block : (t : List ℕ) (m : Mark) (x : Block × ℕ) → end_of_blocks old.is_open left held ≡ None → block_front (length entries) at held ≡ Ok x → ((bytes : List ℕ) → StandsForItem 14 m bytes) →
          Passes old (record { stage = stage.Block (one_less left); is_open = old.is_open; title = t; mark = m }) entries at held (Ok (found.Block x.0, x.1))
      passes_block t m x goes is scan = rw due (block_passed old.is_open entries at left old.title t held x goes is, scan (drop x.1 held))

      pub stops_blocks : (e : Ending) → option_map ending_of (Some e) ≡ end_of_blocks old.is_open left held → IsScanned old.stage old.mark held → Passes old old entries at held (Err (unread.Ended e))
      stops_blocks e is scan = let scanned = rw due at scan in rw due (refl, scanned, blocks_end old.is_open entries at left held (ending_of e) (sym is))

      pub stops_block : (u : Unread) (m : Mark) → end_of_blocks old.is_open left held ≡ None → GivesPart (λ (x : Block × ℕ). (x.0, x.1)) (Err u) (block_front (length entries) at held) → StandsForItem 14 m held →
          Passes old (record { stage = old.stage; is_open = old.is_open; title = old.title; mark = m }) entries at held (Err u)
      stops_block (unread.Ended e) m goes is scan = rw due (refl, scan, block_ends old.is_open entries at left held (ending_of e) goes is)
      stops_block unread.NoMemory m goes is scan = rw due (refl, scan)
