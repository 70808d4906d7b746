-- A part that is read at the front of the bytes held is a step of the reader.
use Rattle.std.proofs.Common.{◌≡◌, ℕ, ◌+◌, ◌≤◌, Bool, List, [], ◌++◌, length, drop, Option, None, Ok, Err, refl, ap, sym, subst, ◌∙◌, arith}
use Rattle.std.proofs.lemmas.List.{drop-drop, length-drop, drop-append-le}
use Rattle.cd_cbor.specs.Scanning.{Mark}
use Rattle.cd_block.specs.declared.block.Block.{Block}
use Rattle.cd_block.specs.declared.params.Params.{Params}
use Rattle.cd_file.specs.declared.stage.Stage.{Stage}
use Rattle.cd_file.specs.declared.stage.Stage.TheVariants as stage
use Rattle.cd_file.specs.declared.refusal.BadFile.{BadFile}
use Rattle.cd_file.specs.declared.fronts.ending.Unread.{Unread}
use Rattle.cd_file.specs.declared.fronts.ending.Unread.TheVariants as unread
use Rattle.cd_file.specs.declared.progress.Found.{Found}
use Rattle.cd_file.specs.ReadFile.{after_blocks}
use Rattle.cd_file.specs.FileReading.{Kept, Due, reading_on}
use Rattle.cd_file.specs.Passing.{Progressed, known_at, due_of, told_at, IsPlaced, IsScanned, blocks_in, entries_after, Advances, Passes}
use Rattle.cd_file.specs.Fronts.{ending_of}
use Rattle.cd_file.proofs.ItemsScanned.{item_stands}
use Rattle.cd_file.specs.Steps.{Moves, Steps}

-- what is told is told of what counts
pub told_known : (s : Stage) (entries : List Params) → told_at s entries ≡ told_at s (known_at s entries)
told_known stage.Outer entries = refl
told_known stage.Title entries = refl
told_known stage.Chunk entries = refl
told_known stage.Preamble entries = refl
told_known stage.Array entries = refl
told_known (stage.Block left) entries = refl

-- the bytes after a part
pub rest_is : (size start : ℕ) (items : List ℕ) → drop size (drop start items) ≡ drop (start + size) items
rest_is size start items = drop-drop size start items

-- a scan stands for more bytes
pub scanned_more : (s : Stage) (m : Mark) (held more : List ℕ) → IsScanned s m held → IsScanned s m (held ++ more)
scanned_more stage.Outer m held more h = tt
scanned_more stage.Title m held more h = tt
scanned_more stage.Chunk m held more h = tt
scanned_more stage.Preamble m held more h = item_stands 15 m held more h
scanned_more stage.Array m held more h = tt
scanned_more (stage.Block left) m held more h = item_stands 14 m held more h

-- what a part leaves is sound
pub record IsLeft (start at size : ℕ) (items : List ℕ) (q : Progressed) : Type 0 where
  pub some : 1 ≤ size
  pub within : start + size ≤ length items
  pub placed : IsPlaced q.stage (at + size)
  pub scanned : IsScanned q.stage q.mark (drop (start + size) items)

pub left_over : (start at : ℕ) (items : List ℕ) (p q : Progressed) (entries : List Params) (x : Found × ℕ) (held : List ℕ) → held ≡ drop start items → start ≤ length items →
    Passes p q entries at held (Ok x) → IsLeft start at x.1 items q
left_over start at items p q entries x held there within passes =
    let long : length held ≡ length (drop start items) = ap length there in
    record {
      some = passes.0.some;
      within = omega (arith, passes.0.within, long, length-drop start items, within);
      placed = passes.0.placed;
      scanned = subst (IsScanned q.stage q.mark) (ap (drop x.1) there ∙ rest_is x.1 start items) passes.1;
    }

module _ (fed_count start at given_count : ℕ) (items : List ℕ) (p : Progressed) (entries : List Params) (refused ended : Option BadFile) (spent : Bool) where
  -- what is kept
  abbrev pub kept : Kept
  kept = record {
    fed_count = fed_count;
    held = drop start items;
    at = at;
    due = due_of p entries;
    given_count = given_count;
    params = told_at p.stage entries;
    refused = refused;
    ended = ended;
    is_spent = spent;
  }

  -- a piece is held
  pub held_more : (more : ℕ) (piece : List ℕ) → start ≤ length items →
      ◌≡◌ {A = Kept} (record { fed_count = more; held = drop start (items ++ piece); at = at; due = due_of p entries; given_count = given_count; params = told_at p.stage entries; refused = refused; ended = None; is_spent = spent })
      (record { fed_count = more; held = drop start items ++ piece; at = at; due = due_of p entries; given_count = given_count; params = told_at p.stage entries; refused = refused; ended = None; is_spent = spent })
  held_more more piece within =
      ap (λ bytes. record { fed_count = more; held = bytes; at = at; due = due_of p entries; given_count = given_count; params = told_at p.stage entries; refused = refused; ended = None; is_spent = spent })
      (drop-append-le start items piece within)

  -- what is kept after a part
  abbrev pub kept_after : ℕ → ℕ → Progressed → List Params → Kept
  kept_after size given q others = record {
    fed_count = fed_count;
    held = drop (start + size) items;
    at = at + size;
    due = due_of q others;
    given_count = given;
    params = told_at q.stage others;
    refused = refused;
    ended = ended;
    is_spent = spent;
  }

  -- a part is read
  pub taken : (size given : ℕ) (q : Progressed) (others : List Params) (blocks : List Block) → start ≤ length items → given ≡ given_count + length blocks →
      Advances (due_of p entries) (due_of q others) at size (drop start items) blocks → Moves kept (kept_after size given q others) blocks
  taken size given q others blocks within count a = record {
    ahead = omega (arith, a.some);
    place = omega (arith, a.within, length-drop start items, length-drop (start + size) items, within);
    reads = λ more. a.reads more ∙ ap (λ bytes. after_blocks blocks (reading_on (due_of q others) (at + size) (bytes ++ more))) (rest_is size start items);
    known = a.known;
    told = told_known q.stage others;
    given = count;
    fed = refl;
    refused = refl;
    ended = refl;
    spent = refl;
  }

  -- a part that was found
  pub taken_found : (x : Found × ℕ) (f : Found) (given : ℕ) (q : Progressed) (held : List ℕ) → x.0 ≡ f → held ≡ drop start items → start ≤ length items → given ≡ given_count + length (blocks_in f) →
      Passes p q entries at held (Ok x) → Moves kept (kept_after x.1 given q (entries_after f entries)) (blocks_in f)
  taken_found x f given q held is there within count passes =
      let P : Found → List ℕ → Type 0 = λ g bytes. Advances (due_of p entries) (due_of q (entries_after g entries)) at x.1 bytes (blocks_in g) in
      taken x.1 given q (entries_after f entries) (blocks_in f) within count (subst (P f) there (subst (λ g. P g held) is passes.0))

  -- what is kept where the scan went on
  abbrev pub kept_still : Progressed → Kept
  kept_still q = record {
    fed_count = fed_count;
    held = drop start items;
    at = at;
    due = due_of q entries;
    given_count = given_count;
    params = told_at q.stage entries;
    refused = refused;
    ended = ended;
    is_spent = spent;
  }

  still : (q : Progressed) → due_of q entries ≡ due_of p entries → kept_still q ≡ kept
  still q same =
      ap (λ (d : Due). record {
        fed_count = fed_count;
        held = drop start items;
        at = at;
        due = d;
        given_count = given_count;
        params = told_at d.stage entries;
        refused = refused;
        ended = ended;
        is_spent = spent;
      }) same

  -- the file ends, or memory ran out
  pub untaken : (q : Progressed) (u : Unread) → Passes p q entries at (drop start items) (Err u) → Steps kept (kept_still q) (Err u)
  untaken q (unread.Ended e) h =
      (still q h.0, h.2 ∙ ap (λ (o : Option (List Params)). record { params = o; blocks = []; end = ending_of e }) (sym (told_known p.stage entries)))
  untaken q unread.NoMemory h = still q h.0
