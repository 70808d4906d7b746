-- What a file holds stays as its bytes go on, and more may follow; what is refused stays refused.
use Rattle.std.proofs.Common.{◌≡◌, ℕ, zero, suc, ◌+◌, ◌-◌, ◌≤◌, Bool, true, false, cond, List, [], ◌∷◌, ◌++◌, length, drop, Result, Ok, Err, refl, ap, sym, ◌∙◌}
use Rattle.std.specs.Prelude.{nat_eq, Option, Some, None}
use Rattle.std.proofs.lemmas.List.{drop-append-le}
use Rattle.cd_block.specs.declared.block.Block.{Block}
use Rattle.cd_block.specs.declared.params.Params.{Params}
use Rattle.cd_file.specs.declared.refusal.FileWhy.{FileWhy}
use Rattle.cd_file.specs.declared.refusal.FileWhy.TheVariants.{NotCdns}
use Rattle.cd_file.specs.ReadFile.{FileEnd, Open, Refused, FileRead, headless, blockless, after_blocks, Front, onward, outer_front, title_head, is_title, title_front, chunk_front, preamble_front, count_front, block_front, nothing_more, closing, blocks_on, array_on, preamble_on, chunks_on, title_by, title_on, read_file}
use Rattle.cd_file.specs.FileGrowth.{Grows, FilesGrow}
use Rattle.cd_file.proofs.FrontsGo.{Stays, Fills, outer_stays, outer_fills, title_head_stays, title_head_fills, title_stays, title_fills, chunk_stays, preamble_stays, preamble_fills, count_stays, count_fills, block_stays}

-- a file that ends before its head is whole
grows_headless : (e : FileEnd) (later : FileRead) → ((reason : FileWhy) → e ≡ Refused reason → later ≡ headless e) → Grows (headless e) later
grows_headless e later same = record {
  rest = later.blocks;
  blocks = refl;
  params = λ entries h. absurd cc;
  headless = λ h. refl;
  refused = same;
}

-- a file that ends where a block is due
grows_blockless : (entries : List Params) (e : FileEnd) (later : FileRead) → later.params ≡ Some entries → ((reason : FileWhy) → e ≡ Refused reason → later ≡ blockless entries e) →
    Grows (blockless entries e) later
grows_blockless entries e later known same = record {
  rest = later.blocks;
  blocks = refl;
  params = λ others h. known ∙ h;
  headless = λ h. absurd cc;
  refused = same;
}

-- what is refused is not open
not_open : {A : Type 0} (e : FileEnd) (reason : FileWhy) → e ≡ Refused reason → ◌≡◌ {A = Result A FileEnd} (Err e) (Err Open) → ⊥
not_open e reason is h = let same : e ≡ Open = cc in let open_too : Refused reason ≡ Open = sym is ∙ same in absurd cc

-- a part at the front, and what comes after it
module _ {A : Type 0} (now later : Front A) (at : ℕ) (bytes more : List ℕ) (go : A → ℕ → List ℕ → FileRead) (stays : Stays now later) (fills : Fills bytes now) where
  -- a part that is there
  pub onward_there : (x : A × ℕ) → now ≡ Ok x → onward later at (bytes ++ more) go ≡ go x.0 (at + x.1) (drop x.1 bytes ++ more)
  onward_there x is =
      let same : later ≡ Ok x = stays (λ h. absurd cc) ∙ is in
      let inside : x.1 ≤ length bytes = (fills x is).1 in
      rw same (ap (go x.0 (at + x.1)) (drop-append-le x.1 bytes more inside))

  -- a refusal
  pub onward_refused : (reason : FileWhy) → now ≡ Err (Refused reason) → onward later at (bytes ++ more) go ≡ headless (Refused reason)
  onward_refused reason is =
      let same : later ≡ Err (Refused reason) = stays (λ h. not_open (Refused reason) reason refl (sym is ∙ h)) ∙ is in rw same refl

  onward_by : (front : Front A) → now ≡ front → ((x : A) (place : ℕ) (rest : List ℕ) → Grows (go x place rest) (go x place (rest ++ more))) → Grows (onward front at bytes go) (onward later at (bytes ++ more) go)
  onward_by (Ok x) is each = rw (onward_there x is) (each x.0 (at + x.1) (drop x.1 bytes))
  onward_by (Err e) is each =
      grows_headless e (onward later at (bytes ++ more) go) (λ reason h. onward_refused reason (is ∙ ap Err h) ∙ ap headless (sym h))

  onward_grows : ((x : A) (place : ℕ) (rest : List ℕ) → Grows (go x place rest) (go x place (rest ++ more))) → Grows (onward now at bytes go) (onward later at (bytes ++ more) go)
  onward_grows each = onward_by now refl each

-- what closes a file
nothing_stays : (b : Bool) (bytes more : List ℕ) (reason : FileWhy) → cond b (nothing_more bytes) (Refused NotCdns) ≡ Refused reason →
    cond b (nothing_more (bytes ++ more)) (Refused NotCdns) ≡ cond b (nothing_more bytes) (Refused NotCdns)
nothing_stays true [] more reason h = absurd cc
nothing_stays true (byte ∷ bytes) more reason h = refl
nothing_stays false bytes more reason h = refl

pub closing_stays : (is_open : Bool) (bytes more : List ℕ) (reason : FileWhy) → closing is_open bytes ≡ Refused reason → closing is_open (bytes ++ more) ≡ closing is_open bytes
unfolding closing
closing_stays false [] more reason h = absurd cc
closing_stays false (byte ∷ bytes) more reason h = refl
closing_stays true [] more reason h = absurd cc
closing_stays true (byte ∷ bytes) more reason h = nothing_stays (nat_eq byte 255) bytes more reason h

grows_if : (b : Bool) (x y other rest : FileRead) → Grows x y → Grows other rest → Grows (cond b x other) (cond b y rest)
grows_if true x y other rest first second = first
grows_if false x y other rest first second = second

-- the block at the front, and what comes after it, or the end there
abbrev pub block_by : List Params → Front Block → (ℕ → FileRead) → FileRead
block_by entries front go = elim front [ Err e ↦ blockless entries e | Ok x ↦ after_blocks (x.0 ∷ []) (go (x.1 - 1)) ]

module _ (entries : List Params) where
  -- the block parameters of the head are known from there on
  known_by : (front : Front Block) (go : ℕ → FileRead) → ((inside : ℕ) → (go inside).params ≡ Some entries) → (block_by entries front go).params ≡ Some entries
  known_by (Err e) go each = refl
  known_by (Ok x) go each = each (x.1 - 1)

  known_turn : (b : Bool) (e : FileEnd) (front : Front Block) (go : ℕ → FileRead) → ((inside : ℕ) → (go inside).params ≡ Some entries) →
      (cond b (blockless entries e) (block_by entries front go)).params ≡ Some entries
  known_turn true e front go each = refl
  known_turn false e front go each = known_by front go each

  grows_after : (block : Block) (now later : FileRead) → now.params ≡ Some entries → Grows now later → Grows (after_blocks (block ∷ []) now) (after_blocks (block ∷ []) later)
  grows_after block now later known g = record {
    rest = g.rest;
    blocks = ap (λ bs. block ∷ bs) g.blocks;
    params = g.params;
    headless = λ h. let none : ◌≡◌ {A = Option (List Params)} None (Some entries) = sym h ∙ known in absurd cc;
    refused = λ reason h. ap (after_blocks (block ∷ [])) (g.refused reason h);
  }

  grows_block : (now later : Front Block) (go later_go : ℕ → FileRead) → Stays now later → ((inside : ℕ) → (go inside).params ≡ Some entries) →
      ((inside : ℕ) → (later_go inside).params ≡ Some entries) → ((inside : ℕ) → Grows (go inside) (later_go inside)) → Grows (block_by entries now go) (block_by entries later later_go)
  grows_block (Err e) later go later_go stays known known_later each =
      grows_blockless entries e (block_by entries later later_go) (known_by later later_go known_later)
      (λ reason h. let same : later ≡ Err e = stays (not_open e reason h) in rw same refl)
  grows_block (Ok x) later go later_go stays known known_later each =
      let same : later ≡ Ok x = stays (λ h. absurd cc) in
      rw same (grows_after x.0 (go (x.1 - 1)) (later_go (x.1 - 1)) (known (x.1 - 1)) (each (x.1 - 1)))

  grows_turn : (b : Bool) (e f : FileEnd) (now later : Front Block) (go later_go : ℕ → FileRead) → ((reason : FileWhy) → e ≡ Refused reason → f ≡ e) → Stays now later →
      ((inside : ℕ) → (go inside).params ≡ Some entries) → ((inside : ℕ) → (later_go inside).params ≡ Some entries) → ((inside : ℕ) → Grows (go inside) (later_go inside)) →
      Grows (cond b (blockless entries e) (block_by entries now go)) (cond b (blockless entries f) (block_by entries later later_go))
  grows_turn true e f now later go later_go closes stays known known_later each =
      grows_blockless entries e (blockless entries f) refl (λ reason h. ap (blockless entries) (closes reason h))
  grows_turn false e f now later go later_go closes stays known known_later each = grows_block now later go later_go stays known known_later each

  module _ (is_open : Bool) where
    pub blocks_known : (left : Option ℕ) (inside at : ℕ) (bytes : List ℕ) → (blocks_on is_open entries left inside at bytes).params ≡ Some entries
    unfolding blocks_on
    blocks_known (Some zero) zero at bytes = refl
    blocks_known None zero at [] = refl
    blocks_known (Some (suc n)) zero at [] = refl
    blocks_known None (suc inside) at [] = refl
    blocks_known (Some zero) (suc inside) at [] = refl
    blocks_known (Some (suc n)) (suc inside) at [] = refl
    blocks_known None (suc inside) at (byte ∷ bytes) = blocks_known None inside (at + 1) bytes
    blocks_known (Some zero) (suc inside) at (byte ∷ bytes) = blocks_known (Some zero) inside (at + 1) bytes
    blocks_known (Some (suc n)) (suc inside) at (byte ∷ bytes) = blocks_known (Some (suc n)) inside (at + 1) bytes
    blocks_known None zero at (byte ∷ bytes) =
        known_turn (nat_eq byte 255) (closing is_open bytes) (block_front (length entries) at (byte ∷ bytes)) (λ inside. blocks_on is_open entries None inside (at + 1) bytes)
        (λ inside. blocks_known None inside (at + 1) bytes)
    blocks_known (Some (suc n)) zero at (byte ∷ bytes) =
        known_by (block_front (length entries) at (byte ∷ bytes)) (λ inside. blocks_on is_open entries (Some (suc n - 1)) inside (at + 1) bytes)
        (λ inside. blocks_known (Some (suc n - 1)) inside (at + 1) bytes)

    module _ (more : List ℕ) where
      open_grows : (later : FileRead) → later.params ≡ Some entries → Grows (blockless entries Open) later
      open_grows later known = grows_blockless entries Open later known (λ reason h. absurd cc)

      pub blocks_grows : (left : Option ℕ) (inside at : ℕ) (bytes : List ℕ) → Grows (blocks_on is_open entries left inside at bytes) (blocks_on is_open entries left inside at (bytes ++ more))
      unfolding blocks_on
      blocks_grows (Some zero) zero at bytes =
          grows_blockless entries (closing is_open bytes) (blockless entries (closing is_open (bytes ++ more))) refl
          (λ reason h. ap (blockless entries) (closing_stays is_open bytes more reason h))
      blocks_grows None zero at [] = open_grows _ (blocks_known None zero at more)
      blocks_grows (Some (suc n)) zero at [] = open_grows _ (blocks_known (Some (suc n)) zero at more)
      blocks_grows None (suc inside) at [] = open_grows _ (blocks_known None (suc inside) at more)
      blocks_grows (Some zero) (suc inside) at [] = open_grows _ (blocks_known (Some zero) (suc inside) at more)
      blocks_grows (Some (suc n)) (suc inside) at [] = open_grows _ (blocks_known (Some (suc n)) (suc inside) at more)
      blocks_grows None (suc inside) at (byte ∷ bytes) = blocks_grows None inside (at + 1) bytes
      blocks_grows (Some zero) (suc inside) at (byte ∷ bytes) = blocks_grows (Some zero) inside (at + 1) bytes
      blocks_grows (Some (suc n)) (suc inside) at (byte ∷ bytes) = blocks_grows (Some (suc n)) inside (at + 1) bytes
      blocks_grows None zero at (byte ∷ bytes) =
          grows_turn (nat_eq byte 255) (closing is_open bytes) (closing is_open (bytes ++ more)) (block_front (length entries) at (byte ∷ bytes))
          (block_front (length entries) at (byte ∷ bytes ++ more)) (λ inside. blocks_on is_open entries None inside (at + 1) bytes)
          (λ inside. blocks_on is_open entries None inside (at + 1) (bytes ++ more)) (closing_stays is_open bytes more) (block_stays (length entries) at (byte ∷ bytes) more)
          (λ inside. blocks_known None inside (at + 1) bytes) (λ inside. blocks_known None inside (at + 1) (bytes ++ more)) (λ inside. blocks_grows None inside (at + 1) bytes)
      blocks_grows (Some (suc n)) zero at (byte ∷ bytes) =
          grows_block (block_front (length entries) at (byte ∷ bytes)) (block_front (length entries) at (byte ∷ bytes ++ more))
          (λ inside. blocks_on is_open entries (Some (suc n - 1)) inside (at + 1) bytes) (λ inside. blocks_on is_open entries (Some (suc n - 1)) inside (at + 1) (bytes ++ more))
          (block_stays (length entries) at (byte ∷ bytes) more) (λ inside. blocks_known (Some (suc n - 1)) inside (at + 1) bytes)
          (λ inside. blocks_known (Some (suc n - 1)) inside (at + 1) (bytes ++ more)) (λ inside. blocks_grows (Some (suc n - 1)) inside (at + 1) bytes)

-- the chunk at the front, and what comes after it, or the end there
abbrev pub chunk_by : Front (List ℕ) → (List ℕ → ℕ → FileRead) → FileRead
chunk_by front go = elim front [ Err e ↦ headless e | Ok x ↦ go x.0 (x.1 - 1) ]

grows_chunk : (now later : Front (List ℕ)) (go later_go : List ℕ → ℕ → FileRead) → Stays now later → ((title : List ℕ) (inside : ℕ) → Grows (go title inside) (later_go title inside)) →
    Grows (chunk_by now go) (chunk_by later later_go)
grows_chunk (Err e) later go later_go stays each =
    grows_headless e (chunk_by later later_go) (λ reason h. let same : later ≡ Err e = stays (not_open e reason h) in rw same refl)
grows_chunk (Ok x) later go later_go stays each = let same : later ≡ Ok x = stays (λ h. absurd cc) in rw same (each x.0 (x.1 - 1))

module _ (is_open : Bool) (more : List ℕ) where
  pub array_grows : (entries : List Params) (at : ℕ) (bytes : List ℕ) → Grows (array_on is_open entries at bytes) (array_on is_open entries at (bytes ++ more))
  unfolding array_on
  array_grows entries at bytes =
      onward_grows (count_front is_open at bytes) (count_front is_open at (bytes ++ more)) at bytes more (λ count. blocks_on is_open entries count 0) (count_stays is_open at bytes more)
      (count_fills is_open at bytes) (λ count place rest. blocks_grows entries is_open more count 0 place rest)

  pub preamble_grows : (at : ℕ) (bytes : List ℕ) → Grows (preamble_on is_open at bytes) (preamble_on is_open at (bytes ++ more))
  unfolding preamble_on
  preamble_grows at bytes =
      onward_grows (preamble_front is_open at bytes) (preamble_front is_open at (bytes ++ more)) at bytes more (array_on is_open) (preamble_stays is_open at bytes more)
      (preamble_fills is_open at bytes) array_grows

  pub chunks_grow : (title : List ℕ) (inside at : ℕ) (bytes : List ℕ) → Grows (chunks_on is_open title inside at bytes) (chunks_on is_open title inside at (bytes ++ more))
  unfolding chunks_on
  chunks_grow title inside at [] = grows_headless Open _ (λ reason h. absurd cc)
  chunks_grow title (suc inside) at (byte ∷ bytes) = chunks_grow title inside (at + 1) bytes
  chunks_grow title zero at (byte ∷ bytes) =
      grows_if (nat_eq byte 255) _ _ _ _
      (grows_if (is_title title) _ _ _ _ (preamble_grows (at + 1) bytes) (grows_headless (Refused NotCdns) (headless (Refused NotCdns)) (λ reason h. refl)))
      (grows_chunk (chunk_front title at (byte ∷ bytes)) (chunk_front title at (byte ∷ bytes ++ more)) (λ t inside. chunks_on is_open t inside (at + 1) bytes)
      (λ t inside. chunks_on is_open t inside (at + 1) (bytes ++ more)) (chunk_stays title at (byte ∷ bytes) more) (λ t inside. chunks_grow t inside (at + 1) bytes))

  title_by_grows : (at : ℕ) (bytes : List ℕ) (now later : Front Bool) → Stays now later → Fills bytes now → Grows (title_by is_open at bytes now) (title_by is_open at (bytes ++ more) later)
  title_by_grows at bytes (Err e) later stays fills =
      grows_headless e (title_by is_open at (bytes ++ more) later) (λ reason h. let same : later ≡ Err e = stays (not_open e reason h) in rw same refl)
  title_by_grows at bytes (Ok (true, size)) later stays fills =
      let same : later ≡ Ok (true, size) = stays (λ h. absurd cc) in
      let inside : size ≤ length bytes = (fills (true, size) refl).1 in
      rw (same, drop-append-le size bytes more inside) (chunks_grow [] 0 (at + size) (drop size bytes))
  title_by_grows at bytes (Ok (false, size)) later stays fills =
      let same : later ≡ Ok (false, size) = stays (λ h. absurd cc) in
      rw same
      (onward_grows (title_front size at bytes) (title_front size at (bytes ++ more)) at bytes more (λ title. preamble_on is_open) (title_stays size at bytes more) (title_fills size at bytes)
      (λ title place rest. preamble_grows place rest))

  pub title_grows : (at : ℕ) (bytes : List ℕ) → Grows (title_on is_open at bytes) (title_on is_open at (bytes ++ more))
  unfolding title_on
  title_grows at bytes =
      title_by_grows at bytes (title_head is_open at bytes) (title_head is_open at (bytes ++ more)) (title_head_stays is_open at bytes more) (title_head_fills is_open at bytes)

-- a file
pub files_grow : FilesGrow
unfolding read_file
files_grow bytes more =
    onward_grows (outer_front bytes) (outer_front (bytes ++ more)) 0 bytes more title_on (outer_stays bytes more) (outer_fills bytes) (λ is_open place rest. title_grows is_open more place rest)
