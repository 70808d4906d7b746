-- What holds of each block at the front of bytes holds of the blocks of a file.
use Rattle.std.proofs.Common.{◌≡◌, ℕ, zero, suc, ◌+◌, ◌-◌, ◌≤◌, Bool, true, false, cond, List, [], ◌∷◌, length, drop, take, Result, Ok, Err, refl, ap, sym, subst, arith, length-drop}
use Rattle.std.specs.Prelude.{nat_eq, nat_lt, Option, Some, None}
use Rattle.std.specs.List.{AllByRecursion}
use Rattle.cd_cbor.specs.Reading.{item_at}
use Rattle.cd_cbor.specs.declared.item.Item.{Item}
use Rattle.cd_cbor.specs.declared.fault.Why.TheVariants as why
use Rattle.cd_block.specs.declared.block.Block.{Block}
use Rattle.cd_block.specs.declared.params.Params.{Params}
use Rattle.cd_file.specs.declared.refusal.FileWhy.TheVariants.{NotCdns}
use Rattle.cd_file.specs.ReadBlock.{read_block}
use Rattle.cd_file.specs.ReadHead.{read_params}
use Rattle.cd_file.specs.Refusing.{Refusing}
use Rattle.cd_file.specs.ReadFile.{FileEnd, Open, Refused, FileRead, headless, blockless, after_blocks, Front, ◌>>=◌, refusing, onward, most_item, item_front, outer_front, title_head, is_title, is_map, title_front, chunk_front, element_head, preamble_front, count_front, block_front, closing, blocks_on, array_on, preamble_on, chunks_on, title_by, title_on, read_file}
use Rattle.cd_file.proofs.FrontsGo.{judged_or_ok, block_fills}
use Rattle.cd_file.proofs.FileGrows.{block_by, chunk_by}
use Rattle.cd_file.proofs.BlockParts.{block_parts, parts_fit}

-- how many blocks, items and malformed messages there are
unfoldable pub parts_of : List Block → ℕ
parts_of [] = 0
parts_of (b ∷ blocks) = 1 + block_parts b + parts_of blocks

-- what holds of all block parameters, and of a block of a file with so many of them
pub record Holding : Type 1 where
  pub of_params : List Params → Type 0
  pub of_block : ℕ → Block → Type 0

-- what holds of a block of a file with these block parameters
abbrev pub Named : Holding → Option (List Params) → Block → Type 0
Named G None b = ⊥
Named G (Some entries) b = G.of_block (length entries) b

-- it holds of what is read
pub record Holds (G : Holding) : Type 0 where
  pub params : (item : Item) (entries : List Params) → read_params item ≡ Ok entries → G.of_params entries
  pub block : (count : ℕ) (item : Item) (b : Block) → read_block item ≡ Ok b → nat_lt b.params count ≡ true → G.of_block count b

-- it holds of a file of which so many bytes are left
pub record FileHolds (G : Holding) (file : FileRead) (room : ℕ) : Type 0 where
  pub params : (entries : List Params) → file.params ≡ Some entries → G.of_params entries
  pub blocks : AllByRecursion (Named G file.params) file.blocks
  pub parts : parts_of file.blocks ≤ room

-- a value that is given after another
bind_front : {A B : Type 0} (r : Result A FileEnd) (f : A → Result B FileEnd) (y : B) → (r >>= f) ≡ Ok y → (x : A) × (r ≡ Ok x) × (f x ≡ Ok y)
bind_front (Ok x) f y h = (x, refl, h)
bind_front (Err e) f y h = absurd cc

front_same : {A : Type 0} (x y : A) → ◌≡◌ {A = Result A FileEnd} (Ok x) (Ok y) → x ≡ y
front_same x y h = cc

refusing_ok : {A : Type 0} (r : Refusing A) (x : A) → refusing r ≡ Ok x → r ≡ Ok x
refusing_ok (Ok y) x h = let same : y ≡ x = cc in ap Ok same
refusing_ok (Err reason) x h = absurd cc

-- an item at the front of bytes
item_is : (depth at : ℕ) (bytes : List ℕ) (x : Item × ℕ) → item_front depth at bytes ≡ Ok x → item_at depth (take most_item bytes) why.Break 0 ≡ Ok x
unfolding item_front
item_is depth at bytes x h = judged_or_ok at _ _ x h

some_if : (b : Bool) (x y : Block × ℕ) (e : FileEnd) → cond b (Ok x) (Err e) ≡ Ok y → (b ≡ true) × (x ≡ y)
some_if true x y e h = (refl, front_same x y h)
some_if false x y e h = absurd cc

-- what holds of a block at the front
pub record BlockHolds (G : Holding) (count : ℕ) (x : Block × ℕ) : Type 0 where
  pub block : G.of_block count x.0
  pub parts : 1 + block_parts x.0 ≤ x.1

module _ (G : Holding) (holds : Holds G) where
  block_holds : (count at : ℕ) (bytes : List ℕ) (x : Block × ℕ) → block_front count at bytes ≡ Ok x → BlockHolds G count x
  unfolding block_front
  block_holds count at bytes x h =
      let item = bind_front (item_front 14 at bytes) _ x h in
      let block = bind_front (refusing (read_block item.0.0)) _ x item.2 in
      let there = some_if (nat_lt block.0.params count) (block.0, item.0.1) x _ block.2 in
      let is = refusing_ok (read_block item.0.0) block.0 block.1 in
      subst (BlockHolds G count) there.1
      (record {
        block = holds.block count item.0.0 block.0 is there.0;
        parts = parts_fit 14 (take most_item bytes) item.0.0 item.0.1 block.0 (item_is 14 at bytes item.0 item.1) is;
      })

  params_hold : (is_open : Bool) (at : ℕ) (bytes : List ℕ) (x : List Params × ℕ) → preamble_front is_open at bytes ≡ Ok x → G.of_params x.0
  unfolding preamble_front
  params_hold is_open at bytes x h =
      let head = bind_front (element_head is_open at bytes) _ x h in
      let item = bind_front (cond (is_map head.0.0.kind) (item_front 15 at bytes) (Err (Refused NotCdns))) _ x head.2 in
      let entries = bind_front (refusing (read_params item.0.0)) _ x item.2 in
      subst (λ (p : List Params × ℕ). G.of_params p.0) (front_same (entries.0, item.0.1) x entries.2)
      (holds.params item.0.0 entries.0 (refusing_ok (read_params item.0.0) entries.0 entries.1))

  headless_holds : (e : FileEnd) (room : ℕ) → FileHolds G (headless e) room
  unfolding parts_of
  headless_holds e room = record { params = λ entries h. absurd cc; blocks = tt; parts = omega arith }

  more_room : (file : FileRead) (room more : ℕ) → room ≤ more → FileHolds G file room → FileHolds G file more
  more_room file room more few f = record { params = f.params; blocks = f.blocks; parts = omega (arith, few, f.parts) }

  holds_if : (b : Bool) (x y : FileRead) (room : ℕ) → FileHolds G x room → FileHolds G y room → FileHolds G (cond b x y) room
  holds_if true x y room first second = first
  holds_if false x y room first second = second

  module _ (entries : List Params) (of : G.of_params entries) where
    -- blocks of a file with these block parameters
    record BlocksHold (file : FileRead) (room : ℕ) : Type 0 where
      pub known : file.params ≡ Some entries
      pub blocks : AllByRecursion (G.of_block (length entries)) file.blocks
      pub parts : parts_of file.blocks ≤ room

    none_hold : (e : FileEnd) (room : ℕ) → BlocksHold (blockless entries e) room
    unfolding parts_of
    none_hold e room = record { known = refl; blocks = tt; parts = omega arith }

    more_hold : (x : Block × ℕ) (rest : FileRead) (left : ℕ) → BlockHolds G (length entries) x → BlocksHold rest (left - (x.1 - 1)) → x.1 ≤ 1 + left →
        BlocksHold (after_blocks (x.0 ∷ []) rest) (1 + left)
    unfolding parts_of
    more_hold x rest left one others within = record {
      known = others.known;
      blocks = (one.block, others.blocks);
      parts = omega (arith, one.parts, others.parts, within);
    }

    -- the block at the front, and those after it
    front_hold : (front : Front Block) (go : ℕ → FileRead) (left : ℕ) → ((x : Block × ℕ) → front ≡ Ok x → BlockHolds G (length entries) x × (x.1 ≤ 1 + left)) →
        ((inside : ℕ) → BlocksHold (go inside) (left - inside)) → BlocksHold (block_by entries front go) (1 + left)
    front_hold (Err e) go left each others = none_hold e (1 + left)
    front_hold (Ok x) go left each others = let one = each x refl in more_hold x (go (x.1 - 1)) left one.0 (others (x.1 - 1)) one.1

    turn_hold : (b : Bool) (e : FileEnd) (front : Front Block) (go : ℕ → FileRead) (left : ℕ) → ((x : Block × ℕ) → front ≡ Ok x → BlockHolds G (length entries) x × (x.1 ≤ 1 + left)) →
        ((inside : ℕ) → BlocksHold (go inside) (left - inside)) → BlocksHold (cond b (blockless entries e) (block_by entries front go)) (1 + left)
    turn_hold true e front go left each others = none_hold e (1 + left)
    turn_hold false e front go left each others = front_hold front go left each others

    wider : (file : FileRead) (room more : ℕ) → room ≤ more → BlocksHold file room → BlocksHold file more
    wider file room more few b = record { known = b.known; blocks = b.blocks; parts = omega (arith, few, b.parts) }

    one_holds : (at byte : ℕ) (bytes : List ℕ) (x : Block × ℕ) → block_front (length entries) at (byte ∷ bytes) ≡ Ok x → BlockHolds G (length entries) x × (x.1 ≤ 1 + length bytes)
    one_holds at byte bytes x h =
        let within = (block_fills (length entries) at (byte ∷ bytes) x h).1 in (block_holds (length entries) at (byte ∷ bytes) x h, omega (arith, within))

    -- the array of blocks
    blocks_hold : (is_open : Bool) (left : Option ℕ) (inside at : ℕ) (bytes : List ℕ) → BlocksHold (blocks_on is_open entries left inside at bytes) (length bytes - inside)
    unfolding blocks_on
    blocks_hold is_open (Some zero) zero at bytes = none_hold (closing is_open bytes) _
    blocks_hold is_open None zero at [] = none_hold Open _
    blocks_hold is_open (Some (suc n)) zero at [] = none_hold Open _
    blocks_hold is_open None (suc inside) at [] = none_hold Open _
    blocks_hold is_open (Some zero) (suc inside) at [] = none_hold Open _
    blocks_hold is_open (Some (suc n)) (suc inside) at [] = none_hold Open _
    blocks_hold is_open None (suc inside) at (byte ∷ bytes) = wider _ (length bytes - inside) _ (omega arith) (blocks_hold is_open None inside (at + 1) bytes)
    blocks_hold is_open (Some zero) (suc inside) at (byte ∷ bytes) = wider _ (length bytes - inside) _ (omega arith) (blocks_hold is_open (Some zero) inside (at + 1) bytes)
    blocks_hold is_open (Some (suc n)) (suc inside) at (byte ∷ bytes) = wider _ (length bytes - inside) _ (omega arith) (blocks_hold is_open (Some (suc n)) inside (at + 1) bytes)
    blocks_hold is_open None zero at (byte ∷ bytes) =
        wider _ (1 + length bytes) _ (omega arith)
        (turn_hold (nat_eq byte 255) (closing is_open bytes) (block_front (length entries) at (byte ∷ bytes)) (λ inside. blocks_on is_open entries None inside (at + 1) bytes) (length bytes)
        (one_holds at byte bytes) (λ inside. blocks_hold is_open None inside (at + 1) bytes))
    blocks_hold is_open (Some (suc n)) zero at (byte ∷ bytes) =
        wider _ (1 + length bytes) _ (omega arith)
        (front_hold (block_front (length entries) at (byte ∷ bytes)) (λ inside. blocks_on is_open entries (Some (suc n - 1)) inside (at + 1) bytes) (length bytes)
        (one_holds at byte bytes) (λ inside. blocks_hold is_open (Some (suc n - 1)) inside (at + 1) bytes))

    same_entries : (o : Option (List Params)) (others : List Params) → o ≡ Some entries → o ≡ Some others → entries ≡ others
    same_entries o others known h = cc

    file_of_blocks : (file : FileRead) (room : ℕ) → BlocksHold file room → FileHolds G file room
    file_of_blocks file room b = record {
      params = λ others h. subst G.of_params (same_entries file.params others b.known h) of;
      blocks = subst (λ p. AllByRecursion (Named G p) file.blocks) (sym b.known) b.blocks;
      parts = b.parts;
    }

  -- a part, and what comes after it
  onward_holds : {A : Type 0} (now : Front A) (at : ℕ) (bytes : List ℕ) (go : A → ℕ → List ℕ → FileRead) →
      ((x : A × ℕ) (place : ℕ) (rest : List ℕ) → now ≡ Ok x → FileHolds G (go x.0 place rest) (length rest)) → FileHolds G (onward now at bytes go) (length bytes)
  onward_holds (Err e) at bytes go each = headless_holds e (length bytes)
  onward_holds (Ok x) at bytes go each =
      more_room _ (length (drop x.1 bytes)) (length bytes) (omega (arith, length-drop x.1 bytes)) (each x (at + x.1) (drop x.1 bytes) refl)

  array_holds : (is_open : Bool) (entries : List Params) → G.of_params entries → (at : ℕ) (bytes : List ℕ) → FileHolds G (array_on is_open entries at bytes) (length bytes)
  unfolding array_on
  array_holds is_open entries of at bytes =
      onward_holds (count_front is_open at bytes) at bytes (λ count. blocks_on is_open entries count 0)
      (λ x place rest h. file_of_blocks entries of _ (length rest) (wider entries of _ (length rest - 0) (length rest) (omega arith) (blocks_hold entries of is_open x.0 0 place rest)))

  preamble_holds : (is_open : Bool) (at : ℕ) (bytes : List ℕ) → FileHolds G (preamble_on is_open at bytes) (length bytes)
  unfolding preamble_on
  preamble_holds is_open at bytes =
      onward_holds (preamble_front is_open at bytes) at bytes (array_on is_open) (λ x place rest h. array_holds is_open x.0 (params_hold is_open at bytes x h) place rest)

  chunk_holds : (front : Front (List ℕ)) (go : List ℕ → ℕ → FileRead) (room : ℕ) → ((title : List ℕ) (inside : ℕ) → FileHolds G (go title inside) room) → FileHolds G (chunk_by front go) room
  chunk_holds (Err e) go room each = headless_holds e room
  chunk_holds (Ok x) go room each = each x.0 (x.1 - 1)

  chunks_hold : (is_open : Bool) (title : List ℕ) (inside at : ℕ) (bytes : List ℕ) → FileHolds G (chunks_on is_open title inside at bytes) (length bytes)
  unfolding chunks_on
  chunks_hold is_open title inside at [] = headless_holds Open _
  chunks_hold is_open title (suc inside) at (byte ∷ bytes) = more_room _ (length bytes) _ (omega arith) (chunks_hold is_open title inside (at + 1) bytes)
  chunks_hold is_open title zero at (byte ∷ bytes) =
      more_room _ (length bytes) _ (omega arith)
      (holds_if (nat_eq byte 255) _ _ (length bytes)
      (holds_if (is_title title) _ _ (length bytes) (preamble_holds is_open (at + 1) bytes) (headless_holds (Refused NotCdns) (length bytes)))
      (chunk_holds (chunk_front title at (byte ∷ bytes)) (λ t inside. chunks_on is_open t inside (at + 1) bytes) (length bytes) (λ t inside. chunks_hold is_open t inside (at + 1) bytes)))

  title_by_holds : (is_open : Bool) (at : ℕ) (bytes : List ℕ) (front : Front Bool) → FileHolds G (title_by is_open at bytes front) (length bytes)
  title_by_holds is_open at bytes (Err e) = headless_holds e (length bytes)
  title_by_holds is_open at bytes (Ok (true, size)) =
      more_room _ (length (drop size bytes)) (length bytes) (omega (arith, length-drop size bytes)) (chunks_hold is_open [] 0 (at + size) (drop size bytes))
  title_by_holds is_open at bytes (Ok (false, size)) =
      onward_holds (title_front size at bytes) at bytes (λ title. preamble_on is_open) (λ x place rest h. preamble_holds is_open place rest)

  title_holds : (is_open : Bool) (at : ℕ) (bytes : List ℕ) → FileHolds G (title_on is_open at bytes) (length bytes)
  unfolding title_on
  title_holds is_open at bytes = title_by_holds is_open at bytes (title_head is_open at bytes)

  -- a file
  pub file_holds : (bytes : List ℕ) → FileHolds G (read_file bytes) (length bytes)
  unfolding read_file
  file_holds bytes = onward_holds (outer_front bytes) 0 bytes title_on (λ x place rest h. title_holds x.0 place rest)
