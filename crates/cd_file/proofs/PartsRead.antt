-- The preamble and a block at the front of some bytes, by what was read of them.
use Rattle.std.proofs.Common.{◌≡◌, ℕ, Bool, true, false, List, Ok, Err, refl}
use Rattle.std.specs.Prelude.{nat_lt}
use Rattle.cd_cbor.specs.declared.item.Item.{Item}
use Rattle.cd_block.specs.declared.block.Block.{Block}
use Rattle.cd_block.specs.declared.params.Params.{Params}
use Rattle.cd_file.specs.declared.refusal.FileWhy.{FileWhy}
use Rattle.cd_file.specs.declared.refusal.FileWhy.TheVariants.{ParamIndex}
use Rattle.cd_file.specs.ItemHeads.{ItemHead}
use Rattle.cd_file.specs.ReadHead.{read_params}
use Rattle.cd_file.specs.ReadBlock.{read_block}
use Rattle.cd_file.specs.ReadFile.{Refused, element_head, is_map, item_front, preamble_front, block_front}

module _ (is_open : Bool) (at : ℕ) (held : List ℕ) (head : ItemHead) (head_size : ℕ) (begun : element_head is_open at held ≡ Ok (head, head_size)) (map : is_map head.kind ≡ true) where
  -- a preamble that is refused
  pub preamble_refused : (item : Item) (size : ℕ) (reason : FileWhy) → item_front 15 at held ≡ Ok (item, size) → read_params item ≡ Err reason → preamble_front is_open at held ≡ Err (Refused reason)
  unfolding preamble_front
  preamble_refused item size reason front read = rw (begun, map, front, read) refl

  -- one that is read
  pub preamble_read : (item : Item) (size : ℕ) (entries : List Params) → item_front 15 at held ≡ Ok (item, size) → read_params item ≡ Ok entries → preamble_front is_open at held ≡ Ok (entries, size)
  unfolding preamble_front
  preamble_read item size entries front read = rw (begun, map, front, read) refl

module _ (count at : ℕ) (held : List ℕ) (item : Item) (size : ℕ) (front : item_front 14 at held ≡ Ok (item, size)) where
  -- a block that is refused
  pub block_refused : (reason : FileWhy) → read_block item ≡ Err reason → block_front count at held ≡ Err (Refused reason)
  unfolding block_front
  block_refused reason read = rw (front, read) refl

  -- one that is read, and whose block parameters are there or not
  pub block_read : (block : Block) → read_block item ≡ Ok block → nat_lt block.params count ≡ true → block_front count at held ≡ Ok (block, size)
  unfolding block_front
  block_read block read few = rw (front, read, few) refl

  pub block_paramless : (block : Block) → read_block item ≡ Ok block → nat_lt block.params count ≡ false → block_front count at held ≡ Err (Refused ParamIndex)
  unfolding block_front
  block_paramless block read many = rw (front, read, many) refl
