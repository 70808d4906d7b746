-- A block whose tables hold each of their values once.
use Rattle.std.specs.Prelude.{◌≢◌, List}
use Rattle.std.specs.List.{AllPairs}
use Rattle.cd_block.specs.declared.block.Block.{Block}

-- no two values of a table are equal
abbrev pub Differ : {T : Type 0} → List T → Type 0
Differ table = AllPairs (λ x y. x ≢ y) table

-- no two values of any table of the block are equal
pub record HoldsEachOnce (b : Block) : Type 0 where
  pub ip_address : Differ b.ip_address
  pub classtype : Differ b.classtype
  pub name_rdata : Differ b.name_rdata
  pub qr_sig : Differ b.qr_sig
  pub qlist : Differ b.qlist
  pub qrr : Differ b.qrr
  pub rrlist : Differ b.rrlist
  pub rr : Differ b.rr
  pub malformed_message_data : Differ b.malformed_message_data
