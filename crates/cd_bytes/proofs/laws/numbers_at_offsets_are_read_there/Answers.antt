use Rattle.std.proofs.Common.{arith}
use Rattle.std.proofs.lemmas.List.{get_or-drop}
use Rattle.cd_bytes.specs.Numbers.{be16, be32, le16, le32}
use Rattle.cd_bytes.proofs.Offsets.{first_byte}
use Rattle.cd_bytes.proofs.laws.numbers_at_offsets_are_read_there.Goals as goal

pub returns-clause-be16 : goal.returns-clause-be16
unfolding be16
returns-clause-be16 c = λ at bytes. let byte = get_or-drop at bytes in omega (arith, first_byte at bytes, byte 1 0)

pub returns-clause-be32 : goal.returns-clause-be32
unfolding be32
returns-clause-be32 c = λ at bytes. let byte = get_or-drop at bytes in omega (arith, first_byte at bytes, byte 1 0, byte 2 0, byte 3 0)

pub returns-clause-le16 : goal.returns-clause-le16
unfolding le16
returns-clause-le16 c = λ at bytes. let byte = get_or-drop at bytes in omega (arith, first_byte at bytes, byte 1 0)

pub returns-clause-le32 : goal.returns-clause-le32
unfolding le32
returns-clause-le32 c = λ at bytes. let byte = get_or-drop at bytes in omega (arith, first_byte at bytes, byte 1 0, byte 2 0, byte 3 0)
