use Rattle.std.proofs.Common.{refl}
use Rattle.std.proofs.lemmas.Nat.{be_bytes_8, le_bytes_8}
use Rattle.cd_bytes.specs.declared.order.Order.TheVariants.{Big, Little}
use Rattle.cd_bytes.proofs.Bytes.{small_everywhere}
use Rattle.cd_bytes.proofs.laws.bytes_are_written_as_read.Goals as goal

pub returns-clause-eight : goal.returns-clause-eight
returns-clause-eight c Big bytes size small = be_bytes_8 bytes _ size (small_everywhere bytes small) refl
returns-clause-eight c Little bytes size small = le_bytes_8 bytes _ size (small_everywhere bytes small) refl
