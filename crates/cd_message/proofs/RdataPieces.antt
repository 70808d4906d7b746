-- RDATA as it is written.
use Rattle.std.proofs.Common.{◌≡◌, ℕ, List, Some, None, Option, Result, sym, subst}
use Rattle.std.specs.Option.{option_map_or}
use Rattle.cd_message.specs.declared.writing.Writing.{Writing}
use Rattle.cd_message.specs.declared.writing.WriteFault.{WriteFault}
use Rattle.cd_message.specs.Putting.{Puts}
use Rattle.cd_message.specs.Shapes.{shape_of}
use Rattle.cd_message.specs.Written.{RdataParts, bytes_piece, parts_piece, rdata_piece, compressed_parts}

-- RDATA with parts is written in its parts
pub puts_parts : (rtype : ℕ) (rdata : List ℕ) (parts : RdataParts) (old new : Writing) (r : Result (Unit {0}) WriteFault) → compressed_parts (shape_of rtype) rdata ≡ Some parts →
    Puts (parts_piece parts) old new r → Puts (rdata_piece rtype rdata) old new r
unfolding rdata_piece
puts_parts rtype rdata parts old new r is puts =
    subst (λ (found : Option RdataParts). Puts (option_map_or parts_piece found (bytes_piece rdata)) old new r) (sym is) puts

-- RDATA with no parts is written as it is
pub puts_as_it_is : (rtype : ℕ) (rdata : List ℕ) (old new : Writing) (r : Result (Unit {0}) WriteFault) → compressed_parts (shape_of rtype) rdata ≡ None →
    Puts (bytes_piece rdata) old new r → Puts (rdata_piece rtype rdata) old new r
unfolding rdata_piece
puts_as_it_is rtype rdata old new r none puts =
    subst (λ (found : Option RdataParts). Puts (option_map_or parts_piece found (bytes_piece rdata)) old new r) (sym none) puts
