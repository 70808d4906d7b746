-- A response has the primary of its query.
use Rattle.std.proofs.Common.{refl}
use Rattle.cd_ident.specs.IdentifierLaws.{ResponsesHaveThePrimary}

-- a response that goes back where a query came from, with its ID and opcode, has its primary
pub responses_have_the_primary : ResponsesHaveThePrimary
responses_have_the_primary sent back query response goes asks answers id opcode =
    rw (asks, answers, goes.src, goes.dst, goes.sport, goes.dport, id, opcode) refl
