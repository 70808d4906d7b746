use Rattle.std.proofs.Common.{◌<◌, arith}
use Rattle.std.proofs.lemmas.List.Elements.{All-from_get_or}
use Rattle.cd_cbor.proofs.KnownLaws.{read_is_spelled}
use Rattle.cd_cbor.proofs.item_reading.decode_one.Goals as goal

pub returns-clause-spelled : goal.returns-clause-spelled
returns-clause-spelled c =
    read_is_spelled c.args.bytes.now c.in_ok-decoded.decoded.0 c.in_ok-decoded.decoded.1
    (All-from_get_or (λ byte. byte < 256) c.args.bytes.now 0 (λ i within. omega (arith, c.type_inv.bytes i))) c.in_ok-decoded.ensures.read
