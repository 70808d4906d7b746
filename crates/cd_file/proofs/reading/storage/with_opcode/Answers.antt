-- There is room for a bit that is not set.
use Rattle.std.proofs.Common.{◌^◌, ◌<◌, sym, ◌∙◌, arith}
use Rattle.std.proofs.lemmas.Nat.{pow_below}
use Rattle.cd_file.proofs.OpcodeBits.{room_for}
use Rattle.cd_file.proofs.reading.storage.with_opcode.Goals as goal

pub overflow_add-result : goal.overflow_add-result
overflow_add-result c =
    let low : c.args.opcode < 16 = omega arith in
    let fits = room_for c.args.opcodes c.args.opcode low (omega arith) (sym c.is_listed.ensures ∙ c.if-is_listed.false) in
    let small : 2 ^ c.args.opcode < 2 ^ 16 = pow_below c.args.opcode 16 low in
    omega arith
