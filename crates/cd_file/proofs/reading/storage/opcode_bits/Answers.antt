-- Each opcode gives its bit.
use Rattle.std.proofs.Common.{◌+◌, ◌<◌, ◌≤◌, length, drop, ap, sym, ◌∙◌, arith}
use Rattle.std.proofs.lemmas.List.Elements.{All-get_or}
use Rattle.cd_file.specs.ReadHead as head
use Rattle.cd_file.proofs.OpcodeBits.{bits_more, bits_end}
use Rattle.cd_file.proofs.reading.storage.opcode_bits.Goals as goal

pub listed-preserved : goal.listed-preserved
listed-preserved c = λ all.
    let within : c.listed.opcode-index < length c.args.listed.now = omega arith in
    let low = All-get_or (λ n. n < 16) c.args.listed.now c.listed.opcode-index 0 within all in
    c.listed.invariant all ∙ bits_more c.listed.opcodes c.args.listed.now c.listed.opcode-index within
    ∙ ap (λ bits. head.opcode_bits bits (drop (c.listed.opcode-index + 1) c.args.listed.now)) (sym (c.with_opcode-opcodes.ensures low))

pub returns : goal.returns
returns c = λ all.
    let past : length c.args.listed.now ≤ c.listed.opcode-index = omega arith in
    sym (c.listed.invariant all ∙ bits_end c.listed.opcodes c.args.listed.now c.listed.opcode-index past)
