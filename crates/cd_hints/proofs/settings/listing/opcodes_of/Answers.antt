use Rattle.std.proofs.Common.{◌≡◌, ◌∙◌, sym, ap, true, false, Bool, arith}
use Rattle.cd_hints.specs.Listing.{is_listed}
use Rattle.cd_hints.proofs.Listed.{bits_hold, bits_skip}
use Rattle.cd_hints.proofs.settings.listing.opcodes_of.Goals as goal
use Rattle.cd_hints.proofs.settings.listing.opcodes_of.Goals.{then-is_listed, else-is_listed}

pub loop-opcode-preserved : goal.loop-opcode-preserved
loop-opcode-preserved c =
    let is_one : (answer : Bool) → c.is_listed.result ≡ answer → is_listed c.args.parts.now c.loop-opcode.opcode ≡ answer =
    λ answer e. ap (is_listed c.args.parts.now) (sym c.from.ensures) ∙ sym c.is_listed.ensures ∙ e in
    elim c.if-is_listed.branch [
      | then-is_listed w ↦
          rw w.bits-is (bits_hold c.loop-opcode.bits c.loop-opcode.opcode c.args.parts.now (omega arith) (is_one true w.if-is_listed.true) c.loop-opcode.invariant.0 c.loop-opcode.invariant.1)
      | else-is_listed w ↦
          rw w.bits-is (bits_skip c.loop-opcode.bits c.loop-opcode.opcode c.args.parts.now (is_one false w.if-is_listed.false) c.loop-opcode.invariant.0 c.loop-opcode.invariant.1)
    ]
