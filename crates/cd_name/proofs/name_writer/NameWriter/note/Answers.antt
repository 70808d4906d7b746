use Rattle.std.proofs.Common.{ap, ◌∙◌, arith}
use Rattle.cd_name.specs.WrittenNames.{least_offset}
use Rattle.cd_name.proofs.Offsets.{still_near, view_with_entry}
use Rattle.cd_name.proofs.name_writer.NameWriter.note.Goals as goal
use Rattle.cd_name.proofs.name_writer.NameWriter.note.Goals.{in-Ok, in-Err}

pub invariant_of-self : goal.invariant_of-self
invariant_of-self c =
    let none = ap (λ s. least_offset s c.args.suffix) c.self.view_is ∙ c.requires in (
      still_near c.insert.result c.self.inside.offsets.entries c.insert.new.self.entries c.args.suffix c.args.offset c.self.invariant.1 none
          c.insert.ensures.entries c.insert.ensures.err c.self.invariant.0 (omega (arith, c.if-offset-ge-FIRST_BEYOND.false)),
      c.insert.ensures.unique,
    )

pub returns-clause-ok : goal.returns-clause-ok
returns-clause-ok c =
    elim c.match-insert.branch [
      | in-Ok w ↦
          rw w.result-is
          (view_with_entry c.args.self.now c.self.inside.offsets.entries c.insert.new.self.entries c.args.suffix c.args.offset c.self.view_is c.self.invariant.1
          c.requires (omega (arith, c.if-offset-ge-FIRST_BEYOND.false)) w.in-Ok.ensures.entries)
      | in-Err w ↦ rw w.result-is tt
    ]
