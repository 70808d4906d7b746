-- What is passed at the front of the bytes held is a step.
use Rattle.std.proofs.Common.{◌+◌, sym, arith}
use Rattle.cd_file.specs.declared.progress.Found.TheVariants as found
use Rattle.cd_file.proofs.StepsTaken.{taken_found}
use Rattle.cd_file.proofs.file_reader.FileReader.step.Goals as goal

pub returns-in-Nothing : goal.returns-in-Nothing
returns-in-Nothing c =
    let passes = c.in-Ok.ensures c.self.inside.entries (sym c.len-count.ensures) in
    rw (← c.self.view_is) (taken_found c.self.inside.fed_count c.self.inside.start c.self.inside.at c.self.inside.given_count c.self.inside.bytes.items c.self.inside.progress c.self.inside.entries c.self.inside.refused c.self.inside.ended c.self.inside.is_spent c.in-Ok.passed found.Nothing c.self.inside.given_count c.pass.new.self c.rest-held.result.now c.in-Nothing.is c.rest-held.ensures c.self.invariant.within (omega arith) passes)

pub returns-in-Entries : goal.returns-in-Entries
returns-in-Entries c =
    let passes = c.in-Ok.ensures c.self.inside.entries (sym c.len-count.ensures) in
    rw (← c.self.view_is) (taken_found c.self.inside.fed_count c.self.inside.start c.self.inside.at c.self.inside.given_count c.self.inside.bytes.items c.self.inside.progress c.self.inside.entries c.self.inside.refused c.self.inside.ended c.self.inside.is_spent c.in-Ok.passed (found.Entries c.in-Entries.entries) c.self.inside.given_count c.pass.new.self c.rest-held.result.now c.in-Entries.is c.rest-held.ensures c.self.invariant.within (omega arith) passes)

pub returns-in-Block : goal.returns-in-Block
returns-in-Block c =
    let passes = c.in-Ok.ensures c.self.inside.entries (sym c.len-count.ensures) in
    rw (← c.self.view_is) (taken_found c.self.inside.fed_count c.self.inside.start c.self.inside.at c.self.inside.given_count c.self.inside.bytes.items c.self.inside.progress c.self.inside.entries c.self.inside.refused c.self.inside.ended c.self.inside.is_spent c.in-Ok.passed (found.Block c.in-Block.block) (c.self.inside.given_count + 1) c.pass.new.self c.rest-held.result.now c.in-Block.is c.rest-held.ensures c.self.invariant.within (omega arith) passes)
