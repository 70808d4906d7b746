-- Each part that is passed leaves what is left.
use Rattle.std.proofs.Common.{◌+◌, sym, arith}
use Rattle.cd_file.specs.declared.progress.Found.TheVariants as found
use Rattle.cd_file.proofs.StepsTaken.{left_over}
use Rattle.cd_file.proofs.FileEnds.{ahead_found}
use Rattle.cd_file.proofs.file_reader.FileReader.look_ahead.Goals as goal

pub parts-preserved-in-Nothing : goal.parts-preserved-in-Nothing
parts-preserved-in-Nothing c =
    let inv = c.parts.invariant in
    let passes = c.in-Ok.ensures inv.ahead.entries inv.ahead.few in
    let left = left_over c.parts.start c.parts.at c.self.inside.bytes.items c.parts.progress c.pass.new.self inv.ahead.entries c.in-Ok.passed c.rest-held.result.now c.rest-held.ensures inv.within passes in
    record {
      within = left.within;
      place = omega (arith, inv.place, left.within);
      given = omega (arith, inv.given, left.some);
      placed = left.placed;
      scanned = left.scanned;
      ahead =
          ahead_found _ _ c.parts.progress c.parts.known c.parts.at c.parts.count c.parts.start c.self.inside.bytes.items inv.ahead c.pass.new.self c.in-Ok.passed found.Nothing c.rest-held.result.now c.parts.known c.parts.count
          c.in-Nothing.is c.rest-held.ensures inv.ahead.few (omega arith) passes;
    }

pub parts-preserved-in-Entries : goal.parts-preserved-in-Entries
parts-preserved-in-Entries c =
    let inv = c.parts.invariant in
    let passes = c.in-Ok.ensures inv.ahead.entries inv.ahead.few in
    let left = left_over c.parts.start c.parts.at c.self.inside.bytes.items c.parts.progress c.pass.new.self inv.ahead.entries c.in-Ok.passed c.rest-held.result.now c.rest-held.ensures inv.within passes in
    record {
      within = left.within;
      place = omega (arith, inv.place, left.within);
      given = omega (arith, inv.given, left.some);
      placed = left.placed;
      scanned = left.scanned;
      ahead =
          ahead_found _ _ c.parts.progress c.parts.known c.parts.at c.parts.count c.parts.start c.self.inside.bytes.items inv.ahead c.pass.new.self c.in-Ok.passed (found.Entries c.in-Entries.entries) c.rest-held.result.now c.len-known-in-Entries.result c.parts.count
          c.in-Entries.is c.rest-held.ensures (sym c.len-known-in-Entries.ensures) (omega arith) passes;
    }

pub parts-preserved : goal.parts-preserved
parts-preserved c =
    let inv = c.parts.invariant in
    let passes = c.in-Ok.ensures inv.ahead.entries inv.ahead.few in
    let left = left_over c.parts.start c.parts.at c.self.inside.bytes.items c.parts.progress c.pass.new.self inv.ahead.entries c.in-Ok.passed c.rest-held.result.now c.rest-held.ensures inv.within passes in
    record {
      within = left.within;
      place = omega (arith, inv.place, left.within);
      given = omega (arith, inv.given, left.some);
      placed = left.placed;
      scanned = left.scanned;
      ahead =
          ahead_found _ _ c.parts.progress c.parts.known c.parts.at c.parts.count c.parts.start c.self.inside.bytes.items inv.ahead c.pass.new.self c.in-Ok.passed (found.Block c.in-Block._block) c.rest-held.result.now c.parts.known (c.parts.count + 1)
          c.in-Block.is c.rest-held.ensures inv.ahead.few (omega arith) passes;
    }
