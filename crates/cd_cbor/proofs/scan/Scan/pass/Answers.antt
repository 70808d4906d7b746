-- What is passed is what is due at the mark.
use Rattle.std.proofs.Common.{◌≡◌, ◌≤◌, length, ap, arith}
use Rattle.cd_cbor.proofs.DuesPassed.{passes_on, passes_fault}
use Rattle.cd_cbor.proofs.scan.Scan.pass.Goals as goal

pub returns-in-Err : goal.returns-in-Err
returns-in-Err c =
    let same : c.self.inside.at ≡ c.args.self.now.at = ap (λ m. m.at) c.self.view_is in
    let within : c.self.inside.at ≤ length c.args.item.now = omega (arith, c.requires) in
    passes_fault c.args.self.now c.self.inside.depth c.self.inside.at c.self.inside.nest c.self.inside.due c.args.item.now c.rest-held.result.now c.self.view_is c.rest-held.ensures within
    c.in-Err.fault c.pass_due.new.nest c.in-Err.ensures.passed c.in-Err.ensures.fault c.in-Err.ensures.err

pub returns : goal.returns
returns c =
    let same : c.self.inside.at ≡ c.args.self.now.at = ap (λ m. m.at) c.self.view_is in
    let within : c.self.inside.at ≤ length c.args.item.now = omega (arith, c.requires) in
    passes_on c.args.self.now c.self.inside.depth c.self.inside.at c.self.inside.nest c.self.inside.due c.args.item.now c.rest-held.result.now c.self.view_is c.rest-held.ensures within
    c.pass_due.new.nest c.in-Ok.passed.0 c.in-Ok.passed.1 c.in-Ok.ensures.passed c.in-Ok.ensures.within.0 c.in-Ok.ensures.within.1
