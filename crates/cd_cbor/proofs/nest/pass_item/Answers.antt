-- What is taken from the end is the innermost.
use Rattle.std.proofs.Common.{◌<◌, ◌∙◌, length, reverse, ap, sym, arith}
use Rattle.cd_cbor.proofs.Nests.{passed_none, passed_whole, passed_still}
use Rattle.cd_cbor.proofs.nest.pass_item.Goals as goal

pub returns-in-None-clause-passed : goal.returns-in-None-clause-passed
returns-in-None-clause-passed c =
    ap (λ v. reverse v.items) c.in-None.ensures.empty ∙ passed_none c.around.wants.items (λ some. let found = c.in-None.ensures.variant.1 some in absurd cc) ∙ c.around.invariant.passed_on

pub around-preserved : goal.around-preserved
around-preserved c = record {
  passed_on = passed_whole c.around.wants.items c.pop.new.self.items c.in-Some.top c.in-Some.ensures.items (sym c.in-None-after_one.ensures) ∙ c.around.invariant.passed_on;
  fewer = omega (arith, c.in-Some.ensures.len, c.around.invariant.fewer);
}

pub push-requires : goal.push-requires
push-requires c =
    let small : length c.pop.new.self.items < 16 = omega (arith, c.in-Some.ensures.len, c.around.invariant.fewer, c.requires) in (omega arith, small)

pub returns-in-Some-after_one-clause-passed : goal.returns-in-Some-after_one-clause-passed
returns-in-Some-after_one-clause-passed c =
    passed_still c.around.wants.items c.pop.new.self.items c.in-Some.top c.in-Some-after_one.inner c.push.new.self.items c.in-Some.ensures.items (sym c.in-Some-after_one.ensures) c.push.ensures.items
    ∙ c.around.invariant.passed_on
