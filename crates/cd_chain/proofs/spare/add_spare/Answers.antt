use Rattle.std.proofs.Common.{◌+◌, ◌∙◌, ap, ℕ, arith}
use Rattle.cd_chain.proofs.Making.{makes_none, makes_more}
use Rattle.cd_chain.proofs.spare.add_spare.Goals as goal

pub making-init : goal.making-init
making-init g c = record { made = makes_none c.args.slots.now.items c.args.free c.requires.frees; len = omega arith; room = omega arith }

pub push_spare-requires-clause-frees : goal.push_spare-requires-clause-frees
push_spare-requires-clause-frees g c = c.making.invariant.made.frees

pub making-preserved : goal.making-preserved
making-preserved g c = record {
  made = makes_more _ _ _ _ _ _ _ c.making.invariant.made c.push_spare.ensures.made;
  len = c.push_spare.ensures.len ∙ ap (λ (n : ℕ). n + 1) c.making.invariant.len ∙ omega arith;
  room = omega arith;
}
