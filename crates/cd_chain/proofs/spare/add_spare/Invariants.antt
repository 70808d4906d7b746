use Rattle.std.proofs.Common.{◌≡◌, ◌≤◌, ◌+◌, vec_len, vec_capacity}
use Rattle.cd_chain.specs.Holds.{MakesSpare}
use Rattle.cd_chain.proofs.spare.add_spare.Given as goal

abbrev pub invariant-making : goal.invariant-making
invariant-making g l = record {
  made : MakesSpare l.initial.slots.items l.slots.items l.fn.free l.first l.counter;
  len : vec_len l.slots ≡ vec_len l.initial.slots + l.counter;
  room : vec_capacity l.initial.slots ≤ vec_capacity l.slots;
}
