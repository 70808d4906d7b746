-- what still waits is what still waited when the loop began
use Rattle.std.proofs.Common.{◌≡◌, length, filter}
use Rattle.cd_window.specs.Waiting.{waits_still, AreRising, AllBefore}
use Rattle.cd_window.specs.Lists.{slots_in, waits_in, IsListed, HasNoEmpty}
use Rattle.cd_window.proofs.waiting.Waiting.close.Given as goal

abbrev pub invariant-closing : goal.invariant-closing
invariant-closing l = record {
  listed : IsListed l.self;
  filled : HasNoEmpty l.self;
  rising : AreRising (waits_in l.self);
  before : AllBefore l.now.index l.now.clock l.now.weight_sum (waits_in l.self);
  same : filter (waits_still l.windows l.side l.now) (waits_in l.self) ≡ filter (waits_still l.windows l.side l.now) (waits_in l.initial.self);
}

abbrev pub decreases-closing : goal.decreases-closing
decreases-closing l = length (slots_in l.self)
