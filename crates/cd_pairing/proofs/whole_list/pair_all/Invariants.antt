use Rattle.std.proofs.Common.{◌≡◌, length, map}
use Rattle.cd_pairing.specs.Waiting.{HasPaired}
use Rattle.cd_pairing.proofs.whole_list.pair_all.Given as goal

abbrev pub invariant-events : goal.invariant-events
invariant-events g l = record {
  count : length l.matcher.partners.items ≡ l.index;
  paired : HasPaired l.windows (map g.E.Keyed.view l.events) l.matcher;
}
