-- the key that is found has the same bytes
use Rattle.std.proofs.Common.{sym}
use Rattle.cd_window.proofs.KeyCalls.{found_same}
use Rattle.cd_window.proofs.lists.place_of.Goals as goal

pub returns-in-Some-clause-entry : goal.returns-in-Some-clause-entry
returns-in-Some-clause-entry c = record {
  stored = c.in-Some._stored.now;
  same = found_same c.args.key.now c.in-Some._stored.now c.args.numbers.now.entries (sym c.in-Some.ensures.key);
  there = c.in-Some.ensures.entry;
}
