use Rattle.std.proofs.Common.{map}
use Rattle.cd_pairing.proofs.Digests.{other_digests_fail}
use Rattle.cd_pairing.proofs.queue.fits.Goals as goal

pub returns-else-then-now : goal.returns-else-then-now
returns-else-then-now g c =
    other_digests_fail c.args.windows.now (map g.E.Keyed.view c.args.events.now) c.args.then c.args.now c.requires.then_in c.requires.now_in c.if-then-now.false
