use Rattle.std.proofs.Common.{ℕ, drop, ap, ◌∙◌}
use Rattle.cd_ring.proofs.Moves.{good}
use Rattle.cd_ring.proofs.Telling.{tells_all}
use Rattle.cd_ring.proofs.laws.ring_shows_an_ordered_core.Goals as goal

pub returns : goal.returns
returns g c = λ slots words homes all r. record {
  core = r.core;
  lead = r.lead;
  coordinator = r.coordinator;
  ordered = good (g.T.Task.meets c.args._task.now) c.args._task.now slots words homes all r;
  seated = r.leads;
  out = r.out_is ∙ ap (λ (n : ℕ). drop n r.core.posted) r.taken_is;
  shown = r.shows;
  tells = tells_all (g.T.Task.meets c.args._task.now) c.args._task.now slots words homes all r;
  stop = r.stop;
}
