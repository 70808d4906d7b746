use Rattle.std.proofs.Common.{[]}
use Rattle.cd_ring.proofs.Turns.{each_meets, others_left}
use Rattle.cd_ring.proofs.laws.results_come_in_order.Goals as goal

pub returns : goal.returns
returns g c = λ turns left l. (λ n d e. each_meets (g.T.Task.meets c.args._task.now) turns [] left l n d e, others_left (g.T.Task.meets c.args._task.now) turns [] left l)
