use Rattle.std.proofs.Common.{refl, arith, take, length-take}
use Rattle.cd_calls.specs.contracts.pairing.SampleKeyed as sample
use Rattle.cd_pairing.proofs.AlikeWeights.{sum_by-alike}
use Rattle.cd_calls.proofs.pairing.pair_samples.Goals as goal

pub pair_all-requires : goal.pair_all-requires
pair_all-requires c =
    omega (arith, sum_by-alike sample.TheImpl.view-value.it (take c.min.result c.args.events.now) (λ x. refl), length-take c.min.result c.args.events.now)
