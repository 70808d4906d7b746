use Rattle.cd_halves.proofs.Spelled.{queries_are_spelled, responses_are_spelled}
use Rattle.cd_halves.proofs.laws.plain_halves_are_spelled.Goals as goal

pub returns : goal.returns
returns c = record { queries = queries_are_spelled; responses = responses_are_spelled }
