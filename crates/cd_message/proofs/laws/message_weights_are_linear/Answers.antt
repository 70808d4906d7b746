use Rattle.cd_message.proofs.Weights.{message_weights_are_linear}
use Rattle.cd_message.proofs.laws.message_weights_are_linear.Goals as goal

pub returns : goal.returns
returns c = message_weights_are_linear
