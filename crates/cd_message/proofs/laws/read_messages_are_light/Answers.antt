use Rattle.cd_message.proofs.Weights.{read_messages_are_light}
use Rattle.cd_message.proofs.laws.read_messages_are_light.Goals as goal

pub returns : goal.returns
returns c = read_messages_are_light
