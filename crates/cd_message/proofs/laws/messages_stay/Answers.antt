use Rattle.cd_message.proofs.Longer.{messages_stay}
use Rattle.cd_message.proofs.laws.messages_stay.Goals as goal

pub returns : goal.returns
returns c = messages_stay
