use Rattle.cd_message.proofs.Within.{messages_lie_within}
use Rattle.cd_message.proofs.laws.messages_lie_within.Goals as goal

pub returns : goal.returns
returns c = messages_lie_within
