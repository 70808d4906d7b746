use Rattle.cd_message.proofs.Valid.{parsed_is_valid}
use Rattle.cd_message.proofs.Within.{messages_lie_within}
use Rattle.cd_message.proofs.message_reading.parse.Goals as goal

pub returns-clause-valid : goal.returns-clause-valid
returns-clause-valid c = parsed_is_valid c.args.payload.now c.in_ok-parsed.parsed.message c.in_ok-parsed.parsed.used c.in_ok-parsed.ensures c.type_inv.payload

pub returns-clause-within : goal.returns-clause-within
returns-clause-within c = messages_lie_within c.args.payload.now c.in_ok-parsed.parsed.message c.in_ok-parsed.parsed.used c.in_ok-parsed.ensures
