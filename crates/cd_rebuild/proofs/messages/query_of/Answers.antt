use Rattle.std.proofs.Common.{◌≡◌, true, rules, ap}
use Rattle.cd_message.specs.declared.message.Message.{Message}
use Rattle.cd_rebuild.specs.Messages.{has_opt}
use Rattle.cd_rebuild.proofs.NoOpt.{has_none}
use Rattle.cd_rebuild.proofs.messages.query_of.Goals as goal

-- the other OPT records were taken out
pub put_opt-requires : goal.put_opt-requires
put_opt-requires c =
    let apart : has_opt c.args.signature.now ≡ true = search rules in
    has_none c.in_ok-message.message c.args.item.now.query_extended.additional (has_opt c.args.signature.now) apart
    (ap (λ (m : Message). m.additional) c.in_ok-message.ensures)
