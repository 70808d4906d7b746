-- each part is what is kept
use Rattle.std.proofs.Common.{ap, ◌∙◌}
use Rattle.cd_hints.specs.Items.{kept_signature}
use Rattle.cd_hints.specs.Records.{record_parts}
use Rattle.cd_filling.proofs.SignaturePut.{signature_put}
use Rattle.cd_filling.proofs.items.put_signature.Goals as goal

pub returns-clause-tables : goal.returns-clause-tables
returns-clause-tables c =
    let put = signature_put (kept_signature c.args.params.now (record_parts c.args.rec.now)) _ _ _ _ _ _ _ _ _ _ _
    c.kept_server_address.ensures (rw c.lead_question-lead.ensures at c.kept_classtype.ensures) c.kept_options.ensures
    c.in_ok-server_address.ensures.tables c.in_ok-server_address.ensures.index c.in_ok-classtype.ensures.tables c.in_ok-classtype.ensures.index
    c.in_ok-opt_rdata.ensures.tables c.in_ok-opt_rdata.ensures.index c.signature_at-signature.ensures in
    c.in_ok-index.ensures.tables ∙ ap (λ a. a.tables) put

pub returns-clause-index : goal.returns-clause-index
returns-clause-index c =
    let put = signature_put (kept_signature c.args.params.now (record_parts c.args.rec.now)) _ _ _ _ _ _ _ _ _ _ _
    c.kept_server_address.ensures (rw c.lead_question-lead.ensures at c.kept_classtype.ensures) c.kept_options.ensures
    c.in_ok-server_address.ensures.tables c.in_ok-server_address.ensures.index c.in_ok-classtype.ensures.tables c.in_ok-classtype.ensures.index
    c.in_ok-opt_rdata.ensures.tables c.in_ok-opt_rdata.ensures.index c.signature_at-signature.ensures in
    c.in_ok-index.ensures.index ∙ ap (λ a. a.value) put
