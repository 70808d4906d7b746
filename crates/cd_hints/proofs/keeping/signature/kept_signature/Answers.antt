use Rattle.std.proofs.Common.{rules, ap}
use Rattle.cd_block.specs.declared.block.BlockSig.{BlockSig}
use Rattle.cd_hints.proofs.SignatureFields.{signature_by_fields}
use Rattle.cd_hints.proofs.keeping.signature.kept_signature.Goals as goal

pub returns : goal.returns
returns c =
    let bare = c.bare_signature-bare.ensures in
    signature_by_fields _ _ (search rules) (ap (λ (s : BlockSig). s.server_port) bare) (ap (λ (s : BlockSig). s.transport_flags) bare)
    (ap (λ (s : BlockSig). s.sig_flags) bare) (ap (λ (s : BlockSig). s.opcode) bare) (ap (λ (s : BlockSig). s.dns_flags) bare)
    (ap (λ (s : BlockSig). s.query_rcode) bare) (rw c.requires.lead at c.kept_classtype.ensures) (ap (λ (s : BlockSig). s.qd) bare)
    (ap (λ (s : BlockSig). s.an) bare) (ap (λ (s : BlockSig). s.ns) bare) (ap (λ (s : BlockSig). s.ar) bare)
    (ap (λ (s : BlockSig). s.edns_version) bare) (ap (λ (s : BlockSig). s.udp_size) bare) (search rules) (ap (λ (s : BlockSig). s.response_rcode) bare)
