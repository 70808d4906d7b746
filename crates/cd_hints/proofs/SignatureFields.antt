-- A signature, field by field.
use Rattle.std.proofs.Common.{◌≡◌}
use Rattle.cd_block.specs.declared.kept.KeptSig.{KeptSig}

-- signatures with equal fields are equal
pub signature_by_fields : (a b : KeptSig) →
    a.server_address ≡ b.server_address → a.server_port ≡ b.server_port → a.transport_flags ≡ b.transport_flags → a.sig_flags ≡ b.sig_flags →
    a.opcode ≡ b.opcode → a.dns_flags ≡ b.dns_flags → a.query_rcode ≡ b.query_rcode → a.classtype ≡ b.classtype →
    a.qd ≡ b.qd → a.an ≡ b.an → a.ns ≡ b.ns → a.ar ≡ b.ar →
    a.edns_version ≡ b.edns_version → a.udp_size ≡ b.udp_size → a.opt_rdata ≡ b.opt_rdata → a.response_rcode ≡ b.response_rcode → a ≡ b
signature_by_fields a b server_address server_port transport_flags sig_flags opcode dns_flags query_rcode classtype qd an ns ar edns_version udp_size opt_rdata response_rcode = λ i. record {
  server_address = server_address i;
  server_port = server_port i;
  transport_flags = transport_flags i;
  sig_flags = sig_flags i;
  opcode = opcode i;
  dns_flags = dns_flags i;
  query_rcode = query_rcode i;
  classtype = classtype i;
  qd = qd i;
  an = an i;
  ns = ns i;
  ar = ar i;
  edns_version = edns_version i;
  udp_size = udp_size i;
  opt_rdata = opt_rdata i;
  response_rcode = response_rcode i;
}
