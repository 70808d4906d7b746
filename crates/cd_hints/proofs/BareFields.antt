-- An item and a signature of a block, field by field.
use Rattle.std.proofs.Common.{◌≡◌}
use Rattle.cd_block.specs.declared.block.BlockItem.{BlockItem}
use Rattle.cd_block.specs.declared.block.BlockSig.{BlockSig}

-- items with equal fields are equal
pub item_by_fields : (a b : BlockItem) →
    a.time_offset ≡ b.time_offset → a.client_address ≡ b.client_address → a.client_port ≡ b.client_port → a.transaction_id ≡ b.transaction_id →
    a.signature ≡ b.signature → a.client_hoplimit ≡ b.client_hoplimit → a.response_delay ≡ b.response_delay → a.query_name ≡ b.query_name →
    a.query_size ≡ b.query_size → a.response_size ≡ b.response_size → a.query_extended ≡ b.query_extended → a.response_extended ≡ b.response_extended → a ≡ b
item_by_fields a b time_offset client_address client_port transaction_id signature client_hoplimit response_delay query_name query_size response_size query_extended response_extended = λ i. record {
  time_offset = time_offset i;
  client_address = client_address i;
  client_port = client_port i;
  transaction_id = transaction_id i;
  signature = signature i;
  client_hoplimit = client_hoplimit i;
  response_delay = response_delay i;
  query_name = query_name i;
  query_size = query_size i;
  response_size = response_size i;
  query_extended = query_extended i;
  response_extended = response_extended i;
}

-- signatures with equal fields are equal
pub signature_by_fields : (a b : BlockSig) →
    a.server_address ≡ b.server_address → a.server_port ≡ b.server_port → a.transport_flags ≡ b.transport_flags → a.sig_flags ≡ b.sig_flags →
    a.opcode ≡ b.opcode → a.dns_flags ≡ b.dns_flags → a.query_rcode ≡ b.query_rcode → a.classtype ≡ b.classtype →
    a.qd ≡ b.qd → a.an ≡ b.an → a.ns ≡ b.ns → a.ar ≡ b.ar →
    a.edns_version ≡ b.edns_version → a.udp_size ≡ b.udp_size → a.opt_rdata ≡ b.opt_rdata → a.response_rcode ≡ b.response_rcode → a ≡ b
signature_by_fields a b server_address server_port transport_flags sig_flags opcode dns_flags query_rcode classtype qd an ns ar edns_version udp_size opt_rdata response_rcode = λ i. record {
  server_address = server_address i;
  server_port = server_port i;
  transport_flags = transport_flags i;
  sig_flags = sig_flags i;
  opcode = opcode i;
  dns_flags = dns_flags i;
  query_rcode = query_rcode i;
  classtype = classtype i;
  qd = qd i;
  an = an i;
  ns = ns i;
  ar = ar i;
  edns_version = edns_version i;
  udp_size = udp_size i;
  opt_rdata = opt_rdata i;
  response_rcode = response_rcode i;
}
