-- What is kept of a record without what stands in the tables of its block (RFC 8618 7.3.2.4, 7.3.2.3.2).
use Rattle.std.specs.Prelude.{None}
use Rattle.cd_block.specs.declared.block.BlockItem.{BlockItem}
use Rattle.cd_block.specs.declared.block.BlockLists.{BlockLists}
use Rattle.cd_block.specs.declared.block.BlockSig.{BlockSig}
use Rattle.cd_block.specs.declared.kept.KeptItem.{KeptItem}
use Rattle.cd_block.specs.declared.kept.KeptSig.{KeptSig}

-- a signature without its parts that stand in tables
abbrev pub bare_signature : KeptSig → BlockSig
bare_signature s = record {
  server_address = None;
  server_port = s.server_port;
  transport_flags = s.transport_flags;
  sig_flags = s.sig_flags;
  opcode = s.opcode;
  dns_flags = s.dns_flags;
  query_rcode = s.query_rcode;
  classtype = None;
  qd = s.qd;
  an = s.an;
  ns = s.ns;
  ar = s.ar;
  edns_version = s.edns_version;
  udp_size = s.udp_size;
  opt_rdata = None;
  response_rcode = s.response_rcode;
}

-- no list of a block
abbrev pub bare_lists : BlockLists
bare_lists = record { question = None; answer = None; authority = None; additional = None }

-- an item without its parts that stand in tables
abbrev pub bare_item : KeptItem → BlockItem
bare_item i = record {
  time_offset = i.time_offset;
  client_address = None;
  client_port = i.client_port;
  transaction_id = i.transaction_id;
  signature = None;
  client_hoplimit = i.client_hoplimit;
  response_delay = i.response_delay;
  query_name = None;
  query_size = i.query_size;
  response_size = i.response_size;
  query_extended = bare_lists;
  response_extended = bare_lists;
}
