-- Whether two values of the tables of a block are equal, index by index.
use Rattle.std.specs.Prelude.{ℕ, Bool, ◌&&◌, nat_eq, List}
use Rattle.std.specs.Option.{option_eq}
use Rattle.std.specs.Cmp.Lexicographic.{pointwise}
use Rattle.cd_block.specs.Equality.{same_bytes}
use Rattle.cd_block.specs.declared.block.BlockQuestion.{BlockQuestion}
use Rattle.cd_block.specs.declared.block.BlockRr.{BlockRr}
use Rattle.cd_block.specs.declared.block.BlockSig.{BlockSig}
use Rattle.cd_block.specs.declared.block.BlockData.{BlockData}

-- lists of indexes
abbrev pub same_indexes : List ℕ → List ℕ → Bool
same_indexes a b = pointwise nat_eq a b

-- questions
abbrev pub same_block_question : BlockQuestion → BlockQuestion → Bool
same_block_question a b = nat_eq a.name b.name && nat_eq a.classtype b.classtype

-- resource records
abbrev pub same_block_record : BlockRr → BlockRr → Bool
same_block_record a b =
    nat_eq a.name b.name
    && (nat_eq a.classtype b.classtype
    && (option_eq nat_eq a.ttl b.ttl
    && option_eq nat_eq a.rdata b.rdata))

-- signatures
abbrev pub same_block_signature : BlockSig → BlockSig → Bool
same_block_signature a b =
    option_eq nat_eq a.server_address b.server_address
    && (option_eq nat_eq a.server_port b.server_port
    && (option_eq nat_eq a.transport_flags b.transport_flags
    && (option_eq nat_eq a.sig_flags b.sig_flags
    && (option_eq nat_eq a.opcode b.opcode
    && (option_eq nat_eq a.dns_flags b.dns_flags
    && (option_eq nat_eq a.query_rcode b.query_rcode
    && (option_eq nat_eq a.classtype b.classtype
    && (option_eq nat_eq a.qd b.qd
    && (option_eq nat_eq a.an b.an
    && (option_eq nat_eq a.ns b.ns
    && (option_eq nat_eq a.ar b.ar
    && (option_eq nat_eq a.edns_version b.edns_version
    && (option_eq nat_eq a.udp_size b.udp_size
    && (option_eq nat_eq a.opt_rdata b.opt_rdata
    && option_eq nat_eq a.response_rcode b.response_rcode))))))))))))))

-- the data of malformed messages
abbrev pub same_block_data : BlockData → BlockData → Bool
same_block_data a b =
    option_eq nat_eq a.server_address b.server_address
    && (option_eq nat_eq a.server_port b.server_port
    && (option_eq nat_eq a.transport_flags b.transport_flags
    && option_eq same_bytes a.payload b.payload))
