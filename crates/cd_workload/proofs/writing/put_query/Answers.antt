use Rattle.std.proofs.Common.{◌≡◌, length, ap, ◌∙◌, arith}
use Rattle.cd_workload.specs.Workload.{query_packet}
use Rattle.cd_workload.proofs.Sent.{query_packet-short}
use Rattle.cd_workload.proofs.writing.put_query.Goals as goal

pub write_packet-requires-clause-few : goal.write_packet-requires-clause-few
write_packet-requires-clause-few c =
    let is : c.as_slice.result.now ≡ query_packet c.args.lookup = c.as_slice.ensures ∙ c.in_ok-packet.ensures in
    omega (arith, ap length is, query_packet-short c.args.lookup)
