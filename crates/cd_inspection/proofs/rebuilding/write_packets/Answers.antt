use Rattle.cd_inspection.specs.Rebuilding.{packet_record}
use Rattle.cd_inspection.proofs.CapturesRebuilt.{one_behind}
use Rattle.cd_inspection.proofs.rebuilding.write_packets.Goals as goal

pub packets-preserved : goal.packets-preserved
packets-preserved c =
    let now = rw c.as_slice.ensures at c.in_ok-write_packet.ensures.ok in
    one_behind packet_record c.args.out.now c.packets.out c.write_packet.new.out c.args.packets.now c.packets.packet-index c.packet-item.result
    c.packets-test.true c.packet-item.is c.packets.invariant now
