use Rattle.cd_packet.proofs.Walking.{loop_stops, loop_goes_on, loop_fragment, loop_ends}
use Rattle.cd_packet.proofs.ip_reading.after_extensions.Goals as goal
use Rattle.cd_packet.specs.declared.ip_packet.IpPacket.{IpPacket}

pub returns-in-Err-clause-exact : goal.returns-in-Err-clause-exact
returns-in-Err-clause-exact c =
    let now : IpPacket = record c.args.header { protocol = c.extensions.protocol; start = c.extensions.start } in
    loop_stops c.args.packet.now c.args.header now c.extensions.invariant.0 c.is_extension.result c.is_extension.ensures
    c.in-Err.reason c.extensions-test.true c.in-Err.ensures.exact

pub extensions-preserved : goal.extensions-preserved
extensions-preserved c =
    let now : IpPacket = record c.args.header { protocol = c.extensions.protocol; start = c.extensions.start } in (
      loop_goes_on c.args.packet.now c.args.header now c.extensions.invariant.0 c.is_extension.result c.is_extension.ensures
          c.as_slice-bytes.result.now c.in-Ok.next c.extensions-test.true c.as_slice-bytes.ensures c.in-Ok.ensures.exact,
      c.in-Ok.ensures.there,
    )

pub returns-then-protocol-eq-FRAGMENT-clause-exact : goal.returns-then-protocol-eq-FRAGMENT-clause-exact
returns-then-protocol-eq-FRAGMENT-clause-exact c =
    let now : IpPacket = record c.args.header { protocol = c.extensions.protocol; start = c.extensions.start } in
    loop_fragment c.args.packet.now c.args.header now c.extensions.invariant.0 c.is_extension.result c.is_extension.ensures
    c.extensions-test.false c.if-protocol-eq-FRAGMENT.true

pub returns-clause-exact : goal.returns-clause-exact
returns-clause-exact c =
    let now : IpPacket = record c.args.header { protocol = c.extensions.protocol; start = c.extensions.start } in
    loop_ends c.args.packet.now c.args.header now c.extensions.invariant.0 c.is_extension.result c.is_extension.ensures _
    c.extensions-test.false c.if-protocol-eq-FRAGMENT.false
