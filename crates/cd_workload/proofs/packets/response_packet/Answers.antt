use Rattle.std.proofs.Common.{◌≡◌, List, ℕ, Some, IfOk, ap, sym, ◌∙◌, subst}
use Rattle.cd_message.specs.Written.{written_message}
use Rattle.cd_packet.specs.Building.{built, spelled}
use Rattle.cd_packet.specs.Layers.{Datagram}
use Rattle.cd_workload.proofs.Sent.{response_fits, response_built}
use Rattle.cd_workload.proofs.Datagrams.{response_datagram-is, response_packet-is}
use Rattle.cd_workload.proofs.packets.response_packet.Goals as goal

pub payload_of-requires : goal.payload_of-requires
payload_of-requires c = rw c.in_ok-response.ensures (response_fits c.args.lookup)

pub packet_of-requires-clause-fits : goal.packet_of-requires-clause-fits
packet_of-requires-clause-fits c =
    let payload = c.as_slice.ensures ∙ c.in_ok-payload.ensures ∙ ap written_message c.in_ok-response.ensures in
    let is = response_datagram-is c.args.lookup _ _ _ _ _ c.response_time.ensures c.server.ensures c.client.ensures c.client_port.ensures payload in
    subst (λ (d : Datagram). built d ≡ Some (spelled d)) (sym is) (response_built c.args.lookup)

pub returns : goal.returns
returns c =
    let payload = c.as_slice.ensures ∙ c.in_ok-payload.ensures ∙ ap written_message c.in_ok-response.ensures in
    let is = response_datagram-is c.args.lookup _ _ _ _ _ c.response_time.ensures c.server.ensures c.client.ensures c.client_port.ensures payload in
    subst (λ (t : List ℕ). IfOk c.packet_of.result (λ packet. packet ≡ t)) (ap spelled is ∙ response_packet-is c.args.lookup) c.packet_of.ensures
