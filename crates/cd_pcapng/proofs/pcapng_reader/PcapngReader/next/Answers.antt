use Rattle.std.proofs.Common.{◌≡◌, ◌∙◌, [], ◌∷◌, ◌++◌, List, drop, map, ap, sym, arith}
use Rattle.cd_packet.specs.declared.packet.Packet.{Packet}
use Rattle.cd_pcapng.specs.Fronts.{packet_in}
use Rattle.cd_pcapng.specs.declared.packet_place.PacketPlace.{PacketPlace}
use Rattle.cd_pcapng.proofs.Passing.{others_placed}
use Rattle.cd_pcapng.proofs.Places.{packets_in_order}
use Rattle.cd_pcapng.proofs.Standing.{all_given, one_given, packets_known}
use Rattle.cd_pcapng.proofs.pcapng_reader.PcapngReader.next.Goals as goal

pub returns-in-None-clause-history : goal.returns-in-None-clause-history
returns-in-None-clause-history c =
    let none : map (packet_in c.self.inside.base c.self.inside.bytes.items) c.self.inside.found.ready ≡ [] =
    ap (λ ps. map (packet_in c.self.inside.base c.self.inside.bytes.items) ps) c.in-None.ensures in
    rw (← c.self.view_is) (λ fed given h. (h, all_given _ fed given none h))

pub packet_in-requires-clause-to : goal.packet_in-requires-clause-to
packet_in-requires-clause-to c =
    let k = others_placed _ _ c.in-Some.place _ _ c.in-Some.ensures c.self.invariant.placed in
    rw c.deref.ensures.value (omega (arith, k.0, c.self.invariant.within))

pub invariant_of-self : goal.invariant_of-self
invariant_of-self c =
    let k = others_placed _ _ c.in-Some.place _ _ c.in-Some.ensures c.self.invariant.placed in
    rw c.give.ensures
    (record {
      within = c.self.invariant.within;
      counted = c.self.invariant.counted;
      few = c.self.invariant.few;
      placed = k.1;
      first = c.self.invariant.first;
    })

pub returns-clause-history : goal.returns-clause-history
returns-clause-history c =
    let seen : PacketPlace → Packet = packet_in c.self.inside.base c.self.inside.bytes.items in
    let others : List Packet = map seen (drop 1 c.self.inside.found.ready) in
    let is = rw c.deref.ensures.value at c.in_ok-packet.ensures in
    let first : map seen c.self.inside.found.ready ≡ c.in_ok-packet.packet ∷ others =
    ap (λ ps. map seen ps) c.in-Some.ensures ∙ ap (λ p. p ∷ others) (sym is) in
    rw (c.give.ensures, ← c.self.view_is)
    (λ fed given h. (
      one_given _ c.in_ok-packet.packet others fed given first h,
      packets_in_order fed given others c.in_ok-packet.packet (packets_known _ fed given h ∙ ap (λ ps. given ++ ps) first),
    ))
