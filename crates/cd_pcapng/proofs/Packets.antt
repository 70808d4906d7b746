-- Packets with the same fields are the same.
use Rattle.std.proofs.Common.{◌≡◌, ℕ, ◌-◌, ◌<◌, List, take, drop, ap, ◌∙◌}
use Rattle.std.proofs.Props.{props}
use mathlib.Core.HLevel.{Σ_prop_path}
use Rattle.cd_packet.specs.Time.{end_of_time}
use Rattle.cd_packet.specs.declared.packet.Packet.{Packet}
use Rattle.cd_packet.specs.declared.packet.When.{When}
use Rattle.cd_packet.specs.declared.packet.When.TheVariants.{At}
use Rattle.cd_pcapng.specs.Fronts.{packet_in}
use Rattle.cd_pcapng.specs.declared.packet_place.PacketPlace.{PacketPlace}

-- a time is below the end of all times
abbrev IsTimely : When → Type 0
IsTimely w = (n : ℕ) → w ≡ At n → n < end_of_time

-- a packet of a time that is timely
abbrev timed : ℕ → ℕ → ℕ → List ℕ → ((w : When) × IsTimely w) → Packet
timed at link original bytes x = record { at = at; when = x.0; link = link; original = original; bytes = bytes; timely = x.1 }

-- the packet at a place, field by field
pub packet_seen : (at : ℕ) (block : List ℕ) (p : PacketPlace) (q : Packet) → p.at ≡ q.at → p.when ≡ q.when → p.link ≡ q.link → p.original ≡ q.original →
    take p.captured (drop (p.captured_at - at) block) ≡ q.bytes → packet_in at block p ≡ q
packet_seen at block p q a w l o b =
    let one : (v : When) × IsTimely v = (p.when, p.timely) in
    let other : (v : When) × IsTimely v = (q.when, q.timely) in
    let time : one ≡ other = Σ_prop_path {B = IsTimely} (λ v. hlevel props) {u = one} {v = other} w in
    let bytes : List ℕ = take p.captured (drop (p.captured_at - at) block) in
    ap (λ n. timed n p.link p.original bytes one) a ∙ ap (λ n. timed q.at n p.original bytes one) l
    ∙ ap (λ n. timed q.at q.link n bytes one) o ∙ ap (λ t. timed q.at q.link q.original t one) b
    ∙ ap (λ x. timed q.at q.link q.original q.bytes x) time
