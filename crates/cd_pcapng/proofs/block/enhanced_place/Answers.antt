use Rattle.std.proofs.Common.{◌≡◌, ◌+◌, ◌-◌, ◌∙◌, take, drop, refl, ap, arith}
use Rattle.cd_pcapng.specs.Sections.{time_on, captured_in, enhanced_packet}
use Rattle.cd_pcapng.proofs.Packets.{packet_seen}
use Rattle.cd_pcapng.proofs.block.enhanced_place.Goals as goal

pub returns-clause-packet : goal.returns-clause-packet
returns-clause-packet c =
    let start : c.args.at + 28 - c.args.at ≡ 28 = omega arith in
    let bytes : take c.captured_in.result (drop (c.args.at + 28 - c.args.at) c.args.block.now) ≡ take (captured_in c.args.order c.args.block.now) (drop 28 c.args.block.now) =
    ap (λ n. take n (drop (c.args.at + 28 - c.args.at) c.args.block.now)) c.captured_in.ensures
    ∙ ap (λ n. take (captured_in c.args.order c.args.block.now) (drop n c.args.block.now)) start in
    packet_seen c.args.at c.args.block.now _ (enhanced_packet c.args.order c.args.interface.now c.args.at c.args.block.now) refl
    (c.time_on.ensures ∙ ap (λ t. time_on c.args.interface.now t) c.ticks_in.ensures) refl c.number32_at.ensures bytes
