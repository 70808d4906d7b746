use Rattle.std.proofs.Common.{◌∙◌, ap, sym}
use Rattle.cd_packet.specs.Capture.{Capture}
use Rattle.cd_capture.proofs.Telling.{capture-few, capture-other, capture-section}
use Rattle.cd_capture.proofs.stage.Stage.end.Goals as goal

pub returns-in-Undecided : goal.returns-in-Undecided
returns-in-Undecided c =
    rw c.in-Undecided.is (λ fed given h. sym (ap (λ (k : Capture). k.end) (capture-few fed h.1)))

pub returns-in-Pcap : goal.returns-in-Pcap
returns-in-Pcap c =
    rw c.in-Pcap.is
    (λ fed given h. c.end.ensures fed given h.2 ∙ sym (ap (λ (k : Capture). k.end) (capture-other fed h.1)))

pub returns-in-Pcapng : goal.returns-in-Pcapng
returns-in-Pcapng c =
    rw c.in-Pcapng.is
    (λ fed given h. c.end-in-Pcapng.ensures fed given h.2 ∙ sym (ap (λ (k : Capture). k.end) (capture-section fed h.1)))
