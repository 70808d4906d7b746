use Rattle.std.proofs.Common.{◌∙◌, sym}
use Rattle.cd_capture.proofs.Standing.{pcap_gives, pcapng_gives}
use Rattle.cd_capture.proofs.Telling.{packets-few}
use Rattle.cd_capture.proofs.stage.Stage.next.Goals as goal

pub returns-in-Undecided-clause-history : goal.returns-in-Undecided-clause-history
returns-in-Undecided-clause-history c =
    rw c.in-Undecided.is (λ fed given h. (h, packets-few fed h.1 ∙ sym h.2))

pub returns-in-Pcap-clause-history : goal.returns-in-Pcap-clause-history
returns-in-Pcap-clause-history c =
    rw c.in-Pcap.is (pcap_gives c.in-Pcap.reader c.next.new.self c.next.result c.next.ensures.history)

pub returns-in-Pcapng-clause-history : goal.returns-in-Pcapng-clause-history
returns-in-Pcapng-clause-history c =
    rw c.in-Pcapng.is
    (pcapng_gives c.in-Pcapng.reader c.next-in-Pcapng.new.self c.next-in-Pcapng.result c.next-in-Pcapng.ensures.history)
