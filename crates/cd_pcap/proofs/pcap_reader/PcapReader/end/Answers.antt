use Rattle.std.proofs.Common.{◌∙◌, Option, ap, sym, drop}
use Rattle.std.proofs.lemmas.List.{take_rest, drop-drop}
use Rattle.cd_packet.specs.declared.capture.BadCapture.{BadCapture}
use Rattle.cd_pcap.proofs.Standing.{end_after, end_known}
use Rattle.cd_pcap.proofs.Inside.{sound_inside}
use Rattle.cd_pcap.proofs.pcap_reader.PcapReader.end.Goals as goal

pub returns-in-Some : goal.returns-in-Some
returns-in-Some c =
    let sound = sound_inside c.self.inside c.self.invariant in
    rw (← c.self.view_is)
    (λ fed given h.
    ap (λ (o : Option BadCapture). end_after o c.self.inside.link
    (drop c.self.inside.whole (drop c.self.inside.start c.self.inside.bytes.items))) (sym c.in-Some.is)
    ∙ end_known _ fed given sound h)

pub returns-in-None : goal.returns-in-None
returns-in-None c =
    let sound = sound_inside c.self.inside c.self.invariant in
    let is =
    rw (c.deref.ensures.value, take_rest, ← drop-drop c.self.inside.whole c.self.inside.start c.self.inside.bytes.items) at c.open_end.ensures in
    rw (← c.self.view_is)
    (λ fed given h.
    is ∙ ap (λ (o : Option BadCapture). end_after o c.self.inside.link
    (drop c.self.inside.whole (drop c.self.inside.start c.self.inside.bytes.items))) (sym c.in-None.is)
    ∙ end_known _ fed given sound h)
