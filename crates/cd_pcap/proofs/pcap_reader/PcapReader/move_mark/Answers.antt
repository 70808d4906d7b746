use Rattle.std.proofs.lemmas.List.{take_rest}
use Rattle.std.proofs.Common.{◌≡◌, None}
use Rattle.cd_pcap.proofs.Standing.{header_first, header_open, header_read, header_refused}
use Rattle.cd_pcap.proofs.Inside.{sound_inside}
use Rattle.cd_pcap.proofs.pcap_reader.PcapReader.move_mark.Goals as goal

pub returns-in-Refused-clause-history : goal.returns-in-Refused-clause-history
returns-in-Refused-clause-history c =
    let sound = sound_inside c.self.inside c.self.invariant in
    let refused = rw (c.deref.ensures.value, take_rest) at c.in-Refused.ensures in
    rw (c.refuse.ensures, ← c.self.view_is)
    (λ fed given h. header_refused _ c.in-Refused.bad fed given sound c.in-None.is (refused _) h)

pub returns-in-Read-clause-history : goal.returns-in-Read-clause-history
returns-in-Read-clause-history c =
    let sound = sound_inside c.self.inside c.self.invariant in
    let header = rw (c.deref.ensures.value, take_rest) at c.in-Read.ensures in
    let passed = rw (← c.self.view_is) at c.pass_header.ensures in
    rw (← c.self.view_is)
    (λ fed given h.
    c.mark_records-in-Read.ensures.history fed given
    (rw passed (header_read _ c.in-Read.form c.in-Read.link fed given c.in-None.is (header_first _ sound c.in-None.is).0 header h)))

pub returns-in-Open-clause-history : goal.returns-in-Open-clause-history
returns-in-Open-clause-history c =
    let sound = sound_inside c.self.inside c.self.invariant in
    let unrefused : c.self.inside.refused ≡ None = rw (← c.self.view_is) at c.requires in
    let there = rw (c.deref.ensures.value, take_rest) at c.in-Open.ensures in
    rw (← c.self.view_is)
    (λ fed given h. header_open _ fed given sound c.in-None.is unrefused (there c.self.inside.form) h)
