use Rattle.std.proofs.Common.{◌≡◌, ◌≤◌, None, length}
use Rattle.std.proofs.lemmas.List.{drop-drop}
use Rattle.cd_pcap.proofs.Inside.{held_in, header_inside, sound_inside}
use Rattle.cd_pcap.proofs.Standing.{header_first}
use Rattle.cd_pcap.proofs.pcap_reader.PcapReader.pass_header.Goals as goal

pub invariant_of-self : goal.invariant_of-self
invariant_of-self c =
    let none : c.self.inside.link ≡ None = rw (← c.self.view_is) at c.requires.none in
    let long : 24 ≤ length (held_in c.self.inside) = rw (← c.self.view_is) at c.requires.long in
    header_inside c.self.inside c.args.form c.args.link c.self.invariant none long

pub returns : goal.returns
returns c =
    let none : c.self.inside.link ≡ None = rw (← c.self.view_is) at c.requires.none in
    let k = header_first _ (sound_inside c.self.inside c.self.invariant) none in
    rw (← c.self.view_is, drop-drop, k.0)
