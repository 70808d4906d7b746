use Rattle.std.proofs.Common.{◌≡◌, ℕ, ◌+◌, ◌≤◌, None, Option, IsSome, length, drop, arith}
use Rattle.std.proofs.lemmas.List.{length-drop, drop-drop, take_rest}
use Rattle.cd_pcap.specs.Reading.{AreOpen, AreRefused}
use Rattle.cd_pcap.proofs.Inside.{held_in, marked_inside, sound_inside}
use Rattle.cd_pcap.proofs.Marks.{after_header}
use Rattle.cd_pcap.proofs.Standing.{marked_open, marked_refused}
use Rattle.cd_pcap.proofs.pcap_reader.PcapReader.mark_records.Goals as goal

pub invariant_of-self : goal.invariant_of-self
invariant_of-self c =
    let k =
    rw (c.deref.ensures.value, take_rest, ← drop-drop c.self.inside.whole c.self.inside.start c.self.inside.bytes.items) at c.whole_records-records.ensures in
    let header : IsSome c.self.inside.link = rw (← c.self.view_is) at c.requires.header in
    marked_inside c.self.inside c.whole_records-records.result c.self.invariant header k

pub invariant_of-self-in-Some : goal.invariant_of-self-in-Some
invariant_of-self-in-Some c =
    let k =
    rw (c.deref.ensures.value, take_rest, ← drop-drop c.self.inside.whole c.self.inside.start c.self.inside.bytes.items) at c.whole_records-records.ensures in
    let header : IsSome c.self.inside.link = rw (← c.self.view_is) at c.requires.header in
    marked_inside c.self.inside c.whole_records-records.result c.self.invariant header k

pub returns-in-None-clause-history : goal.returns-in-None-clause-history
returns-in-None-clause-history c =
    let whole : ℕ = c.self.inside.whole in
    let size : ℕ = c.whole_records-records.result.size in
    let k =
    rw (c.deref.ensures.value, take_rest, ← drop-drop whole c.self.inside.start c.self.inside.bytes.items) at c.whole_records-records.ensures in
    let stopped = rw c.in-None.is at k.stopped in
    let header : IsSome c.self.inside.link = rw (← c.self.view_is) at c.requires.header in
    let sound : c.self.inside.refused ≡ None = rw (← c.self.view_is) at c.requires.sound in
    let P : Option ℕ → Type 0 =
    λ l. AreOpen c.self.inside.form l (c.self.inside.at + whole + size) (drop size (drop whole (held_in c.self.inside))) in
    rw (← c.self.view_is) (λ fed given h. marked_open _ size fed given sound
    (after_header P c.self.inside.link header stopped) h)

pub returns-in-Some-clause-history : goal.returns-in-Some-clause-history
returns-in-Some-clause-history c =
    let whole : ℕ = c.self.inside.whole in
    let size : ℕ = c.whole_records-records.result.size in
    let k =
    rw (c.deref.ensures.value, take_rest, ← drop-drop whole c.self.inside.start c.self.inside.bytes.items) at c.whole_records-records.ensures in
    let stopped = rw c.in-Some.is at k.stopped in
    let header : IsSome c.self.inside.link = rw (← c.self.view_is) at c.requires.header in
    let sound = sound_inside c.self.inside c.self.invariant in
    let within : whole + size ≤ length (held_in c.self.inside) =
    omega (arith, k.within, sound.within, length-drop whole (held_in c.self.inside)) in
    let P : Option ℕ → Type 0 =
    λ l. AreRefused c.self.inside.form l (c.self.inside.at + whole + size) c.in-Some.bad
    (drop size (drop whole (held_in c.self.inside))) in
    rw (c.refuse.ensures, ← c.self.view_is) (λ fed given h. marked_refused _ size c.in-Some.bad fed given within
    (after_header P c.self.inside.link header stopped) h)
