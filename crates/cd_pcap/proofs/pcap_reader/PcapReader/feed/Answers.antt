use Rattle.std.proofs.Common.{◌≡◌, ◌∙◌, [], ◌++◌, None, ap, sym}
use Rattle.cd_pcap.specs.Reading.{Kept, HasRead, StandsFor}
use Rattle.cd_pcap.proofs.Standing.{chunk_held, refusal_known, refused_more}
use Rattle.cd_pcap.proofs.Inside.{sound_inside}
use Rattle.cd_pcap.proofs.pcap_reader.PcapReader.feed.Goals as goal
use Rattle.cd_pcap.proofs.pcap_reader.PcapReader.feed.Goals.{in-None, in-Some-refused}

pub returns-in-Some-clause-history : goal.returns-in-Some-clause-history
returns-in-Some-clause-history c =
    let sound = sound_inside c.self.inside c.self.invariant in
    rw (← c.self.view_is)
    (λ fed given h.
    let stands = refused_more _ c.in-Some.bad c.args.chunk.now fed given c.in-Some.is h in (
      stands,
      refusal_known _ (fed ++ c.args.chunk.now) given
          (record { within = sound.within; marked = sound.marked }) stands ∙ c.in-Some.is,
    ))

pub returns-clause-history : goal.returns-clause-history
returns-clause-history c = λ fed given h.
    let none : c.args.self.now.refused ≡ None = sym (ap (λ (r : Kept). r.refused) c.self.view_is) ∙ c.in_default.is in
    let held : HasRead c.hold.new.self (fed ++ c.args.chunk.now) [] given =
    rw c.in-Ok.ensures.ok (chunk_held _ c.args.chunk.now fed given none h) in
    let stands : StandsFor c.move_mark.new.self (fed ++ c.args.chunk.now) given =
    c.move_mark.ensures.history _ given held in
    let known = refusal_known _ (fed ++ c.args.chunk.now) given
    (sound_inside c.self-2.inside c.self-2.invariant) (rw c.self-2.view_is stands) in
    elim c.match-self-2.branch [
      | in-None w ↦ rw w.result-is (stands, known ∙ w.in-None.is)
      | in-Some-refused w ↦ rw w.result-is (stands, known ∙ w.in-Some-refused.is)
    ]

pub returns-in-Some-clause-again : goal.returns-in-Some-clause-again
returns-in-Some-clause-again c = λ fed given bad h e.
    let refused = refusal_known _ fed given (sound_inside c.self.inside c.self.invariant) (rw c.self.view_is h) in
    cc (refused, c.in-Some.is, e)

pub returns-in-Err-clause-again : goal.returns-in-Err-clause-again
returns-in-Err-clause-again c = λ fed given bad h e.
    let refused = refusal_known _ fed given (sound_inside c.self.inside c.self.invariant) (rw c.self.view_is h) in
    cc (refused, c.in_default.is, e)

pub returns-clause-again : goal.returns-clause-again
returns-clause-again c = λ fed given bad h e.
    let refused = refusal_known _ fed given (sound_inside c.self.inside c.self.invariant) (rw c.self.view_is h) in
    cc (refused, c.in_default.is, e)
