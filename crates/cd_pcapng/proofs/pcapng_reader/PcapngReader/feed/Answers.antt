use Rattle.std.proofs.Common.{◌∙◌, ◌++◌, arith}
use Rattle.cd_pcapng.specs.Reading.{StandsFor}
use Rattle.cd_pcapng.specs.contracts.pcapng_reader.PcapngReader.{the_view}
use Rattle.cd_pcapng.proofs.Advancing.{start_known}
use Rattle.cd_pcapng.proofs.Standing.{refusal_known, refused_more}
use Rattle.cd_pcapng.proofs.pcapng_reader.PcapngReader.feed.Goals as goal
use Rattle.cd_pcapng.proofs.pcapng_reader.PcapngReader.feed.Goals.{in-None, in-Some-refused}

pub returns-in-Some-clause-history : goal.returns-in-Some-clause-history
returns-in-Some-clause-history c =
    rw (← c.self.view_is)
    (λ fed given h.
    let stands = refused_more (the_view c.self.inside) c.in-Some.bad c.args.chunk.now fed given c.in-Some.is h in
    (stands, refusal_known _ (fed ++ c.args.chunk.now) given (start_known c.self.inside.found _ c.self.invariant.first) stands ∙ c.in-Some.is))

pub returns-in-Some-clause-again : goal.returns-in-Some-clause-again
returns-in-Some-clause-again c = λ fed given bad h e.
    let refused = refusal_known (the_view c.self.inside) fed given (start_known c.self.inside.found _ c.self.invariant.first) (rw c.self.view_is h) in
    cc (refused, c.in-Some.is, e)

pub returns-in-Err-clause-again : goal.returns-in-Err-clause-again
returns-in-Err-clause-again c = λ fed given bad h e.
    let refused = refusal_known (the_view c.self.inside) fed given (start_known c.self.inside.found _ c.self.invariant.first) (rw c.self.view_is h) in
    cc (refused, c.in_default.is, e)

pub returns-clause-again : goal.returns-clause-again
returns-clause-again c = λ fed given bad h e.
    let refused = refusal_known (the_view c.self.inside) fed given (start_known c.self.inside.found _ c.self.invariant.first) (rw c.self.view_is h) in
    cc (refused, c.in_default.is, e)

pub returns-clause-history : goal.returns-clause-history
returns-clause-history c = λ fed given h.
    let stands : StandsFor c.take_chunk.new.self (fed ++ c.args.chunk.now) given = c.in-Ok.ensures.history fed given h in
    let known = refusal_known (the_view c.self-2.inside) (fed ++ c.args.chunk.now) given (start_known c.self-2.inside.found _ c.self-2.invariant.first)
    (rw c.self-2.view_is stands) in
    elim c.match-self-2.branch [
      | in-None w ↦ rw w.result-is (stands, known ∙ w.in-None.is)
      | in-Some-refused w ↦ rw w.result-is (stands, known ∙ w.in-Some-refused.is)
    ]

pub returns-in-Some-clause-place : goal.returns-in-Some-clause-place
returns-in-Some-clause-place c =
    let k = c.self.invariant in
    rw (← c.self.view_is)
    (record { packets = omega arith; few = omega (arith, k.within, k.counted, k.few) })

pub returns-in-Err-clause-place : goal.returns-in-Err-clause-place
returns-in-Err-clause-place c =
    let k = c.self.invariant in
    rw (c.in-Err.ensures.unchanged, ← c.self.view_is)
    (record { packets = omega arith; few = omega (arith, k.within, k.counted, k.few) })
