use Rattle.std.proofs.Common.{◌∙◌, arith, sym}
use Rattle.cd_drive.proofs.Taking.{chunk_failed, chunk_refused, chunk_long}
use Rattle.cd_drive.proofs.chunk.take_chunk.Goals as goal

pub returns-in-Err-clause-step : goal.returns-in-Err-clause-step
returns-in-Err-clause-step g c =
    chunk_failed _ _ _ _ _ _ _ c.requires.some c.in-Err.ensures.ended c.in-Err.ensures.bytes

pub returns-in-Some-clause-step : goal.returns-in-Some-clause-step
returns-in-Some-clause-step g c =
    chunk_refused _ _ _ _ _ _ c.in-Ok.count _ c.deref.result.now _ _ _ _
    (record {
      some = c.requires.some;
      few = c.in-Ok.ensures.within.0;
      fits = c.in-Ok.ensures.within.1;
      size = c.read_front.ensures.same_room ∙ c.requires.buffer;
      more = omega arith;
      least = c.min-used.ensures;
      same = c.deref.ensures.value;
      history = c.in_ok-said.ensures.history;
      refusal = λ fed cleared stands. sym c.in-Some.is ∙ c.in_ok-said.ensures.refusal fed cleared stands;
    })
    c.in-Ok.ensures.bytes.0

pub returns-then-room-eq0-clause-step : goal.returns-then-room-eq0-clause-step
returns-then-room-eq0-clause-step g c =
    chunk_long _ _ _ _ _ _ c.in-Ok.count _ c.deref.result.now _ _ _ c.if-room-eq0.true
    (record {
      some = c.requires.some;
      few = c.in-Ok.ensures.within.0;
      fits = c.in-Ok.ensures.within.1;
      size = c.read_front.ensures.same_room ∙ c.requires.buffer;
      more = omega arith;
      least = c.min-used.ensures;
      same = c.deref.ensures.value;
      history = c.in_ok-said.ensures.history;
      refusal = λ fed cleared stands. sym c.in-None.is ∙ c.in_ok-said.ensures.refusal fed cleared stands;
    })
    c.in-Ok.ensures.bytes.0
