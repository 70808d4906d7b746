use Rattle.std.proofs.Common.{◌∙◌, ap, sym}
use Rattle.cd_capture.specs.Reading.{refusal_in}
use Rattle.cd_engine.proofs.Refusing.{at_end_known}
use Rattle.cd_engine.proofs.compactor.CompactorMachine.at_end.Goals as goal

pub returns : goal.returns
returns c =
    rw (← c.self.view_is)
    (λ fed cleared h none. c.refusal_in.ensures ∙ ap refusal_in (c.end.ensures fed h.on.given h.on.reads) ∙ sym (at_end_known fed))
