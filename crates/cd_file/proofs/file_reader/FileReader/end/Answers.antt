-- What is found ahead is what the end says.
use Rattle.std.proofs.Common.{ap, sym, refl, ◌∙◌}
use Rattle.cd_file.specs.declared.refusal.FileWhy.TheVariants.{Cbor}
use Rattle.cd_file.specs.ReadFile.{Open, Refused}
use Rattle.cd_file.specs.Fronts.{ending_of}
use Rattle.cd_file.proofs.FileEnds.{stands_ended, whole_ahead, end_ahead, refused_ahead}
use Rattle.cd_file.proofs.file_reader.FileReader.end.Goals as goal

pub returns-in-Some-refused-clause-history : goal.returns-in-Some-refused-clause-history
returns-in-Some-refused-clause-history c = λ fed given h.
    let is = refused_ahead c.args.self.now fed given h c.in-Some-refused.bad (sym (ap (λ r. r.refused) c.self.view_is) ∙ c.in-Some-refused.is) in
    rw (c.refuse_end.ensures.answer, c.refuse_end.ensures.kept) (stands_ended c.args.self.now fed given h c.in-Some-refused.bad is, is)

pub returns-in-Ok-Whole-default-clause-history : goal.returns-in-Ok-Whole-default-clause-history
returns-in-Ok-Whole-default-clause-history c = λ fed given h.
    (h, whole_ahead c.args.self.now fed given h (sym (ap (λ r. r.refused) c.self.view_is) ∙ c.in-None-refused.is) (c.in-Ok-Whole-default.ensures.0 ∙ ap ending_of c.in-Ok-Whole-default.field-0-0-is))

pub returns-in-Ok-Open-default-clause-history : goal.returns-in-Ok-Open-default-clause-history
returns-in-Ok-Open-default-clause-history c = λ fed given h.
    let is =
    end_ahead c.args.self.now fed given h Open c.in-Ok-Open-default.block (Cbor c.self.inside.fed_count) (sym (ap (λ r. r.refused) c.self.view_is) ∙ c.in-None-refused.is) (c.in-Ok-Open-default.ensures.0 ∙ ap ending_of c.in-Ok-Open-default.field-0-0-is)
    c.in-Ok-Open-default.ensures.1 (ap (λ n. Refused (Cbor n)) (sym (ap (λ r. r.fed_count) c.self.view_is))) in
    rw (c.refuse_end-in-Ok-Open-default.ensures.answer, c.refuse_end-in-Ok-Open-default.ensures.kept) (stands_ended c.args.self.now fed given h _ is, is)

pub returns-in-Ok-Refused-default-clause-history : goal.returns-in-Ok-Refused-default-clause-history
returns-in-Ok-Refused-default-clause-history c = λ fed given h.
    let is =
    end_ahead c.args.self.now fed given h (Refused c.in-Ok-Refused-default.why) c.in-Ok-Refused-default.block c.in-Ok-Refused-default.why (sym (ap (λ r. r.refused) c.self.view_is) ∙ c.in-None-refused.is)
    (c.in-Ok-Refused-default.ensures.0 ∙ ap ending_of c.in-Ok-Refused-default.field-0-0-is) c.in-Ok-Refused-default.ensures.1 refl in
    rw (c.refuse_end-in-Ok-Refused-default.ensures.answer, c.refuse_end-in-Ok-Refused-default.ensures.kept) (stands_ended c.args.self.now fed given h _ is, is)
