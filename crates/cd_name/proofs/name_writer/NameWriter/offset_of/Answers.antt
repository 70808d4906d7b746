use Rattle.std.proofs.Common.{sym, ap, ◌∙◌}
use Rattle.cd_name.specs.WrittenNames.{least_offset}
use Rattle.cd_name.proofs.Offsets.{lookup_least, lookup_near, lookup_if_near}
use Rattle.cd_name.proofs.name_writer.NameWriter.offset_of.Goals as goal

pub returns-clause-least : goal.returns-clause-least
returns-clause-least c =
    c.copied.ensures ∙ c.get.ensures.value ∙ lookup_least c.self.inside.offsets.entries c.args.suffix.now c.self.invariant.1
    ∙ ap (λ s. least_offset s c.args.suffix.now) c.self.view_is

pub returns-clause-near : goal.returns-clause-near
returns-clause-near c =
    lookup_if_near c.copied.result
    (λ offset is. lookup_near c.self.inside.offsets.entries _ offset c.self.invariant.0 (sym (c.copied.ensures ∙ c.get.ensures.value) ∙ is))
