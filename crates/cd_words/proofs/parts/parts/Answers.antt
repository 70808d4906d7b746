use Rattle.std.proofs.Common.{◌≡◌, [], ◌∷◌, ◌++◌, Some, refl, sym, ap, ◌∙◌}
use Rattle.cd_words.specs.Parts.{parts_of}
use Rattle.cd_words.proofs.EachPart.{with_none, first_is_none, first_and_rest, last_part}
use Rattle.cd_words.proofs.parts.parts.Goals as goal

pub parts-init : goal.parts-init
parts-init c = rw c.new-parts.ensures.items (sym (with_none (parts_of c.args.range c.args.text.now)))

pub returns-in_default : goal.returns-in_default
returns-in_default c =
    let none = first_is_none c.args.range c.parts.rest.now c.cut.result.0.now _ c.cut.ensures.split (sym c.part.ensures ∙ c.in_default.is) in
    rw (c.parts.invariant, none)

pub parts-preserved : goal.parts-preserved
parts-preserved c =
    let split = rw c.in-Some-after.is at c.cut.ensures.split in
    let pushed : c.push.new.self.items ≡ c.parts.parts.items ++ c.in-Some.part ∷ [] = c.in_ok-push.ensures.items in
    c.parts.invariant ∙ first_and_rest c.args.range c.parts.rest.now c.cut.result.0.now c.in-Some-after.after.now c.in-Some.part c.parts.parts.items split (sym c.part.ensures ∙ c.in-Some.is)
    ∙ rw pushed refl

pub returns-in-None : goal.returns-in-None
returns-in-None c =
    let split = rw c.in-None.is at c.cut.ensures.split in
    let pushed : c.push.new.self.items ≡ c.parts.parts.items ++ c.in-Some.part ∷ [] = c.in_ok-push.ensures.items in
    sym (c.parts.invariant ∙ last_part c.args.range c.parts.rest.now c.cut.result.0.now c.in-Some.part c.parts.parts.items split (sym c.part.ensures ∙ c.in-Some.is)
    ∙ ap Some (sym pushed))
