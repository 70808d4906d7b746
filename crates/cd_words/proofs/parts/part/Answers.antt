use Rattle.std.proofs.Common.{◌≡◌, ◌^◌, ◌≤◌, Some, is_some, true, false, IfSome, sym, ap, ◌∙◌}
use Rattle.std.specs.List.{list_any, before_first, after_first}
use Rattle.cd_words.specs.Numbers.{number_of}
use Rattle.cd_words.specs.Parts.{is_dash}
use Rattle.cd_words.proofs.Intervals.{part_of_numbers, no_first, no_second}
use Rattle.cd_words.proofs.parts.part.Goals as goal

pub returns-in_default : goal.returns-in_default
returns-in_default c =
    let text = c.args.text.now in
    let great = rw c.cut.ensures.before at c.in_default.ensures in
    rw part_of_numbers (sym (no_first c.args.range (number_of (before_first is_dash text)) (list_any is_dash text) (number_of (after_first is_dash text)) c.requires great))

pub returns-in_default-after : goal.returns-in_default-after
returns-in_default-after c =
    let text = c.args.text.now in
    let least : number_of (before_first is_dash text) ≡ Some c.in-Some.least = rw c.cut.ensures.before at c.in-Some.ensures in
    let dash : list_any is_dash text ≡ false = sym c.cut.ensures.found ∙ ap is_some c.in_default-after.is in
    rw (part_of_numbers, least, dash) c.interval.ensures

pub returns-in-Some-number : goal.returns-in-Some-number
returns-in-Some-number c =
    let text = c.args.text.now in
    let least : number_of (before_first is_dash text) ≡ Some c.in-Some.least = rw c.cut.ensures.before at c.in-Some.ensures in
    let dash : list_any is_dash text ≡ true = sym c.cut.ensures.found ∙ ap is_some c.in-Some-after.is in
    let rest : c.in-Some-after.after.now ≡ after_first is_dash text = rw c.in-Some-after.is at c.cut.ensures.after in
    let most : number_of (after_first is_dash text) ≡ Some c.in-Some-number.most = rw rest at c.in-Some-number.ensures in
    rw (part_of_numbers, least, dash, most) c.interval-in-Some-number.ensures

pub returns-in-None : goal.returns-in-None
returns-in-None c =
    let text = c.args.text.now in
    let least : number_of (before_first is_dash text) ≡ Some c.in-Some.least = rw c.cut.ensures.before at c.in-Some.ensures in
    let dash : list_any is_dash text ≡ true = sym c.cut.ensures.found ∙ ap is_some c.in-Some-after.is in
    let rest : c.in-Some-after.after.now ≡ after_first is_dash text = rw c.in-Some-after.is at c.cut.ensures.after in
    let great : IfSome (number_of (after_first is_dash text)) (λ n. 2 ^ 64 ≤ n) = rw rest at c.in-None.ensures in
    rw (part_of_numbers, least, dash) (sym (no_second c.args.range c.in-Some.least (number_of (after_first is_dash text)) c.requires great))
