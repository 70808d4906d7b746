use Rattle.std.proofs.Common.{◌≡◌, length}
use Rattle.cd_words.specs.Parts.{parts_of}
use Rattle.cd_words.proofs.EachPart.{parts_with}
use Rattle.cd_words.proofs.parts.parts.Given as goal

abbrev pub invariant-parts : goal.invariant-parts
invariant-parts l = parts_of l.range l.text ≡ parts_with l.parts.items (parts_of l.range l.rest)

abbrev pub decreases-parts : goal.decreases-parts
decreases-parts l = length l.rest
