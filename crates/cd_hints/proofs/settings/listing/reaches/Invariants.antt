use Rattle.std.proofs.Common.{take}
use Rattle.cd_hints.specs.Reaches.{AreReaches}
use Rattle.cd_hints.proofs.settings.listing.reaches.Given as goal

abbrev pub invariant-loop-part : goal.invariant-loop-part
invariant-loop-part l = AreReaches l.limit (take l.part-index l.parts) l.reaches.items
