use Rattle.std.proofs.Common.{length}
use Rattle.cd_engine.specs.Blocks.{FilesPopped}
use Rattle.cd_engine.proofs.blocks.file_ready.Given as goal

abbrev pub invariant-ready : goal.invariant-ready
invariant-ready l = FilesPopped l.fn.window l.fn.filing l.window l.filing

abbrev pub decreases-ready : goal.decreases-ready
decreases-ready l = length l.window.held
