use Rattle.std.proofs.Common.{sym, subst}
use Rattle.cd_file.specs.Passing.{IsScanned}
use Rattle.cd_file.proofs.progress.scan_of.Goals as goal

pub returns-in-Block : goal.returns-in-Block
returns-in-Block c = λ held. subst (λ s. IsScanned s c.new.result held) (sym c.in-Block.is) (c.new.ensures held)

pub returns-in-Preamble : goal.returns-in-Preamble
returns-in-Preamble c = λ held. subst (λ s. IsScanned s c.new-in-Preamble.result held) (sym c.in-Preamble.is) (c.new-in-Preamble.ensures held)
