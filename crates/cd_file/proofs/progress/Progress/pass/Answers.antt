-- Each stage is read by its own call.
use Rattle.std.proofs.Common.{◌≡◌, ap, sym, subst, ◌∙◌}
use Rattle.cd_file.specs.declared.stage.Stage.TheVariants as stage
use Rattle.cd_file.specs.Passing.{IsPlaced}
use Rattle.cd_file.proofs.progress.Progress.pass.Goals as goal

pub returns-in-Outer : goal.returns-in-Outer
returns-in-Outer c = λ entries few.
    let due : c.args.self.now.stage ≡ stage.Outer = sym (ap (λ p. p.stage) c.self.view_is) ∙ c.in-Outer.is in
    let first : c.args.at ≡ 0 = subst (λ s. IsPlaced s c.args.at) due c.requires.placed in
    rw first (c.pass_outer.ensures entries)

pub returns-in-Title : goal.returns-in-Title
returns-in-Title c = λ entries few. c.pass_title.ensures entries

pub returns-in-Chunk : goal.returns-in-Chunk
returns-in-Chunk c = λ entries few. c.pass_chunk.ensures entries

pub returns-in-Preamble : goal.returns-in-Preamble
returns-in-Preamble c = λ entries few. c.pass_preamble.ensures entries

pub returns-in-Array : goal.returns-in-Array
returns-in-Array c = λ entries few. c.pass_array.ensures entries
