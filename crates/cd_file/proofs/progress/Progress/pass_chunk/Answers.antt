use Rattle.std.proofs.Common.{◌≡◌, ◌++◌, false, ap, sym, ◌∙◌}
use Rattle.cd_file.specs.contracts.progress.Progress.{the_view}
use Rattle.cd_file.specs.ReadFile.{begins_with_break}
use Rattle.cd_file.proofs.Passings.{passes_chunk, stops_chunk, chunk_unheld}
use Rattle.cd_file.proofs.progress.Progress.pass_chunk.Goals as goal
use Rattle.cd_file.proofs.progress.Progress.pass_chunk.Goals.{in-Ok-push_chunk, in-Err-push_chunk}

pub returns-then-is_break : goal.returns-then-is_break
returns-then-is_break c = λ entries. c.pass_break.ensures c.args.at entries

pub returns-in-Err : goal.returns-in-Err
returns-in-Err c = λ entries.
    let goes : begins_with_break c.args.held.now ≡ false = sym c.is_break.ensures ∙ c.if-is_break.false in
    rw (← c.self.view_is) (stops_chunk (the_view c.self.inside) entries c.args.held.now c.args.at (ap (λ p. p.stage) c.self.view_is ∙ c.requires.stage) c.in-Err.ending goes (rw c.deref.ensures.value at c.in-Err.ensures.front))

pub returns : goal.returns
returns c = λ entries.
    let goes : begins_with_break c.args.held.now ≡ false = sym c.is_break.ensures ∙ c.if-is_break.false in
    elim c.match-push_chunk.branch [
      | in-Ok-push_chunk w ↦
          rw (w.result-is, w.in-Ok-push_chunk.ensures.ok, ← c.self.view_is)
          (passes_chunk (the_view c.self.inside) entries c.args.held.now c.args.at (ap (λ p. p.stage) c.self.view_is ∙ c.requires.stage) c.self.inside.scan (c.self.inside.title.items ++ c.in-Ok.chunk.0.now, c.in-Ok.chunk.1) goes (rw c.deref.ensures.value at c.in-Ok.ensures.front))
      | in-Err-push_chunk w ↦ rw (w.result-is, w.in-Err-push_chunk.ensures.err, ← c.self.view_is) (chunk_unheld (the_view c.self.inside) entries c.args.held.now c.args.at (ap (λ p. p.stage) c.self.view_is ∙ c.requires.stage))
    ]
