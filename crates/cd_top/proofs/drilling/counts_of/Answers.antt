use Rattle.std.proofs.Common.{refl, ap, ◌∙◌, List, ℕ}
use Rattle.std.specs.Prelude.{drop}
use Rattle.cd_ports.specs.Memory.{sure_source, fresh_source}
use Rattle.cd_top.proofs.Drilled.{rebuilt_counted}
use Rattle.cd_top.proofs.Telling.{done_goes}
use Rattle.cd_top.proofs.drilling.counts_of.Goals as goal

pub returns-in-Done : goal.returns-in-Done
returns-in-Done c =
    rebuilt_counted _ c.args.file.now (drop c.inspect-ended.new.src.at c.inspect-ended.new.src.bytes) (sure_source c.new-src.result)
    (sure_source c.inspect-ended.new.src) _ _ c.inspect-ended.result
    (c.new-src.ensures ∙ ap (λ (bytes : List ℕ). fresh_source bytes) c.in_ok-from_slice.ensures) refl
    (c.inspect-ended.ensures.at_end (done_goes c.inspect-ended.result.0 c.in-Done.is) (c.inspect-ended.ensures.done c.in-Done.is)) c.in-Done.is
    c.inspect-ended.ensures.told
