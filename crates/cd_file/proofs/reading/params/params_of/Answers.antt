-- A preamble is read, and then judged.
use Rattle.std.proofs.Common.{sym, ◌∙◌}
use Rattle.cd_file.proofs.ParamsJudged.{params_fault, params_judged}
use Rattle.cd_file.proofs.reading.params.params_of.Goals as goal

pub returns-in-Err : goal.returns-in-Err
returns-in-Err c = λ item end is. params_fault item end c.in-Err.fault (c.in-Err.ensures item end is)

pub returns-in-Ok-judged : goal.returns-in-Ok-judged
returns-in-Ok-judged c = λ item end is.
    let outer = c.in-Ok.ensures item end is in
    (params_judged item end c.in-Ok.read.0 c.in-Ok.read.1 outer _ (sym c.in-Ok-judged.is ∙ c.judged.ensures), outer.1)

pub returns-in-Err-judged : goal.returns-in-Err-judged
returns-in-Err-judged c = λ item end is.
    let outer = c.in-Ok.ensures item end is in
    params_judged item end c.in-Ok.read.0 c.in-Ok.read.1 outer _ (sym c.in-Err-judged.is ∙ c.judged.ensures)
