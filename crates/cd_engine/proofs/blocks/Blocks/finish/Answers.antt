use Rattle.std.proofs.Common.{List, ℕ, ◌++◌, ap, ◌∙◌}
use Rattle.std.proofs.lemmas.Result.{IfOk-weaker}
use Rattle.cd_engine.proofs.BlocksCalls.{drained_of, finished_told}
use Rattle.cd_engine.proofs.BlocksSteps.{told_traffic}
use Rattle.cd_engine.proofs.blocks.Blocks.finish.Goals as goal

pub file_ready-requires-clause-traffic : goal.file_ready-requires-clause-traffic
file_ready-requires-clause-traffic c =
    let i = c.self.inside in
    let D = drained_of c.args.self i.window i.filing i.spent c.self.view_is c.self.invariant c.requires in
    told_traffic i.window c.finish.new.self c.finish.ensures.told D.traffic

pub returns-clause-output : goal.returns-clause-output
returns-clause-output c =
    let i = c.self.inside in
    let D = drained_of c.args.self i.window i.filing i.spent c.self.view_is c.self.invariant c.requires in
    IfOk-weaker c.finish-2.result _ _ (λ f e events cleared B. ap (λ (xs : List ℕ). cleared ++ xs) e
    ∙ (finished_told c.args.self i.window i.filing i.spent c.finish.new.self c.file_ready.new.window c.file_ready.new.filing c.self.view_is D c.finish.ensures.stands c.finish.ensures.told c.in_ok-file_ready.ensures events cleared B).output) c.finish-2.ensures.output

pub returns-clause-blocks : goal.returns-clause-blocks
returns-clause-blocks c =
    let i = c.self.inside in
    let D = drained_of c.args.self i.window i.filing i.spent c.self.view_is c.self.invariant c.requires in
    IfOk-weaker c.finish-2.result _ _ (λ f e events cleared B. e
    ∙ (finished_told c.args.self i.window i.filing i.spent c.finish.new.self c.file_ready.new.window c.file_ready.new.filing c.self.view_is D c.finish.ensures.stands c.finish.ensures.told c.in_ok-file_ready.ensures events cleared B).blocks) c.finish-2.ensures.blocks

pub returns-clause-counts : goal.returns-clause-counts
returns-clause-counts c =
    let i = c.self.inside in
    let D = drained_of c.args.self i.window i.filing i.spent c.self.view_is c.self.invariant c.requires in
    IfOk-weaker c.finish-2.result _ _ (λ f e events cleared B. e
    ∙ (finished_told c.args.self i.window i.filing i.spent c.finish.new.self c.file_ready.new.window c.file_ready.new.filing c.self.view_is D c.finish.ensures.stands c.finish.ensures.told c.in_ok-file_ready.ensures events cleared B).counts) c.finish-2.ensures.counts
