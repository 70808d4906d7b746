use Rattle.std.proofs.Common.{◌++◌, ap, ◌∙◌}
use Rattle.cd_file.specs.Files.{file_head}
use Rattle.cd_engine.proofs.FilingCalls.{new_filed}
use Rattle.cd_engine.proofs.filing.Filing.new.Goals as goal

pub returns : goal.returns
returns c = new_filed c.args.settings c.new.result.run c.head_bytes.new.out c.new.ensures.empty
    (c.in_ok-head_bytes.ensures ∙ ap (λ xs. xs ++ file_head c.args.settings.params) c.new-output.ensures)
