use Rattle.std.proofs.Common.{ap, ◌∙◌, map, take}
use Rattle.cd_name.proofs.Offsets.{suffix_of, view_of_front}
use Rattle.cd_name.proofs.name_writer.NameWriter.put_slice.Goals as goal

pub returns-in-Err-clause-err_writer : goal.returns-in-Err-clause-err_writer
returns-in-Err-clause-err_writer c =
    let kept = c.append.ensures.kept_suffixes in
    ap (λ es. map suffix_of es) (c.truncate-in-Err.ensures.entries ∙ ap (λ k. take k c.self-2.inside.offsets.entries) c.len-known.ensures.len)
    ∙ view_of_front c.args.self.now kept.0 c.self.inside.offsets.entries c.self-2.inside.offsets.entries c.self.view_is (c.self-2.view_is ∙ kept.1)
