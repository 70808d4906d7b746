use Rattle.std.proofs.Common.{refl}
use Rattle.cd_cbor.proofs.Spelled.{grown}
use Rattle.cd_file.specs.Files.{file_head}
use Rattle.cd_file.proofs.head.head_bytes.Goals as goal

pub returns : goal.returns
unfolding file_head
returns c =
    grown c.args.out.now _ _ _ _ _ c.in_ok-push_array_head.ensures.ok
    (grown c.push_array_head.new.out _ _ _ _ _ c.in_ok-push_text.ensures
    (grown c.push_text.new.out _ _ _ _ _ c.in_ok-push_preamble.ensures c.in_ok-push_slice.ensures.ok refl) refl) refl
