use Rattle.cd_file.proofs.Maps.{entry_then, entry_last}
use Rattle.cd_file.proofs.head.push_required_storage.Goals as goal

pub returns : goal.returns
returns c =
    entry_then _ _ _ _ _ _ c.in_ok-push_required.ensures
    (entry_then _ _ _ _ _ _ c.in_ok-push_required-2.ensures
    (entry_then _ _ _ _ _ _ c.in_ok-push_required-3.ensures
    (entry_then _ _ _ _ _ _ c.in_ok-push_opcodes.ensures
    (entry_last _ _ _ _ c.in_ok-push_required-4.ensures))))
