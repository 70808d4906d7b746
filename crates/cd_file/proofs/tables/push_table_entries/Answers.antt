use Rattle.cd_file.proofs.Maps.{entry_then, entry_last}
use Rattle.cd_file.proofs.tables.push_table_entries.Goals as goal

pub returns : goal.returns
returns c =
    entry_then _ _ _ _ _ _ c.in_ok-push_optional_array.ensures
    (entry_then _ _ _ _ _ _ c.in_ok-push_optional_array-2.ensures
    (entry_then _ _ _ _ _ _ c.in_ok-push_optional_array-3.ensures
    (entry_then _ _ _ _ _ _ c.in_ok-push_optional_array-4.ensures
    (entry_then _ _ _ _ _ _ c.in_ok-push_optional_array-5.ensures
    (entry_then _ _ _ _ _ _ c.in_ok-push_optional_array-6.ensures
    (entry_then _ _ _ _ _ _ c.in_ok-push_optional_array-7.ensures
    (entry_then _ _ _ _ _ _ c.in_ok-push_optional_array-8.ensures
    (entry_last _ _ _ _ c.in_ok-push_optional_array-9.ensures))))))))
