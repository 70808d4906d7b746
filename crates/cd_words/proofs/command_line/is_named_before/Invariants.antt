use Rattle.std.proofs.Common.{◌≡◌, ◌%◌, ◌-◌}
use Rattle.cd_words.specs.CommandLines.{IsNamedBefore}
use Rattle.cd_words.proofs.command_line.is_named_before.Given as goal

abbrev pub invariant-names : goal.invariant-names
invariant-names g l = record {
  odd : l.before % 2 ≡ 1;
  none : ¬ (IsNamedBefore g.O.CommandOption.language l.words l.before l.option);
}

abbrev pub decreases-names : goal.decreases-names
decreases-names g l = l.place - l.before
