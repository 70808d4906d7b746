use Rattle.std.proofs.Common.{◌≡◌, ◌%◌, ◌-◌, ◌≤◌, length, take}
use Rattle.cd_words.specs.CommandLines.{HasOptions, settings_of}
use Rattle.cd_words.proofs.command_line.read_options.Given as goal

abbrev pub invariant-options : goal.invariant-options
invariant-options g l = record {
  odd : l.place % 2 ≡ 1;
  within : l.place ≤ length l.words;
  line : HasOptions g.O.CommandOption.language (take l.place l.words);
  settings : l.settings ≡ settings_of g.O.CommandOption.language (take l.place l.words);
  valid : g.O.CommandOption.is_valid l.settings;
}

abbrev pub decreases-options : goal.decreases-options
decreases-options g l = length l.words - l.place
