use Rattle.cd_words.proofs.Commands.{lines_or_breaks}
use Rattle.cd_words.proofs.laws.words_are_a_line_or_break_a_rule.Goals as goal

pub returns : goal.returns
returns c = lines_or_breaks
