use Rattle.cd_words.proofs.Commands.{commands_are_one}
use Rattle.cd_words.proofs.laws.words_say_at_most_one_command.Goals as goal

pub returns : goal.returns
returns c = commands_are_one
