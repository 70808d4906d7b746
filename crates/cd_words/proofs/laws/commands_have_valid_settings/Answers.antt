use Rattle.cd_words.proofs.ValidCommands.{commands_are_valid}
use Rattle.cd_words.proofs.laws.commands_have_valid_settings.Goals as goal

pub returns : goal.returns
returns c = commands_are_valid
