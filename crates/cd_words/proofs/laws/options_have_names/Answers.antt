use Rattle.cd_words.proofs.DrillNames.{drill_options_named}
use Rattle.cd_words.proofs.OptionNames.{options_named}
use Rattle.cd_words.proofs.ReadingNames.{reading_options_named}
use Rattle.cd_words.proofs.laws.options_have_names.Goals as goal

pub returns-clause-compact : goal.returns-clause-compact
returns-clause-compact c = options_named

pub returns-clause-reading : goal.returns-clause-reading
returns-clause-reading c = reading_options_named

pub returns-clause-drill : goal.returns-clause-drill
returns-clause-drill c = drill_options_named
