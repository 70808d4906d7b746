use Rattle.cd_words.proofs.OptionValues.{options_valued, reading_options_valued, drill_options_valued}
use Rattle.cd_words.proofs.laws.options_have_values.Goals as goal

pub returns-clause-compact : goal.returns-clause-compact
returns-clause-compact c = options_valued

pub returns-clause-reading : goal.returns-clause-reading
returns-clause-reading c = reading_options_valued

pub returns-clause-drill : goal.returns-clause-drill
returns-clause-drill c = drill_options_valued
