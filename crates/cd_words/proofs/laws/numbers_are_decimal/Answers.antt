use Rattle.cd_words.proofs.Decimal.{are_decimal}
use Rattle.cd_words.proofs.laws.numbers_are_decimal.Goals as goal

pub returns : goal.returns
returns c = are_decimal
