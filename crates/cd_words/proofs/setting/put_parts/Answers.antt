use Rattle.cd_hints.specs.declared.settings.options.ListOption.TheVariants.{RrTypes}
use Rattle.cd_words.specs.Compact.{with_parts}
use Rattle.cd_words.proofs.ValidParts.{valid_parts}
use Rattle.cd_words.proofs.setting.put_parts.Goals as goal

pub returns-in_ok-settings-in-RrTypes-clause-valid : goal.returns-in_ok-settings-in-RrTypes-clause-valid
unfolding with_parts
returns-in_ok-settings-in-RrTypes-clause-valid c = λ valid. rw c.in_ok-settings-in-RrTypes.ensures (valid_parts RrTypes c.args.parts.now c.args.settings.now valid)
