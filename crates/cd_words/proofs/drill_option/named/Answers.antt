use Rattle.std.proofs.Common.{[], ◌∷◌, None, Some}
use Rattle.std.proofs.lemmas.Bool.Decides.{Decides-eqb}
use Rattle.std.proofs.lemmas.Slice.Eq.{strip_prefix_is}
use Rattle.cd_words.proofs.DrillNames.{drill_no_dashes, drill_named_by}
use Rattle.cd_words.proofs.drill_option.named.Goals as goal

pub returns-in-Some : goal.returns-in-Some
returns-in-Some c =
    let split = strip_prefix_is Decides-eqb c.args.word.now (45 ∷ 45 ∷ []) (Some c.in-Some.name) c.in-Some.ensures.cases in
    drill_named_by c.args.word.now c.in-Some.name.now c.with_name.result split c.with_name.ensures

pub returns-in-None : goal.returns-in-None
returns-in-None c = drill_no_dashes c.args.word.now (strip_prefix_is Decides-eqb c.args.word.now (45 ∷ 45 ∷ []) None c.in-None.ensures.cases)
