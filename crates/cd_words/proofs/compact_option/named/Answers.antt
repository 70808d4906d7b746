use Rattle.std.proofs.Common.{[], ◌∷◌, ◌++◌, None, Some, sym, ap, ◌∙◌}
use Rattle.std.proofs.lemmas.Bool.Decides.{Decides-eqb}
use Rattle.std.proofs.lemmas.Slice.Eq.{strip_prefix_is}
use Rattle.cd_words.specs.declared.compact_option.CompactOption.TheVariants.{Number, Parts}
use Rattle.cd_words.proofs.OptionNames.{names_it, no_dashes, no_name}
use Rattle.cd_words.proofs.compact_option.named.Goals as goal

pub returns-in_default : goal.returns-in_default
returns-in_default c = no_dashes c.args.word.now (strip_prefix_is Decides-eqb c.args.word.now (45 ∷ 45 ∷ []) None c.in_default.ensures.cases)

pub returns-in-Some-named : goal.returns-in-Some-named
returns-in-Some-named c =
    let split = strip_prefix_is Decides-eqb c.args.word.now (45 ∷ 45 ∷ []) (Some c.in-Some.name) c.in-Some.ensures.cases in
    names_it c.args.word.now (Number c.in-Some-named.option) (split ∙ ap (λ name. (45 ∷ 45 ∷ []) ++ name) (sym c.in-Some-named.ensures))

pub returns-in-Some-named-2 : goal.returns-in-Some-named-2
returns-in-Some-named-2 c =
    let split = strip_prefix_is Decides-eqb c.args.word.now (45 ∷ 45 ∷ []) (Some c.in-Some.name) c.in-Some.ensures.cases in
    names_it c.args.word.now (Parts c.in-Some-named-2.option) (split ∙ ap (λ name. (45 ∷ 45 ∷ []) ++ name) (sym c.in-Some-named-2.ensures))

pub returns-in-None : goal.returns-in-None
returns-in-None c =
    let split = strip_prefix_is Decides-eqb c.args.word.now (45 ∷ 45 ∷ []) (Some c.in-Some.name) c.in-Some.ensures.cases in
    no_name c.args.word.now c.in-Some.name.now split c.in_default-named.ensures c.in-None.ensures
