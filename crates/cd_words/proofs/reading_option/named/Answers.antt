use Rattle.std.proofs.Common.{rules, ◌≡◌, ◌≢◌, [], ◌∷◌, ◌++◌, None, Some, sym, ap, ◌∙◌}
use Rattle.std.proofs.lemmas.Bool.Decides.{Decides-eqb}
use Rattle.std.proofs.lemmas.Slice.Eq.{strip_prefix_is}
use Rattle.cd_hints.specs.declared.settings.options.NumberOption.TheVariants as number
use Rattle.cd_hints.specs.Options.{name_of}
use Rattle.cd_words.specs.declared.reading_option.ReadingOption.TheVariants.{MaxInput}
use Rattle.cd_words.proofs.ReadingNames.{reading_names_it, reading_names_none}
use Rattle.cd_words.proofs.OptionNames.{after_dashes}
use Rattle.cd_words.proofs.reading_option.named.Goals as goal

pub returns-in-Some : goal.returns-in-Some
returns-in-Some c =
    let split = strip_prefix_is Decides-eqb c.args.word.now (45 ∷ 45 ∷ []) (Some c.in-Some.name) c.in-Some.ensures.cases in
    let same : c.in-Some.name.now ≡ name_of number.MaxInput = search rules in
    reading_names_it c.args.word.now MaxInput (split ∙ ap (λ name. (45 ∷ 45 ∷ []) ++ name) same)

pub returns-in_default : goal.returns-in_default
returns-in_default c =
    let split = strip_prefix_is Decides-eqb c.args.word.now (45 ∷ 45 ∷ []) (Some c.in-Some.name) c.in-Some.ensures.cases in
    let other : c.in-Some.name.now ≢ name_of number.MaxInput = search rules in
    reading_names_none c.args.word.now (λ e. other (after_dashes (sym split ∙ e)))

pub returns-in_default-2 : goal.returns-in_default-2
returns-in_default-2 c =
    let split = strip_prefix_is Decides-eqb c.args.word.now (45 ∷ 45 ∷ []) None (rw c.in_default.is at c.strip_prefix.ensures.cases) in
    reading_names_none c.args.word.now (λ e. split (name_of number.MaxInput) e)
