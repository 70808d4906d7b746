-- The words that name the options of `drill`.
use Rattle.std.proofs.Common.{◌≡◌, ◌≢◌, ◌⊎◌, ℕ, List, [], ◌∷◌, ◌++◌, Option, Some, None, refl, sym, ap, ◌∙◌}
use Rattle.std.specs.Prelude.{MatchOption}
use Rattle.cd_words.specs.declared.drill_option.DrillOption.{DrillOption}
use Rattle.cd_words.specs.declared.drill_option.DrillOption.TheVariants.{Count, Seed, Workers}
use Rattle.cd_words.specs.Drill.{drill, drill_options, drill_name_of, drill_word_of, drill_option_named}
use Rattle.cd_words.specs.Laws.{OptionsHaveNames}
use Rattle.cd_words.proofs.OptionNames.{none_found, same_by_words, after_dashes}

-- the word of each option names it
pub drill_options_named : OptionsHaveNames drill drill_word_of
unfolding drill_option_named
drill_options_named Count = refl
drill_options_named Seed = refl
drill_options_named Workers = refl

-- a word that is none of theirs names none
drill_names_none : (word : List ℕ) → ((option : DrillOption) → word ≢ drill_word_of option) → None ≡ drill_option_named word
unfolding drill_option_named
drill_names_none word other = none_found drill_word_of drill_options word other

-- a word without two dashes in front names none
pub drill_no_dashes : (word : List ℕ) → ((name : List ℕ) → word ≢ (45 ∷ 45 ∷ []) ++ name) → None ≡ drill_option_named word
drill_no_dashes word other = drill_names_none word (λ option e. other (drill_name_of option) e)

-- after two dashes stands the name of the option that is named, or none
pub drill_named_by : (word name : List ℕ) (o : Option DrillOption) → word ≡ (45 ∷ 45 ∷ []) ++ name →
    MatchOption o ((option : DrillOption) → drill_name_of option ≢ name) (λ option. drill_name_of option ≡ name) → o ≡ drill_option_named word
drill_named_by word name None split other = drill_names_none word (λ option e. other option (sym (after_dashes (sym split ∙ e))))
drill_named_by word name (Some option) split named =
    let is : word ≡ drill_word_of option = split ∙ ap (λ xs. (45 ∷ 45 ∷ []) ++ xs) (sym named) in
    sym (ap drill_option_named is ∙ drill_options_named option)

-- two options are the same or not
pub drill_same_or_not : (first second : DrillOption) → (first ≡ second) ⊎ (first ≢ second)
drill_same_or_not first second = same_by_words drill_word_of drill_option_named drill_options_named first second
