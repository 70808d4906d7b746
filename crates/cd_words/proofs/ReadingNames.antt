-- The word that names the option of `check` and `inspect`.
use Rattle.std.proofs.Common.{◌≡◌, ◌≢◌, ◌⊎◌, inl, Bool, true, false, cond, ℕ, List, Some, None, refl, sym, ap, ◌∙◌}
use Rattle.std.specs.Str.{bytes_eq}
use Rattle.std.proofs.lemmas.Slice.Eq.{bytes_eq-Decides}
use Rattle.cd_words.specs.declared.reading_option.ReadingOption.{ReadingOption}
use Rattle.cd_words.specs.declared.reading_option.ReadingOption.TheVariants.{MaxInput}
use Rattle.cd_words.specs.Reading.{reading, reading_word_of, reading_option_named}
use Rattle.cd_words.specs.Laws.{OptionsHaveNames}

-- the word of each option names it
pub reading_options_named : OptionsHaveNames reading reading_word_of
unfolding reading_option_named
reading_options_named MaxInput = refl

-- a word names the option whose word it is
pub reading_names_it : (word : List ℕ) (option : ReadingOption) → word ≡ reading_word_of option → Some option ≡ reading_option_named word
reading_names_it word option e = sym (ap reading_option_named e ∙ reading_options_named option)

-- a word that is none of theirs names none
pub reading_names_none : (word : List ℕ) → word ≢ reading_word_of MaxInput → None ≡ reading_option_named word
unfolding reading_option_named
reading_names_none word other = by (bytes_eq word (reading_word_of MaxInput)) refl
  where
    by : (b : Bool) → bytes_eq word (reading_word_of MaxInput) ≡ b → None ≡ cond b (Some MaxInput) None
    by true e = absurd (other ((bytes_eq-Decides word (reading_word_of MaxInput)).0 e))
    by false e = refl

-- two options are the same or not
pub reading_same_or_not : (first second : ReadingOption) → (first ≡ second) ⊎ (first ≢ second)
reading_same_or_not MaxInput MaxInput = inl refl
