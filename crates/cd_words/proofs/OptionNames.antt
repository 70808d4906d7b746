-- The names of options differ.
use Rattle.std.proofs.Common.{◌≡◌, ◌≢◌, ◌⊎◌, inl, inr, ℕ, Bool, true, false, cond, List, [], ◌∷◌, ◌++◌, Option, Some, None, refl, sym, ap, ◌∙◌}
use Rattle.std.specs.List.{find}
use Rattle.std.specs.Str.{bytes_eq}
use Rattle.std.proofs.lemmas.Bool.{false≢true}
use Rattle.std.proofs.lemmas.Slice.Eq.{bytes_eq-Decides}
use Rattle.cd_hints.specs.Options.{name_of, list_name_of}
use Rattle.cd_words.specs.declared.compact_option.CompactOption.{CompactOption}
use Rattle.cd_hints.specs.declared.settings.options.NumberOption.{NumberOption}
use Rattle.cd_hints.specs.declared.settings.options.ListOption.{ListOption}
use Rattle.cd_hints.specs.declared.settings.options.NumberOption.TheVariants.{Workers, Ticks, QueryTimeout, SkewTimeout, Window, WindowBytes, BlockItems, BlockBytes, QrHints, SigHints, RrHints, OtherHints, ClientPrefix4, ClientPrefix6, ServerPrefix4, ServerPrefix6, Port, MaxInput}
use Rattle.cd_hints.specs.declared.settings.options.ListOption.TheVariants.{Opcodes, RrTypes}
use Rattle.cd_words.specs.declared.compact_option.CompactOption.TheVariants.{Number, Parts}
use Rattle.cd_words.specs.Options.{all_options, word_of, option_named}
use Rattle.cd_words.specs.Compact.{compact}
use Rattle.cd_words.specs.Laws.{OptionsHaveNames}

-- the word of each option names it
pub options_named : OptionsHaveNames compact word_of
unfolding option_named
options_named (Number Workers) = refl
options_named (Number Ticks) = refl
options_named (Number QueryTimeout) = refl
options_named (Number SkewTimeout) = refl
options_named (Number Window) = refl
options_named (Number WindowBytes) = refl
options_named (Number BlockItems) = refl
options_named (Number BlockBytes) = refl
options_named (Number QrHints) = refl
options_named (Number SigHints) = refl
options_named (Number RrHints) = refl
options_named (Number OtherHints) = refl
options_named (Number ClientPrefix4) = refl
options_named (Number ClientPrefix6) = refl
options_named (Number ServerPrefix4) = refl
options_named (Number ServerPrefix6) = refl
options_named (Number Port) = refl
options_named (Number MaxInput) = refl
options_named (Parts Opcodes) = refl
options_named (Parts RrTypes) = refl

-- what is found passes the test
found_passes : {C : Type 0} (p : C → Bool) (options : List C) (option : C) → find p options ≡ Some option → p option ≡ true
found_passes p [] option h = absurd (cc)
found_passes p (first ∷ options) option h = by (p first) refl (found_passes p options option) h
  where
    by : (b : Bool) → p first ≡ b → (find p options ≡ Some option → p option ≡ true) → cond b (Some first) (find p options) ≡ Some option → p option ≡ true
    by true e rest h = let same : first ≡ option = cc in ap p (sym same) ∙ e
    by false e rest h = rest h

-- a word names the option whose word it is
pub names_it : (word : List ℕ) (option : CompactOption) → word ≡ word_of option → Some option ≡ option_named word
names_it word option e = sym (ap option_named e ∙ options_named option)

-- a word that is none of theirs is not found
pub none_found : {C : Type 0} (word_of : C → List ℕ) (options : List C) (word : List ℕ) → ((option : C) → word ≢ word_of option) → None ≡ find (λ option. bytes_eq word (word_of option)) options
none_found {C} word_of options word other = by (find (λ option. bytes_eq word (word_of option)) options) refl
  where
    by : (o : Option C) → find (λ option. bytes_eq word (word_of option)) options ≡ o → None ≡ o
    by None e = refl
    by (Some option) e = absurd (other option ((bytes_eq-Decides word (word_of option)).0 (found_passes (λ option. bytes_eq word (word_of option)) options option e)))

-- so it names none
pub names_none : (word : List ℕ) → ((option : CompactOption) → word ≢ word_of option) → None ≡ option_named word
unfolding option_named
names_none word other = none_found word_of all_options word other

-- what stands after two dashes
pub after_dashes : {xs ys : List ℕ} → 45 ∷ 45 ∷ xs ≡ 45 ∷ 45 ∷ ys → xs ≡ ys
after_dashes e = cc

-- a word without two dashes in front names none
pub no_dashes : (word : List ℕ) → ((name : List ℕ) → word ≢ (45 ∷ 45 ∷ []) ++ name) → None ≡ option_named word
no_dashes word other = names_none word by
  where
    by : (option : CompactOption) → word ≢ word_of option
    by (Number option) e = other (name_of option) e
    by (Parts option) e = other (list_name_of option) e

-- nor does one after whose dashes stands no name of an option
pub no_name : (word name : List ℕ) → word ≡ (45 ∷ 45 ∷ []) ++ name → ((option : NumberOption) → name_of option ≢ name) → ((option : ListOption) → list_name_of option ≢ name) →
    None ≡ option_named word
no_name word name split numbers lists = names_none word by
  where
    by : (option : CompactOption) → word ≢ word_of option
    by (Number option) e = numbers option (sym (after_dashes (sym split ∙ e)))
    by (Parts option) e = lists option (sym (after_dashes (sym split ∙ e)))

-- two options whose words name them are the same or not, as their words are
pub same_by_words : {C : Type 0} (word_of : C → List ℕ) (named : List ℕ → Option C) → ((option : C) → named (word_of option) ≡ Some option) → (first second : C) → (first ≡ second) ⊎ (first ≢ second)
same_by_words word_of named names first second = by (bytes_eq (word_of first) (word_of second)) refl
  where
    some_same : Some first ≡ Some second → first ≡ second
    some_same e = cc

    by : (b : Bool) → bytes_eq (word_of first) (word_of second) ≡ b → (first ≡ second) ⊎ (first ≢ second)
    by true e =
        let words : word_of first ≡ word_of second = (bytes_eq-Decides (word_of first) (word_of second)).0 e in
        inl (some_same (sym (names first) ∙ ap named words ∙ names second))
    by false e = inr (λ same. false≢true (sym e ∙ (bytes_eq-Decides (word_of first) (word_of second)).1 (ap word_of same)))

-- two options of `compact` are the same or not
pub same_or_not : (first second : CompactOption) → (first ≡ second) ⊎ (first ≢ second)
same_or_not first second = same_by_words word_of option_named options_named first second
