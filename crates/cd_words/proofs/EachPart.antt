-- The parts of a list, one after another.
use Rattle.std.proofs.Common.{◌≡◌, ℕ, List, [], ◌∷◌, ◌++◌, append_assoc, Option, Some, None, refl, sym, ap}
use Rattle.std.specs.Option.{option_map}
use Rattle.std.specs.List.{slice_split}
use Rattle.cd_hints.specs.declared.settings.interval.Interval.{Interval}
use Rattle.cd_words.specs.Parts.{is_comma, part_of, each_part, parts_of}

-- parts after others
abbrev pub parts_with : List Interval → Option (List Interval) → Option (List Interval)
parts_with before after = option_map (λ parts. before ++ parts) after

-- after none stand all
pub with_none : (all : Option (List Interval)) → parts_with [] all ≡ all
with_none None = refl
with_none (Some parts) = refl

-- a text before the first comma that is no part makes the list none
pub first_is_none : (range : Interval) (text before : List ℕ) (texts : List (List ℕ)) → slice_split is_comma text ≡ before ∷ texts → part_of range before ≡ None →
    parts_of range text ≡ None
unfolding parts_of
first_is_none range text before texts split none = rw (split, none) refl

-- the first part, and those after the first comma
pub first_and_rest : (range : Interval) (text before rest : List ℕ) (part : Interval) (parts : List Interval) →
    slice_split is_comma text ≡ before ∷ slice_split is_comma rest → part_of range before ≡ Some part →
    parts_with parts (parts_of range text) ≡ parts_with (parts ++ part ∷ []) (parts_of range rest)
unfolding parts_of
first_and_rest range text before rest part parts split some =
    rw (split, some) (by (each_part range (slice_split is_comma rest)))
  where
    by : (after : Option (List Interval)) → parts_with parts (parts_with (part ∷ []) after) ≡ parts_with (parts ++ part ∷ []) after
    by None = refl
    by (Some more) = ap Some (sym (append_assoc parts (part ∷ []) more))

-- the last part
pub last_part : (range : Interval) (text before : List ℕ) (part : Interval) (parts : List Interval) →
    slice_split is_comma text ≡ before ∷ [] → part_of range before ≡ Some part → parts_with parts (parts_of range text) ≡ Some (parts ++ part ∷ [])
unfolding parts_of
last_part range text before part parts split some = rw (split, some) refl
