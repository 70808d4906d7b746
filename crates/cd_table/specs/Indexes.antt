-- Lists of questions and of resource records, which are given by the indexes of what they list.
use Rattle.std.specs.Prelude.{ℕ, List, [], ◌∷◌, Option, Some, None}
use Rattle.cd_table.specs.Growing.{After, Growing, give, put_question_indexes, put_record_indexes}

-- what a step gives is there
abbrev pub present : {A : Type 0} → After A → After (Option A)
present a = record { tables = a.tables; value = Some a.value }

-- a list of questions, given by their indexes; an empty list is an absent one
unfoldable pub put_question_list : List ℕ → Growing (Option ℕ)
put_question_list [] t = give None t
put_question_list (i ∷ indexes) t = present (put_question_indexes (i ∷ indexes) t)

-- a list of resource records, given by their indexes; an empty list is an absent one
unfoldable pub put_record_list : List ℕ → Growing (Option ℕ)
put_record_list [] t = give None t
put_record_list (i ∷ indexes) t = present (put_record_indexes (i ∷ indexes) t)
