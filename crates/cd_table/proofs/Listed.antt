-- A list that is put is each of its values, and then the list of their indexes.
use Rattle.std.proofs.Common.{◌≡◌, List, [], ◌∷◌, Option, ℕ, refl, ap, sym, ◌∙◌}
use Rattle.cd_block.specs.declared.kept.KeptQuestion.{KeptQuestion}
use Rattle.cd_block.specs.declared.kept.KeptRr.{KeptRr}
use Rattle.cd_table.specs.declared.tables.Tables.{Tables}
use Rattle.cd_table.specs.Growing.{After, each, put_question, put_questions, put_record, put_records}
use Rattle.cd_table.specs.Indexes.{put_question_list, put_record_list}

-- questions
questions_listed : (qs : List KeptQuestion) (t : Tables) →
    put_question_list (each put_question qs t).value (each put_question qs t).tables ≡ put_questions qs t
unfolding each put_questions put_question_list
questions_listed [] t = refl
questions_listed (q ∷ qs) t = refl

-- resource records
records_listed : (rs : List KeptRr) (t : Tables) →
    put_record_list (each put_record rs t).value (each put_record rs t).tables ≡ put_records rs t
unfolding each put_records put_record_list
records_listed [] t = refl
records_listed (r ∷ rs) t = refl

-- the list of the indexes that the questions were given
pub questions_put : (qs : List KeptQuestion) (indexes : List ℕ) (first t : Tables) →
    indexes ≡ (each put_question qs first).value → t ≡ (each put_question qs first).tables → put_question_list indexes t ≡ put_questions qs first
questions_put qs indexes first t value tables =
    ap (λ is. put_question_list is t) value ∙ ap (put_question_list (each put_question qs first).value) tables ∙ questions_listed qs first

-- the list of the indexes that the resource records were given
pub records_put : (rs : List KeptRr) (indexes : List ℕ) (first t : Tables) →
    indexes ≡ (each put_record rs first).value → t ≡ (each put_record rs first).tables → put_record_list indexes t ≡ put_records rs first
records_put rs indexes first t value tables =
    ap (λ is. put_record_list is t) value ∙ ap (put_record_list (each put_record rs first).value) tables ∙ records_listed rs first
