-- The list of the resource records of a message that are kept, as it is put.
use Rattle.std.proofs.Common.{◌≡◌, ℕ, ◌+◌, ◌<◌, ◌≤◌, Bool, true, false, List, [], ◌∷◌, ◌++◌, get_or, map, length, drop, None, refl, ap, sym, ◌∙◌}
use Rattle.std.specs.Prelude.{if◌then◌else◌}
use Rattle.std.specs.List.{filter}
use Rattle.cd_block.specs.declared.hints.Hints.{Hints}
use Rattle.cd_block.specs.declared.params.Params.{Params}
use Rattle.cd_message.specs.declared.message.Rr.{Rr}
use Rattle.cd_hints.specs.Hinted.{is_hinted}
use Rattle.cd_hints.specs.Lists.{is_listed_record, kept_rr, kept_records, no_lists, without_opt}
use Rattle.cd_hints.proofs.KeptAmong.{is_kept, kept_whole, kept_where_hinted}
use Rattle.cd_table.specs.declared.tables.Tables.{Tables}
use Rattle.cd_table.specs.Growing.{Growing, each, in_front, put_lists, put_questions, put_record, put_records}
use Rattle.cd_table.specs.Indexes.{put_record_list}
use Rattle.cd_table.proofs.Choosing.{chosen, chosen_given, chosen_turn, chosen_skip}
use Rattle.cd_table.proofs.Listed.{records_put}

-- what the loop over records gives at its end
pub records_given : (types : List ℕ) (with_opt : Bool) (hints : Hints) (records : List Rr) (k : ℕ) (front : List ℕ) (first t : Tables) →
    each put_record (chosen (is_kept types with_opt) (kept_rr hints) records) first ≡ in_front front (each put_record (chosen (is_kept types with_opt) (kept_rr hints) (drop k records)) t) →
    length records ≤ k →
    each put_record (map (kept_rr hints) (filter (is_listed_record types) (if with_opt then records else without_opt records))) first ≡ record { tables = t; value = front }
records_given types with_opt hints records k front first t so past =
    ap (λ rs. each put_record rs first) (sym (kept_whole types with_opt hints records))
    ∙ chosen_given put_record (is_kept types with_opt) (kept_rr hints) (chosen (is_kept types with_opt) (kept_rr hints) records) records k front first t so past

-- the list of the indexes that the records were given, where the hint of the list is set
pub hinted_put : (p : Params) (hint : ℕ) (with_opt : Bool) (records lent : List Rr) (indexes : List ℕ) (first t : Tables) →
    lent ≡ (if is_hinted p.hints.qr hint then records else []) →
    indexes ≡ (each put_record (map (kept_rr p.hints) (filter (is_listed_record p.rr_types) (if with_opt then lent else without_opt lent))) first).value →
    t ≡ (each put_record (map (kept_rr p.hints) (filter (is_listed_record p.rr_types) (if with_opt then lent else without_opt lent))) first).tables →
    put_record_list indexes t ≡ put_records (kept_records p hint (if with_opt then records else without_opt records)) first
hinted_put p hint with_opt records lent indexes first t is value tables =
    let same = kept_where_hinted p hint with_opt records lent is in
    records_put (kept_records p hint (if with_opt then records else without_opt records)) indexes first t
    (value ∙ ap (λ rs. (each put_record rs first).value) same) (tables ∙ ap (λ rs. (each put_record rs first).tables) same)

-- no list is put
pub no_lists_put : (t : Tables) → put_lists no_lists t ≡ record { tables = t; value = record { question = None; answer = None; authority = None; additional = None } }
unfolding put_lists put_questions put_records
no_lists_put t = refl

-- a turn of a loop that takes a value where it passes a test, and passes on where it does not
pub either_turn : {A B C : Type 0} (step : B → Growing C) (p : A → Bool) (f : A → B) (all : List B) (xs : List A) (k : ℕ) (x : A) (front longer : List C) (first t next : Tables) →
    each step all first ≡ in_front front (each step (chosen p f (drop k xs)) t) → (k < length xs) × (x ≡ get_or xs k x) →
    longer ≡ (if p x then front ++ (step (f x) t).value ∷ [] else front) → next ≡ (if p x then (step (f x) t).tables else t) →
    each step all first ≡ in_front longer (each step (chosen p f (drop (k + 1) xs)) next)
either_turn {A} {B} {C} step p f all xs k x front longer first t next so at more tables = by_case (p x) refl more tables where
  by_case : (b : Bool) → p x ≡ b → longer ≡ (if b then front ++ (step (f x) t).value ∷ [] else front) → next ≡ (if b then (step (f x) t).tables else t) →
      each step all first ≡ in_front longer (each step (chosen p f (drop (k + 1) xs)) next)
  by_case true is long after = chosen_turn step p f all xs k x (step (f x) t).value front longer first t next so at.0 at.1 is long refl after
  by_case false is long after =
      chosen_skip step p f all xs k x front first t so at.0 at.1 is
      ∙ ap (λ (l : List C). in_front l (each step (chosen p f (drop (k + 1) xs)) t)) (sym long)
      ∙ ap (λ (u : Tables). in_front longer (each step (chosen p f (drop (k + 1) xs)) u)) (sym after)
