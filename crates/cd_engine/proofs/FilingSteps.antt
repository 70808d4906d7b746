-- What a record more, a clearing and the end do to a filing that stands for records.
use Rattle.std.proofs.Common.{◌≡◌, ℕ, ◌+◌, ◌-◌, ◌^◌, min, Bool, true, false, cond, List, [], ◌∷◌, ◌++◌, length, map, refl, ap, sym, ◌∙◌, subst, inl, inr, arith, append_assoc, length-append}
use Rattle.std.specs.List.{concat, count_by, sum_by}
use Rattle.std.proofs.lemmas.Bool.{cases_Bool, and_from, and_parts, le-leb, leb-true, false_from_ne_true}
use Rattle.std.proofs.lemmas.List.{append-nil, map-append, map_push, length_push}
use Rattle.std.proofs.lemmas.List.Folds.{concat-append}
use Rattle.std.proofs.lemmas.List.Sums.{fold_push, sum_by_push}
use Rattle.cd_block.specs.declared.block.Block.{Block}
use Rattle.cd_block.specs.declared.params.Params.{Params}
use Rattle.cd_file.specs.Files.{file_head, block_spelling, file_begun, file_end, file_of}
use Rattle.cd_file.proofs.Begun.{file_begun_more, file_ended}
use Rattle.cd_hints.specs.Lists.{dropped}
use Rattle.cd_hints.specs.Records.{RecordParts, is_item}
use Rattle.cd_hints.specs.declared.settings.Settings.{Settings}
use Rattle.cd_record.specs.Cutting.{as_runs}
use Rattle.cd_record.specs.Runs.{Limits, limits_of, IsAdmissible}
use Rattle.cd_engine.specs.Behaving.{CutRecords, is_admissible, cut_more, cut_of, runs_of}
use Rattle.cd_engine.specs.Compactions.{block_of, blocks_of}
use Rattle.cd_engine.specs.Counting.{is_pair, held_in_64, record_counts, held_record_counts}
use Rattle.cd_engine.specs.Filing.{Filed, FilingStands, nothing_filed, one_if, counts_with, filed_more, ending_of, blocks_at_end}
use Rattle.cd_engine.specs.declared.counts.RecordCounts.{RecordCounts}

-- the test is true of records that may stand in one block
pub admits : (limits : Limits) (run : List RecordParts) → IsAdmissible limits run → is_admissible limits run ≡ true
unfolding is_admissible
admits limits run a =
    and_from _ _ (le-leb _ _ a.few_items) (and_from _ _ (le-leb _ _ a.few_malformed) (le-leb _ _ a.light))

-- and false of others
pub refuses : (limits : Limits) (run : List RecordParts) → ¬ (IsAdmissible limits run) →
    is_admissible limits run ≡ false
unfolding is_admissible
refuses limits run fails = false_from_ne_true _ (λ e.
    let first = and_parts _ _ e in
    let others = and_parts _ _ first.1 in
    fails (record {
      few_items = leb-true _ _ first.0;
      few_malformed = leb-true _ _ others.0;
      light = leb-true _ _ others.1;
    }))

-- a record more is cut after the others
pub cut_push : (limits : Limits) (rs : List RecordParts) (r : RecordParts) →
    cut_of limits (rs ++ r ∷ []) ≡ cut_more limits (cut_of limits rs) r
unfolding cut_of
cut_push limits rs r =
    let nothing : CutRecords = record { closed = []; present = [] } in fold_push (cut_more limits) nothing rs r

-- the record joins the present run, or closes it
abbrev pub cut_joined : CutRecords → RecordParts → CutRecords
cut_joined c r = record { closed = c.closed; present = c.present ++ r ∷ [] }

abbrev pub cut_closed : CutRecords → RecordParts → CutRecords
cut_closed c r = record { closed = c.closed ++ c.present ∷ []; present = r ∷ [] }

pub cut_joins : (limits : Limits) (rs : List RecordParts) (r : RecordParts) →
    is_admissible limits ((cut_of limits rs).present ++ r ∷ []) ≡ true →
    cut_of limits (rs ++ r ∷ []) ≡ cut_joined (cut_of limits rs) r
cut_joins limits rs r e = cut_push limits rs r
    ∙ ap (λ (b : Bool). cond b (cut_joined (cut_of limits rs) r) (cut_closed (cut_of limits rs) r)) e

pub cut_closes : (limits : Limits) (rs : List RecordParts) (r : RecordParts) →
    is_admissible limits ((cut_of limits rs).present ++ r ∷ []) ≡ false →
    cut_of limits (rs ++ r ∷ []) ≡ cut_closed (cut_of limits rs) r
cut_closes limits rs r e = cut_push limits rs r
    ∙ ap (λ (b : Bool). cond b (cut_joined (cut_of limits rs) r) (cut_closed (cut_of limits rs) r)) e

-- a count that is held below a bound goes on from where it is
saturates : (a b m : ℕ) → min (min a m + b) m ≡ min (a + b) m
saturates a b m = omega arith

count_more : (a b c : ℕ) → c ≡ a + b → held_in_64 (held_in_64 a + b) ≡ held_in_64 c
count_more a b c e = saturates a b (2 ^ 64 - 1) ∙ ap held_in_64 (sym e)

-- the counts with one record more
counts_more : (types : List ℕ) (rs : List RecordParts) (r : RecordParts) →
    counts_with types (held_record_counts (record_counts types rs)) r
    ≡ held_record_counts (record_counts types (rs ++ r ∷ []))
counts_more types rs r =
    let items = count_more (count_by is_item rs) (one_if (is_item r)) (count_by is_item (rs ++ r ∷ [])) (sum_by_push (λ (x : RecordParts). cond (is_item x) 1 0) rs r) in
    let pairs = count_more (count_by is_pair rs) (one_if (is_pair r)) (count_by is_pair (rs ++ r ∷ [])) (sum_by_push (λ (x : RecordParts). cond (is_pair x) 1 0) rs r) in
    let unlisted = count_more (sum_by (dropped types) rs) (dropped types r) (sum_by (dropped types) (rs ++ r ∷ [])) (sum_by_push (dropped types) rs r) in
    λ k. record { items = items k; pairs = pairs k; dropped = unlisted k }

-- what is filed where the record joins the present run, and where it closes it
abbrev pub filed_joined : Filed → RecordParts → Filed
filed_joined f r = record f {
  counts = counts_with f.settings.params.rr_types f.counts r;
  present = f.present ++ r ∷ [];
}

abbrev pub filed_closed : Filed → RecordParts → Filed
filed_closed f r = record f {
  counts = counts_with f.settings.params.rr_types f.counts r;
  output = f.output ++ block_spelling (block_of f.settings.params f.present);
  blocks = held_in_64 (f.blocks + 1);
  present = r ∷ [];
}

pub more_joins : (f : Filed) (r : RecordParts) → is_admissible (limits_of f.settings) (f.present ++ r ∷ []) ≡ true →
    filed_more f r ≡ filed_joined f r
more_joins f r e = ap (λ (b : Bool). cond b (filed_joined f r) (filed_closed f r)) e

pub more_closes : (f : Filed) (r : RecordParts) → is_admissible (limits_of f.settings) (f.present ++ r ∷ []) ≡ false →
    filed_more f r ≡ filed_closed f r
more_closes f r e = ap (λ (b : Bool). cond b (filed_joined f r) (filed_closed f r)) e

-- the settings stay
pub more_settings : (f : Filed) (r : RecordParts) → (filed_more f r).settings ≡ f.settings
more_settings f r = elim (cases_Bool (is_admissible (limits_of f.settings) (f.present ++ r ∷ []))) [
  | inl e ↦ ap (λ (g : Filed). g.settings) (more_joins f r e)
  | inr e ↦ ap (λ (g : Filed). g.settings) (more_closes f r e)
]

joined_stands : (f : Filed) (rs : List RecordParts) (cleared : List ℕ) (r : RecordParts) → FilingStands f rs cleared →
    is_admissible (limits_of f.settings) (f.present ++ r ∷ []) ≡ true →
    FilingStands (filed_joined f r) (rs ++ r ∷ []) cleared
joined_stands f rs cleared r S e =
    let limits : Limits = limits_of f.settings in
    let p : Params = f.settings.params in
    let j = cut_joins limits rs r (sym (ap (λ (run : List RecordParts). is_admissible limits (run ++ r ∷ [])) S.present) ∙ e) in
    record {
      present = ap (λ (run : List RecordParts). run ++ r ∷ []) S.present ∙ sym (ap (λ (c : CutRecords). c.present) j);
      output = S.output ∙ sym (ap (λ (c : CutRecords). file_begun p (blocks_of p c.closed)) j);
      blocks = S.blocks ∙ sym (ap (λ (c : CutRecords). held_in_64 (length c.closed)) j);
      counts = ap (λ (c : RecordCounts). counts_with p.rr_types c r) S.counts ∙ counts_more p.rr_types rs r;
    }

closed_stands : (f : Filed) (rs : List RecordParts) (cleared : List ℕ) (r : RecordParts) → FilingStands f rs cleared →
    is_admissible (limits_of f.settings) (f.present ++ r ∷ []) ≡ false →
    FilingStands (filed_closed f r) (rs ++ r ∷ []) cleared
closed_stands f rs cleared r S e =
    let limits : Limits = limits_of f.settings in
    let p : Params = f.settings.params in
    let c : CutRecords = cut_of limits rs in
    let j = cut_closes limits rs r (sym (ap (λ (run : List RecordParts). is_admissible limits (run ++ r ∷ [])) S.present) ∙ e) in
    let tail : List ℕ = block_spelling (block_of p c.present) in
    let grown : file_begun p (blocks_of p (c.closed ++ c.present ∷ [])) ≡ file_begun p (blocks_of p c.closed) ++ tail =
    ap (file_begun p) (map_push (block_of p) c.closed c.present) ∙ file_begun_more p (blocks_of p c.closed) (block_of p c.present) in
    record {
      present = sym (ap (λ (x : CutRecords). x.present) j);
      output = ap (λ (run : List RecordParts). cleared ++ (f.output ++ block_spelling (block_of p run))) S.present
          ∙ sym (append_assoc cleared f.output tail) ∙ ap (λ (xs : List ℕ). xs ++ tail) S.output ∙ sym grown
          ∙ sym (ap (λ (x : CutRecords). file_begun p (blocks_of p x.closed)) j);
      blocks = ap (λ (n : ℕ). held_in_64 (n + 1)) S.blocks
          ∙ count_more (length c.closed) 1 (length (c.closed ++ c.present ∷ [])) (length_push c.closed c.present)
          ∙ sym (ap (λ (x : CutRecords). held_in_64 (length x.closed)) j);
      counts = ap (λ (x : RecordCounts). counts_with p.rr_types x r) S.counts ∙ counts_more p.rr_types rs r;
    }

-- no record yet
pub nothing_stands : (s : Settings) → FilingStands (nothing_filed s) [] []
unfolding cut_of
nothing_stands s = record { present = refl; output = refl; blocks = refl; counts = refl }

-- one record more
pub more_stands : (f : Filed) (rs : List RecordParts) (cleared : List ℕ) (r : RecordParts) → FilingStands f rs cleared →
    FilingStands (filed_more f r) (rs ++ r ∷ []) cleared
more_stands f rs cleared r S = elim (cases_Bool (is_admissible (limits_of f.settings) (f.present ++ r ∷ []))) [
  | inl e ↦ subst (λ (g : Filed). FilingStands g (rs ++ r ∷ []) cleared) (sym (more_joins f r e)) (joined_stands f rs cleared r S e)
  | inr e ↦ subst (λ (g : Filed). FilingStands g (rs ++ r ∷ []) cleared) (sym (more_closes f r e)) (closed_stands f rs cleared r S e)
]

-- the output is cleared
pub cleared_stands : (f : Filed) (rs : List RecordParts) (cleared : List ℕ) → FilingStands f rs cleared →
    FilingStands (record f { output = [] }) rs (cleared ++ f.output)
cleared_stands f rs cleared S = record {
  present = S.present;
  output = append-nil (cleared ++ f.output) ∙ S.output;
  blocks = S.blocks;
  counts = S.counts;
}

-- a file with more blocks
begun_with : (p : Params) (xs ys : List Block) →
    file_begun p (xs ++ ys) ≡ file_begun p xs ++ concat (map block_spelling ys)
unfolding file_begun
begun_with p xs ys =
    ap (λ (pieces : List (List ℕ)). file_head p ++ concat pieces) (map-append block_spelling xs ys)
    ∙ ap (λ (t : List ℕ). file_head p ++ t) (concat-append (map block_spelling xs) (map block_spelling ys))
    ∙ sym (append_assoc (file_head p) (concat (map block_spelling xs)) (concat (map block_spelling ys)))

-- the file of what is filed, once it is ended
pub ended_is : (f : Filed) (rs : List RecordParts) (cleared : List ℕ) → FilingStands f rs cleared →
    cleared ++ (f.output ++ ending_of f)
    ≡ file_of f.settings.params (blocks_of f.settings.params (runs_of (limits_of f.settings) rs))
ended_is f rs cleared S =
    let p : Params = f.settings.params in
    let c : CutRecords = cut_of (limits_of f.settings) rs in
    let last : List Block = blocks_of p (as_runs c.present) in
    let all : blocks_of p (c.closed ++ as_runs c.present) ≡ blocks_of p c.closed ++ last = map-append (block_of p) c.closed (as_runs c.present) in
    ap (λ (run : List RecordParts). cleared ++ (f.output ++ (concat (map block_spelling (blocks_of p (as_runs run))) ++ file_end))) S.present
    ∙ sym (append_assoc cleared f.output (concat (map block_spelling last) ++ file_end))
    ∙ ap (λ (xs : List ℕ). xs ++ (concat (map block_spelling last) ++ file_end)) S.output
    ∙ sym (append_assoc (file_begun p (blocks_of p c.closed)) (concat (map block_spelling last)) file_end)
    ∙ ap (λ (xs : List ℕ). xs ++ file_end) (sym (begun_with p (blocks_of p c.closed) last))
    ∙ ap (λ (bs : List Block). file_begun p bs ++ file_end) (sym all)
    ∙ sym (file_ended p (blocks_of p (c.closed ++ as_runs c.present)))

-- its blocks
pub ended_blocks : (f : Filed) (rs : List RecordParts) (cleared : List ℕ) → FilingStands f rs cleared →
    blocks_at_end f ≡ held_in_64 (length (runs_of (limits_of f.settings) rs))
ended_blocks f rs cleared S =
    let c : CutRecords = cut_of (limits_of f.settings) rs in
    ap (λ (n : ℕ). held_in_64 (n + length (as_runs f.present))) S.blocks
    ∙ ap (λ (run : List RecordParts). held_in_64 (held_in_64 (length c.closed) + length (as_runs run))) S.present
    ∙ count_more (length c.closed) (length (as_runs c.present)) (length (c.closed ++ as_runs c.present)) (length-append c.closed (as_runs c.present))
