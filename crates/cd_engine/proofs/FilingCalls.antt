-- What the calls of a filing leave of it, over the parts that it keeps.
use Rattle.std.proofs.Common.{◌≡◌, ℕ, List, [], ◌∷◌, ◌++◌, ap, sym, ◌∙◌, subst}
use Rattle.cd_file.specs.Files.{file_head}
use Rattle.cd_file.proofs.Begun.{file_begun_none}
use Rattle.cd_hints.specs.Records.{RecordParts}
use Rattle.cd_hints.specs.declared.settings.Settings.{Settings}
use Rattle.cd_record.specs.Blocks.{RunParts}
use Rattle.cd_record.specs.Cutting.{Present, Joins, Cuts}
use Rattle.cd_record.specs.Runs.{Limits, limits_of, IsAdmissible}
use Rattle.cd_engine.specs.Counting.{no_record_counts}
use Rattle.cd_engine.specs.Filing.{Filed, nothing_filed, counts_with, with_block, filed_more}
use Rattle.cd_engine.specs.declared.counts.RecordCounts.{RecordCounts}
use Rattle.cd_engine.proofs.FilingSteps.{admits, refuses, more_joins, more_closes}

-- what is filed, of these parts
abbrev pub filed_of : Settings → List RecordParts → List ℕ → ℕ → RecordCounts → Filed
filed_of s present output blocks counts = record {
  settings = s;
  present = present;
  output = output;
  blocks = blocks;
  counts = counts;
}

-- the head was written
pub new_filed : (s : Settings) (present : List RecordParts) (output : List ℕ) → present ≡ [] → output ≡ [] ++ file_head s.params →
    filed_of s present output 0 no_record_counts ≡ nothing_filed s
new_filed s present output none head =
    ap (λ (run : List RecordParts). filed_of s run output 0 no_record_counts) none
    ∙ ap (λ (xs : List ℕ). filed_of s [] xs 0 no_record_counts) (head ∙ sym (file_begun_none s.params))

-- the record joined the present run
joined_filed : (s : Settings) (p new : Present) (output : List ℕ) (blocks : ℕ) (counts counted : RecordCounts) (r : RecordParts) →
    p.limits ≡ limits_of s → counted ≡ counts_with s.params.rr_types counts r → Joins p r new →
    filed_of s new.run output blocks counted ≡ filed_more (filed_of s p.run output blocks counts) r
joined_filed s p new output blocks counts counted r limits more J =
    let fits : IsAdmissible (limits_of s) (p.run ++ r ∷ []) = subst (λ (l : Limits). IsAdmissible l (p.run ++ r ∷ [])) limits J.admissible in
    ap (λ (x : Present). filed_of s x.run output blocks counted) J.present
    ∙ ap (λ (c : RecordCounts). filed_of s (p.run ++ r ∷ []) output blocks c) more
    ∙ sym (more_joins (filed_of s p.run output blocks counts) r (admits (limits_of s) (p.run ++ r ∷ []) fits))

-- the record closed the present run, whose block was put at the end of the output
cut_filed : (s : Settings) (p new : Present) (output : List ℕ) (blocks : ℕ) (counts counted : RecordCounts) (r : RecordParts) (given : RunParts) (after : Filed) →
    p.limits ≡ limits_of s → counted ≡ counts_with s.params.rr_types counts r → Cuts p r given new →
    after ≡ with_block (filed_of s new.run output blocks counted) given.records →
    after ≡ filed_more (filed_of s p.run output blocks counts) r
cut_filed s p new output blocks counts counted r given after limits more C e =
    let fails : ¬ (IsAdmissible (limits_of s) (p.run ++ r ∷ [])) = λ a. C.not_admissible (subst (λ (l : Limits). IsAdmissible l (p.run ++ r ∷ [])) (sym limits) a) in
    e ∙ ap (λ (x : RunParts). with_block (filed_of s new.run output blocks counted) x.records) C.given_run
    ∙ ap (λ (x : Present). with_block (filed_of s x.run output blocks counted) p.run) C.present
    ∙ ap (λ (c : RecordCounts). with_block (filed_of s (r ∷ []) output blocks c) p.run) more
    ∙ sym (more_closes (filed_of s p.run output blocks counts) r (refuses (limits_of s) (p.run ++ r ∷ []) fails))

-- the same of a filing that these parts show
pub joined_told : (seen : Filed) (s : Settings) (p new : Present) (output : List ℕ) (blocks : ℕ) (counts counted : RecordCounts) (r : RecordParts) →
    filed_of s p.run output blocks counts ≡ seen → p.limits ≡ limits_of s → counted ≡ counts_with s.params.rr_types counts r → Joins p r new →
    filed_of s new.run output blocks counted ≡ filed_more seen r
joined_told seen s p new output blocks counts counted r same limits more J =
    joined_filed s p new output blocks counts counted r limits more J ∙ ap (λ (f : Filed). filed_more f r) same

pub cut_told : (seen : Filed) (s : Settings) (p new : Present) (output : List ℕ) (blocks : ℕ) (counts counted : RecordCounts) (r : RecordParts) (given : RunParts) (after : Filed) →
    filed_of s p.run output blocks counts ≡ seen → p.limits ≡ limits_of s → counted ≡ counts_with s.params.rr_types counts r → Cuts p r given new →
    after ≡ with_block (filed_of s new.run output blocks counted) given.records → after ≡ filed_more seen r
cut_told seen s p new output blocks counts counted r given after same limits more C e =
    cut_filed s p new output blocks counts counted r given after limits more C e ∙ ap (λ (f : Filed). filed_more f r) same
