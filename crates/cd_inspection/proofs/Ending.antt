-- An inspection that stands at a refusal, and one whose bytes end.
use Rattle.std.proofs.Common.{◌≡◌, ℕ, Bool, true, false, List, ◌++◌, length, Option, Some, None, is_some, refl, ap, sym, ◌∙◌}
use Rattle.std.proofs.lemmas.Bool.{false≢true}
use Rattle.cd_block.specs.declared.params.Params.{Params}
use Rattle.cd_file.specs.FileGrowth.{FilesGrow}
use Rattle.cd_file.specs.KeptFile.{KeptBlocks, kept_blocks, kept_file, kept_refusal_in, told_kept_refusal}
use Rattle.cd_file.specs.ReadFile.{FileEnd, read_file, number_after, refusal_at, told}
use Rattle.cd_file.specs.declared.refusal.BadFile.{BadFile}
use Rattle.cd_file.specs.declared.refusal.FileWhy.TheVariants.{Cbor}
use Rattle.cd_inspection.specs.Growing.{refused_stays}
use Rattle.cd_inspection.specs.Inspecting.{Rendering, inspected_in}
use Rattle.cd_inspection.specs.Resolved.{kept_of_all}
use Rattle.cd_inspection.specs.Standing.{InspectionSeen, InspectionStands, GoesOn, end_of, next_number, told_refusal}

-- what is there
pub some_of : {A : Type 0} (o : Option A) → is_some o ≡ true → (x : A) × (o ≡ Some x)
some_of None is = absurd (false≢true is)
some_of (Some x) is = (x, refl)

-- the number of what stands after blocks, by whether there is a head
number_by_head : (p : Option (List Params)) (count : ℕ) → next_number (is_some p) count ≡ number_after p count
number_by_head None count = refl
number_by_head (Some entries) count = refl

-- what is told of an end
told_by : (is_whole : Bool) (p : Option (List Params)) (count fed_count : ℕ) →
    told_refusal is_whole (is_some p) count fed_count ≡ refusal_at (number_after p count) (told fed_count (end_of is_whole))
told_by true p count fed_count = refl
told_by false p count fed_count = ap (λ n. Some (record { block = n; why = Cbor fed_count })) (number_by_head p count)

module _ {C : Type 0} (r : Rendering C) (m : InspectionSeen C) (fed cleared : List ℕ) (h : InspectionStands r m fed cleared) where
  -- no byte comes after those fed
  pub told_at_end : kept_refusal_in (kept_file fed) ≡ None →
      told_refusal m.is_whole (is_some m.reader.params) m.block_count m.reader.fed_count ≡ told_kept_refusal fed
  unfolding kept_file
  told_at_end none =
      let g : GoesOn m fed = h.taken.goes_on (h.taken.refusal ∙ none) in
      let e : FileEnd = end_of m.is_whole in
      let kept : kept_blocks (read_file fed).blocks (read_file fed).end ≡ (g.kept, e) =
      ap (λ bs. kept_blocks bs (read_file fed).end) g.blocks ∙ ap (λ f. kept_blocks g.given f) g.end ∙ kept_of_all g.given g.kept e g.resolved in
      let count : m.block_count ≡ length g.kept = h.taken.number ∙ ap (λ (k : KeptBlocks). length k.0) kept in
      let p : Option (List Params) = (read_file fed).params in
      ap (λ q. told_refusal m.is_whole (is_some q) m.block_count m.reader.fed_count) g.params
      ∙ ap (λ n. told_refusal m.is_whole (is_some p) n m.reader.fed_count) count
      ∙ ap (λ n. told_refusal m.is_whole (is_some p) (length g.kept) n) (sym g.reads.count)
      ∙ told_by m.is_whole p (length g.kept) (length fed)
      ∙ ap (λ (k : KeptBlocks). refusal_at (number_after p (length k.0)) (told (length fed) k.1)) (sym kept)

  module _ (chunk : List ℕ) (grow : FilesGrow) (bad : BadFile) (is : m.refused ≡ Some bad) where
    same_file : kept_file (fed ++ chunk) ≡ kept_file fed
    same_file = refused_stays grow fed chunk bad (sym h.taken.refusal ∙ is)

    not_none : ◌≡◌ {A = Option BadFile} (Some bad) None → ⊥
    not_none e = cc

    -- what is refused stays refused
    pub refused_again : m.refused ≡ kept_refusal_in (kept_file (fed ++ chunk))
    refused_again = h.taken.refusal ∙ ap kept_refusal_in (sym same_file)

    pub stands_refused : InspectionStands r m (fed ++ chunk) cleared
    stands_refused = record {
      fresh = h.fresh;
      taken = record {
        refusal = refused_again;
        number = h.taken.number ∙ ap (λ f. length f.blocks) (sym same_file);
        inspected = h.taken.inspected ∙ ap (inspected_in r) (sym same_file);
        goes_on = λ none. absurd (not_none (sym is ∙ none));
      };
    }
