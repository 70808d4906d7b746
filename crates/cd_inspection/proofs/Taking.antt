-- What stands after each answer of the reader, in the course of taking blocks.
use Rattle.std.proofs.Common.{◌≡◌, ℕ, ◌+◌, Bool, true, false, List, [], ◌∷◌, ◌++◌, length, Option, Some, None, Ok, Err, refl, ap, sym, ◌∙◌, append_assoc, length-append}
use Rattle.cd_block.specs.Resolving.{Unresolved, resolved}
use Rattle.cd_block.specs.declared.block.Block.{Block}
use Rattle.cd_block.specs.declared.kept.KeptBlock.{KeptBlock}
use Rattle.cd_block.specs.declared.params.Params.{Params}
use Rattle.cd_file.specs.FileGrowth.{Grows, FilesGrow}
use Rattle.cd_file.specs.FileReading.{Kept, told_params}
use Rattle.cd_file.specs.FileReading as reader
use Rattle.cd_file.specs.KeptFile.{KeptBlocks, kept_blocks, kept_file, why_unresolved}
use Rattle.cd_file.specs.ReadFile.{FileRead, Refused, read_file, number_after, refusal_at, refusal_in}
use Rattle.cd_file.specs.declared.refusal.BadFile.{BadFile}
use Rattle.cd_inspection.specs.Growing.{inspected_one, params_stay}
use Rattle.cd_inspection.specs.Inspecting.{Rendering, Inspected, params_at, with_block, inspected}
use Rattle.cd_inspection.specs.Resolved.{ResolveTo, resolve_more, resolved_count, kept_of_all, kept_before}
use Rattle.cd_inspection.specs.Standing.{InspectionSeen, end_of, so_far, Course, HasTaken, InspectionStands, with_kept, refused_next}

-- a list that has an element is not empty
some_blocks : (front rest : List Block) (block : Block) (all : List Block) → all ≡ front ++ block ∷ rest → all ≡ [] → ⊥
some_blocks [] rest block all is none = absurd (let e : ◌≡◌ {A = List Block} [] (block ∷ rest) = sym none ∙ is in cc)
some_blocks (x ∷ front) rest block all is none = absurd (let e : ◌≡◌ {A = List Block} [] (x ∷ front ++ block ∷ rest) = sym none ∙ is in cc)

-- an end that is no refusal refuses nothing
unrefusing : (b : Bool) (number : ℕ) → refusal_at number (end_of b) ≡ None
unrefusing true number = refl
unrefusing false number = refl

-- the number of what stands after blocks, of which there is one
number_of_next : (p : Option (List Params)) (count : ℕ) → (p ≡ None → ⊥) → number_after p count ≡ count + 1
number_of_next None count some = absurd (some refl)
number_of_next (Some entries) count some = refl

module _ {C : Type 0} (r : Rendering C) (m : InspectionSeen C) (fed cleared : List ℕ) where
  -- the reader told that all blocks were given, and that the file is whole or goes on
  pub course_ends : (c : Course r m fed cleared) (b : Bool) (now : Kept) → reader.StandsFor now fed c.given →
      now.refused ≡ None → (read_file fed).blocks ≡ c.given → (read_file fed).end ≡ end_of b → now.params ≡ (read_file fed).params →
      HasTaken r (record m { reader = now; is_whole = b }) fed cleared None
  unfolding kept_file
  course_ends c b now reads unrefused blocks end params =
      let kept : kept_blocks (read_file fed).blocks (read_file fed).end ≡ (c.kept, end_of b) =
      rw (blocks, end) (kept_of_all c.given c.kept (end_of b) c.resolved) in
      record {
        refusal = rw kept (sym (unrefusing b (number_after (read_file fed).params (length c.kept))));
        number = c.number ∙ ap (λ (k : KeptBlocks). length k.0) (sym kept);
        inspected = c.inspected ∙ ap (λ (k : KeptBlocks). inspected r (read_file fed).params k.0) (sym kept);
        goes_on = λ _. record {
          given = c.given;
          kept = c.kept;
          reads = reads;
          unrefused = unrefused;
          resolved = c.resolved;
          blocks = blocks;
          end = end;
          params = params;
        };
      }

  -- the reader told a refusal after all blocks
  pub course_refused : (c : Course r m fed cleared) (now : Kept) (bad : BadFile) → (read_file fed).blocks ≡ c.given →
      refusal_in (read_file fed) ≡ Some bad → HasTaken r (record m { reader = now }) fed cleared (Some bad)
  unfolding kept_file
  course_refused c now bad blocks refuses =
      let kept : kept_blocks (read_file fed).blocks (read_file fed).end ≡ (c.kept, (read_file fed).end) =
      rw blocks (kept_of_all c.given c.kept (read_file fed).end c.resolved) in
      let count : length (read_file fed).blocks ≡ length c.kept = ap length blocks ∙ resolved_count c.given c.kept c.resolved in
      record {
        refusal = sym (rw kept (rw (sym count) refuses));
        number = c.number ∙ ap (λ (k : KeptBlocks). length k.0) (sym kept);
        inspected = c.inspected ∙ ap (λ (k : KeptBlocks). inspected r (read_file fed).params k.0) (sym kept);
        goes_on = λ none. absurd (let e : ◌≡◌ {A = Option BadFile} (Some bad) None = none in cc);
      }

  module _ (c : Course r m fed cleared) (now : Kept) (block : Block) (rest : List Block) (blocks : (read_file fed).blocks ≡ c.given ++ block ∷ rest) where
    -- the next block does not resolve
    pub course_unresolved : (why : Unresolved) → resolved block ≡ Err why → Grows (read_file fed) (read_file (fed ++ [])) →
        HasTaken r (record m { reader = now }) fed cleared (Some (refused_next m why))
    unfolding kept_file
    course_unresolved why is g =
        let kept : kept_blocks (read_file fed).blocks (read_file fed).end ≡ (c.kept, Refused (why_unresolved why)) =
        rw blocks (kept_before c.given rest c.kept block why (read_file fed).end c.resolved is) in
        let some : (read_file fed).params ≡ None → ⊥ = λ none. some_blocks c.given rest block (read_file fed).blocks blocks (g.headless none) in
        record {
          refusal = rw kept (rw (number_of_next (read_file fed).params (length c.kept) some, c.number) refl);
          number = c.number ∙ ap (λ (k : KeptBlocks). length k.0) (sym kept);
          inspected = c.inspected ∙ ap (λ (k : KeptBlocks). inspected r (read_file fed).params k.0) (sym kept);
          goes_on = λ none. absurd (let e : ◌≡◌ {A = Option BadFile} (Some (refused_next m why)) None = none in cc);
        }

    -- what is told of a reader that is not spent
    told_of : (k : Kept) (n : ℕ) → k.is_spent ≡ false → k.params ≡ (read_file fed).params → told_params k n ≡ params_at (read_file fed).params n
    told_of k n unspent params = rw (unspent, params) refl

    -- what was cleared stands before what a block adds
    cleared_before : (k : KeptBlock) (p : Option Params) →
        ◌≡◌ {A = Inspected C} (record {
          bytes = cleared ++ (with_block r k (record { bytes = m.output; counts = m.counts }) p).bytes;
          counts = (with_block r k (record { bytes = m.output; counts = m.counts }) p).counts;
        }) (with_block r k (so_far m cleared) p)
    cleared_before k None = refl
    cleared_before k (Some p) = λ i. record {
      bytes = sym (append_assoc cleared m.output (r.bytes_of p k)) i;
      counts = r.counts_with p k m.counts;
    }

    -- the next block resolves
    pub course_more : (k : KeptBlock) → resolved block ≡ Ok k → reader.StandsFor now fed (c.given ++ block ∷ []) →
        now.refused ≡ None → now.params ≡ (read_file fed).params → Course r (with_kept r (record m { reader = now }) k) fed cleared
    course_more k is reads unrefused params = record {
      given = c.given ++ block ∷ [];
      kept = c.kept ++ k ∷ [];
      reads = reads;
      unrefused = unrefused;
      resolved = resolve_more c.given c.kept block k c.resolved is;
      number = rw (length-append c.kept (k ∷ []), c.number) refl;
      inspected = rw (told_of now k.params reads.unspent params)
          (cleared_before k (params_at (read_file fed).params k.params)
          ∙ ap (λ s. with_block r k s (params_at (read_file fed).params k.params)) c.inspected
          ∙ sym (inspected_one r (read_file fed).params c.kept k));
    }

-- what was inspected of a file is the same as its bytes go on
same_inspected : {C : Type 0} (r : Rendering C) (now later : FileRead) (given : List Block) (kept : List KeptBlock) → Grows now later → now.blocks ≡ given →
    ResolveTo given kept → inspected r now.params kept ≡ inspected r later.params kept
unfolding inspected
same_inspected r now later [] [] g blocks all = refl
same_inspected r now later [] (k ∷ kept) g blocks all = absurd (let e : ◌≡◌ {A = List KeptBlock} (k ∷ kept) [] = all in cc)
same_inspected r now later (b ∷ given) kept g blocks all =
    ap (λ p. inspected r p kept) (sym (params_stay now later g (λ none. absurd (let e : ◌≡◌ {A = List Block} [] (b ∷ given) = sym none ∙ blocks in cc))))

-- more bytes are fed to an inspection that goes on
pub course_begins : {C : Type 0} (r : Rendering C) (m : InspectionSeen C) (fed chunk cleared : List ℕ) (now : Kept) → FilesGrow →
    (t : HasTaken r m fed cleared None) → reader.StandsFor now (fed ++ chunk) (t.goes_on refl).given → now.refused ≡ None →
    Course r (record m { reader = now }) (fed ++ chunk) cleared
unfolding kept_file
course_begins r m fed chunk cleared now grow t reads unrefused =
    let g = t.goes_on refl in
    let kept : kept_blocks (read_file fed).blocks (read_file fed).end ≡ (g.kept, (read_file fed).end) =
    rw g.blocks (kept_of_all g.given g.kept (read_file fed).end g.resolved) in
    record {
      given = g.given;
      kept = g.kept;
      reads = reads;
      unrefused = unrefused;
      resolved = g.resolved;
      number = t.number ∙ ap (λ (k : KeptBlocks). length k.0) kept;
      inspected = t.inspected ∙ ap (λ (k : KeptBlocks). inspected r (read_file fed).params k.0) kept
          ∙ same_inspected r (read_file fed) (read_file (fed ++ chunk)) g.given g.kept (grow fed chunk) g.blocks g.resolved;
    }

-- an inspection stands where it took the blocks before the refusal that it keeps
pub stands_then : {C : Type 0} (r : Rendering C) (m : InspectionSeen C) (fed cleared : List ℕ) (refused : Option BadFile) → m.spent ≡ false →
    HasTaken r m fed cleared refused → InspectionStands r (record m { refused = refused }) fed cleared
stands_then r m fed cleared refused fresh t = record {
  fresh = fresh;
  taken = record {
    refusal = t.refusal;
    number = t.number;
    inspected = t.inspected;
    goes_on = λ none. let g = t.goes_on none in record {
      given = g.given;
      kept = g.kept;
      reads = g.reads;
      unrefused = g.unrefused;
      resolved = g.resolved;
      blocks = g.blocks;
      end = g.end;
      params = g.params;
    };
  };
}
