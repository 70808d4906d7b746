-- For which histories a reader of a file stands, and what its answers say of the bytes fed.
use Rattle.std.proofs.Common.{◌≡◌, ℕ, ◌+◌, false, List, [], ◌∷◌, ◌++◌, length, Option, Some, None, Ok, Err, refl, ap, sym, subst, ◌∙◌, arith, append_assoc, length-append}
use Rattle.std.proofs.lemmas.List.{append-nil}
use Rattle.cd_block.specs.declared.block.Block.{Block}
use Rattle.cd_block.specs.declared.params.Params.{Params}
use Rattle.cd_file.specs.declared.stage.Stage.TheVariants as stage
use Rattle.cd_file.specs.declared.refusal.BadFile.{BadFile}
use Rattle.cd_file.specs.declared.refusal.FileWhy.{FileWhy}
use Rattle.cd_file.specs.declared.refusal.FileFault.TheVariants as fault
use Rattle.cd_file.specs.declared.file_reader.Next.TheVariants as next
use Rattle.cd_file.specs.ReadFile.{FileEnd, Whole, Open, Refused, FileRead, after_blocks, read_file, number_after, refusal_in}
use Rattle.cd_file.specs.FileReading.{Kept, Due, reading_on, GoesOn, IsRefused, Stands, StandsFor, Nexts, Tells}
use Rattle.cd_file.specs.Steps.{Moves, ended_here}
use Rattle.cd_file.proofs.PartsPassed.{stage_grows}

-- blocks before others, before what is read
after_both : (xs ys : List Block) (f : FileRead) → after_blocks xs (after_blocks ys f) ≡ after_blocks (xs ++ ys) f
after_both xs ys f = ap (λ bs. record { params = f.params; blocks = bs; end = f.end }) (sym (append_assoc xs ys f.blocks))

-- a reader that was fed nothing
pub stands_new : (due : Due) (params : Option (List Params)) → due.stage ≡ stage.Outer →
    StandsFor (record { fed_count = 0; held = []; at = 0; due = due; given_count = 0; params = params; refused = None; ended = None; is_spent = false }) [] []
stands_new due params first = record {
  unspent = refl;
  count = refl;
  blocks = refl;
  stands = record { place = refl; reads = λ more. rw first refl };
  told = λ bad h. absurd cc;
}

module _ (old : Kept) (fed : List ℕ) (given : List Block) (h : StandsFor old fed given) where
  -- a reader that goes on
  pub unrefused : old.refused ≡ None → GoesOn old fed given
  unrefused none = subst (λ o. Stands o old fed given) none h.stands

  -- one that stands at a refusal
  pub at_refusal : (bad : BadFile) → old.refused ≡ Some bad → IsRefused bad old fed given
  at_refusal bad some = subst (λ o. Stands o old fed given) some h.stands

  -- a piece is held
  pub stands_held : (piece : List ℕ) → old.refused ≡ None →
      StandsFor (record old { fed_count = old.fed_count + length piece; held = old.held ++ piece; ended = None }) (fed ++ piece) given
  stands_held piece none =
      let on = unrefused none in
      record {
        unspent = h.unspent;
        count = length-append fed piece ∙ ap (λ n. n + length piece) h.count;
        blocks = h.blocks;
        stands = rw none (record {
          place = omega (arith, on.place, length-append old.held piece, length-append fed piece);
          reads = λ more.
              ap read_file (append_assoc fed piece more) ∙ on.reads (piece ++ more)
              ∙ ap (λ bytes. after_blocks given (reading_on old.due old.at bytes)) (sym (append_assoc old.held piece more));
        });
        told = λ bad e. absurd cc;
      }

  -- a piece after a refusal
  pub stands_after : (piece : List ℕ) (bad : BadFile) → old.refused ≡ Some bad →
      StandsFor (record old { fed_count = old.fed_count + length piece; ended = None }) (fed ++ piece) given
  stands_after piece bad some =
      let stopped = at_refusal bad some in
      record {
        unspent = h.unspent;
        count = length-append fed piece ∙ ap (λ n. n + length piece) h.count;
        blocks = h.blocks;
        stands = rw some (record {
          params = λ more. ap (λ bytes. (read_file bytes).params) (append_assoc fed piece more) ∙ stopped.params (piece ++ more);
          blocks = λ more. ap (λ bytes. (read_file bytes).blocks) (append_assoc fed piece more) ∙ stopped.blocks (piece ++ more);
          refusal = λ more. ap (λ bytes. refusal_in (read_file bytes)) (append_assoc fed piece more) ∙ stopped.refusal (piece ++ more);
        });
        told = λ other e. absurd cc;
      }

  -- a part is read
  pub stands_moved : (new : Kept) (blocks : List Block) → old.refused ≡ None → Moves old new blocks → StandsFor new fed (given ++ blocks)
  stands_moved new blocks none m =
      let on = unrefused none in
      let none_still : new.refused ≡ None = m.refused ∙ none in
      record {
        unspent = m.spent ∙ h.unspent;
        count = h.count ∙ sym m.fed;
        blocks = length-append given blocks ∙ ap (λ n. n + length blocks) h.blocks ∙ sym m.given;
        stands = rw none_still (record {
          place = m.place ∙ on.place;
          reads = λ more.
              on.reads more ∙ ap (after_blocks given) (m.reads more)
              ∙ after_both given blocks (reading_on new.due new.at (new.held ++ more));
        });
        told = λ bad e. h.told bad (sym m.ended ∙ e);
      }

  -- what the bytes fed are from here on
  pub read_now : old.refused ≡ None → read_file fed ≡ after_blocks given (reading_on old.due old.at old.held)
  read_now none =
      let on = unrefused none in
      ap read_file (sym (append-nil fed)) ∙ on.reads [] ∙ ap (λ bytes. after_blocks given (reading_on old.due old.at bytes)) (append-nil old.held)

  -- the file ends so
  pub read_ended : (e : FileEnd) → old.refused ≡ None → reading_on old.due old.at old.held ≡ ended_here old e → read_file fed ≡ record { params = old.params; blocks = given; end = e }
  read_ended e none here =
      read_now none ∙ ap (after_blocks given) here ∙ ap (λ bs. record { params = old.params; blocks = bs; end = e }) (append-nil given)

  -- the bytes end here
  pub tells_more : old.refused ≡ None → reading_on old.due old.at old.held ≡ ended_here old Open → Nexts old fed given (Ok next.More) × Tells old fed (Ok next.More)
  tells_more none here =
      let all = read_ended Open none here in
      ((h, ap (λ f. f.blocks) all, ap (λ f. f.end) all), sym (ap (λ f. f.params) all))

  -- the file is whole
  pub tells_end : old.refused ≡ None → reading_on old.due old.at old.held ≡ ended_here old Whole → Nexts old fed given (Ok next.End) × Tells old fed (Ok next.End)
  tells_end none here =
      let all = read_ended Whole none here in
      ((h, ap (λ f. f.blocks) all, ap (λ f. f.end) all), sym (ap (λ f. f.params) all))

  -- a block
  pub tells_block : (new : Kept) (block : Block) → old.refused ≡ None → Moves old new (block ∷ []) → Nexts new fed given (Ok (next.Block block)) × Tells new fed (Ok (next.Block block))
  tells_block new block none m =
      let stands = stands_moved new (block ∷ []) none m in
      let rest : FileRead = reading_on new.due new.at (new.held ++ []) in
      let all : read_file fed ≡ after_blocks (given ++ block ∷ []) rest =
      ap read_file (sym (append-nil fed)) ∙ (unrefused none).reads [] ∙ ap (after_blocks given) (m.reads []) ∙ after_both given (block ∷ []) rest in (
        (stands, rest.blocks, ap (λ f. f.blocks) all ∙ append_assoc given (block ∷ []) rest.blocks),
        m.told ∙ sym (m.known new.at (new.held ++ [])) ∙ sym (ap (λ f. f.params) all),
      )

  -- a refusal stands
  pub tells_again : (bad : BadFile) → old.refused ≡ Some bad → Nexts old fed given (Err (fault.Bad bad)) × Tells old fed (Err (fault.Bad bad))
  tells_again bad some =
      let stopped = at_refusal bad some in
      let whole = append-nil fed in (
        (h, ap (λ bytes. (read_file bytes).blocks) (sym whole) ∙ stopped.blocks [], ap (λ bytes. refusal_in (read_file bytes)) (sym whole) ∙ stopped.refusal []),
        sym (ap (λ bytes. (read_file bytes).params) (sym whole) ∙ stopped.params []),
      )

  -- a refusal comes
  refused_on : (why : FileWhy) → old.refused ≡ None → reading_on old.due old.at old.held ≡ ended_here old (Refused why) → (more : List ℕ) →
      read_file (fed ++ more) ≡ record { params = old.params; blocks = given; end = Refused why }
  refused_on why none here more =
      let on = unrefused none in
      let grows = stage_grows old.due.stage old.due.is_open old.due.title old.due.entries old.at old.held more in
      on.reads more ∙ ap (after_blocks given) (grows.refused why (ap (λ f. f.end) here) ∙ here)
      ∙ ap (λ bs. record { params = old.params; blocks = bs; end = Refused why }) (append-nil given)

  pub stands_refused : (why : FileWhy) → old.refused ≡ None → reading_on old.due old.at old.held ≡ ended_here old (Refused why) →
      StandsFor (record old { refused = Some (record { block = number_after old.params old.given_count; why = why }) }) fed given
  stands_refused why none here = record {
    unspent = h.unspent;
    count = h.count;
    blocks = h.blocks;
    stands = record {
      params = λ more. ap (λ f. f.params) (refused_on why none here more);
      blocks = λ more. ap (λ f. f.blocks) (refused_on why none here more);
      refusal = λ more. ap refusal_in (refused_on why none here more) ∙ ap (λ n. Some (record { block = number_after old.params n; why = why })) h.blocks;
    };
    told = h.told;
  }
