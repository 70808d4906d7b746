-- What a call for a block answers after the steps that it made.
use Rattle.std.proofs.Common.{◌≡◌, ℕ, ◌+◌, ◌-◌, ◌≤◌, length, drop, arith, List, [], ◌∷◌, Some, None, Ok, Err, refl, ap, sym, subst, ◌∙◌}
use Rattle.std.proofs.lemmas.List.{append-nil, length-drop}
use Rattle.cd_block.specs.declared.block.Block.{Block}
use Rattle.cd_file.specs.declared.refusal.BadFile.{BadFile}
use Rattle.cd_file.specs.declared.refusal.FileWhy.{FileWhy}
use Rattle.cd_file.specs.declared.refusal.FileFault.TheVariants as fault
use Rattle.cd_file.specs.declared.file_reader.Next.TheVariants as next
use Rattle.cd_file.specs.ReadFile.{Whole, Open, Refused, number_after}
use Rattle.cd_file.specs.FileReading.{Kept, reading_on, StandsFor, Nexts, Tells}
use Rattle.cd_file.specs.Steps.{Moves, ended_here}
use Rattle.cd_file.proofs.FileHistories.{stands_moved, tells_more, tells_end, tells_block, tells_again, stands_refused}

-- a part that is no block
pub stands_on : (now new : Kept) (fed : List ℕ) (given : List Block) → StandsFor now fed given → now.refused ≡ None → Moves now new [] → StandsFor new fed given
stands_on now new fed given h none m = subst (λ bs. StandsFor new fed bs) (append-nil given) (stands_moved now fed given h new [] none m)

module _ (now new : Kept) (fed : List ℕ) (given : List Block) (h : StandsFor now fed given) (none : now.refused ≡ None) where
  -- the bytes end here
  pub next_more : (new ≡ now) × (reading_on now.due now.at now.held ≡ ended_here now Open) → Nexts new fed given (Ok next.More) × Tells new fed (Ok next.More)
  next_more done = subst (λ r. Nexts r fed given (Ok next.More) × Tells r fed (Ok next.More)) (sym done.0) (tells_more now fed given h none done.1)

  -- the file is whole
  pub next_end : (new ≡ now) × (reading_on now.due now.at now.held ≡ ended_here now Whole) → Nexts new fed given (Ok next.End) × Tells new fed (Ok next.End)
  next_end done = subst (λ r. Nexts r fed given (Ok next.End) × Tells r fed (Ok next.End)) (sym done.0) (tells_end now fed given h none done.1)

  -- a block
  pub next_given : (block : Block) → Moves now new (block ∷ []) → Nexts new fed given (Ok (next.Block block)) × Tells new fed (Ok (next.Block block))
  next_given block m = tells_block now fed given h new block none m

  -- a refusal
  pub next_refused : (why : FileWhy) (bad : BadFile) (last : Kept) → (new ≡ now) × (reading_on now.due now.at now.held ≡ ended_here now (Refused why)) →
      bad ≡ record { block = number_after new.params new.given_count; why = why } → last ≡ record new { refused = Some bad } →
      Nexts last fed given (Err (fault.Bad bad)) × Tells last fed (Err (fault.Bad bad))
  next_refused why bad last done is kept =
      let bad_is : bad ≡ record { block = number_after now.params now.given_count; why = why } = is ∙ ap (λ (r : Kept). record { block = number_after r.params r.given_count; why = why }) done.0 in
      let last_is : last ≡ record now { refused = Some bad } = kept ∙ ap (λ (r : Kept). record r { refused = Some bad }) done.0 in
      let stands : StandsFor (record now { refused = Some bad }) fed given =
      subst (λ b. StandsFor (record now { refused = Some b }) fed given) (sym bad_is) (stands_refused now fed given h why none done.1) in
      subst (λ r. Nexts r fed given (Err (fault.Bad bad)) × Tells r fed (Err (fault.Bad bad))) (sym last_is) (tells_again (record now { refused = Some bad }) fed given stands bad refl)

-- the bytes held end within the bytes fed
pub reader_within : (start at fed_count : ℕ) (bytes : List ℕ) → start ≤ length bytes → at + (length bytes - start) ≤ fed_count →
    at + length (drop start bytes) ≤ fed_count
reader_within start at fed_count bytes within counted = omega (arith, length-drop start bytes, within, counted)
