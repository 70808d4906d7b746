-- What a reader of a file finds ahead, and what the end of the bytes says of the file.
use Rattle.std.proofs.Common.{◌≡◌, ℕ, ◌+◌, List, [], ◌++◌, length, drop, Option, Some, None, Ok, Err, refl, ap, sym, subst, ◌∙◌, arith, length-append}
use Rattle.std.proofs.lemmas.List.{append-nil}
use Rattle.cd_block.specs.declared.block.Block.{Block}
use Rattle.cd_file.specs.declared.refusal.BadFile.{BadFile}
use Rattle.cd_file.specs.declared.refusal.FileWhy.{FileWhy}
use Rattle.cd_file.specs.declared.fronts.ending.Ending.{Ending}
use Rattle.cd_file.specs.declared.fronts.ending.Unread.TheVariants as unread
use Rattle.cd_file.specs.declared.progress.Found.{Found}
use Rattle.cd_file.specs.ReadFile.{FileEnd, Whole, Open, Refused, FileRead, after_blocks, read_file, number_after, refusal_at, refusal_in, told, told_refusal}
use Rattle.cd_file.specs.FileReading.{Kept, reading_on, Stands, StandsFor}
use Rattle.cd_file.specs.Fronts.{ending_of}
use Rattle.cd_file.specs.Passing.{Progressed, due_of, told_at, blocks_in, entries_after, Advances, Passes}
use Rattle.cd_file.specs.Steps.{rest_of, IsAhead}
use Rattle.cd_file.proofs.StepsTaken.{told_known, rest_is}
use Rattle.cd_file.proofs.FileHistories.{at_refusal, read_now}

module _ (total : FileRead) (given : ℕ) (p : Progressed) (entry_count at : ℕ) (held : List ℕ) (count : ℕ) (a : IsAhead total given p entry_count at held count) where
  -- a part is passed
  pub ahead_more : (q : Progressed) (x : Found × ℕ) (others after : ℕ) → Advances (due_of p a.entries) (due_of q (entries_after x.0 a.entries)) at x.1 held (blocks_in x.0) →
      length (entries_after x.0 a.entries) ≡ others → after ≡ count + length (blocks_in x.0) → IsAhead total given q others (at + x.1) (drop x.1 held) after
  ahead_more q x others after adv few more =
      let now : FileRead = reading_on (due_of p a.entries) at held in
      let later : FileRead = reading_on (due_of q (entries_after x.0 a.entries)) (at + x.1) (drop x.1 held) in
      let same : now ≡ after_blocks (blocks_in x.0) later =
      ap (reading_on (due_of p a.entries) at) (sym (append-nil held)) ∙ adv.reads []
      ∙ ap (λ bytes. after_blocks (blocks_in x.0) (reading_on (due_of q (entries_after x.0 a.entries)) (at + x.1) bytes)) (append-nil (drop x.1 held)) in
      let long : length now.blocks ≡ length (blocks_in x.0 ++ later.blocks) = ap (λ f. length f.blocks) same in
      record {
        entries = entries_after x.0 a.entries;
        few = few;
        end = a.end ∙ ap (λ f. f.end) same;
        params = a.params ∙ ap (λ f. f.params) same;
        blocks = omega (arith, a.blocks, long, length-append (blocks_in x.0) later.blocks, more);
      }

  -- the end of all
  pub ahead_last : (q : Progressed) (e : Ending) (number : ℕ) → Passes p q a.entries at held (Err (unread.Ended e)) → number ≡ number_after (told_at p.stage a.entries) count →
      (total.end ≡ ending_of e) × (number ≡ number_after total.params (given + length total.blocks))
  ahead_last q e number h is =
      let params : total.params ≡ told_at p.stage a.entries = a.params ∙ ap (λ f. f.params) h.2 ∙ sym (told_known p.stage a.entries) in
      let long : length (reading_on (due_of p a.entries) at held).blocks ≡ 0 = ap (λ f. length f.blocks) h.2 in
      let all : given + length total.blocks ≡ count = omega (arith, a.blocks, long) in
      (a.end ∙ ap (λ f. f.end) h.2, is ∙ rw (params, all) refl)

-- a part that was found is passed
pub ahead_found : (total : FileRead) (given : ℕ) (p : Progressed) (known at count start : ℕ) (items : List ℕ) (a : IsAhead total given p known at (drop start items) count) (q : Progressed) (x : Found × ℕ) (f : Found)
    (held : List ℕ) (others after : ℕ) → x.0 ≡ f → held ≡ drop start items → length (entries_after f a.entries) ≡ others → after ≡ count + length (blocks_in f) →
    Passes p q a.entries at held (Ok x) → IsAhead total given q others (at + x.1) (drop (start + x.1) items) after
ahead_found total given p known at count start items a q x f held others after is there few more passes =
    let P : Found → List ℕ → Type 0 = λ g bytes. Advances (due_of p a.entries) (due_of q (entries_after g a.entries)) at x.1 bytes (blocks_in g) in
    let adv : P f (drop start items) = subst (P f) there (subst (λ g. P g held) is passes.0) in
    subst (λ bytes. IsAhead total given q others (at + x.1) bytes after) (rest_is x.1 start items)
    (ahead_more total given p known at (drop start items) count a q (f, x.1) others after adv few more)

-- a refusal of a file is one where no byte comes after
told_same : (number count : ℕ) (e : FileEnd) (bad : BadFile) → refusal_at number e ≡ Some bad → refusal_at number (told count e) ≡ Some bad
told_same number count Whole bad h = absurd cc
told_same number count Open bad h = absurd cc
told_same number count (Refused why) bad h = h

module _ (old : Kept) (fed : List ℕ) (given : List Block) (h : StandsFor old fed given) where
  -- what stands is not changed by what is told of the end
  stands_still : (o bad : Option BadFile) → Stands o old fed given → Stands o (record old { ended = bad }) fed given
  stands_still None bad on = record { place = on.place; reads = on.reads }
  stands_still (Some refusal) bad stopped = record { params = stopped.params; blocks = stopped.blocks; refusal = stopped.refusal }

  -- the end of all is told
  pub stands_ended : (bad : BadFile) → told_refusal fed ≡ Some bad → StandsFor (record old { ended = Some bad }) fed given
  stands_ended bad is = record {
    unspent = h.unspent;
    count = h.count;
    blocks = h.blocks;
    stands = stands_still old.refused (Some bad) h.stands;
    told = λ other e. is ∙ e;
  }

  -- the file is whole
  pub whole_ahead : old.refused ≡ None → (rest_of old).end ≡ Whole → (read_file fed).end ≡ Whole
  whole_ahead none whole = ap (λ f. f.end) (read_now old fed given h none) ∙ whole

  -- the end is a refusal
  pub end_ahead : (e : FileEnd) (number : ℕ) (why : FileWhy) → old.refused ≡ None → (rest_of old).end ≡ e → number ≡ number_after (rest_of old).params (old.given_count + length (rest_of old).blocks) →
      told old.fed_count e ≡ Refused why → told_refusal fed ≡ Some (record { block = number; why = why })
  end_ahead e number why none is number_is last =
      let all = read_now old fed given h none in
      let long : length (given ++ (rest_of old).blocks) ≡ old.given_count + length (rest_of old).blocks = length-append given (rest_of old).blocks ∙ ap (λ n. n + length (rest_of old).blocks) h.blocks in
      let ends : told (length fed) (rest_of old).end ≡ Refused why = rw (h.count, is) last in
      ap (λ f. refusal_at (number_after f.params (length f.blocks)) (told (length fed) f.end)) all
      ∙ ap (refusal_at (number_after (rest_of old).params (length (given ++ (rest_of old).blocks)))) ends
      ∙ ap (λ n. Some (record { block = n; why = why })) (ap (number_after (rest_of old).params) long ∙ sym number_is)

  -- a refusal that a call for a block gave
  pub refused_ahead : (bad : BadFile) → old.refused ≡ Some bad → told_refusal fed ≡ Some bad
  refused_ahead bad some =
      let stopped = at_refusal old fed given h bad some in
      told_same (number_after (read_file fed).params (length (read_file fed).blocks)) (length fed) (read_file fed).end bad
      (ap (λ bytes. refusal_in (read_file bytes)) (sym (append-nil fed)) ∙ stopped.refusal [])
