-- What a compaction makes of bytes is lawful: what is closed stays so, and what is refused stays so.
use Rattle.std.proofs.Common.{◌≡◌, ℕ, List, ◌++◌, map, ap, sym, ◌∙◌, subst, append_assoc}
use Rattle.std.specs.List.{concat}
use Rattle.std.proofs.lemmas.List.{map-append}
use Rattle.std.proofs.lemmas.List.Folds.{concat-append}
use Rattle.cd_block.specs.declared.block.Block.{Block}
use Rattle.cd_block.specs.declared.params.Params.{Params}
use Rattle.cd_drive.specs.Behaviors.{IsFront, IsLawful}
use Rattle.cd_file.proofs.Begun.{file_ended}
use Rattle.cd_file.specs.Files.{file_head, block_spelling, file_begun, file_end, file_of}
use Rattle.cd_hints.specs.Records.{RecordParts}
use Rattle.cd_hints.specs.declared.settings.Settings.{Settings}
use Rattle.cd_ident.specs.Events.{EventParts}
use Rattle.cd_record.specs.Runs.{Limits, limits_of}
use Rattle.cd_engine.specs.Behaving.{cut_of, runs_of, settled_records, file_of_events, closed_part_of_events, events_in, whole_file, closed_part, compacting}
use Rattle.cd_engine.specs.CapturesGo.{nothing_unrefused, refusal_stays, events_go_on}
use Rattle.cd_engine.specs.Compactions.{block_of, blocks_of}
use Rattle.cd_engine.specs.CutsGo.{closed_go_on, runs_go_on}
use Rattle.cd_engine.specs.Events.{rules_of}
use Rattle.cd_engine.specs.HeavyEvents.{AreHeavyParts, events_heavy}
use Rattle.cd_engine.specs.RecordsGo.{settled_go_on, settled_first}
use Rattle.cd_capture.specs.Formats.{capture}

-- a file that is begun with more blocks
begun_further : (params : Params) (blocks more : List Block) →
    file_begun params (blocks ++ more) ≡ file_begun params blocks ++ concat (map block_spelling more)
unfolding file_begun
begun_further params blocks more =
    ap (λ pieces. file_head params ++ concat pieces) (map-append block_spelling blocks more)
    ∙ ap (λ t. file_head params ++ t) (concat-append (map block_spelling blocks) (map block_spelling more))
    ∙ sym (append_assoc (file_head params) (concat (map block_spelling blocks)) (concat (map block_spelling more)))

-- the closed part of the events, as more events come
closed_events_grow : (s : Settings) (es more : List EventParts) → AreHeavyParts (es ++ more) →
    IsFront (closed_part_of_events s es) (closed_part_of_events s (es ++ more))
unfolding closed_part_of_events
closed_events_grow s es more heavy =
    let limits : Limits = limits_of s in
    let records = settled_go_on s es more heavy in
    let closed : List (List RecordParts) = (cut_of limits (settled_records s es)).closed in
    let runs = closed_go_on limits (settled_records s es) records.0 in (
      concat (map block_spelling (blocks_of s.params runs.0)),
      ap (λ rs. file_begun s.params (blocks_of s.params (cut_of limits rs).closed)) records.1
          ∙ ap (λ all. file_begun s.params (blocks_of s.params all)) runs.1
          ∙ ap (file_begun s.params) (map-append (block_of s.params) closed runs.0)
          ∙ begun_further s.params (blocks_of s.params closed) (blocks_of s.params runs.0),
    )

-- it is a front of their file
closed_events_within : (s : Settings) (es : List EventParts) → IsFront (closed_part_of_events s es) (file_of_events s es)
unfolding closed_part_of_events file_of_events
closed_events_within s es =
    let limits : Limits = limits_of s in
    let records = settled_first s es in
    let closed : List (List RecordParts) = (cut_of limits (settled_records s es)).closed in
    let runs = runs_go_on limits (settled_records s es) records.0 in
    let begun : List ℕ = file_begun s.params (blocks_of s.params closed) in
    let others : List ℕ = concat (map block_spelling (blocks_of s.params runs.0)) in (
      others ++ file_end,
      ap (λ rs. file_of s.params (blocks_of s.params (runs_of limits rs))) records.1
          ∙ ap (λ all. file_of s.params (blocks_of s.params all)) runs.1
          ∙ ap (file_of s.params) (map-append (block_of s.params) closed runs.0)
          ∙ file_ended s.params (blocks_of s.params closed ++ blocks_of s.params runs.0)
          ∙ ap (λ t. t ++ file_end) (begun_further s.params (blocks_of s.params closed) (blocks_of s.params runs.0))
          ∙ append_assoc begun others file_end,
    )

-- what is closed stays as the bytes go on
closed_part_grows : (s : Settings) (xs ys : List ℕ) → IsFront (closed_part s xs) (closed_part s (xs ++ ys))
unfolding closed_part
closed_part_grows s xs ys =
    let k = events_go_on (rules_of s) xs ys in
    let P : List EventParts → Type 0 = λ es. AreHeavyParts es in
    let heavy = subst P k.1 (events_heavy (rules_of s) (capture (xs ++ ys)).packets) in
    let g = closed_events_grow s (events_in s xs) k.0 heavy in
    (g.0, ap (closed_part_of_events s) k.1 ∙ g.1)

-- it is a front of the file
closed_part_within : (s : Settings) (xs : List ℕ) → IsFront (closed_part s xs) (whole_file s xs)
unfolding closed_part whole_file
closed_part_within s xs = closed_events_within s (events_in s xs)

pub compacting_lawful : (s : Settings) → IsLawful (compacting s)
compacting_lawful s = record {
  grows = closed_part_grows s;
  within = closed_part_within s;
  stays = refusal_stays;
  begins = nothing_unrefused;
}
