-- the malformed records are those of the run
use Rattle.std.proofs.Common.{ap, ◌∙◌, map}
use Rattle.cd_hints.specs.Records.{record_parts, HasKinds}
use Rattle.cd_record.specs.Earliest.{IsEarly}
use Rattle.cd_filling.proofs.Filled.{kept_aside, aside_malformed, aside_put}
use Rattle.cd_filling.proofs.block.put_timed.Goals as goal

pub put_hinted_malformed-requires-clause-malformed : goal.put_hinted_malformed-requires-clause-malformed
put_hinted_malformed-requires-clause-malformed c =
    aside_malformed (map record_parts c.args.recs.items) _ (ap (map record_parts) c.as_slice.ensures.value ∙ c.in_ok-put.ensures.malformed)

pub put_hinted_malformed-requires-clause-kinds : goal.put_hinted_malformed-requires-clause-kinds
put_hinted_malformed-requires-clause-kinds c =
    kept_aside HasKinds (map record_parts c.args.recs.items) _ (ap (map record_parts) c.as_slice.ensures.value ∙ c.in_ok-put.ensures.malformed) c.requires.kinds

pub put_hinted_malformed-requires-clause-early : goal.put_hinted_malformed-requires-clause-early
put_hinted_malformed-requires-clause-early c =
    kept_aside (IsEarly c.args.settings.now.params.ticks c.args.earliest) (map record_parts c.args.recs.items) _
    (ap (map record_parts) c.as_slice.ensures.value ∙ c.in_ok-put.ensures.malformed) c.requires.early

pub returns-clause-tables : goal.returns-clause-tables
returns-clause-tables c =
    c.in_ok-malformed.ensures.tables
    ∙ ap (λ a. a.tables) (aside_put c.args.settings.now.params (map record_parts c.args.recs.items) (map record_parts c.as_slice.result.now) c.args.earliest _ _
    (ap (map record_parts) c.as_slice.ensures.value ∙ c.in_ok-put.ensures.malformed) c.in_ok-put.ensures.tables)

pub returns-clause-malformed : goal.returns-clause-malformed
returns-clause-malformed c =
    c.in_ok-malformed.ensures.placed
    ∙ ap (λ a. a.value) (aside_put c.args.settings.now.params (map record_parts c.args.recs.items) (map record_parts c.as_slice.result.now) c.args.earliest _ _
    (ap (map record_parts) c.as_slice.ensures.value ∙ c.in_ok-put.ensures.malformed) c.in_ok-put.ensures.tables)
