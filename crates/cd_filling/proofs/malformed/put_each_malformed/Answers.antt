-- what is known of each message, one turn more, and the end
use Rattle.std.proofs.Common.{map, ap, sym, ◌∙◌}
use Rattle.std.proofs.lemmas.List.{length-map}
use Rattle.cd_hints.specs.Items.{kept_malformed}
use Rattle.cd_hints.specs.Records.{record_parts, HasKinds, IsMalformed}
use Rattle.cd_record.specs.Earliest.{IsEarly}
use Rattle.cd_record.proofs.Keeping.{record_at, early_malformed}
use Rattle.cd_table.specs.Growing.{put_malformed}
use Rattle.cd_table.proofs.Choosing.{mapped_turn, mapped_given}
use Rattle.cd_filling.proofs.Filled.{parts_at}
use Rattle.cd_filling.proofs.malformed.put_each_malformed.Goals as goal

pub kept_malformed-requires-clause-kinds : goal.kept_malformed-requires-clause-kinds
kept_malformed-requires-clause-kinds c = record_at HasKinds _ _ _ c.malformed-test.true c.rec-item.is c.requires.kinds

pub kept_malformed-requires-clause-malformed : goal.kept_malformed-requires-clause-malformed
kept_malformed-requires-clause-malformed c = record_at IsMalformed _ _ _ c.malformed-test.true c.rec-item.is c.requires.malformed

pub kept_malformed-requires-clause-earliest : goal.kept_malformed-requires-clause-earliest
kept_malformed-requires-clause-earliest c =
    let early = record_at (IsEarly c.args.settings.now.params.ticks c.args.earliest) _ _ _ c.malformed-test.true c.rec-item.is c.requires.early in
    let is = record_at IsMalformed _ _ _ c.malformed-test.true c.rec-item.is c.requires.malformed in
    early_malformed _ _ _ is early

pub malformed-preserved : goal.malformed-preserved
malformed-preserved c =
    let at = parts_at c.args.recs.now c.malformed.rec-index c.rec-item.result (c.malformed-test.true, c.rec-item.is) in
    let run = map record_parts c.args.recs.now in
    let step = kept_malformed c.args.settings.now.params c.args.earliest in
    mapped_turn put_malformed step (map step run) run c.malformed.rec-index (record_parts c.rec-item.result) c.in_ok-message.message c.malformed.placed.items c.push.new.self.items c.args.tables.now c.malformed.tables c.put_malformed.new.tables
    c.malformed.invariant at.0 at.1 c.in_ok-push.ensures.items (c.in_ok-message.ensures.placed ∙ ap (λ m. (put_malformed m c.malformed.tables).value) c.in_ok-kept.ensures)
    (c.in_ok-message.ensures.tables ∙ ap (λ m. (put_malformed m c.malformed.tables).tables) c.in_ok-kept.ensures)

pub returns-clause-tables : goal.returns-clause-tables
returns-clause-tables c =
    let run = map record_parts c.args.recs.now in
    let step = kept_malformed c.args.settings.now.params c.args.earliest in
    sym (ap (λ a. a.tables) (mapped_given put_malformed step (map step run) run c.malformed.rec-index c.malformed.placed.items c.args.tables.now c.malformed.tables c.malformed.invariant (rw length-map c.malformed-test.false)))

pub returns-clause-placed : goal.returns-clause-placed
returns-clause-placed c =
    let run = map record_parts c.args.recs.now in
    let step = kept_malformed c.args.settings.now.params c.args.earliest in
    sym (ap (λ a. a.value) (mapped_given put_malformed step (map step run) run c.malformed.rec-index c.malformed.placed.items c.args.tables.now c.malformed.tables c.malformed.invariant (rw length-map c.malformed-test.false)))
