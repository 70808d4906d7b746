-- what is known of each record, one turn more, and the end
use Rattle.std.proofs.Common.{◌≡◌, filter, map, length, sym, ap, ◌∙◌, arith, rules}
use Rattle.std.proofs.lemmas.Iterator.Adapters.{YieldsList-from_vec}
use Rattle.std.proofs.lemmas.Iterator.Consumers.{YieldsList-turn, YieldsList-end}
use Rattle.std.proofs.lemmas.List.{length-map, length_push, take_all}
use Rattle.cd_hints.specs.Items.{kept_item}
use Rattle.cd_hints.specs.Records.{record_parts, is_item, is_malformed}
use Rattle.cd_record.specs.Earliest.{IsEarly}
use Rattle.cd_record.proofs.Keeping.{record_at}
use Rattle.cd_table.specs.Growing.{put_item}
use Rattle.cd_table.proofs.Choosing.{chosen, chosen_given}
use Rattle.cd_filling.proofs.Filled.{parts_at, aside_turn}
use Rattle.cd_filling.proofs.ListsFilled.{either_turn}
use Rattle.cd_filling.proofs.block.put_items.Goals as goal

pub put_rec-requires-clause-early : goal.put_rec-requires-clause-early
put_rec-requires-clause-early c =
    let turn = YieldsList-turn (YieldsList-from_vec {s = c.into_iter-rec-iterator.result} c.args.recs.items (search rules) (search rules)) c.records.yielded c.records.rec-iterator c.records.yielded_by c.next.result c.next.new.self c.in-Some.rec c.in-Some.is c.next.ensures.steps in
    record_at (IsEarly c.args.settings.now.params.ticks c.args.earliest) _ _ _ turn.0 turn.1 c.requires.early

pub records-preserved : goal.records-preserved
records-preserved c =
    let run = map record_parts c.args.recs.items in
    let k = length c.records.yielded in
    let kept = kept_item c.args.settings.now.params c.args.earliest in
    let turn = YieldsList-turn (YieldsList-from_vec {s = c.into_iter-rec-iterator.result} c.args.recs.items (search rules) (search rules)) c.records.yielded c.records.rec-iterator c.records.yielded_by c.next.result c.next.new.self c.in-Some.rec c.in-Some.is c.next.ensures.steps in
    let at = parts_at c.args.recs.items k c.in-Some.rec turn in
    let items = either_turn put_item is_item kept (chosen is_item kept run) run k (record_parts c.in-Some.rec) c.records.items.items c.put_rec.new.items.items c.args.tables.now c.records.tables c.put_rec.new.tables
    c.records.invariant.0 at c.in_ok-put_rec.ensures.items c.in_ok-put_rec.ensures.tables in
    let aside = aside_turn run k c.records.malformed.items c.put_rec.new.malformed.items c.in-Some.rec at c.records.invariant.1 c.in_ok-put_rec.ensures.malformed in
    rw (length_push c.records.yielded c.in-Some.rec) (items, aside)

-- what was put is all
pub returns-clause-tables : goal.returns-clause-tables
returns-clause-tables c =
    let run = map record_parts c.args.recs.items in
    let k = length c.records.yielded in
    let kept = kept_item c.args.settings.now.params c.args.earliest in
    let end = YieldsList-end (YieldsList-from_vec {s = c.into_iter-rec-iterator.result} c.args.recs.items (search rules) (search rules)) c.records.yielded c.records.rec-iterator c.records.yielded_by c.next.result c.next.new.self c.in-None.is c.next.ensures.steps in
    let same : length run ≡ k = length-map c.args.recs.items record_parts ∙ sym end.1 in
    sym (ap (λ a. a.tables) (chosen_given put_item is_item kept (chosen is_item kept run) run k c.records.items.items c.args.tables.now c.records.tables c.records.invariant.0 (omega arith)))

pub returns-clause-items : goal.returns-clause-items
returns-clause-items c =
    let run = map record_parts c.args.recs.items in
    let k = length c.records.yielded in
    let kept = kept_item c.args.settings.now.params c.args.earliest in
    let end = YieldsList-end (YieldsList-from_vec {s = c.into_iter-rec-iterator.result} c.args.recs.items (search rules) (search rules)) c.records.yielded c.records.rec-iterator c.records.yielded_by c.next.result c.next.new.self c.in-None.is c.next.ensures.steps in
    let same : length run ≡ k = length-map c.args.recs.items record_parts ∙ sym end.1 in
    sym (ap (λ a. a.value) (chosen_given put_item is_item kept (chosen is_item kept run) run k c.records.items.items c.args.tables.now c.records.tables c.records.invariant.0 (omega arith)))

pub returns-clause-malformed : goal.returns-clause-malformed
returns-clause-malformed c =
    let run = map record_parts c.args.recs.items in
    let k = length c.records.yielded in
    let end = YieldsList-end (YieldsList-from_vec {s = c.into_iter-rec-iterator.result} c.args.recs.items (search rules) (search rules)) c.records.yielded c.records.rec-iterator c.records.yielded_by c.next.result c.next.new.self c.in-None.is c.next.ensures.steps in
    let same : length run ≡ k = length-map c.args.recs.items record_parts ∙ sym end.1 in
    c.records.invariant.1 ∙ ap (filter is_malformed) (take_all k run (omega arith))
