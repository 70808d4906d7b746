-- A record of light events may stand in a block alone.
use Rattle.std.proofs.Common.{◌≤◌, [], ◌∷◌, arith}
use Rattle.std.specs.List.{All}
use Rattle.std.proofs.lemmas.List.Elements.{All-head, All-tail}
use Rattle.std.proofs.lemmas.List.Sums.{count_by-le-length}
use Rattle.cd_hints.specs.Records.{RecordParts, pair, unmatched_query, unmatched_response, malformed, discarded, is_item, is_malformed}
use Rattle.cd_record.specs.Laws.{IsLight, events_of, OneRecordIsAdmissible}
use Rattle.cd_record.specs.Runs.{record_weight}

-- a record of light events weighs at most twice as much as the heaviest one
light_record : (r : RecordParts) → All IsLight (events_of r) → record_weight r ≤ 6800000
light_record (pair query response) each =
    omega (
      arith,
      All-head IsLight query (response ∷ []) each,
      All-head IsLight response [] (All-tail IsLight query (response ∷ []) each),
    )
light_record (unmatched_query e) each = omega (arith, All-head IsLight e [] each)
light_record (unmatched_response e) each = omega (arith, All-head IsLight e [] each)
light_record (malformed e) each = omega (arith, All-head IsLight e [] each)
light_record (discarded e) each = omega (arith, All-head IsLight e [] each)

-- two of the heaviest events weigh less than the least limit of a block, and that of items is one at least
pub one_is_admissible : OneRecordIsAdmissible
one_is_admissible settings r valid each =
    let least_items : 1 ≤ settings.params.max_items = valid.params.block_items.least in
    let least_weight : 8388608 ≤ settings.block_bytes = valid.block_bytes.least in
    record {
      few_items = omega (arith, count_by-le-length is_item (r ∷ []));
      few_malformed = omega (arith, count_by-le-length is_malformed (r ∷ []));
      light = omega (arith, light_record r each);
    }
