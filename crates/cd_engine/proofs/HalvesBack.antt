-- The plain halves of a capture come back from its file.
use Rattle.std.proofs.Common.{◌≡◌, List, [], ◌∷◌, map, Option, Some, None, refl, ap, subst}
use Rattle.std.specs.Prelude.{filter}
use Rattle.std.specs.List.{All, AllByRecursion, AllZip}
use Rattle.std.specs.Option.{option_map_or}
use Rattle.std.proofs.lemmas.List.Elements.{All-head, All-tail, All-filter}
use Rattle.cd_block.specs.declared.hints.Hints.{Hints}
use Rattle.cd_block.specs.declared.hints.TheConstants as hint
use Rattle.cd_block.specs.declared.params.Params.{Params}
use Rattle.cd_block.specs.declared.stamp.Stamp.{Stamp}
use Rattle.cd_halves.specs.PlainHalves.{KeepsAll}
use Rattle.cd_halves.proofs.QueryBack.{queries_come_back}
use Rattle.cd_halves.proofs.ResponseBack.{responses_come_back}
use Rattle.cd_halves.proofs.Spelled.{queries_are_spelled, responses_are_spelled}
use Rattle.cd_hints.specs.Hinted.{kept}
use Rattle.cd_hints.specs.Items.{kept_item, kept_signature}
use Rattle.cd_hints.specs.Records.{RecordParts, pair, unmatched_query, unmatched_response, malformed, discarded, is_item, event_message, message_in, response_message}
use Rattle.cd_ident.specs.Bodies.{HasBody}
use Rattle.cd_ident.specs.Events.{EventParts}
use Rattle.cd_ident.specs.declared.event.Body.{Body}
use Rattle.cd_ident.specs.declared.event.Body.TheVariants.{Message, Payload, Nothing}
use Rattle.cd_ident.specs.declared.event.Kind.{Kind}
use Rattle.cd_ident.specs.declared.event.Kind.TheVariants.{Query, Response, Malformed, Discarded}
use Rattle.cd_message.specs.Valid.{Valid}
use Rattle.cd_message.specs.declared.message.Message as dns
use Rattle.cd_record.specs.Blocks.{kept_items}
use Rattle.cd_record.specs.Earliest.{earliest_time}
use Rattle.cd_size.specs.Ranges.{EventInRange, RecordInRange}
use Rattle.cd_engine.specs.HalvesComeBack.{HalvesComeBack, RunComesBack, EachPlainHalfComesBack}
use Rattle.cd_engine.proofs.FilesReadBack.{runs_in_range}

-- the message that is kept of an event is valid
body_valid : (kind : Kind) (body : Body) (m : dns.Message) → HasBody kind body → message_in body ≡ Some m → Valid m
body_valid Query (Message x) m has is = let same : x ≡ m = cc in subst Valid same has.0
body_valid Query (Payload p) m has is = absurd has
body_valid Query Nothing m has is = absurd has
body_valid Response (Message x) m has is = let same : x ≡ m = cc in subst Valid same has.0
body_valid Response (Payload p) m has is = absurd has
body_valid Response Nothing m has is = absurd has
body_valid Malformed (Message x) m has is = absurd has
body_valid Malformed (Payload p) m has is = absurd cc
body_valid Malformed Nothing m has is = absurd has
body_valid Discarded (Message x) m has is = absurd has
body_valid Discarded (Payload p) m has is = absurd has
body_valid Discarded Nothing m has is = absurd cc

event_valid : (e : EventParts) (m : dns.Message) → EventInRange e → event_message e ≡ Some m → Valid m
event_valid e m range is = body_valid e.kind e.body m range.has_body is

-- so is that of the response of a record
response_valid : (r : RecordParts) (m : dns.Message) → RecordInRange r → response_message r ≡ Some m → Valid m
response_valid (pair query response) m range is =
    event_valid response m (All-head EventInRange response [] (All-tail EventInRange query (response ∷ []) range)) is
response_valid (unmatched_query e) m range is = absurd cc
response_valid (unmatched_response e) m range is = event_valid e m (All-head EventInRange e [] range) is
response_valid (malformed e) m range is = absurd cc
response_valid (discarded e) m range is = absurd cc

module _ (p : Params) (keeps : KeepsAll p) where
  -- the halves of a record come back from its item
  record_back : (earliest : Stamp) (r : RecordParts) → RecordInRange r → HalvesComeBack p r (kept_item p earliest r)
  record_back earliest r range = record {
    signature = kept_signature p r;
    signed = ap (λ (h : Hints). kept h.qr hint.QR_SIGNATURE (Some (kept_signature p r))) keeps;
    query = λ m is plain. record {
      same = queries_come_back p earliest r m keeps is plain;
      written = queries_are_spelled p earliest r m keeps is plain;
    };
    response = λ m is plain. record {
      same = responses_come_back p earliest r m keeps is plain;
      written = responses_are_spelled p earliest r m keeps is plain (response_valid r m range is);
    };
  }

  records_back : (earliest : Stamp) (rs : List RecordParts) → All RecordInRange rs → AllZip (HalvesComeBack p) rs (map (kept_item p earliest) rs)
  records_back earliest [] range = tt
  records_back earliest (r ∷ rs) range =
      (record_back earliest r (All-head RecordInRange r rs range), records_back earliest rs (All-tail RecordInRange r rs range))

  -- a run with no earliest time has no items
  no_items : (run : List RecordParts) → earliest_time p.ticks run ≡ None → filter is_item run ≡ []
  no_items [] none = refl
  no_items (pair query response ∷ run) none = absurd cc
  no_items (unmatched_query e ∷ run) none = absurd cc
  no_items (unmatched_response e ∷ run) none = absurd cc
  no_items (malformed e ∷ run) none = absurd cc
  no_items (discarded e ∷ run) none = no_items run none

  run_back_by : (run : List RecordParts) (earliest : Option Stamp) → earliest_time p.ticks run ≡ earliest → All RecordInRange run →
      AllZip (HalvesComeBack p) (filter is_item run) (option_map_or (kept_items p run) earliest [])
  run_back_by run None is range = rw (no_items run is) tt
  run_back_by run (Some earliest) is range = records_back earliest (filter is_item run) (All-filter is_item RecordInRange run range)

  -- the halves of the records of each run come back
  runs_back : (runs : List (List RecordParts)) → AllByRecursion (λ run. All RecordInRange run) runs → AllByRecursion (RunComesBack p) runs
  runs_back [] range = tt
  runs_back (run ∷ runs) range = (run_back_by run (earliest_time p.ticks run) refl range.0, runs_back runs range.1)

-- the law of plain halves
pub plain_halves_back : EachPlainHalfComesBack
plain_halves_back s bytes file keeps all is = runs_back s.params keeps is.compaction.runs (runs_in_range s bytes is.compaction all)
