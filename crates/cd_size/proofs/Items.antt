-- What the item of a record costs: at most 195 bytes beside its query and its response.
use Rattle.std.proofs.Common.{◌+◌, ◌<◌, ◌≤◌, length, Some, arith}
use Rattle.std.specs.Prelude.{IfSome, option_and_then}
use Rattle.std.specs.Option.{option_map}
use Rattle.cd_file.specs.Ranges.{ItemInRange}
use Rattle.cd_file.proofs.MapSizes.{item_short}
use Rattle.cd_block.specs.declared.hints.TheConstants as hint
use Rattle.cd_block.specs.declared.params.Params.{Params}
use Rattle.cd_block.specs.declared.stamp.Stamp.{Stamp}
use Rattle.cd_block.specs.declared.kept.KeptItem.{KeptItem}
use Rattle.cd_block.specs.Tables.{KeptTables, indexed_item}
use Rattle.cd_block.specs.Traversal.{where_present, visited_address, visited_classtype, visited_bytes, visited_signature, visited_lists, visited_item}
use Rattle.cd_hints.specs.Addresses.{client_address, server_address, client_prefix, server_prefix}
use Rattle.cd_hints.specs.Items.{kept_item, kept_signature, query_opt, lead_question, first_question, main_message}
use Rattle.cd_hints.specs.Records.{RecordParts, main_event, query_of, query_message, response_message}
use Rattle.cd_size.specs.Costs.{value_size, item_cost}
use Rattle.cd_size.specs.Ranges.{EventInRange}
use Rattle.cd_size.proofs.Totals.{total_five, sum_is_total}
use Rattle.cd_size.proofs.SignatureRanges.{IsFit, kept_within, kept_word, kept_byte, word_of, mapped, signature_in_range}
use Rattle.cd_size.proofs.Parts.{cost, stored_short, kept_cost, address_cost, signature_cost}
use Rattle.cd_size.proofs.Lists.{lists_cost}
use Rattle.cd_size.proofs.Halves.{query_cost, response_cost, first_of, opt_of, first_question_fits, either_fits, either_share, first_of_message, lead_cost, opt_cost}

-- an item's number of two bytes, and its byte
pub item_in_range : (t : KeptTables) (p : Params) (earliest : Stamp) (r : RecordParts) → IsFit r →
    ItemInRange (indexed_item t (kept_item p earliest r))
unfolding indexed_item
item_in_range t p earliest r fit = record {
  client_port = kept_word _ _ (Some (main_event r).client_port) fit.main.client_port;
  transaction_id = kept_word _ _ _ (word_of (λ m. m.id) (main_message r) (λ m f. f.range.id) fit.main_fits);
  client_hoplimit = kept_byte _ _ _
      (mapped EventInRange (λ n. n < 0x100) (λ e. e.hop) (query_of r) (λ e f. f.hop) fit.query_event);
}

-- an item, and what it uses
item_in_turn : (t : KeptTables) (i : KeptItem) → ItemInRange (indexed_item t i) → item_cost t i ≤
    82 + (cost t (where_present visited_address i.client_address)
    + (cost t (where_present visited_signature i.signature)
    + (cost t (where_present visited_bytes i.query_name)
    + (lists_cost t i.query_extended + lists_cost t i.response_extended))))
unfolding indexed_item visited_item
item_in_turn t i range =
    omega (
      arith,
      item_short (indexed_item t i) range,
      sum_is_total (value_size t) (visited_item i),
      total_five (value_size t)
          (where_present visited_address i.client_address)
          (where_present visited_signature i.signature)
          (where_present visited_bytes i.query_name)
          (visited_lists i.query_extended)
          (visited_lists i.response_extended),
    )

-- the lead question of a record, with its type and class
lead_of_record : (t : KeptTables) (r : RecordParts) → IsFit r →
    cost t (where_present visited_classtype (option_map (λ x. (x.rtype, x.rclass)) (lead_question r)))
    + cost t (where_present visited_bytes (option_map (λ x. x.name) (lead_question r)))
    ≤ first_of (query_message r) + first_of (response_message r)
lead_of_record t r fit =
    let fits =
    either_fits (option_and_then first_question (query_message r)) (option_and_then first_question (response_message r))
    (first_question_fits (query_message r) fit.query) (first_question_fits (response_message r) fit.response) in
    omega (
      arith,
      lead_cost t (lead_question r) fits,
      either_share (option_and_then first_question (query_message r))
          (option_and_then first_question (response_message r)),
      first_of_message (query_message r),
      first_of_message (response_message r),
    )

-- the server's address
pub server_kept : (p : Params) (r : RecordParts) → IsFit r →
    IfSome (kept_signature p r).server_address (λ content. length content ≤ 16)
server_kept p r fit =
    kept_within (λ content. length content ≤ 16) _ _ (Some (server_address p.prefixes (main_event r).server))
    (stored_short (server_prefix p.prefixes (main_event r).server.v6) (main_event r).server fit.main.server)

-- the client's address
pub client_kept : (p : Params) (earliest : Stamp) (r : RecordParts) → IsFit r →
    IfSome (kept_item p earliest r).client_address (λ content. length content ≤ 16)
client_kept p earliest r fit =
    kept_within (λ content. length content ≤ 16) _ _ (Some (client_address p.prefixes (main_event r).client))
    (stored_short (client_prefix p.prefixes (main_event r).client.v6) (main_event r).client fit.main.client)

-- the signature of a record
signature_of_record : (t : KeptTables) (p : Params) (r : RecordParts) → IsFit r →
    cost t (where_present visited_signature (Some (kept_signature p r))) ≤
    96 + (cost t (where_present visited_classtype (option_map (λ x. (x.rtype, x.rclass)) (lead_question r)))
    + opt_of (query_message r))
signature_of_record t p r fit =
    omega (
      arith,
      signature_cost t (kept_signature p r) (signature_in_range t p r fit) (server_kept p r fit),
      kept_cost t visited_classtype p.hints.sig hint.SIG_CLASSTYPE
          (option_map (λ x. (x.rtype, x.rclass)) (lead_question r)),
      kept_cost t visited_bytes p.hints.sig hint.SIG_OPT_RDATA (option_map (λ x. x.rdata) (query_opt r)),
      opt_cost t (query_message r) fit.query,
    )

-- the item of a record
pub item_of_record : (t : KeptTables) (p : Params) (earliest : Stamp) (r : RecordParts) → IsFit r →
    item_cost t (kept_item p earliest r) ≤ 195
    + (query_cost t p (query_message r) + response_cost t p (response_message r))
item_of_record t p earliest r fit =
    omega (
      arith,
      item_in_turn t (kept_item p earliest r) (item_in_range t p earliest r fit),
      address_cost t (kept_item p earliest r).client_address (client_kept p earliest r fit),
      kept_cost t visited_signature p.hints.qr hint.QR_SIGNATURE (Some (kept_signature p r)),
      signature_of_record t p r fit,
      kept_cost t visited_bytes p.hints.qr hint.QR_QUERY_NAME (option_map (λ x. x.name) (lead_question r)),
      lead_of_record t r fit,
    )
