-- An item, field by field.
use Rattle.std.proofs.Common.{◌≡◌}
use Rattle.cd_block.specs.declared.kept.KeptItem.{KeptItem}

-- items with equal fields are equal
pub item_by_fields : (a b : KeptItem) →
    a.time_offset ≡ b.time_offset → a.client_address ≡ b.client_address → a.client_port ≡ b.client_port → a.transaction_id ≡ b.transaction_id →
    a.signature ≡ b.signature → a.client_hoplimit ≡ b.client_hoplimit → a.response_delay ≡ b.response_delay → a.query_name ≡ b.query_name →
    a.query_size ≡ b.query_size → a.response_size ≡ b.response_size → a.query_extended ≡ b.query_extended → a.response_extended ≡ b.response_extended → a ≡ b
item_by_fields a b time_offset client_address client_port transaction_id signature client_hoplimit response_delay query_name query_size response_size query_extended response_extended = λ i. record {
  time_offset = time_offset i;
  client_address = client_address i;
  client_port = client_port i;
  transaction_id = transaction_id i;
  signature = signature i;
  client_hoplimit = client_hoplimit i;
  response_delay = response_delay i;
  query_name = query_name i;
  query_size = query_size i;
  response_size = response_size i;
  query_extended = query_extended i;
  response_extended = response_extended i;
}
