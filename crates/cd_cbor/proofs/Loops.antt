-- Before the first of what a loop reads, and what it changes.
use Rattle.std.proofs.Common.{◌≡◌, ℕ, ◌+◌, ◌-◌, ◌<◌, Bool, List, [], ◌∷◌, ◌++◌, length, Ok, ap, sym, ◌∙◌, append-nil, append_assoc, length-append}
use Rattle.std.specs.List.{concat}
use Rattle.std.proofs.lemmas.Bool.{ne_eqb}
use Rattle.cd_cbor.specs.Readings.{Reading, ◌>>=◌, byte_at, times, until_break}
use Rattle.cd_cbor.specs.Reading.{ItemReader, argument_at, joined, chunk_at, chunks_at, entry_at, array_of, map_of, array_at, map_at, open_array_at, open_map_at}
use Rattle.cd_cbor.specs.declared.item.Item.{Item}
use Rattle.cd_cbor.specs.declared.fault.Why.TheVariants as why
use Rattle.cd_cbor.proofs.Repeats.{with_front, times_start, until_start, until_more}

pub array_start : (depth : ℕ) (inner : ItemReader) (info at : ℕ) (bytes : List ℕ) (count next : ℕ) (items : List Item) → (depth ≡ 0 → ⊥) → argument_at info at bytes ≡ Ok (count, next) → items ≡ [] →
    (with_front items (times (count - 0) (inner why.Break) next) >>= array_of) ≡ array_at depth inner info at bytes
unfolding array_at
array_start depth inner info at bytes count next items some argument none = rw (none, ne_eqb depth 0 some, argument) (times_start (inner why.Break) count next array_of)

pub map_start : (depth : ℕ) (inner : ItemReader) (info at : ℕ) (bytes : List ℕ) (count next : ℕ) (pairs : List (Item × Item)) → (depth ≡ 0 → ⊥) → argument_at info at bytes ≡ Ok (count, next) →
    pairs ≡ [] → (with_front pairs (times (count - 0) (entry_at inner why.Break) next) >>= map_of) ≡ map_at depth inner info at bytes
unfolding map_at
map_start depth inner info at bytes count next pairs some argument none = rw (none, ne_eqb depth 0 some, argument) (times_start (entry_at inner why.Break) count next map_of)

pub open_array_start : (depth : ℕ) (inner : ItemReader) (at : ℕ) (bytes : List ℕ) (items : List Item) → (depth ≡ 0 → ⊥) → items ≡ [] →
    (with_front items (until_break (λ place. place) bytes (length bytes - 0) (inner why.Break) (at + 1)) >>= array_of) ≡ open_array_at depth inner at bytes
unfolding open_array_at
open_array_start depth inner at bytes items some none = rw (none, ne_eqb depth 0 some) (until_start (λ (p : ℕ). p) bytes (inner why.Break) (length bytes) (at + 1) array_of)

pub open_map_start : (depth : ℕ) (inner : ItemReader) (at : ℕ) (bytes : List ℕ) (pairs : List (Item × Item)) → (depth ≡ 0 → ⊥) → pairs ≡ [] →
    (with_front pairs (until_break (λ place. place) bytes (length bytes - 0) (entry_at inner why.Odd) (at + 1)) >>= map_of) ≡ open_map_at depth inner at bytes
unfolding open_map_at
open_map_start depth inner at bytes pairs some none = rw (none, ne_eqb depth 0 some) (until_start (λ (p : ℕ). p) bytes (entry_at inner why.Odd) (length bytes) (at + 1) map_of)

pub chunks_start : (is_text : Bool) (at : ℕ) (bytes content : List ℕ) → content ≡ [] →
    (with_front [] (until_break (λ (p : ℕ × ℕ). p.1) bytes (length bytes - 0) (chunk_at is_text bytes) (length content, at)) >>= joined) ≡ chunks_at is_text at bytes
unfolding chunks_at
chunks_start is_text at bytes content none = rw none (until_start (λ (p : ℕ × ℕ). p.1) bytes (chunk_at is_text bytes) (length bytes) (0, at) joined)

-- chunks one after the other, and one more
pub concat_more : (chunks : List (List ℕ)) (chunk : List ℕ) → concat (chunks ++ chunk ∷ []) ≡ concat chunks ++ chunk
concat_more [] chunk = append-nil chunk
concat_more (x ∷ xs) chunk = ap (λ t. x ++ t) (concat_more xs chunk) ∙ sym (append_assoc x (concat xs) chunk)

-- one more chunk
pub chunks_more : (is_text : Bool) (bytes : List ℕ) (chunks : List (List ℕ)) (content new : List ℕ) (count i here before first : ℕ) (chunk : List ℕ) (next : ℕ) (total : Reading (List ℕ)) → i < count →
    byte_at here bytes ≡ Ok first → (first ≡ 255 → ⊥) → before ≡ length content → chunk_at is_text bytes (before, here) ≡ Ok (chunk, (before + length chunk, next)) → new ≡ content ++ chunk →
    (with_front chunks (until_break (λ (p : ℕ × ℕ). p.1) bytes (count - i) (chunk_at is_text bytes) (length content, here)) >>= joined) ≡ total →
    (with_front (chunks ++ chunk ∷ []) (until_break (λ (p : ℕ × ℕ). p.1) bytes (count - (i + 1)) (chunk_at is_text bytes) (length new, next)) >>= joined) ≡ total
chunks_more is_text bytes chunks content new count i here before first chunk next total lt there other same gives is so_far =
    let long : length new ≡ before + length chunk = ap length is ∙ length-append content chunk ∙ ap (λ n. n + length chunk) (sym same) in
    let now : (with_front chunks (until_break (λ (p : ℕ × ℕ). p.1) bytes (count - i) (chunk_at is_text bytes) (before, here)) >>= joined) ≡ total = rw same so_far in
    rw long (until_more (λ (p : ℕ × ℕ). p.1) bytes (chunk_at is_text bytes) chunks count i (before, here) joined total first chunk (before + length chunk, next) lt there other gives now)
