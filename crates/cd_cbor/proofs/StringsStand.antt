-- A string that is read is spelled so.
use Rattle.std.proofs.Common.{◌≡◌, ℕ, ◌+◌, ◌/◌, ◌%◌, ◌<◌, ◌≤◌, Bool, List, [], ◌∷◌, ◌++◌, length, drop, Ok, refl, ap, sym, subst, ◌∙◌, arith, append_assoc, length-append}
use Rattle.std.specs.Prelude.{nat_lt, nat_eq, All}
use Rattle.std.specs.List.{concat}
use Rattle.std.proofs.lemmas.Bool.{and_parts, ltb-true, ltb-false, eqb-true}
use Rattle.cd_cbor.specs.MajorTypes.{major_number}
use Rattle.cd_cbor.specs.Heads.{IsHead, major_type}
use Rattle.cd_cbor.specs.Spells.{SpellsString, SpellsChunks, string_type, is_content, most_string, indefinite}
use Rattle.cd_cbor.specs.Readings.{byte_at, piece, until_break}
use Rattle.cd_cbor.specs.Reading.{argument_at, content_at, string_at, is_chunk, chunk_at, chunks_at}
use Rattle.cd_cbor.proofs.Binds.{bind_ok, ok_same, if_ok_else, if_err_else}
use Rattle.cd_cbor.proofs.HeadsRead.{type_of_number}
use Rattle.cd_cbor.proofs.StringsRead.{ChunksFit}
use Rattle.cd_cbor.proofs.Stands.{Stands, Told, Before, piece_there, head_there, until_sound}

-- what is spelled in two parts at an offset
pub two_parts : (at : ℕ) (bytes first second : List ℕ) (middle next : ℕ) → drop at bytes ≡ first ++ drop middle bytes → drop middle bytes ≡ second ++ drop next bytes →
    drop at bytes ≡ (first ++ second) ++ drop next bytes
two_parts at bytes first second middle next one two = one ∙ ap (λ t. first ++ t) two ∙ sym (append_assoc first second (drop next bytes))

-- a string of definite length, after so many bytes of chunks
pub string_stands : (is_text : Bool) (before at : ℕ) (bytes : List ℕ) (first : ℕ) (content : List ℕ) (next : ℕ) → All (λ byte. byte < 256) bytes → byte_at at bytes ≡ Ok first →
    first % 32 < 28 → major_type (first / 32) ≡ string_type is_text → string_at is_text before (first % 32) at bytes ≡ Ok (content, next) →
    Stands (SpellsString is_text) bytes at content next × (before + length content ≤ most_string)
unfolding string_at content_at
string_stands is_text before at bytes first content next all there low type h =
    let size = bind_ok (argument_at (first % 32) at bytes) _ (content, next) h in
    let n : ℕ = size.0.0 in
    let start : ℕ = size.0.1 in
    let short = if_err_else (nat_lt most_string (before + n)) _ _ (content, next) size.2 in
    let room = if_err_else (nat_lt (length bytes) (start + n)) _ _ (content, next) short.1 in
    let right = if_ok_else (is_content is_text (piece start n bytes)) _ _ (content, next) room.1 in
    let both = ok_same (piece start n bytes, start + n) (content, next) right.1 in
    let same : piece start n bytes ≡ content = ap (λ x. x.0) both in
    let end : start + n ≡ next = ap (λ x. x.1) both in
    let head = head_there at bytes first n start all there low size.1 in
    let p = piece_there start n bytes (ltb-false (length bytes) (start + n) room.0) in
    let long : n ≡ length content = sym p.1 ∙ ap length same in
    let most : before + n ≤ most_string = ltb-false most_string (before + n) short.0 in
    let after : drop start bytes ≡ content ++ drop next bytes = p.0 ∙ ap (λ t. t ++ drop (start + n) bytes) same ∙ ap (λ k. content ++ drop k bytes) end in (
      record {
        s = head.s ++ content;
        has = record {
          head = head.s;
          is_head = subst (λ k. IsHead (string_type is_text) k head.s) long (subst (λ m. IsHead m n head.s) type head.has);
          whole = refl;
          short = omega arith;
          right = ap (is_content is_text) (sym same) ∙ right.0;
        };
        is = two_parts at bytes head.s content start next head.is after;
        ends = omega (arith, head.ends, length-append head.s content);
      },
      omega arith,
    )

-- a chunk
chunk_told : (is_text : Bool) (bytes : List ℕ) → All (λ byte. byte < 256) bytes → (place : ℕ × ℕ) (x : List ℕ) (next : ℕ × ℕ) → ChunksFit place [] →
    chunk_at is_text bytes place ≡ Ok (x, next) → Told (SpellsString is_text) (λ p. p.1) ChunksFit bytes place x next
unfolding chunk_at
chunk_told is_text bytes all place x next fits h =
    let byte = bind_ok (byte_at place.1 bytes) _ (x, next) h in
    let first : ℕ = byte.0 in
    let test = if_ok_else (is_chunk is_text first) _ _ (x, next) byte.2 in
    let parts = and_parts (nat_eq (first / 32) (major_number (string_type is_text))) (nat_lt (first % 32) 28) test.0 in
    let type : major_type (first / 32) ≡ string_type is_text =
    ap major_type (eqb-true (first / 32) (major_number (string_type is_text)) parts.0) ∙ type_of_number (string_type is_text) in
    let one = bind_ok (string_at is_text place.0 (first % 32) place.1 bytes) _ (x, next) test.1 in
    let both = ok_same (one.0.0, (place.0 + length one.0.0, one.0.1)) (x, next) one.2 in
    let same : one.0.0 ≡ x = ap (λ y. y.0) both in
    let sum : place.0 + length one.0.0 ≡ next.0 = ap (λ y. y.1.0) both in
    let end : one.0.1 ≡ next.1 = ap (λ y. y.1.1) both in
    let told = string_stands is_text place.0 place.1 bytes first one.0.0 one.0.1 all byte.1 (ltb-true (first % 32) 28 parts.1) type one.1 in
    let long : length one.0.0 ≡ length x = ap length same in
    let now : place.0 + length one.0.0 ≤ most_string = told.1 in
    record {
      stands = subst (λ n. Stands (SpellsString is_text) bytes place.1 x n) end (subst (λ y. Stands (SpellsString is_text) bytes place.1 y one.0.1) same told.0);
      fits = omega arith;
      before = λ xs later. omega (arith, later, length-append x (concat xs));
    }

-- a string in chunks, of which the first byte stands before them
pub chunks_stand : (is_text : Bool) (at : ℕ) (bytes content : List ℕ) (next : ℕ) → All (λ byte. byte < 256) bytes →
    drop at bytes ≡ indefinite (string_type is_text) ∷ drop (at + 1) bytes → chunks_at is_text (at + 1) bytes ≡ Ok (content, next) →
    Stands (SpellsChunks is_text) bytes at content next
unfolding chunks_at
chunks_stand is_text at bytes content next all first h =
    let chunks = bind_ok (until_break (λ (p : ℕ × ℕ). p.1) bytes (length bytes) (chunk_at is_text bytes) (0, at + 1)) _ (content, next) h in
    let both = ok_same (concat chunks.0.0, chunks.0.1) (content, next) chunks.2 in
    let same : concat chunks.0.0 ≡ content = ap (λ y. y.0) both in
    let end : chunks.0.1 ≡ next = ap (λ y. y.1) both in
    let none : ChunksFit (0, at + 1) [] = omega arith in
    let b : Before (SpellsString is_text) ChunksFit bytes (0, at + 1) (at + 1) chunks.0.0 chunks.0.1 =
    until_sound (SpellsString is_text) (λ (p : ℕ × ℕ). p.1) bytes (chunk_at is_text bytes) ChunksFit (chunk_told is_text bytes all) (length bytes) (0, at + 1) chunks.0.0 chunks.0.1 none chunks.1 in
    let body : List ℕ = b.stands.s in
    let byte : ℕ = indefinite (string_type is_text) in
    let fits : 0 + length (concat chunks.0.0) ≤ most_string = b.fits in
    let long : length (concat chunks.0.0) ≡ length content = ap length same in
    let rest : drop (at + 1) bytes ≡ (body ++ 255 ∷ []) ++ drop next bytes =
    two_parts (at + 1) bytes body (255 ∷ []) b.end next b.stands.is (b.stops ∙ ap (λ k. 255 ∷ drop k bytes) end) in
    record {
      s = byte ∷ (body ++ 255 ∷ []);
      has = record { chunks = chunks.0.0; body = body; each = b.stands.has; whole = refl; joined = sym same; short = omega arith };
      is = first ∙ ap (λ t. byte ∷ t) rest;
      ends = omega (arith, b.ends, b.stands.ends, length-append body (255 ∷ []));
    }
