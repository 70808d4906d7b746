-- A string that is spelled is read.
use Rattle.std.proofs.Common.{◌≡◌, ℕ, ◌+◌, ◌*◌, ◌/◌, ◌%◌, ◌<◌, ◌≤◌, Bool, List, [], ◌∷◌, ◌++◌, length, drop, Ok, refl, ap, sym, subst, ◌∙◌, arith, append_assoc, length-append}
use Rattle.std.specs.List.{concat}
use Rattle.std.proofs.lemmas.Bool.{lt-ltb, le-ltb, eq-eqb}
use Rattle.cd_cbor.specs.MajorTypes.{major_number}
use Rattle.cd_cbor.specs.Spells.{SpellsString, SpellsChunks, string_type, most_string, indefinite}
use Rattle.cd_cbor.specs.Readings.{piece}
use Rattle.cd_cbor.specs.Reading.{content_at, string_at, chunk_at, chunks_at}
use Rattle.cd_cbor.proofs.Offsets.{drop_on, lies_within, piece_is}
use Rattle.cd_cbor.proofs.HeadsRead.{HeadIs, head_reads, head_begins, begins_append, Begins}
use Rattle.cd_cbor.proofs.EachRead.{Step, until_reads, each_length, AllBegin}

-- a string of definite length begins with its head
pub string_begins : (is_text : Bool) → AllBegin (SpellsString is_text)
string_begins is_text content s h =
    subst Begins (sym h.whole) (begins_append h.head content (head_begins (string_type is_text) (length content) h.head h.is_head))

-- its head at an offset
pub string_head : (is_text : Bool) (at : ℕ) (bytes content s rest : List ℕ) → drop at bytes ≡ s ++ rest → (h : SpellsString is_text content s) →
    HeadIs (string_type is_text) (length content) at bytes h.head h.is_head.info
string_head is_text at bytes content s rest e h =
    head_reads (string_type is_text) (length content) at bytes h.head (content ++ rest) (e ∙ ap (λ t. t ++ rest) h.whole ∙ append_assoc h.head content rest) h.is_head

-- a string of definite length
pub string_reads : (is_text : Bool) (before at : ℕ) (bytes content s rest : List ℕ) → drop at bytes ≡ s ++ rest → (h : SpellsString is_text content s) →
    before + length content ≤ most_string → string_at is_text before h.is_head.info at bytes ≡ Ok (content, at + length s)
unfolding string_at content_at
string_reads is_text before at bytes content s rest e h short =
    let whole : drop at bytes ≡ h.head ++ (content ++ rest) = e ∙ ap (λ t. t ++ rest) h.whole ∙ append_assoc h.head content rest in
    let a = string_head is_text at bytes content s rest e h in
    let after : drop (at + length h.head) bytes ≡ content ++ rest = drop_on at bytes h.head (content ++ rest) whole in
    let there : piece (at + length h.head) (length content) bytes ≡ content = piece_is (at + length h.head) bytes content rest after in
    let all : at + length h.head + length (content ++ rest) ≡ length bytes = lies_within at bytes h.head (content ++ rest) whole (omega (arith, a.long)) in
    let within : at + length h.head + length content ≤ length bytes = omega (arith, length-append content rest) in
    let sum : at + length h.head + length content ≡ at + length s = let l : length s ≡ length (h.head ++ content) = ap length h.whole in omega (arith, length-append h.head content) in
    rw (a.argument, le-ltb most_string (before + length content) short, le-ltb (length bytes) (at + length h.head + length content) within, there, h.right)
    (ap (λ n. Ok (content, n)) sum)

-- a chunk
pub chunk_reads : (is_text : Bool) (before at : ℕ) (bytes content s rest : List ℕ) → drop at bytes ≡ s ++ rest → SpellsString is_text content s →
    before + length content ≤ most_string → chunk_at is_text bytes (before, at) ≡ Ok (content, (before + length content, at + length s))
unfolding chunk_at
chunk_reads is_text before at bytes content s rest e h short =
    let info : ℕ = h.is_head.info in
    let low : info < 28 = h.is_head.definite in
    let a = string_head is_text at bytes content s rest e h in
    let type : (32 * major_number (string_type is_text) + info) / 32 ≡ major_number (string_type is_text) = omega arith in
    let same : (32 * major_number (string_type is_text) + info) % 32 ≡ info = omega arith in
    rw (
      a.first,
      type,
      same,
      eq-eqb (major_number (string_type is_text)) (major_number (string_type is_text)) refl,
      lt-ltb info 28 low,
      string_reads is_text before at bytes content s rest e h short,
    ) refl

-- a chunk, and those after it, are together no longer than a string may be
abbrev pub ChunksFit : ℕ × ℕ → List (List ℕ) → Type 0
ChunksFit place chunks = place.0 + length (concat chunks) ≤ most_string

chunk_step : (is_text : Bool) (bytes : List ℕ) (place : ℕ × ℕ) (x : List ℕ) (xs : List (List ℕ)) (s rest : List ℕ) → drop place.1 bytes ≡ s ++ rest → SpellsString is_text x s →
    ChunksFit place (x ∷ xs) → Step (λ p. p.1) bytes (chunk_at is_text bytes) ChunksFit place x xs s
chunk_step is_text bytes place x xs s rest e h fits =
    let sum : length (x ++ concat xs) ≡ length x + length (concat xs) = length-append x (concat xs) in
    record {
      begins = string_begins is_text x s h;
      next = (place.0 + length x, place.1 + length s);
      gives = chunk_reads is_text place.0 place.1 bytes x s rest e h (omega arith);
      on = refl;
      fits = omega arith;
    }

-- a string in chunks, after its first byte
pub chunks_read : (is_text : Bool) (at : ℕ) (bytes content s rest : List ℕ) → drop at bytes ≡ s ++ rest → SpellsChunks is_text content s →
    chunks_at is_text (at + 1) bytes ≡ Ok (content, at + length s)
unfolding chunks_at
chunks_read is_text at bytes content s rest e h =
    let first : ℕ = indefinite (string_type is_text) in
    let whole : drop at bytes ≡ (first ∷ []) ++ (h.body ++ 255 ∷ rest) =
    e ∙ ap (λ t. t ++ rest) h.whole ∙ ap (λ t. first ∷ t) (append_assoc h.body (255 ∷ []) rest) in
    let after : drop (at + 1) bytes ≡ h.body ++ 255 ∷ rest = drop_on at bytes (first ∷ []) (h.body ++ 255 ∷ rest) whole in
    let all : at + 1 + length (h.body ++ 255 ∷ rest) ≡ length bytes = lies_within at bytes (first ∷ []) (h.body ++ 255 ∷ rest) whole (omega arith) in
    let few : length h.chunks ≤ length h.body = each_length (SpellsString is_text) (string_begins is_text) h.chunks h.body h.each in
    let fits : 0 + length (concat h.chunks) ≤ most_string = let l : length content ≡ length (concat h.chunks) = ap length h.joined in omega (arith, h.short) in
    let found = until_reads (SpellsString is_text) (λ (p : ℕ × ℕ). p.1) bytes (chunk_at is_text bytes) ChunksFit (chunk_step is_text bytes)
    h.chunks (length bytes) (0, at + 1) h.body rest (omega (arith, length-append h.body (255 ∷ rest))) after h.each fits in
    let sum : at + 1 + length h.body + 1 ≡ at + length s =
    let l : length s ≡ length (first ∷ (h.body ++ 255 ∷ [])) = ap length h.whole in omega (arith, length-append h.body (255 ∷ [])) in
    rw found (ap (λ n. Ok (concat h.chunks, n)) sum ∙ ap (λ c. Ok (c, at + length s)) (sym h.joined))
