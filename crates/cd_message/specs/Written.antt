-- Messages as they are written (RFC 1035 section 4): the names end in pointers where they can.
use Rattle.std.specs.Prelude.{ℕ, zero, suc, ◌+◌, Bool, ◌&&◌, nat_lt, nat_le, nat_eq, List, [], ◌∷◌, ◌++◌, length, take, drop, if◌then◌else◌, Option, Some, None}
use Rattle.std.specs.Option.{option_map, option_map_or, option_and_then}
use Rattle.std.specs.Int.{w16, w32, to_be_bytes}
use Rattle.cd_name.specs.NameSizes.{name_size}
use Rattle.cd_name.specs.WrittenNames.{Piece, Written, only_bytes, name_piece}
use Rattle.cd_message.specs.declared.message.Question.{Question}
use Rattle.cd_message.specs.declared.message.Rr.{Rr}
use Rattle.cd_message.specs.declared.message.Message.{Message}
use Rattle.cd_message.specs.declared.shape.Shape as kind
use Rattle.cd_message.specs.Shapes.{shape_of}

-- some bytes
abbrev pub bytes_piece : List ℕ → Piece
bytes_piece bytes standing at = only_bytes bytes

-- one piece and then another, before which the suffixes of the first stand
abbrev pub in_turn : Piece → Piece → Piece
in_turn first second standing at =
    let a : Written = first standing at in
    let b : Written = second (standing ++ a.suffixes) (at + length a.bytes) in
    record { bytes = a.bytes ++ b.bytes; suffixes = a.suffixes ++ b.suffixes }

-- a piece for each item, one after the other
unfoldable pub each_in_turn : {A : Type 0} → (A → Piece) → List A → Piece
each_in_turn piece [] = bytes_piece []
each_in_turn piece (x ∷ xs) = in_turn (piece x) (each_in_turn piece xs)

-- the length of a piece in two bytes, and the piece
abbrev pub with_length : Piece → Piece
with_length piece standing at =
    let w : Written = piece standing (at + 2) in
    record { bytes = to_be_bytes w16 (length w.bytes) ++ w.bytes; suffixes = w.suffixes }

-- so many names without pointers, with which some bytes begin, and the bytes after them
unfoldable pub names_in_front : ℕ → List ℕ → Option (List (List ℕ) × List ℕ)
names_in_front zero bytes = Some ([], bytes)
names_in_front (suc count) bytes =
    option_and_then (λ size. option_map (λ others. (take size bytes ∷ others.0, others.1)) (names_in_front count (drop size bytes))) (name_size bytes)

-- RDATA of a shape, in its parts
pub record RdataParts : Type 0 where
  pub before : List ℕ
  pub names : List (List ℕ)
  pub after : List ℕ

-- the parts of RDATA that fills a shape
abbrev pub parts_of_shape : kind.Shape → List ℕ → Option RdataParts
parts_of_shape s rdata =
    if nat_lt (length rdata) s.before then None
    else option_and_then (λ names. if nat_eq (length names.1) s.after then Some (record { before = take s.before rdata; names = names.0; after = names.1 }) else None)
    (names_in_front s.names (drop s.before rdata))

-- the parts of RDATA that fills a shape whose names are compressed (RFC 3597 4)
abbrev pub compressed_parts : Option kind.Shape → List ℕ → Option RdataParts
compressed_parts None rdata = None
compressed_parts (Some s) rdata = if s.compressed then parts_of_shape s rdata else None

-- RDATA in its parts
abbrev pub parts_piece : RdataParts → Piece
parts_piece parts = in_turn (bytes_piece parts.before) (in_turn (each_in_turn name_piece parts.names) (bytes_piece parts.after))

-- RDATA of a type: with compressed names, if it fills a shape whose names are compressed, and else as it is
unfoldable pub rdata_piece : ℕ → List ℕ → Piece
rdata_piece rtype rdata = option_map_or parts_piece (compressed_parts (shape_of rtype) rdata) (bytes_piece rdata)

-- a question: its name, type and class (RFC 1035 4.1.2)
unfoldable pub question_piece : Question → Piece
question_piece q = in_turn (name_piece q.name) (bytes_piece (to_be_bytes w16 q.rtype ++ to_be_bytes w16 q.rclass))

-- a record: its owner, type, class, TTL, the length of its RDATA and its RDATA (RFC 1035 4.1.3)
unfoldable pub record_piece : Rr → Piece
record_piece r =
    in_turn (name_piece r.owner) (in_turn (bytes_piece (to_be_bytes w16 r.rtype ++ to_be_bytes w16 r.rclass ++ to_be_bytes w32 r.ttl)) (with_length (rdata_piece r.rtype r.rdata)))

-- a header: ID, bits and the counts of the four sections (RFC 1035 4.1.1)
abbrev pub header_of : Message → List ℕ
header_of m =
    to_be_bytes w16 m.id ++ to_be_bytes w16 m.bits ++ to_be_bytes w16 (length m.questions) ++ to_be_bytes w16 (length m.answers) ++
    to_be_bytes w16 (length m.authority) ++ to_be_bytes w16 (length m.additional)

-- a message: its header, questions, answers, authority and additional records (RFC 1035 4.1)
unfoldable pub message_piece : Message → Piece
message_piece m =
    in_turn (bytes_piece (header_of m)) (in_turn (each_in_turn question_piece m.questions) (in_turn (each_in_turn record_piece m.answers)
    (in_turn (each_in_turn record_piece m.authority) (each_in_turn record_piece m.additional))))

-- the bytes of a message that is written where no bytes stand before it
abbrev pub written_message : Message → List ℕ
written_message m = (message_piece m [] 0).bytes

-- the sections of a message have at most 65,535 entries each
abbrev pub has_small_sections : Message → Bool
has_small_sections m =
    nat_le (length m.questions) 65535 && nat_le (length m.answers) 65535 && nat_le (length m.authority) 65535 && nat_le (length m.additional) 65535

-- the bytes of a message; none where a section has more than 65,535 entries, or they are more than 65,535
abbrev pub written_if_fits : Message → Option (List ℕ)
written_if_fits m = if has_small_sections m && nat_le (length (written_message m)) 65535 then Some (written_message m) else None
