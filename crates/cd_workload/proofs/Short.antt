-- The messages of a lookup have few bytes.
use Rattle.std.proofs.Common.{ℕ, zero, suc, ◌+◌, ◌≤◌, Bool, true, false, nat_eq, List, [], ◌∷◌, ◌++◌, length, Option, Some, None, if◌then◌else◌, arith, length-append}
use Rattle.std.specs.Int.{w16, w32, to_be_bytes}
use Rattle.std.specs.Option.{option_map_or}
use Rattle.cd_message.specs.declared.message.Rr.{Rr}
use Rattle.cd_message.specs.Shapes.{shape_of}
use Rattle.cd_message.specs.Written.{bytes_piece, in_turn, each_in_turn, with_length, rdata_piece, question_piece, record_piece, header_of, message_piece, written_message}
use Rattle.cd_name.specs.WrittenNames.{Suffix, Written, Piece, least_offset, pointer_to, suffix_at, only_bytes, label_then, name_from, name_piece}
use Rattle.cd_workload.specs.Workload.{name_of, question_of, answer_of, query_of, response_of}
use Rattle.cd_workload.specs.declared.lookup.Lookup.{Lookup}
use Rattle.cd_workload.proofs.SpelledNames.{name_of-short}

-- what is written has at most so many bytes, wherever it stands
abbrev pub IsAtMost : Piece → ℕ → Type 0
IsAtMost piece most = (standing : List Suffix) (at : ℕ) → length (piece standing at).bytes ≤ most

-- a choice of two
either_short : (b : Bool) (x y : Written) (most : ℕ) → length x.bytes ≤ most → length y.bytes ≤ most →
    length (if b then x else y).bytes ≤ most
either_short true x y most first second = first
either_short false x y most first second = second

-- a pointer, or else this
pointed_short : (o : Option ℕ) (y : Written) (most : ℕ) → 2 ≤ most → length y.bytes ≤ most →
    length (option_map_or (λ offset. only_bytes (pointer_to offset)) o y).bytes ≤ most
pointed_short None y most two other = other
pointed_short (Some offset) y most two other = two

-- a name is written in at most one byte more than it has
name_from-short : (standing : List Suffix) (at inside : ℕ) (name : List ℕ) →
    length (name_from standing at inside name).bytes ≤ length name + 1
unfolding name_from
name_from-short standing at inside [] = omega arith
name_from-short standing at (suc inside) (b ∷ bytes) = omega (arith, name_from-short standing (at + 1) inside bytes)
name_from-short standing at zero (n ∷ bytes) =
    let rest : Written = name_from standing (at + 1) n bytes in
    let labels : Written = label_then (suffix_at (n ∷ bytes) at) n rest in
    let short : length labels.bytes ≤ length (n ∷ bytes) + 1 = omega (arith, name_from-short standing (at + 1) n bytes) in
    either_short (nat_eq n 0) (only_bytes (n ∷ bytes))
    (option_map_or (λ offset. only_bytes (pointer_to offset)) (least_offset standing (n ∷ bytes)) labels) (length (n ∷ bytes) + 1)
    (omega arith) (pointed_short (least_offset standing (n ∷ bytes)) labels (length (n ∷ bytes) + 1) (omega arith) short)

-- the name of a lookup
name_short : (drawn : ℕ) → IsAtMost (name_piece (name_of drawn)) 15
name_short drawn standing at = omega (arith, name_from-short standing at zero (name_of drawn), name_of-short drawn)

-- two pieces
in_turn_short : (first second : Piece) (a b : ℕ) → IsAtMost first a → IsAtMost second b →
    IsAtMost (in_turn first second) (a + b)
in_turn_short first second a b one other standing at =
    let w : Written = first standing at in
    let v : Written = second (standing ++ w.suffixes) (at + length w.bytes) in
    let f : length w.bytes ≤ a = one standing at in
    let s : length v.bytes ≤ b = other (standing ++ w.suffixes) (at + length w.bytes) in
    omega (arith, f, s, length-append w.bytes v.bytes)

-- some bytes
bytes_short : (bytes : List ℕ) (most : ℕ) → length bytes ≤ most → IsAtMost (bytes_piece bytes) most
bytes_short bytes most few standing at = few

-- no item, and one
none_short : {A : Type 0} (piece : A → Piece) → IsAtMost (each_in_turn piece []) 0
unfolding each_in_turn
none_short piece standing at = omega arith

one_short : {A : Type 0} (piece : A → Piece) (x : A) (most : ℕ) → IsAtMost (piece x) most →
    IsAtMost (each_in_turn piece (x ∷ [])) (most + 0)
unfolding each_in_turn
one_short piece x most short = in_turn_short (piece x) (each_in_turn piece []) most 0 short (none_short piece)

-- type A and class IN
abbrev type_and_class : List ℕ
type_and_class = to_be_bytes w16 1 ++ to_be_bytes w16 1

-- the question
question_short : (drawn : ℕ) → IsAtMost (question_piece (question_of drawn)) (15 + 4)
unfolding question_piece
question_short drawn =
    in_turn_short (name_piece (name_of drawn)) (bytes_piece type_and_class) 15 4 (name_short drawn) (bytes_short type_and_class 4 (omega arith))

-- the address of the answer, after its length
rdata_short : (drawn : ℕ) → IsAtMost (with_length (rdata_piece 1 (answer_of drawn).rdata)) 6
unfolding rdata_piece shape_of
rdata_short drawn standing at = omega arith

-- the answer
answer_short : (drawn : ℕ) → IsAtMost (record_piece (answer_of drawn)) (15 + (8 + 6))
unfolding record_piece
answer_short drawn =
    let numbers : List ℕ = type_and_class ++ to_be_bytes w32 300 in
    let rdata : Piece = with_length (rdata_piece 1 (answer_of drawn).rdata) in
    in_turn_short (name_piece (name_of drawn)) (in_turn (bytes_piece numbers) rdata) 15 (8 + 6) (name_short drawn)
    (in_turn_short (bytes_piece numbers) rdata 8 6 (bytes_short numbers 8 (omega arith)) (rdata_short drawn))

-- no records of two sections
abbrev no_more : Piece
no_more = in_turn (each_in_turn record_piece []) (each_in_turn record_piece [])

-- a message of one question, of these answers and of no other records
abbrev message_of : List ℕ → ℕ → List Rr → Piece
message_of header drawn answers =
    in_turn (bytes_piece header) (in_turn (each_in_turn question_piece (question_of drawn ∷ []))
    (in_turn (each_in_turn record_piece answers) no_more))

message_short : (header : List ℕ) (drawn : ℕ) (answers : List Rr) (most : ℕ) → length header ≤ 12 →
    IsAtMost (each_in_turn record_piece answers) most → IsAtMost (message_of header drawn answers) (31 + most)
message_short header drawn answers most few short standing at =
    let none : Piece = each_in_turn record_piece [] in
    let given : Piece = each_in_turn record_piece answers in
    let asked : Piece = each_in_turn question_piece (question_of drawn ∷ []) in
    let last : IsAtMost no_more (0 + 0) = in_turn_short none none 0 0 (none_short record_piece) (none_short record_piece) in
    let records : IsAtMost (in_turn given no_more) (most + (0 + 0)) = in_turn_short given no_more most (0 + 0) short last in
    let question : IsAtMost asked (15 + 4 + 0) = one_short question_piece (question_of drawn) (15 + 4) (question_short drawn) in
    let sections : IsAtMost (in_turn asked (in_turn given no_more)) (15 + 4 + 0 + (most + (0 + 0))) =
    in_turn_short asked (in_turn given no_more) (15 + 4 + 0) (most + (0 + 0)) question records in
    let all = in_turn_short (bytes_piece header) (in_turn asked (in_turn given no_more)) 12 (15 + 4 + 0 + (most + (0 + 0)))
    (bytes_short header 12 few) sections standing at in
    omega (arith, all)

-- a query has at most 31 bytes
pub query_short : (l : Lookup) → length (written_message (query_of l)) ≤ 31
unfolding message_piece
query_short l = message_short (header_of (query_of l)) l.drawn [] 0 (omega arith) (none_short record_piece) [] 0

-- a response has at most 60
pub response_short : (l : Lookup) → length (written_message (response_of l)) ≤ 60
unfolding message_piece
response_short l =
    message_short (header_of (response_of l)) l.drawn (answer_of l.drawn ∷ []) (15 + (8 + 6) + 0) (omega arith)
    (one_short record_piece (answer_of l.drawn) (15 + (8 + 6)) (answer_short l.drawn)) [] 0
