-- RDATA that is written is read as itself.
use Rattle.std.proofs.Common.{◌≡◌, ℕ, ◌+◌, ◌-◌, ◌≤◌, Bool, true, false, cond, List, [], ◌∷◌, ◌++◌, length, Option, None, Some, inl, inr, refl, ap, sym, ◌∙◌, subst, arith, append_assoc, add-zero}
use Rattle.std.specs.List.{concat}
use Rattle.std.specs.Option.{option_map_or}
use Rattle.std.proofs.lemmas.Bool.{cases_eq}
use Rattle.std.proofs.lemmas.List.{nil_from_length}
use Rattle.std.proofs.lemmas.List.Elements.{All-weaker}
use Rattle.std.proofs.lemmas.Option.{none-some}
use Rattle.cd_name.specs.Names.{IsName, NameAt}
use Rattle.cd_name.specs.WrittenNames.{Suffix, Piece, Written, only_bytes, name_piece}
use Rattle.cd_name.proofs.Names.{names_are_names}
use Rattle.cd_name.proofs.Plain.{plain_names}
use Rattle.cd_message.specs.declared.shape.Shape as kind
use Rattle.cd_message.specs.Messages.{bytes_at}
use Rattle.cd_message.specs.Shapes.{shape_of}
use Rattle.cd_message.specs.Rules.{ReadsEach, none, one_more, RdataNameAt, ReadsRdata, empty, any_bytes, shaped}
use Rattle.cd_message.specs.Valid.{FillsShape, KeepsShape}
use Rattle.cd_message.specs.Written.{RdataParts, bytes_piece, in_turn, each_in_turn, parts_piece, parts_of_shape, compressed_parts, rdata_piece}
use Rattle.cd_message.proofs.Fields.{BytesAt}
use Rattle.cd_message.proofs.RdataParts.{same_parts, parts_fill_shapes}
use Rattle.cd_message.proofs.PieceReadings.{IsRead, IsReadAs, ReadsInTurn, ReadsItems, read_otherwise, same_piece_is_read, bytes_are_read, name_is_read, in_turn_are_read, each_in_turn_is_read}

-- a piece is read as the RDATA of a type
abbrev pub RdataIsRead : ℕ → List ℕ → Piece → Type 0
RdataIsRead rtype rdata piece = IsRead (λ p at end. ReadsRdata p rtype at end rdata) piece

-- names that are read one after the other end as many bytes after the first at least
names_take_bytes : (p : List ℕ) {count at : ℕ} {names : List (List ℕ)} {end : ℕ} → ReadsEach (NameAt p) count at names end → at + length names ≤ end
names_take_bytes p (none at) = omega arith
names_take_bytes p (one_more count at next end name names first others) =
    let n = names_are_names p at name next first in omega (arith, n.1, names_take_bytes p others)

-- names that end before an offset are names of RDATA that ends there
names_of_rdata : (p : List ℕ) (last : ℕ) {count at : ℕ} {names : List (List ℕ)} {end : ℕ} → ReadsEach (NameAt p) count at names end → end ≤ last →
    ReadsEach (RdataNameAt p last) count at names end
names_of_rdata p last (none at) within = none at
names_of_rdata p last (one_more count at next end name names first others) within =
    one_more count at next end name names (first, omega (arith, names_take_bytes p others)) (names_of_rdata p last others within)

-- how the parts of RDATA stand one after the other
abbrev PartsAt : RdataParts → List ℕ → ℕ → ℕ → Type 0
PartsAt parts = ReadsInTurn (BytesAt parts.before) (ReadsInTurn (ReadsItems NameAt parts.names) (BytesAt parts.after))

-- no bytes, no names and no bytes are no bytes
no_parts : (before : List ℕ) (names : List (List ℕ)) (after : List ℕ) → length before ≡ 0 → length names ≡ 0 → length after ≡ 0 → before ++ concat names ++ after ≡ []
no_parts before names after b n h = rw (nil_from_length before b, nil_from_length names n, nil_from_length after h) refl

-- the parts that fill a shape
abbrev parts_of : {s : kind.Shape} {rdata : List ℕ} → FillsShape s rdata → RdataParts
parts_of fills = record { before = fills.before; names = fills.names; after = fills.after }

-- where the parts that fill a shape stand, the RDATA stands
filled_rdata : (rtype : ℕ) (s : kind.Shape) (rdata : List ℕ) (fills : FillsShape s rdata) → shape_of rtype ≡ Some s → (p : List ℕ) (at end : ℕ) →
    PartsAt (parts_of fills) p at end → ReadsRdata p rtype at end rdata
filled_rdata rtype s rdata fills is p at end parts =
    let start : ℕ = parts.0 in
    let stop : ℕ = parts.2.0 in
    let many = names_take_bytes p parts.2.1 in
    let size = fills.before_size in
    let number = fills.names_count in
    let size_after = fills.after_size in
    elim (cases_eq at end) [
      | inl same ↦ empty same (fills.is_all ∙ no_parts fills.before fills.names fills.after (omega arith) (omega arith) (omega arith))
      | inr apart ↦
          (let place : start ≡ at + s.before = omega arith in
          let names : ReadsEach (RdataNameAt p end) s.names (at + s.before) fills.names stop =
          subst (λ k. ReadsEach (RdataNameAt p end) s.names k fills.names stop) place
          (subst (λ k. ReadsEach (RdataNameAt p end) k start fills.names stop) number (names_of_rdata p end parts.2.1 (omega arith))) in
          let front : bytes_at p at s.before ≡ fills.before = ap (λ k. bytes_at p at k) (sym size) ∙ parts.1.0 in
          let back : bytes_at p stop s.after ≡ fills.after = ap (λ k. bytes_at p stop k) (sym size_after) ∙ parts.2.2.0 in
          shaped s fills.names stop apart is (omega arith) names (omega arith)
          (fills.is_all ∙ ap (λ t. t ++ concat fills.names ++ fills.after) (sym front) ∙ ap (λ t. bytes_at p at s.before ++ concat fills.names ++ t) (sym back)))
    ]

-- parts that fill a shape are read as the RDATA, however the names are written that are read as themselves
filled_piece_is_read : (piece : List ℕ → Piece) → ((name : List ℕ) → IsName name → IsReadAs NameAt name (piece name)) →
    (rtype : ℕ) (s : kind.Shape) (rdata : List ℕ) (fills : FillsShape s rdata) → shape_of rtype ≡ Some s →
    RdataIsRead rtype rdata (in_turn (bytes_piece fills.before) (in_turn (each_in_turn piece fills.names) (bytes_piece fills.after)))
filled_piece_is_read piece read rtype s rdata fills is =
    read_otherwise (λ p at end within parts. filled_rdata rtype s rdata fills is p at end parts)
    (in_turn_are_read (bytes_are_read fills.before)
    (in_turn_are_read (each_in_turn_is_read NameAt piece fills.names (All-weaker IsName (λ name. IsReadAs NameAt name (piece name)) read fills.names fills.are_names))
    (bytes_are_read fills.after)))

-- a name that is written without pointers is read as itself
plain_name_is_read : (name : List ℕ) → IsName name → IsReadAs NameAt name (bytes_piece name)
plain_name_is_read name is = record {
  after = λ bytes standing are size. record { reads = λ more. plain_names bytes name more is; suffixes = ((bytes_are_read name).after bytes standing are size).suffixes };
}

-- names that are written without pointers are their bytes
plain_names_are_bytes : (names : List (List ℕ)) (standing : List Suffix) (at : ℕ) → each_in_turn bytes_piece names standing at ≡ only_bytes (concat names)
unfolding each_in_turn
plain_names_are_bytes [] standing at = refl
plain_names_are_bytes (name ∷ others) standing at =
    ap (λ (w : Written). record { bytes = name ++ w.bytes; suffixes = w.suffixes }) (plain_names_are_bytes others (standing ++ []) (at + length name))

-- RDATA that fills a shape is read as itself where its bytes stand
plain_rdata_is_read : (rtype : ℕ) (s : kind.Shape) (rdata : List ℕ) → FillsShape s rdata → shape_of rtype ≡ Some s → RdataIsRead rtype rdata (bytes_piece rdata)
plain_rdata_is_read rtype s rdata fills is =
    let group : fills.before ++ (concat fills.names ++ fills.after) ≡ rdata = sym (fills.is_all ∙ append_assoc fills.before (concat fills.names) fills.after) in
    same_piece_is_read
    (λ standing at.
    ap (λ (w : Written). record { bytes = fills.before ++ (w.bytes ++ fills.after); suffixes = w.suffixes ++ [] })
    (plain_names_are_bytes fills.names (standing ++ []) (at + length fills.before)) ∙ ap only_bytes group)
    (filled_piece_is_read bytes_piece plain_name_is_read rtype s rdata fills is)

-- no RDATA is read as itself
no_rdata_is_read : (rtype : ℕ) → RdataIsRead rtype [] (bytes_piece [])
no_rdata_is_read rtype = read_otherwise (λ p at end within there. empty (sym (there.1 ∙ add-zero at)) refl) (bytes_are_read [])

-- RDATA without a shape is read as itself
any_rdata_is_read : (rtype : ℕ) (rdata : List ℕ) → shape_of rtype ≡ None → RdataIsRead rtype rdata (bytes_piece rdata)
any_rdata_is_read rtype rdata is =
    read_otherwise (λ p at end within there.
    let ends = there.1 in
    elim (cases_eq at end) [
      | inl same ↦ empty same (nil_from_length rdata (omega arith))
      | inr apart ↦ (let size : end - at ≡ length rdata = omega arith in any_bytes apart is (sym there.0 ∙ ap (λ k. bytes_at p at k) (sym size)))
    ]) (bytes_are_read rdata)

-- RDATA that keeps a shape is read as itself where its bytes stand
kept_rdata_is_read : (rtype : ℕ) (s : kind.Shape) (rdata : List ℕ) → KeepsShape (Some s) rdata → shape_of rtype ≡ Some s → RdataIsRead rtype rdata (bytes_piece rdata)
kept_rdata_is_read rtype s [] keeps is = no_rdata_is_read rtype
kept_rdata_is_read rtype s (b ∷ bytes) keeps is = plain_rdata_is_read rtype s (b ∷ bytes) keeps is

-- an option that is there if a test holds
if_else_none : {A : Type 0} (b : Bool) (o : Option A) (x : A) → cond b o None ≡ Some x → o ≡ Some x
if_else_none true o x h = h
if_else_none false o x h = absurd (none-some x h)

-- RDATA is read as itself, in its parts or as it is
parts_are_read : (rtype : ℕ) (s : kind.Shape) (rdata : List ℕ) → KeepsShape (Some s) rdata → shape_of rtype ≡ Some s → (parts : Option RdataParts) → compressed_parts (Some s) rdata ≡ parts →
    RdataIsRead rtype rdata (option_map_or parts_piece parts (bytes_piece rdata))
parts_are_read rtype s rdata keeps is None h = kept_rdata_is_read rtype s rdata keeps is
parts_are_read rtype s rdata keeps is (Some parts) h =
    let filling = (parts_fill_shapes s rdata parts).0 (if_else_none s.compressed (parts_of_shape s rdata) parts h) in
    subst (λ q. RdataIsRead rtype rdata (parts_piece q)) (same_parts filling.1 filling.2 filling.3)
    (filled_piece_is_read name_piece name_is_read rtype s rdata filling.0 is)

-- RDATA that keeps the shape of its type is read as itself
shaped_rdata_is_read : (rtype : ℕ) (shape : Option kind.Shape) (rdata : List ℕ) → KeepsShape shape rdata → shape_of rtype ≡ shape →
    RdataIsRead rtype rdata (option_map_or parts_piece (compressed_parts shape rdata) (bytes_piece rdata))
shaped_rdata_is_read rtype None rdata keeps is = any_rdata_is_read rtype rdata is
shaped_rdata_is_read rtype (Some s) rdata keeps is = parts_are_read rtype s rdata keeps is (compressed_parts (Some s) rdata) refl

-- RDATA that keeps the shape of its type is read as itself
pub rdata_is_read : (rtype : ℕ) (rdata : List ℕ) → KeepsShape (shape_of rtype) rdata → RdataIsRead rtype rdata (rdata_piece rtype rdata)
unfolding rdata_piece
rdata_is_read rtype rdata keeps = shaped_rdata_is_read rtype (shape_of rtype) rdata keeps refl
