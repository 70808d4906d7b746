-- Pieces that are written one after the other are read one after the other.
use Rattle.std.proofs.Common.{◌≡◌, ℕ, zero, ◌+◌, ◌<◌, ◌≤◌, ◌^◌, List, [], ◌∷◌, ◌++◌, length, take, drop, refl, ap, sym, ◌∙◌, subst, arith, append_assoc, length-append, add-zero}
use Rattle.std.specs.List.{All}
use Rattle.std.specs.Int.{w16, to_be_bytes}
use Rattle.std.proofs.lemmas.List.{append-nil}
use Rattle.std.proofs.lemmas.List.Elements.{All-head, All-tail, All-weaker}
use Rattle.std.proofs.Math.Seq.{drop-append_seam, take-append_seam}
use Rattle.cd_name.specs.Names.{IsName, NameAt}
use Rattle.cd_name.specs.WrittenNames.{Suffix, Piece, Written, name_piece, SuffixesAreRead}
use Rattle.cd_name.proofs.Longer.{names_stay}
use Rattle.cd_name.proofs.WrittenRead.{written_names_are_read}
use Rattle.cd_bytes.specs.Numbers.{be16}
use Rattle.cd_message.specs.Rules.{ReadsEach, none, one_more}
use Rattle.cd_message.specs.Written.{bytes_piece, in_turn, each_in_turn, with_length}
use Rattle.cd_message.proofs.Fields.{BytesAt, first_word_there, word_of_number}

-- What is written after some bytes is read there, whatever stands after it, and the suffixes that stand are read.
pub record WrittenIsRead (Reads : List ℕ → ℕ → ℕ → Type 0) (bytes : List ℕ) (standing : List Suffix) (w : Written) : Type 0 where
  pub reads : (more : List ℕ) → Reads (bytes ++ w.bytes ++ more) (length bytes) (length bytes + length w.bytes)
  pub suffixes : SuffixesAreRead (bytes ++ w.bytes) (standing ++ w.suffixes)

-- A piece of at most 65,535 bytes is read after any bytes in which the suffixes that stand are read.
pub record IsRead (Reads : List ℕ → ℕ → ℕ → Type 0) (piece : Piece) : Type 0 where
  pub after : (bytes : List ℕ) (standing : List Suffix) → SuffixesAreRead bytes standing → length (piece standing (length bytes)).bytes ≤ 65535 →
      WrittenIsRead Reads bytes standing (piece standing (length bytes))

-- a piece is read as an item
abbrev pub IsReadAs : {A : Type 0} → (List ℕ → ℕ → A → ℕ → Type 0) → A → Piece → Type 0
IsReadAs Reads x piece = IsRead (λ p at next. Reads p at x next) piece

-- one reading and then another after it
abbrev pub ReadsInTurn : (List ℕ → ℕ → ℕ → Type 0) → (List ℕ → ℕ → ℕ → Type 0) → List ℕ → ℕ → ℕ → Type 0
ReadsInTurn First Second p at next = (middle : ℕ) × First p at middle × Second p middle next

-- items one after the other
abbrev pub ReadsItems : {A : Type 0} → (List ℕ → ℕ → A → ℕ → Type 0) → List A → List ℕ → ℕ → ℕ → Type 0
ReadsItems Reads items p at next = ReadsEach (Reads p) (length items) at items next

-- suffixes that are read are read with more bytes after
suffixes_stay : (bytes more : List ℕ) (standing : List Suffix) → SuffixesAreRead bytes standing → SuffixesAreRead (bytes ++ more) standing
suffixes_stay bytes more standing are =
    All-weaker (λ s. (s.offset < 16384) × ((next : ℕ) × NameAt bytes s.offset s.name next)) (λ s. (s.offset < 16384) × ((next : ℕ) × NameAt (bytes ++ more) s.offset s.name next))
    (λ s h. (h.0, (h.1.0, names_stay bytes more s.offset s.name h.1.0 h.1.1))) standing are

-- what is read in one way is read in another that follows from it
pub read_otherwise : {Reads Others : List ℕ → ℕ → ℕ → Type 0} {piece : Piece} → ((p : List ℕ) (at next : ℕ) → next ≤ length p → Reads p at next → Others p at next) →
    IsRead Reads piece → IsRead Others piece
read_otherwise {Reads} {Others} {piece} follows is = record {
  after = λ bytes standing are size.
      (let w : Written = piece standing (length bytes) in
      let one = is.after bytes standing are size in
      record {
        reads = λ more. follows (bytes ++ w.bytes ++ more) (length bytes) (length bytes + length w.bytes)
            (omega (arith, length-append (bytes ++ w.bytes) more, length-append bytes w.bytes)) (one.reads more);
        suffixes = one.suffixes;
      });
}

-- pieces that write the same are read as the same
pub same_piece_is_read : {Reads : List ℕ → ℕ → ℕ → Type 0} {piece other : Piece} → ((standing : List Suffix) (at : ℕ) → piece standing at ≡ other standing at) →
    IsRead Reads piece → IsRead Reads other
same_piece_is_read {Reads} {piece} {other} same is = record {
  after = λ bytes standing are size.
      (let e = same standing (length bytes) in
      subst (λ w. WrittenIsRead Reads bytes standing w) e (is.after bytes standing are (subst (λ w. length w.bytes ≤ 65535) (sym e) size)));
}

-- some bytes are read as themselves
pub bytes_are_read : (b : List ℕ) → IsRead (BytesAt b) (bytes_piece b)
bytes_are_read b = record {
  after = λ bytes standing are size. record {
    reads = λ more.
        (let back : drop (length bytes) ((bytes ++ b) ++ more) ≡ b ++ more = ap (λ t. drop (length bytes) t) (append_assoc bytes b more) ∙ drop-append_seam bytes (b ++ more) in
        (ap (λ t. take (length b) t) back ∙ take-append_seam b more, refl));
    suffixes = subst (λ s. SuffixesAreRead (bytes ++ b) s) (sym (append-nil standing)) (suffixes_stay bytes b standing are);
  };
}

-- a name is read as itself
pub name_is_read : (name : List ℕ) → IsName name → IsReadAs NameAt name (name_piece name)
name_is_read name is = record {
  after = λ bytes standing are size.
      (let w : Written = name_piece name standing (length bytes) in
      let read = written_names_are_read bytes standing name (bytes ++ w.bytes) (standing ++ w.suffixes) are is (record { bytes = refl; suffixes = refl }) in
      let own : NameAt (bytes ++ w.bytes) (length bytes) name (length bytes + length w.bytes) =
      subst (λ next. NameAt (bytes ++ w.bytes) (length bytes) name next) (length-append bytes w.bytes) read.0 in
      record { reads = λ more. names_stay (bytes ++ w.bytes) more (length bytes) name (length bytes + length w.bytes) own; suffixes = read.1 });
}

-- two pieces are read one after the other
pub in_turn_are_read : {First Second : List ℕ → ℕ → ℕ → Type 0} {first second : Piece} → IsRead First first → IsRead Second second →
    IsRead (ReadsInTurn First Second) (in_turn first second)
in_turn_are_read {First} {Second} {first} {second} is_first is_second = record {
  after = λ bytes standing are size.
      (let a : Written = first standing (length bytes) in
      let here : List ℕ = bytes ++ a.bytes in
      let all : List Suffix = standing ++ a.suffixes in
      let b : Written = second all (length bytes + length a.bytes) in
      let place : length here ≡ length bytes + length a.bytes = length-append bytes a.bytes in
      let sizes : length (a.bytes ++ b.bytes) ≡ length a.bytes + length b.bytes = length-append a.bytes b.bytes in
      let small : length b.bytes ≤ 65535 = omega arith in
      let one = is_first.after bytes standing are (omega arith) in
      let two : WrittenIsRead Second here all b =
      subst (λ k. WrittenIsRead Second here all (second all k)) place
      (is_second.after here all one.suffixes (subst (λ k. length (second all k).bytes ≤ 65535) (sym place) small)) in
      let group : here ++ b.bytes ≡ bytes ++ (a.bytes ++ b.bytes) = append_assoc bytes a.bytes b.bytes in
      record {
        reads = λ more.
            (let p : List ℕ = bytes ++ (a.bytes ++ b.bytes) ++ more in
            let whole : here ++ (b.bytes ++ more) ≡ p = sym (append_assoc here b.bytes more) ∙ ap (λ t. t ++ more) group in
            let end : length here + length b.bytes ≡ length bytes + length (a.bytes ++ b.bytes) = omega arith in (
              length bytes + length a.bytes,
              subst (λ t. First t (length bytes) (length bytes + length a.bytes)) whole (one.reads (b.bytes ++ more)),
              subst (λ t. Second t (length bytes + length a.bytes) (length bytes + length (a.bytes ++ b.bytes))) (ap (λ t. t ++ more) group)
                  (subst (λ k. Second (here ++ b.bytes ++ more) k (length bytes + length (a.bytes ++ b.bytes))) place
                  (subst (λ k. Second (here ++ b.bytes ++ more) (length here) k) end (two.reads more))),
            ));
        suffixes = subst (λ t. SuffixesAreRead t (standing ++ (a.suffixes ++ b.suffixes))) group
            (subst (λ s. SuffixesAreRead (here ++ b.bytes) s) (append_assoc standing a.suffixes b.suffixes) two.suffixes);
      });
}

-- pieces of items are read as the items, one after the other
pub each_in_turn_is_read : {A : Type 0} (Reads : List ℕ → ℕ → A → ℕ → Type 0) (piece : A → Piece) (items : List A) → All (λ x. IsReadAs Reads x (piece x)) items →
    IsRead (ReadsItems Reads items) (each_in_turn piece items)
unfolding each_in_turn
each_in_turn_is_read {A} Reads piece [] are = read_otherwise (λ p at next within none_there. subst (λ k. ReadsEach (Reads p) zero at [] k) (sym (none_there.1 ∙ add-zero at)) (none at)) (bytes_are_read [])
each_in_turn_is_read {A} Reads piece (x ∷ xs) are =
    let P : A → Type 0 = λ x. IsReadAs Reads x (piece x) in
    read_otherwise (λ p at next within both. one_more (length xs) at both.0 next x xs both.1 both.2)
    (in_turn_are_read (All-head P x xs are) (each_in_turn_is_read Reads piece xs (All-tail P x xs are)))

-- two bytes tell where a reading ends that begins after them
abbrev pub ReadsWithLength : (List ℕ → ℕ → ℕ → Type 0) → List ℕ → ℕ → ℕ → Type 0
ReadsWithLength Reads p at next = (next ≡ at + 2 + be16 at p) × Reads p (at + 2) next

-- a piece with its length before it is read after that
pub with_length_is_read : {Reads : List ℕ → ℕ → ℕ → Type 0} {piece : Piece} → IsRead Reads piece → IsRead (ReadsWithLength Reads) (with_length piece)
with_length_is_read {Reads} {piece} is = record {
  after = λ bytes standing are size.
      (let w : Written = piece standing (length bytes + 2) in
      let head : List ℕ = to_be_bytes w16 (length w.bytes) in
      let small : length w.bytes < 2 ^ 16 = omega arith in
      let same : in_turn (bytes_piece head) piece standing (length bytes) ≡ with_length piece standing (length bytes) =
      ap (λ s. record { bytes = head ++ (piece s (length bytes + 2)).bytes; suffixes = (piece s (length bytes + 2)).suffixes }) (append-nil standing) in
      let parts : WrittenIsRead (ReadsInTurn (BytesAt head) Reads) bytes standing (with_length piece standing (length bytes)) =
      subst (λ v. WrittenIsRead (ReadsInTurn (BytesAt head) Reads) bytes standing v) same
      ((in_turn_are_read (bytes_are_read head) is).after bytes standing are (subst (λ v. length v.bytes ≤ 65535) (sym same) size)) in
      record {
        reads = λ more.
            (let both = parts.reads more in
            let p : List ℕ = bytes ++ (head ++ w.bytes) ++ more in
            let next : ℕ = length bytes + length (head ++ w.bytes) in
            let told : be16 (length bytes) p ≡ length w.bytes = first_word_there head p (length bytes) both.1.0 (omega arith) ∙ word_of_number (length w.bytes) small in
            (omega arith, subst (λ k. Reads p k next) both.1.1 both.2));
        suffixes = parts.suffixes;
      });
}
