-- Pieces that are written one after the other.
use Rattle.std.proofs.Common.{◌≡◌, ℕ, ◌+◌, ◌<◌, ◌≤◌, List, [], ◌∷◌, ◌++◌, length, take, drop, get_or, Result, Ok, Err, sym, ap, ◌∙◌, arith, append_assoc, length-append, subst}
use Rattle.std.specs.List.{All}
use Rattle.std.specs.Result.{IsErr, IsErrAnd}
use Rattle.std.proofs.lemmas.Bool.{false≢true}
use Rattle.std.proofs.lemmas.List.{append-nil, drop_more, drop_all, take_all, take_more}
use Rattle.std.proofs.lemmas.List.Elements.{All-nil, All-cons, All-append}
use Rattle.cd_name.specs.WrittenNames.{Suffix, Written, Piece, Writes}
use Rattle.cd_message.specs.declared.writing.Writing.{Writing}
use Rattle.cd_message.specs.declared.writing.WriteFault.{WriteFault}
use Rattle.cd_message.specs.declared.writing.WriteFault.TheVariants.{TooLong, NoMemory}
use Rattle.cd_message.specs.Putting.{Puts}
use Rattle.cd_message.specs.Written.{bytes_piece, in_turn, each_in_turn}

-- two pieces that are written one after the other are one
writes_in_turn : (a b : Piece) (b0 b1 b2 : List ℕ) (n0 n1 n2 : List Suffix) → Writes a b0 n0 b1 n1 → Writes b b1 n1 b2 n2 → Writes (in_turn a b) b0 n0 b2 n2
writes_in_turn a b b0 b1 b2 n0 n1 n2 first second =
    let x : Written = a n0 (length b0) in
    let at : length b1 ≡ length b0 + length x.bytes = ap length first.bytes ∙ length-append b0 x.bytes in
    let y_is : b n1 (length b1) ≡ b (n0 ++ x.suffixes) (length b0 + length x.bytes) = ap (λ n. b n (length b1)) first.suffixes ∙ ap (λ k. b (n0 ++ x.suffixes) k) at in
    record {
      bytes = second.bytes ∙ ap (λ t. t ++ (b n1 (length b1)).bytes) first.bytes ∙ append_assoc b0 x.bytes (b n1 (length b1)).bytes ∙ ap (λ (w : Written). b0 ++ (x.bytes ++ w.bytes)) y_is;
      suffixes = second.suffixes ∙ ap (λ t. t ++ (b n1 (length b1)).suffixes) first.suffixes ∙ append_assoc n0 x.suffixes (b n1 (length b1)).suffixes
          ∙ ap (λ (w : Written). n0 ++ (x.suffixes ++ w.suffixes)) y_is;
    }

-- a call that writes a piece after another
pub puts_in_turn : (a b : Piece) (s0 s1 s2 : Writing) (r : Result (Unit {0}) WriteFault) → Puts a s0 s1 (Ok tt) → Puts b s1 s2 r → Puts (in_turn a b) s0 s2 r
puts_in_turn a b s0 s1 s2 (Ok _) first second = (writes_in_turn a b s0.bytes s1.bytes s2.bytes s0.names s1.names s2.names first.0 second.0, second.1)
puts_in_turn a b s0 s1 s2 (Err TooLong) first second =
    let x : Written = a s0.names (length s0.bytes) in
    let at : length s1.bytes ≡ length s0.bytes + length x.bytes = ap length first.0.bytes ∙ length-append s0.bytes x.bytes in
    let y_is : b s1.names (length s1.bytes) ≡ b (s0.names ++ x.suffixes) (length s0.bytes + length x.bytes) =
    ap (λ n. b n (length s1.bytes)) first.0.suffixes ∙ ap (λ k. b (s0.names ++ x.suffixes) k) at in
    let size = ap (λ (w : Written). length w.bytes) y_is in
    omega (arith, second, at, size, length-append x.bytes (b (s0.names ++ x.suffixes) (length s0.bytes + length x.bytes)).bytes)
puts_in_turn a b s0 s1 s2 (Err NoMemory) first second = tt

-- a call that fails to write the first of two pieces
pub puts_first_fails : (a b : Piece) (s0 s1 : Writing) (e : WriteFault) → Puts a s0 s1 (Err e) → Puts (in_turn a b) s0 s1 (Err e)
puts_first_fails a b s0 s1 TooLong fails =
    let x : Written = a s0.names (length s0.bytes) in
    omega (arith, fails, length-append x.bytes (b (s0.names ++ x.suffixes) (length s0.bytes + length x.bytes)).bytes)
puts_first_fails a b s0 s1 NoMemory fails = tt

-- nothing more is written
pub puts_none : (s : Writing) → length s.bytes ≤ 65535 → Puts (bytes_piece []) s s (Ok tt)
puts_none s short = (record { bytes = sym (append-nil s.bytes); suffixes = sym (append-nil s.names) }, short)

-- the same where `?` hands the fault on
pub puts_hands_on : (a b : Piece) (s0 s1 : Writing) (e : WriteFault) (r : Result (Unit {0}) WriteFault) → Puts a s0 s1 (Err e) → IsErr r × IsErrAnd r (λ f. f ≡ e) → Puts (in_turn a b) s0 s1 r
puts_hands_on a b s0 s1 e (Ok _) fails handed = absurd (false≢true handed.0)
puts_hands_on a b s0 s1 e (Err f) fails handed = rw handed.1 (puts_first_fails a b s0 s1 e fails)

-- a piece of what is the same is the same
pub puts_as : {A : Type 0} (piece : A → Piece) (x y : A) (s0 s1 : Writing) (r : Result (Unit {0}) WriteFault) → x ≡ y → Puts (piece x) s0 s1 r → Puts (piece y) s0 s1 r
puts_as piece x y s0 s1 r same puts = subst (λ z. Puts (piece z) s0 s1 r) same puts

-- a call that writes the rest from here on has written all from the start
abbrev pub WritesRest : Piece → Piece → Writing → Writing → Type 0
WritesRest all rest start here = (end : Writing) (r : Result (Unit {0}) WriteFault) → Puts rest here end r → Puts all start end r

-- after the first of two pieces the second is the rest
pub rest_in_turn : (all a b : Piece) (start here next : Writing) → WritesRest all (in_turn a b) start here → Puts a here next (Ok tt) → WritesRest all b start next
rest_in_turn all a b start here next rest first = λ end r second. rest end r (puts_in_turn a b here next end r first second)

-- where the first of two pieces is not written, neither are all
pub rest_hands_on : (all a b : Piece) (start here next : Writing) (e : WriteFault) (r : Result (Unit {0}) WriteFault) → WritesRest all (in_turn a b) start here →
    Puts a here next (Err e) → IsErr r × IsErrAnd r (λ f. f ≡ e) → Puts all start next r
rest_hands_on all a b start here next e r rest fails handed = rest next r (puts_hands_on a b here next e r fails handed)

-- the items from an offset on, in turn
each_from : {A : Type 0} (piece : A → Piece) (items : List A) (i : ℕ) (item : A) → i < length items → item ≡ get_or items i item →
    each_in_turn piece (drop i items) ≡ in_turn (piece item) (each_in_turn piece (drop (i + 1) items))
unfolding each_in_turn
each_from piece items i item there is = ap (λ t. each_in_turn piece t) (drop_more items i item there ∙ ap (λ x. x ∷ drop (i + 1) items) (sym is))

-- one more item of several
pub rest_with_item : {A : Type 0} (piece : A → Piece) (items : List A) (i : ℕ) (item : A) (start here next : Writing) → i < length items → item ≡ get_or items i item →
    WritesRest (each_in_turn piece items) (each_in_turn piece (drop i items)) start here → Puts (piece item) here next (Ok tt) →
    WritesRest (each_in_turn piece items) (each_in_turn piece (drop (i + 1) items)) start next
rest_with_item piece items i item start here next there is rest first =
    rest_in_turn (each_in_turn piece items) (piece item) (each_in_turn piece (drop (i + 1) items)) start here next
    (subst (λ p. WritesRest (each_in_turn piece items) p start here) (each_from piece items i item there is) rest) first

-- an item of several that is not written
pub rest_fails_at_item : {A : Type 0} (piece : A → Piece) (items : List A) (i : ℕ) (item : A) (start here next : Writing) (e : WriteFault) (r : Result (Unit {0}) WriteFault) → i < length items → item ≡ get_or items i item →
    WritesRest (each_in_turn piece items) (each_in_turn piece (drop i items)) start here → Puts (piece item) here next (Err e) → IsErr r × IsErrAnd r (λ f. f ≡ e) →
    Puts (each_in_turn piece items) start next r
rest_fails_at_item piece items i item start here next e r there is rest fails handed =
    rest_hands_on (each_in_turn piece items) (piece item) (each_in_turn piece (drop (i + 1) items)) start here next e r
    (subst (λ p. WritesRest (each_in_turn piece items) p start here) (each_from piece items i item there is) rest) fails handed

-- after the last item all are written
pub rest_is_none : {A : Type 0} (piece : A → Piece) (items : List A) (i : ℕ) (start here : Writing) → length items ≤ i → length here.bytes ≤ 65535 →
    WritesRest (each_in_turn piece items) (each_in_turn piece (drop i items)) start here → Puts (each_in_turn piece items) start here (Ok tt)
unfolding each_in_turn
rest_is_none piece items i start here end short rest = rest here (Ok tt) (rw (drop_all i items end) (puts_none here short))

-- what holds of the items before one and of it
pub all_with_item : {A : Type 0} (P : A → Type 0) (items : List A) (i : ℕ) (item : A) → i < length items → item ≡ get_or items i item → All P (take i items) → P item → All P (take (i + 1) items)
all_with_item P items i item there is before this =
    let front : take (i + 1) items ≡ take i items ++ item ∷ [] = take_more items i item there ∙ ap (λ x. take i items ++ x ∷ []) (sym is) in
    subst (λ l. All P l) (sym front) (All-append P (take i items) (item ∷ []) before (All-cons P item [] this (All-nil P)))

-- what holds of all items before the end
pub all_of_front : {A : Type 0} (P : A → Type 0) (items : List A) (i : ℕ) → length items ≤ i → All P (take i items) → All P items
all_of_front P items i end all = subst (λ l. All P l) (take_all i items end) all

-- what is written where nothing was
pub written_alone : (piece : Piece) (start end : Writing) → start.bytes ≡ [] → start.names ≡ [] → Puts piece start end (Ok tt) → end.bytes ≡ (piece [] 0).bytes
written_alone piece start end no_bytes no_names puts =
    puts.0.bytes ∙ ap (λ b. b ++ (piece start.names (length b)).bytes) no_bytes ∙ ap (λ n. (piece n 0).bytes) no_names
