-- What is read stays as the bytes go on, but for an end.
use Rattle.std.proofs.Common.{◌≡◌, ℕ, zero, suc, ◌+◌, ◌-◌, ◌/◌, ◌%◌, ◌<◌, ◌≤◌, Bool, true, false, cond, List, ◌∷◌, ◌++◌, length, take, drop, Result, Ok, Err, inl, inr, refl, ap, ◌∙◌, arith, length-append}
use Rattle.std.specs.Prelude.{nat_lt, nat_eq, slice_index, ◌&&◌, All}
use Rattle.std.proofs.lemmas.Bool.{cases_lt, cases_eq, lt-ltb, le-ltb, ltb-false, eq-eqb, ne_eqb}
use Rattle.std.proofs.lemmas.List.{take-append-le, drop-append-le, length-drop, get_or_append_left}
use Rattle.cd_cbor.specs.Heads.{major_type, argument_size, argument_of}
use Rattle.cd_cbor.specs.Spells.{other, Spells, most_string, is_content}
use Rattle.cd_cbor.specs.Readings.{Reading, ◌>>=◌, refused, ends, piece, byte_at, times, until_break}
use Rattle.cd_cbor.specs.Reading.{ItemReader, argument_at, content_at, string_at, is_chunk, chunk_at, chunks_at, definite_string_at, chunked_string_at, simple_at, entry_at, array_at, map_at, tagged_at, open_array_at, open_map_at, definite_at, indefinite_at, item_by, item_at}
use Rattle.cd_cbor.specs.declared.item.Item.{Item}
use Rattle.cd_cbor.specs.declared.fault.Why.{Why}
use Rattle.cd_cbor.specs.declared.fault.Why.TheVariants as why
use Rattle.cd_cbor.specs.declared.fault.CborFault.{CborFault}
use Rattle.cd_cbor.specs.declared.fault.CborFault.TheVariants as fault
use Rattle.cd_cbor.specs.declared.major_type.MajorType.{MajorType}
use Rattle.cd_cbor.specs.declared.major_type.MajorType.TheVariants as major
use Rattle.cd_cbor.proofs.Binds.{ok_same, if_err_else}
use Rattle.cd_cbor.proofs.Offsets.{lies_within}
use Rattle.cd_cbor.proofs.HeadsRead.{Begins}
use Rattle.cd_cbor.proofs.ItemsRead.{item_begins}
use Rattle.cd_cbor.proofs.Stands.{Stands}
use Rattle.cd_cbor.proofs.ItemsStand.{item_sound}

-- what is read now is read later too, unless the bytes end, and they end at their end
pub record Goes {A : Type 0} (bytes : List ℕ) (now later : Result A CborFault) : Type 0 where
  pub stays : ((at : ℕ) → now ≡ refused at why.End → ⊥) → later ≡ now
  pub ends : (at : ℕ) → now ≡ refused at why.End → at ≡ length bytes

-- a value, and a fault that is no end
pub goes_ok : {A : Type 0} (bytes : List ℕ) (x y : A) → y ≡ x → Goes bytes (Ok x) (Ok y)
goes_ok {A} bytes x y e = record { stays = λ never. ap Ok e; ends = λ at h. absurd cc }

pub goes_refused : {A : Type 0} (bytes : List ℕ) (at : ℕ) (reason : Why) → (reason ≡ why.End → ⊥) → Goes {A = A} bytes (refused at reason) (refused at reason)
goes_refused {A} bytes at reason apart = record {
  stays = λ never. refl;
  ends = λ k h. let same : reason ≡ why.End = cc in absurd (apart same);
}

-- faults of readings of two kinds are equal alike
pub fault_same : {A B : Type 0} (e f : CborFault) → ◌≡◌ {A = Result A CborFault} (Err e) (Err f) → ◌≡◌ {A = Result B CborFault} (Err e) (Err f)
fault_same {A} {B} e f h = let same : e ≡ f = cc in ap {B = Result B CborFault} (λ x. Err x) same

-- one reading and then another
pub goes_bind : {A B : Type 0} (bytes : List ℕ) (now later : Result A CborFault) (f g : A → Result B CborFault) → Goes bytes now later →
    ((x : A) → now ≡ Ok x → Goes bytes (f x) (g x)) → Goes bytes (now >>= f) (later >>= g)
goes_bind {A} {B} bytes (Ok x) later f g first second =
    let same : later ≡ Ok x = first.stays (λ at h. absurd cc) in
    let next = second x refl in
    record { stays = λ never. rw same (next.stays never); ends = next.ends }
goes_bind {A} {B} bytes (Err e) later f g first second = record {
  stays = λ never. let same : later ≡ Err e = first.stays (λ at h. never at (fault_same {A = A} {B = B} e (fault.Bad at why.End) h)) in rw same refl;
  ends = λ at h. first.ends at (fault_same {A = B} {B = A} e (fault.Bad at why.End) h);
}

-- a choice by the same test
pub goes_if : {A : Type 0} (bytes : List ℕ) (b : Bool) (x y other rest : Result A CborFault) → Goes bytes x y → Goes bytes other rest → Goes bytes (cond b x other) (cond b y rest)
goes_if bytes true x y other rest first second = first
goes_if bytes false x y other rest first second = second

-- what is read where so many bytes are there
goes_room : {A : Type 0} (bytes more : List ℕ) (size : ℕ) (x y : Result A CborFault) → (size ≤ length bytes → Goes bytes x y) →
    Goes bytes (cond (nat_lt (length bytes) size) (ends bytes) x) (cond (nat_lt (length (bytes ++ more)) size) (ends (bytes ++ more)) y)
goes_room {A} bytes more size x y rest =
    elim (cases_lt (length bytes) size) [
      | inl few ↦ rw (lt-ltb (length bytes) size few) (record {
        stays = λ never. absurd (never (length bytes) refl);
        ends = λ at h. cc;
      })
      | inr enough ↦ rw (le-ltb (length bytes) size enough, le-ltb (length (bytes ++ more)) size (omega (arith, length-append bytes more))) (rest enough)
    ]

-- bytes that are there stay
piece_stays : (bytes more : List ℕ) (at size : ℕ) → at + size ≤ length bytes → piece at size (bytes ++ more) ≡ piece at size bytes
piece_stays bytes more at size h =
    ap (λ t. take size t) (drop-append-le at bytes more (omega arith)) ∙ take-append-le size (drop at bytes) more (omega (arith, length-drop at bytes))

pub byte_goes : (bytes more : List ℕ) (at : ℕ) → Goes bytes (byte_at at bytes) (byte_at at (bytes ++ more))
unfolding byte_at
byte_goes bytes more at =
    elim (cases_lt at (length bytes)) [
      | inl within ↦ rw (lt-ltb at (length bytes) within, lt-ltb at (length (bytes ++ more)) (omega (arith, length-append bytes more)))
          (goes_ok bytes (slice_index bytes at) (slice_index (bytes ++ more) at) (get_or_append_left bytes more 0 at within))
      | inr past ↦ rw (le-ltb at (length bytes) past) (record { stays = λ never. absurd (never (length bytes) refl); ends = λ k h. cc })
    ]

pub argument_goes : (bytes more : List ℕ) (info at : ℕ) → Goes bytes (argument_at info at bytes) (argument_at info at (bytes ++ more))
unfolding argument_at
argument_goes bytes more info at =
    let size : ℕ = argument_size info in
    goes_room bytes more (at + 1 + size) (Ok (argument_of info (piece (at + 1) size bytes), at + 1 + size)) (Ok (argument_of info (piece (at + 1) size (bytes ++ more)), at + 1 + size))
    (λ enough. goes_ok bytes _ _ (ap (λ t. (argument_of info t, at + 1 + size)) (piece_stays bytes more (at + 1) size enough)))

-- an argument that is read lies within
pub argument_within : (bytes : List ℕ) (info at n next : ℕ) → argument_at info at bytes ≡ Ok (n, next) → (at < next) × (next ≤ length bytes)
unfolding argument_at
argument_within bytes info at n next h =
    let test = if_err_else (nat_lt (length bytes) (at + 1 + argument_size info)) _ _ (n, next) h in
    let end : at + 1 + argument_size info ≡ next = ap (λ x. x.1) (ok_same _ (n, next) test.1) in
    let within : at + 1 + argument_size info ≤ length bytes = ltb-false (length bytes) (at + 1 + argument_size info) test.0 in
    (omega arith, omega arith)

content_goes : (bytes more : List ℕ) (is_text : Bool) (head size at : ℕ) → Goes bytes (content_at is_text head size at bytes) (content_at is_text head size at (bytes ++ more))
unfolding content_at
content_goes bytes more is_text head size at =
    goes_room bytes more (at + size) _ _
    (λ enough. rw (piece_stays bytes more at size enough)
    (goes_if bytes (is_content is_text (piece at size bytes)) _ _ _ _ (goes_ok bytes _ _ refl) (goes_refused bytes head why.Utf8 (λ e. cc))))

pub string_goes : (bytes more : List ℕ) (is_text : Bool) (before info at : ℕ) → Goes bytes (string_at is_text before info at bytes) (string_at is_text before info at (bytes ++ more))
unfolding string_at
string_goes bytes more is_text before info at =
    goes_bind bytes _ _ _ _ (argument_goes bytes more info at)
    (λ size e. goes_if bytes (nat_lt most_string (before + size.0)) _ _ _ _ (goes_refused bytes at why.Length (λ e. cc)) (content_goes bytes more is_text at size.0 size.1))

pub chunk_goes : (bytes more : List ℕ) (is_text : Bool) (place : ℕ × ℕ) → Goes bytes (chunk_at is_text bytes place) (chunk_at is_text (bytes ++ more) place)
unfolding chunk_at
chunk_goes bytes more is_text place =
    goes_bind bytes _ _ _ _ (byte_goes bytes more place.1)
    (λ first e. goes_if bytes (is_chunk is_text first) _ _ _ _
    (goes_bind bytes _ _ _ _ (string_goes bytes more is_text place.0 (first % 32) place.1) (λ chunk e. goes_ok bytes _ _ refl))
    (goes_refused bytes place.1 why.Head (λ e. cc)))

-- so many readings
times_goes : {A : Type 0} (bytes : List ℕ) (read later : ℕ → Reading A) → ((at : ℕ) → Goes bytes (read at) (later at)) → (count at : ℕ) →
    Goes bytes (times count read at) (times count later at)
unfolding times
times_goes bytes read later each zero at = goes_ok bytes _ _ refl
times_goes bytes read later each (suc count) at =
    goes_bind bytes _ _ _ _ (each at) (λ first e. goes_bind bytes _ _ _ _ (times_goes bytes read later each count first.1) (λ others e. goes_ok bytes _ _ refl))

-- readings up to a break, of which more may come later
until_goes : {A P : Type 0} (offset : P → ℕ) (bytes more : List ℕ) (read later : P → Result (A × P) CborFault) → ((place : P) → Goes bytes (read place) (later place)) →
    (left longer : ℕ) → left ≤ longer → (place : P) → Goes bytes (until_break offset bytes left read place) (until_break offset (bytes ++ more) longer later place)
unfolding until_break
until_goes offset bytes more read later each zero longer long place = record { stays = λ never. absurd (never (length bytes) refl); ends = λ at h. cc }
until_goes offset bytes more read later each (suc left) zero long place = absurd (omega arith)
until_goes offset bytes more read later each (suc left) (suc longer) long place =
    goes_bind bytes _ _ _ _ (byte_goes bytes more (offset place))
    (λ first e. goes_if bytes (nat_eq first 255) _ _ _ _ (goes_ok bytes _ _ refl)
    (goes_bind bytes _ _ _ _ (each place)
    (λ value e. goes_bind bytes _ _ _ _ (until_goes offset bytes more read later each left longer (omega arith) value.1) (λ others e. goes_ok bytes _ _ refl))))

longer : (bytes more : List ℕ) → length bytes ≤ length (bytes ++ more)
longer bytes more = omega (arith, length-append bytes more)

chunks_goes : (bytes more : List ℕ) (is_text : Bool) (at : ℕ) → Goes bytes (chunks_at is_text at bytes) (chunks_at is_text at (bytes ++ more))
unfolding chunks_at
chunks_goes bytes more is_text at =
    goes_bind bytes _ _ _ _
    (until_goes (λ (p : ℕ × ℕ). p.1) bytes more (chunk_at is_text bytes) (chunk_at is_text (bytes ++ more)) (chunk_goes bytes more is_text) (length bytes) (length (bytes ++ more)) (longer bytes more) (0, at))
    (λ chunks e. goes_ok bytes _ _ refl)

definite_string_goes : (bytes more : List ℕ) (is_text : Bool) (info at : ℕ) → Goes bytes (definite_string_at is_text info at bytes) (definite_string_at is_text info at (bytes ++ more))
unfolding definite_string_at
definite_string_goes bytes more is_text info at = goes_bind bytes _ _ _ _ (string_goes bytes more is_text 0 info at) (λ content e. goes_ok bytes _ _ refl)

chunked_string_goes : (bytes more : List ℕ) (is_text : Bool) (at : ℕ) → Goes bytes (chunked_string_at is_text at bytes) (chunked_string_at is_text at (bytes ++ more))
unfolding chunked_string_at
chunked_string_goes bytes more is_text at = goes_bind bytes _ _ _ _ (chunks_goes bytes more is_text (at + 1)) (λ content e. goes_ok bytes _ _ refl)

-- the bytes between two offsets stay
other_stays : (bytes more : List ℕ) (at next : ℕ) → at ≤ next → next ≤ length bytes →
    ◌≡◌ {A = Item × ℕ} (other (piece at (next - at) (bytes ++ more)), next) (other (piece at (next - at) bytes), next)
other_stays bytes more at next order within = ap (λ t. (other t, next)) (piece_stays bytes more at (next - at) (omega arith))

simple_goes : (bytes more : List ℕ) (info at : ℕ) → Goes bytes (simple_at info at bytes) (simple_at info at (bytes ++ more))
unfolding simple_at
simple_goes bytes more info at =
    goes_bind bytes _ _ _ _ (argument_goes bytes more info at)
    (λ value e. let w = argument_within bytes info at value.0 value.1 e in
    goes_if bytes (nat_eq info 24 && nat_lt value.0 32) _ _ _ _ (goes_refused bytes at why.Head (λ e. cc)) (goes_ok bytes _ _ (other_stays bytes more at value.1 (omega (arith, w.0)) w.1)))

module _ (depth : ℕ) (bytes more : List ℕ) (inner later : ItemReader) (each : (reason : Why) → (reason ≡ why.End → ⊥) → (at : ℕ) → Goes bytes (inner reason at) (later reason at))
    (within : nat_eq depth 0 ≡ false → (reason : Why) (at : ℕ) (x : Item) (next : ℕ) → inner reason at ≡ Ok (x, next) → (at < next) × (next ≤ length bytes)) where
  entry_goes : (broken : Why) → (broken ≡ why.End → ⊥) → (at : ℕ) → Goes bytes (entry_at inner broken at) (entry_at later broken at)
  unfolding entry_at
  entry_goes broken apart at =
      goes_bind bytes _ _ _ _ (each why.Break (λ e. cc) at) (λ key e. goes_bind bytes _ _ _ _ (each broken apart key.1) (λ value e. goes_ok bytes _ _ refl))

  array_goes : (info at : ℕ) → Goes bytes (array_at depth inner info at bytes) (array_at depth later info at (bytes ++ more))
  unfolding array_at
  array_goes info at =
      goes_if bytes (nat_eq depth 0) _ _ _ _ (goes_refused bytes at why.Depth (λ e. cc))
      (goes_bind bytes _ _ _ _ (argument_goes bytes more info at)
      (λ count e. goes_bind bytes _ _ _ _ (times_goes bytes (inner why.Break) (later why.Break) (each why.Break (λ e. cc)) count.0 count.1) (λ items e. goes_ok bytes _ _ refl)))

  map_goes : (info at : ℕ) → Goes bytes (map_at depth inner info at bytes) (map_at depth later info at (bytes ++ more))
  unfolding map_at
  map_goes info at =
      goes_if bytes (nat_eq depth 0) _ _ _ _ (goes_refused bytes at why.Depth (λ e. cc))
      (goes_bind bytes _ _ _ _ (argument_goes bytes more info at)
      (λ count e. goes_bind bytes _ _ _ _ (times_goes bytes (entry_at inner why.Break) (entry_at later why.Break) (entry_goes why.Break (λ e. cc)) count.0 count.1) (λ pairs e. goes_ok bytes _ _ refl)))

  tagged_goes : (info at : ℕ) → Goes bytes (tagged_at depth inner info at bytes) (tagged_at depth later info at (bytes ++ more))
  unfolding tagged_at
  tagged_goes info at =
      elim (cases_eq depth 0) [
        | inl none ↦ rw (eq-eqb depth 0 none) (goes_refused bytes at why.Depth (λ e. cc))
        | inr some ↦
            let opens : nat_eq depth 0 ≡ false = ne_eqb depth 0 some in
            rw opens (goes_bind bytes _ _ _ _ (argument_goes bytes more info at)
            (λ tag e. goes_bind bytes _ _ _ _ (each why.Break (λ e. cc) tag.1)
            (λ content f. let v = argument_within bytes info at tag.0 tag.1 e in
            let w = within opens why.Break tag.1 content.0 content.1 f in
            goes_ok bytes _ _ (other_stays bytes more at content.1 (omega (arith, v.0, w.0)) w.1))))
      ]

  open_array_goes : (at : ℕ) → Goes bytes (open_array_at depth inner at bytes) (open_array_at depth later at (bytes ++ more))
  unfolding open_array_at
  open_array_goes at =
      goes_if bytes (nat_eq depth 0) _ _ _ _ (goes_refused bytes at why.Depth (λ e. cc))
      (goes_bind bytes _ _ _ _ (until_goes (λ (p : ℕ). p) bytes more (inner why.Break) (later why.Break) (each why.Break (λ e. cc)) (length bytes) (length (bytes ++ more)) (longer bytes more) (at + 1))
      (λ items e. goes_ok bytes _ _ refl))

  open_map_goes : (at : ℕ) → Goes bytes (open_map_at depth inner at bytes) (open_map_at depth later at (bytes ++ more))
  unfolding open_map_at
  open_map_goes at =
      goes_if bytes (nat_eq depth 0) _ _ _ _ (goes_refused bytes at why.Depth (λ e. cc))
      (goes_bind bytes _ _ _ _ (until_goes (λ (p : ℕ). p) bytes more (entry_at inner why.Odd) (entry_at later why.Odd) (entry_goes why.Odd (λ e. cc)) (length bytes) (length (bytes ++ more)) (longer bytes more) (at + 1))
      (λ pairs e. goes_ok bytes _ _ refl))

  definite_goes : (kind : MajorType) (info at : ℕ) → Goes bytes (definite_at depth inner kind info at bytes) (definite_at depth later kind info at (bytes ++ more))
  unfolding definite_at
  definite_goes major.Unsigned info at = goes_bind bytes _ _ _ _ (argument_goes bytes more info at) (λ n e. goes_ok bytes _ _ refl)
  definite_goes major.Negative info at = goes_bind bytes _ _ _ _ (argument_goes bytes more info at) (λ n e. goes_ok bytes _ _ refl)
  definite_goes major.Bytes info at = definite_string_goes bytes more false info at
  definite_goes major.Text info at = definite_string_goes bytes more true info at
  definite_goes major.Array info at = array_goes info at
  definite_goes major.Map info at = map_goes info at
  definite_goes major.Tag info at = tagged_goes info at
  definite_goes major.Simple info at = simple_goes bytes more info at

  indefinite_goes : (broken : Why) → (broken ≡ why.End → ⊥) → (kind : MajorType) (at : ℕ) →
      Goes bytes (indefinite_at depth inner broken kind at bytes) (indefinite_at depth later broken kind at (bytes ++ more))
  unfolding indefinite_at
  indefinite_goes broken apart major.Unsigned at = goes_refused bytes at why.Head (λ e. cc)
  indefinite_goes broken apart major.Negative at = goes_refused bytes at why.Head (λ e. cc)
  indefinite_goes broken apart major.Bytes at = chunked_string_goes bytes more false at
  indefinite_goes broken apart major.Text at = chunked_string_goes bytes more true at
  indefinite_goes broken apart major.Array at = open_array_goes at
  indefinite_goes broken apart major.Map at = open_map_goes at
  indefinite_goes broken apart major.Tag at = goes_refused bytes at why.Head (λ e. cc)
  indefinite_goes broken apart major.Simple at = goes_refused bytes at broken apart

  by_goes : (broken : Why) → (broken ≡ why.End → ⊥) → (at : ℕ) → Goes bytes (item_by depth inner broken at bytes) (item_by depth later broken at (bytes ++ more))
  unfolding item_by
  by_goes broken apart at =
      goes_bind bytes _ _ _ _ (byte_goes bytes more at)
      (λ first e. goes_if bytes (nat_lt (first % 32) 28) _ _ _ _ (definite_goes (major_type (first / 32)) (first % 32) at)
      (goes_if bytes (nat_lt (first % 32) 31) _ _ _ _ (goes_refused bytes at why.Head (λ e. cc)) (indefinite_goes broken apart (major_type (first / 32)) at)))

-- an item that is read lies within
pub item_within : (depth : ℕ) (bytes : List ℕ) → All (λ byte. byte < 256) bytes → (broken : Why) (at : ℕ) (x : Item) (next : ℕ) → item_at depth bytes broken at ≡ Ok (x, next) →
    (at < next) × (next ≤ length bytes)
item_within depth bytes all broken at x next h =
    let st : Stands (Spells depth) bytes at x next = item_sound depth bytes all broken at x next h in
    let b : Begins st.s = item_begins depth x st.s st.has in
    let some : length st.s ≡ length (b.0 ∷ b.1) = ap length b.2 in
    let all_of : at + length st.s + length (drop next bytes) ≡ length bytes = lies_within at bytes st.s (drop next bytes) st.is (omega arith) in
    (omega (arith, st.ends), omega (arith, st.ends))

-- an item, whatever a break would be but an end
pub item_goes : (depth : ℕ) (bytes more : List ℕ) → All (λ byte. byte < 256) bytes → (broken : Why) → (broken ≡ why.End → ⊥) → (at : ℕ) →
    Goes bytes (item_at depth bytes broken at) (item_at depth (bytes ++ more) broken at)
unfolding item_at
item_goes zero bytes more all broken apart at =
    by_goes 0 bytes more (λ reason inside. refused inside why.Depth) (λ reason inside. refused inside why.Depth) (λ reason other inside. goes_refused bytes inside why.Depth (λ e. cc))
    (λ none reason inside x next h. absurd cc) broken apart at
item_goes (suc depth) bytes more all broken apart at =
    by_goes (suc depth) bytes more (item_at depth bytes) (item_at depth (bytes ++ more)) (λ reason other inside. item_goes depth bytes more all reason other inside)
    (λ some reason inside x next h. item_within depth bytes all reason inside x next h) broken apart at
