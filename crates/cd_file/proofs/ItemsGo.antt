-- What is read of an item stays as the bytes go on, but for an end, whatever numbers they are.
use Rattle.std.proofs.Common.{◌≡◌, ℕ, zero, suc, ◌+◌, ◌-◌, ◌/◌, ◌%◌, ◌<◌, ◌≤◌, Bool, true, false, List, ◌++◌, length, take, drop, Result, Ok, inl, inr, refl, ap, ◌∙◌, arith, length-append}
use Rattle.std.specs.Prelude.{nat_lt, nat_eq, ◌&&◌}
use Rattle.std.proofs.lemmas.Bool.{cases_eq, eq-eqb, ne_eqb}
use Rattle.std.proofs.lemmas.List.{take-append-le, drop-append-le, length-drop}
use Rattle.cd_cbor.specs.Heads.{major_type}
use Rattle.cd_cbor.specs.Spells.{other}
use Rattle.cd_cbor.specs.Readings.{Reading, refused, piece, times, until_break}
use Rattle.cd_cbor.specs.Reading.{ItemReader, chunk_at, chunks_at, definite_string_at, chunked_string_at, simple_at, entry_at, array_at, map_at, tagged_at, open_array_at, open_map_at, definite_at, indefinite_at, item_by, item_at}
use Rattle.cd_cbor.specs.declared.item.Item.{Item}
use Rattle.cd_cbor.specs.declared.fault.Why.{Why}
use Rattle.cd_cbor.specs.declared.fault.Why.TheVariants as why
use Rattle.cd_cbor.specs.declared.fault.CborFault.{CborFault}
use Rattle.cd_cbor.specs.declared.major_type.MajorType.{MajorType}
use Rattle.cd_cbor.specs.declared.major_type.MajorType.TheVariants as major
use Rattle.cd_cbor.proofs.Growing.{Goes, goes_ok, goes_refused, goes_bind, goes_if, byte_goes, argument_goes, argument_within, string_goes, chunk_goes}
use Rattle.cd_file.proofs.ItemsWithin.{item_lies}

-- bytes that are there stay
pub piece_stays : (bytes more : List ℕ) (at size : ℕ) → at + size ≤ length bytes → piece at size (bytes ++ more) ≡ piece at size bytes
piece_stays bytes more at size h =
    ap (λ t. take size t) (drop-append-le at bytes more (omega arith)) ∙ take-append-le size (drop at bytes) more (omega (arith, length-drop at bytes))

-- so many readings
times_goes : {A : Type 0} (bytes : List ℕ) (read later : ℕ → Reading A) → ((at : ℕ) → Goes bytes (read at) (later at)) → (count at : ℕ) →
    Goes bytes (times count read at) (times count later at)
unfolding times
times_goes bytes read later each zero at = goes_ok bytes _ _ refl
times_goes bytes read later each (suc count) at =
    goes_bind bytes _ _ _ _ (each at) (λ first e. goes_bind bytes _ _ _ _ (times_goes bytes read later each count first.1) (λ others e. goes_ok bytes _ _ refl))

-- readings up to a break, of which more may come later
until_goes : {A P : Type 0} (offset : P → ℕ) (bytes more : List ℕ) (read later : P → Result (A × P) CborFault) → ((place : P) → Goes bytes (read place) (later place)) →
    (left longer : ℕ) → left ≤ longer → (place : P) → Goes bytes (until_break offset bytes left read place) (until_break offset (bytes ++ more) longer later place)
unfolding until_break
until_goes offset bytes more read later each zero longer long place = record { stays = λ never. absurd (never (length bytes) refl); ends = λ at h. cc }
until_goes offset bytes more read later each (suc left) zero long place = absurd (omega arith)
until_goes offset bytes more read later each (suc left) (suc longer) long place =
    goes_bind bytes _ _ _ _ (byte_goes bytes more (offset place))
    (λ first e. goes_if bytes (nat_eq first 255) _ _ _ _ (goes_ok bytes _ _ refl)
    (goes_bind bytes _ _ _ _ (each place)
    (λ value e. goes_bind bytes _ _ _ _ (until_goes offset bytes more read later each left longer (omega arith) value.1) (λ others e. goes_ok bytes _ _ refl))))

longer : (bytes more : List ℕ) → length bytes ≤ length (bytes ++ more)
longer bytes more = omega (arith, length-append bytes more)

chunks_goes : (bytes more : List ℕ) (is_text : Bool) (at : ℕ) → Goes bytes (chunks_at is_text at bytes) (chunks_at is_text at (bytes ++ more))
unfolding chunks_at
chunks_goes bytes more is_text at =
    goes_bind bytes _ _ _ _
    (until_goes (λ (p : ℕ × ℕ). p.1) bytes more (chunk_at is_text bytes) (chunk_at is_text (bytes ++ more)) (chunk_goes bytes more is_text) (length bytes) (length (bytes ++ more)) (longer bytes more) (0, at))
    (λ chunks e. goes_ok bytes _ _ refl)

definite_string_goes : (bytes more : List ℕ) (is_text : Bool) (info at : ℕ) → Goes bytes (definite_string_at is_text info at bytes) (definite_string_at is_text info at (bytes ++ more))
unfolding definite_string_at
definite_string_goes bytes more is_text info at = goes_bind bytes _ _ _ _ (string_goes bytes more is_text 0 info at) (λ content e. goes_ok bytes _ _ refl)

chunked_string_goes : (bytes more : List ℕ) (is_text : Bool) (at : ℕ) → Goes bytes (chunked_string_at is_text at bytes) (chunked_string_at is_text at (bytes ++ more))
unfolding chunked_string_at
chunked_string_goes bytes more is_text at = goes_bind bytes _ _ _ _ (chunks_goes bytes more is_text (at + 1)) (λ content e. goes_ok bytes _ _ refl)

-- the bytes between two offsets stay
other_stays : (bytes more : List ℕ) (at next : ℕ) → at ≤ next → next ≤ length bytes →
    ◌≡◌ {A = Item × ℕ} (other (piece at (next - at) (bytes ++ more)), next) (other (piece at (next - at) bytes), next)
other_stays bytes more at next order within = ap (λ t. (other t, next)) (piece_stays bytes more at (next - at) (omega arith))

simple_goes : (bytes more : List ℕ) (info at : ℕ) → Goes bytes (simple_at info at bytes) (simple_at info at (bytes ++ more))
unfolding simple_at
simple_goes bytes more info at =
    goes_bind bytes _ _ _ _ (argument_goes bytes more info at)
    (λ value e. let w = argument_within bytes info at value.0 value.1 e in
    goes_if bytes (nat_eq info 24 && nat_lt value.0 32) _ _ _ _ (goes_refused bytes at why.Head (λ e. cc)) (goes_ok bytes _ _ (other_stays bytes more at value.1 (omega (arith, w.0)) w.1)))

module _ (depth : ℕ) (bytes more : List ℕ) (inner later : ItemReader) (each : (reason : Why) → (reason ≡ why.End → ⊥) → (at : ℕ) → Goes bytes (inner reason at) (later reason at))
    (within : nat_eq depth 0 ≡ false → (reason : Why) (at : ℕ) (x : Item) (next : ℕ) → inner reason at ≡ Ok (x, next) → (at < next) × (next ≤ length bytes)) where
  entry_goes : (broken : Why) → (broken ≡ why.End → ⊥) → (at : ℕ) → Goes bytes (entry_at inner broken at) (entry_at later broken at)
  unfolding entry_at
  entry_goes broken apart at =
      goes_bind bytes _ _ _ _ (each why.Break (λ e. cc) at) (λ key e. goes_bind bytes _ _ _ _ (each broken apart key.1) (λ value e. goes_ok bytes _ _ refl))

  array_goes : (info at : ℕ) → Goes bytes (array_at depth inner info at bytes) (array_at depth later info at (bytes ++ more))
  unfolding array_at
  array_goes info at =
      goes_if bytes (nat_eq depth 0) _ _ _ _ (goes_refused bytes at why.Depth (λ e. cc))
      (goes_bind bytes _ _ _ _ (argument_goes bytes more info at)
      (λ count e. goes_bind bytes _ _ _ _ (times_goes bytes (inner why.Break) (later why.Break) (each why.Break (λ e. cc)) count.0 count.1) (λ items e. goes_ok bytes _ _ refl)))

  map_goes : (info at : ℕ) → Goes bytes (map_at depth inner info at bytes) (map_at depth later info at (bytes ++ more))
  unfolding map_at
  map_goes info at =
      goes_if bytes (nat_eq depth 0) _ _ _ _ (goes_refused bytes at why.Depth (λ e. cc))
      (goes_bind bytes _ _ _ _ (argument_goes bytes more info at)
      (λ count e. goes_bind bytes _ _ _ _ (times_goes bytes (entry_at inner why.Break) (entry_at later why.Break) (entry_goes why.Break (λ e. cc)) count.0 count.1) (λ pairs e. goes_ok bytes _ _ refl)))

  tagged_goes : (info at : ℕ) → Goes bytes (tagged_at depth inner info at bytes) (tagged_at depth later info at (bytes ++ more))
  unfolding tagged_at
  tagged_goes info at =
      elim (cases_eq depth 0) [
        | inl none ↦ rw (eq-eqb depth 0 none) (goes_refused bytes at why.Depth (λ e. cc))
        | inr some ↦
            let opens : nat_eq depth 0 ≡ false = ne_eqb depth 0 some in
            rw opens (goes_bind bytes _ _ _ _ (argument_goes bytes more info at)
            (λ tag e. goes_bind bytes _ _ _ _ (each why.Break (λ e. cc) tag.1)
            (λ content f. let v = argument_within bytes info at tag.0 tag.1 e in
            let w = within opens why.Break tag.1 content.0 content.1 f in
            goes_ok bytes _ _ (other_stays bytes more at content.1 (omega (arith, v.0, w.0)) w.1))))
      ]

  open_array_goes : (at : ℕ) → Goes bytes (open_array_at depth inner at bytes) (open_array_at depth later at (bytes ++ more))
  unfolding open_array_at
  open_array_goes at =
      goes_if bytes (nat_eq depth 0) _ _ _ _ (goes_refused bytes at why.Depth (λ e. cc))
      (goes_bind bytes _ _ _ _ (until_goes (λ (p : ℕ). p) bytes more (inner why.Break) (later why.Break) (each why.Break (λ e. cc)) (length bytes) (length (bytes ++ more)) (longer bytes more) (at + 1))
      (λ items e. goes_ok bytes _ _ refl))

  open_map_goes : (at : ℕ) → Goes bytes (open_map_at depth inner at bytes) (open_map_at depth later at (bytes ++ more))
  unfolding open_map_at
  open_map_goes at =
      goes_if bytes (nat_eq depth 0) _ _ _ _ (goes_refused bytes at why.Depth (λ e. cc))
      (goes_bind bytes _ _ _ _ (until_goes (λ (p : ℕ). p) bytes more (entry_at inner why.Odd) (entry_at later why.Odd) (entry_goes why.Odd (λ e. cc)) (length bytes) (length (bytes ++ more)) (longer bytes more) (at + 1))
      (λ pairs e. goes_ok bytes _ _ refl))

  definite_goes : (kind : MajorType) (info at : ℕ) → Goes bytes (definite_at depth inner kind info at bytes) (definite_at depth later kind info at (bytes ++ more))
  unfolding definite_at
  definite_goes major.Unsigned info at = goes_bind bytes _ _ _ _ (argument_goes bytes more info at) (λ n e. goes_ok bytes _ _ refl)
  definite_goes major.Negative info at = goes_bind bytes _ _ _ _ (argument_goes bytes more info at) (λ n e. goes_ok bytes _ _ refl)
  definite_goes major.Bytes info at = definite_string_goes bytes more false info at
  definite_goes major.Text info at = definite_string_goes bytes more true info at
  definite_goes major.Array info at = array_goes info at
  definite_goes major.Map info at = map_goes info at
  definite_goes major.Tag info at = tagged_goes info at
  definite_goes major.Simple info at = simple_goes bytes more info at

  indefinite_goes : (broken : Why) → (broken ≡ why.End → ⊥) → (kind : MajorType) (at : ℕ) →
      Goes bytes (indefinite_at depth inner broken kind at bytes) (indefinite_at depth later broken kind at (bytes ++ more))
  unfolding indefinite_at
  indefinite_goes broken apart major.Unsigned at = goes_refused bytes at why.Head (λ e. cc)
  indefinite_goes broken apart major.Negative at = goes_refused bytes at why.Head (λ e. cc)
  indefinite_goes broken apart major.Bytes at = chunked_string_goes bytes more false at
  indefinite_goes broken apart major.Text at = chunked_string_goes bytes more true at
  indefinite_goes broken apart major.Array at = open_array_goes at
  indefinite_goes broken apart major.Map at = open_map_goes at
  indefinite_goes broken apart major.Tag at = goes_refused bytes at why.Head (λ e. cc)
  indefinite_goes broken apart major.Simple at = goes_refused bytes at broken apart

  by_goes : (broken : Why) → (broken ≡ why.End → ⊥) → (at : ℕ) → Goes bytes (item_by depth inner broken at bytes) (item_by depth later broken at (bytes ++ more))
  unfolding item_by
  by_goes broken apart at =
      goes_bind bytes _ _ _ _ (byte_goes bytes more at)
      (λ first e. goes_if bytes (nat_lt (first % 32) 28) _ _ _ _ (definite_goes (major_type (first / 32)) (first % 32) at)
      (goes_if bytes (nat_lt (first % 32) 31) _ _ _ _ (goes_refused bytes at why.Head (λ e. cc)) (indefinite_goes broken apart (major_type (first / 32)) at)))

-- an item, whatever a break would be but an end
pub item_goes : (depth : ℕ) (bytes more : List ℕ) (broken : Why) → (broken ≡ why.End → ⊥) → (at : ℕ) → Goes bytes (item_at depth bytes broken at) (item_at depth (bytes ++ more) broken at)
unfolding item_at
item_goes zero bytes more broken apart at =
    by_goes 0 bytes more (λ reason inside. refused inside why.Depth) (λ reason inside. refused inside why.Depth) (λ reason other inside. goes_refused bytes inside why.Depth (λ e. cc))
    (λ none reason inside x next h. absurd cc) broken apart at
item_goes (suc depth) bytes more broken apart at =
    by_goes (suc depth) bytes more (item_at depth bytes) (item_at depth (bytes ++ more)) (λ reason other inside. item_goes depth bytes more reason other inside)
    (λ some reason inside x next h. let w = item_lies depth bytes reason inside (x, next) h in (omega (arith, w.0), w.1)) broken apart at
