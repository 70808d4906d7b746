-- Where readings end, one after the other.
use Rattle.std.proofs.Common.{◌≡◌, ℕ, suc, ◌-◌, ◌+◌, ◌≤◌, ◌<◌, Bool, List, ◌∷◌, length, Result, Ok, Err, refl, ap, sym, ◌∙◌, arith}
use Rattle.std.specs.List.{concat}
use Rattle.std.proofs.lemmas.Bool.{eq-eqb, ne_eqb}
use Rattle.cd_cbor.specs.declared.fault.CborFault.{CborFault}
use Rattle.cd_cbor.specs.declared.fault.CborFault.TheVariants as fault
use Rattle.cd_cbor.specs.Readings.{Reading, ◌>>=◌, GivesFault, ends, piece, byte_at, times, until_break}
use Rattle.cd_cbor.specs.Items.{array, entries}
use Rattle.cd_cbor.specs.Reading.{ItemReader, argument_at, joined, chunk_at, chunks_at, chunked_string_at, entry_at, array_at, map_at, tagged_at, open_array_at, open_map_at}
use Rattle.cd_cbor.specs.Spells.{other, string_item}
use Rattle.cd_cbor.specs.Ends.{end_of}
use Rattle.cd_cbor.specs.declared.fault.Why.{Why}
use Rattle.cd_cbor.specs.declared.fault.Why.TheVariants as why

-- another value ends where that one does
pub end_with : {A B : Type 0} (r : Reading A) (f : A → B) → end_of (r >>= (λ x. Ok (f x.0, x.1))) ≡ end_of r
end_with (Ok x) f = refl
end_with (Err e) f = refl

-- so do the bytes of it
end_other : {A : Type 0} (r : Reading A) (at : ℕ) (bytes : List ℕ) → end_of (r >>= (λ x. Ok (other (piece at (x.1 - at) bytes), x.1))) ≡ end_of r
end_other (Ok x) at bytes = refl
end_other (Err e) at bytes = refl

-- what ends there is a value
pub end_value : {A : Type 0} (r : Reading A) (next : ℕ) → end_of r ≡ Ok next → (x : A) × (r ≡ Ok (x, next))
end_value (Ok x) next h = let same : x.1 ≡ next = cc in (x.0, ap (λ n. Ok (x.0, n)) same)
end_value (Err e) next h = absurd cc

-- a fault is the same
pub end_fault : {A : Type 0} (r : Reading A) (e : CborFault) → GivesFault e (end_of r) → GivesFault e r
end_fault r fault.NoMemory h = tt
end_fault (Ok x) (fault.Bad at why) h = absurd cc
end_fault (Err f) (fault.Bad at why) h = cc

module _ {A : Type 0} (read : ℕ → Reading A) (count i at : ℕ) (total : Result ℕ CborFault) where
  -- one more of so many
  pub pass_more : (next : ℕ) → i < count → end_of (read at) ≡ Ok next → end_of (times (count - i) read at) ≡ total → end_of (times (count - (i + 1)) read next) ≡ total
  unfolding times
  pass_more next lt gives so_far =
      let k : count - i ≡ suc (count - (i + 1)) = omega arith in
      let v = end_value (read at) next gives in
      let one : end_of (times (count - i) read at) ≡ end_of (times (count - (i + 1)) read next) = rw (k, v.1) (end_with (times (count - (i + 1)) read next) (λ others. v.0 ∷ others)) in
      sym one ∙ so_far

  -- one of them that fails
  pub pass_fault : (e : CborFault) → i < count → GivesFault e (end_of (read at)) → end_of (times (count - i) read at) ≡ total → GivesFault e total
  unfolding times
  pass_fault fault.NoMemory lt gives so_far = tt
  pass_fault (fault.Bad place why) lt gives so_far =
      let k : count - i ≡ suc (count - (i + 1)) = omega arith in
      let one : end_of (times (count - i) read at) ≡ Err (fault.Bad place why) = rw (k, end_fault (read at) (fault.Bad place why) gives) refl in
      sym so_far ∙ one

  -- after the last of them
  pub pass_end : count ≤ i → end_of (times (count - i) read at) ≡ total → total ≡ Ok at
  unfolding times
  pass_end le so_far =
      let k : count - i ≡ 0 = omega arith in
      let one : end_of (times (count - i) read at) ≡ Ok at = rw k refl in
      sym so_far ∙ one

module _ {A P : Type 0} (offset : P → ℕ) (bytes : List ℕ) (read : P → Result (A × P) CborFault) (count i : ℕ) (place : P) (total : Result ℕ CborFault) where
  -- one more before a break
  pub pass_on : (first : ℕ) (x : A) (next : P) → i < count → byte_at (offset place) bytes ≡ Ok first → (first ≡ 255 → ⊥) → read place ≡ Ok (x, next) →
      end_of (until_break offset bytes (count - i) read place) ≡ total → end_of (until_break offset bytes (count - (i + 1)) read next) ≡ total
  unfolding until_break
  pass_on first x next lt there other gives so_far =
      let k : count - i ≡ suc (count - (i + 1)) = omega arith in
      let one : end_of (until_break offset bytes (count - i) read place) ≡ end_of (until_break offset bytes (count - (i + 1)) read next) =
      rw (k, there, ne_eqb first 255 other, gives) (end_with (until_break offset bytes (count - (i + 1)) read next) (λ others. x ∷ others)) in
      sym one ∙ so_far

  -- one of them that fails
  pub pass_wrong : (e : CborFault) (first : ℕ) → i < count → byte_at (offset place) bytes ≡ Ok first → (first ≡ 255 → ⊥) → GivesFault e (read place) →
      end_of (until_break offset bytes (count - i) read place) ≡ total → GivesFault e total
  unfolding until_break
  pass_wrong fault.NoMemory first lt there other gives so_far = tt
  pass_wrong (fault.Bad at why) first lt there other gives so_far =
      let k : count - i ≡ suc (count - (i + 1)) = omega arith in
      let one : end_of (until_break offset bytes (count - i) read place) ≡ Err (fault.Bad at why) = rw (k, there, ne_eqb first 255 other, gives) refl in
      sym so_far ∙ one

  -- no byte is there
  pub pass_no_byte : (e : CborFault) → i < count → GivesFault e (byte_at (offset place) bytes) → end_of (until_break offset bytes (count - i) read place) ≡ total → GivesFault e total
  unfolding until_break
  pass_no_byte fault.NoMemory lt none so_far = tt
  pass_no_byte (fault.Bad at why) lt none so_far =
      let k : count - i ≡ suc (count - (i + 1)) = omega arith in
      let one : end_of (until_break offset bytes (count - i) read place) ≡ Err (fault.Bad at why) = rw (k, none) refl in
      sym so_far ∙ one

  -- the break
  pub pass_stop : (first : ℕ) → i < count → byte_at (offset place) bytes ≡ Ok first → first ≡ 255 → end_of (until_break offset bytes (count - i) read place) ≡ total → total ≡ Ok (offset place + 1)
  unfolding until_break
  pass_stop first lt there is so_far =
      let k : count - i ≡ suc (count - (i + 1)) = omega arith in
      let one : end_of (until_break offset bytes (count - i) read place) ≡ Ok (offset place + 1) = rw (k, there, eq-eqb first 255 is) refl in
      sym so_far ∙ one

  -- no break among all of them
  pub pass_none : count ≤ i → end_of (until_break offset bytes (count - i) read place) ≡ total → total ≡ ends bytes
  unfolding until_break
  pass_none le so_far =
      let k : count - i ≡ 0 = omega arith in
      let one : end_of (until_break offset bytes (count - i) read place) ≡ ends bytes = rw k refl in
      sym so_far ∙ one

-- before the first of so many
pub pass_start : {A : Type 0} (read : ℕ → Reading A) (count at : ℕ) → end_of (times (count - 0) read at) ≡ end_of (times count read at)
pass_start read count at = let k : count - 0 ≡ count = omega arith in ap (λ n. end_of (times n read at)) k

-- before the first of those up to a break
pub pass_begin : {A : Type 0} (bytes : List ℕ) (read : ℕ → Reading A) (at : ℕ) →
    end_of (until_break (λ place. place) bytes (length bytes - 0) read at) ≡ end_of (until_break (λ place. place) bytes (length bytes) read at)
pass_begin bytes read at = let k : length bytes - 0 ≡ length bytes = omega arith in ap (λ n. end_of (until_break (λ (place : ℕ). place) bytes n read at)) k

-- before the first chunk
pub chunks_begin : (is_text : Bool) (at before : ℕ) (bytes : List ℕ) → before ≡ 0 →
    end_of (until_break (λ (p : ℕ × ℕ). p.1) bytes (length bytes - 0) (chunk_at is_text bytes) (before, at + 1)) ≡ end_of (chunked_string_at is_text at bytes)
unfolding chunked_string_at chunks_at
chunks_begin is_text at before bytes none =
    let k : length bytes - 0 ≡ length bytes = omega arith in
    let chunks = until_break (λ (p : ℕ × ℕ). p.1) bytes (length bytes) (chunk_at is_text bytes) (0, at + 1) in
    rw (k, none) (sym (end_with (chunks >>= joined) (string_item is_text) ∙ end_with chunks concat))

-- a tagged value, of which the content is passed over
pub tagged_ends : (depth : ℕ) (inner : ItemReader) (info at : ℕ) (bytes : List ℕ) (tag next end : ℕ) → (depth ≡ 0 → ⊥) → argument_at info at bytes ≡ Ok (tag, next) → end_of (inner why.Break next) ≡ Ok end →
    tagged_at depth inner info at bytes ≡ Ok (other (piece at (end - at) bytes), end)
unfolding tagged_at
tagged_ends depth inner info at bytes tag next end some argument passed = let v = end_value (inner why.Break next) end passed in rw (ne_eqb depth 0 some, argument, v.1) refl

pub tagged_fault : (depth : ℕ) (inner : ItemReader) (info at : ℕ) (bytes : List ℕ) (tag next : ℕ) (e : CborFault) → (depth ≡ 0 → ⊥) → argument_at info at bytes ≡ Ok (tag, next) →
    GivesFault e (end_of (inner why.Break next)) → GivesFault e (tagged_at depth inner info at bytes)
unfolding tagged_at
tagged_fault depth inner info at bytes tag next fault.NoMemory some argument wrong = tt
tagged_fault depth inner info at bytes tag next (fault.Bad place reason) some argument wrong = rw (ne_eqb depth 0 some, argument, end_fault (inner why.Break next) (fault.Bad place reason) wrong) refl

-- a key and its value
pub entry_ends : (inner : ItemReader) (broken : Why) (at next : ℕ) → end_of (inner why.Break at) ≡ Ok next → end_of (entry_at inner broken at) ≡ end_of (inner broken next)
unfolding entry_at
entry_ends inner broken at next passed = let v = end_value (inner why.Break at) next passed in rw v.1 (end_with (inner broken next) (λ value. (v.0, value)))

pub entry_fault : (inner : ItemReader) (broken : Why) (at : ℕ) (e : CborFault) → GivesFault e (end_of (inner why.Break at)) → GivesFault e (end_of (entry_at inner broken at))
unfolding entry_at
entry_fault inner broken at fault.NoMemory wrong = tt
entry_fault inner broken at (fault.Bad place reason) wrong = rw (end_fault (inner why.Break at) (fault.Bad place reason) wrong) refl

module _ (depth : ℕ) (inner : ItemReader) (at : ℕ) (bytes : List ℕ) (some : depth ≡ 0 → ⊥) where
  -- what an array, a map or a tag holds ends where it does
  pub array_ends : (info count next : ℕ) → argument_at info at bytes ≡ Ok (count, next) → end_of (array_at depth inner info at bytes) ≡ end_of (times count (inner why.Break) next)
  unfolding array_at
  array_ends info count next argument = rw (ne_eqb depth 0 some, argument) (end_with (times count (inner why.Break) next) array)

  pub map_ends : (info count next : ℕ) → argument_at info at bytes ≡ Ok (count, next) → end_of (map_at depth inner info at bytes) ≡ end_of (times count (entry_at inner why.Break) next)
  unfolding map_at
  map_ends info count next argument = rw (ne_eqb depth 0 some, argument) (end_with (times count (entry_at inner why.Break) next) entries)

  pub tag_ends : (info tag next : ℕ) → argument_at info at bytes ≡ Ok (tag, next) → end_of (tagged_at depth inner info at bytes) ≡ end_of (inner why.Break next)
  unfolding tagged_at
  tag_ends info tag next argument = rw (ne_eqb depth 0 some, argument) (end_other (inner why.Break next) at bytes)

  pub open_array_ends : end_of (open_array_at depth inner at bytes) ≡ end_of (until_break (λ place. place) bytes (length bytes) (inner why.Break) (at + 1))
  unfolding open_array_at
  open_array_ends = rw (ne_eqb depth 0 some) (end_with (until_break (λ (place : ℕ). place) bytes (length bytes) (inner why.Break) (at + 1)) array)

  pub open_map_ends : end_of (open_map_at depth inner at bytes) ≡ end_of (until_break (λ place. place) bytes (length bytes) (entry_at inner why.Odd) (at + 1))
  unfolding open_map_at
  open_map_ends = rw (ne_eqb depth 0 some) (end_with (until_break (λ (place : ℕ). place) bytes (length bytes) (entry_at inner why.Odd) (at + 1)) entries)
