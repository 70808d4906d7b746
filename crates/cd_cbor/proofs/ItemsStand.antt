-- An item that is read is spelled so.
use Rattle.std.proofs.Common.{◌≡◌, ℕ, zero, suc, ◌+◌, ◌-◌, ◌/◌, ◌%◌, ◌<◌, ◌≤◌, Bool, true, false, cond, List, [], ◌∷◌, ◌++◌, length, drop, Ok, inl, inr, refl, ap, sym, subst, ◌∙◌, arith, length-append}
use Rattle.std.specs.Prelude.{nat_lt, nat_eq, ◌&&◌, All}
use Rattle.std.proofs.lemmas.Bool.{cases_Bool, cases_lt, and_cases, le-ltb, lt-ltb, ltb-true, ltb-false, eqb-false}
use Rattle.cd_cbor.specs.MajorTypes.{major_number}
use Rattle.cd_cbor.specs.Heads.{IsHead, major_type, argument_size}
use Rattle.cd_cbor.specs.Items.{unsigned, negative, array, entries}
use Rattle.cd_cbor.specs.Spells.{other, Each, SpellsPair, SpellsString, SpellsChunks, SpellsPlain, is_unsigned, is_negative, is_string, is_chunked, is_simple, SpellsHolder, is_array, is_open_array, is_map, is_open_map, is_tagged, Spells, string_type, string_item, indefinite}
use Rattle.cd_cbor.specs.Readings.{Reading, refused, piece, byte_at, times, until_break}
use Rattle.cd_cbor.specs.Reading.{ItemReader, argument_at, string_at, chunks_at, definite_string_at, chunked_string_at, simple_at, entry_at, array_at, map_at, tagged_at, open_array_at, open_map_at, definite_at, indefinite_at, item_by, item_at}
use Rattle.cd_cbor.specs.declared.item.Item.{Item}
use Rattle.cd_cbor.specs.declared.fault.Why.{Why}
use Rattle.cd_cbor.specs.declared.fault.Why.TheVariants as why
use Rattle.cd_cbor.specs.declared.major_type.MajorType.{MajorType}
use Rattle.cd_cbor.specs.declared.major_type.MajorType.TheVariants as major
use Rattle.cd_cbor.proofs.Binds.{bind_ok, ok_same, not_ok, if_err_else}
use Rattle.cd_cbor.proofs.Offsets.{piece_is}
use Rattle.cd_cbor.proofs.Stands.{Stands, IsSound, Told, Before, byte_there, byte_small, number_of_type, head_there, times_sound, until_sound}
use Rattle.cd_cbor.proofs.StringsStand.{two_parts, string_stands, chunks_stand}
use Rattle.cd_cbor.proofs.Depths.{item_at_is}

-- what stands there, seen as another value
stands_as : {A B : Type 0} (S : A → List ℕ → Type 0) (Q : B → List ℕ → Type 0) (bytes : List ℕ) (at : ℕ) (a : A) (x : B) (end next : ℕ) → (st : Stands S bytes at a end) → Q x st.s → end ≡ next →
    Stands Q bytes at x next
stands_as S Q bytes at a x end next st q is = record { s = st.s; has = q; is = st.is ∙ ap (λ k. st.s ++ drop k bytes) is; ends = sym is ∙ st.ends }

-- what stands there in two parts
stands_both : {A B C : Type 0} (S : A → List ℕ → Type 0) (T : B → List ℕ → Type 0) (Q : C → List ℕ → Type 0) (bytes : List ℕ) (at : ℕ) (a : A) (b : B) (x : C) (middle end next : ℕ) →
    (one : Stands S bytes at a middle) (two : Stands T bytes middle b end) → Q x (one.s ++ two.s) → end ≡ next → Stands Q bytes at x next
stands_both S T Q bytes at a b x middle end next one two q is = record {
  s = one.s ++ two.s;
  has = q;
  is = two_parts at bytes one.s two.s middle end one.is two.is ∙ ap (λ k. (one.s ++ two.s) ++ drop k bytes) is;
  ends = omega (arith, one.ends, two.ends, length-append one.s two.s);
}

-- where a head with an argument ends
argument_end : (info at : ℕ) (bytes : List ℕ) (n next : ℕ) → argument_at info at bytes ≡ Ok (n, next) → at + 1 + argument_size info ≡ next
unfolding argument_at
argument_end info at bytes n next h =
    let test = if_err_else (nat_lt (length bytes) (at + 1 + argument_size info)) _ _ (n, next) h in ap (λ x. x.1) (ok_same _ (n, next) test.1)

-- an argument of one byte is told by 24
one_is_24 : (info : ℕ) → argument_size info ≡ 1 → info ≡ 24
unfolding argument_size
one_is_24 info h =
    elim (cases_lt info 24) [
      | inl a ↦ let k = rw (lt-ltb info 24 a) at h in absurd (omega arith)
      | inr a ↦ elim (cases_lt info 25) [
        | inl b ↦ omega arith
        | inr b ↦ elim (cases_lt info 26) [
          | inl d ↦ let k = rw (le-ltb info 24 a, le-ltb info 25 b, lt-ltb info 26 d) at h in absurd (omega arith)
          | inr d ↦ elim (cases_lt info 27) [
            | inl e ↦ let k = rw (le-ltb info 24 a, le-ltb info 25 b, le-ltb info 26 d, lt-ltb info 27 e) at h in absurd (omega arith)
            | inr e ↦ let k = rw (le-ltb info 24 a, le-ltb info 25 b, le-ltb info 26 d, le-ltb info 27 e) at h in absurd (omega arith)
          ]
        ]
      ]
    ]

-- a key and its value
entry_sound : (P : Item → List ℕ → Type 0) (inner : ItemReader) (broken : Why) (bytes : List ℕ) → ((reason : Why) → IsSound P bytes (inner reason)) →
    IsSound (SpellsPair P) bytes (entry_at inner broken)
unfolding entry_at
entry_sound P inner broken bytes sound at pair next h =
    let key = bind_ok (inner why.Break at) _ (pair, next) h in
    let value = bind_ok (inner broken key.0.1) _ (pair, next) key.2 in
    let both = ok_same ((key.0.0, value.0.0), value.0.1) (pair, next) value.2 in
    let same : (key.0.0, value.0.0) ≡ pair = ap (λ x. x.0) both in
    let end : value.0.1 ≡ next = ap (λ x. x.1) both in
    let one = sound why.Break at key.0.0 key.0.1 key.1 in
    let two = sound broken key.0.1 value.0.0 value.0.1 value.1 in
    stands_both P P (SpellsPair P) bytes at key.0.0 value.0.0 pair key.0.1 value.0.1 next one two
    (subst (λ p. SpellsPair P p (one.s ++ two.s)) same (one.s, two.s, refl, one.has, two.has)) end

-- what one more reading before a break tells
item_told : {A : Type 0} (P : A → List ℕ → Type 0) (bytes : List ℕ) (read : ℕ → Reading A) → IsSound P bytes read → (place : ℕ) (x : A) (next : ℕ) → Unit {0} →
    read place ≡ Ok (x, next) → Told P (λ p. p) (λ p ys. Unit {0}) bytes place x next
item_told P bytes read sound place x next fits h = record { stands = sound place x next h; fits = tt; before = λ xs later. tt }

-- values up to a break, and the first byte of what holds them
pub record Opened {A : Type 0} (P : A → List ℕ → Type 0) (kind : MajorType) (bytes : List ℕ) (at : ℕ) (xs : List A) (next : ℕ) : Type 0 where
  pub body : List ℕ
  pub each : Each P xs body
  pub is : drop at bytes ≡ (indefinite kind ∷ (body ++ 255 ∷ [])) ++ drop next bytes
  pub ends : next ≡ at + length (indefinite kind ∷ (body ++ 255 ∷ []))

open_stands : {A : Type 0} (P : A → List ℕ → Type 0) (kind : MajorType) (bytes : List ℕ) (read : ℕ → Reading A) → IsSound P bytes read → (at : ℕ) (xs : List A) (next : ℕ) →
    drop at bytes ≡ indefinite kind ∷ drop (at + 1) bytes → until_break (λ p. p) bytes (length bytes) read (at + 1) ≡ Ok (xs, next) → Opened P kind bytes at xs next
open_stands {A} P kind bytes read sound at xs next first h =
    let b : Before P (λ (p : ℕ) (ys : List A). Unit {0}) bytes (at + 1) (at + 1) xs next =
    until_sound P (λ (p : ℕ). p) bytes read (λ p ys. Unit {0}) (item_told P bytes read sound) (length bytes) (at + 1) xs next tt h in
    let body : List ℕ = b.stands.s in
    record {
      body = body;
      each = b.stands.has;
      is = first ∙ ap (λ t. indefinite kind ∷ t) (two_parts (at + 1) bytes body (255 ∷ []) b.end next b.stands.is b.stops);
      ends = omega (arith, b.ends, b.stands.ends, length-append body (255 ∷ []));
    }

module _ (P Q : Item → List ℕ → Type 0) (depth : ℕ) (inner : ItemReader) (bytes : List ℕ) (all : All (λ byte. byte < 256) bytes)
    (plain : (item : Item) (s : List ℕ) → SpellsPlain item s → Q item s)
    (holds : nat_eq depth 0 ≡ false → (item : Item) (s : List ℕ) → SpellsHolder P item s → Q item s)
    (sound : nat_eq depth 0 ≡ false → (reason : Why) → IsSound P bytes (inner reason))
    (at first : ℕ) (there : byte_at at bytes ≡ Ok first) (x : Item) (next : ℕ) where
  head_of : (kind : MajorType) → major_type (first / 32) ≡ kind → first % 32 < 28 → (n end : ℕ) → argument_at (first % 32) at bytes ≡ Ok (n, end) → Stands (IsHead kind) bytes at n end
  head_of kind type low n end h = subst (λ m. Stands (IsHead m) bytes at n end) type (head_there at bytes first n end all there low h)

  unsigned_stands : major_type (first / 32) ≡ major.Unsigned → first % 32 < 28 → definite_at depth inner major.Unsigned (first % 32) at bytes ≡ Ok (x, next) → Stands Q bytes at x next
  unfolding definite_at
  unsigned_stands type low h =
      let n = bind_ok (argument_at (first % 32) at bytes) _ (x, next) h in
      let both = ok_same (unsigned n.0.0, n.0.1) (x, next) n.2 in
      let st = head_of major.Unsigned type low n.0.0 n.0.1 n.1 in
      stands_as (IsHead major.Unsigned) Q bytes at n.0.0 x n.0.1 next st (plain x st.s (is_unsigned n.0.0 st.has (sym (ap (λ y. y.0) both)))) (ap (λ y. y.1) both)

  negative_stands : major_type (first / 32) ≡ major.Negative → first % 32 < 28 → definite_at depth inner major.Negative (first % 32) at bytes ≡ Ok (x, next) → Stands Q bytes at x next
  unfolding definite_at
  negative_stands type low h =
      let n = bind_ok (argument_at (first % 32) at bytes) _ (x, next) h in
      let both = ok_same (negative n.0.0, n.0.1) (x, next) n.2 in
      let st = head_of major.Negative type low n.0.0 n.0.1 n.1 in
      stands_as (IsHead major.Negative) Q bytes at n.0.0 x n.0.1 next st (plain x st.s (is_negative n.0.0 st.has (sym (ap (λ y. y.0) both)))) (ap (λ y. y.1) both)

  text_stands : (is_text : Bool) → major_type (first / 32) ≡ string_type is_text → first % 32 < 28 → definite_string_at is_text (first % 32) at bytes ≡ Ok (x, next) → Stands Q bytes at x next
  unfolding definite_string_at
  text_stands is_text type low h =
      let c = bind_ok (string_at is_text 0 (first % 32) at bytes) _ (x, next) h in
      let both = ok_same (string_item is_text c.0.0, c.0.1) (x, next) c.2 in
      let st = string_stands is_text 0 at bytes first c.0.0 c.0.1 all there low type c.1 in
      let one = st.0 in
      stands_as (SpellsString is_text) Q bytes at c.0.0 x c.0.1 next one (plain x one.s (is_string is_text c.0.0 one.has (sym (ap (λ y. y.0) both)))) (ap (λ y. y.1) both)

  simple_stands : major_type (first / 32) ≡ major.Simple → first % 32 < 28 → simple_at (first % 32) at bytes ≡ Ok (x, next) → Stands Q bytes at x next
  unfolding simple_at
  simple_stands type low h =
      let info : ℕ = first % 32 in
      let n = bind_ok (argument_at info at bytes) _ (x, next) h in
      let test = if_err_else (nat_eq info 24 && nat_lt n.0.0 32) _ _ (x, next) n.2 in
      let both = ok_same (other (piece at (n.0.1 - at) bytes), n.0.1) (x, next) test.1 in
      let st = head_of major.Simple type low n.0.0 n.0.1 n.1 in
      let size : n.0.1 - at ≡ length st.s = omega (arith, st.ends) in
      let same : piece at (n.0.1 - at) bytes ≡ st.s = ap (λ k. piece at k bytes) size ∙ piece_is at bytes st.s (drop n.0.1 bytes) st.is in
      let end : at + 1 + argument_size info ≡ n.0.1 = argument_end info at bytes n.0.0 n.0.1 n.1 in
      let high : length st.s ≡ 2 → 32 ≤ n.0.0 = λ two.
      let one : argument_size info ≡ 1 = omega (arith, st.ends) in
      elim (and_cases (nat_eq info 24) (nat_lt n.0.0 32) test.0) [
        | inl apart ↦ absurd (eqb-false info 24 apart (one_is_24 info one))
        | inr large ↦ ltb-false n.0.0 32 large
      ] in
      stands_as (IsHead major.Simple) Q bytes at n.0.0 x n.0.1 next st (plain x st.s (is_simple n.0.0 st.has high (sym (ap (λ y. y.0) both) ∙ ap other same))) (ap (λ y. y.1) both)

  array_stands : major_type (first / 32) ≡ major.Array → first % 32 < 28 → array_at depth inner (first % 32) at bytes ≡ Ok (x, next) → Stands Q bytes at x next
  unfolding array_at
  array_stands type low h =
      let test = if_err_else (nat_eq depth 0) _ _ (x, next) h in
      let n = bind_ok (argument_at (first % 32) at bytes) _ (x, next) test.1 in
      let items = bind_ok (times n.0.0 (inner why.Break) n.0.1) _ (x, next) n.2 in
      let both = ok_same (array items.0.0, items.0.1) (x, next) items.2 in
      let head = head_of major.Array type low n.0.0 n.0.1 n.1 in
      let each = times_sound P bytes (inner why.Break) (sound test.0 why.Break) n.0.0 n.0.1 items.0.0 items.0.1 items.1 in
      let body = each.1 in
      let right : IsHead major.Array (length items.0.0) head.s = subst (λ k. IsHead major.Array k head.s) (sym each.0) head.has in
      stands_both (IsHead major.Array) (Each P) Q bytes at n.0.0 items.0.0 x n.0.1 items.0.1 next head body
      (holds test.0 x (head.s ++ body.s) (is_array items.0.0 head.s body.s right body.has refl (sym (ap (λ y. y.0) both)))) (ap (λ y. y.1) both)

  map_stands : major_type (first / 32) ≡ major.Map → first % 32 < 28 → map_at depth inner (first % 32) at bytes ≡ Ok (x, next) → Stands Q bytes at x next
  unfolding map_at
  map_stands type low h =
      let test = if_err_else (nat_eq depth 0) _ _ (x, next) h in
      let n = bind_ok (argument_at (first % 32) at bytes) _ (x, next) test.1 in
      let pairs = bind_ok (times n.0.0 (entry_at inner why.Break) n.0.1) _ (x, next) n.2 in
      let both = ok_same (entries pairs.0.0, pairs.0.1) (x, next) pairs.2 in
      let head = head_of major.Map type low n.0.0 n.0.1 n.1 in
      let each = times_sound (SpellsPair P) bytes (entry_at inner why.Break) (entry_sound P inner why.Break bytes (sound test.0)) n.0.0 n.0.1 pairs.0.0 pairs.0.1 pairs.1 in
      let body = each.1 in
      let right : IsHead major.Map (length pairs.0.0) head.s = subst (λ k. IsHead major.Map k head.s) (sym each.0) head.has in
      stands_both (IsHead major.Map) (Each (SpellsPair P)) Q bytes at n.0.0 pairs.0.0 x n.0.1 pairs.0.1 next head body
      (holds test.0 x (head.s ++ body.s) (is_map pairs.0.0 head.s body.s right body.has refl (sym (ap (λ y. y.0) both)))) (ap (λ y. y.1) both)

  tagged_stands : major_type (first / 32) ≡ major.Tag → first % 32 < 28 → tagged_at depth inner (first % 32) at bytes ≡ Ok (x, next) → Stands Q bytes at x next
  unfolding tagged_at
  tagged_stands type low h =
      let test = if_err_else (nat_eq depth 0) _ _ (x, next) h in
      let n = bind_ok (argument_at (first % 32) at bytes) _ (x, next) test.1 in
      let content = bind_ok (inner why.Break n.0.1) _ (x, next) n.2 in
      let end : ℕ = content.0.1 in
      let both = ok_same (other (piece at (end - at) bytes), end) (x, next) content.2 in
      let head = head_of major.Tag type low n.0.0 n.0.1 n.1 in
      let body = sound test.0 why.Break n.0.1 content.0.0 end content.1 in
      let size : end - at ≡ length (head.s ++ body.s) = omega (arith, head.ends, body.ends, length-append head.s body.s) in
      let same : piece at (end - at) bytes ≡ head.s ++ body.s =
      ap (λ k. piece at k bytes) size ∙ piece_is at bytes (head.s ++ body.s) (drop end bytes) (two_parts at bytes head.s body.s n.0.1 end head.is body.is) in
      stands_both (IsHead major.Tag) P Q bytes at n.0.0 content.0.0 x n.0.1 end next head body
      (holds test.0 x (head.s ++ body.s) (is_tagged n.0.0 content.0.0 head.s body.s head.has body.has refl (sym (ap (λ y. y.0) both) ∙ ap other same))) (ap (λ y. y.1) both)

  -- an item of a head with an argument
  definite_stands : (kind : MajorType) → major_type (first / 32) ≡ kind → first % 32 < 28 → definite_at depth inner kind (first % 32) at bytes ≡ Ok (x, next) → Stands Q bytes at x next
  unfolding definite_at
  definite_stands major.Unsigned type low h = unsigned_stands type low h
  definite_stands major.Negative type low h = negative_stands type low h
  definite_stands major.Bytes type low h = text_stands false type low h
  definite_stands major.Text type low h = text_stands true type low h
  definite_stands major.Array type low h = array_stands type low h
  definite_stands major.Map type low h = map_stands type low h
  definite_stands major.Tag type low h = tagged_stands type low h
  definite_stands major.Simple type low h = simple_stands type low h

  -- the first byte of what has no definite length
  open_first : (kind : MajorType) → major_type (first / 32) ≡ kind → first % 32 ≡ 31 → drop at bytes ≡ indefinite kind ∷ drop (at + 1) bytes
  open_first kind type info =
      let b = byte_there at bytes first there in
      let small : first < 256 = byte_small at bytes first all there in
      let number : major_number kind ≡ first / 32 = ap major_number (sym type) ∙ number_of_type (first / 32) (omega arith) in
      let same : first ≡ indefinite kind = omega arith in
      b.1 ∙ ap (λ k. k ∷ drop (at + 1) bytes) same

  chunked_stands : (is_text : Bool) → major_type (first / 32) ≡ string_type is_text → first % 32 ≡ 31 → chunked_string_at is_text at bytes ≡ Ok (x, next) → Stands Q bytes at x next
  unfolding chunked_string_at
  chunked_stands is_text type info h =
      let c = bind_ok (chunks_at is_text (at + 1) bytes) _ (x, next) h in
      let both = ok_same (string_item is_text c.0.0, c.0.1) (x, next) c.2 in
      let st = chunks_stand is_text at bytes c.0.0 c.0.1 all (open_first (string_type is_text) type info) c.1 in
      stands_as (SpellsChunks is_text) Q bytes at c.0.0 x c.0.1 next st (plain x st.s (is_chunked is_text c.0.0 st.has (sym (ap (λ y. y.0) both)))) (ap (λ y. y.1) both)

  open_array_stands : major_type (first / 32) ≡ major.Array → first % 32 ≡ 31 → open_array_at depth inner at bytes ≡ Ok (x, next) → Stands Q bytes at x next
  unfolding open_array_at
  open_array_stands type info h =
      let test = if_err_else (nat_eq depth 0) _ _ (x, next) h in
      let items = bind_ok (until_break (λ (p : ℕ). p) bytes (length bytes) (inner why.Break) (at + 1)) _ (x, next) test.1 in
      let both = ok_same (array items.0.0, items.0.1) (x, next) items.2 in
      let o = open_stands P major.Array bytes (inner why.Break) (sound test.0 why.Break) at items.0.0 items.0.1 (open_first major.Array type info) items.1 in
      let end : items.0.1 ≡ next = ap (λ y. y.1) both in
      let s : List ℕ = indefinite major.Array ∷ (o.body ++ 255 ∷ []) in
      record {
        s = s;
        has = holds test.0 x s (is_open_array items.0.0 o.body o.each refl (sym (ap (λ y. y.0) both)));
        is = o.is ∙ ap (λ k. s ++ drop k bytes) end;
        ends = sym end ∙ o.ends;
      }

  open_map_stands : major_type (first / 32) ≡ major.Map → first % 32 ≡ 31 → open_map_at depth inner at bytes ≡ Ok (x, next) → Stands Q bytes at x next
  unfolding open_map_at
  open_map_stands type info h =
      let test = if_err_else (nat_eq depth 0) _ _ (x, next) h in
      let pairs = bind_ok (until_break (λ (p : ℕ). p) bytes (length bytes) (entry_at inner why.Odd) (at + 1)) _ (x, next) test.1 in
      let both = ok_same (entries pairs.0.0, pairs.0.1) (x, next) pairs.2 in
      let o = open_stands (SpellsPair P) major.Map bytes (entry_at inner why.Odd) (entry_sound P inner why.Odd bytes (sound test.0)) at pairs.0.0 pairs.0.1 (open_first major.Map type info) pairs.1 in
      let end : pairs.0.1 ≡ next = ap (λ y. y.1) both in
      let s : List ℕ = indefinite major.Map ∷ (o.body ++ 255 ∷ []) in
      record {
        s = s;
        has = holds test.0 x s (is_open_map pairs.0.0 o.body o.each refl (sym (ap (λ y. y.0) both)));
        is = o.is ∙ ap (λ k. s ++ drop k bytes) end;
        ends = sym end ∙ o.ends;
      }

  -- an item of a head that tells no length
  indefinite_stands : (broken : Why) (kind : MajorType) → major_type (first / 32) ≡ kind → first % 32 ≡ 31 → indefinite_at depth inner broken kind at bytes ≡ Ok (x, next) → Stands Q bytes at x next
  unfolding indefinite_at
  indefinite_stands broken major.Unsigned type info h = absurd (not_ok _ (x, next) h)
  indefinite_stands broken major.Negative type info h = absurd (not_ok _ (x, next) h)
  indefinite_stands broken major.Bytes type info h = chunked_stands false type info h
  indefinite_stands broken major.Text type info h = chunked_stands true type info h
  indefinite_stands broken major.Array type info h = open_array_stands type info h
  indefinite_stands broken major.Map type info h = open_map_stands type info h
  indefinite_stands broken major.Tag type info h = absurd (not_ok _ (x, next) h)
  indefinite_stands broken major.Simple type info h = absurd (not_ok _ (x, next) h)

  -- an item of a first byte
  first_stands : (broken : Why) → cond (nat_lt (first % 32) 28) (definite_at depth inner (major_type (first / 32)) (first % 32) at bytes)
      (cond (nat_lt (first % 32) 31) (refused at why.Head) (indefinite_at depth inner broken (major_type (first / 32)) at bytes)) ≡ Ok (x, next) → Stands Q bytes at x next
  first_stands broken h =
      elim (cases_Bool (nat_lt (first % 32) 28)) [
        | inl low ↦ definite_stands (major_type (first / 32)) refl (ltb-true (first % 32) 28 low) (rw low at h)
        | inr high ↦
            let test = if_err_else (nat_lt (first % 32) 31) _ _ (x, next) (rw high at h) in
            let info : first % 32 ≡ 31 = omega (arith, ltb-false (first % 32) 31 test.0) in
            indefinite_stands broken (major_type (first / 32)) refl info test.1
      ]

-- an item, by what is known of those in it
by_sound : (P Q : Item → List ℕ → Type 0) (depth : ℕ) (inner : ItemReader) (bytes : List ℕ) → All (λ byte. byte < 256) bytes →
    ((item : Item) (s : List ℕ) → SpellsPlain item s → Q item s) → (nat_eq depth 0 ≡ false → (item : Item) (s : List ℕ) → SpellsHolder P item s → Q item s) →
    (nat_eq depth 0 ≡ false → (reason : Why) → IsSound P bytes (inner reason)) → (broken : Why) → IsSound Q bytes (λ at. item_by depth inner broken at bytes)
unfolding item_by
by_sound P Q depth inner bytes all plain holds sound broken at x next h =
    let byte = bind_ok (byte_at at bytes) _ (x, next) h in
    first_stands P Q depth inner bytes all plain holds sound at byte.0 byte.1 x next broken byte.2

-- an item, wherever it is read
pub item_sound : (depth : ℕ) (bytes : List ℕ) → All (λ byte. byte < 256) bytes → (broken : Why) → IsSound (Spells depth) bytes (item_at depth bytes broken)
item_sound zero bytes all broken at x next h =
    by_sound (λ item s. ⊥) (Spells 0) 0 (item_at (0 - 1) bytes) bytes all (λ item s has. has) (λ none item s has. absurd cc) (λ none reason. absurd cc) broken at x next
    (sym (item_at_is 0 bytes broken at) ∙ h)
item_sound (suc depth) bytes all broken at x next h =
    let back : suc depth - 1 ≡ depth = omega arith in
    by_sound (Spells depth) (Spells (suc depth)) (suc depth) (item_at depth bytes) bytes all (λ item s has. inl has) (λ some item s has. inr has) (λ some reason. item_sound depth bytes all reason)
    broken at x next (ap (λ n. item_by (suc depth) (item_at n bytes) broken at bytes) (sym back) ∙ sym (item_at_is (suc depth) bytes broken at) ∙ h)
