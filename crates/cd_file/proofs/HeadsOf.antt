-- What an item is that stands at an offset, by its head, and what the items in it are, one after another.
use Rattle.std.proofs.Common.{◌≡◌, ℕ, zero, suc, ◌+◌, ◌-◌, ◌/◌, ◌%◌, ◌<◌, ◌≤◌, Bool, true, false, cond, List, [], ◌∷◌, length, drop, Some, None, Result, Ok, Err, inl, inr, refl, ap, sym, subst, ◌∙◌, arith}
use Rattle.std.specs.Prelude.{nat_lt, nat_eq, slice_index, ◌&&◌}
use Rattle.std.proofs.lemmas.Bool.{cases_lt, lt-ltb, le-ltb, ltb-false, ne_eqb}
use Rattle.cd_cbor.specs.Heads.{major_type}
use Rattle.cd_cbor.specs.Items.{unsigned, negative, bytes as bytes_item, text, array, entries}
use Rattle.cd_cbor.specs.Spells.{other, most_string, is_content}
use Rattle.cd_cbor.specs.Readings.{Reading, ◌>>=◌, piece, byte_at, times, until_break, GivesFault, LiesWithin}
use Rattle.cd_cbor.specs.Reading.{ItemReader, argument_at, content_at, string_at, chunks_at, definite_string_at, chunked_string_at, simple_at, entry_at, array_at, map_at, tagged_at, open_array_at, open_map_at, definite_at, indefinite_at, item_by, item_at}
use Rattle.cd_cbor.specs.declared.item.Item.{Item}
use Rattle.cd_cbor.specs.declared.item.Item.TheViews.{out-Item, out-roll-Item}
use Rattle.cd_cbor.specs.declared.item.Item.TheOpen.{Item-F}
use Rattle.cd_cbor.specs.declared.item.Item.TheVariants.{rolls-Uint, rolls-Nint, rolls-Bytes, rolls-Text, rolls-Array, rolls-Map, rolls-Other}
use Rattle.cd_cbor.specs.declared.fault.Why.{Why}
use Rattle.cd_cbor.specs.declared.fault.Why.TheVariants as why
use Rattle.cd_cbor.specs.declared.fault.CborFault.{CborFault}
use Rattle.cd_cbor.specs.declared.fault.CborFault.TheVariants as fault
use Rattle.cd_cbor.specs.declared.major_type.MajorType.{MajorType}
use Rattle.cd_cbor.specs.declared.major_type.MajorType.TheVariants as major
use Rattle.cd_cbor.proofs.Binds.{bind_ok, ok_same, not_ok, if_err_else}
use Rattle.cd_cbor.proofs.Depths.{item_at_is}
use Rattle.cd_file.specs.ReadFile.{begins_with_break}
use Rattle.cd_file.specs.ItemReading.{ItemAt, ItemsAt, PairsAt, HeadOf, ended_at}

-- what is seen of each item
out_unsigned : (n : ℕ) → out-Item (unsigned n) ≡ Item-F.Uint n
unfolding unsigned
out_unsigned n = ap out-Item (sym (rolls-Uint n)) ∙ out-roll-Item (Item-F.Uint n)

out_negative : (n : ℕ) → out-Item (negative n) ≡ Item-F.Nint n
unfolding negative
out_negative n = ap out-Item (sym (rolls-Nint n)) ∙ out-roll-Item (Item-F.Nint n)

out_bytes : (content : List ℕ) → out-Item (bytes_item content) ≡ Item-F.Bytes content
unfolding bytes_item
out_bytes content = ap out-Item (sym (rolls-Bytes content)) ∙ out-roll-Item (Item-F.Bytes content)

out_text : (content : List ℕ) → out-Item (text content) ≡ Item-F.Text content
unfolding text
out_text content = ap out-Item (sym (rolls-Text content)) ∙ out-roll-Item (Item-F.Text content)

out_array : (items : List Item) → out-Item (array items) ≡ Item-F.Array items
unfolding array
out_array items = ap out-Item (sym (rolls-Array items)) ∙ out-roll-Item (Item-F.Array items)

out_entries : (pairs : List (Item × Item)) → out-Item (entries pairs) ≡ Item-F.Map pairs
unfolding entries
out_entries pairs = ap out-Item (sym (rolls-Map pairs)) ∙ out-roll-Item (Item-F.Map pairs)

out_other : (content : List ℕ) → out-Item (other content) ≡ Item-F.Other content
unfolding other
out_other content = ap out-Item (sym (rolls-Other content)) ∙ out-roll-Item (Item-F.Other content)

-- what stands after a value that is given
bound : {A B : Type 0} (r : Result A CborFault) (x : A) (f : A → Result B CborFault) (y : Result B CborFault) → r ≡ Ok x → (r >>= f) ≡ y → f x ≡ y
bound r x f y e h = sym (ap (λ t. t >>= f) e) ∙ h

-- the byte at an offset is the first from there on
break_within : (bytes : List ℕ) (at : ℕ) → at < length bytes → begins_with_break (drop at bytes) ≡ nat_eq (slice_index bytes at) 0xff
break_within [] at within = absurd (omega arith)
break_within (b ∷ bytes) zero within = refl
break_within (b ∷ bytes) (suc at) within = break_within bytes at (omega arith)

break_there : (bytes : List ℕ) (at byte : ℕ) → byte_at at bytes ≡ Ok byte → begins_with_break (drop at bytes) ≡ nat_eq byte 0xff
unfolding byte_at
break_there bytes at byte h =
    elim (cases_lt at (length bytes)) [
      | inl within ↦
          let k = rw (lt-ltb at (length bytes) within) at h in
          break_within bytes at within ∙ ap (λ b. nat_eq b 0xff) (ok_same (slice_index bytes at) byte k)
      | inr past ↦ let k = rw (le-ltb at (length bytes) past) at h in absurd (not_ok _ byte k)
    ]

-- where a break ends items, and where it does not
ends_there : (bytes : List ℕ) (at byte : ℕ) → byte_at at bytes ≡ Ok byte → nat_eq byte 0xff ≡ true → ended_at None bytes at ≡ Some (at + 1)
ends_there bytes at byte h stop = rw (break_there bytes at byte h, stop) refl

goes_there : (bytes : List ℕ) (at byte : ℕ) → byte_at at bytes ≡ Ok byte → nat_eq byte 0xff ≡ false → ended_at None bytes at ≡ None
goes_there bytes at byte h on = rw (break_there bytes at byte h, on) refl

-- an item is read whatever a break there is
branch_any : (b c : Bool) (x : Item × ℕ) (first second third fourth : Reading Item) → (third ≡ Ok x → fourth ≡ Ok x) → cond b first (cond c second third) ≡ Ok x →
    cond b first (cond c second fourth) ≡ Ok x
branch_any true c x first second third fourth f h = h
branch_any false true x first second third fourth f h = h
branch_any false false x first second third fourth f h = f h

indefinite_any : (depth : ℕ) (inner : ItemReader) (broken : Why) (kind : MajorType) (at : ℕ) (bytes : List ℕ) (x : Item × ℕ) → indefinite_at depth inner broken kind at bytes ≡ Ok x →
    indefinite_at depth inner why.Break kind at bytes ≡ Ok x
unfolding indefinite_at
indefinite_any depth inner broken major.Unsigned at bytes x h = h
indefinite_any depth inner broken major.Negative at bytes x h = h
indefinite_any depth inner broken major.Bytes at bytes x h = h
indefinite_any depth inner broken major.Text at bytes x h = h
indefinite_any depth inner broken major.Array at bytes x h = h
indefinite_any depth inner broken major.Map at bytes x h = h
indefinite_any depth inner broken major.Tag at bytes x h = h
indefinite_any depth inner broken major.Simple at bytes x h = absurd (not_ok _ x h)

by_any : (depth : ℕ) (inner : ItemReader) (broken : Why) (at : ℕ) (bytes : List ℕ) (x : Item × ℕ) → item_by depth inner broken at bytes ≡ Ok x → item_by depth inner why.Break at bytes ≡ Ok x
unfolding item_by
by_any depth inner broken at bytes x h =
    let first = bind_ok (byte_at at bytes) _ x h in
    rw first.1 (branch_any (nat_lt (first.0 % 32) 28) (nat_lt (first.0 % 32) 31) x _ _ _ _ (indefinite_any depth inner broken (major_type (first.0 / 32)) at bytes x) first.2)

item_any : (depth : ℕ) (bytes : List ℕ) (broken : Why) (at : ℕ) (x : Item × ℕ) → item_at depth bytes broken at ≡ Ok x → item_at depth bytes why.Break at ≡ Ok x
item_any depth bytes broken at x h =
    item_at_is depth bytes why.Break at ∙ by_any depth (item_at (depth - 1) bytes) broken at bytes x (sym (item_at_is depth bytes broken at) ∙ h)

-- items that are left are not at their end
pub more_left : (count : ℕ) (bytes : List ℕ) (at : ℕ) → ended_at (Some (suc count)) bytes at ≡ None
more_left count bytes at = rw (ne_eqb (suc count) 0 (λ e. omega arith)) refl

-- so many items
times_items : (depth : ℕ) (bytes : List ℕ) (count at : ℕ) (items : List Item) (end : ℕ) → times count (item_at depth bytes why.Break) at ≡ Ok (items, end) → ItemsAt depth bytes (Some count) at items end
unfolding times
times_items depth bytes zero at items end h =
    subst (λ p. ItemsAt depth bytes (Some zero) at p.0 p.1) (ok_same ([], at) (items, end) h) refl
times_items depth bytes (suc count) at items end h =
    let first = bind_ok (item_at depth bytes why.Break at) _ (items, end) h in
    let others = bind_ok (times count (item_at depth bytes why.Break) first.0.1) _ (items, end) first.2 in
    let less : suc count - 1 ≡ count = omega arith in
    let rest : ItemsAt depth bytes (Some (suc count - 1)) first.0.1 others.0.0 others.0.1 =
    rw less (times_items depth bytes count first.0.1 others.0.0 others.0.1 others.1) in
    subst (λ p. ItemsAt depth bytes (Some (suc count)) at p.0 p.1) (ok_same (first.0.0 ∷ others.0.0, others.0.1) (items, end) others.2)
    (more_left count bytes at, (first.0.1, first.1, rest))

-- items up to a break: the next byte is one, or an item comes
module _ (depth : ℕ) (bytes : List ℕ) (at byte : ℕ) (there : byte_at at bytes ≡ Ok byte) where
  until_items_by : (stop : Bool) (others : Reading (List Item)) (items : List Item) (end : ℕ) → nat_eq byte 0xff ≡ stop →
      (others ≡ Ok (items, end) → stop ≡ false → ItemsAt depth bytes None at items end) → cond stop (Ok ([], at + 1)) others ≡ Ok (items, end) → ItemsAt depth bytes None at items end
  until_items_by true others items end is on h =
      subst (λ p. ItemsAt depth bytes None at p.0 p.1) (ok_same ([], at + 1) (items, end) h) (ends_there bytes at byte there is)
  until_items_by false others items end is on h = on h refl

  until_pairs_by : (stop : Bool) (others : Reading (List (Item × Item))) (pairs : List (Item × Item)) (end : ℕ) → nat_eq byte 0xff ≡ stop →
      (others ≡ Ok (pairs, end) → stop ≡ false → PairsAt depth bytes None at pairs end) → cond stop (Ok ([], at + 1)) others ≡ Ok (pairs, end) → PairsAt depth bytes None at pairs end
  until_pairs_by true others pairs end is on h =
      subst (λ p. PairsAt depth bytes None at p.0 p.1) (ok_same ([], at + 1) (pairs, end) h) (ends_there bytes at byte there is)
  until_pairs_by false others pairs end is on h = on h refl

until_items : (depth : ℕ) (bytes : List ℕ) (left at : ℕ) (items : List Item) (end : ℕ) → until_break (λ place. place) bytes left (item_at depth bytes why.Break) at ≡ Ok (items, end) →
    ItemsAt depth bytes None at items end
unfolding until_break
until_items depth bytes zero at items end h = absurd (not_ok _ (items, end) h)
until_items depth bytes (suc left) at items end h =
    let first = bind_ok (byte_at at bytes) _ (items, end) h in
    until_items_by depth bytes at first.0 first.1 (nat_eq first.0 0xff) _ items end refl
    (λ k on.
    let value = bind_ok (item_at depth bytes why.Break at) _ (items, end) k in
    let others = bind_ok (until_break (λ (p : ℕ). p) bytes left (item_at depth bytes why.Break) value.0.1) _ (items, end) value.2 in
    subst (λ p. ItemsAt depth bytes None at p.0 p.1) (ok_same (value.0.0 ∷ others.0.0, others.0.1) (items, end) others.2)
    (goes_there bytes at first.0 first.1 on, (value.0.1, value.1, until_items depth bytes left value.0.1 others.0.0 others.0.1 others.1)))
    first.2

-- a key and its value
entry_parts : (depth : ℕ) (bytes : List ℕ) (broken : Why) (at : ℕ) (x : (Item × Item) × ℕ) → entry_at (item_at depth bytes) broken at ≡ Ok x →
    (middle : ℕ) × ItemAt depth bytes at x.0.0 middle × ItemAt depth bytes middle x.0.1 x.1
unfolding entry_at
entry_parts depth bytes broken at x h =
    let key = bind_ok (item_at depth bytes why.Break at) _ x h in
    let value = bind_ok (item_at depth bytes broken key.0.1) _ x key.2 in
    subst (λ p. (middle : ℕ) × ItemAt depth bytes at p.0.0 middle × ItemAt depth bytes middle p.0.1 p.1) (ok_same ((key.0.0, value.0.0), value.0.1) x value.2)
    (key.0.1, key.1, item_any depth bytes broken key.0.1 value.0 value.1)

-- so many pairs
times_pairs : (depth : ℕ) (bytes : List ℕ) (count at : ℕ) (pairs : List (Item × Item)) (end : ℕ) → times count (entry_at (item_at depth bytes) why.Break) at ≡ Ok (pairs, end) →
    PairsAt depth bytes (Some count) at pairs end
unfolding times
times_pairs depth bytes zero at pairs end h =
    subst (λ p. PairsAt depth bytes (Some zero) at p.0 p.1) (ok_same ([], at) (pairs, end) h) refl
times_pairs depth bytes (suc count) at pairs end h =
    let first = bind_ok (entry_at (item_at depth bytes) why.Break at) _ (pairs, end) h in
    let others = bind_ok (times count (entry_at (item_at depth bytes) why.Break) first.0.1) _ (pairs, end) first.2 in
    let parts = entry_parts depth bytes why.Break at first.0 first.1 in
    let less : suc count - 1 ≡ count = omega arith in
    let rest : PairsAt depth bytes (Some (suc count - 1)) first.0.1 others.0.0 others.0.1 =
    rw less (times_pairs depth bytes count first.0.1 others.0.0 others.0.1 others.1) in
    subst (λ p. PairsAt depth bytes (Some (suc count)) at p.0 p.1) (ok_same (first.0.0 ∷ others.0.0, others.0.1) (pairs, end) others.2)
    (more_left count bytes at, (parts.0, first.0.1, parts.1, parts.2, rest))

-- pairs up to a break
until_pairs : (depth : ℕ) (bytes : List ℕ) (left at : ℕ) (pairs : List (Item × Item)) (end : ℕ) →
    until_break (λ place. place) bytes left (entry_at (item_at depth bytes) why.Odd) at ≡ Ok (pairs, end) → PairsAt depth bytes None at pairs end
unfolding until_break
until_pairs depth bytes zero at pairs end h = absurd (not_ok _ (pairs, end) h)
until_pairs depth bytes (suc left) at pairs end h =
    let first = bind_ok (byte_at at bytes) _ (pairs, end) h in
    until_pairs_by depth bytes at first.0 first.1 (nat_eq first.0 0xff) _ pairs end refl
    (λ k on.
    let value = bind_ok (entry_at (item_at depth bytes) why.Odd at) _ (pairs, end) k in
    let others = bind_ok (until_break (λ (p : ℕ). p) bytes left (entry_at (item_at depth bytes) why.Odd) value.0.1) _ (pairs, end) value.2 in
    let parts = entry_parts depth bytes why.Odd at value.0 value.1 in
    subst (λ p. PairsAt depth bytes None at p.0 p.1) (ok_same (value.0.0 ∷ others.0.0, others.0.1) (pairs, end) others.2)
    (goes_there bytes at first.0 first.1 on, (parts.0, value.0.1, parts.1, parts.2, until_pairs depth bytes left value.0.1 others.0.0 others.0.1 others.1)))
    first.2

-- the value of a choice whose test is known
if_true : {A : Type 0} (b : Bool) (x y : A) {z : A} → b ≡ true → cond b x y ≡ z → x ≡ z
if_true true x y is h = h
if_true false x y is h = absurd cc

if_false : {A : Type 0} (b : Bool) (x y : A) {z : A} → b ≡ false → cond b x y ≡ z → y ≡ z
if_false true x y is h = absurd cc
if_false false x y is h = h

-- a value that is given if a test holds
right_of : {A : Type 0} (b : Bool) (x y : A) (e : CborFault) → cond b (Ok x) (Err e) ≡ Ok y → x ≡ y
right_of true x y e h = ok_same x y h
right_of false x y e h = absurd (not_ok e y h)

-- the string behind a head
string_of : (bytes : List ℕ) (is_text : Bool) (info at n next : ℕ) (x : List ℕ × ℕ) → argument_at info at bytes ≡ Ok (n, next) → string_at is_text 0 info at bytes ≡ Ok x →
    (next + n ≤ length bytes) × (piece next n bytes ≡ x.0) × (next + n ≡ x.1)
unfolding string_at content_at
string_of bytes is_text info at n next x a h =
    let short = if_err_else (nat_lt most_string (0 + n)) _ _ x (bound (argument_at info at bytes) (n, next) _ (Ok x) a h) in
    let long = if_err_else (nat_lt (length bytes) (next + n)) _ _ x short.1 in
    let right = right_of (is_content is_text (piece next n bytes)) (piece next n bytes, next + n) x _ long.1 in
    (ltb-false (length bytes) (next + n) long.0, ap (λ p. p.0) right, ap (λ p. p.1) right)

-- what an item is behind a head with an argument
module _ (depth : ℕ) (bytes : List ℕ) (info at n next : ℕ) (item : Item) (end : ℕ) (a : argument_at info at bytes ≡ Ok (n, next)) where
  number_of : (make : ℕ → Item) (seen : Item-F Item) → out-Item (make n) ≡ seen → ◌>>=◌ {B = Item × ℕ} (argument_at info at bytes) (λ k. Ok (make k.0, k.1)) ≡ Ok (item, end) →
      (out-Item item ≡ seen) × (next ≡ end)
  number_of make seen out h =
      let same = ok_same (make n, next) (item, end) (bound (argument_at info at bytes) (n, next) _ (Ok (item, end)) a h) in
      (ap out-Item (sym (ap (λ p. p.0) same)) ∙ out, ap (λ p. p.1) same)

  definite_of : (kind : MajorType) → definite_at depth (item_at (depth - 1) bytes) kind info at bytes ≡ Ok (item, end) → HeadOf kind (Some n) next depth bytes item end
  unfolding definite_at definite_string_at simple_at array_at map_at tagged_at
  definite_of major.Unsigned h = number_of unsigned (Item-F.Uint n) (out_unsigned n) h
  definite_of major.Negative h = number_of negative (Item-F.Nint n) (out_negative n) h
  definite_of major.Bytes h =
      let content = bind_ok (string_at false 0 info at bytes) _ (item, end) h in
      let same = ok_same (bytes_item content.0.0, content.0.1) (item, end) content.2 in
      let parts = string_of bytes false info at n next content.0 a content.1 in
      (ap out-Item (sym (ap (λ p. p.0) same)) ∙ out_bytes content.0.0 ∙ ap Item-F.Bytes (sym parts.1), parts.0, parts.2 ∙ ap (λ p. p.1) same)
  definite_of major.Text h =
      let content = bind_ok (string_at true 0 info at bytes) _ (item, end) h in
      let same = ok_same (text content.0.0, content.0.1) (item, end) content.2 in
      (content.0.0, ap out-Item (sym (ap (λ p. p.0) same)) ∙ out_text content.0.0)
  definite_of major.Array h =
      let test = if_err_else (nat_eq depth 0) _ _ (item, end) h in
      let items = bind_ok (times n (item_at (depth - 1) bytes why.Break) next) _ (item, end) (bound (argument_at info at bytes) (n, next) _ (Ok (item, end)) a test.1) in
      let same = ok_same (array items.0.0, items.0.1) (item, end) items.2 in (
        items.0.0,
        ap out-Item (sym (ap (λ p. p.0) same)) ∙ out_array items.0.0,
        subst (λ e. ItemsAt (depth - 1) bytes (Some n) next items.0.0 e) (ap (λ p. p.1) same) (times_items (depth - 1) bytes n next items.0.0 items.0.1 items.1),
      )
  definite_of major.Map h =
      let test = if_err_else (nat_eq depth 0) _ _ (item, end) h in
      let pairs = bind_ok (times n (entry_at (item_at (depth - 1) bytes) why.Break) next) _ (item, end) (bound (argument_at info at bytes) (n, next) _ (Ok (item, end)) a test.1) in
      let same = ok_same (entries pairs.0.0, pairs.0.1) (item, end) pairs.2 in (
        pairs.0.0,
        ap out-Item (sym (ap (λ p. p.0) same)) ∙ out_entries pairs.0.0,
        subst (λ e. PairsAt (depth - 1) bytes (Some n) next pairs.0.0 e) (ap (λ p. p.1) same) (times_pairs (depth - 1) bytes n next pairs.0.0 pairs.0.1 pairs.1),
      )
  definite_of major.Tag h =
      let test = if_err_else (nat_eq depth 0) _ _ (item, end) h in
      let content = bind_ok (item_at (depth - 1) bytes why.Break next) _ (item, end) (bound (argument_at info at bytes) (n, next) _ (Ok (item, end)) a test.1) in
      let same = ok_same (other (piece at (content.0.1 - at) bytes), content.0.1) (item, end) content.2 in
      (piece at (content.0.1 - at) bytes, ap out-Item (sym (ap (λ p. p.0) same)) ∙ out_other (piece at (content.0.1 - at) bytes))
  definite_of major.Simple h =
      let test = if_err_else (nat_eq info 24 && nat_lt n 32) _ _ (item, end) (bound (argument_at info at bytes) (n, next) _ (Ok (item, end)) a h) in
      let same = ok_same (other (piece at (next - at) bytes), next) (item, end) test.1 in
      (piece at (next - at) bytes, ap out-Item (sym (ap (λ p. p.0) same)) ∙ out_other (piece at (next - at) bytes))

-- a head whose argument is not there is no item
needs_argument : (depth : ℕ) (inner : ItemReader) (kind : MajorType) (info at : ℕ) (bytes : List ℕ) (e : CborFault) (x : Item × ℕ) → argument_at info at bytes ≡ Err e →
    definite_at depth inner kind info at bytes ≡ Ok x → ⊥
unfolding definite_at definite_string_at string_at simple_at array_at map_at tagged_at
needs_argument depth inner major.Unsigned info at bytes e x a h = let k = bind_ok (argument_at info at bytes) _ x h in not_ok e k.0 (sym a ∙ k.1)
needs_argument depth inner major.Negative info at bytes e x a h = let k = bind_ok (argument_at info at bytes) _ x h in not_ok e k.0 (sym a ∙ k.1)
needs_argument depth inner major.Bytes info at bytes e x a h =
    let content = bind_ok (string_at false 0 info at bytes) _ x h in
    let k = bind_ok (argument_at info at bytes) _ content.0 content.1 in not_ok e k.0 (sym a ∙ k.1)
needs_argument depth inner major.Text info at bytes e x a h =
    let content = bind_ok (string_at true 0 info at bytes) _ x h in
    let k = bind_ok (argument_at info at bytes) _ content.0 content.1 in not_ok e k.0 (sym a ∙ k.1)
needs_argument depth inner major.Array info at bytes e x a h =
    let test = if_err_else (nat_eq depth 0) _ _ x h in
    let k = bind_ok (argument_at info at bytes) _ x test.1 in not_ok e k.0 (sym a ∙ k.1)
needs_argument depth inner major.Map info at bytes e x a h =
    let test = if_err_else (nat_eq depth 0) _ _ x h in
    let k = bind_ok (argument_at info at bytes) _ x test.1 in not_ok e k.0 (sym a ∙ k.1)
needs_argument depth inner major.Tag info at bytes e x a h =
    let test = if_err_else (nat_eq depth 0) _ _ x h in
    let k = bind_ok (argument_at info at bytes) _ x test.1 in not_ok e k.0 (sym a ∙ k.1)
needs_argument depth inner major.Simple info at bytes e x a h = let k = bind_ok (argument_at info at bytes) _ x h in not_ok e k.0 (sym a ∙ k.1)

-- what an item is behind a head of one byte that tells no length
indefinite_of : (depth : ℕ) (bytes : List ℕ) (at : ℕ) (item : Item) (end : ℕ) (kind : MajorType) →
    indefinite_at depth (item_at (depth - 1) bytes) why.Break kind at bytes ≡ Ok (item, end) → HeadOf kind None (at + 1) depth bytes item end
unfolding indefinite_at chunked_string_at open_array_at open_map_at
indefinite_of depth bytes at item end major.Unsigned h = absurd (not_ok _ (item, end) h)
indefinite_of depth bytes at item end major.Negative h = absurd (not_ok _ (item, end) h)
indefinite_of depth bytes at item end major.Bytes h =
    let content = bind_ok (chunks_at false (at + 1) bytes) _ (item, end) h in
    let same = ok_same (bytes_item content.0.0, content.0.1) (item, end) content.2 in
    (content.0.0, ap out-Item (sym (ap (λ p. p.0) same)) ∙ out_bytes content.0.0, content.1 ∙ ap (λ e. Ok (content.0.0, e)) (ap (λ p. p.1) same))
indefinite_of depth bytes at item end major.Text h =
    let content = bind_ok (chunks_at true (at + 1) bytes) _ (item, end) h in
    let same = ok_same (text content.0.0, content.0.1) (item, end) content.2 in
    (content.0.0, ap out-Item (sym (ap (λ p. p.0) same)) ∙ out_text content.0.0)
indefinite_of depth bytes at item end major.Array h =
    let test = if_err_else (nat_eq depth 0) _ _ (item, end) h in
    let items = bind_ok (until_break (λ (p : ℕ). p) bytes (length bytes) (item_at (depth - 1) bytes why.Break) (at + 1)) _ (item, end) test.1 in
    let same = ok_same (array items.0.0, items.0.1) (item, end) items.2 in (
      items.0.0,
      ap out-Item (sym (ap (λ p. p.0) same)) ∙ out_array items.0.0,
      subst (λ e. ItemsAt (depth - 1) bytes None (at + 1) items.0.0 e) (ap (λ p. p.1) same) (until_items (depth - 1) bytes (length bytes) (at + 1) items.0.0 items.0.1 items.1),
    )
indefinite_of depth bytes at item end major.Map h =
    let test = if_err_else (nat_eq depth 0) _ _ (item, end) h in
    let pairs = bind_ok (until_break (λ (p : ℕ). p) bytes (length bytes) (entry_at (item_at (depth - 1) bytes) why.Odd) (at + 1)) _ (item, end) test.1 in
    let same = ok_same (entries pairs.0.0, pairs.0.1) (item, end) pairs.2 in (
      pairs.0.0,
      ap out-Item (sym (ap (λ p. p.0) same)) ∙ out_entries pairs.0.0,
      subst (λ e. PairsAt (depth - 1) bytes None (at + 1) pairs.0.0 e) (ap (λ p. p.1) same) (until_pairs (depth - 1) bytes (length bytes) (at + 1) pairs.0.0 pairs.0.1 pairs.1),
    )
indefinite_of depth bytes at item end major.Tag h = absurd (not_ok _ (item, end) h)
indefinite_of depth bytes at item end major.Simple h = absurd (not_ok _ (item, end) h)

-- a fault of a call that takes no memory is the one that is read
pub is_fault : {A : Type 0} (bytes : List ℕ) (e : CborFault) (r : Result A CborFault) → GivesFault e r → LiesWithin bytes e → (f : CborFault) × (r ≡ Err f)
is_fault bytes (fault.Bad at reason) r gives within = (fault.Bad at reason, gives)
is_fault bytes fault.NoMemory r gives within = absurd within

-- An item begins with a byte; behind it stands an argument, where the additional information says so.
module _ (depth : ℕ) (bytes : List ℕ) (at : ℕ) (item : Item) (end : ℕ) (is : ItemAt depth bytes at item end) where
  read_by : item_by depth (item_at (depth - 1) bytes) why.Break at bytes ≡ Ok (item, end)
  read_by = sym (item_at_is depth bytes why.Break at) ∙ is

  -- no item stands where no byte is
  pub no_byte : (e : CborFault) → byte_at at bytes ≡ Err e → ⊥
  unfolding item_by
  no_byte e h = let first = bind_ok (byte_at at bytes) _ (item, end) read_by in absurd (not_ok e first.0 (sym h ∙ first.1))

  pub argument_head : (first n next : ℕ) → byte_at at bytes ≡ Ok first → first % 32 < 28 → argument_at (first % 32) at bytes ≡ Ok (n, next) →
      HeadOf (major_type (first / 32)) (Some n) next depth bytes item end
  unfolding item_by
  argument_head first n next there low a =
      let k = bound (byte_at at bytes) first _ (Ok (item, end)) there read_by in
      definite_of depth bytes (first % 32) at n next item end a (major_type (first / 32)) (if_true (nat_lt (first % 32) 28) _ _ (lt-ltb (first % 32) 28 low) k)

  -- no item stands where its argument is no argument
  pub no_argument : (first : ℕ) (e : CborFault) → byte_at at bytes ≡ Ok first → first % 32 < 28 → argument_at (first % 32) at bytes ≡ Err e → ⊥
  unfolding item_by
  no_argument first e there low a =
      let k = bound (byte_at at bytes) first _ (Ok (item, end)) there read_by in
      needs_argument depth (item_at (depth - 1) bytes) (major_type (first / 32)) (first % 32) at bytes e (item, end) a (if_true (nat_lt (first % 32) 28) _ _ (lt-ltb (first % 32) 28 low) k)

  pub bare_head : (first : ℕ) → byte_at at bytes ≡ Ok first → 28 ≤ first % 32 → HeadOf (major_type (first / 32)) None (at + 1) depth bytes item end
  unfolding item_by
  bare_head first there high =
      let k = bound (byte_at at bytes) first _ (Ok (item, end)) there read_by in
      let j = if_false (nat_lt (first % 32) 28) _ _ (le-ltb (first % 32) 28 high) k in
      indefinite_of depth bytes at item end (major_type (first / 32)) (if_err_else (nat_lt (first % 32) 31) _ _ (item, end) j).1
