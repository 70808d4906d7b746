-- An item that is spelled is read.
use Rattle.std.proofs.Common.{◌≡◌, ℕ, zero, suc, ◌+◌, ◌-◌, ◌<◌, ◌≤◌, Bool, true, false, List, [], ◌∷◌, ◌++◌, length, drop, Ok, inl, inr, refl, ap, sym, subst, ◌∙◌, arith, append_assoc, length-append}
use Rattle.std.specs.Prelude.{nat_lt, nat_eq, ◌&&◌}
use Rattle.std.proofs.lemmas.Bool.{cases_eq, le-ltb, eq-eqb, ne_eqb}
use Rattle.cd_cbor.specs.Heads.{IsHead, argument_size}
use Rattle.cd_cbor.specs.MajorTypes.{major_number}
use Rattle.cd_cbor.specs.Items.{unsigned, negative, array, entries}
use Rattle.cd_cbor.specs.Spells.{other, Each, SpellsPair, SpellsString, SpellsChunks, SpellsPlain, is_unsigned, is_negative, is_string, is_chunked, is_simple, SpellsHolder, is_array, is_open_array, is_map, is_open_map, is_tagged, Spells, string_type, string_item, indefinite}
use Rattle.cd_cbor.specs.Readings.{Reading, piece, until_break}
use Rattle.cd_cbor.specs.Reading.{ItemReader, definite_string_at, chunked_string_at, simple_at, entry_at, array_at, map_at, tagged_at, open_array_at, open_map_at, definite_at, indefinite_at, item_by, item_at}
use Rattle.cd_cbor.specs.declared.item.Item.{Item}
use Rattle.cd_cbor.specs.declared.fault.Why.{Why}
use Rattle.cd_cbor.specs.declared.fault.Why.TheVariants as why
use Rattle.cd_cbor.specs.declared.major_type.MajorType.{MajorType}
use Rattle.cd_cbor.specs.declared.major_type.MajorType.TheVariants as major
use Rattle.cd_cbor.proofs.Offsets.{drop_on, lies_within, piece_is}
use Rattle.cd_cbor.proofs.HeadsRead.{head_reads, item_of_head, item_of_indefinite, head_begins, begins_append, Begins}
use Rattle.cd_cbor.proofs.EachRead.{Reads, AllBegin, Step, times_reads, until_reads, each_length}
use Rattle.cd_cbor.proofs.StringsRead.{string_begins, string_head, string_reads, chunks_read}
use Rattle.cd_cbor.proofs.Depths.{item_at_is}

-- the same value that ends at the same offset
same_end : {A : Type 0} (r : Reading A) (x y : A) (m n : ℕ) → r ≡ Ok (x, m) → y ≡ x → m ≡ n → r ≡ Ok (y, n)
same_end r x y m n h is same = rw is (h ∙ ap (λ k. Ok (x, k)) same)

-- the first byte of what has no definite length is no break
open_begins : (kind : MajorType) (body : List ℕ) → major_number kind < 7 → Begins (indefinite kind ∷ body)
open_begins kind body low = (indefinite kind, body, refl, λ e. omega arith)

string_low : (is_text : Bool) → major_number (string_type is_text) < 7
string_low true = omega arith
string_low false = omega arith

plain_begins : (item : Item) (s : List ℕ) → SpellsPlain item s → Begins s
plain_begins item s (is_unsigned n h is) = head_begins major.Unsigned n s h
plain_begins item s (is_negative n h is) = head_begins major.Negative n s h
plain_begins item s (is_string is_text content h is) = string_begins is_text content s h
plain_begins item s (is_chunked is_text content h is) = subst Begins (sym h.whole) (open_begins (string_type is_text) (h.body ++ 255 ∷ []) (string_low is_text))
plain_begins item s (is_simple n h high is) = head_begins major.Simple n s h

holder_begins : (P : Item → List ℕ → Type 0) (item : Item) (s : List ℕ) → SpellsHolder P item s → Begins s
holder_begins P item s (is_array items head body h each whole is) = subst Begins (sym whole) (begins_append head body (head_begins major.Array (length items) head h))
holder_begins P item s (is_open_array items body each whole is) = subst Begins (sym whole) (open_begins major.Array (body ++ 255 ∷ []) (omega arith))
holder_begins P item s (is_map pairs head body h each whole is) = subst Begins (sym whole) (begins_append head body (head_begins major.Map (length pairs) head h))
holder_begins P item s (is_open_map pairs body each whole is) = subst Begins (sym whole) (open_begins major.Map (body ++ 255 ∷ []) (omega arith))
holder_begins P item s (is_tagged tag content head body h has whole is) = subst Begins (sym whole) (begins_append head body (head_begins major.Tag tag head h))

-- each spelling of an item begins, and not with a break
pub item_begins : (depth : ℕ) → AllBegin (Spells depth)
item_begins zero item s h = plain_begins item s h
item_begins (suc depth) item s (inl h) = plain_begins item s h
item_begins (suc depth) item s (inr h) = holder_begins (Spells depth) item s h

string_arm : (is_text : Bool) (depth : ℕ) (inner : ItemReader) (info at : ℕ) (bytes : List ℕ) →
    definite_at depth inner (string_type is_text) info at bytes ≡ definite_string_at is_text info at bytes
unfolding definite_at
string_arm true depth inner info at bytes = refl
string_arm false depth inner info at bytes = refl

chunks_arm : (is_text : Bool) (depth : ℕ) (inner : ItemReader) (broken : Why) (at : ℕ) (bytes : List ℕ) →
    indefinite_at depth inner broken (string_type is_text) at bytes ≡ chunked_string_at is_text at bytes
unfolding indefinite_at
chunks_arm true depth inner broken at bytes = refl
chunks_arm false depth inner broken at bytes = refl

module _ (depth : ℕ) (inner : ItemReader) (broken : Why) (at : ℕ) (bytes rest : List ℕ) where
  unsigned_reads : (n : ℕ) (s : List ℕ) → drop at bytes ≡ s ++ rest → IsHead major.Unsigned n s → item_by depth inner broken at bytes ≡ Ok (unsigned n, at + length s)
  unfolding definite_at
  unsigned_reads n s e h =
      let a = head_reads major.Unsigned n at bytes s rest e h in
      item_of_head depth inner broken major.Unsigned at h.info bytes h.definite a.first ∙ rw a.argument refl

  negative_reads : (n : ℕ) (s : List ℕ) → drop at bytes ≡ s ++ rest → IsHead major.Negative n s → item_by depth inner broken at bytes ≡ Ok (negative n, at + length s)
  unfolding definite_at
  negative_reads n s e h =
      let a = head_reads major.Negative n at bytes s rest e h in
      item_of_head depth inner broken major.Negative at h.info bytes h.definite a.first ∙ rw a.argument refl

  definite_reads : (is_text : Bool) (content s : List ℕ) → drop at bytes ≡ s ++ rest → SpellsString is_text content s →
      item_by depth inner broken at bytes ≡ Ok (string_item is_text content, at + length s)
  unfolding definite_string_at
  definite_reads is_text content s e h =
      let a = string_head is_text at bytes content s rest e h in
      item_of_head depth inner broken (string_type is_text) at h.is_head.info bytes h.is_head.definite a.first
      ∙ string_arm is_text depth inner h.is_head.info at bytes
      ∙ rw (string_reads is_text 0 at bytes content s rest e h (omega (arith, h.short))) refl

  chunked_reads : (is_text : Bool) (content s : List ℕ) → drop at bytes ≡ s ++ rest → SpellsChunks is_text content s →
      item_by depth inner broken at bytes ≡ Ok (string_item is_text content, at + length s)
  unfolding chunked_string_at
  chunked_reads is_text content s e h =
      item_of_indefinite depth inner broken (string_type is_text) at bytes ((h.body ++ 255 ∷ []) ++ rest) (e ∙ ap (λ t. t ++ rest) h.whole)
      ∙ chunks_arm is_text depth inner broken at bytes
      ∙ rw (chunks_read is_text at bytes content s rest e h) refl

  simple_reads : (n : ℕ) (s : List ℕ) → drop at bytes ≡ s ++ rest → IsHead major.Simple n s → (length s ≡ 2 → 32 ≤ n) →
      item_by depth inner broken at bytes ≡ Ok (other s, at + length s)
  unfolding definite_at simple_at argument_size
  simple_reads n s e h high =
      let a = head_reads major.Simple n at bytes s rest e h in
      let size : at + length s - at ≡ length s = omega arith in
      let there : piece at (at + length s - at) bytes ≡ s = ap (λ k. piece at k bytes) size ∙ piece_is at bytes s rest e in
      let wrong : (nat_eq h.info 24 && nat_lt n 32) ≡ false =
      elim (cases_eq h.info 24) [
        | inl low ↦
            let two : length s ≡ 2 = a.long ∙ ap (λ i. 1 + argument_size i) low in
            rw (eq-eqb h.info 24 low, le-ltb n 32 (high two)) refl
        | inr apart ↦ rw (ne_eqb h.info 24 apart) refl
      ] in
      item_of_head depth inner broken major.Simple at h.info bytes h.definite a.first ∙ rw (a.argument, wrong, there) refl

-- an item that holds no other one
plain_reads : (depth : ℕ) (inner : ItemReader) (broken : Why) (at : ℕ) (bytes s rest : List ℕ) (item : Item) → drop at bytes ≡ s ++ rest → SpellsPlain item s →
    item_by depth inner broken at bytes ≡ Ok (item, at + length s)
plain_reads depth inner broken at bytes s rest item e (is_unsigned n h is) = same_end _ _ item _ _ (unsigned_reads depth inner broken at bytes rest n s e h) is refl
plain_reads depth inner broken at bytes s rest item e (is_negative n h is) = same_end _ _ item _ _ (negative_reads depth inner broken at bytes rest n s e h) is refl
plain_reads depth inner broken at bytes s rest item e (is_string is_text content h is) =
    same_end _ _ item _ _ (definite_reads depth inner broken at bytes rest is_text content s e h) is refl
plain_reads depth inner broken at bytes s rest item e (is_chunked is_text content h is) =
    same_end _ _ item _ _ (chunked_reads depth inner broken at bytes rest is_text content s e h) is refl
plain_reads depth inner broken at bytes s rest item e (is_simple n h high is) = same_end _ _ item _ _ (simple_reads depth inner broken at bytes rest n s e h high) is refl

-- a key and its value
entry_reads : (P : Item → List ℕ → Type 0) (inner : ItemReader) (broken : Why) (bytes : List ℕ) → ((reason : Why) → Reads P bytes (inner reason)) →
    Reads (SpellsPair P) bytes (entry_at inner broken)
unfolding entry_at
entry_reads P inner broken bytes each at pair s rest e has =
    let key : List ℕ = has.0 in
    let value : List ℕ = has.1 in
    let here : drop at bytes ≡ key ++ (value ++ rest) = e ∙ ap (λ t. t ++ rest) has.2 ∙ append_assoc key value rest in
    let first = each why.Break at pair.0 key (value ++ rest) here has.3 in
    let second = each broken (at + length key) pair.1 value rest (drop_on at bytes key (value ++ rest) here) has.4 in
    let sum : at + length key + length value ≡ at + length s = let l : length s ≡ length (key ++ value) = ap length has.2 in omega (arith, length-append key value) in
    rw (first, second) (ap (λ n. Ok (pair, n)) sum)

pub pair_begins : (P : Item → List ℕ → Type 0) → AllBegin P → AllBegin (SpellsPair P)
pair_begins P begin pair s has = subst Begins (sym has.2) (begins_append has.0 has.1 (begin pair.0 has.0 has.3))

-- what one more reading before a break does
item_step : {A : Type 0} (P : A → List ℕ → Type 0) (bytes : List ℕ) (read : ℕ → Reading A) → AllBegin P → Reads P bytes read → (place : ℕ) (x : A) (xs : List A) (s rest : List ℕ) →
    drop place bytes ≡ s ++ rest → P x s → Unit {0} → Step (λ p. p) bytes read (λ p ys. Unit {0}) place x xs s
item_step P bytes read begin each place x xs s rest e has fits =
    record { begins = begin x s has; next = place + length s; gives = each place x s rest e has; on = refl; fits = tt }

-- values up to a break, after the first byte of what holds them
open_reads : {A : Type 0} (P : A → List ℕ → Type 0) (bytes : List ℕ) (read : ℕ → Reading A) → AllBegin P → Reads P bytes read → (kind : MajorType) (xs : List A) (at : ℕ) (s body rest : List ℕ) →
    drop at bytes ≡ s ++ rest → s ≡ indefinite kind ∷ (body ++ 255 ∷ []) → Each P xs body → until_break (λ p. p) bytes (length bytes) read (at + 1) ≡ Ok (xs, at + length s)
open_reads P bytes read begin each kind xs at s body rest e whole has =
    let first : ℕ = indefinite kind in
    let here : drop at bytes ≡ (first ∷ []) ++ (body ++ 255 ∷ rest) = e ∙ ap (λ t. t ++ rest) whole ∙ ap (λ t. first ∷ t) (append_assoc body (255 ∷ []) rest) in
    let after : drop (at + 1) bytes ≡ body ++ 255 ∷ rest = drop_on at bytes (first ∷ []) (body ++ 255 ∷ rest) here in
    let all : at + 1 + length (body ++ 255 ∷ rest) ≡ length bytes = lies_within at bytes (first ∷ []) (body ++ 255 ∷ rest) here (omega arith) in
    let few : length xs ≤ length body = each_length P begin xs body has in
    let found = until_reads P (λ (p : ℕ). p) bytes read (λ p ys. Unit {0}) (item_step P bytes read begin each) xs (length bytes) (at + 1) body rest
    (omega (arith, length-append body (255 ∷ rest))) after has tt in
    let sum : at + 1 + length body + 1 ≡ at + length s =
    let l : length s ≡ length (first ∷ (body ++ 255 ∷ [])) = ap length whole in omega (arith, length-append body (255 ∷ [])) in
    found ∙ ap (λ n. Ok (xs, n)) sum

module _ (P : Item → List ℕ → Type 0) (depth : ℕ) (inner : ItemReader) (bytes : List ℕ) (opens : nat_eq depth 0 ≡ false) (begin : AllBegin P)
    (each : (reason : Why) → Reads P bytes (inner reason)) (broken : Why) (at : ℕ) (s rest : List ℕ) (e : drop at bytes ≡ s ++ rest) where
  array_reads : (items : List Item) (head body : List ℕ) → IsHead major.Array (length items) head → Each P items body → s ≡ head ++ body →
      item_by depth inner broken at bytes ≡ Ok (array items, at + length s)
  unfolding definite_at array_at
  array_reads items head body h has whole =
      let here : drop at bytes ≡ head ++ (body ++ rest) = e ∙ ap (λ t. t ++ rest) whole ∙ append_assoc head body rest in
      let a = head_reads major.Array (length items) at bytes head (body ++ rest) here h in
      let found = times_reads P bytes (inner why.Break) (each why.Break) items (at + length head) body rest (drop_on at bytes head (body ++ rest) here) has in
      let sum : at + length head + length body ≡ at + length s = let l : length s ≡ length (head ++ body) = ap length whole in omega (arith, length-append head body) in
      item_of_head depth inner broken major.Array at h.info bytes h.definite a.first ∙ rw (opens, a.argument, found) (ap (λ n. Ok (array items, n)) sum)

  map_reads : (pairs : List (Item × Item)) (head body : List ℕ) → IsHead major.Map (length pairs) head → Each (SpellsPair P) pairs body → s ≡ head ++ body →
      item_by depth inner broken at bytes ≡ Ok (entries pairs, at + length s)
  unfolding definite_at map_at
  map_reads pairs head body h has whole =
      let here : drop at bytes ≡ head ++ (body ++ rest) = e ∙ ap (λ t. t ++ rest) whole ∙ append_assoc head body rest in
      let a = head_reads major.Map (length pairs) at bytes head (body ++ rest) here h in
      let found = times_reads (SpellsPair P) bytes (entry_at inner why.Break) (entry_reads P inner why.Break bytes each) pairs (at + length head) body rest
      (drop_on at bytes head (body ++ rest) here) has in
      let sum : at + length head + length body ≡ at + length s = let l : length s ≡ length (head ++ body) = ap length whole in omega (arith, length-append head body) in
      item_of_head depth inner broken major.Map at h.info bytes h.definite a.first ∙ rw (opens, a.argument, found) (ap (λ n. Ok (entries pairs, n)) sum)

  tagged_reads : (tag : ℕ) (content : Item) (head body : List ℕ) → IsHead major.Tag tag head → P content body → s ≡ head ++ body →
      item_by depth inner broken at bytes ≡ Ok (other s, at + length s)
  unfolding definite_at tagged_at
  tagged_reads tag content head body h has whole =
      let here : drop at bytes ≡ head ++ (body ++ rest) = e ∙ ap (λ t. t ++ rest) whole ∙ append_assoc head body rest in
      let a = head_reads major.Tag tag at bytes head (body ++ rest) here h in
      let found = each why.Break (at + length head) content body rest (drop_on at bytes head (body ++ rest) here) has in
      let sum : at + length head + length body ≡ at + length s = let l : length s ≡ length (head ++ body) = ap length whole in omega (arith, length-append head body) in
      let size : at + length s - at ≡ length s = omega arith in
      let there : piece at (at + length s - at) bytes ≡ s = ap (λ k. piece at k bytes) size ∙ piece_is at bytes s rest e in
      item_of_head depth inner broken major.Tag at h.info bytes h.definite a.first ∙ rw (opens, a.argument, found, sum, there) refl

  open_array_reads : (items : List Item) (body : List ℕ) → Each P items body → s ≡ indefinite major.Array ∷ (body ++ 255 ∷ []) →
      item_by depth inner broken at bytes ≡ Ok (array items, at + length s)
  unfolding indefinite_at open_array_at
  open_array_reads items body has whole =
      item_of_indefinite depth inner broken major.Array at bytes ((body ++ 255 ∷ []) ++ rest) (e ∙ ap (λ t. t ++ rest) whole)
      ∙ rw (opens, open_reads P bytes (inner why.Break) begin (each why.Break) major.Array items at s body rest e whole has) refl

  open_map_reads : (pairs : List (Item × Item)) (body : List ℕ) → Each (SpellsPair P) pairs body → s ≡ indefinite major.Map ∷ (body ++ 255 ∷ []) →
      item_by depth inner broken at bytes ≡ Ok (entries pairs, at + length s)
  unfolding indefinite_at open_map_at
  open_map_reads pairs body has whole =
      item_of_indefinite depth inner broken major.Map at bytes ((body ++ 255 ∷ []) ++ rest) (e ∙ ap (λ t. t ++ rest) whole)
      ∙ rw (opens, open_reads (SpellsPair P) bytes (entry_at inner why.Odd) (pair_begins P begin) (entry_reads P inner why.Odd bytes each) major.Map pairs at s body rest e whole has) refl

  -- an array, a map or a tag
  holder_reads : (item : Item) → SpellsHolder P item s → item_by depth inner broken at bytes ≡ Ok (item, at + length s)
  holder_reads item (is_array items head body h has whole is) = same_end _ _ item _ _ (array_reads items head body h has whole) is refl
  holder_reads item (is_open_array items body has whole is) = same_end _ _ item _ _ (open_array_reads items body has whole) is refl
  holder_reads item (is_map pairs head body h has whole is) = same_end _ _ item _ _ (map_reads pairs head body h has whole) is refl
  holder_reads item (is_open_map pairs body has whole is) = same_end _ _ item _ _ (open_map_reads pairs body has whole) is refl
  holder_reads item (is_tagged tag content head body h has whole is) = same_end _ _ item _ _ (tagged_reads tag content head body h has whole) is refl

-- an item, wherever it stands and whatever a break would be
pub item_reads : (depth : ℕ) (bytes : List ℕ) (broken : Why) → Reads (Spells depth) bytes (item_at depth bytes broken)
item_reads zero bytes broken at item s rest e h = item_at_is 0 bytes broken at ∙ plain_reads 0 (item_at (0 - 1) bytes) broken at bytes s rest item e h
item_reads (suc depth) bytes broken at item s rest e (inl h) =
    item_at_is (suc depth) bytes broken at ∙ plain_reads (suc depth) (item_at (suc depth - 1) bytes) broken at bytes s rest item e h
item_reads (suc depth) bytes broken at item s rest e (inr h) =
    let back : suc depth - 1 ≡ depth = omega arith in
    let opens : nat_eq (suc depth) 0 ≡ false = ne_eqb (suc depth) 0 (λ z. absurd (omega arith)) in
    item_at_is (suc depth) bytes broken at
    ∙ ap (λ n. item_by (suc depth) (item_at n bytes) broken at bytes) back
    ∙ holder_reads (Spells depth) (suc depth) (item_at depth bytes) bytes opens (item_begins depth) (λ reason. item_reads depth bytes reason) broken at s rest e item h
