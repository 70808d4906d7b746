-- What is due ends where the head at its front, or the chunk, says that it goes on.
use Rattle.std.proofs.Common.{◌≡◌, ℕ, zero, suc, ◌+◌, ◌-◌, ◌/◌, ◌%◌, ◌<◌, ◌≤◌, Bool, true, false, cond, List, [], ◌∷◌, length, drop, Some, None, Result, Ok, Err, inl, inr, refl, ap, sym, ◌∙◌, arith}
use Rattle.std.specs.Prelude.{nat_lt, nat_eq, ◌&&◌, All}
use Rattle.std.proofs.lemmas.Bool.{cases_eq, cases_Bool, eq-eqb, ne_eqb, ltb-false}
use Rattle.cd_cbor.specs.MajorTypes.{major_number}
use Rattle.cd_cbor.specs.Heads.{major_type}
use Rattle.cd_cbor.specs.Items.{unsigned, negative}
use Rattle.cd_cbor.specs.Spells.{other, string_item}
use Rattle.cd_cbor.specs.Readings.{Reading, ◌>>=◌, refused, piece, byte_at, times, until_break}
use Rattle.cd_cbor.specs.Reading.{opened, argument_at, string_at, chunk_at, joined, chunks_at, definite_string_at, chunked_string_at, simple_at, entry_at, array_of, map_of, array_at, map_at, tagged_at, open_array_at, open_map_at, definite_at, indefinite_at, item_by, item_at}
use Rattle.cd_cbor.specs.Events.{acted, array_act, map_act, simple_event, string_event, break_front, innermost, string_front, definite_front, indefinite_front, head_front}
use Rattle.cd_cbor.specs.Scanning.{all_left, due_by, break_fault, all_due, done_of, done_front, after_done, due_front}
use Rattle.cd_cbor.specs.declared.item.Item.{Item}
use Rattle.cd_cbor.specs.declared.event.Event.{Event}
use Rattle.cd_cbor.specs.declared.event.Event.TheVariants as event
use Rattle.cd_cbor.specs.declared.event.Told.{Told}
use Rattle.cd_cbor.specs.declared.event.Told.TheVariants as told
use Rattle.cd_cbor.specs.declared.event.Act.{Act}
use Rattle.cd_cbor.specs.declared.event.Act.TheVariants as act
use Rattle.cd_cbor.specs.declared.head_passing.Done.{Done}
use Rattle.cd_cbor.specs.declared.head_passing.Done.TheVariants as done
use Rattle.cd_cbor.specs.declared.scan.Due.{Due}
use Rattle.cd_cbor.specs.declared.scan.Due.TheVariants as due
use Rattle.cd_cbor.specs.declared.wanted.Wanted.{Wanted}
use Rattle.cd_cbor.specs.declared.wanted.Wanted.TheVariants as wanted
use Rattle.cd_cbor.specs.declared.fault.Why.{Why}
use Rattle.cd_cbor.specs.declared.fault.Why.TheVariants as why
use Rattle.cd_cbor.specs.declared.fault.CborFault.{CborFault}
use Rattle.cd_cbor.specs.declared.major_type.MajorType.{MajorType}
use Rattle.cd_cbor.specs.declared.major_type.MajorType.TheVariants as major
use Rattle.cd_cbor.proofs.Binds.{bind_same, ok_same}
use Rattle.cd_cbor.proofs.Stands.{byte_small, number_of_type}
use Rattle.cd_cbor.proofs.Depths.{item_at_is}
use Rattle.cd_cbor.proofs.Moved.{fault_moved, moved_by, further, chunk_further, byte_moved, argument_moved, string_moved, chunk_moved}
use Rattle.cd_cbor.proofs.FollowItems.{front_byte, chunk_is, array_none, array_some, map_none, map_some}
use Rattle.cd_cbor.proofs.Dues.{bind_assoc, times_none, until_on, items_due, last_due, pair_due, element_due, value_due, passed_due}

-- where all ends after a head that does this, up to this offset
abbrev pub done_on : ℕ → List ℕ → List Wanted → Done × ℕ → Result ℕ CborFault
done_on depth bytes w x = all_due depth bytes (after_done w x.0).0 (after_done w x.0).1 x.1

-- where all ends after an item
abbrev pub item_on : ℕ → List ℕ → List Wanted → Item × ℕ → Result ℕ CborFault
item_on depth bytes w x = all_left depth bytes w x.1

-- where all ends after a head at an offset, of what is read at the front of the bytes from there on
abbrev pub front_on : ℕ → List ℕ → List Wanted → ℕ → Reading Told → Result ℕ CborFault
front_on depth bytes w at front = moved_by at (further at) (front >>= done_of) >>= done_on depth bytes w

-- a fault at the front stands at the offset
refused_here : {A : Type 0} (at : ℕ) (reason : Why) → ◌≡◌ {A = Result A CborFault} (refused at reason) (refused (at + 0) reason)
refused_here {A} at reason = let same : at ≡ at + 0 = omega arith in ap (λ n. refused {A = A} n reason) same

-- a break that ends what is open
close_elements : (room : ℕ) (held : List ℕ) (first : ℕ) → byte_at 0 held ≡ Ok first → first ≡ 255 → head_front room (Some wanted.Elements) held ≡ Ok (told.Event event.Close act.Close, 1)
unfolding head_front indefinite_front break_front major_type
close_elements room held first there is = rw (there, is) refl

close_keys : (room : ℕ) (held : List ℕ) (first : ℕ) → byte_at 0 held ≡ Ok first → first ≡ 255 → head_front room (Some wanted.Keys) held ≡ Ok (told.Event event.Close act.Close, 1)
unfolding head_front indefinite_front break_front major_type
close_keys room held first there is = rw (there, is) refl

module _ (depth : ℕ) (bytes : List ℕ) (all : All (λ byte. byte < 256) bytes) (w : List Wanted) (at : ℕ) (within : at ≤ length bytes) where
  -- a head with an argument, or with a string, and what is read after it
  argument_on : {A : Type 0} (rest : A × ℕ → Reading Item) (tell : A → Event) (does : A → Act) →
      ((n : A) (next : ℕ) → (rest (n, next) >>= item_on depth bytes w) ≡ done_on depth bytes w (done.Act (does n), next)) →
      (r : Reading A) → ((moved_by at (further at) r >>= rest) >>= item_on depth bytes w) ≡ front_on depth bytes w at (r >>= (λ n. Ok (told.Event (tell n.0) (does n.0), n.1)))
  argument_on rest tell does after (Ok n) = after n.0 (at + n.1)
  argument_on rest tell does after (Err e) = refl

  -- a head that is an item
  leaf_on : {A : Type 0} (value : A → Item) (tell : A → Event) (r : Reading A) →
      ((moved_by at (further at) r >>= (λ n. Ok (value n.0, n.1))) >>= item_on depth bytes w) ≡ front_on depth bytes w at (r >>= (λ n. Ok (told.Event (tell n.0) act.Item, n.1)))
  unfolding acted
  leaf_on value tell r = argument_on (λ n. Ok (value n.0, n.1)) tell (λ n. act.Item) (λ n next. passed_due depth bytes all w next) r

  -- a string of definite length
  string_on : (is_text : Bool) (info : ℕ) → (definite_string_at is_text info at bytes >>= item_on depth bytes w)
      ≡ front_on depth bytes w at (string_front is_text info (drop at bytes) >>= (λ e. Ok (told.Event e.0 act.Item, e.1)))
  unfolding definite_string_at string_front
  string_on is_text info =
      let r = string_at is_text 0 info 0 (drop at bytes) in
      rw (string_moved is_text 0 info at bytes within)
      (leaf_on (string_item is_text) (string_event is_text) r
      ∙ ap (front_on depth bytes w at) (sym (bind_assoc r _ _)))

  -- a simple value or a float
  simple_after : (info : ℕ) (r : Reading ℕ) → ((moved_by at (further at) r >>= (λ v. cond (nat_eq info 24 && nat_lt v.0 32) (refused at why.Head) (Ok (other (piece at (v.1 - at) bytes), v.1)))) >>= item_on depth bytes w)
      ≡ front_on depth bytes w at (r >>= (λ v. cond (nat_eq info 24 && nat_lt v.0 32) (refused 0 why.Head) (Ok (told.Event (simple_event info v.0) act.Item, v.1))))
  unfolding acted
  simple_after info (Ok v) =
      elim (cases_Bool (nat_eq info 24 && nat_lt v.0 32)) [
        | inl wrong ↦ rw wrong (refused_here at why.Head)
        | inr right ↦ rw right (passed_due depth bytes all w (at + v.1))
      ]
  simple_after info (Err e) = refl

  -- a head that opens something, where one more may be open
  opened_on : (room : ℕ) (here : Reading Item) (front : Reading Told) → (here >>= item_on depth bytes w) ≡ front_on depth bytes w at front →
      (opened room at here >>= item_on depth bytes w) ≡ front_on depth bytes w at (opened room 0 front)
  opened_on room here front same =
      elim (cases_Bool (nat_eq room 0)) [
        | inl none ↦ rw none (refused_here at why.Depth)
        | inr some ↦ rw some same
      ]

  -- the items of an array of so many
  items_after : (k next : ℕ) → (times (suc k) (item_at (depth - suc (length w)) bytes why.Break) next >>= (λ x. all_left depth bytes w x.1)) ≡ all_due depth bytes (wanted.Items k ∷ w) due.Head next
  unfolding all_left all_due
  items_after k next = items_due depth bytes all k w next

  array_after : (n next : ℕ) → ((times n (item_at (depth - suc (length w)) bytes why.Break) next >>= array_of) >>= item_on depth bytes w) ≡ done_on depth bytes w (done.Act (array_act n), next)
  array_after zero next =
      rw (array_none w)
      (bind_assoc (times 0 (item_at (depth - suc (length w)) bytes why.Break) next) array_of (item_on depth bytes w)
      ∙ times_none (item_at (depth - suc (length w)) bytes why.Break) next (all_left depth bytes w) ∙ passed_due depth bytes all w next)
  array_after (suc k) next =
      rw (array_some k w) (bind_assoc (times (suc k) (item_at (depth - suc (length w)) bytes why.Break) next) array_of (item_on depth bytes w) ∙ items_after k next)

  -- the pairs of a map of so many
  pairs_after : (k next : ℕ) → (times (suc k) (entry_at (item_at (depth - suc (length w)) bytes) why.Break) next >>= (λ x. all_left depth bytes w x.1)) ≡ all_due depth bytes (wanted.Pairs k ∷ w) due.Head next
  unfolding all_left all_due
  pairs_after k next = pair_due depth bytes all k w next

  map_after : (n next : ℕ) → ((times n (entry_at (item_at (depth - suc (length w)) bytes) why.Break) next >>= map_of) >>= item_on depth bytes w) ≡ done_on depth bytes w (done.Act (map_act n), next)
  map_after zero next =
      rw (map_none w)
      (bind_assoc (times 0 (entry_at (item_at (depth - suc (length w)) bytes) why.Break) next) map_of (item_on depth bytes w)
      ∙ times_none (entry_at (item_at (depth - suc (length w)) bytes) why.Break) next (all_left depth bytes w) ∙ passed_due depth bytes all w next)
  map_after (suc k) next =
      rw (map_some k w) (bind_assoc (times (suc k) (entry_at (item_at (depth - suc (length w)) bytes) why.Break) next) map_of (item_on depth bytes w) ∙ pairs_after k next)

  -- what has a tag
  tag_after : (next : ℕ) → ((item_at (depth - suc (length w)) bytes why.Break next >>= (λ content. Ok (other (piece at (content.1 - at) bytes), content.1))) >>= item_on depth bytes w)
      ≡ done_on depth bytes w (done.Act (act.Enter (wanted.Items 0)), next)
  unfolding acted all_due due_by
  tag_after next =
      bind_assoc (item_at (depth - suc (length w)) bytes why.Break next) _ _
      ∙ bind_same (item_at (depth - suc (length w)) bytes why.Break next) _ _ (λ x. sym (last_due depth bytes all w x.1))

  -- a head with an argument
  definite_on : (kind : MajorType) (info : ℕ) → (definite_at (depth - length w) (item_at (depth - suc (length w)) bytes) kind info at bytes >>= item_on depth bytes w)
      ≡ front_on depth bytes w at (definite_front (depth - length w) kind info (drop at bytes))
  unfolding definite_at definite_front simple_at array_at map_at tagged_at
  definite_on major.Unsigned info =
      rw (argument_moved info at bytes within) (leaf_on unsigned (λ n. event.Uint n) (argument_at info 0 (drop at bytes)))
  definite_on major.Negative info =
      rw (argument_moved info at bytes within) (leaf_on negative (λ n. event.Nint n) (argument_at info 0 (drop at bytes)))
  definite_on major.Bytes info = string_on false info
  definite_on major.Text info = string_on true info
  definite_on major.Array info =
      rw (argument_moved info at bytes within) (opened_on (depth - length w) _ _ (argument_on _ (λ n. event.Array (Some n)) array_act array_after (argument_at info 0 (drop at bytes))))
  definite_on major.Map info =
      rw (argument_moved info at bytes within) (opened_on (depth - length w) _ _ (argument_on _ (λ n. event.Map (Some n)) map_act map_after (argument_at info 0 (drop at bytes))))
  definite_on major.Tag info =
      rw (argument_moved info at bytes within) (opened_on (depth - length w) _ _ (argument_on _ (λ n. event.Tag n) (λ n. act.Enter (wanted.Items 0)) (λ n next. tag_after next) (argument_at info 0 (drop at bytes))))
  definite_on major.Simple info =
      rw (argument_moved info at bytes within) (simple_after info (argument_at info 0 (drop at bytes)))

  -- a string in chunks
  joined_on : (is_text : Bool) (r : Reading (List (List ℕ))) → (((r >>= joined) >>= (λ content. Ok (string_item is_text content.0, content.1))) >>= item_on depth bytes w) ≡ (r >>= (λ chunks. all_left depth bytes w chunks.1))
  joined_on is_text (Ok chunks) = refl
  joined_on is_text (Err e) = refl

  chunked_on : (is_text : Bool) → (chunked_string_at is_text at bytes >>= item_on depth bytes w) ≡ done_on depth bytes w (done.Chunks is_text, at + 1)
  unfolding chunked_string_at chunks_at all_due
  chunked_on is_text = joined_on is_text (until_break (λ (p : ℕ × ℕ). p.1) bytes (length bytes) (chunk_at is_text bytes) (0, at + 1))

  -- an array, and a map, up to a break
  elements_after : (until_break (λ (p : ℕ). p) bytes (length bytes) (item_at (depth - suc (length w)) bytes why.Break) (at + 1) >>= (λ x. all_left depth bytes w x.1)) ≡ all_due depth bytes (wanted.Elements ∷ w) due.Head (at + 1)
  unfolding all_left all_due
  elements_after = element_due depth bytes all w (at + 1)

  open_array_on : (open_array_at (depth - length w) (item_at (depth - suc (length w)) bytes) at bytes >>= item_on depth bytes w)
      ≡ front_on depth bytes w at (opened (depth - length w) 0 (Ok (told.Event (event.Array None) (act.Enter wanted.Elements), 1)))
  unfolding open_array_at acted
  open_array_on =
      opened_on (depth - length w) _ _
      (bind_assoc (until_break (λ (p : ℕ). p) bytes (length bytes) (item_at (depth - suc (length w)) bytes why.Break) (at + 1)) array_of (item_on depth bytes w) ∙ elements_after)

  keys_after : (until_break (λ (p : ℕ). p) bytes (length bytes) (entry_at (item_at (depth - suc (length w)) bytes) why.Odd) (at + 1) >>= (λ x. all_left depth bytes w x.1)) ≡ all_due depth bytes (wanted.Keys ∷ w) due.Head (at + 1)
  unfolding all_left all_due
  keys_after = value_due depth bytes all w (at + 1)

  open_map_on : (open_map_at (depth - length w) (item_at (depth - suc (length w)) bytes) at bytes >>= item_on depth bytes w)
      ≡ front_on depth bytes w at (opened (depth - length w) 0 (Ok (told.Event (event.Map None) (act.Enter wanted.Keys), 1)))
  unfolding open_map_at acted
  open_map_on =
      opened_on (depth - length w) _ _
      (bind_assoc (until_break (λ (p : ℕ). p) bytes (length bytes) (entry_at (item_at (depth - suc (length w)) bytes) why.Odd) (at + 1)) map_of (item_on depth bytes w) ∙ keys_after)

  -- a head of one byte that tells no length
  indefinite_on : (broken : Why) (kind : MajorType) → (kind ≡ major.Simple → break_front (innermost w) ≡ refused 0 broken) →
      (indefinite_at (depth - length w) (item_at (depth - suc (length w)) bytes) broken kind at bytes >>= item_on depth bytes w) ≡ front_on depth bytes w at (indefinite_front (depth - length w) (innermost w) kind)
  unfolding indefinite_at indefinite_front
  indefinite_on broken major.Unsigned stop = refused_here at why.Head
  indefinite_on broken major.Negative stop = refused_here at why.Head
  indefinite_on broken major.Bytes stop = chunked_on false
  indefinite_on broken major.Text stop = chunked_on true
  indefinite_on broken major.Array stop = open_array_on
  indefinite_on broken major.Map stop = open_map_on
  indefinite_on broken major.Tag stop = refused_here at why.Head
  indefinite_on broken major.Simple stop = rw (stop refl) (refused_here at broken)

  -- an item, by its first byte
  by_on : (broken : Why) → ((first : ℕ) → byte_at at bytes ≡ Ok first → first ≡ 255 → break_front (innermost w) ≡ refused 0 broken) → (r : Result ℕ CborFault) → byte_at 0 (drop at bytes) ≡ r →
      (item_by (depth - length w) (item_at (depth - suc (length w)) bytes) broken at bytes >>= item_on depth bytes w) ≡ front_on depth bytes w at (head_front (depth - length w) (innermost w) (drop at bytes))
  unfolding item_by head_front
  by_on broken stop (Ok first) there =
      let byte : byte_at at bytes ≡ Ok first = front_byte bytes at first within there in
      elim (cases_Bool (nat_lt (first % 32) 28)) [
        | inl low ↦ rw (byte, there, low) (definite_on (major_type (first / 32)) (first % 32))
        | inr high ↦ elim (cases_Bool (nat_lt (first % 32) 31)) [
          | inl wrong ↦ rw (byte, there, high, wrong) (refused_here at why.Head)
          | inr right ↦
              let info : first % 32 ≡ 31 = omega (arith, ltb-false (first % 32) 31 right) in
              let small : first < 256 = byte_small at bytes first all byte in
              let number : major_number (major_type (first / 32)) ≡ first / 32 = number_of_type (first / 32) (omega arith) in
              rw (byte, there, high, right)
              (indefinite_on broken (major_type (first / 32)) (λ simple. let seven : 7 ≡ first / 32 = ap major_number (sym simple) ∙ number in stop first byte (omega arith)))
        ]
      ]
  by_on broken stop (Err e) none =
      let byte : byte_at at bytes ≡ Err (fault_moved at e) = byte_moved at bytes within ∙ ap (moved_by at (λ (b : ℕ). b)) none in
      rw (byte, none) refl

  -- an item, where a break has this fault
  item_front : (broken : Why) → ((first : ℕ) → byte_at at bytes ≡ Ok first → first ≡ 255 → break_front (innermost w) ≡ refused 0 broken) →
      (item_at (depth - length w) bytes broken at >>= item_on depth bytes w) ≡ front_on depth bytes w at (head_front (depth - length w) (innermost w) (drop at bytes))
  item_front broken stop =
      let back : depth - length w - 1 ≡ depth - suc (length w) = omega arith in
      let is : item_at (depth - length w) bytes broken at ≡ item_by (depth - length w) (item_at (depth - suc (length w)) bytes) broken at bytes =
      item_at_is (depth - length w) bytes broken at ∙ ap (λ n. item_by (depth - length w) (item_at n bytes) broken at bytes) back in
      ap (λ r. r >>= item_on depth bytes w) is ∙ by_on broken stop (byte_at 0 (drop at bytes)) refl

  -- no byte is there
  front_none : (e : CborFault) → byte_at 0 (drop at bytes) ≡ Err e → front_on depth bytes w at (head_front (depth - length w) (innermost w) (drop at bytes)) ≡ Err (fault_moved at e)
  unfolding head_front
  front_none e none = rw none refl

  -- an item, or the break that ends what is open
  close_front : (r : Result ℕ CborFault) → byte_at 0 (drop at bytes) ≡ r → ((first : ℕ) → byte_at 0 (drop at bytes) ≡ Ok first → first ≡ 255 → head_front (depth - length w) (innermost w) (drop at bytes) ≡ Ok (told.Event event.Close act.Close, 1)) →
      due_by None depth bytes w at ≡ front_on depth bytes w at (head_front (depth - length w) (innermost w) (drop at bytes))
  unfolding due_by acted
  close_front (Ok first) there closes =
      let byte : byte_at at bytes ≡ Ok first = front_byte bytes at first within there in
      elim (cases_eq first 255) [
        | inl stop ↦ rw (byte, eq-eqb first 255 stop, closes first there stop) (passed_due depth bytes all (drop 1 w) (at + 1))
        | inr on ↦ rw (byte, ne_eqb first 255 on) (item_front why.Break (λ f is stop. absurd (on (ok_same first f (sym byte ∙ is) ∙ stop))))
      ]
  close_front (Err e) none closes =
      let byte : byte_at at bytes ≡ Err (fault_moved at e) = byte_moved at bytes within ∙ ap (moved_by at (λ (b : ℕ). b)) none in
      rw byte (sym (front_none e none))

-- where an item is due, or a break
head_is : (depth : ℕ) (bytes : List ℕ) → All (λ byte. byte < 256) bytes → (w : List Wanted) (at : ℕ) → at ≤ length bytes →
    due_by (break_fault (innermost w)) depth bytes w at ≡ front_on depth bytes w at (head_front (depth - length w) (innermost w) (drop at bytes))
unfolding due_by break_front
head_is depth bytes all [] at within = item_front depth bytes all [] at within why.Break (λ first there is. refl)
head_is depth bytes all (wanted.Items n ∷ w) at within = item_front depth bytes all (wanted.Items n ∷ w) at within why.Break (λ first there is. refl)
head_is depth bytes all (wanted.Pairs n ∷ w) at within = item_front depth bytes all (wanted.Pairs n ∷ w) at within why.Break (λ first there is. refl)
head_is depth bytes all (wanted.Half n ∷ w) at within = item_front depth bytes all (wanted.Half n ∷ w) at within why.Break (λ first there is. refl)
head_is depth bytes all (wanted.Value ∷ w) at within = item_front depth bytes all (wanted.Value ∷ w) at within why.Odd (λ first there is. refl)
head_is depth bytes all (wanted.Elements ∷ w) at within =
    close_front depth bytes all (wanted.Elements ∷ w) at within (byte_at 0 (drop at bytes)) refl (λ first there is. close_elements (depth - suc (length w)) (drop at bytes) first there is)
head_is depth bytes all (wanted.Keys ∷ w) at within =
    close_front depth bytes all (wanted.Keys ∷ w) at within (byte_at 0 (drop at bytes)) refl (λ first there is. close_keys (depth - suc (length w)) (drop at bytes) first there is)

-- where all ends from what is open and due at an offset on
abbrev pub due_on : ℕ → List ℕ → (List Wanted × Due) × ℕ → Result ℕ CborFault
due_on depth bytes x = all_due depth bytes x.0.0 x.0.1 x.1

-- where a chunk is due, or the break after the last
module _ (depth : ℕ) (bytes : List ℕ) (all : All (λ byte. byte < 256) bytes) (w : List Wanted) (is_text : Bool) (before at : ℕ) (within : at ≤ length bytes) where
  -- the chunks from here on
  abbrev chunks_from : ℕ × ℕ → Result ℕ CborFault
  chunks_from place = until_break (λ (p : ℕ × ℕ). p.1) bytes (length bytes) (chunk_at is_text bytes) place >>= (λ y. all_left depth bytes w y.1)

  chunk_after : (r : Result (List ℕ × (ℕ × ℕ)) CborFault) →
      (moved_by at (chunk_further at) r >>= (λ x. chunks_from x.1)) ≡ (moved_by at (further at) (r >>= (λ chunk. Ok ((w, due.Chunk is_text chunk.1.0), chunk.1.1))) >>= due_on depth bytes)
  unfolding all_due
  chunk_after (Ok chunk) = refl
  chunk_after (Err e) = refl

  chunk_by : (r : Result ℕ CborFault) → byte_at 0 (drop at bytes) ≡ r →
      (byte_at at bytes >>= (λ first. cond (nat_eq first 255) (all_left depth bytes w (at + 1)) (chunk_at is_text bytes (before, at) >>= (λ x. chunks_from x.1))))
      ≡ (moved_by at (further at) (due_front depth w (due.Chunk is_text before) (drop at bytes)) >>= due_on depth bytes)
  unfolding due_front
  chunk_by (Ok first) there =
      let byte : byte_at at bytes ≡ Ok first = front_byte bytes at first within there in
      elim (cases_eq first 255) [
        | inl stop ↦ rw (byte, there, eq-eqb first 255 stop) (passed_due depth bytes all w (at + 1))
        | inr on ↦ rw (byte, there, ne_eqb first 255 on, chunk_moved is_text before at bytes within) (chunk_after (chunk_at is_text (drop at bytes) (before, 0)))
      ]
  chunk_by (Err e) none =
      let byte : byte_at at bytes ≡ Err (fault_moved at e) = byte_moved at bytes within ∙ ap (moved_by at (λ (b : ℕ). b)) none in
      rw (byte, none) refl

  chunk_front_is : all_due depth bytes w (due.Chunk is_text before) at ≡ (moved_by at (further at) (due_front depth w (due.Chunk is_text before) (drop at bytes)) >>= due_on depth bytes)
  unfolding all_due
  chunk_front_is =
      until_on (λ (p : ℕ × ℕ). p.1) bytes (chunk_at is_text bytes) (λ place x e. (chunk_is bytes is_text place.0 place.1 x.0 x.1 e).ahead) (before, at) (all_left depth bytes w)
      ∙ chunk_by (byte_at 0 (drop at bytes)) refl

-- a head, and what is open and due after it
done_after : (depth : ℕ) (bytes : List ℕ) (w : List Wanted) (at : ℕ) (r : Reading Done) →
    (moved_by at (further at) r >>= done_on depth bytes w) ≡ (moved_by at (further at) (r >>= (λ head. Ok (after_done w head.0, head.1))) >>= due_on depth bytes)
done_after depth bytes w at (Ok x) = refl
done_after depth bytes w at (Err e) = refl

-- where all ends is where all ends after what is due at the offset
pub due_is : (depth : ℕ) (bytes : List ℕ) → All (λ byte. byte < 256) bytes → (w : List Wanted) (now : Due) (at : ℕ) → at ≤ length bytes →
    all_due depth bytes w now at ≡ (moved_by at (further at) (due_front depth w now (drop at bytes)) >>= due_on depth bytes)
unfolding all_due due_front
due_is depth bytes all w due.Head at within = head_is depth bytes all w at within ∙ done_after depth bytes w at (done_front (depth - length w) (innermost w) (drop at bytes))
due_is depth bytes all w (due.Chunk is_text before) at within = chunk_front_is depth bytes all w is_text before at within
due_is depth bytes all w due.Nothing at within = let same : at ≡ at + 0 = omega arith in ap (λ n. Ok n) same
