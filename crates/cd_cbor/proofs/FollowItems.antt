-- The events of arrays, maps, tags and strings in chunks follow what is read of them.
use Rattle.std.proofs.Common.{◌≡◌, ℕ, zero, suc, ◌+◌, ◌-◌, ◌%◌, ◌<◌, ◌≤◌, Bool, List, [], ◌∷◌, ◌++◌, length, drop, Some, None, Result, Ok, Err, inl, inr, refl, ap, sym, subst, ◌∙◌, arith, length-append}
use Rattle.std.specs.Prelude.{nat_lt}
use Rattle.std.proofs.lemmas.Bool.{cases_eq, eq-eqb, ne_eqb, ltb-false}
use Rattle.std.proofs.lemmas.List.{length-drop}
use Rattle.cd_cbor.specs.Heads.{major_type}
use Rattle.cd_cbor.specs.Items.{array, entries}
use Rattle.cd_cbor.specs.Spells.{most_string, is_content}
use Rattle.cd_cbor.specs.Readings.{Reading, ◌>>=◌, refused, piece, byte_at, times, until_break}
use Rattle.cd_cbor.specs.Reading.{ItemReader, opened, argument_at, content_at, string_at, is_chunk, chunk_at, entry_at, array_of, map_of}
use Rattle.cd_cbor.specs.Events.{Open, passed, acted, array_act, map_act, string_event, break_front, head_front, indefinite_front, chunk_front, step_in, front_step}
use Rattle.cd_cbor.specs.Following.{Leads, goes_on, tells, StopsAfter, Follows}
use Rattle.cd_cbor.specs.declared.item.Item.{Item}
use Rattle.cd_cbor.specs.declared.event.Event.{Event}
use Rattle.cd_cbor.specs.declared.event.Event.TheVariants as event
use Rattle.cd_cbor.specs.declared.event.Told.TheVariants as told
use Rattle.cd_cbor.specs.declared.event.Act.{Act}
use Rattle.cd_cbor.specs.declared.wanted.Wanted.{Wanted}
use Rattle.cd_cbor.specs.declared.wanted.Wanted.TheVariants as wanted
use Rattle.cd_cbor.specs.declared.fault.Why.{Why}
use Rattle.cd_cbor.specs.declared.fault.Why.TheVariants as why
use Rattle.cd_cbor.specs.declared.fault.CborFault.{CborFault}
use Rattle.cd_cbor.specs.declared.fault.CborFault.TheVariants as fault
use Rattle.cd_cbor.proofs.Binds.{bind_ok, ok_same, if_ok_else, if_err_else}
use Rattle.cd_cbor.proofs.Growing.{argument_within}
use Rattle.cd_cbor.proofs.Stands.{byte_there}
use Rattle.cd_cbor.proofs.Moved.{moved_by, further, chunk_further, byte_moved, argument_moved, chunk_moved}
use Rattle.cd_cbor.proofs.Placed.{byte_placed, argument_placed, chunk_placed}
use Rattle.cd_cbor.proofs.Follow.{among, leads_within, follows_ok, stops_here, follows_join, follows_then, ItemsFollow, follows_map, told_after, front_none, items_follow, pairs_follow}

-- the byte at an offset is that at the front of the bytes from there on
pub front_byte : (fed : List ℕ) (at : ℕ) (first : ℕ) → at ≤ length fed → byte_at 0 (drop at fed) ≡ Ok first → byte_at at fed ≡ Ok first
front_byte fed at first within there = byte_moved at fed within ∙ ap (moved_by at (λ (b : ℕ). b)) there

-- the break that ends an array
pub break_elements : (w : List Wanted) (held : List ℕ) (first : ℕ) → byte_at 0 held ≡ Ok first → first ≡ 255 → front_step (among (wanted.Elements ∷ w)) held ≡ Ok ((Some event.Close, among (passed w)), 1)
unfolding step_in head_front indefinite_front break_front acted major_type
break_elements w held first there is = rw (there, is) refl

-- the break that ends a map
pub break_keys : (w : List Wanted) (held : List ℕ) (first : ℕ) → byte_at 0 held ≡ Ok first → first ≡ 255 → front_step (among (wanted.Keys ∷ w)) held ≡ Ok ((Some event.Close, among (passed w)), 1)
unfolding step_in head_front indefinite_front break_front acted major_type
break_keys w held first there is = rw (there, is) refl

-- a fault of the first byte is an end
pub byte_stops : (fed : List ℕ) (given : List Event) (wants : List Wanted) (position at place : ℕ) (reason : Why) → Leads fed given (among wants) position at → byte_at 0 (drop at fed) ≡ refused place reason →
    StopsAfter fed given (at + place) reason
byte_stops fed given wants position at place reason leads none =
    stops_here fed given (among wants) position at place (at + place) reason leads (front_none wants (drop at fed) place reason none)
    (λ apart. let z : place ≡ 0 = byte_placed 0 0 (drop at fed) place reason none apart in omega arith)

module _ {A : Type 0} (fed : List ℕ) (top : Wanted) (w : List Wanted) (read : ℕ → Reading A)
    (closes : (held : List ℕ) (first : ℕ) → byte_at 0 held ≡ Ok first → first ≡ 255 → front_step (among (top ∷ w)) held ≡ Ok ((Some event.Close, among (passed w)), 1))
    (one : (given : List Event) (position at first : ℕ) → byte_at at fed ≡ Ok first → (first ≡ 255 → ⊥) → Leads fed given (among (top ∷ w)) position at → Follows fed given (top ∷ w) (read at))
    (ahead : (at : ℕ) (x : A × ℕ) → read at ≡ Ok x → at < x.1) where
  -- the break, or one more value and those after it
  until_first : (left : ℕ) (given : List Event) (position at first : ℕ) → Leads fed given (among (top ∷ w)) position at → byte_at 0 (drop at fed) ≡ Ok first →
      ((x : A × ℕ) (more : List Event) → at < x.1 → Leads fed (given ++ more) (among (top ∷ w)) x.1 x.1 → Follows fed (given ++ more) (passed w) (until_break (λ p. p) fed left read x.1)) →
      Follows fed given (passed w) (until_break (λ p. p) fed (suc left) read at)
  unfolding until_break
  until_first left given position at first leads there rest =
      let within : at ≤ length fed = leads_within fed leads in
      let byte : byte_at at fed ≡ Ok first = front_byte fed at first within there in
      elim (cases_eq first 255) [
        | inl stop ↦
            let some : at < length fed = (byte_there at fed first byte).0 in
            let told : Leads fed (given ++ event.Close ∷ []) (among (passed w)) (at + 1) (at + 1) =
            tells given (among (top ∷ w)) (among (passed w)) position at 1 event.Close leads (omega arith) (closes (drop at fed) first there stop) in
            rw (byte, eq-eqb first 255 stop) (event.Close ∷ [], told)
        | inr on ↦
            rw (byte, ne_eqb first 255 on)
            (follows_then fed given (top ∷ w) (passed w) (read at) _ (one given position at first byte on leads)
            (λ x e more reached. follows_map fed (given ++ more) (passed w) (until_break (λ (p : ℕ). p) fed left read x.1) (λ others. x.0 ∷ others) (rest x more (ahead at x e) reached)))
      ]

  until_go : (left : ℕ) (given : List Event) (position at : ℕ) → Leads fed given (among (top ∷ w)) position at → (r : Result ℕ CborFault) → byte_at 0 (drop at fed) ≡ r →
      ((x : A × ℕ) (more : List Event) → at < x.1 → Leads fed (given ++ more) (among (top ∷ w)) x.1 x.1 → Follows fed (given ++ more) (passed w) (until_break (λ p. p) fed left read x.1)) →
      Follows fed given (passed w) (until_break (λ p. p) fed (suc left) read at)
  unfolding until_break
  until_go left given position at leads (Ok first) there rest = until_first left given position at first leads there rest
  until_go left given position at leads (Err (fault.Bad place reason)) none rest =
      let byte : byte_at at fed ≡ refused (at + place) reason = byte_moved at fed (leads_within fed leads) ∙ ap (moved_by at (λ (b : ℕ). b)) none in
      rw byte (byte_stops fed given (top ∷ w) position at place reason leads none)
  until_go left given position at leads (Err fault.NoMemory) none rest =
      let byte : byte_at at fed ≡ Err fault.NoMemory = byte_moved at fed (leads_within fed leads) ∙ ap (moved_by at (λ (b : ℕ). b)) none in
      rw byte tt

  -- values up to a break
  pub until_follows : (left : ℕ) (given : List Event) (position at : ℕ) → length fed < left + at → Leads fed given (among (top ∷ w)) position at →
      Follows fed given (passed w) (until_break (λ p. p) fed left read at)
  unfolding until_break
  until_follows zero given position at room leads = absurd (omega (arith, leads_within fed leads))
  until_follows (suc left) given position at room leads =
      until_go left given position at leads (byte_at 0 (drop at fed)) refl
      (λ x more further reached. until_follows left (given ++ more) x.1 x.1 (omega arith) reached)

-- how far a string and a chunk reach
content_within : (bytes : List ℕ) (is_text : Bool) (head size at : ℕ) (content : List ℕ) (next : ℕ) → content_at is_text head size at bytes ≡ Ok (content, next) → (at ≤ next) × (next ≤ length bytes)
unfolding content_at
content_within bytes is_text head size at content next h =
    let room = if_err_else (nat_lt (length bytes) (at + size)) _ _ (content, next) h in
    let right = if_ok_else (is_content is_text (piece at size bytes)) _ _ (content, next) room.1 in
    let end : at + size ≡ next = ap (λ x. x.1) (ok_same (piece at size bytes, at + size) (content, next) right.1) in
    let within : at + size ≤ length bytes = ltb-false (length bytes) (at + size) room.0 in
    (omega arith, omega arith)

pub string_within : (bytes : List ℕ) (is_text : Bool) (before info at : ℕ) (content : List ℕ) (next : ℕ) → string_at is_text before info at bytes ≡ Ok (content, next) → (at < next) × (next ≤ length bytes)
unfolding string_at
string_within bytes is_text before info at content next h =
    let size = bind_ok (argument_at info at bytes) _ (content, next) h in
    let short = if_err_else (nat_lt most_string (before + size.0.0)) _ _ (content, next) size.2 in
    let head = argument_within bytes info at size.0.0 size.0.1 size.1 in
    let rest = content_within bytes is_text at size.0.0 size.0.1 content next short.1 in
    (omega (arith, head.0, rest.0), rest.1)

-- what a chunk changes
pub record ChunkIs (bytes : List ℕ) (before at : ℕ) (content : List ℕ) (place : ℕ × ℕ) : Type 0 where
  pub sum : place.0 ≡ before + length content
  pub ahead : at < place.1
  pub within : place.1 ≤ length bytes

pub chunk_is : (bytes : List ℕ) (is_text : Bool) (before at : ℕ) (content : List ℕ) (place : ℕ × ℕ) → chunk_at is_text bytes (before, at) ≡ Ok (content, place) → ChunkIs bytes before at content place
unfolding chunk_at
chunk_is bytes is_text before at content place h =
    let byte = bind_ok (byte_at at bytes) _ (content, place) h in
    let test = if_ok_else (is_chunk is_text byte.0) _ _ (content, place) byte.2 in
    let chunk = bind_ok (string_at is_text before (byte.0 % 32) at bytes) _ (content, place) test.1 in
    let both = ok_same (chunk.0.0, (before + length chunk.0.0, chunk.0.1)) (content, place) chunk.2 in
    let same : chunk.0.0 ≡ content = ap (λ x. x.0) both in
    let long : length chunk.0.0 ≡ length content = ap length same in
    let sum : before + length chunk.0.0 ≡ place.0 = ap (λ x. x.1.0) both in
    let end : chunk.0.1 ≡ place.1 = ap (λ x. x.1.1) both in
    let reach = string_within bytes is_text before (byte.0 % 32) at chunk.0.0 chunk.0.1 chunk.1 in
    record { sum = omega arith; ahead = omega (arith, reach.0); within = omega (arith, reach.1) }

-- a string in chunks is open, with this content so far
abbrev pub in_chunks : List Wanted → Bool → List ℕ → Open
in_chunks wants is_text content = record { wants = wants; chunks = Some (is_text, content) }

pub chunk_stop : (w : List Wanted) (is_text : Bool) (content held : List ℕ) (first : ℕ) → byte_at 0 held ≡ Ok first → first ≡ 255 →
    front_step (in_chunks w is_text content) held ≡ Ok ((Some (string_event is_text content), among (passed w)), 1)
unfolding step_in chunk_front
chunk_stop w is_text content held first there is = rw (there, is) refl

chunk_none : (w : List Wanted) (is_text : Bool) (content held : List ℕ) (e : CborFault) → byte_at 0 held ≡ Err e → front_step (in_chunks w is_text content) held ≡ Err e
unfolding step_in chunk_front
chunk_none w is_text content held e none = rw none refl

pub chunk_more : (w : List Wanted) (is_text : Bool) (content held : List ℕ) (first : ℕ) (chunk : List ℕ) (place : ℕ × ℕ) → byte_at 0 held ≡ Ok first → (first ≡ 255 → ⊥) →
    chunk_at is_text held (length content, 0) ≡ Ok (chunk, place) → front_step (in_chunks w is_text content) held ≡ Ok ((None, in_chunks w is_text (content ++ chunk)), place.1)
unfolding step_in chunk_front
chunk_more w is_text content held first chunk place there on gives = rw (there, ne_eqb first 255 on, gives) refl

chunk_wrong : (w : List Wanted) (is_text : Bool) (content held : List ℕ) (first : ℕ) (e : CborFault) → byte_at 0 held ≡ Ok first → (first ≡ 255 → ⊥) →
    chunk_at is_text held (length content, 0) ≡ Err e → front_step (in_chunks w is_text content) held ≡ Err e
unfolding step_in chunk_front
chunk_wrong w is_text content held first e there on gives = rw (there, ne_eqb first 255 on, gives) refl

module _ (fed : List ℕ) (w : List Wanted) (is_text : Bool) where
  -- the rest of a string in chunks, after one more
  abbrev pub ChunksFollow : ℕ → List Event → List ℕ → ℕ → Type 0
  ChunksFollow left given content at = Follows fed given (passed w) (until_break (λ p. p.1) fed left (chunk_at is_text fed) (length content, at))

  chunk_next : (left : ℕ) (given : List Event) (content : List ℕ) (position at first : ℕ) → Leads fed given (in_chunks w is_text content) position at → byte_at 0 (drop at fed) ≡ Ok first → (first ≡ 255 → ⊥) →
      (r : Result (List ℕ × (ℕ × ℕ)) CborFault) → chunk_at is_text (drop at fed) (length content, 0) ≡ r →
      ((chunk : List ℕ) (next : ℕ) → at < next → Leads fed given (in_chunks w is_text (content ++ chunk)) position next → ChunksFollow left given (content ++ chunk) next) → ChunksFollow (suc left) given content at
  unfolding until_break
  chunk_next left given content position at first leads there on (Ok (chunk, place)) gives rest =
      let within : at ≤ length fed = leads_within fed leads in
      let byte : byte_at at fed ≡ Ok first = front_byte fed at first within there in
      let is : ChunkIs (drop at fed) (length content) 0 chunk place = chunk_is (drop at fed) is_text (length content) 0 chunk place gives in
      let here : chunk_at is_text fed (length content, at) ≡ Ok (chunk, (place.0, at + place.1)) = chunk_moved is_text (length content) at fed within ∙ ap (moved_by at (chunk_further at)) gives in
      let all : at + place.1 ≤ length fed = omega (arith, is.within, length-drop at fed) in
      let long : place.0 ≡ length (content ++ chunk) = is.sum ∙ sym (length-append content chunk) in
      let next : Leads fed given (in_chunks w is_text (content ++ chunk)) position (at + place.1) =
      goes_on given (in_chunks w is_text content) (in_chunks w is_text (content ++ chunk)) position at place.1 leads all (chunk_more w is_text content (drop at fed) first chunk place there on gives) in
      rw (byte, ne_eqb first 255 on, here, long)
      (follows_map fed given (passed w) (until_break (λ (p : ℕ × ℕ). p.1) fed left (chunk_at is_text fed) (length (content ++ chunk), at + place.1)) (λ others. chunk ∷ others) (rest chunk (at + place.1) (omega (arith, is.ahead)) next))
  chunk_next left given content position at first leads there on (Err (fault.Bad place reason)) gives rest =
      let within : at ≤ length fed = leads_within fed leads in
      let byte : byte_at at fed ≡ Ok first = front_byte fed at first within there in
      let here : chunk_at is_text fed (length content, at) ≡ refused (at + place) reason = chunk_moved is_text (length content) at fed within ∙ ap (moved_by at (chunk_further at)) gives in
      rw (byte, ne_eqb first 255 on, here)
      (stops_here fed given (in_chunks w is_text content) position at place (at + place) reason leads (chunk_wrong w is_text content (drop at fed) first (fault.Bad place reason) there on gives)
      (λ apart. let z : place ≡ 0 = chunk_placed is_text (length content) 0 (drop at fed) place reason gives apart in omega arith))
  chunk_next left given content position at first leads there on (Err fault.NoMemory) gives rest =
      let within : at ≤ length fed = leads_within fed leads in
      let byte : byte_at at fed ≡ Ok first = front_byte fed at first within there in
      let here : chunk_at is_text fed (length content, at) ≡ Err fault.NoMemory = chunk_moved is_text (length content) at fed within ∙ ap (moved_by at (chunk_further at)) gives in
      rw (byte, ne_eqb first 255 on, here) tt

  -- by the byte that stands there
  chunk_go : (left : ℕ) (given : List Event) (content : List ℕ) (position at : ℕ) → Leads fed given (in_chunks w is_text content) position at → (r : Result ℕ CborFault) → byte_at 0 (drop at fed) ≡ r →
      ((chunk : List ℕ) (next : ℕ) → at < next → Leads fed given (in_chunks w is_text (content ++ chunk)) position next → ChunksFollow left given (content ++ chunk) next) → ChunksFollow (suc left) given content at
  unfolding until_break
  chunk_go left given content position at leads (Ok first) there rest =
      let within : at ≤ length fed = leads_within fed leads in
      let byte : byte_at at fed ≡ Ok first = front_byte fed at first within there in
      elim (cases_eq first 255) [
        | inl stop ↦
            let some : at < length fed = (byte_there at fed first byte).0 in
            let told : Leads fed (given ++ string_event is_text content ∷ []) (among (passed w)) (at + 1) (at + 1) =
            tells given (in_chunks w is_text content) (among (passed w)) position at 1 (string_event is_text content) leads (omega arith) (chunk_stop w is_text content (drop at fed) first there stop) in
            rw (byte, eq-eqb first 255 stop) (string_event is_text content ∷ [], told)
        | inr on ↦ chunk_next left given content position at first leads there on (chunk_at is_text (drop at fed) (length content, 0)) refl rest
      ]
  chunk_go left given content position at leads (Err (fault.Bad place reason)) none rest =
      let byte : byte_at at fed ≡ refused (at + place) reason = byte_moved at fed (leads_within fed leads) ∙ ap (moved_by at (λ (b : ℕ). b)) none in
      rw byte
      (stops_here fed given (in_chunks w is_text content) position at place (at + place) reason leads (chunk_none w is_text content (drop at fed) (fault.Bad place reason) none)
      (λ apart. let z : place ≡ 0 = byte_placed 0 0 (drop at fed) place reason none apart in omega arith))
  chunk_go left given content position at leads (Err fault.NoMemory) none rest =
      let byte : byte_at at fed ≡ Err fault.NoMemory = byte_moved at fed (leads_within fed leads) ∙ ap (moved_by at (λ (b : ℕ). b)) none in
      rw byte tt

  -- the chunks from here on
  pub chunks_follow : (left : ℕ) (given : List Event) (content : List ℕ) (position at : ℕ) → length fed < left + at → Leads fed given (in_chunks w is_text content) position at → ChunksFollow left given content at
  chunks_follow zero given content position at room leads = absurd (omega (arith, leads_within fed leads))
  chunks_follow (suc left) given content position at room leads =
      chunk_go left given content position at leads (byte_at 0 (drop at fed)) refl (λ chunk next further reached. chunks_follow left given (content ++ chunk) position next (omega arith) reached)

-- a head that opens something, by what is read of its argument
pub head_opens_at : (fed : List ℕ) (w : List Wanted) (given : List Event) (position at info : ℕ) (rest : ℕ × ℕ → Reading Item) (tell : ℕ → Event) (does : ℕ → Act) → Leads fed given (among w) position at →
    (r : Reading ℕ) → argument_at info 0 (drop at fed) ≡ r → front_step (among w) (drop at fed) ≡ ((r >>= (λ n. Ok (told.Event (tell n.0) (does n.0), n.1))) >>= told_after w) →
    ((n size : ℕ) → Leads fed (given ++ tell n ∷ []) (among (acted (does n) w)) (at + size) (at + size) → Follows fed (given ++ tell n ∷ []) (passed w) (rest (n, at + size))) →
    Follows fed given (passed w) (moved_by at (further at) r >>= rest)
head_opens_at fed w given position at info rest tell does leads (Ok (n, size)) gives front next =
    let reach = argument_within (drop at fed) info 0 n size gives in
    let all : at + size ≤ length fed = omega (arith, reach.1, length-drop at fed, leads_within fed leads) in
    let after : Leads fed (given ++ tell n ∷ []) (among (acted (does n) w)) (at + size) (at + size) = tells given (among w) (among (acted (does n) w)) position at size (tell n) leads all front in
    follows_join fed given (tell n ∷ []) (passed w) (rest (n, at + size)) (next n size after)
head_opens_at fed w given position at info rest tell does leads (Err (fault.Bad place reason)) gives front next =
    stops_here fed given (among w) position at place (at + place) reason leads front (λ apart. let z : place ≡ 0 = argument_placed info 0 (drop at fed) place reason gives apart in omega arith)
head_opens_at fed w given position at info rest tell does leads (Err fault.NoMemory) gives front next = tt

-- a head that opens something, where one more may be open
pub head_opens : (fed : List ℕ) (w : List Wanted) (depth : ℕ) (given : List Event) (position at info : ℕ) (whole : Reading Item) (rest : ℕ × ℕ → Reading Item) (tell : ℕ → Event) (does : ℕ → Act) →
    Leads fed given (among w) position at → whole ≡ opened depth at (argument_at info at fed >>= rest) →
    front_step (among w) (drop at fed) ≡ (opened depth 0 (argument_at info 0 (drop at fed) >>= (λ n. Ok (told.Event (tell n.0) (does n.0), n.1))) >>= told_after w) →
    ((depth ≡ 0 → ⊥) → (n size : ℕ) → Leads fed (given ++ tell n ∷ []) (among (acted (does n) w)) (at + size) (at + size) → Follows fed (given ++ tell n ∷ []) (passed w) (rest (n, at + size))) →
    (r : Reading ℕ) → argument_at info 0 (drop at fed) ≡ r → Follows fed given (passed w) whole
head_opens fed w depth given position at info whole rest tell does leads is front next r gives =
    let within : at ≤ length fed = leads_within fed leads in
    elim (cases_eq depth 0) [
      | inl none ↦
          let closed : whole ≡ refused at why.Depth = is ∙ rw (eq-eqb depth 0 none) refl in
          let stops : front_step (among w) (drop at fed) ≡ refused 0 why.Depth = front ∙ rw (eq-eqb depth 0 none) refl in
          subst (λ (t : Reading Item). Follows fed given (passed w) t) (sym closed) (stops_here fed given (among w) position at 0 at why.Depth leads stops (λ apart. refl))
      | inr some ↦
          let here : whole ≡ (moved_by at (further at) r >>= rest) = is ∙ rw (ne_eqb depth 0 some, argument_moved info at fed within, gives) refl in
          let stops : front_step (among w) (drop at fed) ≡ ((r >>= (λ n. Ok (told.Event (tell n.0) (does n.0), n.1))) >>= told_after w) = front ∙ rw (ne_eqb depth 0 some, gives) refl in
          subst (λ (t : Reading Item). Follows fed given (passed w) t) (sym here) (head_opens_at fed w given position at info rest tell does leads r gives stops (next some))
    ]

-- what an array and a map do where they hold nothing, and where they hold something
pub array_none : (w : List Wanted) → acted (array_act 0) w ≡ passed w
unfolding acted
array_none w = refl

pub array_some : (k : ℕ) (w : List Wanted) → acted (array_act (suc k)) w ≡ wanted.Items k ∷ w
unfolding acted
array_some k w = let back : suc k - 1 ≡ k = omega arith in rw (ne_eqb (suc k) 0 (λ z. absurd (omega arith)), back) refl

pub map_none : (w : List Wanted) → acted (map_act 0) w ≡ passed w
unfolding acted
map_none w = refl

pub map_some : (k : ℕ) (w : List Wanted) → acted (map_act (suc k)) w ≡ wanted.Pairs k ∷ w
unfolding acted
map_some k w = let back : suc k - 1 ≡ k = omega arith in rw (ne_eqb (suc k) 0 (λ z. absurd (omega arith)), back) refl

module _ (fed : List ℕ) (inside : ℕ) (inner : ItemReader) (each : ItemsFollow fed inside inner) (w : List Wanted) (long : length w + 1 + inside ≡ 16) where
  -- the items of an array of so many
  pub array_rest : (count : ℕ) (given : List Event) (at : ℕ) → Leads fed given (among (acted (array_act count) w)) at at → Follows fed given (passed w) (times count (inner why.Break) at >>= array_of)
  unfolding times
  array_rest zero given at leads = follows_ok fed given (passed w) (array []) at (subst (λ u. Leads fed given (among u) at at) (array_none w) leads)
  array_rest (suc k) given at leads =
      follows_map fed given (passed w) (times (suc k) (inner why.Break) at) array
      (items_follow fed inside inner each k w given at at long (subst (λ u. Leads fed given (among u) at at) (array_some k w) leads))

  -- the pairs of a map of so many
  pub map_rest : (count : ℕ) (given : List Event) (at : ℕ) → Leads fed given (among (acted (map_act count) w)) at at → Follows fed given (passed w) (times count (entry_at inner why.Break) at >>= map_of)
  unfolding times
  map_rest zero given at leads = follows_ok fed given (passed w) (entries []) at (subst (λ u. Leads fed given (among u) at at) (map_none w) leads)
  map_rest (suc k) given at leads =
      follows_map fed given (passed w) (times (suc k) (entry_at inner why.Break) at) entries
      (pairs_follow fed inside inner each k w given at at long (subst (λ u. Leads fed given (among u) at at) (map_some k w) leads))
