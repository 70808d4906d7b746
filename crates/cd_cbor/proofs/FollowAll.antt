-- The events of any item follow what is read of it.
use Rattle.std.proofs.Common.{◌≡◌, ℕ, zero, suc, ◌+◌, ◌-◌, ◌/◌, ◌%◌, ◌<◌, Bool, true, false, cond, List, [], ◌∷◌, ◌++◌, length, drop, Some, None, Result, Ok, Err, inl, inr, refl, ap, sym, subst, ◌∙◌, arith}
use Rattle.std.specs.Prelude.{nat_lt, nat_eq, ◌&&◌, All}
use Rattle.std.specs.List.{concat}
use Rattle.std.proofs.lemmas.Bool.{cases_eq, cases_Bool, eq-eqb, ne_eqb, ltb-false}
use Rattle.cd_cbor.specs.MajorTypes.{major_number}
use Rattle.cd_cbor.specs.Heads.{major_type}
use Rattle.cd_cbor.specs.Items.{unsigned, negative, array, entries}
use Rattle.cd_cbor.specs.Spells.{other, string_item}
use Rattle.cd_cbor.specs.Readings.{Reading, ◌>>=◌, refused, piece, byte_at, times, until_break}
use Rattle.cd_cbor.specs.Reading.{ItemReader, argument_at, string_at, chunk_at, chunks_at, definite_string_at, chunked_string_at, simple_at, entry_at, array_of, map_of, array_at, map_at, tagged_at, open_array_at, open_map_at, definite_at, indefinite_at, item_by, item_at}
use Rattle.cd_cbor.specs.Events.{passed, acted, array_act, map_act, simple_event, string_event, break_front, innermost, string_front, definite_front, indefinite_front, front_step}
use Rattle.cd_cbor.specs.Following.{Leads, goes_on, tells, Follows}
use Rattle.cd_cbor.specs.EventLaws.{EventsFollow}
use Rattle.cd_cbor.specs.declared.item.Item.{Item}
use Rattle.cd_cbor.specs.declared.event.Event.{Event}
use Rattle.cd_cbor.specs.declared.event.Event.TheVariants as event
use Rattle.cd_cbor.specs.declared.event.Told.{Told}
use Rattle.cd_cbor.specs.declared.event.Told.TheVariants as told
use Rattle.cd_cbor.specs.declared.event.Act.TheVariants as act
use Rattle.cd_cbor.specs.declared.wanted.Wanted.{Wanted}
use Rattle.cd_cbor.specs.declared.wanted.Wanted.TheVariants as wanted
use Rattle.cd_cbor.specs.declared.fault.Why.{Why}
use Rattle.cd_cbor.specs.declared.fault.Why.TheVariants as why
use Rattle.cd_cbor.specs.declared.fault.CborFault.{CborFault}
use Rattle.cd_cbor.specs.declared.fault.CborFault.TheVariants as fault
use Rattle.cd_cbor.specs.declared.major_type.MajorType.{MajorType}
use Rattle.cd_cbor.specs.declared.major_type.MajorType.TheVariants as major
use Rattle.cd_cbor.proofs.Binds.{bind_ok, ok_same, if_err_else}
use Rattle.cd_cbor.proofs.Growing.{argument_within, item_within}
use Rattle.cd_cbor.proofs.Stands.{byte_there, byte_small, number_of_type}
use Rattle.cd_cbor.proofs.Depths.{item_at_is}
use Rattle.cd_cbor.proofs.Moved.{moved_by, further, byte_moved, argument_moved, string_moved}
use Rattle.cd_cbor.proofs.Placed.{argument_placed, string_placed, placed_bind, placed_if, placed_ok, placed_refused}
use Rattle.cd_cbor.proofs.Follow.{among, leads_within, follows_ok, stops_here, follows_join, follows_then, leaf_follows, BreakIs, ItemsFollow, follows_map, told_after, front_definite, front_indefinite, front_wrong, with_value, item_told, string_told, value_moved, passed_element, passed_open_key, passed_value, passed_last, break_items, break_value, entry_follows}
use Rattle.cd_cbor.proofs.FollowItems.{front_byte, byte_stops, break_elements, break_keys, until_follows, string_within, in_chunks, chunks_follow, head_opens, array_rest, map_rest}

-- a simple value or a float, by its value
abbrev pub simple_read : List ℕ → ℕ → ℕ → ℕ × ℕ → Reading Item
simple_read fed info at v = cond (nat_eq info 24 && nat_lt v.0 32) (refused at why.Head) (Ok (other (piece at (v.1 - at) fed), v.1))

-- its value, where it is right
abbrev pub simple_value : ℕ → ℕ × ℕ → Reading ℕ
simple_value info v = cond (nat_eq info 24 && nat_lt v.0 32) (refused 0 why.Head) (Ok v)

-- its event
abbrev pub simple_tell : ℕ → ℕ × ℕ → Reading Told
simple_tell info v = cond (nat_eq info 24 && nat_lt v.0 32) (refused 0 why.Head) (Ok (told.Event (simple_event info v.0) act.Item, v.1))

-- a simple value or a float further
simple_moved : (fed : List ℕ) (info at : ℕ) (r : Reading ℕ) →
    (moved_by at (further at) r >>= simple_read fed info at) ≡ moved_by at (λ x. (other (piece at (at + x.1 - at) fed), at + x.1)) (r >>= simple_value info)
simple_moved fed info at (Ok v) =
    let same : at ≡ at + 0 = omega arith in
    elim (cases_Bool (nat_eq info 24 && nat_lt v.0 32)) [
      | inl wrong ↦ rw wrong (ap (λ n. refused n why.Head) same)
      | inr right ↦ rw right refl
    ]
simple_moved fed info at (Err e) = refl

simple_told : (info : ℕ) (w : List Wanted) (r : Reading ℕ) →
    ((r >>= simple_tell info) >>= told_after w) ≡ ((r >>= simple_value info) >>= (λ x. Ok ((Some (simple_event info x.0), among (passed w)), x.1)))
unfolding acted
simple_told info w (Ok v) =
    elim (cases_Bool (nat_eq info 24 && nat_lt v.0 32)) [
      | inl wrong ↦ rw wrong refl
      | inr right ↦ rw right refl
    ]
simple_told info w (Err e) = refl

module _ (fed : List ℕ) (depth : ℕ) (inner : ItemReader) (each : (depth ≡ 0 → ⊥) → ItemsFollow fed (depth - 1) inner)
    (ahead : (depth ≡ 0 → ⊥) → (broken : Why) (at : ℕ) (x : Item × ℕ) → inner broken at ≡ Ok x → at < x.1)
    (w : List Wanted) (long : length w + depth ≡ 16) (given : List Event) (position at : ℕ) (leads : Leads fed given (among w) position at) where
  -- a text or a string of bytes
  text_follows : (is_text : Bool) (info : ℕ) → front_step (among w) (drop at fed) ≡ ((string_front is_text info (drop at fed) >>= with_value (λ e. told.Event e act.Item)) >>= told_after w) →
      Follows fed given (passed w) (definite_string_at is_text info at fed)
  unfolding definite_string_at string_front
  text_follows is_text info front =
      let r = string_at is_text 0 info 0 (drop at fed) in
      leaf_follows fed given w position at r (definite_string_at is_text info at fed) (λ x. string_item is_text x.0) (λ x. string_event is_text x.0) (λ x. x.1) leads
      (rw (string_moved is_text 0 info at fed (leads_within fed leads)) (value_moved at r (string_item is_text)))
      (front ∙ string_told r (string_event is_text) w) (λ x e. (string_within (drop at fed) is_text 0 info 0 x.0 x.1 e).1) (string_placed is_text 0 info 0 (drop at fed))

  -- a head with an argument
  definite_follows : (kind : MajorType) (info : ℕ) → front_step (among w) (drop at fed) ≡ (definite_front depth kind info (drop at fed) >>= told_after w) →
      Follows fed given (passed w) (definite_at depth inner kind info at fed)
  unfolding definite_at definite_front simple_at array_at map_at tagged_at acted
  definite_follows major.Unsigned info front =
      let r = argument_at info 0 (drop at fed) in
      leaf_follows fed given w position at r _ (λ x. unsigned x.0) (λ x. event.Uint x.0) (λ x. x.1) leads
      (rw (argument_moved info at fed (leads_within fed leads)) (value_moved at r unsigned)) (front ∙ item_told r (λ n. event.Uint n) w)
      (λ x e. (argument_within (drop at fed) info 0 x.0 x.1 e).1) (argument_placed info 0 (drop at fed))
  definite_follows major.Negative info front =
      let r = argument_at info 0 (drop at fed) in
      leaf_follows fed given w position at r _ (λ x. negative x.0) (λ x. event.Nint x.0) (λ x. x.1) leads
      (rw (argument_moved info at fed (leads_within fed leads)) (value_moved at r negative)) (front ∙ item_told r (λ n. event.Nint n) w)
      (λ x e. (argument_within (drop at fed) info 0 x.0 x.1 e).1) (argument_placed info 0 (drop at fed))
  definite_follows major.Bytes info front = text_follows false info front
  definite_follows major.Text info front = text_follows true info front
  definite_follows major.Array info front =
      head_opens fed w depth given position at info _ (λ count. times count.0 (inner why.Break) count.1 >>= array_of) (λ n. event.Array (Some n)) array_act leads refl front
      (λ some n size reached. array_rest fed (depth - 1) inner (each some) w (omega arith) n (given ++ event.Array (Some n) ∷ []) (at + size) reached) (argument_at info 0 (drop at fed)) refl
  definite_follows major.Map info front =
      head_opens fed w depth given position at info _ (λ count. times count.0 (entry_at inner why.Break) count.1 >>= map_of) (λ n. event.Map (Some n)) map_act leads refl front
      (λ some n size reached. map_rest fed (depth - 1) inner (each some) w (omega arith) n (given ++ event.Map (Some n) ∷ []) (at + size) reached) (argument_at info 0 (drop at fed)) refl
  definite_follows major.Tag info front =
      head_opens fed w depth given position at info _ (λ tag. inner why.Break tag.1 >>= (λ content. Ok (other (piece at (content.1 - at) fed), content.1))) (λ n. event.Tag n) (λ n. act.Enter (wanted.Items 0)) leads refl front
      (λ some n size reached.
      follows_then fed (given ++ event.Tag n ∷ []) (passed w) (passed w) (inner why.Break (at + size)) _
      (subst (λ u. Follows fed (given ++ event.Tag n ∷ []) u (inner why.Break (at + size))) (passed_last w)
      (each some (wanted.Items 0 ∷ w) (omega arith) why.Break (given ++ event.Tag n ∷ []) (at + size) (at + size) (break_items fed 0 w (at + size)) reached))
      (λ x e more later. follows_ok fed ((given ++ event.Tag n ∷ []) ++ more) (passed w) (other (piece at (x.1 - at) fed)) x.1 later))
      (argument_at info 0 (drop at fed)) refl
  definite_follows major.Simple info front =
      let r0 = argument_at info 0 (drop at fed) in
      let r : Reading ℕ = r0 >>= simple_value info in
      leaf_follows fed given w position at r _ (λ x. other (piece at (at + x.1 - at) fed)) (λ x. simple_event info x.0) (λ x. x.1) leads
      (rw (argument_moved info at fed (leads_within fed leads)) (simple_moved fed info at r0)) (front ∙ simple_told info w r0)
      (λ x e. let v = bind_ok r0 _ x e in let test = if_err_else (nat_eq info 24 && nat_lt v.0.0 32) _ _ x v.2 in
      let same : v.0.1 ≡ x.1 = ap (λ y. y.1) (ok_same v.0 x test.1) in let reach = argument_within (drop at fed) info 0 v.0.0 v.0.1 v.1 in omega (arith, reach.1))
      (placed_bind 0 r0 _ (argument_placed info 0 (drop at fed)) (λ v. placed_if 0 (nat_eq info 24 && nat_lt v.0 32) _ _ (placed_refused 0 why.Head) (placed_ok 0 v)))

  -- an entry that is read goes ahead
  entry_ahead : (depth ≡ 0 → ⊥) → (k : ℕ) (x : (Item × Item) × ℕ) → entry_at inner why.Odd k ≡ Ok x → k < x.1
  unfolding entry_at
  entry_ahead room k x h =
      let key = bind_ok (inner why.Break k) _ x h in
      let value = bind_ok (inner why.Odd key.0.1) _ x key.2 in
      let end : value.0.1 ≡ x.1 = ap (λ y. y.1) (ok_same _ x value.2) in
      let first : k < key.0.1 = ahead room why.Break k key.0 key.1 in
      let second : key.0.1 < value.0.1 = ahead room why.Odd key.0.1 value.0 value.1 in
      omega arith

  -- a string in chunks
  chunked_follows : (is_text : Bool) → at < length fed → front_step (among w) (drop at fed) ≡ Ok ((None, in_chunks w is_text []), 1) → Follows fed given (passed w) (chunked_string_at is_text at fed)
  unfolding chunked_string_at chunks_at
  chunked_follows is_text some front =
      let opened_now : Leads fed given (in_chunks w is_text []) position (at + 1) = goes_on given (among w) (in_chunks w is_text []) position at 1 leads (omega arith) front in
      let chunks = until_break (λ (p : ℕ × ℕ). p.1) fed (length fed) (chunk_at is_text fed) (0, at + 1) in
      follows_map fed given (passed w) (chunks >>= with_value concat) (string_item is_text)
      (follows_map fed given (passed w) chunks concat (chunks_follow fed w is_text (length fed) given [] position (at + 1) (omega arith) opened_now))

  -- an array up to a break
  open_array_follows : at < length fed → front_step (among w) (drop at fed) ≡ (indefinite_front depth (innermost w) major.Array >>= told_after w) → Follows fed given (passed w) (open_array_at depth inner at fed)
  unfolding open_array_at indefinite_front acted
  open_array_follows some front =
      elim (cases_eq depth 0) [
        | inl none ↦
            let stops : front_step (among w) (drop at fed) ≡ refused 0 why.Depth = front ∙ rw (eq-eqb depth 0 none) refl in
            rw (eq-eqb depth 0 none) (stops_here fed given (among w) position at 0 at why.Depth leads stops (λ apart. refl))
        | inr room ↦
            let goes : front_step (among w) (drop at fed) ≡ Ok ((Some (event.Array None), among (wanted.Elements ∷ w)), 1) = front ∙ rw (ne_eqb depth 0 room) refl in
            let opened_now : Leads fed (given ++ event.Array None ∷ []) (among (wanted.Elements ∷ w)) (at + 1) (at + 1) =
            tells given (among w) (among (wanted.Elements ∷ w)) position at 1 (event.Array None) leads (omega arith) goes in
            let items = until_break (λ (p : ℕ). p) fed (length fed) (inner why.Break) (at + 1) in
            let found : Follows fed (given ++ event.Array None ∷ []) (passed w) items =
            until_follows fed wanted.Elements w (inner why.Break) (break_elements w)
            (λ g p k first byte on reached. subst (λ u. Follows fed g u (inner why.Break k)) (passed_element w)
            (each room (wanted.Elements ∷ w) (omega arith) why.Break g p k (λ f there is. absurd (on (ok_same first f (sym byte ∙ there) ∙ is))) reached))
            (λ k x e. ahead room why.Break k x e) (length fed) (given ++ event.Array None ∷ []) (at + 1) (at + 1) (omega arith) opened_now in
            rw (ne_eqb depth 0 room) (follows_join fed given (event.Array None ∷ []) (passed w) (items >>= array_of) (follows_map fed (given ++ event.Array None ∷ []) (passed w) items array found))
      ]

  -- a map up to a break
  open_map_follows : at < length fed → front_step (among w) (drop at fed) ≡ (indefinite_front depth (innermost w) major.Map >>= told_after w) → Follows fed given (passed w) (open_map_at depth inner at fed)
  unfolding open_map_at indefinite_front acted
  open_map_follows some front =
      elim (cases_eq depth 0) [
        | inl none ↦
            let stops : front_step (among w) (drop at fed) ≡ refused 0 why.Depth = front ∙ rw (eq-eqb depth 0 none) refl in
            rw (eq-eqb depth 0 none) (stops_here fed given (among w) position at 0 at why.Depth leads stops (λ apart. refl))
        | inr room ↦
            let goes : front_step (among w) (drop at fed) ≡ Ok ((Some (event.Map None), among (wanted.Keys ∷ w)), 1) = front ∙ rw (ne_eqb depth 0 room) refl in
            let opened_now : Leads fed (given ++ event.Map None ∷ []) (among (wanted.Keys ∷ w)) (at + 1) (at + 1) =
            tells given (among w) (among (wanted.Keys ∷ w)) position at 1 (event.Map None) leads (omega arith) goes in
            let pairs = until_break (λ (p : ℕ). p) fed (length fed) (entry_at inner why.Odd) (at + 1) in
            let found : Follows fed (given ++ event.Map None ∷ []) (passed w) pairs =
            until_follows fed wanted.Keys w (entry_at inner why.Odd) (break_keys w)
            (λ g p k first byte on reached. entry_follows fed (depth - 1) inner (each room) wanted.Keys wanted.Value w (wanted.Keys ∷ w) why.Odd g p k (omega arith) (passed_open_key w) (passed_value w)
            (λ f there is. absurd (on (ok_same first f (sym byte ∙ there) ∙ is))) (break_value fed w) reached)
            (λ k x e. entry_ahead room k x e) (length fed) (given ++ event.Map None ∷ []) (at + 1) (at + 1) (omega arith) opened_now in
            rw (ne_eqb depth 0 room) (follows_join fed given (event.Map None ∷ []) (passed w) (pairs >>= map_of) (follows_map fed (given ++ event.Map None ∷ []) (passed w) pairs entries found))
      ]

  -- a head of one byte that tells no length
  indefinite_follows : (broken : Why) (kind : MajorType) → at < length fed → (kind ≡ major.Simple → break_front (innermost w) ≡ refused 0 broken) →
      front_step (among w) (drop at fed) ≡ (indefinite_front depth (innermost w) kind >>= told_after w) → Follows fed given (passed w) (indefinite_at depth inner broken kind at fed)
  unfolding indefinite_at indefinite_front
  indefinite_follows broken major.Unsigned some stop front = stops_here fed given (among w) position at 0 at why.Head leads front (λ apart. refl)
  indefinite_follows broken major.Negative some stop front = stops_here fed given (among w) position at 0 at why.Head leads front (λ apart. refl)
  indefinite_follows broken major.Bytes some stop front = chunked_follows false some front
  indefinite_follows broken major.Text some stop front = chunked_follows true some front
  indefinite_follows broken major.Array some stop front = open_array_follows some front
  indefinite_follows broken major.Map some stop front = open_map_follows some front
  indefinite_follows broken major.Tag some stop front = stops_here fed given (among w) position at 0 at why.Head leads front (λ apart. refl)
  indefinite_follows broken major.Simple some stop front =
      stops_here fed given (among w) position at 0 at broken leads (front ∙ ap (λ r. r >>= told_after w) (stop refl)) (λ apart. refl)

-- an item, by what follows those in it
by_follows : (fed : List ℕ) → All (λ byte. byte < 256) fed → (depth : ℕ) (inner : ItemReader) → ((depth ≡ 0 → ⊥) → ItemsFollow fed (depth - 1) inner) →
    ((depth ≡ 0 → ⊥) → (broken : Why) (at : ℕ) (x : Item × ℕ) → inner broken at ≡ Ok x → at < x.1) → (w : List Wanted) → length w + depth ≡ 16 → (broken : Why) (given : List Event) (position at : ℕ) →
    BreakIs fed w broken at → Leads fed given (among w) position at → (r : Result ℕ CborFault) → byte_at 0 (drop at fed) ≡ r → Follows fed given (passed w) (item_by depth inner broken at fed)
unfolding item_by
by_follows fed all depth inner each ahead w long broken given position at stop leads (Ok first) there =
    let byte : byte_at at fed ≡ Ok first = front_byte fed at first (leads_within fed leads) there in
    let some : at < length fed = (byte_there at fed first byte).0 in
    let room : 16 - length w ≡ depth = omega arith in
    elim (cases_Bool (nat_lt (first % 32) 28)) [
      | inl low ↦
          rw (byte, low)
          (definite_follows fed depth inner each ahead w long given position at leads (major_type (first / 32)) (first % 32)
          (subst (λ n. front_step (among w) (drop at fed) ≡ (definite_front n (major_type (first / 32)) (first % 32) (drop at fed) >>= told_after w)) room (front_definite w (drop at fed) first there low)))
      | inr high ↦ elim (cases_Bool (nat_lt (first % 32) 31)) [
        | inl wrong ↦ rw (byte, high, wrong) (stops_here fed given (among w) position at 0 at why.Head leads (front_wrong w (drop at fed) first there high wrong) (λ apart. refl))
        | inr right ↦
            let info : first % 32 ≡ 31 = omega (arith, ltb-false (first % 32) 31 right) in
            let small : first < 256 = byte_small at fed first all byte in
            let number : major_number (major_type (first / 32)) ≡ first / 32 = number_of_type (first / 32) (omega arith) in
            rw (byte, high, right)
            (indefinite_follows fed depth inner each ahead w long given position at leads broken (major_type (first / 32)) some
            (λ simple. let seven : 7 ≡ first / 32 = ap major_number (sym simple) ∙ number in stop first byte (omega arith))
            (subst (λ n. front_step (among w) (drop at fed) ≡ (indefinite_front n (innermost w) (major_type (first / 32)) >>= told_after w)) room (front_indefinite w (drop at fed) first there high right)))
      ]
    ]
by_follows fed all depth inner each ahead w long broken given position at stop leads (Err (fault.Bad place reason)) none =
    let byte : byte_at at fed ≡ refused (at + place) reason = byte_moved at fed (leads_within fed leads) ∙ ap (moved_by at (λ (b : ℕ). b)) none in
    rw byte (byte_stops fed given w position at place reason leads none)
by_follows fed all depth inner each ahead w long broken given position at stop leads (Err fault.NoMemory) none =
    let byte : byte_at at fed ≡ Err fault.NoMemory = byte_moved at fed (leads_within fed leads) ∙ ap (moved_by at (λ (b : ℕ). b)) none in
    rw byte tt

-- an item, wherever it stands
pub item_follows : (fed : List ℕ) → All (λ byte. byte < 256) fed → (depth : ℕ) → ItemsFollow fed depth (λ broken at. item_at depth fed broken at)
item_follows fed all zero w long broken given position at stop leads =
    subst (λ (r : Reading Item). Follows fed given (passed w) r) (sym (item_at_is 0 fed broken at))
    (by_follows fed all 0 (item_at (0 - 1) fed) (λ some. absurd (some refl)) (λ some. absurd (some refl)) w long broken given position at stop leads (byte_at 0 (drop at fed)) refl)
item_follows fed all (suc depth) w long broken given position at stop leads =
    let back : suc depth - 1 ≡ depth = omega arith in
    let is : item_at (suc depth) fed broken at ≡ item_by (suc depth) (item_at depth fed) broken at fed =
    item_at_is (suc depth) fed broken at ∙ ap (λ n. item_by (suc depth) (item_at n fed) broken at fed) back in
    subst (λ (r : Reading Item). Follows fed given (passed w) r) (sym is)
    (by_follows fed all (suc depth) (item_at depth fed) (λ some. subst (λ n. ItemsFollow fed n (item_at depth fed)) (sym back) (item_follows fed all depth))
    (λ some reason k x e. (item_within depth fed all reason k x.0 x.1 e).0) w long broken given position at stop leads (byte_at 0 (drop at fed)) refl)

-- the law
pub events_follow : EventsFollow
unfolding passed break_front
events_follow fed given position at all leads =
    let long : length {A = Wanted} [] + 16 ≡ 16 = omega arith in
    item_follows fed all 16 [] long why.Break given position at (λ first there is. refl) leads
