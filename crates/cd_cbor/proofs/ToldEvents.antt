-- The events of an item that stands next are those that are told.
use Rattle.std.proofs.Common.{◌≡◌, ℕ, zero, suc, ◌+◌, ◌*◌, ◌-◌, ◌/◌, ◌%◌, ◌≤◌, Bool, true, false, List, [], ◌∷◌, ◌++◌, length, drop, Some, None, Ok, inl, inr, refl, ap, sym, subst, ◌∙◌, arith, append_assoc, length-append, append-nil}
use Rattle.std.specs.Prelude.{nat_lt, nat_eq, ◌&&◌}
use Rattle.std.specs.List.{concat}
use Rattle.std.proofs.lemmas.Bool.{cases_eq, lt-ltb, le-ltb, eq-eqb, ne_eqb}
use Rattle.std.proofs.lemmas.List.{length-drop}
use Rattle.cd_cbor.specs.MajorTypes.{major_number}
use Rattle.cd_cbor.specs.Heads.{IsHead, major_type, argument_size}
use Rattle.cd_cbor.specs.Spells.{Each, SpellsPair, SpellsString, SpellsChunks, SpellsPlain, is_unsigned, is_negative, is_string, is_chunked, is_simple, SpellsHolder, is_array, is_open_array, is_map, is_open_map, is_tagged, Spells, string_type, indefinite, most_string}
use Rattle.cd_cbor.specs.Readings.{◌>>=◌, byte_at}
use Rattle.cd_cbor.specs.Reading.{argument_at, string_at, chunk_at}
use Rattle.cd_cbor.specs.Events.{Open, passed, acted, array_act, map_act, string_event, simple_event, innermost, string_front, definite_front, indefinite_front, front_step}
use Rattle.cd_cbor.specs.Telling.{Events, plain_events, each_events, pair_events, holder_events, item_events}
use Rattle.cd_cbor.specs.Following.{Leads, goes_on, tells}
use Rattle.cd_cbor.specs.declared.item.Item.{Item}
use Rattle.cd_cbor.specs.declared.event.Event.{Event}
use Rattle.cd_cbor.specs.declared.event.Event.TheVariants as event
use Rattle.cd_cbor.specs.declared.event.Told.TheVariants as told
use Rattle.cd_cbor.specs.declared.event.Act.TheVariants as act
use Rattle.cd_cbor.specs.declared.wanted.Wanted.{Wanted}
use Rattle.cd_cbor.specs.declared.wanted.Wanted.TheVariants as wanted
use Rattle.cd_cbor.specs.declared.major_type.MajorType.{MajorType}
use Rattle.cd_cbor.specs.declared.major_type.MajorType.TheVariants as major
use Rattle.cd_cbor.proofs.Offsets.{drop_on, first_is}
use Rattle.cd_cbor.proofs.HeadsRead.{head_reads, type_of_number}
use Rattle.cd_cbor.proofs.StringsRead.{string_begins, string_reads, chunk_reads}
use Rattle.cd_cbor.proofs.Follow.{among, leads_within, told_after, front_definite, front_indefinite, with_value, string_told, passed_items, passed_last, passed_key, passed_pair, passed_last_pair, passed_element, passed_open_key, passed_value}
use Rattle.cd_cbor.proofs.FollowItems.{break_elements, break_keys, in_chunks, chunk_stop, chunk_more, array_none, array_some, map_none, map_some}

-- where something is spelled so next, its events are told, and then this is open
abbrev pub Tells : {A : Type 0} → List ℕ → List Wanted → List Wanted → (Spelled : A → List ℕ → Type 0) → Events Spelled → Type 0
Tells {A} fed wants after Spelled events =
    (x : A) (s rest : List ℕ) (h : Spelled x s) (given : List Event) (position at : ℕ) → drop at fed ≡ s ++ rest → Leads fed given (among wants) position at →
    Leads fed (given ++ events x s h) (among after) (at + length s) (at + length s)

-- bytes that stand next lie within
stands_within : (fed s rest : List ℕ) {given : List Event} {now : Open} {position at : ℕ} → Leads fed given now position at → drop at fed ≡ s ++ rest → at + length s ≤ length fed
stands_within fed s rest {given} {now} {position} {at} leads is =
    let long : length (drop at fed) ≡ length (s ++ rest) = ap length is in omega (arith, leads_within fed leads, length-drop at fed, length-append s rest)

-- the same events up to the same offset
leads_as : (fed : List ℕ) {given given' : List Event} {wants after : List Wanted} {at at' : ℕ} → Leads fed given (among wants) at at → given ≡ given' → wants ≡ after → at ≡ at' →
    Leads fed given' (among after) at' at'
leads_as fed leads same open_now end = rw (← same, ← open_now, ← end) leads

-- a head that is an event
head_leads : (fed s rest : List ℕ) (e : Event) (wants after : List Wanted) (given : List Event) (position at : ℕ) → drop at fed ≡ s ++ rest → Leads fed given (among wants) position at →
    front_step (among wants) (drop at fed) ≡ Ok ((Some e, among after), length s) → Leads fed (given ++ e ∷ []) (among after) (at + length s) (at + length s)
head_leads fed s rest e wants after given position at is leads front =
    tells given (among wants) (among after) position at (length s) e leads (stands_within fed s rest leads is) front

-- a head with an argument at the front
record FrontIs (kind : MajorType) (n info : ℕ) (w : List Wanted) (held head : List ℕ) : Type 0 where
  step : front_step (among w) held ≡ (definite_front (16 - length w) kind info held >>= told_after w)
  argument : argument_at info 0 held ≡ Ok (n, length head)

front_is : (kind : MajorType) (n : ℕ) (w : List Wanted) (held head rest : List ℕ) → held ≡ head ++ rest → (h : IsHead kind n head) → FrontIs kind n h.info w held head
front_is kind n w held head rest e h =
    let a = head_reads kind n 0 held head rest e h in
    let first : ℕ = 32 * major_number kind + h.info in
    let type : first / 32 ≡ major_number kind = omega (arith, h.definite) in
    let same : first % 32 ≡ h.info = omega (arith, h.definite) in
    let low : nat_lt (first % 32) 28 ≡ true = lt-ltb (first % 32) 28 (omega (arith, h.definite)) in
    let none : 0 + length head ≡ length head = omega arith in
    let kinds : definite_front (16 - length w) (major_type (first / 32)) (first % 32) held ≡ definite_front (16 - length w) kind h.info held = rw (type, same, type_of_number kind) refl in
    record {
      step = front_definite w held first a.first low ∙ ap (λ r. r >>= told_after w) kinds;
      argument = a.argument ∙ ap (λ k. Ok (n, k)) none;
    }

-- a head of one byte that tells no length
open_front_is : (kind : MajorType) (w : List Wanted) (held rest : List ℕ) → held ≡ indefinite kind ∷ rest → front_step (among w) held ≡ (indefinite_front (16 - length w) (innermost w) kind >>= told_after w)
open_front_is kind w held rest e =
    let first : ℕ = indefinite kind in
    let there : byte_at 0 held ≡ Ok first = first_is 0 held first rest e in
    let type : first / 32 ≡ major_number kind = omega arith in
    let info : first % 32 ≡ 31 = omega arith in
    let high : nat_lt (first % 32) 28 ≡ false = le-ltb (first % 32) 28 (omega arith) in
    let last : nat_lt (first % 32) 31 ≡ false = le-ltb (first % 32) 31 (omega arith) in
    front_indefinite w held first there high last ∙ ap (λ k. indefinite_front (16 - length w) (innermost w) k >>= told_after w) (ap major_type type ∙ type_of_number kind)

string_arm : (is_text : Bool) (room info : ℕ) (held : List ℕ) → definite_front room (string_type is_text) info held ≡ (string_front is_text info held >>= with_value (λ e. told.Event e act.Item))
unfolding definite_front
string_arm true room info held = refl
string_arm false room info held = refl

chunks_arm : (is_text : Bool) (room : ℕ) (w : List Wanted) → (indefinite_front room (innermost w) (string_type is_text) >>= told_after w) ≡ Ok ((None, in_chunks w is_text []), 1)
unfolding indefinite_front
chunks_arm true room w = refl
chunks_arm false room w = refl

module _ (fed : List ℕ) (w : List Wanted) where
  unsigned_tells : (n : ℕ) (s rest : List ℕ) (given : List Event) (position at : ℕ) → drop at fed ≡ s ++ rest → Leads fed given (among w) position at → IsHead major.Unsigned n s →
      Leads fed (given ++ event.Uint n ∷ []) (among (passed w)) (at + length s) (at + length s)
  unfolding definite_front acted
  unsigned_tells n s rest given position at e leads h =
      let f = front_is major.Unsigned n w (drop at fed) s rest e h in
      head_leads fed s rest (event.Uint n) w (passed w) given position at e leads (f.step ∙ rw f.argument refl)

  negative_tells : (n : ℕ) (s rest : List ℕ) (given : List Event) (position at : ℕ) → drop at fed ≡ s ++ rest → Leads fed given (among w) position at → IsHead major.Negative n s →
      Leads fed (given ++ event.Nint n ∷ []) (among (passed w)) (at + length s) (at + length s)
  unfolding definite_front acted
  negative_tells n s rest given position at e leads h =
      let f = front_is major.Negative n w (drop at fed) s rest e h in
      head_leads fed s rest (event.Nint n) w (passed w) given position at e leads (f.step ∙ rw f.argument refl)

  simple_tells : (n : ℕ) (s rest : List ℕ) (given : List Event) (position at : ℕ) → drop at fed ≡ s ++ rest → Leads fed given (among w) position at → (h : IsHead major.Simple n s) → (length s ≡ 2 → 32 ≤ n) →
      Leads fed (given ++ simple_event h.info n ∷ []) (among (passed w)) (at + length s) (at + length s)
  unfolding definite_front acted argument_size
  simple_tells n s rest given position at e leads h high =
      let f = front_is major.Simple n w (drop at fed) s rest e h in
      let a = head_reads major.Simple n 0 (drop at fed) s rest e h in
      let right : (nat_eq h.info 24 && nat_lt n 32) ≡ false =
      elim (cases_eq h.info 24) [
        | inl low ↦
            let two : length s ≡ 2 = a.long ∙ ap (λ i. 1 + argument_size i) low in
            rw (eq-eqb h.info 24 low, le-ltb n 32 (high two)) refl
        | inr apart ↦ rw (ne_eqb h.info 24 apart) refl
      ] in
      head_leads fed s rest (simple_event h.info n) w (passed w) given position at e leads (f.step ∙ rw (f.argument, right) refl)

  text_tells : (is_text : Bool) (content s rest : List ℕ) (given : List Event) (position at : ℕ) → drop at fed ≡ s ++ rest → Leads fed given (among w) position at → SpellsString is_text content s →
      Leads fed (given ++ string_event is_text content ∷ []) (among (passed w)) (at + length s) (at + length s)
  unfolding string_front
  text_tells is_text content s rest given position at e leads h =
      let held : List ℕ = drop at fed in
      let whole : held ≡ h.head ++ (content ++ rest) = e ∙ ap (λ t. t ++ rest) h.whole ∙ append_assoc h.head content rest in
      let f = front_is (string_type is_text) (length content) w held h.head (content ++ rest) whole h.is_head in
      let none : 0 + length s ≡ length s = omega arith in
      let read : string_at is_text 0 h.is_head.info 0 held ≡ Ok (content, length s) =
      string_reads is_text 0 0 held content s rest e h (omega (arith, h.short)) ∙ ap (λ k. Ok (content, k)) none in
      let front : front_step (among w) held ≡ Ok ((Some (string_event is_text content), among (passed w)), length s) =
      f.step ∙ ap (λ r. r >>= told_after w) (string_arm is_text (16 - length w) h.is_head.info held)
      ∙ string_told (string_at is_text 0 h.is_head.info 0 held) (string_event is_text) w ∙ rw read refl in
      head_leads fed s rest (string_event is_text content) w (passed w) given position at e leads front

  -- the chunks of a string, after some of it
  chunks_tell : (is_text : Bool) (chunks : List (List ℕ)) (s rest content : List ℕ) (given : List Event) (position at : ℕ) → Each (SpellsString is_text) chunks s → length content + length (concat chunks) ≤ most_string →
      drop at fed ≡ s ++ 255 ∷ rest → Leads fed given (in_chunks w is_text content) position at → Leads fed given (in_chunks w is_text (content ++ concat chunks)) position (at + length s)
  chunks_tell is_text [] s rest content given position at has short e leads =
      let none : at ≡ at + length s = let z : length s ≡ 0 = ap length has in omega arith in
      rw (append-nil content, ← none) leads
  chunks_tell is_text (chunk ∷ chunks) s rest content given position at has short e leads =
      let first : List ℕ = has.0 in
      let more : List ℕ = has.1 in
      let after : List ℕ = more ++ 255 ∷ rest in
      let held : List ℕ = drop at fed in
      let here : held ≡ first ++ after = e ∙ ap (λ t. t ++ 255 ∷ rest) has.2 ∙ append_assoc first more (255 ∷ rest) in
      let long : length (chunk ++ concat chunks) ≡ length chunk + length (concat chunks) = length-append chunk (concat chunks) in
      let b = string_begins is_text chunk first has.3 in
      let there : byte_at 0 held ≡ Ok b.0 = first_is 0 held b.0 (b.1 ++ after) (here ∙ ap (λ t. t ++ after) b.2) in
      let none : 0 + length first ≡ length first = omega arith in
      let read : chunk_at is_text held (length content, 0) ≡ Ok (chunk, (length content + length chunk, length first)) =
      chunk_reads is_text (length content) 0 held chunk first after here has.3 (omega arith) ∙ ap (λ k. Ok (chunk, (length content + length chunk, k))) none in
      let next : Leads fed given (in_chunks w is_text (content ++ chunk)) position (at + length first) =
      goes_on given (in_chunks w is_text content) (in_chunks w is_text (content ++ chunk)) position at (length first) leads (stands_within fed first after leads here)
      (chunk_more w is_text content held b.0 chunk (length content + length chunk, length first) there b.3 read) in
      let sum : at + length first + length more ≡ at + length s = let l : length s ≡ length (first ++ more) = ap length has.2 in omega (arith, length-append first more) in
      let room : length (content ++ chunk) + length (concat chunks) ≤ most_string = omega (arith, length-append content chunk) in
      rw (← append_assoc content chunk (concat chunks), ← sum)
      (chunks_tell is_text chunks more rest (content ++ chunk) given position (at + length first) has.4 room (drop_on at fed first after here) next)

  chunked_tells : (is_text : Bool) (content s rest : List ℕ) (given : List Event) (position at : ℕ) → drop at fed ≡ s ++ rest → Leads fed given (among w) position at → SpellsChunks is_text content s →
      Leads fed (given ++ string_event is_text content ∷ []) (among (passed w)) (at + length s) (at + length s)
  chunked_tells is_text content s rest given position at e leads h =
      let first : ℕ = indefinite (string_type is_text) in
      let body : List ℕ = h.body in
      let whole : drop at fed ≡ (first ∷ []) ++ (body ++ 255 ∷ rest) =
      e ∙ ap (λ t. t ++ rest) h.whole ∙ ap (λ t. first ∷ t) (append_assoc body (255 ∷ []) rest) in
      let front : front_step (among w) (drop at fed) ≡ Ok ((None, in_chunks w is_text []), 1) =
      open_front_is (string_type is_text) w (drop at fed) (body ++ 255 ∷ rest) whole ∙ chunks_arm is_text (16 - length w) w in
      let begun : Leads fed given (in_chunks w is_text []) position (at + 1) =
      goes_on given (among w) (in_chunks w is_text []) position at 1 leads (stands_within fed (first ∷ []) (body ++ 255 ∷ rest) leads whole) front in
      let after : drop (at + 1) fed ≡ body ++ 255 ∷ rest = drop_on at fed (first ∷ []) (body ++ 255 ∷ rest) whole in
      let joined : length content ≡ length (concat h.chunks) = ap length h.joined in
      let short : length {A = ℕ} [] + length (concat h.chunks) ≤ most_string = omega (arith, h.short) in
      let chunked : Leads fed given (in_chunks w is_text ([] ++ concat h.chunks)) position (at + 1 + length body) = chunks_tell is_text h.chunks body rest [] given position (at + 1) h.each short after begun in
      let all : Leads fed given (in_chunks w is_text content) position (at + 1 + length body) = subst (λ c. Leads fed given (in_chunks w is_text c) position (at + 1 + length body)) (sym h.joined) chunked in
      let stop : drop (at + 1 + length body) fed ≡ (255 ∷ []) ++ rest = drop_on (at + 1) fed body (255 ∷ rest) after in
      let end : front_step (in_chunks w is_text content) (drop (at + 1 + length body) fed) ≡ Ok ((Some (string_event is_text content), among (passed w)), 1) =
      chunk_stop w is_text content (drop (at + 1 + length body) fed) 255 (first_is 0 (drop (at + 1 + length body) fed) 255 rest stop) refl in
      let told : Leads fed (given ++ string_event is_text content ∷ []) (among (passed w)) (at + 1 + length body + 1) (at + 1 + length body + 1) =
      tells given (in_chunks w is_text content) (among (passed w)) position (at + 1 + length body) 1 (string_event is_text content) all (stands_within fed (255 ∷ []) rest all stop) end in
      let sum : at + 1 + length body + 1 ≡ at + length s =
      let l : length s ≡ length (first ∷ (body ++ 255 ∷ [])) = ap length h.whole in omega (arith, length-append body (255 ∷ [])) in
      leads_as fed told refl refl sum

  -- an item that holds no other one
  plain_tells : Tells fed w (passed w) SpellsPlain plain_events
  plain_tells item s rest (is_unsigned n h is) given position at e leads = unsigned_tells n s rest given position at e leads h
  plain_tells item s rest (is_negative n h is) given position at e leads = negative_tells n s rest given position at e leads h
  plain_tells item s rest (is_string is_text content h is) given position at e leads = text_tells is_text content s rest given position at e leads h
  plain_tells item s rest (is_chunked is_text content h is) given position at e leads = chunked_tells is_text content s rest given position at e leads h
  plain_tells item s rest (is_simple n h high is) given position at e leads = simple_tells n s rest given position at e leads h high

-- things one after the other, where each leaves one less
each_tells : {A : Type 0} (fed : List ℕ) (Spelled : A → List ℕ → Type 0) (events : Events Spelled) (wants : ℕ → List Wanted) → ((k : ℕ) → Tells fed (wants (suc k)) (wants k) Spelled events) →
    (xs : List A) (s rest : List ℕ) (h : Each Spelled xs s) (given : List Event) (at : ℕ) → drop at fed ≡ s ++ rest → Leads fed given (among (wants (length xs))) at at →
    Leads fed (given ++ each_events Spelled events xs s h) (among (wants 0)) (at + length s) (at + length s)
each_tells fed Spelled events wants one [] s rest h given at e leads =
    let none : at ≡ at + length s = let z : length s ≡ 0 = ap length h in omega arith in leads_as fed leads (sym (append-nil given)) refl none
each_tells fed Spelled events wants one (x ∷ xs) s rest h given at e leads =
    let first : List ℕ = h.0 in
    let more : List ℕ = h.1 in
    let here : drop at fed ≡ first ++ (more ++ rest) = e ∙ ap (λ t. t ++ rest) h.2 ∙ append_assoc first more rest in
    let front : List Event = events x first h.3 in
    let next : Leads fed (given ++ front) (among (wants (length xs))) (at + length first) (at + length first) = one (length xs) x first (more ++ rest) h.3 given at at here leads in
    let others = each_tells fed Spelled events wants one xs more rest h.4 (given ++ front) (at + length first) (drop_on at fed first (more ++ rest) here) next in
    let sum : at + length first + length more ≡ at + length s = let l : length s ≡ length (first ++ more) = ap length h.2 in omega (arith, length-append first more) in
    leads_as fed others (append_assoc given front (each_events Spelled events xs more h.4)) refl sum

-- a key and its value
pair_tells : (fed : List ℕ) (Spelled : Item → List ℕ → Type 0) (events : Events Spelled) (key value after : List Wanted) → Tells fed key value Spelled events → Tells fed value after Spelled events →
    Tells fed key after (SpellsPair Spelled) (pair_events Spelled events)
pair_tells fed Spelled events key value after one two pair s rest h given position at e leads =
    let first : List ℕ = h.0 in
    let second : List ℕ = h.1 in
    let here : drop at fed ≡ first ++ (second ++ rest) = e ∙ ap (λ t. t ++ rest) h.2 ∙ append_assoc first second rest in
    let front : List Event = events pair.0 first h.3 in
    let next : Leads fed (given ++ front) (among value) (at + length first) (at + length first) = one pair.0 first (second ++ rest) h.3 given position at here leads in
    let last = two pair.1 second rest h.4 (given ++ front) (at + length first) (at + length first) (drop_on at fed first (second ++ rest) here) next in
    let sum : at + length first + length second ≡ at + length s = let l : length s ≡ length (first ++ second) = ap length h.2 in omega (arith, length-append first second) in
    leads_as fed last (append_assoc given front (events pair.1 second h.4)) refl sum

-- the events tell more, and something else is open
tells_as : {A : Type 0} (fed : List ℕ) (Spelled : A → List ℕ → Type 0) (events : Events Spelled) (wants wants' after after' : List Wanted) → wants ≡ wants' → after ≡ after' → Tells fed wants after Spelled events →
    Tells fed wants' after' Spelled events
tells_as {A} fed Spelled events wants wants' after after' first last one = subst (λ u. Tells fed u after' Spelled events) first (subst (λ v. Tells fed wants v Spelled events) last one)

-- what is wanted after an item of an array, and after a pair of a map
after_item : (k : ℕ) (w : List Wanted) → passed (wanted.Items k ∷ w) ≡ acted (array_act k) w
after_item zero w = passed_last w ∙ sym (array_none w)
after_item (suc k) w = passed_items k w ∙ sym (array_some k w)

after_pair : (k : ℕ) (w : List Wanted) → passed (wanted.Half k ∷ w) ≡ acted (map_act k) w
after_pair zero w = passed_last_pair w ∙ sym (map_none w)
after_pair (suc k) w = passed_pair k w ∙ sym (map_some k w)

module _ (fed : List ℕ) (Spelled : Item → List ℕ → Type 0) (events : Events Spelled) (w : List Wanted) (room : nat_eq (16 - length w) 0 ≡ false)
    (inside : (top : Wanted) → Tells fed (top ∷ w) (passed (top ∷ w)) Spelled events) where
  array_tells : (items : List Item) (head body s rest : List ℕ) (h : IsHead major.Array (length items) head) (has : Each Spelled items body) → s ≡ head ++ body → (given : List Event) (position at : ℕ) →
      drop at fed ≡ s ++ rest → Leads fed given (among w) position at →
      Leads fed (given ++ event.Array (Some (length items)) ∷ each_events Spelled events items body has) (among (passed w)) (at + length s) (at + length s)
  unfolding definite_front
  array_tells items head body s rest h has whole given position at e leads =
      let here : drop at fed ≡ head ++ (body ++ rest) = e ∙ ap (λ t. t ++ rest) whole ∙ append_assoc head body rest in
      let n : ℕ = length items in
      let f = front_is major.Array n w (drop at fed) head (body ++ rest) here h in
      let begun : Leads fed (given ++ event.Array (Some n) ∷ []) (among (acted (array_act n) w)) (at + length head) (at + length head) =
      head_leads fed head (body ++ rest) (event.Array (Some n)) w (acted (array_act n) w) given position at here leads (f.step ∙ rw (room, f.argument) refl) in
      let one : (k : ℕ) → Tells fed (acted (array_act (suc k)) w) (acted (array_act k) w) Spelled events = λ k.
      tells_as fed Spelled events (wanted.Items k ∷ w) (acted (array_act (suc k)) w) (passed (wanted.Items k ∷ w)) (acted (array_act k) w) (sym (array_some k w)) (after_item k w) (inside (wanted.Items k)) in
      let last = each_tells fed Spelled events (λ k. acted (array_act k) w) one items body rest has (given ++ event.Array (Some n) ∷ []) (at + length head) (drop_on at fed head (body ++ rest) here) begun in
      let sum : at + length head + length body ≡ at + length s = let l : length s ≡ length (head ++ body) = ap length whole in omega (arith, length-append head body) in
      leads_as fed last (append_assoc given (event.Array (Some n) ∷ []) (each_events Spelled events items body has)) (array_none w) sum

  map_tells : (pairs : List (Item × Item)) (head body s rest : List ℕ) (h : IsHead major.Map (length pairs) head) (has : Each (SpellsPair Spelled) pairs body) → s ≡ head ++ body → (given : List Event)
      (position at : ℕ) → drop at fed ≡ s ++ rest → Leads fed given (among w) position at →
      Leads fed (given ++ event.Map (Some (length pairs)) ∷ each_events (SpellsPair Spelled) (pair_events Spelled events) pairs body has) (among (passed w)) (at + length s) (at + length s)
  unfolding definite_front
  map_tells pairs head body s rest h has whole given position at e leads =
      let here : drop at fed ≡ head ++ (body ++ rest) = e ∙ ap (λ t. t ++ rest) whole ∙ append_assoc head body rest in
      let n : ℕ = length pairs in
      let f = front_is major.Map n w (drop at fed) head (body ++ rest) here h in
      let begun : Leads fed (given ++ event.Map (Some n) ∷ []) (among (acted (map_act n) w)) (at + length head) (at + length head) =
      head_leads fed head (body ++ rest) (event.Map (Some n)) w (acted (map_act n) w) given position at here leads (f.step ∙ rw (room, f.argument) refl) in
      let both : (k : ℕ) → Tells fed (wanted.Pairs k ∷ w) (acted (map_act k) w) (SpellsPair Spelled) (pair_events Spelled events) = λ k.
      pair_tells fed Spelled events (wanted.Pairs k ∷ w) (wanted.Half k ∷ w) (acted (map_act k) w)
      (tells_as fed Spelled events (wanted.Pairs k ∷ w) (wanted.Pairs k ∷ w) (passed (wanted.Pairs k ∷ w)) (wanted.Half k ∷ w) refl (passed_key k w) (inside (wanted.Pairs k)))
      (tells_as fed Spelled events (wanted.Half k ∷ w) (wanted.Half k ∷ w) (passed (wanted.Half k ∷ w)) (acted (map_act k) w) refl (after_pair k w) (inside (wanted.Half k))) in
      let one : (k : ℕ) → Tells fed (acted (map_act (suc k)) w) (acted (map_act k) w) (SpellsPair Spelled) (pair_events Spelled events) = λ k.
      tells_as fed (SpellsPair Spelled) (pair_events Spelled events) (wanted.Pairs k ∷ w) (acted (map_act (suc k)) w) (acted (map_act k) w) (acted (map_act k) w) (sym (map_some k w)) refl (both k) in
      let last = each_tells fed (SpellsPair Spelled) (pair_events Spelled events) (λ k. acted (map_act k) w) one pairs body rest has (given ++ event.Map (Some n) ∷ []) (at + length head)
      (drop_on at fed head (body ++ rest) here) begun in
      let sum : at + length head + length body ≡ at + length s = let l : length s ≡ length (head ++ body) = ap length whole in omega (arith, length-append head body) in
      leads_as fed last (append_assoc given (event.Map (Some n) ∷ []) (each_events (SpellsPair Spelled) (pair_events Spelled events) pairs body has)) (map_none w) sum

  tag_tells : (tag : ℕ) (content : Item) (head body s rest : List ℕ) (h : IsHead major.Tag tag head) (has : Spelled content body) → s ≡ head ++ body → (given : List Event) (position at : ℕ) →
      drop at fed ≡ s ++ rest → Leads fed given (among w) position at → Leads fed (given ++ event.Tag tag ∷ events content body has) (among (passed w)) (at + length s) (at + length s)
  unfolding definite_front acted
  tag_tells tag content head body s rest h has whole given position at e leads =
      let here : drop at fed ≡ head ++ (body ++ rest) = e ∙ ap (λ t. t ++ rest) whole ∙ append_assoc head body rest in
      let f = front_is major.Tag tag w (drop at fed) head (body ++ rest) here h in
      let begun : Leads fed (given ++ event.Tag tag ∷ []) (among (wanted.Items 0 ∷ w)) (at + length head) (at + length head) =
      head_leads fed head (body ++ rest) (event.Tag tag) w (wanted.Items 0 ∷ w) given position at here leads (f.step ∙ rw (room, f.argument) refl) in
      let last = inside (wanted.Items 0) content body rest has (given ++ event.Tag tag ∷ []) (at + length head) (at + length head) (drop_on at fed head (body ++ rest) here) begun in
      let sum : at + length head + length body ≡ at + length s = let l : length s ≡ length (head ++ body) = ap length whole in omega (arith, length-append head body) in
      leads_as fed last (append_assoc given (event.Tag tag ∷ []) (events content body has)) (passed_last w) sum

  -- things up to a break, after the head that opens them
  until_tells : {A : Type 0} (Each_spelled : A → List ℕ → Type 0) (each : Events Each_spelled) (kind : MajorType) (top : Wanted) (e : Event) (xs : List A) (body s rest : List ℕ) (has : Each Each_spelled xs body) →
      s ≡ indefinite kind ∷ (body ++ 255 ∷ []) → (indefinite_front (16 - length w) (innermost w) kind >>= told_after w) ≡ Ok ((Some e, among (top ∷ w)), 1) →
      ((held : List ℕ) (first : ℕ) → byte_at 0 held ≡ Ok first → first ≡ 255 → front_step (among (top ∷ w)) held ≡ Ok ((Some event.Close, among (passed w)), 1)) →
      Tells fed (top ∷ w) (top ∷ w) Each_spelled each → (given : List Event) (position at : ℕ) → drop at fed ≡ s ++ rest → Leads fed given (among w) position at →
      Leads fed (given ++ e ∷ (each_events Each_spelled each xs body has ++ event.Close ∷ [])) (among (passed w)) (at + length s) (at + length s)
  until_tells {A} Each_spelled each kind top e xs body s rest has whole opens closes one given position at is leads =
      let first : ℕ = indefinite kind in
      let here : drop at fed ≡ (first ∷ []) ++ (body ++ 255 ∷ rest) = is ∙ ap (λ t. t ++ rest) whole ∙ ap (λ t. first ∷ t) (append_assoc body (255 ∷ []) rest) in
      let begun : Leads fed (given ++ e ∷ []) (among (top ∷ w)) (at + 1) (at + 1) =
      head_leads fed (first ∷ []) (body ++ 255 ∷ rest) e w (top ∷ w) given position at here leads (open_front_is kind w (drop at fed) (body ++ 255 ∷ rest) here ∙ opens) in
      let after : drop (at + 1) fed ≡ body ++ 255 ∷ rest = drop_on at fed (first ∷ []) (body ++ 255 ∷ rest) here in
      let inner : List Event = each_events Each_spelled each xs body has in
      let all : Leads fed ((given ++ e ∷ []) ++ inner) (among (top ∷ w)) (at + 1 + length body) (at + 1 + length body) =
      each_tells fed Each_spelled each (λ k. top ∷ w) (λ k. one) xs body (255 ∷ rest) has (given ++ e ∷ []) (at + 1) after begun in
      let stop : drop (at + 1 + length body) fed ≡ (255 ∷ []) ++ rest = drop_on (at + 1) fed body (255 ∷ rest) after in
      let last : Leads fed (((given ++ e ∷ []) ++ inner) ++ event.Close ∷ []) (among (passed w)) (at + 1 + length body + 1) (at + 1 + length body + 1) =
      head_leads fed (255 ∷ []) rest event.Close (top ∷ w) (passed w) ((given ++ e ∷ []) ++ inner) (at + 1 + length body) (at + 1 + length body) stop all
      (closes (drop (at + 1 + length body) fed) 255 (first_is 0 (drop (at + 1 + length body) fed) 255 rest stop) refl) in
      let sum : at + 1 + length body + 1 ≡ at + length s =
      let l : length s ≡ length (first ∷ (body ++ 255 ∷ [])) = ap length whole in omega (arith, length-append body (255 ∷ [])) in
      leads_as fed last (append_assoc (given ++ e ∷ []) inner (event.Close ∷ []) ∙ append_assoc given (e ∷ []) (inner ++ event.Close ∷ [])) refl sum

  open_array_arm : (indefinite_front (16 - length w) (innermost w) major.Array >>= told_after w) ≡ Ok ((Some (event.Array None), among (wanted.Elements ∷ w)), 1)
  unfolding indefinite_front acted
  open_array_arm = rw room refl

  open_map_arm : (indefinite_front (16 - length w) (innermost w) major.Map >>= told_after w) ≡ Ok ((Some (event.Map None), among (wanted.Keys ∷ w)), 1)
  unfolding indefinite_front acted
  open_map_arm = rw room refl

  -- an array, a map or a tag
  holder_tells : Tells fed w (passed w) (SpellsHolder Spelled) (holder_events Spelled events)
  holder_tells item s rest (is_array items head body h has whole is) given position at e leads = array_tells items head body s rest h has whole given position at e leads
  holder_tells item s rest (is_open_array items body has whole is) given position at e leads =
      until_tells Spelled events major.Array wanted.Elements (event.Array None) items body s rest has whole open_array_arm (break_elements w)
      (tells_as fed Spelled events (wanted.Elements ∷ w) (wanted.Elements ∷ w) (passed (wanted.Elements ∷ w)) (wanted.Elements ∷ w) refl (passed_element w) (inside wanted.Elements)) given position at e leads
  holder_tells item s rest (is_map pairs head body h has whole is) given position at e leads = map_tells pairs head body s rest h has whole given position at e leads
  holder_tells item s rest (is_open_map pairs body has whole is) given position at e leads =
      until_tells (SpellsPair Spelled) (pair_events Spelled events) major.Map wanted.Keys (event.Map None) pairs body s rest has whole open_map_arm (break_keys w)
      (pair_tells fed Spelled events (wanted.Keys ∷ w) (wanted.Value ∷ w) (wanted.Keys ∷ w)
      (tells_as fed Spelled events (wanted.Keys ∷ w) (wanted.Keys ∷ w) (passed (wanted.Keys ∷ w)) (wanted.Value ∷ w) refl (passed_open_key w) (inside wanted.Keys))
      (tells_as fed Spelled events (wanted.Value ∷ w) (wanted.Value ∷ w) (passed (wanted.Value ∷ w)) (wanted.Keys ∷ w) refl (passed_value w) (inside wanted.Value))) given position at e leads
  holder_tells item s rest (is_tagged tag content head body h has whole is) given position at e leads = tag_tells tag content head body s rest h has whole given position at e leads

-- an item, wherever it stands
pub item_tells : (fed : List ℕ) (depth : ℕ) (w : List Wanted) → length w + depth ≡ 16 → Tells fed w (passed w) (Spells depth) (item_events depth)
item_tells fed zero w long item s rest h given position at e leads = plain_tells fed w item s rest h given position at e leads
item_tells fed (suc depth) w long item s rest (inl h) given position at e leads = plain_tells fed w item s rest h given position at e leads
item_tells fed (suc depth) w long item s rest (inr h) given position at e leads =
    let room : nat_eq (16 - length w) 0 ≡ false = ne_eqb (16 - length w) 0 (λ z. absurd (omega arith)) in
    holder_tells fed (Spells depth) (item_events depth) w room (λ top. item_tells fed depth (top ∷ w) (omega arith)) item s rest h given position at e leads
