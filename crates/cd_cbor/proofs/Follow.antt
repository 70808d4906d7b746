-- The events of an item follow what is read of it.
use Rattle.std.proofs.Common.{◌≡◌, ℕ, zero, suc, ◌+◌, ◌-◌, ◌/◌, ◌%◌, ◌≤◌, true, false, List, [], ◌∷◌, ◌++◌, length, drop, Option, Some, None, Result, Ok, Err, refl, sym, subst, arith, append_assoc, append-nil}
use Rattle.std.specs.Prelude.{nat_lt}
use Rattle.std.proofs.lemmas.Bool.{ne_eqb}
use Rattle.std.proofs.lemmas.List.{length-drop}
use Rattle.cd_cbor.specs.Heads.{major_type}
use Rattle.cd_cbor.specs.Readings.{Reading, ◌>>=◌, refused, byte_at, times}
use Rattle.cd_cbor.specs.Reading.{ItemReader, entry_at}
use Rattle.cd_cbor.specs.Events.{Open, passed, acted, break_front, innermost, after_head, head_front, definite_front, indefinite_front, step_in, front_step}
use Rattle.cd_cbor.specs.Following.{Leads, begins, goes_on, tells, StopsAfter, Follows}
use Rattle.cd_cbor.specs.declared.event.Event.{Event}
use Rattle.cd_cbor.specs.declared.event.Told.{Told}
use Rattle.cd_cbor.specs.declared.event.Told.TheVariants as told
use Rattle.cd_cbor.specs.declared.event.Act.TheVariants as act
use Rattle.cd_cbor.specs.declared.wanted.Wanted.{Wanted}
use Rattle.cd_cbor.specs.declared.wanted.Wanted.TheVariants as wanted
use Rattle.cd_cbor.specs.declared.fault.Why.{Why}
use Rattle.cd_cbor.specs.declared.fault.Why.TheVariants as why
use Rattle.cd_cbor.specs.declared.fault.CborFault.{CborFault}
use Rattle.cd_cbor.specs.declared.fault.CborFault.TheVariants as fault
use Rattle.cd_cbor.proofs.Moved.{moved_by, further}
use Rattle.cd_cbor.proofs.Placed.{IsPlaced}

-- arrays, maps and tags are open, and no string in chunks
abbrev pub among : List Wanted → Open
among wants = record { wants = wants; chunks = None }

-- what is read lies within
pub leads_within : (fed : List ℕ) {given : List Event} {now : Open} {position at : ℕ} → Leads fed given now position at → at ≤ length fed
leads_within fed begins = omega arith
leads_within fed (goes_on given now next position at size before within is) = within
leads_within fed (tells given now next position at size e before within is) = within

-- a value, after which nothing is told
pub follows_ok : {A : Type 0} (fed : List ℕ) (given : List Event) (after : List Wanted) (x : A) (next : ℕ) → Leads fed given (among after) next next → Follows fed given after (Ok (x, next))
follows_ok fed given after x next leads = ([], subst (λ g. Leads fed g (among after) next next) (sym (append-nil given)) leads)

-- a fault here
pub stops_here : (fed : List ℕ) (given : List Event) (now : Open) (position at inside place : ℕ) (reason : Why) → Leads fed given now position at → front_step now (drop at fed) ≡ refused inside reason →
    ((reason ≡ why.End → ⊥) → at ≡ place) → StopsAfter fed given place reason
stops_here fed given now position at inside place reason leads stops there = record {
  told = [];
  now = now;
  position = position;
  at = at;
  inside = inside;
  leads = subst (λ g. Leads fed g now position at) (sym (append-nil given)) leads;
  stops = stops;
  there = there;
}

-- events after events
pub follows_join : {A : Type 0} (fed : List ℕ) (given told : List Event) (after : List Wanted) (r : Reading A) → Follows fed (given ++ told) after r → Follows fed given after r
follows_join fed given told after (Ok x) f = (told ++ f.0, subst (λ g. Leads fed g (among after) x.1 x.1) (append_assoc given told f.0) f.1)
follows_join fed given told after (Err (fault.Bad place reason)) f = record {
  told = told ++ f.told;
  now = f.now;
  position = f.position;
  at = f.at;
  inside = f.inside;
  leads = subst (λ g. Leads fed g f.now f.position f.at) (append_assoc given told f.told) f.leads;
  stops = f.stops;
  there = f.there;
}
follows_join fed given told after (Err fault.NoMemory) f = tt

-- one reading and then another
pub follows_then : {A B : Type 0} (fed : List ℕ) (given : List Event) (middle after : List Wanted) (r : Reading A) (read : A × ℕ → Reading B) → Follows fed given middle r →
    ((x : A × ℕ) → r ≡ Ok x → (more : List Event) → Leads fed (given ++ more) (among middle) x.1 x.1 → Follows fed (given ++ more) after (read x)) → Follows fed given after (r >>= read)
follows_then fed given middle after (Ok x) read f next = follows_join fed given f.0 after (read x) (next x refl f.0 f.1)
follows_then fed given middle after (Err (fault.Bad place reason)) read f next = f
follows_then fed given middle after (Err fault.NoMemory) read f next = tt

-- a head that is a whole item
pub leaf_follows : {A B : Type 0} (fed : List ℕ) (given : List Event) (wants : List Wanted) (position at : ℕ) (r : Result A CborFault) (whole : Reading B) (value : A → B) (event : A → Event) (size : A → ℕ) →
    Leads fed given (among wants) position at → whole ≡ moved_by at (λ x. (value x, at + size x)) r →
    front_step (among wants) (drop at fed) ≡ (r >>= (λ x. Ok ((Some (event x), among (passed wants)), size x))) → ((x : A) → r ≡ Ok x → size x ≤ length (drop at fed)) → IsPlaced 0 r →
    Follows fed given (passed wants) whole
leaf_follows {A} {B} fed given wants position at (Ok x) whole value event size leads is front within placed =
    let there : size x ≤ length (drop at fed) = within x refl in
    let all : at + size x ≤ length fed = omega (arith, length-drop at fed, leads_within fed leads) in
    subst (λ (r : Reading B). Follows fed given (passed wants) r) (sym is) (event x ∷ [], tells given (among wants) (among (passed wants)) position at (size x) (event x) leads all front)
leaf_follows {A} {B} fed given wants position at (Err (fault.Bad place reason)) whole value event size leads is front within placed =
    subst (λ (r : Reading B). Follows fed given (passed wants) r) (sym is)
    (stops_here fed given (among wants) position at place (at + place) reason leads front (λ apart. let z : place ≡ 0 = placed place reason refl apart in omega arith))
leaf_follows {A} {B} fed given wants position at (Err fault.NoMemory) whole value event size leads is front within placed =
    subst (λ (r : Reading B). Follows fed given (passed wants) r) (sym is) tt

-- where a break stands, it is this fault
abbrev pub BreakIs : List ℕ → List Wanted → Why → ℕ → Type 0
BreakIs fed wants broken at = (first : ℕ) → byte_at at fed ≡ Ok first → first ≡ 255 → break_front (innermost wants) ≡ refused 0 broken

-- what is read of items, wherever they stand among so many open ones
abbrev pub ItemsFollow : {A : Type 0} → List ℕ → ℕ → (Why → ℕ → Reading A) → Type 0
ItemsFollow fed depth inner =
    (wants : List Wanted) → length wants + depth ≡ 16 → (broken : Why) (given : List Event) (position at : ℕ) → BreakIs fed wants broken at →
    Leads fed given (among wants) position at → Follows fed given (passed wants) (inner broken at)

-- a value of another
pub follows_map : {A B : Type 0} (fed : List ℕ) (given : List Event) (after : List Wanted) (r : Reading A) (f : A → B) → Follows fed given after r → Follows fed given after (r >>= (λ x. Ok (f x.0, x.1)))
follows_map fed given after r f h = follows_then fed given after after r _ h (λ x e more leads. follows_ok fed (given ++ more) after (f x.0) x.1 leads)

-- what is open after a head
abbrev pub told_after : List Wanted → Told × ℕ → Reading (Option Event × Open)
told_after wants head = Ok (after_head wants head.0, head.1)

-- the head at the front, by its first byte
pub front_definite : (wants : List Wanted) (held : List ℕ) (first : ℕ) → byte_at 0 held ≡ Ok first → nat_lt (first % 32) 28 ≡ true →
    front_step (among wants) held ≡ (definite_front (16 - length wants) (major_type (first / 32)) (first % 32) held >>= told_after wants)
unfolding step_in head_front
front_definite wants held first there low = rw (there, low) refl

pub front_indefinite : (wants : List Wanted) (held : List ℕ) (first : ℕ) → byte_at 0 held ≡ Ok first → nat_lt (first % 32) 28 ≡ false → nat_lt (first % 32) 31 ≡ false →
    front_step (among wants) held ≡ (indefinite_front (16 - length wants) (innermost wants) (major_type (first / 32)) >>= told_after wants)
unfolding step_in head_front
front_indefinite wants held first there high indefinite = rw (there, high, indefinite) refl

pub front_wrong : (wants : List Wanted) (held : List ℕ) (first : ℕ) → byte_at 0 held ≡ Ok first → nat_lt (first % 32) 28 ≡ false → nat_lt (first % 32) 31 ≡ true →
    front_step (among wants) held ≡ refused 0 why.Head
unfolding step_in head_front
front_wrong wants held first there high wrong = rw (there, high, wrong) refl

pub front_none : (wants : List Wanted) (held : List ℕ) (place : ℕ) (reason : Why) → byte_at 0 held ≡ refused place reason → front_step (among wants) held ≡ refused place reason
unfolding step_in head_front
front_none wants held place reason none = rw none refl

-- a value of another, which ends where that one does
abbrev pub with_value : {A B : Type 0} → (A → B) → A × ℕ → Reading B
with_value f x = Ok (f x.0, x.1)

-- a head that is an item tells its event
pub item_told : {A : Type 0} (r : Reading A) (event : A → Event) (wants : List Wanted) →
    ((r >>= (λ n. Ok (told.Event (event n.0) act.Item, n.1))) >>= told_after wants) ≡ (r >>= (λ x. Ok ((Some (event x.0), among (passed wants)), x.1)))
unfolding acted
item_told (Ok x) event wants = refl
item_told (Err e) event wants = refl

pub string_told : {A : Type 0} (r : Reading A) (event : A → Event) (wants : List Wanted) →
    (((r >>= with_value event) >>= with_value (λ e. told.Event e act.Item)) >>= told_after wants) ≡ (r >>= (λ x. Ok ((Some (event x.0), among (passed wants)), x.1)))
unfolding acted
string_told (Ok x) event wants = refl
string_told (Err e) event wants = refl

-- a value further
pub value_moved : {A B : Type 0} (at : ℕ) (r : Reading A) (f : A → B) → (moved_by at (further at) r >>= with_value f) ≡ moved_by at (λ x. (f x.0, at + x.1)) r
value_moved at (Ok x) f = refl
value_moved at (Err e) f = refl

-- what an item changes
pub passed_items : (k : ℕ) (w : List Wanted) → passed (wanted.Items (suc k) ∷ w) ≡ wanted.Items k ∷ w
unfolding passed
passed_items k w = let back : suc k - 1 ≡ k = omega arith in rw (ne_eqb (suc k) 0 (λ z. absurd (omega arith)), back) refl

pub passed_last : (w : List Wanted) → passed (wanted.Items 0 ∷ w) ≡ passed w
unfolding passed
passed_last w = refl

pub passed_key : (k : ℕ) (w : List Wanted) → passed (wanted.Pairs k ∷ w) ≡ wanted.Half k ∷ w
unfolding passed
passed_key k w = refl

pub passed_pair : (k : ℕ) (w : List Wanted) → passed (wanted.Half (suc k) ∷ w) ≡ wanted.Pairs k ∷ w
unfolding passed
passed_pair k w = let back : suc k - 1 ≡ k = omega arith in rw (ne_eqb (suc k) 0 (λ z. absurd (omega arith)), back) refl

pub passed_last_pair : (w : List Wanted) → passed (wanted.Half 0 ∷ w) ≡ passed w
unfolding passed
passed_last_pair w = refl

pub passed_element : (w : List Wanted) → passed (wanted.Elements ∷ w) ≡ wanted.Elements ∷ w
unfolding passed
passed_element w = refl

pub passed_open_key : (w : List Wanted) → passed (wanted.Keys ∷ w) ≡ wanted.Value ∷ w
unfolding passed
passed_open_key w = refl

pub passed_value : (w : List Wanted) → passed (wanted.Value ∷ w) ≡ wanted.Keys ∷ w
unfolding passed
passed_value w = refl

-- where a break is none
pub break_items : (fed : List ℕ) (k : ℕ) (w : List Wanted) (at : ℕ) → BreakIs fed (wanted.Items k ∷ w) why.Break at
unfolding break_front
break_items fed k w at first there is = refl

pub break_pairs : (fed : List ℕ) (k : ℕ) (w : List Wanted) (at : ℕ) → BreakIs fed (wanted.Pairs k ∷ w) why.Break at
unfolding break_front
break_pairs fed k w at first there is = refl

pub break_half : (fed : List ℕ) (k : ℕ) (w : List Wanted) (at : ℕ) → BreakIs fed (wanted.Half k ∷ w) why.Break at
unfolding break_front
break_half fed k w at first there is = refl

pub break_value : (fed : List ℕ) (w : List Wanted) (at : ℕ) → BreakIs fed (wanted.Value ∷ w) why.Odd at
unfolding break_front
break_value fed w at first there is = refl

module _ (fed : List ℕ) (depth : ℕ) (inner : ItemReader) (each : ItemsFollow fed depth inner) where
  -- a key and its value
  pub entry_follows : (key value : Wanted) (w after : List Wanted) (broken : Why) (given : List Event) (position at : ℕ) → length w + 1 + depth ≡ 16 → passed (key ∷ w) ≡ value ∷ w → passed (value ∷ w) ≡ after →
      BreakIs fed (key ∷ w) why.Break at → ((there : ℕ) → BreakIs fed (value ∷ w) broken there) → Leads fed given (among (key ∷ w)) position at → Follows fed given after (entry_at inner broken at)
  unfolding entry_at
  entry_follows key value w after broken given position at long first second breaks odd leads =
      follows_then fed given (value ∷ w) after (inner why.Break at) _
      (subst (λ u. Follows fed given u (inner why.Break at)) first (each (key ∷ w) (omega arith) why.Break given position at breaks leads))
      (λ x e more reached. follows_map fed (given ++ more) after (inner broken x.1) (λ v. (x.0, v))
      (subst (λ u. Follows fed (given ++ more) u (inner broken x.1)) second (each (value ∷ w) (omega arith) broken (given ++ more) x.1 x.1 (odd x.1) reached)))

  -- so many items
  pub items_follow : (k : ℕ) (w : List Wanted) (given : List Event) (position at : ℕ) → length w + 1 + depth ≡ 16 → Leads fed given (among (wanted.Items k ∷ w)) position at →
      Follows fed given (passed w) (times (suc k) (inner why.Break) at)
  unfolding times
  items_follow zero w given position at long leads =
      follows_then fed given (passed w) (passed w) (inner why.Break at) _
      (subst (λ u. Follows fed given u (inner why.Break at)) (passed_last w) (each (wanted.Items 0 ∷ w) (omega arith) why.Break given position at (break_items fed 0 w at) leads))
      (λ x e more reached. follows_ok fed (given ++ more) (passed w) (x.0 ∷ []) x.1 reached)
  items_follow (suc k) w given position at long leads =
      follows_then fed given (wanted.Items k ∷ w) (passed w) (inner why.Break at) _
      (subst (λ u. Follows fed given u (inner why.Break at)) (passed_items k w) (each (wanted.Items (suc k) ∷ w) (omega arith) why.Break given position at (break_items fed (suc k) w at) leads))
      (λ x e more reached. follows_map fed (given ++ more) (passed w) (times (suc k) (inner why.Break) x.1) (λ others. x.0 ∷ others)
      (items_follow k w (given ++ more) x.1 x.1 long reached))

  -- so many pairs
  pub pairs_follow : (k : ℕ) (w : List Wanted) (given : List Event) (position at : ℕ) → length w + 1 + depth ≡ 16 → Leads fed given (among (wanted.Pairs k ∷ w)) position at →
      Follows fed given (passed w) (times (suc k) (entry_at inner why.Break) at)
  unfolding times
  pairs_follow zero w given position at long leads =
      follows_then fed given (passed w) (passed w) (entry_at inner why.Break at) _
      (entry_follows (wanted.Pairs 0) (wanted.Half 0) w (passed w) why.Break given position at long (passed_key 0 w) (passed_last_pair w) (break_pairs fed 0 w at) (break_half fed 0 w) leads)
      (λ x e more reached. follows_ok fed (given ++ more) (passed w) (x.0 ∷ []) x.1 reached)
  pairs_follow (suc k) w given position at long leads =
      follows_then fed given (wanted.Pairs k ∷ w) (passed w) (entry_at inner why.Break at) _
      (entry_follows (wanted.Pairs (suc k)) (wanted.Half (suc k)) w (wanted.Pairs k ∷ w) why.Break given position at long (passed_key (suc k) w) (passed_pair k w) (break_pairs fed (suc k) w at) (break_half fed (suc k) w) leads)
      (λ x e more reached. follows_map fed (given ++ more) (passed w) (times (suc k) (entry_at inner why.Break) x.1) (λ others. x.0 ∷ others)
      (pairs_follow k w (given ++ more) x.1 x.1 long reached))
