-- Some bytes have one history, since each head and each chunk leads to one place.
use Rattle.std.proofs.Common.{◌≡◌, ℕ, zero, suc, ◌+◌, ◌≤◌, List, [], ◌∷◌, ◌++◌, length, drop, Option, Some, None, Ok, inl, inr, refl, ap, sym, subst, ◌∙◌, arith, append_assoc, length-append, append-nil}
use Rattle.std.specs.Prelude.{◌⊎◌, ◌<◌, Result, Err}
use Rattle.std.proofs.lemmas.List.{drop-append-le}
use Rattle.cd_cbor.specs.Readings.{refused}
use Rattle.cd_cbor.specs.Events.{Open, nothing_open, front_step}
use Rattle.cd_cbor.specs.Following.{Leads, begins, goes_on, tells, Stops, position_after}
use Rattle.cd_cbor.specs.OnePath.{OneHistory, HistoriesAreOne, HistoriesStay, StopsAreOne}
use Rattle.cd_cbor.specs.declared.event.Event.{Event}
use Rattle.cd_cbor.specs.declared.fault.Why.{Why}
use Rattle.cd_cbor.specs.declared.fault.Why.TheVariants as why
use Rattle.cd_cbor.specs.declared.fault.CborFault.{CborFault}
use Rattle.cd_cbor.proofs.Binds.{ok_same, not_ok}
use Rattle.cd_cbor.proofs.Ahead.{step_ahead}
use Rattle.cd_cbor.proofs.EventsGoing.{step_goes}
use Rattle.cd_cbor.proofs.Histories.{leads_grow}
use Rattle.cd_cbor.proofs.Follow.{leads_within}

-- a place in a history
pub record Place : Type 0 where
  pub given : List Event
  pub now : Open
  pub position : ℕ
  pub at : ℕ

-- what a head or a chunk gives: the event that it ends, what is open then, and its size
abbrev Found : Type 0
Found = (Option Event × Open) × ℕ

-- the events after it
abbrev given_after : Option Event → List Event → List Event
given_after None given = given
given_after (Some e) given = given ++ e ∷ []

-- the place after it
abbrev after : Place → Found → Place
after p x = record {
  given = given_after x.0.0 p.given;
  now = x.0.1;
  position = position_after x.0.0 p.position (p.at + x.1);
  at = p.at + x.1;
}

-- so many heads and chunks lead from one place to another
abbrev Reaches : List ℕ → ℕ → Place → Place → Type 0
Reaches fed zero p q = p ≡ q
Reaches fed (suc steps) p q = (x : Found) × (p.at + x.1 ≤ length fed) × (front_step p.now (drop p.at fed) ≡ Ok x) × Reaches fed steps (after p x) q

-- one more
reaches_more : (fed : List ℕ) (steps : ℕ) (p q : Place) → Reaches fed steps p q → (x : Found) → q.at + x.1 ≤ length fed → front_step q.now (drop q.at fed) ≡ Ok x → Reaches fed (suc steps) p (after q x)
reaches_more fed zero p q same x within is = subst (λ t. Reaches fed 1 t (after q x)) (sym same) (x, within, is, refl)
reaches_more fed (suc steps) p q h x within is = (h.0, h.1, h.2, reaches_more fed steps (after p h.0) q h.3 x within is)

-- where each history begins
abbrev start : Place
start = record { given = []; now = nothing_open; position = 0; at = 0 }

-- the place of a history
abbrev place_of : List Event → Open → ℕ → ℕ → Place
place_of given now position at = record { given = given; now = now; position = position; at = at }

-- it is reached from there
abbrev Reached : List ℕ → Place → Type 0
Reached fed p = (steps : ℕ) × Reaches fed steps start p

leads_reach : (fed : List ℕ) {given : List Event} {now : Open} {position at : ℕ} → Leads fed given now position at → Reached fed (place_of given now position at)
leads_reach fed begins = (0, refl)
leads_reach fed (goes_on given now next position at size before within is) =
    let b = leads_reach fed before in (suc b.0, reaches_more fed b.0 start (place_of given now position at) b.1 ((None, next), size) within is)
leads_reach fed (tells given now next position at size e before within is) =
    let b = leads_reach fed before in (suc b.0, reaches_more fed b.0 start (place_of given now position at) b.1 ((Some e, next), size) within is)

-- of two places that are reached from one, the one is reached from the other
abbrev Meets : List ℕ → Place → Place → Type 0
Meets fed q r = ((steps : ℕ) × Reaches fed steps q r) ⊎ ((steps : ℕ) × Reaches fed steps r q)

meets : (fed : List ℕ) (m n : ℕ) (p q r : Place) → Reaches fed m p q → Reaches fed n p r → Meets fed q r
meets fed zero n p q r same second = inl (n, subst (λ t. Reaches fed n t r) same second)
meets fed (suc m) zero p q r first same = inr (suc m, subst (λ t. Reaches fed (suc m) t q) same first)
meets fed (suc m) (suc n) p q r first second =
    let e : first.0 ≡ second.0 = ok_same first.0 second.0 (sym first.2 ∙ second.2) in
    meets fed m n (after p first.0) q r first.3 (subst (λ x. Reaches fed n (after p x) r) (sym e) second.3)

-- what lies between two places
record Between (steps : ℕ) (q r : Place) : Type 0 where
  more : List Event
  is : r.given ≡ q.given ++ more
  on : q.at + steps ≤ r.at
  position_is : q.given ≡ r.given → q.position ≡ r.position

-- one more event is more
pub longer : (given more : List Event) (e : Event) → given ≡ given ++ e ∷ more → ⊥
longer given more e h = let l : length given ≡ length (given ++ e ∷ more) = ap length h in absurd (omega (arith, length-append given (e ∷ more)))

-- after the first head or chunk
between_step : (steps : ℕ) (q r : Place) (o : Option Event) (next : Open) (size : ℕ) → 0 < size → Between steps (after q ((o, next), size)) r → Between (suc steps) q r
between_step steps q r None next size some b = record { more = b.more; is = b.is; on = omega (arith, b.on); position_is = b.position_is }
between_step steps q r (Some e) next size some b =
    let is : r.given ≡ q.given ++ e ∷ b.more = b.is ∙ append_assoc q.given (e ∷ []) b.more in
    record { more = e ∷ b.more; is = is; on = omega (arith, b.on); position_is = λ same. absurd (longer q.given b.more e (same ∙ is)) }

between : (fed : List ℕ) (steps : ℕ) (q r : Place) → Reaches fed steps q r → Between steps q r
between fed zero q r same =
    let there : q.at ≡ r.at = ap (λ (p : Place). p.at) same in
    record {
      more = [];
      is = sym (ap (λ (p : Place). p.given) same) ∙ sym (append-nil q.given);
      on = omega arith;
      position_is = λ e. ap (λ (p : Place). p.position) same;
    }
between fed (suc steps) q r h = between_step steps q r h.0.0.0 h.0.0.1 h.0.1 (step_ahead q.now (drop q.at fed) h.0 h.2) (between fed steps (after q h.0) r h.3)

-- no step leads from a place to the same offset
same_place : (fed : List ℕ) (steps : ℕ) (q r : Place) → Reaches fed steps q r → q.at ≡ r.at → q ≡ r
same_place fed zero q r same there = same
same_place fed (suc steps) q r h there = let b = between fed (suc steps) q r h in absurd (omega (arith, b.on))

-- where one place is reached from the other
one_history : (fed : List ℕ) (q r : Place) → Meets fed q r → OneHistory q.given r.given q.now r.now q.position r.position q.at r.at
one_history fed q r (inl h) =
    let b = between fed h.0 q r h.1 in
    record {
      front = λ order. (b.more, b.is);
      same = λ there. let s : q ≡ r = same_place fed h.0 q r h.1 there in (ap (λ (p : Place). p.given) s, ap (λ (p : Place). p.now) s, ap (λ (p : Place). p.position) s);
      position_is = b.position_is;
    }
one_history fed q r (inr h) =
    let b = between fed h.0 r q h.1 in
    record {
      front = λ order.
          let there : r.at ≡ q.at = omega (arith, b.on) in
          let s : r ≡ q = same_place fed h.0 r q h.1 there in ([], ap (λ (p : Place). p.given) s ∙ sym (append-nil q.given));
      same = λ there. let s : r ≡ q = same_place fed h.0 r q h.1 (sym there) in (sym (ap (λ (p : Place). p.given) s), sym (ap (λ (p : Place). p.now) s), sym (ap (λ (p : Place). p.position) s));
      position_is = λ e. sym (b.position_is (sym e));
    }

pub histories_are_one : HistoriesAreOne
histories_are_one fed one other now later position end at next first second =
    let a = leads_reach fed first in
    let b = leads_reach fed second in
    one_history fed (place_of one now position at) (place_of other later end next) (meets fed a.0 b.0 start (place_of one now position at) (place_of other later end next) a.1 b.1)

pub histories_stay : HistoriesStay
histories_stay fed more given now position at leads = leads_grow fed more leads

-- no step leads on from where bytes stop
stuck : (fed : List ℕ) (steps : ℕ) (q r : Place) (e : CborFault) → front_step q.now (drop q.at fed) ≡ Err e → Reaches fed steps q r → q ≡ r
stuck fed zero q r e stop same = same
stuck fed (suc steps) q r e stop h = absurd (not_ok e h.0 (sym stop ∙ h.2))

-- each other place is reached on the way to where bytes stop
before_stop : (fed : List ℕ) (q r : Place) (e : CborFault) → front_step q.now (drop q.at fed) ≡ Err e → Meets fed q r → (steps : ℕ) × Reaches fed steps r q
before_stop fed q r e stop (inl h) = (0, sym (stuck fed h.0 q r e stop h.1))
before_stop fed q r e stop (inr h) = h

-- a history goes to where the bytes stop
to_stop : (fed : List ℕ) (given : List Event) (at : ℕ) (reason : Why) → Stops fed given at reason → (other : List Event) (later : Open) (position next : ℕ) → Leads fed other later position next →
    (next ≤ at) × ((more : List Event) × (given ≡ other ++ more))
to_stop fed given at reason s other later position next leads =
    let q : Place = place_of given s.now s.position at in
    let r : Place = place_of other later position next in
    let a = leads_reach fed s.leads in
    let b = leads_reach fed leads in
    let way = before_stop fed q r _ s.stops (meets fed a.0 b.0 start q r a.1 b.1) in
    let m = between fed way.0 r q way.1 in
    (omega (arith, m.on), (m.more, m.is))

same_fault : {A : Type 0} (place other : ℕ) (reason another : Why) → ◌≡◌ {A = Result A CborFault} (refused place reason) (refused other another) → reason ≡ another
same_fault {A} place other reason another h = cc

pub stops_are_one : StopsAreOne
stops_are_one fed given at reason s = record {
  once = λ other next another t.
      let first = to_stop fed given at reason s other t.now t.position next t.leads in
      let second = to_stop fed other next another t given s.now s.position at s.leads in
      let there : at ≡ next = omega (arith, first.0, second.0) in
      let one = (histories_are_one fed given other s.now t.now s.position t.position at next s.leads t.leads).same there in
      let stops : front_step t.now (drop next fed) ≡ refused s.place reason = subst (λ n. front_step t.now (drop n fed) ≡ refused s.place reason) there (subst (λ o. front_step o (drop at fed) ≡ refused s.place reason) one.1 s.stops) in
      (one.0, there, same_fault s.place t.place reason another (sym stops ∙ t.stops));
  last = λ other later position next leads. to_stop fed given at reason s other later position next leads;
  stays = λ apart more. record {
    now = s.now;
    position = s.position;
    place = s.place;
    leads = leads_grow fed more s.leads;
    stops = ap (front_step s.now) (drop-append-le at fed more (leads_within fed s.leads))
        ∙ (step_goes (drop at fed) more s.now.wants s.now.chunks).stays (λ k h. apart (same_fault s.place k reason why.End (sym s.stops ∙ h))) ∙ s.stops;
  };
}
