-- The history of a reader, step by step.
use Rattle.std.proofs.Common.{◌≡◌, ℕ, ◌+◌, ◌≤◌, List, [], ◌∷◌, ◌++◌, length, drop, Some, None, Ok, Err, refl, ap, sym, subst, ◌∙◌, arith, length-append}
use Rattle.std.proofs.lemmas.List.{drop-append-le, drop-drop, length-drop}
use Rattle.cd_cbor.specs.Readings.{refused}
use Rattle.cd_cbor.specs.Events.{Open, front_step, nothing_open}
use Rattle.cd_cbor.specs.Following.{Kept, Leads, begins, goes_on, tells, StandsFor, Stops, Steps}
use Rattle.cd_cbor.specs.declared.event.Event.{Event}
use Rattle.cd_cbor.specs.declared.fault.Why.{Why}
use Rattle.cd_cbor.specs.declared.fault.CborFault.TheVariants as fault
use Rattle.cd_cbor.proofs.EventsGoing.{step_stays}

-- nothing is fed
pub stands_new : (r : Kept) → r.open_now ≡ nothing_open → r.at ≡ 0 → r.position ≡ 0 → r.held ≡ [] → StandsFor r [] []
stands_new r none start first empty = record {
  leads = rw (none, start, first) begins;
  holds = rw (empty, start) refl;
  within = omega arith;
}

-- events that bytes tell more bytes tell
pub leads_grow : (fed more : List ℕ) {given : List Event} {now : Open} {position at : ℕ} → Leads fed given now position at → Leads (fed ++ more) given now position at
leads_grow fed more begins = begins
leads_grow fed more (goes_on given now next position at size before within is) =
    goes_on given now next position at size (leads_grow fed more before) (omega (arith, length-append fed more)) (step_stays fed more now at ((None, next), size) (omega arith) is)
leads_grow fed more (tells given now next position at size e before within is) =
    tells given now next position at size e (leads_grow fed more before) (omega (arith, length-append fed more)) (step_stays fed more now at ((Some e, next), size) (omega arith) is)

-- a piece is fed
pub stands_feed : (r new : Kept) (fed piece : List ℕ) (given : List Event) → StandsFor r fed given → new.open_now ≡ r.open_now → new.at ≡ r.at → new.position ≡ r.position → new.held ≡ r.held ++ piece →
    StandsFor new (fed ++ piece) given
stands_feed r new fed piece given h same at position held = record {
  leads = rw (same, at, position) (leads_grow fed piece h.leads);
  holds = held ∙ ap (λ t. t ++ piece) h.holds ∙ sym (drop-append-le r.at fed piece h.within) ∙ ap (λ n. drop n (fed ++ piece)) (sym at);
  within = omega (arith, h.within, length-append fed piece);
}

module _ (old new : Kept) (fed : List ℕ) (given : List Event) (h : StandsFor old fed given) where
  -- bytes that are read lie within those fed
  read_within : (size : ℕ) → size ≤ length old.held → old.at + size ≤ length fed
  read_within size small = let long : length old.held ≡ length (drop old.at fed) = ap length h.holds in omega (arith, length-drop old.at fed, h.within)

  held_after : (size : ℕ) → new.held ≡ drop size old.held → new.at ≡ old.at + size → new.held ≡ drop new.at fed
  held_after size held at = held ∙ ap (drop size) h.holds ∙ drop-drop size old.at fed ∙ ap (λ n. drop n fed) (sym at)

  -- a step that ends no event
  pub stands_on : Steps old new (Ok None) → StandsFor new fed given
  stands_on s =
      let within : old.at + s.0 ≤ length fed = read_within s.0 s.3 in
      let is : front_step old.open_now (drop old.at fed) ≡ Ok ((None, new.open_now), s.0) = ap (front_step old.open_now) (sym h.holds) ∙ s.1 in
      let after : Leads fed given new.open_now old.position (old.at + s.0) = goes_on given old.open_now new.open_now old.position old.at s.0 h.leads within is in
      record {
        leads = subst (λ n. Leads fed given new.open_now n new.at) (sym s.7) (subst (λ n. Leads fed given new.open_now old.position n) (sym s.5) after);
        holds = held_after s.0 s.4 s.5;
        within = omega (arith, s.5);
      }

  -- a step that ends an event
  pub stands_told : (e : Event) → Steps old new (Ok (Some e)) → StandsFor new fed (given ++ e ∷ [])
  stands_told e s =
      let within : old.at + s.0 ≤ length fed = read_within s.0 s.3 in
      let is : front_step old.open_now (drop old.at fed) ≡ Ok ((Some e, new.open_now), s.0) = ap (front_step old.open_now) (sym h.holds) ∙ s.1 in
      let after : Leads fed (given ++ e ∷ []) new.open_now (old.at + s.0) (old.at + s.0) = tells given old.open_now new.open_now old.position old.at s.0 e h.leads within is in
      record {
        leads = subst (λ n. Leads fed (given ++ e ∷ []) new.open_now n new.at) (sym s.7) (subst (λ n. Leads fed (given ++ e ∷ []) new.open_now n n) (sym s.5) after);
        holds = held_after s.0 s.4 s.5;
        within = omega (arith, s.5);
      }

  -- a fault, and nothing changes
  pub stands_stopped : (place : ℕ) (reason : Why) → Steps old new (Err (fault.Bad place reason)) → StandsFor new fed given × Stops fed given new.at reason
  stands_stopped place reason s =
      let same : old.at ≡ new.at = ap (λ r. r.at) (sym s.1) in
      let is : front_step old.open_now (drop old.at fed) ≡ refused place reason = ap (front_step old.open_now) (sym h.holds) ∙ s.0 in
      let stop : Stops fed given old.at reason = record { now = old.open_now; position = old.position; place = place; leads = h.leads; stops = is } in
      (subst (λ r. StandsFor r fed given) (sym s.1) h, subst (λ n. Stops fed given n reason) same stop)

  -- no memory, and nothing changes
  pub stands_same : Steps old new (Err fault.NoMemory) → StandsFor new fed given
  stands_same s = subst (λ r. StandsFor r fed given) (sym s) h
