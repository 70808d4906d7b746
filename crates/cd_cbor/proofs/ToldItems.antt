-- What is told of an item that is read are its events.
use Rattle.std.proofs.Common.{◌≡◌, ℕ, ◌+◌, ◌-◌, ◌<◌, List, [], ◌∷◌, ◌++◌, length, drop, Ok, Err, ap, sym, subst, ◌∙◌, arith, append_assoc}
use Rattle.std.specs.Prelude.{All, Result}
use Rattle.std.proofs.lemmas.List.{append_cancel_left}
use Rattle.cd_cbor.specs.Spells.{Spells, Cbor, most_depth}
use Rattle.cd_cbor.specs.Readings.{piece}
use Rattle.cd_cbor.specs.Reading.{item_at}
use Rattle.cd_cbor.specs.Events.{passed, nothing_open}
use Rattle.cd_cbor.specs.Telling.{item_events, events_of}
use Rattle.cd_cbor.specs.Following.{Kept, Leads, Stops, Nexts}
use Rattle.cd_cbor.specs.OnePath.{EventsAreTheItems, SaysAgain}
use Rattle.cd_cbor.specs.declared.item.Item.{Item}
use Rattle.cd_cbor.specs.declared.event.Event.{Event}
use Rattle.cd_cbor.specs.declared.event.Step.{Step}
use Rattle.cd_cbor.specs.declared.event.Step.TheVariants as step
use Rattle.cd_cbor.specs.declared.wanted.Wanted.{Wanted}
use Rattle.cd_cbor.specs.declared.fault.Why.{Why}
use Rattle.cd_cbor.specs.declared.fault.Why.TheVariants as why
use Rattle.cd_cbor.specs.declared.fault.CborFault.{CborFault}
use Rattle.cd_cbor.specs.declared.fault.CborFault.TheVariants as fault
use Rattle.cd_cbor.proofs.Offsets.{piece_is}
use Rattle.cd_cbor.proofs.Stands.{Stands}
use Rattle.cd_cbor.proofs.ItemsStand.{item_sound}
use Rattle.cd_cbor.proofs.Histories.{leads_grow}
use Rattle.cd_cbor.proofs.Follow.{among}
use Rattle.cd_cbor.proofs.ToldEvents.{item_tells}
use Rattle.cd_cbor.proofs.OneWay.{histories_are_one, stops_are_one, longer}

-- the events of an item that is read, wherever it stands
pub record ItemTold (bytes : List ℕ) (given : List Event) (depth : ℕ) (w : List Wanted) (at : ℕ) (item : Item) (next : ℕ) : Type 0 where
  pub spelled : Spells depth item (piece at (next - at) bytes)
  pub told : Leads bytes (given ++ item_events depth item (piece at (next - at) bytes) spelled) (among (passed w)) next next

pub item_told : (bytes : List ℕ) → All (λ byte. byte < 256) bytes → (depth : ℕ) (w : List Wanted) → length w + depth ≡ 16 → (broken : Why) (given : List Event) (position at : ℕ) (item : Item) (next : ℕ) →
    Leads bytes given (among w) position at → item_at depth bytes broken at ≡ Ok (item, next) → ItemTold bytes given depth w at item next
item_told bytes all depth w long broken given position at item next leads h =
    let st : Stands (Spells depth) bytes at item next = item_sound depth bytes all broken at item next h in
    let size : next - at ≡ length st.s = omega (arith, st.ends) in
    let same : piece at (next - at) bytes ≡ st.s = ap (λ k. piece at k bytes) size ∙ piece_is at bytes st.s (drop next bytes) st.is in
    let spelled : Spells depth item (piece at (next - at) bytes) = subst (Spells depth item) (sym same) st.has in
    let is : drop at bytes ≡ piece at (next - at) bytes ++ drop next bytes = st.is ∙ ap (λ s. s ++ drop next bytes) (sym same) in
    let end : at + length (piece at (next - at) bytes) ≡ next = let l : length (piece at (next - at) bytes) ≡ length st.s = ap length same in omega (arith, st.ends) in
    record {
      spelled = spelled;
      told = subst (λ n. Leads bytes (given ++ item_events depth item (piece at (next - at) bytes) spelled) (among (passed w)) n n) end
          (item_tells bytes depth w long item (piece at (next - at) bytes) (drop next bytes) spelled given position at is leads);
    }

pub events_are_the_items : EventsAreTheItems
unfolding Cbor events_of passed
events_are_the_items bytes given position at item next all leads h =
    let long : length {A = Wanted} [] + most_depth ≡ 16 = omega arith in
    let t : ItemTold bytes given most_depth [] at item next = item_told bytes all most_depth [] long why.Break given position at item next leads h in
    let events : List Event = item_events most_depth item (piece at (next - at) bytes) t.spelled in
    record {
      spelled = t.spelled;
      told = t.told;
      fronts = λ fed more other later end place is reached after before.
          let grown : Leads bytes other later end place = subst (λ b. Leads b other later end place) (sym is) (leads_grow fed more reached) in
          let first = (histories_are_one bytes given other nothing_open later position end at place leads grown).front after in
          let second = (histories_are_one bytes other (given ++ events) later nothing_open end next place next grown t.told).front before in
          (first.0, second.0, first.1, append_cancel_left given events (first.0 ++ second.0) (second.1 ∙ ap (λ s. s ++ second.0) first.1 ∙ append_assoc given first.0 second.0));
    }

-- a call after a fault says it again
pub says_again : (new : Kept) (fed more : List ℕ) (given : List Event) (at : ℕ) (reason : Why) (result : Result Step CborFault) → Stops fed given at reason → (reason ≡ why.End → ⊥) → Nexts new (fed ++ more) given result →
    SaysAgain at reason result
says_again new fed more given at reason (Ok (step.Event e)) s apart n =
    let still : Stops (fed ++ more) given at reason = (stops_are_one fed given at reason s).stays apart more in
    let on = (stops_are_one (fed ++ more) given at reason still).last (given ++ e ∷ []) new.open_now new.position new.at n.leads in
    longer given on.1.0 e (on.1.1 ∙ append_assoc given (e ∷ []) on.1.0)
says_again new fed more given at reason (Ok step.More) s apart n =
    let still : Stops (fed ++ more) given at reason = (stops_are_one fed given at reason s).stays apart more in
    apart (((stops_are_one (fed ++ more) given at reason still).once given n.1.0 why.End n.1.1).2)
says_again new fed more given at reason (Err (fault.Bad place other)) s apart n =
    let still : Stops (fed ++ more) given at reason = (stops_are_one fed given at reason s).stays apart more in
    let one = (stops_are_one (fed ++ more) given at reason still).once given place other n.1 in (sym one.1, sym one.2)
says_again new fed more given at reason (Err fault.NoMemory) s apart n = tt
