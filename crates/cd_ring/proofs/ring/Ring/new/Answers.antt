use Rattle.std.proofs.Common.{rules, arith, ◌≡◌, ℕ, ◌+◌, ◌<◌, ◌≤◌, subst, replicate, sym}
use Rattle.cd_ring.proofs.SeatSteps.{begins}
use Rattle.cd_ring.proofs.TakingPlaces.{all_places_taken}
use Rattle.cd_ring.specs.Rest.{AtRest}
use Rattle.cd_ring.proofs.ring.Ring.new.Goals as goal

pub new-requires : goal.new-requires
new-requires g c = let slots : ℕ = c.args.slots in let low : 1 ≤ slots = c.requires.slots.0 in let some_slot : 0 < slots = omega arith in
    let zeros : c.as_slice.result.now ≡ replicate (slots + 1) 0 = search rules in
    begins (g.T.Task.meets c.args.task) c.args.task c.args.slots c.as_slice.result.now c.in_ok-places.places.items some_slot zeros c.in_ok-places.ensures

pub invariant_of-post : goal.invariant_of-post
invariant_of-post g c = let slots : ℕ = c.args.slots in let low : 1 ≤ slots = c.requires.slots.0 in let high : slots ≤ 256 = c.requires.slots.1 in let some_slot : 0 < slots = omega arith in record {
  rest = subst (AtRest c.args.slots 0 0) (sym c.workers-works.ensures.seat.2) (all_places_taken c.args.task c.args.slots c.take_places.new.seat.me some_slot c.take_places.ensures.taken);
  sized = (search rules, omega arith);
}

pub invariant_of-post-in-Err : goal.invariant_of-post-in-Err
invariant_of-post-in-Err g c = let slots : ℕ = c.args.slots in let low : 1 ≤ slots = c.requires.slots.0 in let high : slots ≤ 256 = c.requires.slots.1 in let some_slot : 0 < slots = omega arith in record {
  rest = subst (AtRest c.args.slots 0 0) (sym c.workers-works.ensures.seat.2) (all_places_taken c.args.task c.args.slots c.take_places.new.seat.me some_slot c.take_places.ensures.taken);
  sized = (search rules, omega arith);
}
