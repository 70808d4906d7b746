use Rattle.std.proofs.Common.{arith, ◌≡◌, ℕ, ◌+◌, ◌-◌, ◌<◌, ap, ◌∙◌}
use Rattle.cd_ring.proofs.Rests.{oldest_place, took_rest}
use Rattle.cd_ring.proofs.ring.Post.take.Goals as goal

pub take_oldest-requires-clause-oldest : goal.take_oldest-requires-clause-oldest
take_oldest-requires-clause-oldest g c = let s = c.args.self.now in let count : ℕ = s.count in let some_out : 0 < count = let f = c.if-self-eq0.false in omega arith in
    let o = oldest_place s.slots s.next s.count s.seat.me s.rest some_out in (o.0, o.1, o.2, o.3)

pub invariant_of-self-in-Some : goal.invariant_of-self-in-Some
invariant_of-self-in-Some g c = let s = c.args.self.now in let count : ℕ = s.count in let one : count ≡ count - 1 + 1 = let f = c.if-self-eq0.false in omega arith in record {
  rest = took_rest s.slots s.next s.count (g.T.Task.meets c.args.ring.now.setup.task) s.seat.me c.take_oldest.new.seat.me c.turn.new.self.me c.in-Some.done (s.count - 1) s.rest one c.in-Some.ensures.some c.turn.ensures.2;
  sized = (ap (λ t. t.slots) (c.turn.ensures.0 ∙ c.take_oldest.ensures.ring.0) ∙ s.sized.0, s.sized.1);
}
