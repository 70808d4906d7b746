use Rattle.std.proofs.Common.{arith, ℕ, ◌+◌, ◌%◌, ◌<◌, ◌≤◌, ◌∷◌, length, sym, ap, ap₂, ◌∙◌, subst, refl, mod-lt, Some}
use Rattle.atomic_table.specs.Table as table
use Rattle.cd_ring.specs.declared.view.Place.TheVariants.{Empty, Job}
use Rattle.cd_ring.specs.Kinds.{stored}
use Rattle.cd_ring.specs.Rule.{READY}
use Rattle.cd_ring.proofs.Rests.{next_place, posted}
use Rattle.cd_ring.proofs.ring.Post.post.Goals as goal

pub mark_ready-requires-clause-next : goal.mark_ready-requires-clause-next
mark_ready-requires-clause-next g c = let s = c.args.self.now in let r = s.rest in let count : ℕ = s.count in let slots : ℕ = s.slots in let within : count ≤ slots = r.within in
    let room : count < slots = let f = c.if-self.false in omega arith in let i : ℕ = (s.next + s.count) % s.slots in let pl = next_place s.slots s.next s.count s.seat.me r room i refl in
    let same = sym s.sized.0 ∙ ap (λ t. t.slots) c.requires.ring.0 ∙ c.args.ring.now.sized.1 in let q : ℕ = length s.seat.me.0.known.out in (
      r.leads,
      pl.1,
      pl.0 ∙ ap₂ (λ (a b : ℕ). (s.seat.me.0.known.taken + a) % b) (sym r.count_is) same,
      subst (λ (z : ℕ). q < z) same (subst (λ (z : ℕ). z < slots) (sym r.count_is) room),
      subst (λ (z : ℕ). i < z) same (mod-lt (s.next + s.count) r.some_slot),
    )

pub mark_ready-requires-clause-place : goal.mark_ready-requires-clause-place
mark_ready-requires-clause-place g c = let s = c.args.self.now in let r = s.rest in let count : ℕ = s.count in let slots : ℕ = s.slots in let within : count ≤ slots = r.within in
    let room : count < slots = let f = c.if-self.false in omega arith in let i : ℕ = (s.next + s.count) % s.slots in let pl = next_place s.slots s.next s.count s.seat.me r room i refl in
    pl.2 ∙ ap (λ l. (i, Empty) ∷ l) (sym (ap table.rest pl.2))

pub invariant_of-self : goal.invariant_of-self
invariant_of-self g c = let s = c.args.self.now in let r = s.rest in let count : ℕ = s.count in let slots : ℕ = s.slots in let within : count ≤ slots = r.within in
    let room : count < slots = let f = c.if-self.false in omega arith in let i : ℕ = (s.next + s.count) % s.slots in let pl = next_place s.slots s.next s.count s.seat.me r room i refl in
    let gave = c.mark_ready.ensures.posted in record {
      rest = posted s.slots s.next s.count s.seat.me c.mark_ready.new.seat.me i c.args.job r room refl gave.0 gave.1 gave.3 (gave.2 ∙ ap table.rest pl.2);
      sized = (ap (λ t. t.slots) c.mark_ready.ensures.ring.0 ∙ s.sized.0, s.sized.1);
    }

pub returns-clause-posted : goal.returns-clause-posted
returns-clause-posted g c = let s = c.args.self.now in let r = s.rest in let count : ℕ = s.count in let slots : ℕ = s.slots in let within : count ≤ slots = r.within in
    let room : count < slots = let f = c.if-self.false in omega arith in let i : ℕ = (s.next + s.count) % s.slots in let pl = next_place s.slots s.next s.count s.seat.me r room i refl in
    c.mark_ready.ensures.posted.3
    ∙ ap (λ (z : ℕ). stored s.seat.me.0.stores z READY (Some (Job c.args.job))) (pl.0 ∙ ap (λ (z : ℕ). (s.seat.me.0.known.taken + z) % s.slots) (sym r.count_is))
