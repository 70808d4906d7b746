use Rattle.std.proofs.Common.{◌≡◌, ℕ, ◌-◌, set, Some, None, ap, ◌∙◌, subst, arith, rules, inl, inr}
use Rattle.cd_window.specs.Places.{place_at}
use Rattle.cd_window.proofs.Popped.{place_within}
use Rattle.cd_window.proofs.places.take_front.Goals as goal

pub overflow_sub-j : goal.overflow_sub-j
overflow_sub-j g c =
    let m = c.requires.mated c.in-Some-partner.j c.in-Some.front.now c.in-Some.ensures c.in-Some-partner.is in
    omega (arith, m.is)

pub take_pair-requires-clause-other : goal.take_pair-requires-clause-other
take_pair-requires-clause-other g c =
    let m = c.requires.mated c.in-Some-partner.j c.in-Some.front.now c.in-Some.ensures c.in-Some-partner.is in
    let is = m.is in
    let e : c.in-Some-partner.j - c.args.first ≡ m.place = omega arith in
    let t : place_at c.args.places.now.items (c.in-Some-partner.j - c.args.first) ≡ Some m.other = ap (place_at c.args.places.now.items) e ∙ m.there in
    rw t (search rules)

pub take_pair-requires-clause-within : goal.take_pair-requires-clause-within
take_pair-requires-clause-within g c =
    let m = c.requires.mated c.in-Some-partner.j c.in-Some.front.now c.in-Some.ensures c.in-Some-partner.is in
    let is = m.is in
    let h = place_within c.args.places.now.items m.place m.other m.there in
    omega arith

pub take_pair-requires-clause-apart : goal.take_pair-requires-clause-apart
take_pair-requires-clause-apart g c =
    let m = c.requires.mated c.in-Some-partner.j c.in-Some.front.now c.in-Some.ensures c.in-Some-partner.is in
    let is = m.is in
    let apart = m.apart in
    omega arith

pub returns-in-None-partner : goal.returns-in-None-partner
returns-in-None-partner g c =
    let t = c.take_alone.ensures c.in-Some.front.now c.in-Some.ensures in
    inl (record { was = c.in-Some.front.now; held = c.in-Some.ensures; free = c.in-None-partner.is; result_is = t.0; left = t.1 })

pub returns-in-Some-partner : goal.returns-in-Some-partner
returns-in-Some-partner g c =
    let m = c.requires.mated c.in-Some-partner.j c.in-Some.front.now c.in-Some.ensures c.in-Some-partner.is in
    let is = m.is in
    let e : c.in-Some-partner.j - c.args.first ≡ m.place = omega arith in
    let at : place_at c.args.places.now.items (c.in-Some-partner.j - c.args.first) ≡ Some m.other = ap (place_at c.args.places.now.items) e ∙ m.there in
    let t = c.take_pair.ensures c.in-Some.front.now m.other c.in-Some.ensures at in
    inr (record {
      was = c.in-Some.front.now;
      place = m.place;
      other = m.other;
      held = c.in-Some.ensures;
      paired = c.in-Some-partner.is ∙ ap (λ (n : ℕ). Some n) m.is;
      there = m.there;
      apart = m.apart;
      result_is = t.0;
      left = subst (λ (n : ℕ). c.take_pair.new.places.items ≡ set (set c.args.places.now.items n None) 0 None) e t.1;
    })
