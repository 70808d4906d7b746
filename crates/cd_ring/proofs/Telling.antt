-- What each word tells, by the phase of its slot.
use Rattle.std.proofs.Common.{◌≡◌, ℕ, zero, suc, ◌+◌, ◌-◌, ◌%◌, ◌<◌, ◌≤◌, List, [], ◌∷◌, length, drop, sym, refl, ap, ◌∙◌, subst, inl, inr, arith}
use mathlib.Core.Option.{some, some-injective, some-ne-none}
use lib.ListN.{get_elem?}
use Rattle.cd_ring.specs.declared.view.Known.{Known}
use Rattle.cd_ring.specs.Core.{Phase, free, ready, taken, done, number, Ordered}
use Rattle.cd_ring.specs.Rule.{Homes, Holds, Shows, Rule}
use Rattle.cd_ring.specs.Shown.{OutIn, WordTells}
use Rattle.cd_ring.proofs.Core.{at_inside}
use Rattle.cd_ring.proofs.Moves.{good, phase_at}

-- what stands at a place of the rest of a list
pub at_drop : {A : Type 0} (t k : ℕ) (l : List A) → get_elem? (drop t l) k ≡ get_elem? l (t + k)
at_drop zero k l = ap (λ (z : ℕ). get_elem? l z) (let h : k ≡ 0 + k = omega arith in h)
at_drop (suc t) k [] = refl
at_drop (suc t) k (x ∷ l) = at_drop t k l ∙ ap (λ (z : ℕ). get_elem? (x ∷ l) z) (let h : suc (t + k) ≡ suc t + k = omega arith in h)

module _ {T J D : Type 0} (meets : J → D → Type 0) (task : T) (slots : ℕ) (words : List ℕ) (homes : Homes J D) (all : List (Known T J D)) (r : Rule meets task slots words homes all) where
  ordered : Ordered meets slots r.lead r.core
  ordered = good meets task slots words homes all r

  -- a job out is one posted
  posted_of : (k : ℕ) (x : J) → get_elem? r.coordinator.out k ≡ some x → get_elem? r.core.posted (r.coordinator.taken + k) ≡ some x
  posted_of k x e = sym (at_drop r.coordinator.taken k r.core.posted) ∙ (sym (ap (λ (l : List J). get_elem? l k) r.out_is) ∙ e)

  -- the job of a slot's number is out in the slot
  out_of : (i p : ℕ) (x : J) (f : Phase D) → get_elem? r.core.phases i ≡ some f → number f ≡ some p → get_elem? r.core.posted p ≡ some x → OutIn meets slots r.coordinator i x
  out_of i p x f e num at = let t : ℕ = r.coordinator.taken in let o = ordered.others i f p e num in let low : t ≤ p = subst (λ (z : ℕ). z ≤ p) (sym r.taken_is) o.1 in
      let here : t + (p - t) ≡ p = omega arith in (
        p - t,
        ap (λ (l : List J). get_elem? l (p - t)) r.out_is ∙ (at_drop t (p - t) r.core.posted ∙ (ap (λ (z : ℕ). get_elem? r.core.posted z) here ∙ at)),
        ap (λ (z : ℕ). z % slots) here ∙ o.0,
      )

  -- the slot of a job out has its number
  phase_out : (i : ℕ) (x : J) (o : OutIn meets slots r.coordinator i x) → (f : Phase D) × (get_elem? r.core.phases i ≡ some f) × (number f ≡ some (r.coordinator.taken + o.0))
  phase_out i x o = let t : ℕ = r.coordinator.taken in let k : ℕ = o.0 in let p : ℕ = t + k in let n : ℕ = length r.core.results in let same : t ≡ n = r.taken_is in
      let s = ordered.stands p (let h : n ≤ p = omega arith in h) (at_inside r.core.posted p x (posted_of k x o.1)) in
      (s.0, subst (λ (z : ℕ). get_elem? r.core.phases z ≡ some s.0) o.2 s.1, s.2)

  -- at most one job is out in a slot
  one_job : (i : ℕ) (x y : J) → OutIn meets slots r.coordinator i x → OutIn meets slots r.coordinator i y → x ≡ y
  one_job i x y a b = let f = phase_out i x a in let g = phase_out i y b in let t : ℕ = r.coordinator.taken in let k : ℕ = a.0 in let l : ℕ = b.0 in
      let phase : f.0 ≡ g.0 = some-injective f.0 g.0 (sym f.1 ∙ g.1) in
      let numbers : t + k ≡ t + l = some-injective (t + k) (t + l) (sym f.2 ∙ (ap number phase ∙ g.2)) in let same : k ≡ l = omega arith in
      some-injective x y (sym a.1 ∙ (ap (λ (z : ℕ). get_elem? r.coordinator.out z) same ∙ b.1))

  -- a slot that is free has no job out
  none_out : (i : ℕ) → get_elem? r.core.phases i ≡ some free → (x : J) → OutIn meets slots r.coordinator i x → ⊥
  none_out i e x o = let f = phase_out i x o in let same : free ≡ f.0 = some-injective free f.0 (sym e ∙ f.1) in some-ne-none (r.coordinator.taken + o.0) (sym (ap number same ∙ f.2))

  -- who holds a slot is the one who has taken it
  holder : (i p seat : ℕ) → get_elem? r.core.phases i ≡ some (taken p seat) → (j : ℕ) (v : Known T J D) (y : J) → get_elem? all j ≡ some v → Holds v i y → j ≡ seat
  holder i p seat e j v y at has = let o = r.held j v i y at has in let same : taken o.0 j ≡ taken p seat = some-injective (taken o.0 j) (taken p seat) (sym o.1 ∙ e) in let is : j ≡ seat = cc in is

  -- a slot that is not taken is not held
  not_held : (i : ℕ) (f : Phase D) → get_elem? r.core.phases i ≡ some f → ((p j : ℕ) → f ≡ taken p j → ⊥) → (j : ℕ) (v : Known T J D) (y : J) → get_elem? all j ≡ some v → Holds v i y → ⊥
  not_held i f e other j v y at has = let o = r.held j v i y at has in other o.0 j (some-injective f (taken o.0 j) (sym e ∙ o.1))

  abbrev Tells : ℕ → Type 0
  Tells i = WordTells meets slots words homes all r.coordinator i

  by_phase : (i : ℕ) (f : Phase D) → get_elem? r.core.phases i ≡ some f → Shows words homes r.coordinator.notes all r.core.posted i f → Tells i
  by_phase i free e sh = record {
    is_one = inl sh.0;
    one_job = one_job i;
    at_free = λ _. (none_out i e, sh.1);
    at_ready = λ w. let g = sh.0 in absurd (omega arith);
    at_taken = λ w. let g = sh.0 in absurd (omega arith);
    at_done = λ w. let g = sh.0 in absurd (omega arith);
    unheld = λ _. not_held i free e (λ p j z. cc);
  }
  by_phase i (ready p) e sh = record {
    is_one = inr (inl sh.0);
    one_job = one_job i;
    at_free = λ w. let g = sh.0 in absurd (omega arith);
    at_ready = λ _. (sh.2.0, out_of i p sh.2.0 (ready p) e refl sh.2.1, sh.2.2);
    at_taken = λ w. let g = sh.0 in absurd (omega arith);
    at_done = λ w. let g = sh.0 in absurd (omega arith);
    unheld = λ _. not_held i (ready p) e (λ q j z. cc);
  }
  by_phase i (taken p seat) e sh = let h = sh.3 in record {
    is_one = inr (inr (inl sh.0));
    one_job = one_job i;
    at_free = λ w. let g = sh.0 in absurd (omega arith);
    at_ready = λ w. let g = sh.0 in absurd (omega arith);
    at_taken = λ _. (h.1, out_of i p h.1 (taken p seat) e refl h.4, (seat, ((h.0, h.2, h.3), holder i p seat e)));
    at_done = λ w. let g = sh.0 in absurd (omega arith);
    unheld = λ other. absurd (other sh.0);
  }
  by_phase i (done p d) e sh = let m = ordered.done_meets i p d e in record {
    is_one = inr (inr (inr sh.0));
    one_job = one_job i;
    at_free = λ w. let g = sh.0 in absurd (omega arith);
    at_ready = λ w. let g = sh.0 in absurd (omega arith);
    at_taken = λ w. let g = sh.0 in absurd (omega arith);
    at_done = λ _. (m.0, d, out_of i p m.0 (done p d) e refl m.1, m.2, sh.1);
    unheld = λ _. not_held i (done p d) e (λ q j z. cc);
  }

  pub tells_all : (i : ℕ) → i < slots → Tells i
  tells_all i near = let ph = phase_at meets task slots words homes all r i near in by_phase i ph.0 ph.1 ph.2
