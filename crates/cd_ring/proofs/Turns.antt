-- The n-th result meets the n-th job, by the clauses of the calls.
use Rattle.std.proofs.Common.{◌≡◌, ℕ, zero, suc, List, [], ◌∷◌, ◌++◌, length, drop, sym, ap, ◌∙◌, subst, append_assoc, append-nil}
use mathlib.Core.Option.{some, some-injective, some-ne-none}
use lib.ListN.{get_elem?}
use Rattle.cd_ring.specs.Turns.{Turn, posted, took, jobs_of, results_of, Leaves}

module _ {J D : Type 0} (meets : J → D → Type 0) where
  pub each_meets : (turns : List (Turn J D)) (out left : List J) → Leaves meets out turns left → (n : ℕ) (d : D) → get_elem? (results_of turns) n ≡ some d
      → (x : J) × (get_elem? (out ++ jobs_of turns) n ≡ some x) × meets x d
  each_meets [] out left l n d e = absurd (some-ne-none d (sym e))
  each_meets (posted x ∷ turns) out left l n d e = let h = each_meets turns (out ++ x ∷ []) left l n d e in
      (h.0, ap (λ (z : List J). get_elem? z n) (sym (append_assoc out (x ∷ []) (jobs_of turns))) ∙ h.1, h.2)
  each_meets (took y ∷ turns) out left l zero d e = (l.0, ap (λ (z : List J). get_elem? (z ++ jobs_of turns) 0) l.2, subst (λ (z : D). meets l.0 z) (some-injective y d e) l.3)
  each_meets (took y ∷ turns) out left l (suc n) d e = let h = each_meets turns l.1 left l.4 n d e in
      (h.0, ap (λ (z : List J). get_elem? (z ++ jobs_of turns) (suc n)) l.2 ∙ h.1, h.2)

  pub others_left : (turns : List (Turn J D)) (out left : List J) → Leaves meets out turns left → left ≡ drop (length (results_of turns)) (out ++ jobs_of turns)
  others_left [] out left l = l ∙ sym (append-nil out)
  others_left (posted x ∷ turns) out left l = others_left turns (out ++ x ∷ []) left l
      ∙ ap (λ (z : List J). drop (length (results_of turns)) z) (append_assoc out (x ∷ []) (jobs_of turns))
  others_left (took y ∷ turns) out left l = others_left turns l.1 left l.4
      ∙ ap (λ (z : List J). drop (suc (length (results_of turns))) (z ++ jobs_of turns)) (sym l.2)
