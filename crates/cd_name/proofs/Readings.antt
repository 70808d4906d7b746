-- What the byte at an offset says of what is read from there on.
use Rattle.std.proofs.Common.{◌≡◌, ℕ, zero, suc, ◌+◌, ◌-◌, ◌*◌, ◌<◌, ◌≤◌, List, ◌++◌, length, take, drop, get_or, refl, ap, sym, ◌∙◌, arith, append_assoc, length-append, inl, inr}
use Rattle.std.proofs.lemmas.Bool.{eq-eqb, ne_eqb, cases_eq}
use Rattle.cd_name.proofs.Bytes.{length-label}
use Rattle.cd_name.specs.Names.{Break, LabelRun, run_of_end, label_then_run, label_run, root_reading, break_reading, label_then_reading, pointer_then_reading, run_reading, target_reading, reading_at}
use Rattle.cd_name.specs.declared.fault.NameWhy.{NameWhy}
use Rattle.cd_name.specs.declared.fault.NameWhy.TheVariants.{Short, Label, Pointer}
use Rattle.cd_name.proofs.RunsAt.{run_at-none, run_at-root, run_at-label, run_at-cut, run_at-reserved, run_at-pointer_cut, run_at-pointer}

-- a pointer to a target before the start of the run reads a run that begins there
target_reading-before : (p : List ℕ) (s t : ℕ) → t < s → target_reading p s t ≡ reading_at p t t
unfolding target_reading reading_at
target_reading-before p zero t h = absurd (omega arith)
target_reading-before p (suc s) t h =
    let same : t ≡ s → target_reading p (suc s) t ≡ run_reading (target_reading p t) t (label_run 0 (drop t p)) = λ e.
    rw (eq-eqb t s e) (ap (λ k. run_reading (target_reading p k) k (label_run 0 (drop k p))) (sym e)) in
    let other : (t ≡ s → ⊥) → target_reading p (suc s) t ≡ run_reading (target_reading p t) t (label_run 0 (drop t p)) = λ e.
    rw (ne_eqb t s e) (target_reading-before p s t (omega arith)) in
    elim (cases_eq t s) [ inl e ↦ same e | inr e ↦ other e ]

-- a pointer to the start of the run or past it is refused
target_reading-past : (p : List ℕ) (s t : ℕ) → s ≤ t → target_reading p s t ≡ break_reading 0 Pointer
unfolding target_reading
target_reading-past p zero t h = refl
target_reading-past p (suc s) t h = rw (ne_eqb t s (λ e. omega arith)) (target_reading-past p s t (omega arith))

-- a rule that is broken at an offset
reading-break : (p : List ℕ) (s at : ℕ) (why : NameWhy) → label_run 0 (drop at p) ≡ run_of_end (Break why) → reading_at p s at ≡ break_reading at why
unfolding reading_at
reading-break p s at why is =
    let zero_at : at + 0 ≡ at = omega arith in
    rw (is, zero_at) refl

-- no byte
pub reading-none : (p : List ℕ) (s at : ℕ) → length p ≤ at → reading_at p s at ≡ break_reading at Short
reading-none p s at h = reading-break p s at Short (run_at-none p at h)

-- a length byte 0
pub reading-root : (p : List ℕ) (s at : ℕ) → at < length p → get_or p at 0 ≡ 0 → reading_at p s at ≡ root_reading (at + 1)
unfolding reading_at
reading-root p s at h e =
    let zero_at : at + 0 ≡ at = omega arith in
    rw (run_at-root p at h e, zero_at) refl

-- a label with bytes missing
pub reading-cut : (p : List ℕ) (s at n : ℕ) → get_or p at 0 ≡ n → 0 < n → n ≤ 63 → at < length p → length p ≤ at + n →
    reading_at p s at ≡ break_reading at Short
reading-cut p s at n e h k m o = reading-break p s at Short (run_at-cut p at n e h k m o)

-- a length byte of 64 to 191
pub reading-reserved : (p : List ℕ) (s at n : ℕ) → get_or p at 0 ≡ n → at < length p → 63 < n → n < 192 → reading_at p s at ≡ break_reading at Label
reading-reserved p s at n e m h k = reading-break p s at Label (run_at-reserved p at n e m h k)

-- half a pointer
pub reading-pointer_cut : (p : List ℕ) (s at n : ℕ) → get_or p at 0 ≡ n → at + 1 ≡ length p → 191 < n → reading_at p s at ≡ break_reading at Short
reading-pointer_cut p s at n e m h = reading-break p s at Short (run_at-pointer_cut p at n e m h)

-- where a pointer leads
reading-pointer : (p : List ℕ) (s at n : ℕ) → get_or p at 0 ≡ n → at + 1 < length p → 191 < n →
    reading_at p s at ≡ pointer_then_reading (at + 2) (target_reading p s ((n - 192) * 256 + get_or p (at + 1) 0))
unfolding reading_at
reading-pointer p s at n e m h =
    let zero_at : at + 0 ≡ at = omega arith in
    rw (run_at-pointer p at n e m h, zero_at) refl

-- a pointer to a target before the start of the run
pub reading-back : (p : List ℕ) (s at n t : ℕ) → get_or p at 0 ≡ n → at + 1 < length p → 191 < n → t ≡ (n - 192) * 256 + get_or p (at + 1) 0 → t < s →
    reading_at p s at ≡ pointer_then_reading (at + 2) (reading_at p t t)
reading-back p s at n t e m h is k =
    reading-pointer p s at n e m h ∙ ap (λ j. pointer_then_reading (at + 2) (target_reading p s j)) (sym is) ∙ ap (λ r. pointer_then_reading (at + 2) r) (target_reading-before p s t k)

-- a pointer to the start of the run or past it
pub reading-forward : (p : List ℕ) (s at n t : ℕ) → get_or p at 0 ≡ n → at + 1 < length p → 191 < n → t ≡ (n - 192) * 256 + get_or p (at + 1) 0 → s ≤ t →
    reading_at p s at ≡ break_reading (at + 2) Pointer
reading-forward p s at n t e m h is k =
    reading-pointer p s at n e m h ∙ ap (λ j. pointer_then_reading (at + 2) (target_reading p s j)) (sym is) ∙ ap (λ r. pointer_then_reading (at + 2) r) (target_reading-past p s t k)

-- a label before a run
run_reading-label : (p : List ℕ) (s at : ℕ) (label : List ℕ) (r : LabelRun) (n : ℕ) → length label ≡ n →
    run_reading (target_reading p s) at (label_then_run label r) ≡ label_then_reading label (run_reading (target_reading p s) (at + n) r)
run_reading-label p s at label r n e =
    let place : at + length (label ++ r.labels) ≡ at + n + length r.labels = omega (arith, length-append label r.labels) in
    rw (place, append_assoc label r.labels) refl

-- a label whose bytes are there
pub reading-label : (p : List ℕ) (s at n : ℕ) → get_or p at 0 ≡ n → 0 < n → n ≤ 63 → at + n < length p →
    reading_at p s at ≡ label_then_reading (take (n + 1) (drop at p)) (reading_at p s (at + (n + 1)))
unfolding reading_at
reading-label p s at n e h k m =
    ap (λ r. run_reading (target_reading p s) at r) (run_at-label p at n e h k m)
    ∙ run_reading-label p s at (take (n + 1) (drop at p)) (label_run 0 (drop (at + (n + 1)) p)) (n + 1) (length-label p at n m)
