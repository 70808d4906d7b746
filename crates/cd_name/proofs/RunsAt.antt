-- What the byte at an offset says of the run there.
use Rattle.std.proofs.Common.{◌≡◌, ℕ, ◌+◌, ◌-◌, ◌*◌, ◌<◌, ◌≤◌, List, length, take, drop, get_or, refl, ap, sym, ◌∙◌, arith, add-zero}
use Rattle.std.proofs.lemmas.List.{drop_all, length-drop, get_or-drop}
use Rattle.cd_name.proofs.Bytes.{drop-byte, take-label, drop-label}
use Rattle.cd_name.specs.Names.{Root, Target, Break, run_of_end, label_then_run, label_run}
use Rattle.cd_name.specs.declared.fault.NameWhy.TheVariants.{Short, Label}
use Rattle.cd_name.proofs.Runs.{run-none, run-root, run-label, run-cut, run-reserved, run-pointer_cut, run-pointer}

-- no byte
pub run_at-none : (p : List ℕ) (at : ℕ) → length p ≤ at → label_run 0 (drop at p) ≡ run_of_end (Break Short)
run_at-none p at h = ap (λ bs. label_run 0 bs) (drop_all at p h) ∙ run-none

-- a length byte 0
pub run_at-root : (p : List ℕ) (at : ℕ) → at < length p → get_or p at 0 ≡ 0 → label_run 0 (drop at p) ≡ run_of_end Root
run_at-root p at h e = ap (λ bs. label_run 0 bs) (drop-byte p at 0 e h) ∙ run-root 0 (drop (at + 1) p) refl

-- a label whose bytes are there
pub run_at-label : (p : List ℕ) (at n : ℕ) → get_or p at 0 ≡ n → 0 < n → n ≤ 63 → at + n < length p →
    label_run 0 (drop at p) ≡ label_then_run (take (n + 1) (drop at p)) (label_run 0 (drop (at + (n + 1)) p))
run_at-label p at n e h k m =
    ap (λ bs. label_run 0 bs) (drop-byte p at n e (omega arith)) ∙ run-label n (drop (at + 1) p) h k (omega (arith, length-drop (at + 1) p))
    ∙ ap (λ bs. label_then_run bs (label_run 0 (drop n (drop (at + 1) p)))) (sym (take-label p at n e (omega arith)))
    ∙ ap (λ bs. label_then_run (take (n + 1) (drop at p)) (label_run 0 bs)) (drop-label p at n)

-- a label with bytes missing
pub run_at-cut : (p : List ℕ) (at n : ℕ) → get_or p at 0 ≡ n → 0 < n → n ≤ 63 → at < length p → length p ≤ at + n →
    label_run 0 (drop at p) ≡ run_of_end (Break Short)
run_at-cut p at n e h k m o =
    ap (λ bs. label_run 0 bs) (drop-byte p at n e m) ∙ run-cut n (drop (at + 1) p) h k (omega (arith, length-drop (at + 1) p))

-- a length byte of 64 to 191
pub run_at-reserved : (p : List ℕ) (at n : ℕ) → get_or p at 0 ≡ n → at < length p → 63 < n → n < 192 → label_run 0 (drop at p) ≡ run_of_end (Break Label)
run_at-reserved p at n e m h k = ap (λ bs. label_run 0 bs) (drop-byte p at n e m) ∙ run-reserved n (drop (at + 1) p) h k

-- half a pointer
pub run_at-pointer_cut : (p : List ℕ) (at n : ℕ) → get_or p at 0 ≡ n → at + 1 ≡ length p → 191 < n → label_run 0 (drop at p) ≡ run_of_end (Break Short)
run_at-pointer_cut p at n e m h =
    ap (λ bs. label_run 0 bs) (drop-byte p at n e (omega arith)) ∙ run-pointer_cut n (drop (at + 1) p) h (omega (arith, length-drop (at + 1) p))

-- a pointer
pub run_at-pointer : (p : List ℕ) (at n : ℕ) → get_or p at 0 ≡ n → at + 1 < length p → 191 < n →
    label_run 0 (drop at p) ≡ run_of_end (Target ((n - 192) * 256 + get_or p (at + 1) 0))
run_at-pointer p at n e m h =
    let low : get_or (drop (at + 1) p) 0 0 ≡ get_or p (at + 1) 0 = get_or-drop (at + 1) p 0 0 ∙ ap (λ k. get_or p k 0) (add-zero (at + 1)) in
    ap (λ bs. label_run 0 bs) (drop-byte p at n e (omega arith)) ∙ run-pointer n (drop (at + 1) p) h (omega (arith, length-drop (at + 1) p))
    ∙ ap (λ b. run_of_end (Target ((n - 192) * 256 + b))) low
