-- What the first byte of a run says.
use Rattle.std.proofs.Common.{◌≡◌, ℕ, zero, suc, ◌+◌, ◌-◌, ◌*◌, ◌<◌, ◌≤◌, List, [], ◌∷◌, length, take, drop, get_or, refl, ap, arith}
use Rattle.std.proofs.lemmas.Bool.{le-ltb, lt-ltb, eq-eqb, ne_eqb}
use Rattle.cd_name.specs.Names.{Root, Target, Break, run_of_end, label_then_run, label_run}
use Rattle.cd_name.specs.declared.fault.NameWhy.TheVariants.{Short, Label}

-- after the rest of a label the run goes on
run-inside : (inside : ℕ) (bytes : List ℕ) → inside ≤ length bytes → label_run inside bytes ≡ label_run 0 (drop inside bytes)
unfolding label_run
run-inside zero bytes h = refl
run-inside (suc k) [] h = absurd (omega arith)
run-inside (suc k) (b ∷ bytes) h = run-inside k bytes (omega arith)

-- no byte
pub run-none : label_run 0 [] ≡ run_of_end (Break Short)
unfolding label_run
run-none = refl

-- a length byte 0
pub run-root : (n : ℕ) (bytes : List ℕ) → n ≡ 0 → label_run 0 (n ∷ bytes) ≡ run_of_end Root
unfolding label_run
run-root n bytes h = rw (eq-eqb n 0 h) refl

-- a label whose bytes are there
pub run-label : (n : ℕ) (bytes : List ℕ) → 0 < n → n ≤ 63 → n ≤ length bytes →
    label_run 0 (n ∷ bytes) ≡ label_then_run (n ∷ take n bytes) (label_run 0 (drop n bytes))
unfolding label_run
run-label n bytes h k m =
    rw (ne_eqb n 0 (λ e. omega arith), le-ltb 191 n (omega arith), le-ltb 63 n k, le-ltb (length bytes) n m)
    (ap (λ r. label_then_run (n ∷ take n bytes) r) (run-inside n bytes m))

-- a label with bytes missing
pub run-cut : (n : ℕ) (bytes : List ℕ) → 0 < n → n ≤ 63 → length bytes < n → label_run 0 (n ∷ bytes) ≡ run_of_end (Break Short)
unfolding label_run
run-cut n bytes h k m =
    rw (ne_eqb n 0 (λ e. omega arith), le-ltb 191 n (omega arith), le-ltb 63 n k, lt-ltb (length bytes) n m) refl

-- a length byte of 64 to 191
pub run-reserved : (n : ℕ) (bytes : List ℕ) → 63 < n → n < 192 → label_run 0 (n ∷ bytes) ≡ run_of_end (Break Label)
unfolding label_run
run-reserved n bytes h k =
    rw (ne_eqb n 0 (λ e. omega arith), le-ltb 191 n (omega arith), lt-ltb 63 n h) refl

-- half a pointer
pub run-pointer_cut : (n : ℕ) (bytes : List ℕ) → 191 < n → length bytes ≡ 0 → label_run 0 (n ∷ bytes) ≡ run_of_end (Break Short)
unfolding label_run
run-pointer_cut n bytes h k =
    rw (ne_eqb n 0 (λ e. omega arith), lt-ltb 191 n h, eq-eqb (length bytes) 0 k) refl

-- a pointer
pub run-pointer : (n : ℕ) (bytes : List ℕ) → 191 < n → 0 < length bytes →
    label_run 0 (n ∷ bytes) ≡ run_of_end (Target ((n - 192) * 256 + get_or bytes 0 0))
unfolding label_run
run-pointer n bytes h k =
    rw (ne_eqb n 0 (λ e. omega arith), lt-ltb 191 n h, ne_eqb (length bytes) 0 (λ e. omega arith)) refl
