-- The sum of the words of joined bytes.
use Rattle.std.proofs.Common.{◌≡◌, ℕ, ◌+◌, ◌*◌, ◌%◌, min, List, [], ◌∷◌, ◌++◌, length, take, drop, sum, ap, arith, add_assoc, add_comm, sym, ◌∙◌, inl, inr}
use Rattle.std.proofs.lemmas.Bool.{cases_lt}
use Rattle.std.proofs.lemmas.List.{take_all, drop_all, length-take, take-append-drop}
use Rattle.std.proofs.lemmas.List.Sums.{sum_by-cons}
use Rattle.cd_bytes.specs.Checksum.{words, carried}
use Rattle.cd_bytes.proofs.Carrying.{carried-carried}

-- the sum of a first number and others
sum-cons : (n : ℕ) (numbers : List ℕ) → sum (n ∷ numbers) ≡ n + sum numbers
sum-cons n numbers = sum_by-cons (λ n. n) n numbers

-- After an even number of bytes the words go on.
pub sum-words-append : (first second : List ℕ) → length first % 2 ≡ 0 → sum (words (first ++ second)) ≡ sum (words first) + sum (words second)
sum-words-append [] second even = omega arith
sum-words-append (last ∷ []) second even = absurd (omega arith)
sum-words-append (high ∷ low ∷ rest) second even =
    let word = 0x100 * high + low in
    omega (arith, sum-words-append rest second (omega arith), sum-cons word (words rest), sum-cons word (words (rest ++ second)))

-- The sum of the words of a front, and of what is after it.
sum-words-split : (count : ℕ) (bytes : List ℕ) → count ≡ min (length bytes) 0x1_0000_0000 → sum (words (take count bytes)) + sum (words (drop count bytes)) ≡ sum (words bytes)
sum-words-split count bytes size =
    elim (cases_lt 0x1_0000_0000 (length bytes)) [
      | inl longer ↦
          let even : length (take count bytes) % 2 ≡ 0 = omega (arith, length-take count bytes) in
          sym (sum-words-append (take count bytes) (drop count bytes) even) ∙ ap (λ all. sum (words all)) (take-append-drop count bytes)
      | inr shorter ↦ rw (take_all count bytes (omega arith), drop_all count bytes (omega arith)) (omega arith)
    ]

-- One piece more is summed.
pub sums_on : (rest block tail : List ℕ) (count total new : ℕ) → count ≡ min (length rest) 0x1_0000_0000 → block ≡ take count rest → tail ≡ drop count rest → new ≡ carried (total + sum (words block)) → carried (new + sum (words tail)) ≡ carried (total + sum (words rest))
sums_on rest block tail count total new size front back is =
    let split : sum (words block) + sum (words tail) ≡ sum (words rest) = rw (front, back) (sum-words-split count rest size) in
    ap (λ n. carried (n + sum (words tail))) is
    ∙ carried-carried (total + sum (words block)) (sum (words tail))
    ∙ ap carried (add_assoc total (sum (words block)) (sum (words tail)) ∙ ap (λ n. total + n) split)

-- The sum of joined bytes is that of each, and one carry more.
pub sums_joined : (first second : List ℕ) (m n all : ℕ) → length first % 2 ≡ 0 → m ≡ carried (sum (words first)) → n ≡ carried (sum (words second)) → all ≡ carried (m + n) → all ≡ carried (sum (words (first ++ second)))
sums_joined first second m n all even m_is n_is all_is =
    let a = sum (words first) in
    let b = sum (words second) in
    let inner : carried (carried b + a) ≡ carried (b + a) = carried-carried b a in
    let outer : carried (carried a + carried b) ≡ carried (a + carried b) = carried-carried a (carried b) in
    let turned : carried (a + carried b) ≡ carried (carried b + a) = ap carried (add_comm a (carried b)) in
    let back : carried (b + a) ≡ carried (a + b) = ap carried (add_comm b a) in
    let joined : sum (words (first ++ second)) ≡ a + b = sum-words-append first second even in
    all_is ∙ ap (λ k. carried (k + n)) m_is ∙ ap (λ k. carried (carried a + k)) n_is ∙ outer ∙ turned ∙ inner ∙ back ∙ sym (ap carried joined)
