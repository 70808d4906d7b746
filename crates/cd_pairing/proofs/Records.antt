-- What is released stays.
use Rattle.std.proofs.Common.{◌≡◌, ℕ, zero, suc, ◌+◌, ◌<◌, ◌≤◌, Bool, true, false, ltb, List, [], ◌∷◌, ◌++◌, length, take, drop, Option, Some, None, refl, ap, sym, ◌∙◌, subst, arith, inl, inr, length-append, cond}
use Rattle.std.proofs.lemmas.Bool.{cases_lt, true≢false}
use Rattle.std.proofs.lemmas.List.{take-append-drop, ext_get_or, get_or-take, length-take-le, take-take}
use Rattle.cd_pairing.specs.declared.keyed.Windows.{Windows}
use Rattle.cd_pairing.specs.Events.{EventView}
use Rattle.cd_pairing.specs.Pairing.{IsPairing}
use Rattle.cd_pairing.specs.Settling.{is_settled, settled_count_from, settled_count, AreHeavy}
use Rattle.cd_pairing.specs.Records.{Record, pair, single, records_from, BeginsWith, ReleasedStay}
use Rattle.cd_pairing.proofs.Settling.{settled_stays, settled_grows}

-- each position below the count is settled
settled_step : (f : ℕ → Bool) (i left k : ℕ) → ((j : ℕ) → suc i ≤ j → j < suc i + settled_count_from f (suc i) left → f j ≡ true) → (b : Bool) → f i ≡ b → i ≤ k → k < i + cond b (1 + settled_count_from f (suc i) left) 0 → f k ≡ true
settled_step f i left k later true e low high =
    elim (cases_lt i k) [
      | inl h ↦ later k (omega arith) (omega arith)
      | inr h ↦ let same : i ≡ k = omega arith in subst (λ (x : ℕ). f x ≡ true) same e
    ]
settled_step f i left k later false e low high = absurd (omega arith)

pub settled_all : (f : ℕ → Bool) (left i k : ℕ) → i ≤ k → k < i + settled_count_from f i left → f k ≡ true
settled_all f zero i k low high = absurd (omega arith)
settled_all f (suc left) i k low high = settled_step f i left k (λ j a b. settled_all f left (suc i) j a b) (f i) refl low high

settled_le_at : (b : Bool) (left m : ℕ) → m ≤ left → cond b (1 + m) 0 ≤ suc left
settled_le_at true left m h = omega arith
settled_le_at false left m h = omega arith

pub settled_le : (f : ℕ → Bool) (left i : ℕ) → settled_count_from f i left ≤ left
settled_le f zero i = omega arith
settled_le f (suc left) i = settled_le_at (f i) left (settled_count_from f (suc i) left) (settled_le f left (suc i))

led : (b : Bool) (r : Record) (all front back : List Record) → all ≡ front ++ back → cond b (r ∷ all) all ≡ cond b (r ∷ front) front ++ back
led true r all front back e = ap (λ (t : List Record). r ∷ t) e
led false r all front back e = e

pub records-append : (i : ℕ) (a b : List (Option ℕ)) → records_from i (a ++ b) ≡ records_from i a ++ records_from (i + length a) b
records-append i [] b = let e : i ≡ i + 0 = omega arith in ap (λ (k : ℕ). records_from k b) e
records-append i (None ∷ a) b =
    let e : suc i + length a ≡ i + suc (length a) = omega arith in
    ap (λ (t : List Record). single i ∷ t) (records-append (suc i) a b ∙ ap (λ (k : ℕ). records_from (suc i) a ++ records_from k b) e)
records-append i (Some j ∷ a) b =
    let e : suc i + length a ≡ i + suc (length a) = omega arith in
    let rest : records_from (suc i) (a ++ b) ≡ records_from (suc i) a ++ records_from (i + suc (length a)) b =
    records-append (suc i) a b ∙ ap (λ (k : ℕ). records_from (suc i) a ++ records_from k b) e in
    led (ltb i j) (pair i j) (records_from (suc i) (a ++ b)) (records_from (suc i) a) (records_from (i + suc (length a)) b) rest

front_same : (windows : Windows) (events more : List EventView) (p q : List (Option ℕ)) → AreHeavy (events ++ more) → IsPairing windows events p → IsPairing windows (events ++ more) q →
    take (settled_count windows events p) q ≡ take (settled_count windows events p) p
front_same windows events more p q heavy P Q =
    let n : ℕ = length events in
    let f : ℕ → Bool = is_settled windows events p in
    let m : ℕ = settled_count_from f 0 n in
    let le : m ≤ n = settled_le f n 0 in
    let lq : length (take m q) ≡ m = length-take-le m q (omega (arith, Q.total, length-append events more)) in
    let lp : length (take m p) ≡ m = length-take-le m p (omega (arith, P.total)) in
    ext_get_or None (take m q) (take m p) (lq ∙ sym lp) (λ i h.
    let lt : i < m = omega arith in
    get_or-take m q i None lt
    ∙ settled_stays windows events more p q heavy P Q i (omega arith) (settled_all f n 0 i (omega arith) (omega arith))
    ∙ sym (get_or-take m p i None lt))

-- as many as are settled in the shorter list are settled in the longer one
settled_least_at : (f : ℕ → Bool) (i left m : ℕ) → (b : Bool) → f i ≡ b → ((j : ℕ) → i ≤ j → j < i + suc m → f j ≡ true) → m ≤ settled_count_from f (suc i) left → suc m ≤ cond b (1 + settled_count_from f (suc i) left) 0
settled_least_at f i left m true e all le = omega arith
settled_least_at f i left m false e all le = absurd (true≢false (sym (all i (omega arith) (omega arith)) ∙ e))

pub settled_least : (f : ℕ → Bool) (left i m : ℕ) → m ≤ left → ((j : ℕ) → i ≤ j → j < i + m → f j ≡ true) → m ≤ settled_count_from f i left
settled_least f left i zero le all = omega arith
settled_least f zero i (suc m) le all = absurd (omega arith)
settled_least f (suc left) i (suc m) le all =
    settled_least_at f i left m (f i) refl all (settled_least f left (suc i) m (omega arith) (λ j a b. all j (omega arith) (omega arith)))

count_grows : (windows : Windows) (events more : List EventView) (p q : List (Option ℕ)) → AreHeavy (events ++ more) → IsPairing windows events p → IsPairing windows (events ++ more) q →
    settled_count windows events p ≤ settled_count windows (events ++ more) q
count_grows windows events more p q heavy P Q =
    let f : ℕ → Bool = is_settled windows events p in
    let m : ℕ = settled_count windows events p in
    let le : m ≤ length events = settled_le f (length events) 0 in
    settled_least (is_settled windows (events ++ more) q) (length (events ++ more)) 0 m (omega (arith, length-append events more))
    (λ j a b. settled_grows windows events more p q heavy P Q j (omega arith) (settled_all f (length events) 0 j (omega arith) (omega arith)))

-- a front of the partners tells a front of the records
pub front_told : (m : ℕ) (p q : List (Option ℕ)) → take m q ≡ take m p → BeginsWith (records_from 0 (take m p)) (records_from 0 q)
front_told m p q e = record {
  rest = records_from (0 + length (take m q)) (drop m q);
  whole = ap (records_from 0) (sym (take-append-drop m q)) ∙ records-append 0 (take m q) (drop m q)
      ∙ ap (λ (t : List (Option ℕ)). records_from 0 t ++ records_from (0 + length (take m q)) (drop m q)) e;
}

pub released_stay : ReleasedStay
released_stay windows events more p q heavy P Q =
    let m : ℕ = settled_count windows events p in
    let k : ℕ = settled_count windows (events ++ more) q in
    let le : m ≤ k = count_grows windows events more p q heavy P Q in
    let same : take m q ≡ take m p = front_same windows events more p q heavy P Q in
    record {
      released = front_told m p (take k q) (take-take m k q le ∙ same);
      all = front_told m p q same;
    }
