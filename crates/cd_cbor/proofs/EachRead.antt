-- Values that are spelled one after the other are read.
use Rattle.std.proofs.Common.{◌≡◌, ℕ, zero, suc, ◌+◌, ◌<◌, ◌≤◌, List, [], ◌∷◌, ◌++◌, length, drop, Result, Ok, ap, ◌∙◌, arith, append_assoc, length-append}
use Rattle.std.proofs.lemmas.Bool.{ne_eqb}
use Rattle.cd_cbor.specs.Spells.{Each}
use Rattle.cd_cbor.specs.Readings.{Reading, byte_at, times, until_break}
use Rattle.cd_cbor.specs.declared.fault.CborFault.{CborFault}
use Rattle.cd_cbor.proofs.Offsets.{drop_on, first_is}
use Rattle.cd_cbor.proofs.HeadsRead.{Begins}

-- a reader reads what is spelled so, wherever it stands
abbrev pub Reads : {A : Type 0} → (A → List ℕ → Type 0) → List ℕ → (ℕ → Reading A) → Type 0
Reads {A} Spelled bytes read = (at : ℕ) (x : A) (s rest : List ℕ) → drop at bytes ≡ s ++ rest → Spelled x s → read at ≡ Ok (x, at + length s)

-- what is spelled so begins, and not with a break
abbrev pub AllBegin : {A : Type 0} → (A → List ℕ → Type 0) → Type 0
AllBegin {A} Spelled = (x : A) (s : List ℕ) → Spelled x s → Begins s

-- bytes in two parts at an offset
split_rest : (at : ℕ) (bytes s first more rest : List ℕ) → drop at bytes ≡ s ++ rest → s ≡ first ++ more → drop at bytes ≡ first ++ (more ++ rest)
split_rest at bytes s first more rest e is = e ∙ ap (λ t. t ++ rest) is ∙ append_assoc first more rest

-- so many
pub times_reads : {A : Type 0} (Spelled : A → List ℕ → Type 0) (bytes : List ℕ) (read : ℕ → Reading A) → Reads Spelled bytes read →
    (xs : List A) (at : ℕ) (s rest : List ℕ) → drop at bytes ≡ s ++ rest → Each Spelled xs s → times (length xs) read at ≡ Ok (xs, at + length s)
unfolding times
times_reads Spelled bytes read each [] at s rest e has =
    let none : at ≡ at + length s = let z : length s ≡ 0 = ap length has in omega arith in ap (λ n. Ok ([], n)) none
times_reads Spelled bytes read each (x ∷ xs) at s rest e has =
    let first : List ℕ = has.0 in
    let more : List ℕ = has.1 in
    let here : drop at bytes ≡ first ++ (more ++ rest) = split_rest at bytes s first more rest e has.2 in
    let one = each at x first (more ++ rest) here has.3 in
    let others = times_reads Spelled bytes read each xs (at + length first) more rest (drop_on at bytes first (more ++ rest) here) has.4 in
    let sum : at + length first + length more ≡ at + length s = let l : length s ≡ length (first ++ more) = ap length has.2 in omega (arith, length-append first more) in
    rw (one, others) (ap (λ n. Ok (x ∷ xs, n)) sum)

-- what one reading does of those before a break
pub record Step {A P : Type 0} (offset : P → ℕ) (bytes : List ℕ) (read : P → Result (A × P) CborFault) (Fits : P → List A → Type 0) (place : P) (x : A) (xs : List A)
    (s : List ℕ) : Type 0 where
  pub begins : Begins s
  pub next : P
  pub gives : read place ≡ Ok (x, next)
  pub on : offset next ≡ offset place + length s
  pub fits : Fits next xs

-- up to a break
pub until_reads : {A P : Type 0} (Spelled : A → List ℕ → Type 0) (offset : P → ℕ) (bytes : List ℕ) (read : P → Result (A × P) CborFault) (Fits : P → List A → Type 0) →
    ((place : P) (x : A) (xs : List A) (s rest : List ℕ) → drop (offset place) bytes ≡ s ++ rest → Spelled x s → Fits place (x ∷ xs) → Step offset bytes read Fits place x xs s) →
    (xs : List A) (left : ℕ) (place : P) (s rest : List ℕ) → length xs < left → drop (offset place) bytes ≡ s ++ 255 ∷ rest → Each Spelled xs s → Fits place xs →
    until_break offset bytes left read place ≡ Ok (xs, offset place + length s + 1)
unfolding until_break
until_reads Spelled offset bytes read Fits each xs zero place s rest few e has fits = absurd (omega arith)
until_reads Spelled offset bytes read Fits each [] (suc left) place s rest few e has fits =
    let here : drop (offset place) bytes ≡ 255 ∷ rest = e ∙ ap (λ t. t ++ 255 ∷ rest) has in
    let none : offset place + 1 ≡ offset place + length s + 1 = let z : length s ≡ 0 = ap length has in omega arith in
    rw (first_is (offset place) bytes 255 rest here) (ap (λ n. Ok ([], n)) none)
until_reads {A} {P} Spelled offset bytes read Fits each (x ∷ xs) (suc left) place s rest few e has fits =
    let first : List ℕ = has.0 in
    let more : List ℕ = has.1 in
    let here : drop (offset place) bytes ≡ first ++ (more ++ 255 ∷ rest) = split_rest (offset place) bytes s first more (255 ∷ rest) e has.2 in
    let st : Step offset bytes read Fits place x xs first = each place x xs first (more ++ 255 ∷ rest) here has.3 fits in
    let b : Begins first = st.begins in
    let there : byte_at (offset place) bytes ≡ Ok b.0 = first_is (offset place) bytes b.0 (b.1 ++ (more ++ 255 ∷ rest)) (here ∙ ap (λ t. t ++ (more ++ 255 ∷ rest)) b.2) in
    let after : drop (offset st.next) bytes ≡ more ++ 255 ∷ rest = ap (λ n. drop n bytes) st.on ∙ drop_on (offset place) bytes first (more ++ 255 ∷ rest) here in
    let others = until_reads Spelled offset bytes read Fits each xs left st.next more rest (omega arith) after has.4 st.fits in
    let sum : offset st.next + length more + 1 ≡ offset place + length s + 1 =
    let l : length s ≡ length (first ++ more) = ap length has.2 in omega (arith, st.on, length-append first more) in
    rw (there, ne_eqb b.0 255 b.3, st.gives, others) (ap (λ n. Ok (x ∷ xs, n)) sum)

-- there are no more of them than bytes
pub each_length : {A : Type 0} (Spelled : A → List ℕ → Type 0) → AllBegin Spelled → (xs : List A) (s : List ℕ) → Each Spelled xs s → length xs ≤ length s
each_length Spelled begin [] s has = omega arith
each_length Spelled begin (x ∷ xs) s has =
    let b : Begins has.0 = begin x has.0 has.3 in
    let some : length has.0 ≡ length (b.0 ∷ b.1) = ap length b.2 in
    let long : length s ≡ length (has.0 ++ has.1) = ap length has.2 in
    let rest : length xs ≤ length has.1 = each_length Spelled begin xs has.1 has.4 in
    omega (arith, length-append has.0 has.1)
