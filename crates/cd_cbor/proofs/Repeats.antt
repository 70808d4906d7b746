-- One reading after the other, as a loop makes them. What is read of all goes on in some way.
use Rattle.std.proofs.Common.{◌≡◌, ℕ, suc, ◌-◌, ◌+◌, ◌≤◌, ◌<◌, List, [], ◌∷◌, ◌++◌, Result, Ok, Err, refl, ap, sym, ◌∙◌, append_assoc, arith}
use Rattle.std.proofs.lemmas.Bool.{eq-eqb, ne_eqb}
use Rattle.std.proofs.lemmas.List.{append-nil}
use Rattle.cd_cbor.specs.declared.fault.CborFault.{CborFault}
use Rattle.cd_cbor.specs.declared.fault.CborFault.TheVariants as fault
use Rattle.cd_cbor.specs.Readings.{Reading, ◌>>=◌, GivesFault, ends, byte_at, times, until_break}

-- values before what a reading gives
abbrev pub with_front : {A : Type 0} → List A → Reading (List A) → Reading (List A)
with_front front reading = do
  values ← reading
  Ok (front ++ values.0, values.1)

-- values before values before a reading
with_front-with_front : {A : Type 0} (front xs : List A) (reading : Reading (List A)) → with_front front (with_front xs reading) ≡ with_front (front ++ xs) reading
with_front-with_front front xs (Ok x) = rw (append_assoc front xs x.0) refl
with_front-with_front front xs (Err e) = refl

-- no values before a reading
pub with_front-nil : {A : Type 0} (reading : Reading (List A)) → with_front [] reading ≡ reading
with_front-nil (Ok x) = refl
with_front-nil (Err e) = refl

-- values before a reading of none
with_front-end : {A : Type 0} (front : List A) (at : ℕ) → with_front front (Ok ([], at)) ≡ Ok (front, at)
with_front-end front at = rw (append-nil front) refl

module _ {A B : Type 0} (read : ℕ → Reading A) (front : List A) (count i at : ℕ) (f : List A × ℕ → Result B CborFault) (total : Result B CborFault) where
  -- one more value of so many
  pub times_more : (x : A) (next : ℕ) → i < count → read at ≡ Ok (x, next) → (with_front front (times (count - i) read at) >>= f) ≡ total →
      (with_front (front ++ x ∷ []) (times (count - (i + 1)) read next) >>= f) ≡ total
  unfolding times
  times_more x next lt gives so_far =
      let k : count - i ≡ suc (count - (i + 1)) = omega arith in
      let one : with_front front (times (count - i) read at) ≡ with_front (front ++ x ∷ []) (times (count - (i + 1)) read next) =
      rw (k, gives) (with_front-with_front front (x ∷ []) (times (count - (i + 1)) read next)) in
      sym (ap (λ r. r >>= f) one) ∙ so_far

  -- one of them that fails
  pub times_fault : (e : CborFault) → i < count → GivesFault e (read at) → (with_front front (times (count - i) read at) >>= f) ≡ total → GivesFault e total
  unfolding times
  times_fault fault.NoMemory lt gives so_far = tt
  times_fault (fault.Bad place why) lt gives so_far =
      let k : count - i ≡ suc (count - (i + 1)) = omega arith in
      let one : (with_front front (times (count - i) read at) >>= f) ≡ Err (fault.Bad place why) = rw (k, gives) refl in
      sym so_far ∙ one

  -- after the last of them
  pub times_end : count ≤ i → (with_front front (times (count - i) read at) >>= f) ≡ total → total ≡ f (front, at)
  unfolding times
  times_end le so_far =
      let k : count - i ≡ 0 = omega arith in
      let one : (with_front front (times (count - i) read at) >>= f) ≡ f (front, at) = rw (k, append-nil front) refl in
      sym so_far ∙ one

-- before the first of so many
pub times_start : {A B : Type 0} (read : ℕ → Reading A) (count at : ℕ) (f : List A × ℕ → Result B CborFault) →
    (with_front [] (times (count - 0) read at) >>= f) ≡ (times count read at >>= f)
times_start read count at f = let k : count - 0 ≡ count = omega arith in rw k (ap (λ r. r >>= f) (with_front-nil (times count read at)))

module _ {A B P : Type 0} (offset : P → ℕ) (bytes : List ℕ) (read : P → Result (A × P) CborFault) (front : List A) (count i : ℕ) (place : P)
    (f : List A × ℕ → Result B CborFault) (total : Result B CborFault) where
  -- one more value before a break
  pub until_more : (first : ℕ) (x : A) (next : P) → i < count → byte_at (offset place) bytes ≡ Ok first → (first ≡ 255 → ⊥) → read place ≡ Ok (x, next) →
      (with_front front (until_break offset bytes (count - i) read place) >>= f) ≡ total →
      (with_front (front ++ x ∷ []) (until_break offset bytes (count - (i + 1)) read next) >>= f) ≡ total
  unfolding until_break
  until_more first x next lt there other gives so_far =
      let k : count - i ≡ suc (count - (i + 1)) = omega arith in
      let one : with_front front (until_break offset bytes (count - i) read place) ≡ with_front (front ++ x ∷ []) (until_break offset bytes (count - (i + 1)) read next) =
      rw (k, there, ne_eqb first 255 other, gives) (with_front-with_front front (x ∷ []) (until_break offset bytes (count - (i + 1)) read next)) in
      sym (ap (λ r. r >>= f) one) ∙ so_far

  -- one of them that fails
  pub until_fault : (e : CborFault) (first : ℕ) → i < count → byte_at (offset place) bytes ≡ Ok first → (first ≡ 255 → ⊥) → GivesFault e (read place) →
      (with_front front (until_break offset bytes (count - i) read place) >>= f) ≡ total → GivesFault e total
  unfolding until_break
  until_fault fault.NoMemory first lt there other gives so_far = tt
  until_fault (fault.Bad at why) first lt there other gives so_far =
      let k : count - i ≡ suc (count - (i + 1)) = omega arith in
      let one : (with_front front (until_break offset bytes (count - i) read place) >>= f) ≡ Err (fault.Bad at why) =
      rw (k, there, ne_eqb first 255 other, gives) refl in
      sym so_far ∙ one

  -- no byte is there
  pub until_no_byte : (e : CborFault) → i < count → GivesFault e (byte_at (offset place) bytes) →
      (with_front front (until_break offset bytes (count - i) read place) >>= f) ≡ total → GivesFault e total
  unfolding until_break
  until_no_byte fault.NoMemory lt none so_far = tt
  until_no_byte (fault.Bad at why) lt none so_far =
      let k : count - i ≡ suc (count - (i + 1)) = omega arith in
      let one : (with_front front (until_break offset bytes (count - i) read place) >>= f) ≡ Err (fault.Bad at why) = rw (k, none) refl in
      sym so_far ∙ one

  -- the break
  pub until_stop : (first : ℕ) → i < count → byte_at (offset place) bytes ≡ Ok first → first ≡ 255 →
      (with_front front (until_break offset bytes (count - i) read place) >>= f) ≡ total → total ≡ f (front, offset place + 1)
  unfolding until_break
  until_stop first lt there is so_far =
      let k : count - i ≡ suc (count - (i + 1)) = omega arith in
      let one : (with_front front (until_break offset bytes (count - i) read place) >>= f) ≡ f (front, offset place + 1) =
      rw (k, there, eq-eqb first 255 is, append-nil front) refl in
      sym so_far ∙ one

  -- no break among all of them
  pub until_none : count ≤ i → (with_front front (until_break offset bytes (count - i) read place) >>= f) ≡ total → total ≡ ends bytes
  unfolding until_break
  until_none le so_far =
      let k : count - i ≡ 0 = omega arith in
      let one : (with_front front (until_break offset bytes (count - i) read place) >>= f) ≡ ends bytes = rw k refl in
      sym so_far ∙ one

-- before the first
pub until_start : {A B P : Type 0} (offset : P → ℕ) (bytes : List ℕ) (read : P → Result (A × P) CborFault) (count : ℕ) (place : P) (f : List A × ℕ → Result B CborFault) →
    (with_front [] (until_break offset bytes (count - 0) read place) >>= f) ≡ (until_break offset bytes count read place >>= f)
until_start offset bytes read count place f =
    let k : count - 0 ≡ count = omega arith in rw k (ap (λ r. r >>= f) (with_front-nil (until_break offset bytes count read place)))
