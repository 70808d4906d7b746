-- What a reading tells of the bytes that it read.
use Rattle.std.proofs.Common.{◌≡◌, ℕ, zero, suc, ◌+◌, ◌*◌, ◌/◌, ◌%◌, ◌^◌, ◌<◌, ◌≤◌, List, [], ◌∷◌, ◌++◌, length, drop, get_or, Result, Ok, inl, inr, refl, ap, sym, subst, ◌∙◌, arith, append_assoc, length-append}
use Rattle.std.specs.Prelude.{nat_lt, nat_eq, slice_index, All}
use Rattle.std.specs.Int.{from_be_bytes, w16, w32, w64}
use Rattle.std.proofs.lemmas.Bool.{cases_Bool, cases_lt, lt-ltb, le-ltb, ltb-true, ltb-false, eqb-true}
use Rattle.std.proofs.lemmas.List.{drop-drop, length-drop, length-take, take-append-drop, get_or_past}
use Rattle.std.proofs.lemmas.List.Elements.{All-get_or, All-take, All-drop}
use Rattle.std.proofs.Math.Seq.{drop-cons}
use Rattle.cd_cbor.specs.MajorTypes.{major_number}
use Rattle.cd_cbor.specs.Heads.{IsHead, major_type, argument_size, argument_of}
use Rattle.cd_cbor.specs.Spells.{Each}
use Rattle.cd_cbor.specs.Readings.{Reading, byte_at, piece, times, until_break}
use Rattle.cd_cbor.specs.Reading.{argument_at}
use Rattle.cd_cbor.proofs.Binds.{bind_ok, ok_same, not_ok, if_ok_else, if_err_else}
use Rattle.cd_cbor.specs.declared.fault.CborFault.{CborFault}

-- a value is spelled between two offsets
pub record Stands {A : Type 0} (Spelled : A → List ℕ → Type 0) (bytes : List ℕ) (at : ℕ) (x : A) (next : ℕ) : Type 0 where
  pub s : List ℕ
  pub has : Spelled x s
  pub is : drop at bytes ≡ s ++ drop next bytes
  pub ends : next ≡ at + length s

-- what a reader reads stands there
abbrev pub IsSound : {A : Type 0} → (A → List ℕ → Type 0) → List ℕ → (ℕ → Reading A) → Type 0
IsSound {A} Spelled bytes read = (at : ℕ) (x : A) (next : ℕ) → read at ≡ Ok (x, next) → Stands Spelled bytes at x next

-- a byte that is read stands there
pub byte_there : (at : ℕ) (bytes : List ℕ) (first : ℕ) → byte_at at bytes ≡ Ok first → (at < length bytes) × (drop at bytes ≡ first ∷ drop (at + 1) bytes) × (slice_index bytes at ≡ first)
unfolding byte_at
byte_there at bytes first h =
    let test = if_ok_else (nat_lt at (length bytes)) _ _ first h in
    let within : at < length bytes = ltb-true at (length bytes) test.0 in
    let value : slice_index bytes at ≡ first = ok_same (slice_index bytes at) first test.1 in
    let next : suc at ≡ at + 1 = omega arith in
    (within, drop-cons bytes at 0 within ∙ ap (λ b. b ∷ drop (suc at) bytes) value ∙ ap (λ n. first ∷ drop n bytes) next, value)

-- it is a byte
pub byte_small : (at : ℕ) (bytes : List ℕ) (first : ℕ) → All (λ byte. byte < 256) bytes → byte_at at bytes ≡ Ok first → first < 256
byte_small at bytes first all h =
    let there = byte_there at bytes first h in
    subst (λ b. b < 256) there.2 (All-get_or (λ byte. byte < 256) bytes at 0 there.0 all)

-- a major type has its number
pub number_of_type : (n : ℕ) → n < 8 → major_number (major_type n) ≡ n
unfolding major_type
number_of_type zero h = refl
number_of_type (suc zero) h = refl
number_of_type (suc (suc zero)) h = refl
number_of_type (suc (suc (suc zero))) h = refl
number_of_type (suc (suc (suc (suc zero)))) h = refl
number_of_type (suc (suc (suc (suc (suc zero))))) h = refl
number_of_type (suc (suc (suc (suc (suc (suc zero)))))) h = refl
number_of_type (suc (suc (suc (suc (suc (suc (suc zero))))))) h = refl
number_of_type (suc (suc (suc (suc (suc (suc (suc (suc n)))))))) h = absurd (omega arith)

-- all elements of a list of bytes, and what is past its end, are below 256
bytes_small : (xs : List ℕ) → All (λ byte. byte < 256) xs → (i : ℕ) → get_or xs i 0 < 256
bytes_small xs all i =
    elim (cases_lt i (length xs)) [
      | inl within ↦ All-get_or (λ byte. byte < 256) xs i 0 within all
      | inr past ↦ let none : get_or xs i 0 ≡ 0 = get_or_past xs i 0 past in omega arith
    ]

two_small : (xs : List ℕ) → ((i : ℕ) → get_or xs i 0 < 256) → from_be_bytes w16 xs < 2 ^ 64
two_small xs small = omega (arith, small 0, small 1)

four_small : (xs : List ℕ) → ((i : ℕ) → get_or xs i 0 < 256) → from_be_bytes w32 xs < 2 ^ 64
four_small xs small = omega (arith, small 0, small 1, small 2, small 3)

eight_small : (xs : List ℕ) → ((i : ℕ) → get_or xs i 0 < 256) → from_be_bytes w64 xs < 2 ^ 64
eight_small xs small = omega (arith, small 0, small 1, small 2, small 3, small 4, small 5, small 6, small 7)

-- an argument has at most 64 bits
argument_small : (info : ℕ) (xs : List ℕ) → All (λ byte. byte < 256) xs → argument_of info xs < 2 ^ 64
unfolding argument_of
argument_small info xs all =
    let small : (i : ℕ) → get_or xs i 0 < 256 = bytes_small xs all in
    elim (cases_lt info 24) [
      | inl a ↦ rw (lt-ltb info 24 a) (omega arith)
      | inr a ↦ elim (cases_lt info 25) [
        | inl b ↦ rw (le-ltb info 24 a, lt-ltb info 25 b) (omega (arith, small 0))
        | inr b ↦ elim (cases_lt info 26) [
          | inl d ↦ rw (le-ltb info 24 a, le-ltb info 25 b, lt-ltb info 26 d) (two_small xs small)
          | inr d ↦ elim (cases_lt info 27) [
            | inl e ↦ rw (le-ltb info 24 a, le-ltb info 25 b, le-ltb info 26 d, lt-ltb info 27 e) (four_small xs small)
            | inr e ↦ rw (le-ltb info 24 a, le-ltb info 25 b, le-ltb info 26 d, le-ltb info 27 e) (eight_small xs small)
          ]
        ]
      ]
    ]

-- so many bytes, and those after them
pub piece_there : (at size : ℕ) (bytes : List ℕ) → at + size ≤ length bytes → (drop at bytes ≡ piece at size bytes ++ drop (at + size) bytes) × (length (piece at size bytes) ≡ size)
piece_there at size bytes within =
    let long : size ≤ length (drop at bytes) = omega (arith, length-drop at bytes) in
    (sym (take-append-drop size (drop at bytes)) ∙ ap (λ t. piece at size bytes ++ t) (drop-drop size at bytes), simp length-take (omega arith))

-- a head that is read stands there
pub head_there : (at : ℕ) (bytes : List ℕ) (first n next : ℕ) → All (λ byte. byte < 256) bytes → byte_at at bytes ≡ Ok first → first % 32 < 28 →
    argument_at (first % 32) at bytes ≡ Ok (n, next) → Stands (IsHead (major_type (first / 32))) bytes at n next
unfolding argument_at
head_there at bytes first n next all there low h =
    let info : ℕ = first % 32 in
    let size : ℕ = argument_size info in
    let b = byte_there at bytes first there in
    let small : first < 256 = byte_small at bytes first all there in
    let test = if_err_else (nat_lt (length bytes) (at + 1 + size)) _ _ (n, next) h in
    let within : at + 1 + size ≤ length bytes = ltb-false (length bytes) (at + 1 + size) test.0 in
    let both = ok_same _ (n, next) test.1 in
    let p = piece_there (at + 1) size bytes within in
    let after : List ℕ = piece (at + 1) size bytes in
    let end : at + 1 + size ≡ next = ap (λ x. x.1) both in
    let number : major_number (major_type (first / 32)) ≡ first / 32 = number_of_type (first / 32) (omega arith) in
    let value : argument_of info after ≡ n = ap (λ x. x.0) both in
    let byte : first ≡ 32 * major_number (major_type (first / 32)) + info = omega arith in
    record {
      s = first ∷ after;
      has = record {
        small = subst (λ k. k < 2 ^ 64) value (argument_small info after (All-take (λ byte. byte < 256) size (drop (at + 1) bytes) (All-drop (λ byte. byte < 256) (at + 1) bytes all)));
        info = info;
        after = after;
        definite = low;
        long = p.1;
        whole = ap (λ k. k ∷ after) byte;
        value = value;
      };
      is = b.1 ∙ ap (λ t. first ∷ t) (p.0 ∙ ap (λ k. after ++ drop k bytes) end);
      ends = omega (arith, p.1);
    }

-- so many values
pub times_sound : {A : Type 0} (Spelled : A → List ℕ → Type 0) (bytes : List ℕ) (read : ℕ → Reading A) → IsSound Spelled bytes read →
    (count at : ℕ) (xs : List A) (next : ℕ) → times count read at ≡ Ok (xs, next) → (length xs ≡ count) × Stands (Each Spelled) bytes at xs next
unfolding times
times_sound {A} Spelled bytes read sound zero at xs next h =
    let both = ok_same ([], at) (xs, next) h in
    let none : [] ≡ xs = ap (λ x. x.0) both in
    let end : at ≡ next = ap (λ x. x.1) both in
    let same : next ≡ at + length {A = ℕ} [] = omega arith in
    (ap length (sym none), record { s = []; has = subst (λ ys. Each Spelled ys []) none refl; is = ap (λ k. drop k bytes) end; ends = same })
times_sound {A} Spelled bytes read sound (suc count) at xs next h =
    let one = bind_ok (read at) _ (xs, next) h in
    let more = bind_ok (times count read one.0.1) _ (xs, next) one.2 in
    let both = ok_same (one.0.0 ∷ more.0.0, more.0.1) (xs, next) more.2 in
    let whole : one.0.0 ∷ more.0.0 ≡ xs = ap (λ x. x.0) both in
    let end : more.0.1 ≡ next = ap (λ x. x.1) both in
    let a = sound at one.0.0 one.0.1 one.1 in
    let b = times_sound Spelled bytes read sound count one.0.1 more.0.0 more.0.1 more.1 in
    let long : length xs ≡ suc count = ap length (sym whole) ∙ ap suc b.0 in
    let bs = b.1 in (
      long,
      record {
        s = a.s ++ bs.s;
        has = subst (λ ys. Each Spelled ys (a.s ++ bs.s)) whole (a.s, bs.s, refl, a.has, bs.has);
        is = a.is ∙ ap (λ t. a.s ++ t) bs.is ∙ sym (append_assoc a.s bs.s (drop more.0.1 bytes)) ∙ ap (λ k. (a.s ++ bs.s) ++ drop k bytes) end;
        ends = omega (arith, a.ends, bs.ends, length-append a.s bs.s);
      },
    )

-- values that stand before a break
pub record Before {A P : Type 0} (Spelled : A → List ℕ → Type 0) (Fits : P → List A → Type 0) (bytes : List ℕ) (place : P) (at : ℕ) (xs : List A) (next : ℕ) : Type 0 where
  pub end : ℕ
  pub stands : Stands (Each Spelled) bytes at xs end
  pub stops : drop end bytes ≡ 255 ∷ drop next bytes
  pub ends : next ≡ end + 1
  pub fits : Fits place xs

-- what one reading of those before a break tells
pub record Told {A P : Type 0} (Spelled : A → List ℕ → Type 0) (offset : P → ℕ) (Fits : P → List A → Type 0) (bytes : List ℕ) (place : P) (x : A) (next : P) : Type 0 where
  pub stands : Stands Spelled bytes (offset place) x (offset next)
  pub fits : Fits next []
  pub before : (xs : List A) → Fits next xs → Fits place (x ∷ xs)

pub until_sound : {A P : Type 0} (Spelled : A → List ℕ → Type 0) (offset : P → ℕ) (bytes : List ℕ) (read : P → Result (A × P) CborFault) (Fits : P → List A → Type 0) →
    ((place : P) (x : A) (next : P) → Fits place [] → read place ≡ Ok (x, next) → Told Spelled offset Fits bytes place x next) →
    (left : ℕ) (place : P) (xs : List A) (next : ℕ) → Fits place [] → until_break offset bytes left read place ≡ Ok (xs, next) →
    Before Spelled Fits bytes place (offset place) xs next
unfolding until_break
until_sound Spelled offset bytes read Fits each zero place xs next fits h = absurd (not_ok _ (xs, next) h)
until_sound {A} {P} Spelled offset bytes read Fits each (suc left) place xs next fits h =
    let byte = bind_ok (byte_at (offset place) bytes) _ (xs, next) h in
    let there = byte_there (offset place) bytes byte.0 byte.1 in
    elim (cases_Bool (nat_eq byte.0 255)) [
      | inl stop ↦
          let both = ok_same ([], offset place + 1) (xs, next) (rw stop at byte.2) in
          let none : [] ≡ xs = ap (λ x. x.0) both in
          let after : offset place + 1 ≡ next = ap (λ x. x.1) both in
          let is : byte.0 ≡ 255 = eqb-true byte.0 255 stop in
          let same : offset place ≡ offset place + length {A = ℕ} [] = omega arith in
          record {
            end = offset place;
            stands = record { s = []; has = subst (λ ys. Each Spelled ys []) none refl; is = refl; ends = same };
            stops = there.1 ∙ ap (λ b. b ∷ drop (offset place + 1) bytes) is ∙ ap (λ k. 255 ∷ drop k bytes) after;
            ends = sym after;
            fits = subst (λ ys. Fits place ys) none fits;
          }
      | inr on ↦
          let one = bind_ok (read place) _ (xs, next) (rw on at byte.2) in
          let more = bind_ok (until_break offset bytes left read one.0.1) _ (xs, next) one.2 in
          let both = ok_same (one.0.0 ∷ more.0.0, more.0.1) (xs, next) more.2 in
          let whole : one.0.0 ∷ more.0.0 ≡ xs = ap (λ x. x.0) both in
          let after : more.0.1 ≡ next = ap (λ x. x.1) both in
          let told : Told Spelled offset Fits bytes place one.0.0 one.0.1 = each place one.0.0 one.0.1 fits one.1 in
          let rest : Before Spelled Fits bytes one.0.1 (offset one.0.1) more.0.0 more.0.1 =
          until_sound Spelled offset bytes read Fits each left one.0.1 more.0.0 more.0.1 told.fits more.1 in
          let a = told.stands in
          let b = rest.stands in
          record {
            end = rest.end;
            stands = record {
              s = a.s ++ b.s;
              has = subst (λ ys. Each Spelled ys (a.s ++ b.s)) whole (a.s, b.s, refl, a.has, b.has);
              is = a.is ∙ ap (λ t. a.s ++ t) b.is ∙ sym (append_assoc a.s b.s (drop rest.end bytes));
              ends = omega (arith, a.ends, b.ends, length-append a.s b.s);
            };
            stops = rest.stops ∙ ap (λ k. 255 ∷ drop k bytes) after;
            ends = sym after ∙ rest.ends;
            fits = subst (λ ys. Fits place ys) whole (told.before more.0.0 rest.fits);
          }
    ]
