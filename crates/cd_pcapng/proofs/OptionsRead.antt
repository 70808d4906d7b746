-- How the list of options goes on, and what it tells of a clock.
use Rattle.std.proofs.Common.{◌≡◌, ℕ, zero, suc, ◌+◌, true, false, List, [], ◌∷◌, length, drop, min, ℤ, refl, ap, sym, ◌∙◌, arith}
use Rattle.std.proofs.lemmas.List.{drop_min}
use Rattle.cd_bytes.specs.declared.order.Order.{Order}
use Rattle.cd_pcapng.specs.Options.{BlockOption, padded, option_length, ends_options, option_at, options, next_resolution, resolution_after, next_offset, offset_after}

-- after the rest of an option the next one begins
options-inside : (order : Order) (inside : ℕ) (bytes : List ℕ) → options order inside bytes ≡ options order 0 (drop inside bytes)
unfolding options
options-inside order zero bytes = refl
options-inside order (suc k) [] = refl
options-inside order (suc k) (b ∷ bytes) = options-inside order k bytes

-- the options end
pub options-none : (order : Order) (bytes : List ℕ) → ends_options order bytes ≡ true → options order 0 bytes ≡ []
unfolding options
options-none order [] ends = refl
options-none order (b ∷ bytes) ends = rw ends refl

-- one more option
pub options-more : (order : Order) (bytes : List ℕ) → ends_options order bytes ≡ false →
    options order 0 bytes ≡ option_at order bytes ∷ options order 0 (drop (4 + padded (option_length order bytes)) bytes)
unfolding options
options-more order [] more = absurd cc
options-more order (b ∷ bytes) more =
    let n : ℕ = padded (option_length order (b ∷ bytes)) in
    let size : suc (3 + n) ≡ 4 + n = omega arith in
    let next : options order (3 + n) bytes ≡ options order 0 (drop (4 + n) (b ∷ bytes)) =
    options-inside order (3 + n) bytes ∙ ap (λ i. options order 0 (drop i (b ∷ bytes))) size in
    rw more (ap (λ os. option_at order (b ∷ bytes) ∷ os) next)

-- the resolution that the others tell after one more option
pub resolution_more : (order : Order) (bytes : List ℕ) (o : BlockOption) (old new all : ℕ) → ends_options order bytes ≡ false → o ≡ option_at order bytes → new ≡ next_resolution old o →
    resolution_after old (options order 0 bytes) ≡ all →
    resolution_after new (options order 0 (drop (4 + padded (option_length order bytes)) bytes)) ≡ all
resolution_more order bytes o old new all more is step h =
    let rest : List BlockOption = options order 0 (drop (4 + padded (option_length order bytes)) bytes) in
    ap (λ r. resolution_after r rest) (step ∙ ap (λ x. next_resolution old x) is)
    ∙ sym (ap (λ os. resolution_after old os) (options-more order bytes more)) ∙ h

-- the offset that they tell
pub offset_more : (order : Order) (bytes : List ℕ) (o : BlockOption) (old new all : ℤ) → ends_options order bytes ≡ false → o ≡ option_at order bytes → new ≡ next_offset order old o →
    offset_after order old (options order 0 bytes) ≡ all →
    offset_after order new (options order 0 (drop (4 + padded (option_length order bytes)) bytes)) ≡ all
offset_more order bytes o old new all more is step h =
    let rest : List BlockOption = options order 0 (drop (4 + padded (option_length order bytes)) bytes) in
    ap (λ z. offset_after order z rest) (step ∙ ap (λ x. next_offset order old x) is)
    ∙ sym (ap (λ os. offset_after order old os) (options-more order bytes more)) ∙ h

-- where no option is left, what was told holds
pub resolution_none : (order : Order) (bytes : List ℕ) (old all : ℕ) → ends_options order bytes ≡ true → resolution_after old (options order 0 bytes) ≡ all → old ≡ all
resolution_none order bytes old all ends h = sym (ap (λ os. resolution_after old os) (options-none order bytes ends)) ∙ h

pub offset_none : (order : Order) (bytes : List ℕ) (old all : ℤ) → ends_options order bytes ≡ true → offset_after order old (options order 0 bytes) ≡ all → old ≡ all
offset_none order bytes old all ends h = sym (ap (λ os. offset_after order old os) (options-none order bytes ends)) ∙ h

-- the bytes after an option, of which there may be fewer
pub rest_after : (order : Order) (bytes : List ℕ) (n size least : ℕ) → n ≡ option_length order bytes → size ≡ padded n → least ≡ min (4 + size) (length bytes) →
    drop least bytes ≡ drop (4 + padded (option_length order bytes)) bytes
rest_after order bytes n size least is pad few =
    ap (λ k. drop k bytes) few ∙ drop_min (4 + size) bytes ∙ ap (λ k. drop (4 + k) bytes) (pad ∙ ap (λ k. padded k) is)
