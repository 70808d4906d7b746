-- Numbers at an offset.
use Rattle.std.proofs.Common.{◌≡◌, ◌∙◌, ℕ, ◌+◌, ◌^◌, ◌<◌, ◌≤◌, List, [], ◌∷◌, ◌++◌, length, take, drop, slice_index, All, ap, refl, arith}
use Rattle.std.specs.Int.{w16, w32}
use Rattle.std.proofs.lemmas.List.{get_or_append_left, get_or-drop}
use Rattle.std.proofs.lemmas.List.Elements.{All-take}
use Rattle.std.proofs.lemmas.Nat.{be_bytes_2, be_bytes_4, le_bytes_2, le_bytes_4}
use Rattle.cd_bytes.proofs.Bytes.{small_everywhere}
use Rattle.cd_bytes.specs.Numbers.{bytes_of, be16, be32, le16, le32, number16_at, number32_at}
use Rattle.cd_bytes.specs.declared.order.Order.{Order}
use Rattle.cd_bytes.specs.declared.order.Order.TheVariants.{Big, Little}

-- Two bytes that are there keep their number as the bytes go on.
pub be16-append : (at : ℕ) (xs ys : List ℕ) → at + 2 ≤ length xs → be16 at (xs ++ ys) ≡ be16 at xs
unfolding be16
be16-append at xs ys h =
    let a = get_or_append_left xs ys 0 at (omega arith) in
    let b = get_or_append_left xs ys 0 (at + 1) (omega arith) in
    omega (arith, a, b)

-- The same in the other order.
pub le16-append : (at : ℕ) (xs ys : List ℕ) → at + 2 ≤ length xs → le16 at (xs ++ ys) ≡ le16 at xs
unfolding le16
le16-append at xs ys h =
    let a = get_or_append_left xs ys 0 at (omega arith) in
    let b = get_or_append_left xs ys 0 (at + 1) (omega arith) in
    omega (arith, a, b)

-- Four bytes that are there keep theirs.
pub be32-append : (at : ℕ) (xs ys : List ℕ) → at + 4 ≤ length xs → be32 at (xs ++ ys) ≡ be32 at xs
unfolding be32
be32-append at xs ys h =
    let a = get_or_append_left xs ys 0 at (omega arith) in
    let b = get_or_append_left xs ys 0 (at + 1) (omega arith) in
    let c = get_or_append_left xs ys 0 (at + 2) (omega arith) in
    let d = get_or_append_left xs ys 0 (at + 3) (omega arith) in
    omega (arith, a, b, c, d)

-- The same in the other order.
pub le32-append : (at : ℕ) (xs ys : List ℕ) → at + 4 ≤ length xs → le32 at (xs ++ ys) ≡ le32 at xs
unfolding le32
le32-append at xs ys h =
    let a = get_or_append_left xs ys 0 at (omega arith) in
    let b = get_or_append_left xs ys 0 (at + 1) (omega arith) in
    let c = get_or_append_left xs ys 0 (at + 2) (omega arith) in
    let d = get_or_append_left xs ys 0 (at + 3) (omega arith) in
    omega (arith, a, b, c, d)

-- The same of two bytes in any order.
pub number16_at-append : (order : Order) (at : ℕ) (xs ys : List ℕ) → at + 2 ≤ length xs → number16_at order at (xs ++ ys) ≡ number16_at order at xs
number16_at-append Big at xs ys h = be16-append at xs ys h
number16_at-append Little at xs ys h = le16-append at xs ys h

-- The same of four bytes in any order.
pub number32_at-append : (order : Order) (at : ℕ) (xs ys : List ℕ) → at + 4 ≤ length xs → number32_at order at (xs ++ ys) ≡ number32_at order at xs
number32_at-append Big at xs ys h = be32-append at xs ys h
number32_at-append Little at xs ys h = le32-append at xs ys h

-- The byte at an offset is the first from there on.
pub first_byte : (at : ℕ) (bytes : List ℕ) → slice_index (drop at bytes) 0 ≡ slice_index bytes at
first_byte at bytes =
    let place : at + 0 ≡ at = omega arith in
    get_or-drop at bytes 0 0 ∙ ap (λ n. slice_index bytes n) place

-- Two bytes at an offset are the first from there on.
pub number16_at-drop : (order : Order) (at : ℕ) (bytes : List ℕ) → number16_at order at bytes ≡ number16_at order 0 (drop at bytes)
unfolding be16 le16
number16_at-drop Big at bytes =
    let a : slice_index (drop at bytes) 0 ≡ slice_index bytes at = first_byte at bytes in
    let b : slice_index (drop at bytes) (0 + 1) ≡ slice_index bytes (at + 1) = get_or-drop at bytes 1 0 in
    omega (arith, a, b)
number16_at-drop Little at bytes =
    let a : slice_index (drop at bytes) 0 ≡ slice_index bytes at = first_byte at bytes in
    let b : slice_index (drop at bytes) (0 + 1) ≡ slice_index bytes (at + 1) = get_or-drop at bytes 1 0 in
    omega (arith, a, b)

-- Four bytes are.
pub number32_at-drop : (order : Order) (at : ℕ) (bytes : List ℕ) → number32_at order at bytes ≡ number32_at order 0 (drop at bytes)
unfolding be32 le32
number32_at-drop Big at bytes =
    let a : slice_index (drop at bytes) 0 ≡ slice_index bytes at = first_byte at bytes in
    let b : slice_index (drop at bytes) (0 + 1) ≡ slice_index bytes (at + 1) = get_or-drop at bytes 1 0 in
    let c : slice_index (drop at bytes) (0 + 2) ≡ slice_index bytes (at + 2) = get_or-drop at bytes 2 0 in
    let d : slice_index (drop at bytes) (0 + 3) ≡ slice_index bytes (at + 3) = get_or-drop at bytes 3 0 in
    omega (arith, a, b, c, d)
number32_at-drop Little at bytes =
    let a : slice_index (drop at bytes) 0 ≡ slice_index bytes at = first_byte at bytes in
    let b : slice_index (drop at bytes) (0 + 1) ≡ slice_index bytes (at + 1) = get_or-drop at bytes 1 0 in
    let c : slice_index (drop at bytes) (0 + 2) ≡ slice_index bytes (at + 2) = get_or-drop at bytes 2 0 in
    let d : slice_index (drop at bytes) (0 + 3) ≡ slice_index bytes (at + 3) = get_or-drop at bytes 3 0 in
    omega (arith, a, b, c, d)

-- The number of two bytes has 16 bits, and is written as they are.
pub number16-small : (order : Order) (bytes : List ℕ) → All (λ byte. byte < 256) bytes → number16_at order 0 bytes < 2 ^ 16
unfolding be16 le16
number16-small Big bytes all = let small = small_everywhere bytes all in omega (arith, small 0, small 1)
number16-small Little bytes all = let small = small_everywhere bytes all in omega (arith, small 0, small 1)

pub number16-spelled : (order : Order) (bytes : List ℕ) → All (λ byte. byte < 256) bytes → 2 ≤ length bytes → bytes_of w16 order (number16_at order 0 bytes) ≡ take 2 bytes
unfolding be16 le16
number16-spelled order [] all long = absurd (omega arith)
number16-spelled order (a ∷ []) all long = absurd (omega arith)
number16-spelled Big (a ∷ b ∷ bytes) all long = be_bytes_2 (a ∷ b ∷ []) _ refl (small_everywhere (a ∷ b ∷ []) (All-take (λ byte. byte < 256) 2 (a ∷ b ∷ bytes) all)) (omega arith)
number16-spelled Little (a ∷ b ∷ bytes) all long = le_bytes_2 (a ∷ b ∷ []) _ refl (small_everywhere (a ∷ b ∷ []) (All-take (λ byte. byte < 256) 2 (a ∷ b ∷ bytes) all)) (omega arith)

-- The number of four bytes has 32 bits, and is written as they are.
pub number32-small : (order : Order) (bytes : List ℕ) → All (λ byte. byte < 256) bytes → number32_at order 0 bytes < 2 ^ 32
unfolding be32 le32
number32-small Big bytes all = let small = small_everywhere bytes all in omega (arith, small 0, small 1, small 2, small 3)
number32-small Little bytes all = let small = small_everywhere bytes all in omega (arith, small 0, small 1, small 2, small 3)

pub number32-spelled : (order : Order) (bytes : List ℕ) → All (λ byte. byte < 256) bytes → 4 ≤ length bytes → bytes_of w32 order (number32_at order 0 bytes) ≡ take 4 bytes
unfolding be32 le32
number32-spelled order [] all long = absurd (omega arith)
number32-spelled order (a ∷ []) all long = absurd (omega arith)
number32-spelled order (a ∷ b ∷ []) all long = absurd (omega arith)
number32-spelled order (a ∷ b ∷ c ∷ []) all long = absurd (omega arith)
number32-spelled Big (a ∷ b ∷ c ∷ d ∷ bytes) all long = be_bytes_4 (a ∷ b ∷ c ∷ d ∷ []) _ refl (small_everywhere (a ∷ b ∷ c ∷ d ∷ []) (All-take (λ byte. byte < 256) 4 (a ∷ b ∷ c ∷ d ∷ bytes) all)) (omega arith)
number32-spelled Little (a ∷ b ∷ c ∷ d ∷ bytes) all long = le_bytes_4 (a ∷ b ∷ c ∷ d ∷ []) _ refl (small_everywhere (a ∷ b ∷ c ∷ d ∷ []) (All-take (λ byte. byte < 256) 4 (a ∷ b ∷ c ∷ d ∷ bytes) all)) (omega arith)
