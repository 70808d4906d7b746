-- What a source in memory gives, and what it has left.
use Rattle.std.proofs.Common.{◌≡◌, ℕ, ◌+◌, ◌<◌, ◌≤◌, min, List, [], ◌++◌, length, take, drop, arith, sym, ap, ◌∙◌}
use Rattle.std.proofs.lemmas.List.{take-append-drop, drop-drop, take_at, drop_all, length-take-le, length-drop}

-- the front of a buffer after a write to it
pub given : (left buf new : List ℕ) (n : ℕ) → n ≤ length left → new ≡ take n left → left ≡ take n (new ++ drop n buf) ++ drop n left
given left buf new n fits is =
    let len : length new ≡ n = rw is (length-take-le n left fits) in
    rw (take_at new (drop n buf) n len, is) (sym (take-append-drop n left))

-- what is left after n bytes were given in a piece of limited room
pub gave : (bytes buf : List ℕ) (at n room : ℕ) → at ≤ length bytes → n ≡ min (length (drop at bytes)) (min room (length buf)) →
    drop at bytes ≡ take n buf ++ drop n (drop at bytes) →
    (drop at bytes ≡ take n buf ++ drop (at + n) bytes) × (n ≡ 0 → 0 < room → 0 < length buf → drop (at + n) bytes ≡ [])
gave bytes buf at n room within is split =
    (split ∙ ap (λ xs. take n buf ++ xs) (drop-drop n at bytes), λ none some full. drop_all (at + n) bytes (omega (arith, length-drop at bytes)))
