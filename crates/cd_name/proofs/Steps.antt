-- One label further.
use Rattle.std.proofs.Common.{◌≡◌, ℕ, ◌+◌, ◌≤◌, List, [], ◌∷◌, ◌++◌, length, take, drop, refl, ap, sym, ◌∙◌, arith, append_assoc, Option, None, Some, Ok}
use Rattle.std.specs.Prelude.{unwrap_or}
use Rattle.std.proofs.lemmas.Bool.{le-ltb}
use Rattle.std.proofs.lemmas.List.{append-nil}
use Rattle.cd_name.specs.Names.{NameReading, reading_at, label_then_reading, pointer_then_reading, root_reading, name_of_reading, name_at}
use Rattle.cd_name.specs.NameGiving.{reading_with_end, IsEndWithin}

-- a label may be moved to the labels before it
label_then_reading-end : (labels label : List ℕ) (next : Option ℕ) (r : NameReading) → label_then_reading labels (reading_with_end next (label_then_reading label r)) ≡ label_then_reading (labels ++ label) (reading_with_end next r)
label_then_reading-end labels label None r = rw (append_assoc labels label r.labels) refl
label_then_reading-end labels label (Some n) r = rw (append_assoc labels label r.labels) refl

-- what is left to be read, one label further
pub label_step : (p labels new : List ℕ) (next : Option ℕ) (at s here n : ℕ) → new ≡ labels ++ take (n + 1) (drop here p) →
    reading_at p at at ≡ label_then_reading labels (reading_with_end next (reading_at p s here)) →
    reading_at p s here ≡ label_then_reading (take (n + 1) (drop here p)) (reading_at p s (here + (n + 1))) →
    reading_at p at at ≡ label_then_reading new (reading_with_end next (reading_at p s (here + n + 1)))
label_step p labels new next at s here n is before step =
    let place : here + (n + 1) ≡ here + n + 1 = omega arith in
    before ∙ ap (λ r. label_then_reading labels (reading_with_end next r)) step
    ∙ label_then_reading-end labels (take (n + 1) (drop here p)) next (reading_at p s (here + (n + 1)))
    ∙ ap (λ t. label_then_reading t (reading_with_end next (reading_at p s (here + (n + 1))))) (sym is)
    ∙ ap (λ k. label_then_reading new (reading_with_end next (reading_at p s k))) place

-- the end stays within, one label further
pub end_within_later : (at here later size : ℕ) (next : Option ℕ) → here ≤ later → IsEndWithin at here size next → IsEndWithin at later size next
end_within_later at here later size None h w = omega arith
end_within_later at here later size (Some n) h w = w

-- a root after labels that leave room for it ends the name
root_gives : (p labels : List ℕ) (at s here : ℕ) (next : Option ℕ) → length labels ≤ 254 →
    reading_at p at at ≡ label_then_reading labels (reading_with_end next (reading_at p s here)) → reading_at p s here ≡ root_reading (here + 1) →
    name_at p at ≡ Ok (labels ++ 0 ∷ [], unwrap_or next (here + 1))
root_gives p labels at s here None short reads root =
    ap name_of_reading (reads ∙ ap (λ r. label_then_reading labels r) root) ∙ rw (append-nil labels, le-ltb 254 (length labels) short) refl
root_gives p labels at s here (Some next) short reads root =
    ap name_of_reading (reads ∙ ap (λ r. label_then_reading labels (pointer_then_reading next r)) root) ∙ rw (append-nil labels, le-ltb 254 (length labels) short) refl

-- so it does for a name that has the same bytes, at an end that is the same
pub root_ends : (p labels name : List ℕ) (at s here end : ℕ) (next : Option ℕ) → length labels ≤ 254 →
    reading_at p at at ≡ label_then_reading labels (reading_with_end next (reading_at p s here)) → reading_at p s here ≡ root_reading (here + 1) →
    name ≡ labels ++ 0 ∷ [] → end ≡ unwrap_or next (here + 1) → name_at p at ≡ Ok (name, end)
root_ends p labels name at s here end next short reads root is ends =
    root_gives p labels at s here next short reads root ∙ ap (λ n. Ok (labels ++ 0 ∷ [], n)) (sym ends) ∙ ap (λ t. Ok (t, end)) (sym is)
