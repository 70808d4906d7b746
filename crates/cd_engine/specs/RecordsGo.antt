-- The records that no later event changes, as more events come.
use Rattle.std.proofs.Common.{◌≡◌, ℕ, zero, suc, ◌+◌, ◌<◌, ◌≤◌, Bool, true, false, List, [], ◌∷◌, ◌++◌, length, Option, Some, None, refl, ap, ◌∙◌, subst, arith, if◌then◌else◌}
use Rattle.std.specs.List.{filter_map}
use Rattle.std.specs.Option.{option_map}
use Rattle.std.specs.Prelude.{nat_lt, slice_get, option_and_then}
use Rattle.std.proofs.lemmas.List.{length-map, map-append}
use Rattle.std.proofs.lemmas.List.Elements.{filter_map-append}
use Rattle.cd_hints.specs.Records.{RecordParts}
use Rattle.cd_hints.specs.declared.settings.Settings.{Settings}
use Rattle.cd_ident.specs.Events.{EventParts}
use Rattle.cd_ident.specs.Keys.{view_of_parts}
use Rattle.cd_pairing.proofs.Finding.{exists}
use Rattle.cd_pairing.proofs.Records.{front_told, released_stay}
use Rattle.cd_pairing.proofs.Unique.{partner_within}
use Rattle.cd_pairing.specs.Events.{EventView}
use Rattle.cd_pairing.specs.Matching.{partner}
use Rattle.cd_pairing.specs.Pairing.{IsPairing, are_compatible}
use Rattle.cd_pairing.specs.Records.{Record, pair, single, records_from, records, released_records, BeginsWith}
use Rattle.cd_pairing.specs.Settling.{AreHeavy, settled_count}
use Rattle.cd_pairing.specs.declared.keyed.Windows.{Windows}
use Rattle.cd_engine.specs.Behaving.{partners_of, all_records, settled_records}
use Rattle.cd_engine.specs.HeavyEvents.{AreHeavyParts, views_heavy}
use Rattle.cd_engine.specs.Records.{windows_of, views_of, single_record, pair_record, record_at, records_at}

-- the partners are the one pairing
pub partners_pair : (windows : Windows) (views : List EventView) → IsPairing windows views (partners_of windows views)
unfolding partners_of
partners_pair windows views = (exists (are_compatible windows views) (length views)).holds

-- the positions of a record are below this one
abbrev pub IsBelow : ℕ → Record → Type 0
IsBelow n (pair i j) = (i < n) × (j < n)
IsBelow n (single i) = i < n

-- the positions of some records are
abbrev pub AreBelow : ℕ → List Record → Type 0
AreBelow n [] = Unit {0}
AreBelow n (r ∷ rs) = IsBelow n r × AreBelow n rs

below_chosen : (n i j : ℕ) (rs : List Record) (b : Bool) → i < n → j < n → AreBelow n rs → AreBelow n (if b then pair i j ∷ rs else rs)
below_chosen n i j rs true first second rest = ((first, second), rest)
below_chosen n i j rs false first second rest = rest

-- the records of partners that stand below a number
records_below : (n i : ℕ) (ps : List (Option ℕ)) → i + length ps ≤ n → ((k j : ℕ) → partner ps k ≡ Some j → j < n) → AreBelow n (records_from i ps)
records_below n i [] few h = tt
records_below n i (None ∷ ps) few h = (omega arith, records_below n (suc i) ps (omega arith) (λ k j e. h (suc k) j e))
records_below n i (Some j ∷ ps) few h =
    below_chosen n i j (records_from (suc i) ps) (nat_lt i j) (omega arith) (h zero j refl)
    (records_below n (suc i) ps (omega arith) (λ k l e. h (suc k) l e))

below_front : (n : ℕ) (front back : List Record) → AreBelow n (front ++ back) → AreBelow n front
below_front n [] back h = tt
below_front n (r ∷ front) back h = (h.0, below_front n front back h.1)

-- the records of a pairing
pub pairing_below : (windows : Windows) (views : List EventView) (p : List (Option ℕ)) → IsPairing windows views p → AreBelow (length views) (records p)
pairing_below windows views p h =
    records_below (length views) 0 p (omega (arith, h.total)) (λ k j e. let within = partner_within p j k (h.back k j e) in omega (arith, h.total, within))

-- the released records are the first of them
pub released_first : (windows : Windows) (views : List EventView) (p : List (Option ℕ)) → BeginsWith (released_records windows views p) (records p)
released_first windows views p = front_told (settled_count windows views p) p p refl

-- those that are released
released_below : (windows : Windows) (views : List EventView) (p : List (Option ℕ)) → IsPairing windows views p →
    AreBelow (length views) (released_records windows views p)
released_below windows views p h =
    let f = released_first windows views p in
    let P : List Record → Type 0 = λ rs. AreBelow (length views) rs in
    below_front (length views) (released_records windows views p) f.rest (subst P f.whole (pairing_below windows views p h))

-- an element of a front
slice_front : {X : Type 0} (xs ys : List X) (i : ℕ) → i < length xs → slice_get (xs ++ ys) i ≡ slice_get xs i
slice_front [] ys i lt = absurd (omega arith)
slice_front (x ∷ xs) ys zero lt = refl
slice_front (x ∷ xs) ys (suc i) lt = slice_front xs ys i (omega arith)

-- a record whose events are among the first
record_same : (es more : List EventParts) (r : Record) → IsBelow (length es) r → record_at (es ++ more) r ≡ record_at es r
record_same es more (single i) lt = ap (λ o. option_map single_record o) (slice_front es more i lt)
record_same es more (pair i j) h =
    ap (λ o. option_and_then (λ earlier. option_map (pair_record earlier) (slice_get (es ++ more) j)) o) (slice_front es more i h.0)
    ∙ ap (λ o. option_and_then (λ earlier. option_map (pair_record earlier) o) (slice_get es i)) (slice_front es more j h.1)

-- two functions that agree at one more element
one_same : {X Y : Type 0} (f g : X → Option Y) (x : X) (xs : List X) (o : Option Y) → f x ≡ o → g x ≡ o → filter_map f xs ≡ filter_map g xs →
    filter_map f (x ∷ xs) ≡ filter_map g (x ∷ xs)
one_same f g x xs None here there rest = rw (here, there) rest
one_same f g x xs (Some y) here there rest = rw (here, there) (ap (λ t. y ∷ t) rest)

-- records whose events are among the first
pub records_same : (es more : List EventParts) (rs : List Record) → AreBelow (length es) rs → records_at (es ++ more) rs ≡ records_at es rs
records_same es more [] h = refl
records_same es more (r ∷ rs) h =
    one_same (record_at (es ++ more)) (record_at es) r rs (record_at es r) (record_same es more r h.0) refl (records_same es more rs h.1)

-- what no later event changes stays as more events come
pub settled_go_on : (s : Settings) (es more : List EventParts) → AreHeavyParts (es ++ more) →
    (rest : List RecordParts) × (settled_records s (es ++ more) ≡ settled_records s es ++ rest)
unfolding settled_records
settled_go_on s es more heavy =
    let w : Windows = windows_of s in
    let now : List EventView = views_of es in
    let later : List EventView = views_of more in
    let all : views_of (es ++ more) ≡ now ++ later = map-append view_of_parts es more in
    let P : List EventView → Type 0 = λ vs. AreHeavy vs in
    let stay = released_stay w now later (partners_of w now) (partners_of w (now ++ later)) (subst P all (views_heavy (es ++ more) heavy))
    (partners_pair w now) (partners_pair w (now ++ later)) in
    let front : List Record = released_records w now (partners_of w now) in
    let Q : ℕ → Type 0 = λ n. AreBelow n front in
    let below : AreBelow (length es) front = subst Q (length-map es view_of_parts) (released_below w now (partners_of w now) (partners_pair w now)) in (
      records_at (es ++ more) stay.released.rest,
      ap (λ vs. records_at (es ++ more) (released_records w vs (partners_of w vs))) all
          ∙ ap (records_at (es ++ more)) stay.released.whole
          ∙ filter_map-append (record_at (es ++ more)) front stay.released.rest
          ∙ ap (λ t. t ++ records_at (es ++ more) stay.released.rest) (records_same es more front below),
    )

-- it is the first of all records
pub settled_first : (s : Settings) (es : List EventParts) → (rest : List RecordParts) × (all_records s es ≡ settled_records s es ++ rest)
unfolding settled_records all_records
settled_first s es =
    let w : Windows = windows_of s in
    let f = released_first w (views_of es) (partners_of w (views_of es)) in
    (records_at es f.rest, ap (records_at es) f.whole ∙ filter_map-append (record_at es) (released_records w (views_of es) (partners_of w (views_of es))) f.rest)
