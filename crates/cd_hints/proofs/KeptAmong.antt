-- The records of a list that are kept.
use Rattle.std.proofs.Common.{◌≡◌, ℕ, ◌+◌, ◌<◌, ◌≤◌, Bool, true, false, cond, not, ◌||◌, ◌&&◌, List, [], ◌∷◌, ◌++◌, map, length, get_or, take, refl, ap, ◌∙◌}
use Rattle.std.specs.List.{filter}
use Rattle.std.specs.Prelude.{if◌then◌else◌}
use Rattle.std.proofs.lemmas.List.{map-append, append-nil, take_all}
use Rattle.std.proofs.lemmas.List.Elements.{filter_more}
use Rattle.cd_block.specs.declared.hints.Hints.{Hints}
use Rattle.cd_block.specs.declared.kept.KeptRr.{KeptRr}
use Rattle.cd_message.specs.declared.message.Rr.{Rr}
use Rattle.cd_message.specs.Valid.{is_opt}
use Rattle.cd_block.specs.declared.params.Params.{Params}
use Rattle.cd_hints.specs.Hinted.{is_hinted}
use Rattle.cd_hints.specs.Lists.{is_listed_record, kept_rr, kept_records, without_opt}

-- the record is kept in a list of these types, with OPT records or without
abbrev pub is_kept : List ℕ → Bool → Rr → Bool
is_kept types with_opt r = (with_opt || not (is_opt r)) && is_listed_record types r

-- what is kept of some records
unfoldable pub kept_among : List ℕ → Bool → Hints → List Rr → List KeptRr
kept_among types with_opt hints records = map (kept_rr hints) (filter (is_kept types with_opt) records)

-- of no records nothing is kept
pub kept_among_none : (types : List ℕ) (with_opt : Bool) (hints : Hints) → kept_among types with_opt hints [] ≡ []
unfolding kept_among
kept_among_none types with_opt hints = refl

-- a record that is kept stands at the end
pub kept_among_keeps : (types : List ℕ) (with_opt : Bool) (hints : Hints) (records : List Rr) (i : ℕ) (d : Rr) → i < length records →
    is_kept types with_opt (get_or records i d) ≡ true →
    kept_among types with_opt hints (take (i + 1) records) ≡ kept_among types with_opt hints (take i records) ++ kept_rr hints (get_or records i d) ∷ []
unfolding kept_among
kept_among_keeps types with_opt hints records i d within keeps = simp (filter_more (is_kept types with_opt) records i d within, keeps, map-append) refl

-- a record that is not kept adds nothing
pub kept_among_skips : (types : List ℕ) (with_opt : Bool) (hints : Hints) (records : List Rr) (i : ℕ) (d : Rr) → i < length records →
    is_kept types with_opt (get_or records i d) ≡ false →
    kept_among types with_opt hints (take (i + 1) records) ≡ kept_among types with_opt hints (take i records)
unfolding kept_among
kept_among_skips types with_opt hints records i d within skips = simp (filter_more (is_kept types with_opt) records i d within, skips, append-nil) refl

-- what passes two tests passes the first, and of that the second
filter_twice : {X : Type 0} (first second : X → Bool) (xs : List X) → filter (λ x. first x && second x) xs ≡ filter second (filter first xs)
filter_twice first second [] = refl
filter_twice first second (x ∷ xs) =
    let rest : filter (λ y. first y && second y) xs ≡ filter second (filter first xs) = filter_twice first second xs in
    elim (first x) as (λ b. cond (b && second x) (x ∷ filter (λ y. first y && second y) xs) (filter (λ y. first y && second y) xs) ≡ filter second (cond b (x ∷ filter first xs) (filter first xs))) [
      | true ↦ ap (λ ys. cond (second x) (x ∷ ys) ys) rest
      | false ↦ rest
    ]

-- what is kept in a list is what is listed of its records, with OPT records or without
pub kept_whole : (types : List ℕ) (with_opt : Bool) (hints : Hints) (records : List Rr) →
    map (kept_rr hints) (filter (is_kept types with_opt) records) ≡ map (kept_rr hints) (filter (is_listed_record types) (if with_opt then records else without_opt records))
kept_whole types true hints records = refl
kept_whole types false hints records = ap (map (kept_rr hints)) (filter_twice (λ r. not (is_opt r)) (is_listed_record types) records)

-- what is kept of all records
pub kept_among_all : (types : List ℕ) (with_opt : Bool) (hints : Hints) (records : List Rr) (i : ℕ) → length records ≤ i →
    kept_among types with_opt hints (take i records) ≡ map (kept_rr hints) (filter (is_listed_record types) (if with_opt then records else without_opt records))
unfolding kept_among
kept_among_all types with_opt hints records i all =
    ap (λ rs. map (kept_rr hints) (filter (is_kept types with_opt) rs)) (take_all i records all) ∙ kept_whole types with_opt hints records

-- of no records nothing is kept, where the hint of their list is not set
by_hint : (hinted with_opt : Bool) (types : List ℕ) (hints : Hints) (records : List Rr) →
    map (kept_rr hints) (filter (is_listed_record types) (if with_opt then (if hinted then records else []) else without_opt (if hinted then records else []))) ≡
    (if hinted then map (kept_rr hints) (filter (is_listed_record types) (if with_opt then records else without_opt records)) else [])
by_hint true with_opt types hints records = refl
by_hint false true types hints records = refl
by_hint false false types hints records = refl

-- what is kept of the records of a list that are there where its hint is set
pub kept_where_hinted : (p : Params) (hint : ℕ) (with_opt : Bool) (records lent : List Rr) →
    lent ≡ (if is_hinted p.hints.qr hint then records else []) →
    map (kept_rr p.hints) (filter (is_listed_record p.rr_types) (if with_opt then lent else without_opt lent)) ≡
    kept_records p hint (if with_opt then records else without_opt records)
kept_where_hinted p hint with_opt records lent is =
    ap (λ rs. map (kept_rr p.hints) (filter (is_listed_record p.rr_types) (if with_opt then rs else without_opt rs))) is
    ∙ by_hint (is_hinted p.hints.qr hint) with_opt p.rr_types p.hints records
