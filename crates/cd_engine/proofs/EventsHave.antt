-- What holds of each event of a capture holds of those of its records and of its runs.
use Rattle.std.proofs.Common.{◌≡◌, ℕ, List, [], ◌∷◌, ◌++◌, Option, Some, None, refl, subst}
use Rattle.std.specs.List.{All, AllByRecursion, filter_map, flat_map}
use Rattle.std.specs.Option.{option_map}
use Rattle.std.specs.Prelude.{IfSome, slice_get, option_and_then}
use Rattle.std.proofs.lemmas.List.Elements.{All-nil, All-cons, All-head, All-tail, All-get_or}
use Rattle.std.proofs.lemmas.Option.{slice_get_within, get_or_from_slice_get}
use Rattle.cd_hints.specs.Records.{RecordParts}
use Rattle.cd_ident.specs.Events.{EventParts}
use Rattle.cd_ident.specs.declared.event.Kind.{Kind}
use Rattle.cd_ident.specs.declared.event.Kind.TheVariants.{Query, Response, Malformed, Discarded}
use Rattle.cd_pairing.specs.Records.{Record, pair, single}
use Rattle.cd_record.specs.Laws.{events_of}
use Rattle.cd_engine.specs.Records.{single_of_kind, single_record, pair_of_kind, pair_record, record_at, records_at}

-- what a function gives that gives only what is good
pub filter_map_each : {X Y : Type 0} (P : Y → Type 0) (f : X → Option Y) (x : X) (xs : List X) (o : Option Y) → f x ≡ o → IfSome o P →
    All P (filter_map f xs) → All P (filter_map f (x ∷ xs))
filter_map_each P f x xs None here good rest = rw here rest
filter_map_each P f x xs (Some y) here good rest = rw here (All-cons P y (filter_map f xs) good rest)

module _ (P : EventParts → Type 0) where
  -- it holds of the events of a record
  abbrev pub OfRecord : RecordParts → Type 0
  OfRecord r = All P (events_of r)

  one : (e : EventParts) → P e → All P (e ∷ [])
  one e h = All-cons P e [] h (All-nil P)

  two : (a b : EventParts) → P a → P b → All P (a ∷ b ∷ [])
  two a b first second = All-cons P a (b ∷ []) first (one b second)

  of_single : (kind : Kind) (e : EventParts) → P e → OfRecord (single_of_kind kind e)
  of_single Query e h = one e h
  of_single Response e h = one e h
  of_single Malformed e h = one e h
  of_single Discarded e h = one e h

  of_pair : (kind : Kind) (earlier later : EventParts) → P earlier → P later → OfRecord (pair_of_kind kind earlier later)
  of_pair Query earlier later first second = two earlier later first second
  of_pair Response earlier later first second = two later earlier second first
  of_pair Malformed earlier later first second = two earlier later first second
  of_pair Discarded earlier later first second = two earlier later first second

  of_element : (es : List EventParts) (i : ℕ) (e : EventParts) → All P es → slice_get es i ≡ Some e → P e
  of_element es i e each there =
      subst P (get_or_from_slice_get es i e e there) (All-get_or P es i e (slice_get_within es i e there) each)

  of_single_at : (o : Option EventParts) → ((e : EventParts) → o ≡ Some e → P e) → IfSome (option_map single_record o) OfRecord
  of_single_at None h = tt
  of_single_at (Some e) h = of_single e.kind e (h e refl)

  of_pair_at : (o p : Option EventParts) → ((e : EventParts) → o ≡ Some e → P e) → ((e : EventParts) → p ≡ Some e → P e) →
      IfSome (option_and_then (λ earlier. option_map (pair_record earlier) p) o) OfRecord
  of_pair_at None p first second = tt
  of_pair_at (Some e) None first second = tt
  of_pair_at (Some e) (Some l) first second = of_pair e.kind e l (first e refl) (second l refl)

  of_record : (es : List EventParts) (r : Record) → All P es → IfSome (record_at es r) OfRecord
  of_record es (single i) each = of_single_at (slice_get es i) (λ e there. of_element es i e each there)
  of_record es (pair i j) each =
      of_pair_at (slice_get es i) (slice_get es j) (λ e there. of_element es i e each there) (λ e there. of_element es j e each there)

  -- it holds of the events of each record
  pub of_records : (es : List EventParts) (rs : List Record) → All P es → All OfRecord (records_at es rs)
  of_records es [] each = All-nil OfRecord
  of_records es (r ∷ rs) each =
      filter_map_each OfRecord (record_at es) r rs (record_at es r) refl (of_record es r each) (of_records es rs each)

-- what holds of each, by recursion and by index
to_each : {X : Type 0} (P : X → Type 0) (xs : List X) → All P xs → AllByRecursion P xs
to_each P [] all = tt
to_each P (x ∷ xs) all = (All-head P x xs all, to_each P xs (All-tail P x xs all))

to_all : {X : Type 0} (P : X → Type 0) (xs : List X) → AllByRecursion P xs → All P xs
to_all P [] each = All-nil P
to_all P (x ∷ xs) each = All-cons P x xs each.0 (to_all P xs each.1)

split_each : {X : Type 0} (P : X → Type 0) (xs ys : List X) → AllByRecursion P (xs ++ ys) → AllByRecursion P xs × AllByRecursion P ys
split_each P [] ys each = (tt, each)
split_each P (x ∷ xs) ys each = let rest = split_each P xs ys each.1 in ((each.0, rest.0), rest.1)

runs_each : {X : Type 0} (P : X → Type 0) (runs : List (List X)) → AllByRecursion P (flat_map (λ run. run) runs) → AllByRecursion (λ run. All P run) runs
runs_each P [] each = tt
runs_each P (run ∷ runs) each =
    let parts = split_each P run (flat_map (λ r. r) runs) each in (to_all P run parts.0, runs_each P runs parts.1)

-- what holds of each of some values holds of those of the runs into which they are cut
pub of_runs : {X : Type 0} (P : X → Type 0) (xs : List X) (runs : List (List X)) → xs ≡ flat_map (λ run. run) runs → All P xs →
    AllByRecursion (λ run. All P run) runs
of_runs P xs runs whole all = runs_each P runs (to_each P (flat_map (λ run. run) runs) (subst (λ ys. All P ys) whole all))

pub each_of : {X : Type 0} (P : X → Type 0) (xs : List X) → All P xs → AllByRecursion P xs
each_of P xs all = to_each P xs all
