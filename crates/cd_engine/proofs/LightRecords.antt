-- The records of light events may each stand in a block alone.
use Rattle.std.proofs.Common.{◌≡◌, ℕ, List, [], ◌∷◌, Option, Some, None, refl, subst}
use Rattle.std.specs.List.{All, filter_map}
use Rattle.std.specs.Option.{option_map}
use Rattle.std.specs.Prelude.{IfSome, slice_get, option_and_then}
use Rattle.std.proofs.lemmas.List.Elements.{All-nil, All-cons, All-get_or, All-weaker}
use Rattle.std.proofs.lemmas.Option.{slice_get_within, get_or_from_slice_get}
use Rattle.cd_hints.specs.Records.{RecordParts}
use Rattle.cd_hints.specs.Validity.{IsValid}
use Rattle.cd_hints.specs.declared.settings.Settings.{Settings}
use Rattle.cd_ident.specs.Events.{EventParts}
use Rattle.cd_ident.specs.declared.event.Kind.{Kind}
use Rattle.cd_ident.specs.declared.event.Kind.TheVariants.{Query, Response, Malformed, Discarded}
use Rattle.cd_pairing.specs.Records.{Record, pair, single}
use Rattle.cd_record.proofs.OneRecord.{one_is_admissible}
use Rattle.cd_record.specs.Laws.{IsAdmissibleAlone, IsLight, events_of}
use Rattle.cd_record.specs.Runs.{limits_of}
use Rattle.cd_engine.specs.Records.{single_of_kind, single_record, pair_of_kind, pair_record, record_at, records_at}

-- the events of a record are light
abbrev pub IsLightRecord : RecordParts → Type 0
IsLightRecord r = All IsLight (events_of r)

one_light : (e : EventParts) → IsLight e → All IsLight (e ∷ [])
one_light e light = All-cons IsLight e [] light (All-nil IsLight)

two_light : (a b : EventParts) → IsLight a → IsLight b → All IsLight (a ∷ b ∷ [])
two_light a b first second = All-cons IsLight a (b ∷ []) first (one_light b second)

-- an event that stands alone
single_light : (kind : Kind) (e : EventParts) → IsLight e → IsLightRecord (single_of_kind kind e)
single_light Query e light = one_light e light
single_light Response e light = one_light e light
single_light Malformed e light = one_light e light
single_light Discarded e light = one_light e light

-- two events
pair_light : (kind : Kind) (earlier later : EventParts) → IsLight earlier → IsLight later → IsLightRecord (pair_of_kind kind earlier later)
pair_light Query earlier later first second = two_light earlier later first second
pair_light Response earlier later first second = two_light later earlier second first
pair_light Malformed earlier later first second = two_light earlier later first second
pair_light Discarded earlier later first second = two_light earlier later first second

-- an element of a list of light events
pub element_light : (es : List EventParts) (i : ℕ) (e : EventParts) → All IsLight es → slice_get es i ≡ Some e → IsLight e
element_light es i e each there =
    let P : EventParts → Type 0 = λ x. IsLight x in
    subst P (get_or_from_slice_get es i e e there) (All-get_or IsLight es i e (slice_get_within es i e there) each)

single_at_light : (o : Option EventParts) → ((e : EventParts) → o ≡ Some e → IsLight e) → IfSome (option_map single_record o) IsLightRecord
single_at_light None light = tt
single_at_light (Some e) light = single_light e.kind e (light e refl)

pair_at_light : (o p : Option EventParts) → ((e : EventParts) → o ≡ Some e → IsLight e) → ((e : EventParts) → p ≡ Some e → IsLight e) →
    IfSome (option_and_then (λ earlier. option_map (pair_record earlier) p) o) IsLightRecord
pair_at_light None p first second = tt
pair_at_light (Some e) None first second = tt
pair_at_light (Some e) (Some l) first second = pair_light e.kind e l (first e refl) (second l refl)

-- a record of some of them
record_light : (es : List EventParts) (r : Record) → All IsLight es → IfSome (record_at es r) IsLightRecord
record_light es (single i) each = single_at_light (slice_get es i) (λ e there. element_light es i e each there)
record_light es (pair i j) each =
    pair_at_light (slice_get es i) (slice_get es j) (λ e there. element_light es i e each there) (λ e there. element_light es j e each there)

-- what a function gives that gives only what is good
filter_map_each : {X Y : Type 0} (P : Y → Type 0) (f : X → Option Y) (x : X) (xs : List X) (o : Option Y) → f x ≡ o → IfSome o P →
    All P (filter_map f xs) → All P (filter_map f (x ∷ xs))
filter_map_each P f x xs None here good rest = rw here rest
filter_map_each P f x xs (Some y) here good rest = rw here (All-cons P y (filter_map f xs) good rest)

-- all records of some of them
pub records_light : (es : List EventParts) (rs : List Record) → All IsLight es → All IsLightRecord (records_at es rs)
records_light es [] each = All-nil IsLightRecord
records_light es (r ∷ rs) each =
    filter_map_each IsLightRecord (record_at es) r rs (record_at es r) refl (record_light es r each) (records_light es rs each)

-- under valid settings each may stand in a block alone
pub records_admissible : (s : Settings) (es : List EventParts) (rs : List Record) → IsValid s → All IsLight es →
    All (IsAdmissibleAlone (limits_of s)) (records_at es rs)
records_admissible s es rs valid each =
    All-weaker IsLightRecord (IsAdmissibleAlone (limits_of s)) (λ r light. one_is_admissible s r valid light) (records_at es rs) (records_light es rs each)
