-- The records that were popped are those of the events that were pushed.
use Rattle.std.proofs.Common.{◌≡◌, ℕ, true, false, List, [], ◌∷◌, map, Option, Some, refl, ap, sym, ◌∙◌, subst, inl, inr}
use Rattle.std.specs.Prelude.{slice_get, option_and_then}
use Rattle.std.specs.List.{All, cons_option}
use Rattle.std.specs.Option.{option_map}
use Rattle.std.proofs.lemmas.Option.{slice_get-map}
use Rattle.std.proofs.lemmas.List.Elements.{All-head, All-tail}
use Rattle.cd_hints.specs.Records.{RecordParts, HasKinds}
use Rattle.cd_hints.specs.declared.settings.Settings.{Settings}
use Rattle.cd_ident.specs.Events.{EventParts}
use Rattle.cd_ident.specs.Keys.{parts_of, view_of}
use Rattle.cd_ident.specs.declared.event.Event.{Event}
use Rattle.cd_ident.specs.declared.event.Kind.{Kind}
use Rattle.cd_pairing.specs.Events.{EventView}
use Rattle.cd_pairing.specs.Records.{Record, pair, single, records, released_records}
use Rattle.cd_pairing.specs.declared.keyed.Windows.{Windows}
use Rattle.cd_window.proofs.Ready.{due_is_popped}
use Rattle.cd_window.specs.History.{IsRecord, AreRecords, StandsFor}
use Rattle.cd_window.specs.Pops.{IsTrimmed}
use Rattle.cd_window.specs.Seen.{Seen, is_ready}
use Rattle.cd_window.specs.declared.released.Released.{Released}
use Rattle.cd_window.specs.declared.released.Released.TheVariants.{Pair, One}
use Rattle.cd_engine.specs.Behaving.{partners_of, settled_records, all_records}
use Rattle.cd_engine.specs.Blocks.{released_parts}
use Rattle.cd_engine.specs.RecordsGo.{partners_pair}
use Rattle.cd_engine.specs.Records.{windows_of, views_of, single_record, pair_of_kind, pair_record, record_at, records_at}

-- the parts of an event that was pushed stand at its position
parts_at : (pushed : List Event) (i : ℕ) (e : Event) → slice_get pushed i ≡ Some e →
    slice_get (map parts_of pushed) i ≡ Some (parts_of e)
parts_at pushed i e at = slice_get-map parts_of pushed i ∙ ap (λ (o : Option Event). option_map parts_of o) at

-- two events at their positions are one record
pair_at : (events : List EventParts) (i j : ℕ) (earlier later : EventParts) → slice_get events i ≡ Some earlier →
    slice_get events j ≡ Some later → record_at events (pair i j) ≡ Some (pair_record earlier later)
pair_at events i j earlier later p q =
    ap (λ (o : Option EventParts). option_and_then (λ (x : EventParts). option_map (pair_record x) (slice_get events j)) o) p
    ∙ ap (λ (o : Option EventParts). option_map (pair_record earlier) o) q

-- a popped record is the record of its positions
told_at : (pushed : List Event) (r : Record) (x : Released Event) → IsRecord view_of pushed r x → HasKinds (released_parts x) →
    record_at (map parts_of pushed) r ≡ Some (released_parts x)
told_at pushed (single i) (One lead e) h kinds =
    ap (λ (o : Option EventParts). option_map single_record o) (parts_at pushed i e h.1)
told_at pushed (pair i j) (Pair lead query response) h kinds = elim h.1 [
  | inl A ↦ pair_at (map parts_of pushed) i j (parts_of query) (parts_of response) (parts_at pushed i query A.query_at) (parts_at pushed j response A.response_at)
      ∙ ap (λ (k : Kind). Some (pair_of_kind k (parts_of query) (parts_of response))) kinds.0
  | inr A ↦ pair_at (map parts_of pushed) i j (parts_of response) (parts_of query) (parts_at pushed i response A.response_at) (parts_at pushed j query A.query_at)
      ∙ ap (λ (k : Kind). Some (pair_of_kind k (parts_of response) (parts_of query))) kinds.1
]
told_at pushed (pair i j) (One lead e) h kinds = absurd h
told_at pushed (single i) (Pair lead query response) h kinds = absurd h

-- popped records are the records of their positions, one by one
records_told : (pushed : List Event) (rs : List Record) (popped : List (Released Event)) → AreRecords view_of pushed rs popped →
    All (λ x. HasKinds (released_parts x)) popped → map released_parts popped ≡ records_at (map parts_of pushed) rs
records_told pushed [] [] h kinds = refl
records_told pushed (r ∷ rs) (x ∷ xs) h kinds =
    let P : Released Event → Type 0 = λ y. HasKinds (released_parts y) in
    ap (λ (ys : List RecordParts). released_parts x ∷ ys) (records_told pushed rs xs h.1 (All-tail P x xs kinds))
    ∙ sym (ap (λ (o : Option RecordParts). cons_option o (records_at (map parts_of pushed) rs)) (told_at pushed r x h.0 (All-head P x xs kinds)))
records_told pushed [] (x ∷ xs) h kinds = absurd h
records_told pushed (r ∷ rs) [] h kinds = absurd h

-- what events show to the pairing, they show by their parts
views_told : (pushed : List Event) → map view_of pushed ≡ views_of (map parts_of pushed)
views_told [] = refl
views_told (e ∷ pushed) = ap (λ (vs : List EventView). view_of e ∷ vs) (views_told pushed)

-- where no record is ready, what was popped before the end was told is what no later event changes
due_told : (s : Settings) (w : Seen Event) (pushed : List Event) (popped : List (Released Event)) →
    StandsFor view_of w pushed popped → w.windows ≡ windows_of s → IsTrimmed w → is_ready view_of w ≡ false → w.finished ≡ false →
    AreRecords view_of pushed (released_records (windows_of s) (views_of (map parts_of pushed)) (partners_of (windows_of s) (views_of (map parts_of pushed)))) popped
due_told s w pushed popped S same trim idle going =
    let known = (due_is_popped view_of w pushed popped (partners_of w.windows (map view_of pushed)) S trim idle (partners_pair w.windows (map view_of pushed))).0 going in
    subst (λ (views : List EventView). AreRecords view_of pushed (released_records (windows_of s) views (partners_of (windows_of s) views)) popped) (views_told pushed)
    (subst (λ (windows : Windows). AreRecords view_of pushed (released_records windows (map view_of pushed) (partners_of windows (map view_of pushed))) popped) same known)

pub settled_told : (s : Settings) (w : Seen Event) (pushed : List Event) (popped : List (Released Event)) →
    StandsFor view_of w pushed popped → All (λ x. HasKinds (released_parts x)) popped → w.windows ≡ windows_of s → IsTrimmed w → is_ready view_of w ≡ false → w.finished ≡ false →
    map released_parts popped ≡ settled_records s (map parts_of pushed)
unfolding settled_records
settled_told s w pushed popped S kinds same trim idle going =
    records_told pushed _ popped (due_told s w pushed popped S same trim idle going) kinds

-- after the end was told it is all records
whole_told : (s : Settings) (w : Seen Event) (pushed : List Event) (popped : List (Released Event)) →
    StandsFor view_of w pushed popped → w.windows ≡ windows_of s → IsTrimmed w → is_ready view_of w ≡ false → w.finished ≡ true →
    AreRecords view_of pushed (records (partners_of (windows_of s) (views_of (map parts_of pushed)))) popped
whole_told s w pushed popped S same trim idle done =
    let known = (due_is_popped view_of w pushed popped (partners_of w.windows (map view_of pushed)) S trim idle (partners_pair w.windows (map view_of pushed))).1 done in
    subst (λ (views : List EventView). AreRecords view_of pushed (records (partners_of (windows_of s) views)) popped) (views_told pushed)
    (subst (λ (windows : Windows). AreRecords view_of pushed (records (partners_of windows (map view_of pushed))) popped) same known)

pub all_told : (s : Settings) (w : Seen Event) (pushed : List Event) (popped : List (Released Event)) →
    StandsFor view_of w pushed popped → All (λ x. HasKinds (released_parts x)) popped → w.windows ≡ windows_of s → IsTrimmed w → is_ready view_of w ≡ false → w.finished ≡ true →
    map released_parts popped ≡ all_records s (map parts_of pushed)
unfolding all_records
all_told s w pushed popped S kinds same trim idle done =
    records_told pushed _ popped (whole_told s w pushed popped S same trim idle done) kinds
