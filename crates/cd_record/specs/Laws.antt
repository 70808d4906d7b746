-- Laws of runs.
use Rattle.std.specs.Prelude.{◌≡◌, ◌≤◌, List, [], ◌∷◌}
use Rattle.std.specs.List.{All}
use Rattle.cd_ident.specs.Events.{EventParts}
use Rattle.cd_ident.specs.declared.event_making.TheConstants.{GREATEST_WEIGHT}
use Rattle.cd_hints.specs.Records.{RecordParts, pair, unmatched_query, unmatched_response, malformed, discarded}
use Rattle.cd_hints.specs.Validity.{IsValid}
use Rattle.cd_hints.specs.declared.settings.Settings.{Settings}
use Rattle.cd_record.specs.Runs.{Limits, limits_of, IsAdmissible, AreRuns}

-- a record that may stand in a block alone
abbrev pub IsAdmissibleAlone : Limits → RecordParts → Type 0
IsAdmissibleAlone limits r = IsAdmissible limits (r ∷ [])

-- records have these runs and no others
pub record HaveOneCut (limits : Limits) (records : List RecordParts) : Type 0 where
  pub runs : List (List RecordParts)
  pub holds : AreRuns limits records runs
  pub only : (other : List (List RecordParts)) → AreRuns limits records other → other ≡ runs

-- records of which each may stand in a block alone are cut into runs in exactly one way
abbrev pub RunsAreOne : Type 0
RunsAreOne = (limits : Limits) (records : List RecordParts) → All (IsAdmissibleAlone limits) records → HaveOneCut limits records

-- the event weighs at most `GREATEST_WEIGHT`, as those of datagrams do
abbrev pub IsLight : EventParts → Type 0
IsLight e = e.weight ≤ GREATEST_WEIGHT

-- the events of a record
abbrev pub events_of : RecordParts → List EventParts
events_of (pair query response) = query ∷ response ∷ []
events_of (unmatched_query e) = e ∷ []
events_of (unmatched_response e) = e ∷ []
events_of (malformed e) = e ∷ []
events_of (discarded e) = e ∷ []

-- a record whose events weigh no more than those of datagrams may stand in a block alone, whatever the valid settings are
abbrev pub OneRecordIsAdmissible : Type 0
OneRecordIsAdmissible = (settings : Settings) (r : RecordParts) → IsValid settings → All IsLight (events_of r) →
    IsAdmissibleAlone (limits_of settings) r
