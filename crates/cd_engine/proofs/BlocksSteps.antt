-- What blocks stand for, step by step.
use Rattle.std.proofs.Common.{◌≡◌, ℕ, true, List, [], ◌∷◌, ◌++◌, length, map, Some, refl, ap, sym, ◌∙◌, subst}
use Rattle.std.proofs.lemmas.List.{map_push}
use Rattle.std.proofs.lemmas.List.Elements.{All-nil, All-push}
use Rattle.cd_file.specs.Files.{file_begun, file_of}
use Rattle.cd_hints.specs.Records.{RecordParts, HasKinds}
use Rattle.cd_hints.specs.declared.settings.Settings.{Settings}
use Rattle.cd_ident.specs.Events.{EventParts}
use Rattle.cd_ident.specs.Keys.{parts_of, view_of}
use Rattle.cd_ident.specs.declared.event.Event.{Event}
use Rattle.cd_pairing.specs.declared.keyed.Windows.{Windows}
use Rattle.cd_record.specs.Runs.{limits_of}
use Rattle.cd_window.specs.History.{StandsFor, listed}
use Rattle.cd_window.specs.Pops.{IsPopped}
use Rattle.cd_window.specs.Seen.{Seen, empty_window}
use Rattle.cd_window.specs.declared.released.Released.{Released}
use Rattle.cd_engine.specs.Behaving.{cut_of, runs_of, settled_records, all_records, file_of_events, closed_part_of_events}
use Rattle.cd_engine.specs.Blocks.{released_parts, HoldsTraffic, BlocksSeen, IsDrained, BlocksStand, blocks_seen, FilesPopped, FilesReady}
use Rattle.cd_engine.specs.Compactions.{blocks_of}
use Rattle.cd_engine.specs.Counting.{held_in_64, record_counts, held_record_counts}
use Rattle.cd_engine.specs.Filing.{Filed, FilingStands, nothing_filed, filed_more, ending_of, blocks_at_end}
use Rattle.cd_engine.specs.Records.{windows_of}
use Rattle.cd_engine.proofs.FilingSteps.{nothing_stands, more_stands, more_settings, cleared_stands, ended_is, ended_blocks}
use Rattle.cd_engine.proofs.ReleasedParts.{settled_told, all_told}
use Rattle.cd_engine.proofs.Traffic.{nothing_held, traffic_popped, popped_same, popped_kinds}

-- without an event no record is ready
pub new_drained : (s : Settings) (windows : Windows) (w : Seen Event) (f : Filed) → windows ≡ windows_of s →
    w ≡ empty_window windows → f ≡ nothing_filed s → IsDrained w f
new_drained s windows w f same e g =
    let P : Seen Event → Type 0 = λ v. IsDrained v f in
    let Q : Filed → Type 0 = λ v. IsDrained (empty_window windows) v in
    subst P (sym e) (subst Q (sym g) (record {
      windows = same;
      going = refl;
      due = refl;
      trimmed = λ _. refl;
      traffic = nothing_held windows;
    }))

-- no event yet
pub new_stands : (s : Settings) (w : Seen Event) (f : Filed) → StandsFor view_of w [] [] → f ≡ nothing_filed s →
    BlocksStand (blocks_seen w f) [] []
new_stands s w f S e = record {
  fresh = refl;
  pushed = [];
  events_are = refl;
  popped = [];
  kinds = All-nil (λ (r : Released Event). HasKinds (released_parts r));
  window = S;
  filing = subst (λ (g : Filed). FilingStands g [] []) (sym e) (nothing_stands s);
}

-- what stands for a history is not spent
pub as_fresh : (b : BlocksSeen) (events : List EventParts) (cleared : List ℕ) → BlocksStand b events cleared →
    BlocksStand (blocks_seen b.window b.filing) events cleared
as_fresh b events cleared B = record {
  fresh = refl;
  pushed = B.pushed;
  events_are = B.events_are;
  popped = B.popped;
  kinds = B.kinds;
  window = B.window;
  filing = B.filing;
}

-- the next event is pushed
pub pushed_history : (w : Seen Event) (f : Filed) (e : Event) (new : Seen Event) →
    ((pushed : List Event) (popped : List (Released Event)) → StandsFor view_of w pushed popped → StandsFor view_of new (pushed ++ e ∷ []) popped) →
    (events : List EventParts) (cleared : List ℕ) → BlocksStand (blocks_seen w f) events cleared →
    BlocksStand (blocks_seen new f) (events ++ parts_of e ∷ []) cleared
pushed_history w f e new stands events cleared B = record {
  fresh = refl;
  pushed = B.pushed ++ e ∷ [];
  events_are = map_push parts_of B.pushed e ∙ ap (λ (es : List EventParts). es ++ parts_of e ∷ []) B.events_are;
  popped = B.popped;
  kinds = B.kinds;
  window = stands B.pushed B.popped B.window;
  filing = B.filing;
}

one_filed : (w : Seen Event) (f : Filed) (r : Released Event) (new : Seen Event) → HasKinds (released_parts r) →
    ((pushed : List Event) (popped : List (Released Event)) → StandsFor view_of w pushed popped → StandsFor view_of new pushed (popped ++ r ∷ [])) →
    (events : List EventParts) (cleared : List ℕ) → BlocksStand (blocks_seen w f) events cleared →
    BlocksStand (blocks_seen new (filed_more f (released_parts r))) events cleared
one_filed w f r new kinds stands events cleared B = record {
  fresh = refl;
  pushed = B.pushed;
  events_are = B.events_are;
  popped = B.popped ++ r ∷ [];
  kinds = All-push (λ (x : Released Event). HasKinds (released_parts x)) B.popped r B.kinds kinds;
  window = stands B.pushed B.popped B.window;
  filing = subst (λ (rs : List RecordParts). FilingStands (filed_more f (released_parts r)) rs cleared) (sym (map_push released_parts B.popped r))
      (more_stands f (map released_parts B.popped) cleared (released_parts r) B.filing);
}

-- one more record is popped and filed
pub files_more : (w : Seen Event) (f : Filed) (before : Seen Event) (filed : Filed) (r : Released Event) (new : Seen Event) (more : Filed) →
    FilesPopped w f before filed → IsPopped view_of before (Some r) new →
    ((pushed : List Event) (popped : List (Released Event)) → StandsFor view_of before pushed popped → StandsFor view_of new pushed (popped ++ listed (Some r))) →
    more ≡ filed_more filed (released_parts r) → FilesPopped w f new more
files_more w f before filed r new more F P stands e =
    let same = popped_same before r new P in
    record {
      history = λ events cleared B. subst (λ (g : Filed). BlocksStand (blocks_seen new g) events cleared) (sym e)
          (one_filed before filed r new (popped_kinds before r new F.traffic P) stands events cleared (F.history events cleared B));
      windows = same.windows ∙ F.windows;
      finished = same.finished ∙ F.finished;
      weight_sum = same.weight_sum ∙ F.weight_sum;
      settings = ap (λ (g : Filed). g.settings) e ∙ more_settings filed (released_parts r) ∙ F.settings;
      trimmed = same.trimmed;
      traffic = traffic_popped before r new F.traffic P;
    }

-- the output is the front of the file that is closed
pub output_is : (w : Seen Event) (f : Filed) → IsDrained w f → (events : List EventParts) (cleared : List ℕ) →
    BlocksStand (blocks_seen w f) events cleared → cleared ++ f.output ≡ closed_part_of_events f.settings events
unfolding closed_part_of_events
output_is w f D events cleared B =
    let s : Settings = f.settings in
    let rs = settled_told s w B.pushed B.popped B.window B.kinds D.windows D.trimmed D.due D.going in
    B.filing.output ∙ ap (λ (xs : List RecordParts). file_begun s.params (blocks_of s.params (cut_of (limits_of s) xs).closed)) (rs ∙ ap (settled_records s) B.events_are)

-- and is cleared
pub cleared_history : (w : Seen Event) (f : Filed) → IsDrained w f → (events : List EventParts) (cleared : List ℕ) →
    BlocksStand (blocks_seen w f) events cleared →
    BlocksStand (blocks_seen w (record f { output = [] })) events (closed_part_of_events f.settings events)
cleared_history w f D events cleared B = record {
  fresh = refl;
  pushed = B.pushed;
  events_are = B.events_are;
  popped = B.popped;
  kinds = B.kinds;
  window = B.window;
  filing = subst (λ (xs : List ℕ). FilingStands (record f { output = [] }) (map released_parts B.popped) xs) (output_is w f D events cleared B)
      (cleared_stands f (map released_parts B.popped) cleared B.filing);
}

-- the end is told
pub told_history : (w : Seen Event) (f : Filed) (told : Seen Event) →
    ((pushed : List Event) (popped : List (Released Event)) → StandsFor view_of w pushed popped → StandsFor view_of told pushed popped) →
    (events : List EventParts) (cleared : List ℕ) → BlocksStand (blocks_seen w f) events cleared → BlocksStand (blocks_seen told f) events cleared
told_history w f told stands events cleared B = record {
  fresh = refl;
  pushed = B.pushed;
  events_are = B.events_are;
  popped = B.popped;
  kinds = B.kinds;
  window = stands B.pushed B.popped B.window;
  filing = B.filing;
}

-- what is filed where all records of the events are
pub record FilesAll (s : Settings) (f : Filed) (events : List EventParts) (cleared : List ℕ) : Type 0 where
  pub output : cleared ++ (f.output ++ ending_of f) ≡ file_of_events s events
  pub blocks : blocks_at_end f ≡ held_in_64 (length (runs_of (limits_of s) (all_records s events)))
  pub counts : f.counts ≡ held_record_counts (record_counts s.params.rr_types (all_records s events))

files_all_of : (f : Filed) (rs : List RecordParts) (events : List EventParts) (cleared : List ℕ) → FilingStands f rs cleared →
    rs ≡ all_records f.settings events → FilesAll f.settings f events cleared
unfolding file_of_events
files_all_of f rs events cleared S e =
    let s : Settings = f.settings in
    record {
      output = ended_is f rs cleared S ∙ ap (λ (xs : List RecordParts). file_of s.params (blocks_of s.params (runs_of (limits_of s) xs))) e;
      blocks = ended_blocks f rs cleared S ∙ ap (λ (xs : List RecordParts). held_in_64 (length (runs_of (limits_of s) xs))) e;
      counts = S.counts ∙ ap (λ (xs : List RecordParts). held_record_counts (record_counts s.params.rr_types xs)) e;
    }

-- all is filed where the end was told and no record is ready
pub files_all : (w : Seen Event) (f : Filed) (told : Seen Event) (new : Seen Event) (filed : Filed) → IsDrained w f →
    ((pushed : List Event) (popped : List (Released Event)) → StandsFor view_of w pushed popped → StandsFor view_of told pushed popped) →
    told ≡ record w { finished = true } → FilesReady told f new filed →
    (events : List EventParts) (cleared : List ℕ) → BlocksStand (blocks_seen w f) events cleared → FilesAll f.settings filed events cleared
files_all w f told new filed D stands e R events cleared B =
    let last = R.filed.history events cleared (told_history w f told stands events cleared B) in
    let windows = R.filed.windows ∙ ap (λ (x : Seen Event). x.windows) e ∙ D.windows ∙ sym (ap windows_of R.filed.settings) in
    let done = R.filed.finished ∙ ap (λ (x : Seen Event). x.finished) e in
    let rs = all_told filed.settings new last.pushed last.popped last.window last.kinds windows R.filed.trimmed R.idle done in
    subst (λ (s : Settings). FilesAll s filed events cleared) R.filed.settings
    (files_all_of filed (map released_parts last.popped) events cleared last.filing (rs ∙ ap (all_records filed.settings) last.events_are))

-- what the end of a window leaves of its traffic
pub told_traffic : (w : Seen Event) (told : Seen Event) → told ≡ record w { finished = true } → HoldsTraffic w → HoldsTraffic told
told_traffic w told e T =
    let T2 : HoldsTraffic (record w { finished = true }) = record { light = T.light; within = T.within; opposite = T.opposite } in
    subst (λ (x : Seen Event). HoldsTraffic x) (sym e) T2
