-- The block of a run, filled record by record.
use Rattle.std.proofs.Common.{◌≡◌, ℕ, ◌+◌, ◌<◌, List, [], ◌∷◌, ◌++◌, Option, length, map, take, cond, get_or, Bool, true, false, refl, ap, sym, ◌∙◌, subst}
use Rattle.std.specs.List.{All, filter}
use Rattle.std.specs.Prelude.{if◌then◌else◌}
use Rattle.cd_block.specs.declared.hints.TheConstants as hint
use Rattle.cd_hints.specs.Hinted.{is_hinted}
use Rattle.cd_hints.specs.Items.{kept_malformed}
use Rattle.std.specs.Option.{option_map_or}
use Rattle.std.proofs.lemmas.List.{get_or-map, length-map, map-append, append-nil}
use Rattle.std.proofs.lemmas.List.Elements.{All-filter, filter_passes, filter_more}
use Rattle.cd_block.specs.Tables.{indexed}
use Rattle.cd_block.specs.declared.block.Block.{Block}
use Rattle.cd_block.specs.declared.block.BlockItem.{BlockItem}
use Rattle.cd_block.specs.declared.block.BlockMalformed.{BlockMalformed}
use Rattle.cd_block.specs.declared.params.Params.{Params}
use Rattle.cd_block.specs.declared.stamp.Stamp.{Stamp}
use Rattle.cd_block.specs.declared.stats.Stats.{Stats}
use Rattle.cd_hints.specs.Records.{RecordParts, pair, unmatched_query, unmatched_response, malformed, discarded, record_parts, IsMalformed, is_item, is_malformed}
use Rattle.cd_hints.specs.declared.record.Rec.{Rec}
use Rattle.cd_record.specs.Blocks.{kept_block, kept_items, kept_malformed_items}
use Rattle.cd_record.specs.Earliest.{earliest_time}
use Rattle.cd_record.specs.Statistics.{statistics}
use Rattle.cd_table.specs.declared.tables.Tables.{Tables}
use Rattle.cd_table.specs.Growing.{After, each, put_item, put_malformed, no_tables, block_of, built}
use Rattle.cd_table.proofs.Built.{built_is_indexed}
use Rattle.cd_filling.specs.Filling.{empty_block}

-- the record at an index of a run, as clauses see it
pub parts_at : (recs : List Rec) (k : ℕ) (rec : Rec) → (k < length recs) × (rec ≡ get_or recs k rec) →
    (k < length (map record_parts recs)) × (record_parts rec ≡ get_or (map record_parts recs) k (record_parts rec))
parts_at recs k rec at =
    (rw length-map at.0, sym (get_or-map record_parts recs k rec (record_parts rec) at.0 ∙ ap record_parts (sym at.1)))

-- the malformed records so far are aside, with this one where it is malformed
pub aside_turn : (run : List RecordParts) (k : ℕ) (aside longer : List Rec) (rec : Rec) →
    (k < length run) × (record_parts rec ≡ get_or run k (record_parts rec)) →
    map record_parts aside ≡ filter is_malformed (take k run) →
    longer ≡ (if is_malformed (record_parts rec) then aside ++ rec ∷ [] else aside) →
    map record_parts longer ≡ filter is_malformed (take (k + 1) run)
aside_turn run k aside longer rec at so more =
    let r = record_parts rec in
    ap (map record_parts) more ∙ by_case (is_malformed r)
    ∙ ap (λ (x : RecordParts). filter is_malformed (take k run) ++ cond (is_malformed x) (x ∷ []) []) at.1
    ∙ sym (filter_more is_malformed run k r at.0) where
      by_case : (b : Bool) → map record_parts (if b then aside ++ rec ∷ [] else aside) ≡ filter is_malformed (take k run) ++ cond b (record_parts rec ∷ []) []
      by_case true = map-append record_parts aside (rec ∷ []) ∙ ap (λ l. l ++ record_parts rec ∷ []) so
      by_case false = so ∙ sym (append-nil (filter is_malformed (take k run)))

-- an item is no malformed record
pub item_not_malformed : (r : RecordParts) → is_item r ≡ true → is_malformed r ≡ false
item_not_malformed (pair query response) is = refl
item_not_malformed (unmatched_query e) is = refl
item_not_malformed (unmatched_response e) is = refl
item_not_malformed (malformed e) is = absurd (cc is)
item_not_malformed (discarded e) is = absurd (cc is)

-- the tables and the items after the items of a run were put
abbrev after_items : Params → List RecordParts → Option Stamp → After (List BlockItem)
after_items p run earliest = each put_item (option_map_or (kept_items p run) earliest []) no_tables

-- and after its malformed messages were put
abbrev after_all : Params → List RecordParts → Option Stamp → After (List BlockMalformed)
after_all p run earliest = each put_malformed (option_map_or (kept_malformed_items p run) earliest []) (after_items p run earliest).tables

-- the block of what was put
abbrev put_block : Params → List RecordParts → Option Stamp → Stats → Block
put_block p run earliest stats =
    block_of (empty_block earliest stats) (after_items p run earliest).value (after_all p run earliest).value (after_all p run earliest).tables

-- with its own earliest time and its own statistics it is the block of the run
put_is_indexed : (p : Params) (run : List RecordParts) → put_block p run (earliest_time p.ticks run) (statistics run) ≡ indexed (kept_block p run)
unfolding built
put_is_indexed p run = built_is_indexed (kept_block p run)

-- a block of these parts is the block of the run
pub filled : (p : Params) (run : List RecordParts) (earliest : Option Stamp) (stats : Stats) (items : List BlockItem) (messages : List BlockMalformed) (t : Tables) →
    earliest ≡ earliest_time p.ticks run → stats ≡ statistics run →
    items ≡ (after_items p run earliest).value → messages ≡ (after_all p run earliest).value → t ≡ (after_all p run earliest).tables →
    block_of (empty_block earliest stats) items messages t ≡ indexed (kept_block p run)
filled p run earliest stats items messages t time counts is ms ts =
    ap (λ (x : List BlockItem). block_of (empty_block earliest stats) x messages t) is
    ∙ ap (λ (x : List BlockMalformed). block_of (empty_block earliest stats) (after_items p run earliest).value x t) ms
    ∙ ap (λ (x : Tables). block_of (empty_block earliest stats) (after_items p run earliest).value (after_all p run earliest).value x) ts
    ∙ ap (λ (x : Option Stamp). put_block p run x stats) time
    ∙ ap (λ (x : Stats). put_block p run (earliest_time p.ticks run) x) counts
    ∙ put_is_indexed p run

-- what holds of each record of a run holds of each malformed one
pub kept_aside : (P : RecordParts → Type 0) (run aside : List RecordParts) → aside ≡ filter is_malformed run → All P run → All P aside
kept_aside P run aside is all = subst (All P) (sym is) (All-filter is_malformed P run all)

-- and each of these is malformed
pub aside_malformed : (run aside : List RecordParts) → aside ≡ filter is_malformed run → All IsMalformed aside
aside_malformed run aside is = subst (All IsMalformed) (sym is) (filter_passes is_malformed run)

-- the malformed messages that are put are those of the run
pub aside_put : (p : Params) (run aside : List RecordParts) (earliest : Stamp) (t u : Tables) →
    aside ≡ filter is_malformed run → u ≡ t →
    each put_malformed (if is_hinted p.hints.other hint.OTHER_MALFORMED then map (kept_malformed p earliest) aside else []) u ≡ each put_malformed (kept_malformed_items p run earliest) t
aside_put p run aside earliest t u is same =
    ap (λ (l : List RecordParts). each put_malformed (if is_hinted p.hints.other hint.OTHER_MALFORMED then map (kept_malformed p earliest) l else []) u) is
    ∙ ap (each put_malformed (kept_malformed_items p run earliest)) same
