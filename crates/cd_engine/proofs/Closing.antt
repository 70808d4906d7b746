-- The output of a compactor is that of the bytes fed, and so are its counts.
use Rattle.std.proofs.Common.{◌≡◌, ℕ, Bool, List, ◌++◌, length, ap, sym, ◌∙◌, subst}
use Rattle.cd_capture.specs.Formats.{capture}
use Rattle.cd_hints.specs.declared.settings.Settings.{Settings}
use Rattle.cd_ident.specs.Events.{EventParts}
use Rattle.cd_packet.specs.declared.capture.EndState.{EndState}
use Rattle.cd_packet.specs.declared.packet.Packet.{Packet}
use Rattle.cd_record.specs.Runs.{limits_of}
use Rattle.cd_engine.specs.Behaving.{closed_part_of_events, file_of_events, closed_part, whole_file, counts_in, all_records, runs_of}
use Rattle.cd_engine.specs.Blocks.{BlocksSeen, BlocksStand}
use Rattle.cd_engine.specs.Counting.{is_cut, record_counts, counts_of, held_in_64, held_record_counts}
use Rattle.cd_engine.specs.Events.{rules_of, events_of}
use Rattle.cd_engine.specs.Standing.{CompactorSeen, HasCompacted, CompactorStands}
use Rattle.cd_engine.specs.declared.counts.RecordCounts.{RecordCounts}
use Rattle.cd_engine.proofs.CountsFit.{counts_known}

-- what is closed, by the packets of the bytes
closed_known : (s : Settings) (bytes : List ℕ) (given : List Packet) → (capture bytes).packets ≡ given →
    closed_part_of_events s (events_of (rules_of s) given) ≡ closed_part s bytes
unfolding closed_part
closed_known s bytes given is = ap (λ ps. closed_part_of_events s (events_of (rules_of s) ps)) (sym is)

-- the whole file, by them
whole_known : (s : Settings) (bytes : List ℕ) (given : List Packet) → (capture bytes).packets ≡ given →
    file_of_events s (events_of (rules_of s) given) ≡ whole_file s bytes
unfolding whole_file
whole_known s bytes given is = ap (λ ps. file_of_events s (events_of (rules_of s) ps)) (sym is)

-- the output that was not cleared, after what was cleared
pub output_known : (c : CompactorSeen) (fed cleared output : List ℕ) →
    ((events : List EventParts) (gone : List ℕ) → BlocksStand c.blocks events gone →
    gone ++ output ≡ closed_part_of_events c.blocks.filing.settings events) → CompactorStands c fed cleared →
    cleared ++ output ≡ closed_part c.blocks.filing.settings fed
output_known c fed cleared output is h =
    is (events_of (rules_of c.blocks.filing.settings) h.on.given) cleared h.on.compacts.blocks
    ∙ closed_known c.blocks.filing.settings fed h.on.given h.all

-- it is cleared
pub cleared_stands : (c : CompactorSeen) (b : BlocksSeen) (fed cleared : List ℕ) → b.filing.settings ≡ c.blocks.filing.settings →
    ((events : List EventParts) (gone : List ℕ) → BlocksStand c.blocks events gone →
    BlocksStand b events (closed_part_of_events c.blocks.filing.settings events)) → CompactorStands c fed cleared →
    CompactorStands (record c { blocks = b }) fed (closed_part c.blocks.filing.settings fed)
cleared_stands c b fed cleared same is h =
    let s : Settings = c.blocks.filing.settings in
    let gone : List ℕ = closed_part s fed in
    let next : CompactorSeen = record c { blocks = b } in
    let P : Settings → Type 0 = λ t. HasCompacted (rules_of t) next h.on.given gone in
    let Q : List ℕ → Type 0 = λ t. BlocksStand b (events_of (rules_of s) h.on.given) t in
    let blocks : BlocksStand b (events_of (rules_of s) h.on.given) gone =
    subst Q (closed_known s fed h.on.given h.all) (is (events_of (rules_of s) h.on.given) cleared h.on.compacts.blocks) in
    let compacts : HasCompacted (rules_of s) next h.on.given gone =
    record { packets = h.on.compacts.packets; blocks = blocks } in
    record {
      on = record {
        given = h.on.given;
        reads = h.on.reads;
        room = h.on.room;
        small = h.on.small;
        compacts = subst P (sym same) compacts;
      };
      all = h.all;
    }

-- the output at the end, after what was cleared
pub whole_output : (c : CompactorSeen) (fed cleared output : List ℕ) →
    ((events : List EventParts) (gone : List ℕ) → BlocksStand c.blocks events gone →
    gone ++ output ≡ file_of_events c.blocks.filing.settings events) → CompactorStands c fed cleared →
    cleared ++ output ≡ whole_file c.blocks.filing.settings fed
whole_output c fed cleared output is h =
    is (events_of (rules_of c.blocks.filing.settings) h.on.given) cleared h.on.compacts.blocks
    ∙ whole_known c.blocks.filing.settings fed h.on.given h.all

-- the counts at the end
pub whole_counts : (c : CompactorSeen) (fed cleared : List ℕ) (end : EndState) (n : ℕ) (r : RecordCounts) (cut : Bool) →
    ((events : List EventParts) (gone : List ℕ) → BlocksStand c.blocks events gone →
    n ≡ held_in_64 (length (runs_of (limits_of c.blocks.filing.settings) (all_records c.blocks.filing.settings events)))) →
    ((events : List EventParts) (gone : List ℕ) → BlocksStand c.blocks events gone →
    r ≡ held_record_counts (record_counts c.blocks.filing.settings.params.rr_types (all_records c.blocks.filing.settings events))) →
    end ≡ (capture fed).end → cut ≡ is_cut end → CompactorStands c fed cleared →
    counts_of c.packets r n cut ≡ counts_in c.blocks.filing.settings fed
whole_counts c fed cleared end n r cut blocks records ends is h =
    let s : Settings = c.blocks.filing.settings in
    let events : List EventParts = events_of (rules_of s) h.on.given in
    counts_known s fed h.on.given c.packets r n cut h.all h.on.small h.on.compacts.packets
    (records events cleared h.on.compacts.blocks) (blocks events cleared h.on.compacts.blocks) (is ∙ ap is_cut ends)
