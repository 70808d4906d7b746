-- How a compactor takes packets and chunks.
use Rattle.std.proofs.Common.{◌≡◌, ℕ, ◌+◌, ◌≤◌, ◌^◌, false, List, [], ◌∷◌, ◌++◌, Some, None, refl, ap, sym, ◌∙◌, subst, arith}
use Rattle.std.specs.List.{sum_by}
use Rattle.std.proofs.lemmas.List.{append-nil}
use Rattle.std.proofs.lemmas.List.Elements.{filter_map-append}
use Rattle.std.proofs.lemmas.List.Sums.{sum_by_push}
use Rattle.cd_capture.specs.Formats.{capture}
use Rattle.cd_capture.specs.Laws.{record_size}
use Rattle.cd_capture.specs.Reading.{Kept, StandsFor}
use Rattle.cd_capture.proofs.Telling.{packets-few}
use Rattle.cd_hints.specs.declared.settings.Settings.{Settings}
use Rattle.cd_ident.specs.Events.{EventParts}
use Rattle.cd_ident.specs.Keys.{parts_of}
use Rattle.cd_ident.specs.declared.event.Event.{Event}
use Rattle.cd_ident.specs.declared.event_rules.EventRules.{EventRules}
use Rattle.cd_packet.specs.Layers.{skipped, layer_of}
use Rattle.cd_packet.specs.declared.datagram.Reason.{Reason}
use Rattle.cd_packet.specs.declared.packet.Packet.{Packet}
use Rattle.cd_engine.specs.Blocks.{BlocksSeen, BlocksStand}
use Rattle.cd_engine.specs.Counting.{packet_counts_with, packet_counts_without, no_packet_counts}
use Rattle.cd_engine.specs.Events.{rules_of, event_of, events_of}
use Rattle.cd_engine.specs.Standing.{CompactorSeen, HasCompacted, ReadsOn, CompactorStands}
use Rattle.cd_engine.specs.declared.counts.PacketCounts.{PacketCounts}
use Rattle.cd_engine.proofs.PacketCounting.{packets_more, packets_without, skipped_event}

-- the event of one packet more
event_one : (rules : EventRules) (p : Packet) (e : EventParts) → event_of rules p ≡ Some e → events_of rules (p ∷ []) ≡ e ∷ []
event_one rules p e is = rw is refl

-- the event of one packet more is compacted
pub compacted_more : (rules : EventRules) (old new : CompactorSeen) (given : List Packet) (cleared : List ℕ) (p : Packet) (e : Event) →
    HasCompacted rules old given cleared → event_of rules p ≡ Some (parts_of e) → new.packets ≡ packet_counts_with old.packets e.kind →
    BlocksStand new.blocks (events_of rules given ++ parts_of e ∷ []) cleared → HasCompacted rules new (given ++ p ∷ []) cleared
compacted_more rules old new given cleared p e h some packets blocks =
    let more : events_of rules (given ++ p ∷ []) ≡ events_of rules given ++ parts_of e ∷ [] =
    filter_map-append (event_of rules) given (p ∷ []) ∙ ap (λ t. events_of rules given ++ t) (event_one rules p (parts_of e) some) in
    let P : List EventParts → Type 0 = λ es. BlocksStand new.blocks es cleared in
    record {
      packets = packets ∙ ap (λ c. packet_counts_with c e.kind) h.packets ∙ packets_more rules given p (parts_of e) some;
      blocks = subst P (sym more) blocks;
    }

none_one : (rules : EventRules) (p : Packet) → event_of rules p ≡ None → events_of rules (p ∷ []) ≡ []
none_one rules p is = rw is refl

-- one packet more is skipped
pub skipped_more : (rules : EventRules) (old new : CompactorSeen) (given : List Packet) (cleared : List ℕ) (p : Packet) (why : Reason) →
    HasCompacted rules old given cleared → layer_of rules.port p ≡ skipped why → new.packets ≡ packet_counts_without old.packets why →
    new.blocks ≡ old.blocks → HasCompacted rules new (given ++ p ∷ []) cleared
skipped_more rules old new given cleared p why h is packets same =
    let none : events_of rules (p ∷ []) ≡ [] = none_one rules p (skipped_event rules p why is) in
    let more : events_of rules (given ++ p ∷ []) ≡ events_of rules given =
    filter_map-append (event_of rules) given (p ∷ []) ∙ ap (λ t. events_of rules given ++ t) none ∙ append-nil (events_of rules given) in
    let P : BlocksSeen → List EventParts → Type 0 = λ b es. BlocksStand b es cleared in
    record {
      packets = packets ∙ ap (λ c. packet_counts_without c why) h.packets ∙ packets_without rules given p why is;
      blocks = subst (λ (b : BlocksSeen). P b (events_of rules (given ++ p ∷ []))) (sym same)
          (subst (λ (es : List EventParts). P old.blocks es) (sym more) h.blocks);
    }

-- What is compacted as the next packet is given: it has room in the bytes that are passed.
pub reads_more : (rules now : EventRules) (old new : CompactorSeen) (r : Kept) (fed cleared : List ℕ) (p : Packet) (h : ReadsOn rules old fed cleared) →
    now ≡ rules → StandsFor new.reader fed (h.given ++ p ∷ []) → new.reader.passed ≡ old.reader.passed + record_size p → new.reader.passed ≤ 2 ^ 48 →
    (HasCompacted now (record old { reader = r }) h.given cleared → HasCompacted now new (h.given ++ p ∷ []) cleared) → ReadsOn rules new fed cleared
reads_more rules now old new r fed cleared p h same reads passed few step =
    let sum : sum_by record_size (h.given ++ p ∷ []) ≡ sum_by record_size h.given + record_size p = sum_by_push record_size h.given p in
    let before : HasCompacted rules (record old { reader = r }) h.given cleared =
    record { packets = h.compacts.packets; blocks = h.compacts.blocks } in
    let P : EventRules → Type 0 = λ rs. HasCompacted rs (record old { reader = r }) h.given cleared in
    let Q : EventRules → Type 0 = λ rs. HasCompacted rs new (h.given ++ p ∷ []) cleared in
    record {
      given = h.given ++ p ∷ [];
      reads = reads;
      room = omega (arith, sum, h.room, passed);
      small = omega (arith, sum, h.room, passed, few);
      compacts = subst Q same (step (subst P (sym same) before));
    }

-- all packets of the bytes fed are compacted
pub all_taken : (rules : EventRules) (old new : CompactorSeen) (fed cleared : List ℕ) (h : ReadsOn rules old fed cleared) →
    rules ≡ rules_of new.blocks.filing.settings → new.packets ≡ old.packets → new.blocks ≡ old.blocks →
    new.reader.passed ≡ old.reader.passed → StandsFor new.reader fed h.given → (capture fed).packets ≡ h.given → CompactorStands new fed cleared
all_taken rules old new fed cleared h same packets blocks passed reads all =
    let P : EventRules → Type 0 = λ rs. HasCompacted rs new h.given cleared in
    let B : BlocksSeen → Type 0 = λ b. BlocksStand b (events_of rules h.given) cleared in
    let compacts : HasCompacted rules new h.given cleared =
    record { packets = packets ∙ h.compacts.packets; blocks = subst B (sym blocks) h.compacts.blocks } in
    record {
      on = record {
        given = h.given;
        reads = reads;
        room = omega (arith, h.room, passed);
        small = h.small;
        compacts = subst P same compacts;
      };
      all = all;
    }

-- a chunk is fed, and the packets given before are compacted
pub chunk_reads : (c : CompactorSeen) (r : Kept) (fed chunk cleared : List ℕ) →
    ((given : List Packet) → StandsFor c.reader fed given → StandsFor r (fed ++ chunk) given) → c.reader.passed ≤ r.passed →
    CompactorStands c fed cleared → ReadsOn (rules_of c.blocks.filing.settings) (record c { reader = r }) (fed ++ chunk) cleared
chunk_reads c r fed chunk cleared reads more h = record {
  given = h.on.given;
  reads = reads h.on.given h.on.reads;
  room = omega (arith, h.on.room, more);
  small = h.on.small;
  compacts = record { packets = h.on.compacts.packets; blocks = h.on.compacts.blocks };
}

-- a compactor that was fed nothing
pub new_stands : (r : Kept) (p : PacketCounts) (b : BlocksSeen) → StandsFor r [] [] → p ≡ no_packet_counts →
    BlocksStand b [] [] → CompactorStands (record { reader = r; packets = p; blocks = b }) [] []
new_stands r p b reads packets blocks = record {
  on = record {
    given = [];
    reads = reads;
    room = omega arith;
    small = omega arith;
    compacts = record { packets = packets; blocks = blocks };
  };
  all = packets-few [] (omega arith);
}

-- the rules that are kept are those of the settings
pub rules_kept : (rules : EventRules) (b head : BlocksSeen) (s : Settings) → b ≡ head → head.spent ≡ false →
    (b.spent ≡ false → rules ≡ rules_of b.filing.settings) → head.filing.settings ≡ s → rules ≡ rules_of s
rules_kept rules b head s is fresh kept same =
    kept (ap (λ (x : BlocksSeen). x.spent) is ∙ fresh) ∙ ap (λ (x : BlocksSeen). rules_of x.filing.settings) is ∙ ap rules_of same
