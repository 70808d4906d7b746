-- What a reader that stands for a history knows of the bytes fed, and how it goes on, from what the reader of the format
-- does.
use Rattle.std.proofs.Common.{◌≡◌, ℕ, ◌+◌, ◌<◌, ◌≤◌, true, false, List, [], ◌++◌, length, Option, Some, None, Result, Ok, Err, refl, ap, sym, ◌∙◌, arith, subst, length-append}
use Rattle.std.specs.List.{sum_by}
use Rattle.std.specs.declared.alloc.AllocError.{AllocError}
use Rattle.arrayvec.specs.ArrayVec.{ArrayVec}
use Rattle.cd_packet.specs.Capture.{Capture}
use Rattle.cd_packet.specs.declared.capture.BadCapture.{BadCapture}
use Rattle.cd_packet.specs.declared.capture.EndState.{EndState}
use Rattle.cd_packet.specs.declared.capture.EndState.TheVariants as end
use Rattle.cd_packet.specs.declared.capture.FeedFault.{FeedFault}
use Rattle.cd_packet.specs.declared.capture.FeedFault.TheVariants.{Bad, NoMemory}
use Rattle.cd_packet.specs.declared.packet.Packet.{Packet}
use Rattle.cd_pcap.specs.Pcap.{pcap}
use Rattle.cd_pcap.specs.Giving as pcap_giving
use Rattle.cd_pcap.specs.Reading as pcap_reader
use Rattle.cd_pcap.proofs.Refusals as pcap_refusals
use Rattle.cd_pcap.proofs.Standing as pcap_standing
use Rattle.cd_pcapng.specs.Blocks.{is_section_header}
use Rattle.cd_pcapng.specs.Giving as pcapng_giving
use Rattle.cd_pcapng.specs.Laws.{least_block_length}
use Rattle.cd_pcapng.specs.Pcapng.{pcapng}
use Rattle.cd_pcapng.specs.Reading as pcapng_reader
use Rattle.cd_pcapng.proofs.Capturing.{pcapng-none}
use Rattle.cd_pcapng.proofs.Standing as pcapng_standing
use Rattle.cd_capture.specs.Formats.{capture}
use Rattle.cd_capture.specs.Giving.{Feeds, RefusesAgain, Gives, AnswersFor}
use Rattle.cd_capture.specs.Laws.{GivenAreFirst}
use Rattle.cd_capture.specs.Reading.{kept_at, StageStands, refusal_in, refusal_of}
use Rattle.cd_capture.specs.declared.stage.Stage.{Stage}
use Rattle.cd_capture.specs.declared.stage.Stage.TheVariants.{Undecided, Pcap, Pcapng}
use Rattle.cd_capture.proofs.Growing.{refusal-many, refusal-few}
use Rattle.cd_capture.proofs.Telling.{capture-section, capture-other, front-other, front-section, section-append}

-- the refused place is the same, as a pcap capture
pcap_refusal : (e : EndState) → pcap_reader.refusal_in e ≡ refusal_in e
pcap_refusal end.Whole = refl
pcap_refusal end.Cut = refl
pcap_refusal (end.Bad bad) = refl

pub refusal-other : (bytes : List ℕ) → 4 ≤ length bytes → is_section_header bytes ≡ false →
    refusal_of bytes ≡ pcap_reader.refusal_of bytes
refusal-other bytes many other =
    refusal-many bytes many ∙ ap (λ (c : Capture). refusal_in c.end) (capture-other bytes other)
    ∙ sym (pcap_refusals.refusal-many bytes many ∙ pcap_refusal (pcap bytes).end)

-- the same, as a pcapng capture
pcapng_refusal : (e : EndState) → pcapng_reader.refusal_in e ≡ refusal_in e
pcapng_refusal end.Whole = refl
pcapng_refusal end.Cut = refl
pcapng_refusal (end.Bad bad) = refl

pub refusal-section : (bytes : List ℕ) → 4 ≤ length bytes → is_section_header bytes ≡ true →
    refusal_of bytes ≡ pcapng_reader.refusal_of bytes
refusal-section bytes many header =
    refusal-many bytes many ∙ ap (λ (c : Capture). refusal_in c.end) (capture-section bytes header)
    ∙ sym (pcapng_standing.refusal-many bytes many ∙ pcapng_refusal (pcapng bytes).end)

-- more bytes are not fewer
four_more : (bytes more : List ℕ) → 4 ≤ length bytes → 4 ≤ length (bytes ++ more)
four_more bytes more many = omega (arith, length-append bytes more)

-- a chunk of a pcap capture is fed
pub pcap_feeds : {U : Type 0} (old new : pcap_reader.Kept) (chunk : List ℕ) (result : Result U FeedFault) →
    ((fed : List ℕ) (given : List Packet) → pcap_reader.StandsFor old fed given →
    pcap_giving.Feeds new (fed ++ chunk) given result) →
    (fed : List ℕ) (given : List Packet) → StageStands (Pcap old) fed given →
    Feeds (kept_at (Pcap new)) (fed ++ chunk) given result
pcap_feeds old new chunk (Ok u) feeds fed given h =
    let k = feeds fed given h.2 in
    let many : 4 ≤ length (fed ++ chunk) = four_more fed chunk h.0 in
    let other : is_section_header (fed ++ chunk) ≡ false = section-append fed chunk h.0 ∙ h.1 in
    ((many, other, k.0), refusal-other (fed ++ chunk) many other ∙ k.1)
pcap_feeds old new chunk (Err (Bad bad)) feeds fed given h =
    let k = feeds fed given h.2 in
    let many : 4 ≤ length (fed ++ chunk) = four_more fed chunk h.0 in
    let other : is_section_header (fed ++ chunk) ≡ false = section-append fed chunk h.0 ∙ h.1 in
    ((many, other, k.0), refusal-other (fed ++ chunk) many other ∙ k.1)
pcap_feeds old new chunk (Err NoMemory) feeds fed given h = tt

-- a chunk of a pcapng capture is fed
pub pcapng_feeds : {U : Type 0} (old new : pcapng_reader.Kept) (chunk : List ℕ) (result : Result U FeedFault) →
    ((fed : List ℕ) (given : List Packet) → pcapng_reader.StandsFor old fed given →
    pcapng_giving.Feeds new (fed ++ chunk) given result) →
    (fed : List ℕ) (given : List Packet) → StageStands (Pcapng old) fed given →
    Feeds (kept_at (Pcapng new)) (fed ++ chunk) given result
pcapng_feeds old new chunk (Ok u) feeds fed given h =
    let k = feeds fed given h.2 in
    let many : 4 ≤ length (fed ++ chunk) = four_more fed chunk h.0 in
    let header : is_section_header (fed ++ chunk) ≡ true = section-append fed chunk h.0 ∙ h.1 in
    ((many, header, k.0), refusal-section (fed ++ chunk) many header ∙ k.1)
pcapng_feeds old new chunk (Err (Bad bad)) feeds fed given h =
    let k = feeds fed given h.2 in
    let many : 4 ≤ length (fed ++ chunk) = four_more fed chunk h.0 in
    let header : is_section_header (fed ++ chunk) ≡ true = section-append fed chunk h.0 ∙ h.1 in
    ((many, header, k.0), refusal-section (fed ++ chunk) many header ∙ k.1)
pcapng_feeds old new chunk (Err NoMemory) feeds fed given h = tt

-- what is refused already is so again
pub pcap_again : {U : Type 0} (old : pcap_reader.Kept) (result : Result U FeedFault) →
    pcap_giving.RefusesAgain old result → RefusesAgain (kept_at (Pcap old)) result
pcap_again old result again fed given bad h e = again fed given bad h.2 (sym (refusal-other fed h.0 h.1) ∙ e)

pub pcapng_again : {U : Type 0} (old : pcapng_reader.Kept) (result : Result U FeedFault) →
    pcapng_giving.RefusesAgain old result → RefusesAgain (kept_at (Pcapng old)) result
pcapng_again old result again fed given bad h e = again fed given bad h.2 (sym (refusal-section fed h.0 h.1) ∙ e)

-- fewer than four bytes are refused for nothing yet
pub first_again : {U : Type 0} (first : ArrayVec ℕ) (result : Result U FeedFault) →
    RefusesAgain (kept_at (Undecided first)) result
first_again first result fed given bad h e =
    let none : None ≡ Some bad = sym (refusal-few fed h.1) ∙ e in absurd cc

-- a chunk is kept with the first bytes
pub first_feeds : {U : Type 0} (old new : ArrayVec ℕ) (chunk : List ℕ) (u : U) → new.items ≡ old.items ++ chunk →
    length new.items < 4 → (fed : List ℕ) (given : List Packet) → StageStands (Undecided old) fed given →
    Feeds (kept_at (Undecided new)) (fed ++ chunk) given (Ok u)
first_feeds old new chunk u is few fed given h =
    let all : fed ++ chunk ≡ new.items = ap (λ t. t ++ chunk) h.0 ∙ sym is in
    let short : length (fed ++ chunk) < 4 = omega (arith, ap length all) in
    ((all, short, h.2), refusal-few (fed ++ chunk) short)

-- a packet of a pcap capture is given, or none
pub pcap_gives : (old new : pcap_reader.Kept) (result : Result (Option Packet) AllocError) →
    ((fed : List ℕ) (given : List Packet) → pcap_reader.StandsFor old fed given →
    pcap_giving.Gives new fed given result) →
    (fed : List ℕ) (given : List Packet) → StageStands (Pcap old) fed given →
    Gives (kept_at (Pcap new)) fed given result
pcap_gives old new (Ok (Some p)) gives fed given h =
    let k = gives fed given h.2 in ((h.0, h.1, k.0), front-other p.at fed h.1 ∙ k.1)
pcap_gives old new (Ok None) gives fed given h =
    let k = gives fed given h.2 in
    ((h.0, h.1, k.0), ap (λ (c : Capture). c.packets) (capture-other fed h.1) ∙ k.1)
pcap_gives old new (Err e) gives fed given h = tt

-- a packet of a pcapng capture is given, or none
pub pcapng_gives : (old new : pcapng_reader.Kept) (result : Result (Option Packet) AllocError) →
    ((fed : List ℕ) (given : List Packet) → pcapng_reader.StandsFor old fed given →
    pcapng_giving.Gives new fed given result) →
    (fed : List ℕ) (given : List Packet) → StageStands (Pcapng old) fed given →
    Gives (kept_at (Pcapng new)) fed given result
pcapng_gives old new (Ok (Some p)) gives fed given h =
    let k = gives fed given h.2 in ((h.0, h.1, k.0), front-section p.at fed h.1 ∙ k.1)
pcapng_gives old new (Ok None) gives fed given h =
    let k = gives fed given h.2 in
    ((h.0, h.1, k.0), ap (λ (c : Capture). c.packets) (capture-section fed h.1) ∙ k.1)
pcapng_gives old new (Err e) gives fed given h = tt

-- from four bytes on, the answer is that for the end of the bytes fed
many_feeds : {U : Type 0} (stage : Stage) (fed : List ℕ) (given : List Packet) (e : EndState) (result : Result U FeedFault) →
    4 ≤ length fed → StageStands stage fed given → e ≡ (capture fed).end → AnswersFor e result →
    Feeds (kept_at stage) fed given result
many_feeds stage fed given e (Ok u) many h is answer =
    (h, refusal-many fed many ∙ ap refusal_in (sym is) ∙ unrefused e answer)
  where
    unrefused : (e : EndState) → ((bad : BadCapture) → e ≡ end.Bad bad → ⊥) → refusal_in e ≡ None
    unrefused end.Whole never = refl
    unrefused end.Cut never = refl
    unrefused (end.Bad bad) never = absurd (never bad refl)
many_feeds stage fed given e (Err (Bad bad)) many h is answer =
    (h, refusal-many fed many ∙ ap refusal_in (sym is) ∙ ap refusal_in answer)
many_feeds stage fed given e (Err NoMemory) many h is answer = absurd answer

-- the fourth byte came, and the reader of the format was fed all bytes
pub begun_feeds : {U : Type 0} (first : ArrayVec ℕ) (stage : Stage) (chunk : List ℕ) (e : EndState) (result : Result U FeedFault) →
    4 ≤ length first.items + length chunk → StageStands stage (first.items ++ chunk) [] →
    ((fed : List ℕ) (given : List Packet) → StageStands stage fed given → e ≡ (capture fed).end) →
    AnswersFor e result → (fed : List ℕ) (given : List Packet) → StageStands (Undecided first) fed given →
    Feeds (kept_at stage) (fed ++ chunk) given result
begun_feeds first stage chunk e result many stands end_is answer fed given h =
    let all : List ℕ = first.items ++ chunk in
    let feeds : Feeds (kept_at stage) all [] result =
    many_feeds stage all [] e result (omega (arith, many, length-append first.items chunk)) stands
    (end_is all [] stands) answer in
    let P : List ℕ → List Packet → Type 0 = λ t ps. Feeds (kept_at stage) (t ++ chunk) ps result in
    subst (λ (t : List ℕ). P t given) (sym h.0) (subst (λ (ps : List Packet). P first.items ps) (sym h.2) feeds)

-- the packets given are the first of those in the bytes fed
given_at : (stage : Stage) (fed : List ℕ) (given : List Packet) → StageStands stage fed given →
    (rest : List Packet) × ((capture fed).packets ≡ given ++ rest)
given_at (Undecided first) fed given h = ((capture fed).packets, sym (ap (λ ps. ps ++ (capture fed).packets) h.2))
given_at (Pcap r) fed given h =
    let k = pcap_standing.given_first r fed given h.2 in
    (k.0, ap (λ (c : Capture). c.packets) (capture-other fed h.1) ∙ k.1)
given_at (Pcapng r) fed given h =
    let k = pcapng_standing.given_first r fed given h.2 in
    (k.0, ap (λ (c : Capture). c.packets) (capture-section fed h.1) ∙ k.1)

pub given_first : GivenAreFirst
given_first r fed given h = given_at r.stage fed given h

-- a reader of pcapng that was fed nothing has nothing to give
pub nothing_ready : (r : pcapng_reader.Kept) → pcapng_reader.StandsFor r [] [] →
    sum_by least_block_length r.ready ≡ 0
nothing_ready r h =
    let none : r.ready ≡ [] =
    sym (pcapng_standing.packets_known r [] [] h) ∙ ap (λ (c : Capture). c.packets) pcapng-none in
    ap (sum_by least_block_length) none
