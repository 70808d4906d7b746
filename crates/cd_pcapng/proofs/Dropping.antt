-- What a reader keeps stays the same as it lets go of what is no longer wanted.
use Rattle.std.proofs.Common.{◌≡◌, ℕ, ◌+◌, ◌-◌, ◌≤◌, Option, List, drop, map, ap, ◌∙◌, arith}
use Rattle.std.proofs.lemmas.List.{drop-drop}
use Rattle.cd_packet.specs.declared.capture.BadCapture.{BadCapture}
use Rattle.cd_packet.specs.declared.packet.Packet.{Packet}
use Rattle.cd_pcapng.specs.Founds.{FoundSeen, section_in}
use Rattle.cd_pcapng.specs.Fronts.{packet_in, ArePlaced}
use Rattle.cd_pcapng.specs.Reading.{Kept}
use Rattle.cd_pcapng.proofs.Passing.{packets_in-drop}

-- what a reader of these parts keeps
abbrev pub kept_in : ℕ → ℕ → ℕ → List ℕ → FoundSeen → Option BadCapture → Kept
kept_in fed_count base start bytes f refused = record {
  fed_count = fed_count;
  ready = map (packet_in base bytes) f.ready;
  held = drop start bytes;
  at = base + start;
  section = section_in f;
  refused = refused;
}

-- what was found, without the interfaces of earlier sections
abbrev pub forgotten : FoundSeen → FoundSeen
forgotten f = record f { interfaces = drop f.first f.interfaces; first = 0 }

-- the bytes before an offset are let go
pub dropped_view : (fed_count base start k to : ℕ) (bytes : List ℕ) (f : FoundSeen) (refused : Option BadCapture) → k ≤ start → ArePlaced (base + k) f.ready to →
    kept_in fed_count (base + k) (start - k) (drop k bytes) f refused ≡ kept_in fed_count base start bytes f refused
dropped_view fed_count base start k to bytes f refused within placed =
    let ready : map (packet_in (base + k) (drop k bytes)) f.ready ≡ map (packet_in base bytes) f.ready =
    packets_in-drop base k to bytes f.ready (base + k) (omega arith) placed in
    let sum : k + (start - k) ≡ start = omega arith in
    let held : drop (start - k) (drop k bytes) ≡ drop start bytes = drop-drop (start - k) k bytes ∙ ap (λ n. drop n bytes) sum in
    let place : base + k + (start - k) ≡ base + start = omega arith in
    let of : List Packet → List ℕ → ℕ → Kept = λ ps t n. record { fed_count = fed_count; ready = ps; held = t; at = n; section = section_in f; refused = refused } in
    ap (λ ps. of ps (drop (start - k) (drop k bytes)) (base + k + (start - k))) ready
    ∙ ap (λ t. of (map (packet_in base bytes) f.ready) t (base + k + (start - k))) held
    ∙ ap (λ n. of (map (packet_in base bytes) f.ready) (drop start bytes) n) place
