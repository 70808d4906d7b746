-- What a capture becomes as its bytes go on, and how much of it its packets take.
use Rattle.std.proofs.Common.{◌≡◌, ℕ, ◌≤◌, ◌<◌, Bool, true, false, cond, nat_lt, List, ◌++◌, length, Some, None, refl, ap, sym, ◌∙◌, inl, inr, arith, subst, length-append}
use Rattle.std.specs.List.{sum_by}
use Rattle.std.proofs.lemmas.Bool.{cases_lt, cases_Bool, le-ltb, ltb-false, lt-ltb}
use Rattle.cd_packet.proofs.Growing.{grows_at}
use Rattle.cd_packet.specs.Capture.{Capture, Grows}
use Rattle.cd_packet.specs.declared.capture.BadCapture.{BadCapture}
use Rattle.cd_packet.specs.declared.capture.EndState.{EndState}
use Rattle.cd_packet.specs.declared.capture.EndState.TheVariants.{Whole, Cut, Bad}
use Rattle.cd_pcap.proofs.Extending.{pcap-grow}
use Rattle.cd_pcap.proofs.Refusals as pcap_refusals
use Rattle.cd_pcap.proofs.Sizes as pcap_sizes
use Rattle.cd_pcapng.specs.Blocks.{is_section_header}
use Rattle.cd_pcapng.proofs.Extending.{pcapng-grow}
use Rattle.cd_pcapng.proofs.Places as pcapng_places
use Rattle.cd_pcapng.proofs.Sizes as pcapng_sizes
use Rattle.cd_capture.specs.Formats.{capture}
use Rattle.cd_capture.specs.Laws.{CapturesGrow, PacketsAreWithin, PacketsStandBefore, RefusalsStay, record_size}
use Rattle.cd_capture.specs.Reading.{refusal_in, refusal_of}
use Rattle.cd_capture.proofs.Telling.{capture-section, capture-other, front-other, front-section, packets-few, section-append}

-- From four bytes on, what is read stays as the bytes go on.
pub capture-grow : (bytes more : List ℕ) → 4 ≤ length bytes → Grows (capture bytes) (capture (bytes ++ more))
capture-grow bytes more many =
    let same : is_section_header (bytes ++ more) ≡ is_section_header bytes = section-append bytes more many in
    elim (cases_Bool (is_section_header bytes)) [
      | inl header ↦
          grows_at _ _ _ _ (capture-section bytes header) (capture-section (bytes ++ more) (same ∙ header))
          (pcapng-grow bytes more many)
      | inr other ↦
          grows_at _ _ _ _ (capture-other bytes other) (capture-other (bytes ++ more) (same ∙ other))
          (pcap-grow bytes more many)
    ]

-- any bytes as others come after them
pub captures_go_on : CapturesGrow
captures_go_on bytes more = record {
  packets = elim (cases_lt (length bytes) 4) [
    | inl few ↦ ((capture (bytes ++ more)).packets, rw (packets-few bytes few) refl)
    | inr many ↦ let g = capture-grow bytes more many in (g.rest.packets, ap (λ (c : Capture). c.packets) g.packets)
  ];
  few = packets-few bytes;
  many = capture-grow bytes more;
}

-- the packets have room in their bytes
pub packets_within : PacketsAreWithin
packets_within bytes =
    elim (cases_Bool (is_section_header bytes)) [
      | inl header ↦
          let P : Capture → Type 0 = λ c. sum_by record_size c.packets ≤ length bytes in
          subst P (sym (capture-section bytes header)) (pcapng_sizes.packets_within bytes)
      | inr other ↦
          let P : Capture → Type 0 = λ c. sum_by record_size c.packets ≤ length bytes in
          subst P (sym (capture-other bytes other)) (pcap_sizes.packets_within bytes)
    ]

-- all packets stand before the refused place
pub packets_before : PacketsStandBefore
packets_before bytes bad end =
    elim (cases_Bool (is_section_header bytes)) [
      | inl header ↦
          let is = capture-section bytes header in
          front-section bad.at bytes header
          ∙ pcapng_places.packets_before bytes bad (ap (λ (c : Capture). c.end) (sym is) ∙ end)
          ∙ ap (λ (c : Capture). c.packets) (sym is)
      | inr other ↦
          let is = capture-other bytes other in
          front-other bad.at bytes other
          ∙ pcap_refusals.packets_before bytes bad (ap (λ (c : Capture). c.end) (sym is) ∙ end)
          ∙ ap (λ (c : Capture). c.packets) (sym is)
    ]

-- an end with a refused place is that place
refusal_told : (e : EndState) (bad : BadCapture) → refusal_in e ≡ Some bad → e ≡ Bad bad
refusal_told Whole bad h = absurd cc
refusal_told Cut bad h = absurd cc
refusal_told (Bad b) bad h = cc

-- a refused place is told only where there are four bytes
refusal_chosen : (few : Bool) (e : EndState) (bad : BadCapture) → cond few None (refusal_in e) ≡ Some bad →
    (few ≡ false) × (e ≡ Bad bad)
refusal_chosen true e bad h = absurd cc
refusal_chosen false e bad h = (refl, refusal_told e bad h)

-- a refused place is told by four bytes, and is the end of the capture
pub refusal-end : (bytes : List ℕ) (bad : BadCapture) → refusal_of bytes ≡ Some bad →
    (4 ≤ length bytes) × ((capture bytes).end ≡ Bad bad)
unfolding refusal_of
refusal-end bytes bad h =
    let k = refusal_chosen (nat_lt (length bytes) 4) (capture bytes).end bad h in
    (ltb-false (length bytes) 4 k.0, k.1)

-- from four bytes on, the refused place is that of the capture
pub refusal-many : (bytes : List ℕ) → 4 ≤ length bytes → refusal_of bytes ≡ refusal_in (capture bytes).end
unfolding refusal_of
refusal-many bytes many = rw (le-ltb (length bytes) 4 many) refl

-- fewer than four bytes tell none
pub refusal-few : (bytes : List ℕ) → length bytes < 4 → refusal_of bytes ≡ None
unfolding refusal_of
refusal-few bytes few = rw (lt-ltb (length bytes) 4 few) refl

-- a refused place stays
pub refusals_kept : RefusalsStay
refusals_kept fed more bad h =
    let k = refusal-end fed bad h in
    let g : Grows (capture fed) (capture (fed ++ more)) = capture-grow fed more k.0 in
    let end : (capture (fed ++ more)).end ≡ Bad bad =
    ap (λ (c : Capture). c.end) g.packets ∙ ap (λ (c : Capture). c.end) (g.refused bad k.1) ∙ k.1 in
    refusal-many (fed ++ more) (omega (arith, length-append fed more)) ∙ ap refusal_in end
