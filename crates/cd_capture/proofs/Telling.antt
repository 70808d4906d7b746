-- What the first four bytes of a capture tell.
use Rattle.std.proofs.Common.{◌≡◌, ℕ, true, false, nat_eq, ◌+◌, ◌-◌, ◌<◌, ◌≤◌, List, [], ◌++◌, length, take, drop, Some, refl, ap, sym, ◌∙◌, inl, inr, arith, append_assoc, length-append}
use Rattle.std.proofs.lemmas.Bool.{cases_lt, eqb-true}
use Rattle.std.proofs.lemmas.List.{length-take, take-append-drop}
use Rattle.cd_bytes.specs.Numbers.{le32}
use Rattle.cd_packet.proofs.Growing.{has_magic-append, has_magic-few, has_magic-many}
use Rattle.cd_packet.specs.Capture.{Capture, refused_capture}
use Rattle.cd_packet.specs.Magic.{has_magic}
use Rattle.cd_packet.specs.declared.capture.CaptureWhy.TheVariants.{Magic}
use Rattle.cd_pcap.specs.Pcap.{form_of, pcap}
use Rattle.cd_pcap.specs.declared.form.Form.{Form}
use Rattle.cd_pcap.proofs.Forms.{form_of-few, form_told}
use Rattle.cd_pcap.proofs.Records.{pcap-magic}
use Rattle.cd_pcapng.specs.Blocks.{is_section_header}
use Rattle.cd_pcapng.specs.Pcapng.{pcapng}
use Rattle.cd_pcapng.proofs.Extending.{pcapng-few}
use Rattle.cd_capture.specs.Formats.{capture}
use Rattle.cd_capture.specs.Laws.{FormatsAreTold}

-- a section header is in front
pub capture-section : (bytes : List ℕ) → is_section_header bytes ≡ true → capture bytes ≡ pcapng bytes
unfolding capture
capture-section bytes header = rw header refl

-- none is
pub capture-other : (bytes : List ℕ) → is_section_header bytes ≡ false → capture bytes ≡ pcap bytes
unfolding capture
capture-other bytes other = rw other refl

-- fewer than four bytes are no section header
pub section-few : (bytes : List ℕ) → length bytes < 4 → is_section_header bytes ≡ false
section-few bytes few = has_magic-few 0x0a0d0d0a bytes few

-- from four bytes on a section header stays one, and other bytes stay others
pub section-append : (bytes more : List ℕ) → 4 ≤ length bytes →
    is_section_header (bytes ++ more) ≡ is_section_header bytes
section-append bytes more many = has_magic-append 0x0a0d0d0a bytes more many

-- so it is of a front
section-take : (n : ℕ) (bytes : List ℕ) → 4 ≤ length (take n bytes) →
    is_section_header (take n bytes) ≡ is_section_header bytes
section-take n bytes many =
    sym (section-append (take n bytes) (drop n bytes) many) ∙ ap (λ t. is_section_header t) (take-append-drop n bytes)

-- the first four of bytes that came in two pieces tell the format
pub section-joined : (first piece : List ℕ) (missing : ℕ) → length first < 4 → 4 ≤ length first + length piece →
    missing ≡ 4 - length first →
    is_section_header (first ++ take missing piece) ≡ is_section_header (first ++ piece)
section-joined first piece missing few many is =
    let front : List ℕ = first ++ take missing piece in
    let size : 4 ≤ length front =
    omega (arith, is, length-append first (take missing piece), length-take missing piece) in
    let all : first ++ piece ≡ front ++ drop missing piece =
    ap (λ t. first ++ t) (sym (take-append-drop missing piece))
    ∙ sym (append_assoc first (take missing piece) (drop missing piece)) in
    sym (ap (λ t. is_section_header t) all ∙ section-append front (drop missing piece) size)

-- fewer than four bytes are refused at their start
pub capture-few : (bytes : List ℕ) → length bytes < 4 → capture bytes ≡ refused_capture 0 Magic
capture-few bytes few = capture-other bytes (section-few bytes few) ∙ pcap-magic bytes (form_of-few bytes few)

-- they have no packet
pub packets-few : (bytes : List ℕ) → length bytes < 4 → (capture bytes).packets ≡ []
packets-few bytes few = ap (λ (c : Capture). c.packets) (capture-few bytes few)

-- a front of a pcap capture
pub front-other : (n : ℕ) (bytes : List ℕ) → is_section_header bytes ≡ false →
    (capture (take n bytes)).packets ≡ (pcap (take n bytes)).packets
front-other n bytes other =
    elim (cases_lt (length (take n bytes)) 4) [
      | inl few ↦
          ap (λ (c : Capture). c.packets) (capture-other (take n bytes) (section-few (take n bytes) few))
      | inr many ↦
          ap (λ (c : Capture). c.packets) (capture-other (take n bytes) (section-take n bytes many ∙ other))
    ]

-- a front of a pcapng capture
pub front-section : (n : ℕ) (bytes : List ℕ) → is_section_header bytes ≡ true →
    (capture (take n bytes)).packets ≡ (pcapng (take n bytes)).packets
front-section n bytes header =
    elim (cases_lt (length (take n bytes)) 4) [
      | inl few ↦ packets-few (take n bytes) few ∙ sym (pcapng-few (take n bytes) few)
      | inr many ↦
          ap (λ (c : Capture). c.packets) (capture-section (take n bytes) (section-take n bytes many ∙ header))
    ]

-- two magics are not in front at once
one_magic : (n : ℕ) (bytes : List ℕ) → has_magic n bytes ≡ true → nat_eq n 0x0a0d0d0a ≡ false →
    is_section_header bytes ≡ false
one_magic n bytes found other =
    elim (cases_lt (length bytes) 4) [
      | inl few ↦ section-few bytes few
      | inr many ↦
          let is : le32 0 bytes ≡ n = eqb-true (le32 0 bytes) n (sym (has_magic-many n bytes many) ∙ found) in
          has_magic-many 0x0a0d0d0a bytes many ∙ ap (λ k. nat_eq k 0x0a0d0d0a) is ∙ other
    ]

-- a magic of pcap is no section header
pub section-pcap : (bytes : List ℕ) (form : Form) → form_of bytes ≡ Some form → is_section_header bytes ≡ false
section-pcap bytes form told =
    elim (form_told bytes form told) [
      | inl (found, is) ↦ one_magic 0xa1b2c3d4 bytes found refl
      | inr (inl (found, is)) ↦ one_magic 0xd4c3b2a1 bytes found refl
      | inr (inr (inl (found, is))) ↦ one_magic 0xa1b23c4d bytes found refl
      | inr (inr (inr (found, is))) ↦ one_magic 0x4d3cb2a1 bytes found refl
    ]

pub formats_told : FormatsAreTold
formats_told bytes = record {
  as_pcap = λ form told. capture-other bytes (section-pcap bytes form told);
  as_pcapng = λ header. capture-section bytes header;
  others = λ none other. capture-other bytes other ∙ pcap-magic bytes none;
  few = λ few. capture-few bytes few;
}
