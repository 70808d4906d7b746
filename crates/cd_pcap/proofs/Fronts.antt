-- What stands at the front of some bytes is read the same, whatever stands after it.
use Rattle.std.proofs.Common.{◌≡◌, ℕ, ◌+◌, ◌%◌, ◌<◌, ◌≤◌, Some, None, List, [], ◌∷◌, ◌++◌, length, take, drop, refl, ap, sym, ◌∙◌, arith, length-append}
use Rattle.std.proofs.lemmas.Bool.{le-ltb, lt-ltb}
use Rattle.std.proofs.lemmas.List.{take-append-drop, length-take-le, drop_all}
use Rattle.cd_bytes.proofs.Offsets.{number16_at-append, number32_at-append}
use Rattle.cd_bytes.specs.Numbers.{number16_at, number32_at}
use Rattle.cd_bytes.specs.declared.order.Order.{Order}
use Rattle.cd_packet.specs.Capture.{after}
use Rattle.cd_pcap.specs.Pcap.{Form, form_of, version, link_type, captured_length, packet_at, records, pcap}
use Rattle.cd_packet.specs.declared.capture.CaptureWhy.TheVariants.{Magic, Version, Record}
use Rattle.cd_pcap.proofs.Forms.{form_of-append, form_of-few}
use Rattle.cd_pcap.proofs.Going.{packet_at-append, records-front, pcap-front}
use Rattle.cd_pcap.proofs.Records.{records-none, records-short, records-cut, records-refused, pcap-magic, pcap-short, pcap-version}
use Rattle.cd_pcap.specs.Fronts.{HasHeader, HasRecord}
use Rattle.cd_pcap.specs.Reading.{AreOpen, AreRefused}

-- four bytes within a front have the number that they have in the whole
pub number32_at-take : (order : Order) (at n : ℕ) (bytes : List ℕ) → at + 4 ≤ n → n ≤ length bytes →
    number32_at order at (take n bytes) ≡ number32_at order at bytes
number32_at-take order at n bytes within long =
    let size : length (take n bytes) ≡ n = length-take-le n bytes long in
    sym (number32_at-append order at (take n bytes) (drop n bytes) (omega arith))
    ∙ ap (λ t. number32_at order at t) (take-append-drop n bytes)

-- two bytes within a front have theirs
pub number16_at-take : (order : Order) (at n : ℕ) (bytes : List ℕ) → at + 2 ≤ n → n ≤ length bytes →
    number16_at order at (take n bytes) ≡ number16_at order at bytes
number16_at-take order at n bytes within long =
    let size : length (take n bytes) ≡ n = length-take-le n bytes long in
    sym (number16_at-append order at (take n bytes) (drop n bytes) (omega arith))
    ∙ ap (λ t. number16_at order at t) (take-append-drop n bytes)

-- the records after a header
pub pcap-header : (form : Form) (link : ℕ) (bytes more : List ℕ) → HasHeader form link bytes →
    pcap (take 24 bytes ++ more) ≡ records form link 0 24 more
pcap-header form link bytes more h =
    let size : length (take 24 bytes) ≡ 24 = length-take-le 24 bytes h.long in
    let none : drop 24 (take 24 bytes) ≡ [] = drop_all 24 (take 24 bytes) (omega arith) in
    let type : link_type form (take 24 bytes) ≡ link =
    ap (λ n. n % 0x10000) (number32_at-take form.order 20 24 bytes (omega arith) h.long) ∙ sym h.type in
    pcap-front form (take 24 bytes) more (sym (form_of-append (take 24 bytes) (drop 24 bytes) (omega arith))
    ∙ ap form_of (take-append-drop 24 bytes)
    ∙ h.magic) (omega arith) (number16_at-take form.order 4 24 bytes (omega arith) h.long ∙ h.version)
    ∙ ap (λ k. records form k 0 24 (drop 24 (take 24 bytes) ++ more)) type
    ∙ ap (λ t. records form link 0 24 (t ++ more)) none

-- a packet, and the records after its own
pub records-record : (form : Form) (link at size : ℕ) (bytes more : List ℕ) → HasRecord form size bytes →
    records form link 0 at (take size bytes ++ more)
    ≡ after (packet_at form link at bytes ∷ []) (records form link 0 (at + size) more)
records-record form link at size bytes more h =
    let front : List ℕ = take size bytes in
    let long : length front ≡ size = length-take-le size bytes h.whole in
    let count : captured_length form front ≡ captured_length form bytes =
    number32_at-take form.order 8 size bytes (omega (arith, h.sum)) h.whole in
    let all : 16 + captured_length form front ≡ size = omega (arith, h.sum) in
    let first : packet_at form link at front ≡ packet_at form link at bytes =
    sym (packet_at-append form link at front (drop size bytes) (omega arith))
    ∙ ap (λ t. packet_at form link at t) (take-append-drop size bytes) in
    let none : drop size front ≡ [] = drop_all size front (omega arith) in
    records-front form link at front more (omega (arith, h.small)) (omega arith)
    ∙ ap (λ p. after (p ∷ []) (records form link 0 (at + (16 + captured_length form front))
    (drop (16 + captured_length form front) front ++ more))) first
    ∙ ap (λ k. after (packet_at form link at bytes ∷ []) (records form link 0 (at + k) (drop k front ++ more))) all
    ∙ ap (λ t. after (packet_at form link at bytes ∷ []) (records form link 0 (at + size) (t ++ more))) none

-- fewer bytes than a record's header has
pub open-short : (form : Form) (link at : ℕ) (bytes : List ℕ) → length bytes < 16 → AreOpen form (Some link) at bytes
open-short form link at [] short = records-none form link at [] refl
open-short form link at (b ∷ bytes) short = records-short form link at (b ∷ bytes) (omega arith) short

-- a record's header, and fewer bytes than were captured
pub open-cut : (form : Form) (link at : ℕ) (bytes : List ℕ) → 16 ≤ length bytes → captured_length form bytes ≤ 262144 →
    length bytes < 16 + captured_length form bytes → AreOpen form (Some link) at bytes
open-cut form link at [] long small cut = absurd (omega arith)
open-cut form link at (b ∷ bytes) long small cut = records-cut form link at (b ∷ bytes) long small cut

-- a record's header that says too many bytes, however they go on
pub refused-record : (form : Form) (link at : ℕ) (bytes : List ℕ) → 16 ≤ length bytes →
    262144 < captured_length form bytes → AreRefused form (Some link) at (record { at = at; why = Record }) bytes
refused-record form link at bytes long large = record {
  told = omega arith;
  reads = λ more.
      let len : length (bytes ++ more) ≡ length bytes + length more = length-append bytes more in
      let same : captured_length form (bytes ++ more) ≡ captured_length form bytes =
      number32_at-append form.order 8 bytes more (omega arith) in
      records-refused form link at (bytes ++ more) (omega arith) (omega arith);
}

-- fewer bytes than tell a magic
pub open-few : (form : Form) (bytes : List ℕ) → length bytes < 4 → AreOpen form None 0 bytes
open-few form bytes few = rw (lt-ltb (length bytes) 4 few) (pcap-magic bytes (form_of-few bytes few))

-- a magic, and fewer bytes than a header has
pub open-header : (before form : Form) (bytes : List ℕ) → 4 ≤ length bytes → form_of bytes ≡ Some form →
    length bytes < 24 → AreOpen before None 0 bytes
open-header before form bytes told magic short = rw (le-ltb (length bytes) 4 told) (pcap-short form bytes magic short)

-- another magic, however the bytes go on
pub refused-magic : (form : Form) (bytes : List ℕ) → 4 ≤ length bytes → form_of bytes ≡ None →
    AreRefused form None 0 (record { at = 0; why = Magic }) bytes
refused-magic form bytes told other = record {
  told = told;
  reads = λ more. pcap-magic (bytes ++ more) (form_of-append bytes more told ∙ other);
}

-- another version, however the bytes go on
pub refused-version : (before form : Form) (bytes : List ℕ) → form_of bytes ≡ Some form → 24 ≤ length bytes →
    (version form bytes ≡ 2 → ⊥) → AreRefused before None 0 (record { at = 0; why = Version }) bytes
refused-version before form bytes magic long other = record {
  told = omega arith;
  reads = λ more.
      let len : length (bytes ++ more) ≡ length bytes + length more = length-append bytes more in
      let same : version form (bytes ++ more) ≡ version form bytes =
      number16_at-append form.order 4 bytes more (omega arith) in
      pcap-version form (bytes ++ more) (form_of-append bytes more (omega arith) ∙ magic) (omega arith)
      (λ two. other (sym same ∙ two));
}
