-- The captured bytes of the packets of a pcap capture of bytes are bytes.
use Rattle.std.proofs.Common.{◌≡◌, ℕ, zero, suc, ◌+◌, List, [], ◌∷◌, length, drop, arith, subst, refl, sym, inl, inr}
use Rattle.std.specs.List.{All}
use Rattle.std.proofs.lemmas.Bool.{cases_lt, cases_eq}
use Rattle.std.proofs.lemmas.List.Elements.{All-nil, All-cons}
use Rattle.cd_message.specs.MessageLaws.{AreBytes}
use Rattle.cd_packet.specs.Capture.{Capture, after}
use Rattle.cd_packet.specs.declared.packet.Packet.{Packet}
use Rattle.cd_pcap.specs.declared.form.Form.{Form}
use Rattle.cd_pcap.specs.Pcap.{version, link_type, captured_length, packet_at, records, pcap}
use Rattle.cd_pcap.proofs.Forms.{cases_form}
use Rattle.cd_pcap.proofs.Records.{records-short, records-refused, records-cut, records-first, pcap-magic, pcap-short, pcap-version, pcap-records}
use Rattle.cd_size.proofs.DatagramRanges.{dropped_bytes, taken_bytes}

-- a packet of bytes
abbrev pub HasBytes : Packet → Type 0
HasBytes p = AreBytes p.bytes

-- the packets of a capture are of bytes
pub HaveBytes : Capture → Type 0
HaveBytes c = All HasBytes c.packets

pub bytes_at : (c d : Capture) → c ≡ d → HaveBytes d → HaveBytes c
bytes_at c d is h = subst HaveBytes (sym is) h

pub no_packets : (c : Capture) → c.packets ≡ [] → HaveBytes c
unfolding HaveBytes
no_packets c none = rw none (All-nil HasBytes)

pub first_packet : (p : Packet) (c : Capture) → HasBytes p → HaveBytes c → HaveBytes (after (p ∷ []) c)
unfolding HaveBytes
first_packet p c here rest = All-cons HasBytes p c.packets here rest

pub bytes_known : (c : Capture) → HaveBytes c → All HasBytes c.packets
unfolding HaveBytes
bytes_known c h = h

-- records
records_bytes : (form : Form) (link inside at : ℕ) (bytes : List ℕ) → AreBytes bytes → HaveBytes (records form link inside at bytes)
unfolding records
records_bytes form link zero at [] all = no_packets _ refl
records_bytes form link (suc inside) at [] all = no_packets _ refl
records_bytes form link (suc inside) at (b ∷ bytes) all = records_bytes form link inside (at + 1) bytes (λ i. all (suc i))
records_bytes form link zero at (b ∷ bytes) all =
    elim (cases_lt (length (b ∷ bytes)) 16) [
      | inl short ↦ bytes_at _ _ (records-short form link at (b ∷ bytes) (omega arith) short) (no_packets _ refl)
      | inr long ↦ elim (cases_lt 262144 (captured_length form (b ∷ bytes))) [
        | inl large ↦ bytes_at _ _ (records-refused form link at (b ∷ bytes) long large) (no_packets _ refl)
        | inr small ↦ elim (cases_lt (length (b ∷ bytes)) (16 + captured_length form (b ∷ bytes))) [
          | inl cut ↦ bytes_at _ _ (records-cut form link at (b ∷ bytes) long small cut) (no_packets _ refl)
          | inr whole ↦
              let count : ℕ = captured_length form (b ∷ bytes) in
              let rest = records_bytes form link (15 + count) (at + 1) bytes (λ i. all (suc i)) in
              let here : HasBytes (packet_at form link at (b ∷ bytes)) =
              taken_bytes count (drop 16 (b ∷ bytes)) (dropped_bytes 16 (b ∷ bytes) all) in
              bytes_at _ _ (records-first form link at b bytes long small whole) (first_packet (packet_at form link at (b ∷ bytes)) _ here rest)
        ]
      ]
    ]

-- a capture
pub pcap_bytes : (bytes : List ℕ) → AreBytes bytes → HaveBytes (pcap bytes)
pcap_bytes bytes all =
    elim (cases_form bytes) [
      | inl none ↦ bytes_at _ _ (pcap-magic bytes none) (no_packets _ refl)
      | inr (form, magic) ↦ elim (cases_lt (length bytes) 24) [
        | inl short ↦ bytes_at _ _ (pcap-short form bytes magic short) (no_packets _ refl)
        | inr long ↦ elim (cases_eq (version form bytes) 2) [
          | inr three ↦ bytes_at _ _ (pcap-version form bytes magic long three) (no_packets _ refl)
          | inl two ↦
              bytes_at _ _ (pcap-records form bytes magic long two)
              (records_bytes form (link_type form bytes) 0 24 (drop 24 bytes) (dropped_bytes 24 bytes all))
        ]
      ]
    ]
