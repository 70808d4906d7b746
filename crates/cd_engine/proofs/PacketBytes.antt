-- The captured bytes of the packets of a capture of bytes are bytes.
use Rattle.std.proofs.Common.{ℕ, List, inl, inr}
use Rattle.std.specs.List.{All}
use Rattle.std.proofs.lemmas.Bool.{cases_Bool}
use Rattle.cd_capture.proofs.Telling.{capture-section, capture-other}
use Rattle.cd_capture.specs.Formats.{capture}
use Rattle.cd_message.specs.MessageLaws.{AreBytes}
use Rattle.cd_pcapng.specs.Blocks.{is_section_header}
use Rattle.cd_engine.proofs.PcapBytes.{HasBytes, bytes_at, bytes_known, pcap_bytes}
use Rattle.cd_engine.proofs.PcapngBytes.{pcapng_bytes}

pub packets_have_bytes : (bytes : List ℕ) → AreBytes bytes → All HasBytes (capture bytes).packets
packets_have_bytes bytes all =
    elim (cases_Bool (is_section_header bytes)) [
      | inl header ↦ bytes_known _ (bytes_at _ _ (capture-section bytes header) (pcapng_bytes bytes all))
      | inr other ↦ bytes_known _ (bytes_at _ _ (capture-other bytes other) (pcap_bytes bytes all))
    ]
