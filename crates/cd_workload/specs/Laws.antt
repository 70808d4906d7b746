-- What is known of the capture of each workload.
use Rattle.std.specs.Prelude.{◌≡◌, ℕ, ◌<◌, ◌≤◌, ◌^◌, length, Some}
use Rattle.cd_capture.specs.Formats.{capture}
use Rattle.cd_message.specs.Written.{written_if_fits, written_message}
use Rattle.cd_packet.specs.Building.{built, spelled}
use Rattle.cd_packet.specs.Capture.{Capture}
use Rattle.cd_packet.specs.declared.capture.EndState.TheVariants.{Whole}
use Rattle.cd_pcap.specs.Pcap.{pcap}
use Rattle.cd_pcap.specs.Spelled.{packets_of}
use Rattle.cd_pcap.specs.Writing.{written_form}
use Rattle.cd_workload.specs.Workload.{query_of, response_of, query_datagram, response_datagram, workload, workload_records}
use Rattle.cd_workload.specs.declared.lookup.Lookup.{Lookup}

-- the messages of this lookup fit, and so do its packets
pub record IsSent (l : Lookup) : Type 0 where
  pub query : written_if_fits (query_of l) ≡ Some (written_message (query_of l))
  pub response : written_if_fits (response_of l) ≡ Some (written_message (response_of l))
  pub query_packet : built (query_datagram l) ≡ Some (spelled (query_datagram l))
  pub response_packet : built (response_datagram l) ≡ Some (spelled (response_datagram l))

-- the messages of each lookup fit, and so do its packets
abbrev pub LookupsAreSent : Type 0
LookupsAreSent = (l : Lookup) → IsSent l

-- what the capture of a workload holds: the packets of its records, of link type 101, and nothing after them
abbrev pub workload_held : ℕ → ℕ → Capture
workload_held count seed = record {
  packets = packets_of written_form 101 24 (workload_records count seed);
  end = Whole;
}

-- the capture of this count and seed is read to its end, and holds the packets of its records
pub record IsWhole (count seed : ℕ) : Type 0 where
  pub as_pcap : pcap (workload count seed) ≡ workload_held count seed
  pub as_capture : capture (workload count seed) ≡ workload_held count seed

-- the capture of at most 200,000 lookups, from each seed on, is read to its end, and holds the packets of its records
abbrev pub WorkloadsAreWhole : Type 0
WorkloadsAreWhole = (count seed : ℕ) → count ≤ 200000 → IsWhole count seed

-- the capture of at most 200,000 lookups has fewer than 2^26 bytes
abbrev pub WorkloadsAreShort : Type 0
WorkloadsAreShort = (count seed : ℕ) → count ≤ 200000 → length (workload count seed) < 2 ^ 26
