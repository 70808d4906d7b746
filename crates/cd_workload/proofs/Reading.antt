-- The capture of a workload is read to its end.
use Rattle.std.proofs.Common.{◌≡◌, ℕ, ◌+◌, ◌≤◌, List, [], ◌∷◌, ◌++◌, length, drop, Some, refl, ap, ◌∙◌, inr, arith, length-append}
use Rattle.std.specs.List.{AllByRecursion}
use Rattle.cd_bytes.specs.Numbers.{le16, le32}
use Rattle.cd_capture.proofs.Telling.{formats_told}
use Rattle.cd_packet.specs.Capture.{Capture, after}
use Rattle.cd_packet.specs.declared.capture.EndState.TheVariants.{Whole}
use Rattle.cd_pcap.specs.declared.form.Form.{Form}
use Rattle.cd_pcap.specs.Pcap.{form_of, version, link_type, records, pcap}
use Rattle.cd_pcap.specs.Spelled.{RawRecord, Fits, spellings, packet_of_raw, packets_of}
use Rattle.cd_pcap.specs.Writing.{written_form, written_header}
use Rattle.cd_pcap.proofs.Records.{records-none, pcap_in-records, pcap-form}
use Rattle.cd_pcap.proofs.Spelled.{spelled_read}
use Rattle.cd_pcap.proofs.SpelledRead.{magic_front}
use Rattle.cd_workload.specs.Workload.{workload, workload_records}
use Rattle.cd_workload.specs.Laws.{workload_held, WorkloadsAreWhole, WorkloadsAreShort}
use Rattle.cd_workload.proofs.Sent.{records_fit, records_long}

-- these packets, and nothing after them
abbrev whole_capture : Form → ℕ → ℕ → List RawRecord → Capture
whole_capture form link at raws = record { packets = packets_of form link at raws; end = Whole }

-- records that fit are read, to the last byte
all_read : (form : Form) (link at : ℕ) (raws : List RawRecord) → AllByRecursion Fits raws →
    records form link 0 at (spellings form raws) ≡ whole_capture form link at raws
all_read form link at [] fit = records-none form link at [] refl
all_read form link at (r ∷ rs) fit =
    spelled_read form link at r (spellings form rs) fit.0
    ∙ ap (λ c. after (packet_of_raw form link at r ∷ []) c) (all_read form link (at + (16 + length r.captured)) rs fit.1)

-- the header tells the form, the version and the link type
form_is : (more : List ℕ) → form_of (written_header ++ more) ≡ Some written_form
form_is more = magic_front written_form (drop 4 (written_header ++ more)) (inr refl)

version_is : (more : List ℕ) → version written_form (written_header ++ more) ≡ 2
unfolding le16
version_is more = refl

link_is : (more : List ℕ) → link_type written_form (written_header ++ more) ≡ 101
unfolding le32
link_is more = refl

-- after the header the records are read
headed : (raws : List RawRecord) → AllByRecursion Fits raws →
    pcap (written_header ++ spellings written_form raws) ≡ whole_capture written_form 101 24 raws
headed raws fit =
    let bytes : List ℕ = written_header ++ spellings written_form raws in
    let long : 24 ≤ length bytes = omega (arith, length-append written_header (spellings written_form raws)) in
    pcap-form written_form bytes (form_is (spellings written_form raws))
    ∙ pcap_in-records written_form bytes long (version_is (spellings written_form raws))
    ∙ ap (λ n. records written_form n 0 24 (spellings written_form raws)) (link_is (spellings written_form raws))
    ∙ all_read written_form 101 24 raws fit

pub workloads_whole : WorkloadsAreWhole
workloads_whole count seed few =
    let fit = records_fit count 0 seed (omega (arith, few)) in
    let read : pcap (workload count seed) ≡ workload_held count seed = headed (workload_records count seed) fit in
    record {
      as_pcap = read;
      as_capture = (formats_told (workload count seed)).as_pcap written_form (form_is (spellings written_form (workload_records count seed))) ∙ read;
    }

pub workloads_short : WorkloadsAreShort
workloads_short count seed few =
    omega (arith, few, records_long count 0 seed, length-append written_header (spellings written_form (workload_records count seed)))
