-- What each reader keeps is sound, and stays so as its mark moves, its header is read and its packets are given.
use Rattle.std.proofs.Common.{◌≡◌, ℕ, ◌+◌, ◌-◌, ◌<◌, ◌≤◌, Option, Some, None, IsSome, List, length, take, drop, sym, subst, arith}
use Rattle.std.proofs.lemmas.List.{length-drop, drop-drop}
use Rattle.cd_pcap.specs.Pcap.{Form, captured_length}
use Rattle.cd_pcap.specs.Fronts.{RecordsAre}
use Rattle.cd_pcap.specs.Reading.{AreWhole}
use Rattle.cd_pcap.specs.contracts.pcap_reader.PcapReader.{the_view, the_invariant}
use Rattle.cd_pcap.specs.declared.pcap_reader.PcapReader.TheInside.{Inside}
use Rattle.cd_pcap.specs.declared.record.Records.{Records}
use Rattle.cd_pcap.proofs.Marks.{BeginsWhole, begins_whole, first_whole, marked_more}
use Rattle.cd_pcap.proofs.Standing.{IsSound, header_first}

-- the bytes that are held
abbrev pub held_in : Inside → List ℕ
held_in r = drop r.start r.bytes.items

-- how many bytes are held
held_count : (r : Inside) → length (held_in r) ≡ length r.bytes.items - r.start
held_count r = length-drop r.start r.bytes.items

-- the invariant keeps what is held sound
pub sound_inside : (r : Inside) → the_invariant r → IsSound (the_view r)
sound_inside r h = record { within = omega (arith, h.within, held_count r); marked = h.marked }

-- the header is read
pub header_inside : (r : Inside) (form : Form) (link : ℕ) → the_invariant r → r.link ≡ None → 24 ≤ length (held_in r) →
    the_invariant (record r { start = r.start + 24; at = r.at + 24; form = form; link = Some link })
header_inside r form link h none long =
    let k = header_first (the_view r) (sound_inside r h) none in
    record {
      within = omega (arith, k.1, held_count r);
      counted = omega (arith, k.0, h.counted, held_count r);
      few = h.few;
      marked = first_whole form link (r.at + 24) r.whole (drop (r.start + 24) r.bytes.items) k.1;
    }

-- the mark is moved over whole records
pub marked_inside : (r : Inside) (records : Records) → the_invariant r → IsSome r.link →
    RecordsAre r.form (r.at + r.whole) (drop r.whole (held_in r)) records →
    the_invariant (record r { whole = r.whole + records.size })
marked_inside r records h header k = record {
  within = omega (arith, k.within, h.within, held_count r, length-drop r.whole (held_in r));
  counted = h.counted;
  few = h.few;
  marked = marked_more r.form r.link r.at r.whole records.size (held_in r) header
      (sound_inside r h).within h.marked k.whole;
}

-- the first record that is held, where a byte is marked
pub first_inside : (r : Inside) (link : ℕ) → the_invariant r → r.link ≡ Some link → 0 < r.whole →
    BeginsWhole r.form link r.at (16 + captured_length r.form (held_in r)) r.whole (held_in r)
first_inside r link h is some =
    let P : Option ℕ → Type 0 = λ o. AreWhole r.form o r.at (take r.whole (held_in r)) in
    begins_whole r.form link r.at r.whole (held_in r) (sound_inside r h).within some (subst P is h.marked)

-- the first record that is held is passed
pub passed_inside : (r : Inside) (link size : ℕ) → the_invariant r → r.link ≡ Some link →
    BeginsWhole r.form link r.at size r.whole (held_in r) →
    the_invariant (record r { start = r.start + size; at = r.at + size; whole = r.whole - size })
passed_inside r link size h is b =
    let P : Option ℕ → Type 0 =
    λ o. AreWhole r.form o (r.at + size) (take (r.whole - size) (drop (r.start + size) r.bytes.items)) in
    record {
      within = omega (arith, b.within, h.within);
      counted = omega (arith, b.within, h.within, h.counted);
      few = h.few;
      marked = subst P (sym is) (rw (← drop-drop size r.start r.bytes.items) b.others);
    }
