-- What a reader that stands for a history knows of the bytes fed, and how it goes on.
use Rattle.std.proofs.Common.{◌≡◌, ℕ, ◌+◌, ◌-◌, ◌≤◌, Option, Some, None, List, [], ◌∷◌, ◌++◌, length, take, drop, refl, ap, sym, ◌∙◌, subst, arith, append_assoc, length-append}
use Rattle.std.proofs.lemmas.Bool.{le-ltb}
use Rattle.std.proofs.lemmas.List.{append-nil, take-append-drop, take_at, length-take-le, length-drop, drop-drop, drop_all}
use Rattle.cd_packet.specs.declared.packet.Packet.{Packet}
use Rattle.cd_packet.specs.declared.capture.BadCapture.{BadCapture}
use Rattle.cd_packet.specs.declared.capture.EndState.{EndState}
use Rattle.cd_packet.specs.declared.capture.EndState.TheVariants.{Bad}
use Rattle.cd_packet.specs.Capture.{Capture, ends, after}
use Rattle.cd_pcap.specs.Pcap.{Form, packet_at, records, pcap}
use Rattle.cd_packet.proofs.Growing.{after-after}
use Rattle.cd_pcap.proofs.Records.{pcap-none, records-none}
use Rattle.cd_pcap.specs.Fronts.{HasHeader, HasRecord}
use Rattle.cd_pcap.specs.Laws.{GivenAreFirst}
use Rattle.cd_pcap.specs.Reading.{Kept, AreWhole, AreOpen, AreRefused, StandsAfter, HasRead, StandsFor, reading_on, open_end, refusal_in, refusal_of}
use Rattle.cd_pcap.proofs.Fronts.{pcap-header, records-record}
use Rattle.cd_pcap.proofs.Marks.{records-then}
use Rattle.cd_pcap.proofs.Refusals.{refusal-many, refusal-none}

-- the end of the bytes fed, from the refused place or from the bytes after the mark
abbrev pub end_after : Option BadCapture → Option ℕ → List ℕ → EndState
end_after None link held = open_end link held
end_after (Some bad) link held = Bad bad

-- the end of the bytes fed
abbrev pub end_of : Kept → EndState
end_of r = end_after r.refused r.link (drop r.whole r.held)

-- after the mark there is no packet
after_mark : (form : Form) (refused : Option BadCapture) (link : Option ℕ) (at : ℕ) (held let_go : List ℕ) →
    StandsAfter form refused link at held let_go →
    reading_on form link at (held ++ let_go) ≡ ends (end_after refused link held)
after_mark form None link at held let_go h =
    ap (λ t. reading_on form link at (held ++ t)) h.1 ∙ ap (λ t. reading_on form link at t) (append-nil held) ∙ h.0
after_mark form (Some bad) link at held let_go h =
    ap (λ t. reading_on form link at (t ++ let_go)) h.0 ∙ ap (λ t. reading_on form link at t) (sym (append-nil let_go))
    ∙ h.1.reads []

-- the packets of whole records
abbrev pub packets_in : Form → Option ℕ → ℕ → List ℕ → List Packet
packets_in form None at bytes = []
packets_in form (Some link) at bytes = (records form link 0 at bytes).packets

-- after whole records, what stands there is read
before_mark : (form : Form) (link : Option ℕ) (at : ℕ) (bytes more : List ℕ) → AreWhole form link at bytes →
    reading_on form link at (bytes ++ more)
    ≡ after (packets_in form link at bytes) (reading_on form link (at + length bytes) more)
before_mark form None at bytes more h = ap (λ t. pcap (t ++ more)) h.1
before_mark form (Some link) at bytes more h = records-then form link 0 at bytes more h

-- the bytes held before the mark are whole records
pub record IsSound (r : Kept) : Type 0 where
  pub within : r.whole ≤ length r.held
  pub marked : AreWhole r.form r.link r.at (take r.whole r.held)

-- the capture of the bytes fed
fed_now : (r : Kept) (fed : List ℕ) (given : List Packet) → IsSound r → StandsFor r fed given →
    pcap fed ≡ after (given ++ packets_in r.form r.link r.at (take r.whole r.held)) (ends (end_of r))
fed_now r fed given sound h =
    let marked : List ℕ = take r.whole r.held in
    let rest : List ℕ = drop r.whole r.held in
    let size : length marked ≡ r.whole = length-take-le r.whole r.held sound.within in
    ap (λ t. pcap t) h.read.split ∙ h.read.reads (r.held ++ h.let_go)
    ∙ ap (λ t. after given (reading_on r.form r.link r.at (t ++ h.let_go))) (sym (take-append-drop r.whole r.held))
    ∙ ap (λ t. after given (reading_on r.form r.link r.at t)) (append_assoc marked rest h.let_go)
    ∙ ap (λ c. after given c) (before_mark r.form r.link r.at marked (rest ++ h.let_go) sound.marked)
    ∙ ap (λ n. after given (after (packets_in r.form r.link r.at marked)
    (reading_on r.form r.link (r.at + n) (rest ++ h.let_go)))) size
    ∙ ap (λ c. after given (after (packets_in r.form r.link r.at marked) c))
    (after_mark r.form r.refused r.link (r.at + r.whole) rest h.let_go h.mark)
    ∙ after-after given (packets_in r.form r.link r.at marked) (ends (end_of r))

-- the end that the reader knows is that of the bytes fed
pub end_known : (r : Kept) (fed : List ℕ) (given : List Packet) → IsSound r → StandsFor r fed given →
    end_of r ≡ (pcap fed).end
end_known r fed given sound h = sym (ap (λ (c : Capture). c.end) (fed_now r fed given sound h))

-- the packets given are the first of those in the bytes fed
pub given_first : GivenAreFirst
given_first r fed given h = (
  (reading_on r.form r.link r.at (r.held ++ h.let_go)).packets,
  ap (λ t. (pcap t).packets) h.read.split ∙ ap (λ (c : Capture). c.packets) (h.read.reads (r.held ++ h.let_go)),
)

-- no bytes have no packet
none_in : (form : Form) (link : Option ℕ) (at : ℕ) → packets_in form link at [] ≡ []
none_in form None at = refl
none_in form (Some link) at = ap (λ (c : Capture). c.packets) (records-none form link at [] refl)

-- where the mark stands at the front of the bytes held, all packets are given
pub all_given : (r : Kept) (fed : List ℕ) (given : List Packet) → IsSound r → r.whole ≡ 0 → StandsFor r fed given →
    (pcap fed).packets ≡ given
all_given r fed given sound none h =
    ap (λ (c : Capture). c.packets) (fed_now r fed given sound h)
    ∙ append-nil (given ++ packets_in r.form r.link r.at (take r.whole r.held))
    ∙ ap (λ n. given ++ packets_in r.form r.link r.at (take n r.held)) none
    ∙ ap (λ ps. given ++ ps) (none_in r.form r.link r.at)
    ∙ append-nil given

-- an open end of four bytes or more is no refused place
open_unrefused : (link : Option ℕ) (held : List ℕ) → (link ≡ None → 4 ≤ length held) →
    refusal_in (open_end link held) ≡ None
open_unrefused None held many = rw (le-ltb (length held) 4 (many refl)) refl
open_unrefused (Some link) [] many = refl
open_unrefused (Some link) (b ∷ held) many = refl

-- the refused place, from what stands after the mark
known_after : (form : Form) (refused : Option BadCapture) (link : Option ℕ) (at : ℕ) (held let_go fed : List ℕ) →
    StandsAfter form refused link at held let_go →
    end_after refused link held ≡ (pcap fed).end → length let_go ≤ length fed →
    (link ≡ None → length fed ≡ length held + length let_go) → refusal_of fed ≡ refused
known_after form None link at held let_go fed h end within all =
    let none : length let_go ≡ 0 = ap length h.1 in
    refusal-none fed (λ many. ap refusal_in (sym end) ∙ open_unrefused link held (λ first. omega (arith, all first)))
known_after form (Some bad) link at held let_go fed h end within all =
    refusal-many fed (omega (arith, h.1.told)) ∙ ap refusal_in (sym end)

-- no header is read before the bytes fed
none_read : (form : Form) (link : Option ℕ) (at : ℕ) (bytes : List ℕ) → AreWhole form link at bytes → link ≡ None →
    (at ≡ 0) × (length bytes ≡ 0)
none_read form None at bytes h e = (h.0, ap length h.1)
none_read form (Some link) at bytes h e = absurd cc

-- before the header nothing is marked
pub header_first : (r : Kept) → IsSound r → r.link ≡ None → (r.at ≡ 0) × (r.whole ≡ 0)
header_first r sound none =
    let k = none_read r.form r.link r.at (take r.whole r.held) sound.marked none in
    (k.0, sym (length-take-le r.whole r.held sound.within) ∙ k.1)

-- the refused place that the reader remembers is that of the bytes fed
pub refusal_known : (r : Kept) (fed : List ℕ) (given : List Packet) → IsSound r → StandsFor r fed given →
    refusal_of fed ≡ r.refused
refusal_known r fed given sound h =
    let long : length fed ≡ length h.read.front + (length r.held + length h.let_go) =
    ap length h.read.split ∙ length-append h.read.front (r.held ++ h.let_go)
    ∙ ap (λ n. length h.read.front + n) (length-append r.held h.let_go) in
    known_after r.form r.refused r.link (r.at + r.whole) (drop r.whole r.held) h.let_go fed h.mark
    (end_known r fed given sound h) (omega arith)
    (λ none. let k = header_first r sound none in omega (arith, length-drop r.whole r.held, h.read.place, k.0, k.1))

-- the bytes that are read have the packets given
before_place : (r : Kept) (fed let_go : List ℕ) (given : List Packet) → HasRead r fed let_go given →
    (pcap (take r.at fed)).packets ≡ given
before_place r fed let_go given h =
    let read : take r.at fed ≡ h.front =
    ap (λ t. take r.at t) h.split ∙ take_at h.front (r.held ++ let_go) r.at h.place in
    ap (λ t. (pcap t).packets) (read ∙ sym (append-nil h.front))
    ∙ ap (λ (c : Capture). c.packets) (h.reads [])
    ∙ ap (λ ps. given ++ ps) (none_on r.form r.link r.at) ∙ append-nil given
  where
    none_on : (form : Form) (link : Option ℕ) (at : ℕ) → (reading_on form link at []).packets ≡ []
    none_on form None at = ap (λ (c : Capture). c.packets) pcap-none
    none_on form (Some link) at = ap (λ (c : Capture). c.packets) (records-none form link at [] refl)

-- a chunk is held after the other bytes
pub held_more : (r : Kept) (chunk fed : List ℕ) (given : List Packet) → HasRead r fed [] given →
    HasRead (record r { fed_count = r.fed_count + length chunk; held = r.held ++ chunk }) (fed ++ chunk) [] given
held_more r chunk fed given h = record {
  front = h.front;
  split = ap (λ t. t ++ chunk) (h.split ∙ ap (λ t. h.front ++ t) (append-nil r.held))
      ∙ append_assoc h.front r.held chunk
      ∙ ap (λ t. h.front ++ t) (sym (append-nil (r.held ++ chunk)));
  count = length-append fed chunk ∙ ap (λ n. n + length chunk) h.count;
  place = h.place;
  reads = h.reads;
}

-- the header is read
pub header_read : (r : Kept) (form : Form) (link : ℕ) (fed : List ℕ) (given : List Packet) → r.link ≡ None →
    r.at ≡ 0 → HasHeader form link r.held → HasRead r fed [] given →
    HasRead (record r { form = form; held = drop 24 r.held; at = 24; link = Some link }) fed [] given
header_read r form link fed given none start header h =
    let front : List ℕ = take 24 r.held in
    let long : length front ≡ 24 = length-take-le 24 r.held header.long in
    record {
      front = h.front ++ front;
      split = h.split ∙ ap (λ t. h.front ++ (t ++ [])) (sym (take-append-drop 24 r.held))
          ∙ ap (λ t. h.front ++ t) (append_assoc front (drop 24 r.held) [])
          ∙ sym (append_assoc h.front front (drop 24 r.held ++ []));
      count = h.count;
      place = omega (arith, h.place, length-append h.front front);
      reads = λ more.
          ap (λ t. pcap t) (append_assoc h.front front more) ∙ h.reads (front ++ more)
          ∙ ap (λ l. after given (reading_on r.form l r.at (front ++ more))) none
          ∙ ap (λ c. after given c) (pcap-header form link r.held more header);
    }

-- the mark is moved
pub mark_moved : (r : Kept) (whole : ℕ) (fed let_go : List ℕ) (given : List Packet) → HasRead r fed let_go given →
    HasRead (record r { whole = whole }) fed let_go given
mark_moved r whole fed let_go given h =
    record { front = h.front; split = h.split; count = h.count; place = h.place; reads = h.reads }

-- the bytes after the mark are open
pub open_stands : (r : Kept) (fed : List ℕ) (given : List Packet) → r.refused ≡ None →
    AreOpen r.form r.link (r.at + r.whole) (drop r.whole r.held) →
    HasRead r fed [] given → StandsFor r fed given
open_stands r fed given sound open_there h =
    let P : Option BadCapture → Type 0 = λ o. StandsAfter r.form o r.link (r.at + r.whole) (drop r.whole r.held) [] in
    record { let_go = []; read = h; mark = subst P (sym sound) (open_there, refl) }

-- a refused place stands at the mark
pub refused_stands : (r : Kept) (bad : BadCapture) (fed : List ℕ) (given : List Packet) → r.whole ≤ length r.held →
    AreRefused r.form r.link (r.at + r.whole) bad (drop r.whole r.held) → HasRead r fed [] given →
    StandsFor (record r { held = take r.whole r.held; refused = Some bad }) fed given
refused_stands r bad fed given within refused h =
    let size : length (take r.whole r.held) ≡ r.whole = length-take-le r.whole r.held within in
    record {
      let_go = drop r.whole r.held;
      read = record {
        front = h.front;
        split = h.split ∙ ap (λ t. h.front ++ t) (append-nil r.held)
            ∙ ap (λ t. h.front ++ t) (sym (take-append-drop r.whole r.held));
        count = h.count;
        place = h.place;
        reads = h.reads;
      };
      mark = (drop_all r.whole (take r.whole r.held) (omega arith), refused);
    }

-- a chunk that comes after a refused place is let go
pub refused_more : (r : Kept) (bad : BadCapture) (chunk fed : List ℕ) (given : List Packet) → r.refused ≡ Some bad →
    StandsFor r fed given →
    StandsFor (record r { fed_count = r.fed_count + length chunk }) (fed ++ chunk) given
refused_more r bad chunk fed given is h =
    let P : Option BadCapture → List ℕ → Type 0 =
    λ o t. StandsAfter r.form o r.link (r.at + r.whole) (drop r.whole r.held) t in
    let mark : P (Some bad) h.let_go = subst (λ (o : Option BadCapture). P o h.let_go) is h.mark in
    let more : P (Some bad) (h.let_go ++ chunk) = (
      mark.0,
      record {
        told = omega (arith, mark.1.told, length-append h.let_go chunk);
        reads = λ rest. ap (λ t. reading_on r.form r.link (r.at + r.whole) t) (append_assoc h.let_go chunk rest)
            ∙ mark.1.reads (chunk ++ rest);
      },
    ) in
    record {
      let_go = h.let_go ++ chunk;
      read = record {
        front = h.read.front;
        split = ap (λ t. t ++ chunk) h.read.split ∙ append_assoc h.read.front (r.held ++ h.let_go) chunk
            ∙ ap (λ t. h.read.front ++ t) (append_assoc r.held h.let_go chunk);
        count = length-append fed chunk ∙ ap (λ n. n + length chunk) h.read.count;
        place = h.read.place;
        reads = h.read.reads;
      };
      mark = subst (λ (o : Option BadCapture). P o (h.let_go ++ chunk)) (sym is) more;
    }

-- a reader after the first record that it holds
abbrev pub passed : Kept → ℕ → Kept
passed r size = record r { held = drop size r.held; at = r.at + size; whole = r.whole - size }

-- a packet is given
pub packet_passed : (r : Kept) (link size : ℕ) (p : Packet) → r.link ≡ Some link → HasRecord r.form size r.held →
    size ≤ r.whole → p ≡ packet_at r.form link r.at r.held →
    (fed : List ℕ) (given : List Packet) → StandsFor r fed given →
    StandsFor (passed r size) fed (given ++ p ∷ []) × ((pcap (take p.at fed)).packets ≡ given)
packet_passed r link size p type first within is fed given h =
    let front : List ℕ = take size r.held in
    let long : length front ≡ size = length-take-le size r.held first.whole in
    let read : HasRead r fed h.let_go given = h.read in
    let sum : size + (r.whole - size) ≡ r.whole = omega arith in
    let far : r.at + size + (r.whole - size) ≡ r.at + r.whole = omega arith in
    let rest : drop (r.whole - size) (drop size r.held) ≡ drop r.whole r.held =
    drop-drop (r.whole - size) size r.held ∙ ap (λ n. drop n r.held) sum in
    let place : p.at ≡ r.at = ap (λ (q : Packet). q.at) is in (
      record {
        let_go = h.let_go;
        read = record {
          front = read.front ++ front;
          split = read.split ∙ ap (λ t. read.front ++ (t ++ h.let_go)) (sym (take-append-drop size r.held))
              ∙ ap (λ t. read.front ++ t) (append_assoc front (drop size r.held) h.let_go)
              ∙ sym (append_assoc read.front front (drop size r.held ++ h.let_go));
          count = read.count;
          place = omega (arith, read.place, length-append read.front front);
          reads = λ more.
              ap (λ t. pcap t) (append_assoc read.front front more) ∙ read.reads (front ++ more)
              ∙ ap (λ l. after given (reading_on r.form l r.at (front ++ more))) type
              ∙ ap (λ c. after given c) (records-record r.form link r.at size r.held more first)
              ∙ ap (λ q. after given (after (q ∷ []) (records r.form link 0 (r.at + size) more))) (sym is)
              ∙ after-after given (p ∷ []) (records r.form link 0 (r.at + size) more)
              ∙ ap (λ l. after (given ++ p ∷ []) (reading_on r.form l (r.at + size) more)) (sym type);
        };
        mark =
            let P : ℕ → List ℕ → Type 0 = λ n t. StandsAfter r.form r.refused r.link n t h.let_go in
            subst (λ (n : ℕ). P n (drop (r.whole - size) (drop size r.held))) (sym far)
            (subst (λ (t : List ℕ). P (r.at + r.whole) t) (sym rest) h.mark);
      },
      ap (λ k. (pcap (take k fed)).packets) place ∙ before_place r fed h.let_go given read,
    )

-- The mark is moved over whole records, up to bytes that are open.
pub marked_open : (r : Kept) (size : ℕ) (fed : List ℕ) (given : List Packet) → r.refused ≡ None →
    AreOpen r.form r.link (r.at + r.whole + size) (drop size (drop r.whole r.held)) → HasRead r fed [] given →
    StandsFor (record r { whole = r.whole + size }) fed given
marked_open r size fed given sound open_there h =
    let far : r.at + r.whole + size ≡ r.at + (r.whole + size) = omega arith in
    let P : ℕ → List ℕ → Type 0 = λ n t. AreOpen r.form r.link n t in
    open_stands (record r { whole = r.whole + size }) fed given sound
    (subst (λ (n : ℕ). P n (drop (r.whole + size) r.held)) far
    (subst (λ (t : List ℕ). P (r.at + r.whole + size) t) (drop-drop size r.whole r.held) open_there))
    (mark_moved r (r.whole + size) fed [] given h)

-- The mark is moved over whole records, up to a refused place.
pub marked_refused : (r : Kept) (size : ℕ) (bad : BadCapture) (fed : List ℕ) (given : List Packet) →
    r.whole + size ≤ length r.held →
    AreRefused r.form r.link (r.at + r.whole + size) bad (drop size (drop r.whole r.held)) → HasRead r fed [] given →
    StandsFor (record r { held = take (r.whole + size) r.held; whole = r.whole + size; refused = Some bad }) fed given
marked_refused r size bad fed given within refused h =
    let far : r.at + r.whole + size ≡ r.at + (r.whole + size) = omega arith in
    let P : ℕ → List ℕ → Type 0 = λ n t. AreRefused r.form r.link n bad t in
    refused_stands (record r { whole = r.whole + size }) bad fed given within
    (subst (λ (n : ℕ). P n (drop (r.whole + size) r.held)) far
    (subst (λ (t : List ℕ). P (r.at + r.whole + size) t) (drop-drop size r.whole r.held) refused))
    (mark_moved r (r.whole + size) fed [] given h)

-- a reader that was fed nothing
pub nothing_stands : (form : Form) →
    StandsFor (record { form = form; fed_count = 0; held = []; at = 0; whole = 0; link = None; refused = None }) [] []
nothing_stands form = record {
  let_go = [];
  read = record { front = []; split = refl; count = refl; place = refl; reads = λ more. refl };
  mark = (pcap-none, refl);
}

-- where no refused place came, all bytes fed are read or held
unrefused_read : (r : Kept) (fed : List ℕ) (given : List Packet) → r.refused ≡ None → StandsFor r fed given →
    HasRead r fed [] given
unrefused_read r fed given sound h =
    let P : Option BadCapture → Type 0 =
    λ o. StandsAfter r.form o r.link (r.at + r.whole) (drop r.whole r.held) h.let_go in
    let mark : P None = subst P sound h.mark in
    subst (λ (t : List ℕ). HasRead r fed t given) mark.1 h.read

-- a chunk comes where no refused place came
pub chunk_held : (r : Kept) (chunk fed : List ℕ) (given : List Packet) → r.refused ≡ None → StandsFor r fed given →
    HasRead (record r { fed_count = r.fed_count + length chunk; held = r.held ++ chunk }) (fed ++ chunk) [] given
chunk_held r chunk fed given sound h = held_more r chunk fed given (unrefused_read r fed given sound h)

-- the header is refused
pub header_refused : (r : Kept) (bad : BadCapture) (fed : List ℕ) (given : List Packet) → IsSound r → r.link ≡ None →
    AreRefused r.form None 0 bad r.held →
    HasRead r fed [] given → StandsFor (record r { held = take r.whole r.held; refused = Some bad }) fed given
header_refused r bad fed given sound none refused h =
    let k = header_first r sound none in
    let P : Option ℕ → ℕ → ℕ → Type 0 = λ l n m. AreRefused r.form l n bad (drop m r.held) in
    let start : 0 ≡ r.at + r.whole = omega (arith, k.0, k.1) in
    let first : P None 0 0 = refused in
    refused_stands r bad fed given sound.within
    (subst (λ (l : Option ℕ). P l (r.at + r.whole) r.whole) (sym none)
    (subst (λ (n : ℕ). P None n r.whole) start (subst (λ (m : ℕ). P None 0 m) (sym k.1) first))) h

-- no whole header is there yet
pub header_open : (r : Kept) (fed : List ℕ) (given : List Packet) → IsSound r → r.link ≡ None → r.refused ≡ None →
    AreOpen r.form None 0 r.held → HasRead r fed [] given → StandsFor r fed given
header_open r fed given sound none unrefused open_there h =
    let k = header_first r sound none in
    let P : Option ℕ → ℕ → ℕ → Type 0 = λ l n m. AreOpen r.form l n (drop m r.held) in
    let start : 0 ≡ r.at + r.whole = omega (arith, k.0, k.1) in
    let first : P None 0 0 = open_there in
    open_stands r fed given unrefused
    (subst (λ (l : Option ℕ). P l (r.at + r.whole) r.whole) (sym none)
    (subst (λ (n : ℕ). P None n r.whole) start (subst (λ (m : ℕ). P None 0 m) (sym k.1) first))) h
