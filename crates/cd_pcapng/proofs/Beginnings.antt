-- What stands at the front of some bytes, after what was found before.
use Rattle.std.proofs.Common.{◌≡◌, ℕ, true, false, ◌+◌, ◌<◌, ◌≤◌, Option, Some, None, List, [], ◌∷◌, ◌++◌, length, take, drop, map, refl, ap, sym, ◌∙◌, subst, arith, length-append}
use Rattle.std.specs.Prelude.{option_map}
use Rattle.std.proofs.lemmas.Bool.{le-ltb, lt-ltb}
use Rattle.std.proofs.lemmas.List.{length-take-le, take-append-drop, drop-append-le, drop_all}
use Rattle.std.proofs.Math.Seq.{drop-append_seam}
use Rattle.cd_bytes.specs.declared.order.Order.{Order}
use Rattle.cd_packet.proofs.Growing.{has_magic-few}
use Rattle.cd_packet.specs.Capture.{refused_capture, after}
use Rattle.cd_packet.specs.declared.capture.CaptureWhy.{CaptureWhy}
use Rattle.cd_packet.specs.declared.capture.CaptureWhy.TheVariants.{Magic}
use Rattle.cd_pcapng.specs.Blocks.{cut_front, refused_front, is_section_header, front_of}
use Rattle.cd_pcapng.specs.Founds.{FoundSeen, section_in, added, place_in, BeginsBlock, BeginsWith}
use Rattle.cd_pcapng.specs.Fronts.{packet_in, front_with, HasBlock, FrontIs}
use Rattle.cd_pcapng.specs.Pcapng.{blocks}
use Rattle.cd_pcapng.specs.Reading.{AreOpen, AreRefused, reading_on}
use Rattle.cd_pcapng.specs.Sections.{Section, section_of, no_section}
use Rattle.cd_pcapng.specs.declared.front.Content.{Content}
use Rattle.cd_pcapng.specs.declared.front.Content.TheVariants as content_of
use Rattle.cd_pcapng.specs.declared.front.Front.{Front}
use Rattle.cd_pcapng.specs.declared.front.Front.TheVariants as front_in
use Rattle.cd_pcapng.proofs.Capturing.{blocks-none, blocks-cut, blocks-refused, blocks-other, blocks-packet, pcapng-header, pcapng-magic}
use Rattle.cd_pcapng.proofs.Framing.{header-append}

-- the section after a whole block
abbrev pub section_after : Section → Content → Section
section_after s (content_of.Section order) = section_of order []
section_after s (content_of.Interface i) = record s { interfaces = s.interfaces ++ i ∷ [] }
section_after s (content_of.Packet p) = s
section_after s content_of.Other = s

-- what comes after a front of this length
dropped_front : (size : ℕ) (bytes more : List ℕ) → size ≤ length bytes → drop size (take size bytes ++ more) ≡ more
dropped_front size bytes more within =
    let long : length (take size bytes) ≡ size = length-take-le size bytes within in
    ap (λ n. drop n (take size bytes ++ more)) (sym long) ∙ drop-append_seam (take size bytes) more

-- the same, from what stands at the front
after_front : (s : Section) (at size : ℕ) (bytes xs more : List ℕ) (found : Content) → 0 < size → size ≤ length xs → drop size xs ≡ more →
    front_of s at xs ≡ front_with s at bytes size found →
    blocks s 0 at xs ≡ after (map (packet_in at bytes) (place_in found)) (blocks (section_after s found) 0 (at + size) more)
after_front s at size bytes xs more (content_of.Section order) some all rest is =
    blocks-other s (section_of order []) at size xs some all is ∙ ap (λ t. blocks (section_of order []) 0 (at + size) t) rest
after_front s at size bytes xs more (content_of.Interface i) some all rest is =
    let next : Section = record s { interfaces = s.interfaces ++ i ∷ [] } in
    blocks-other s next at size xs some all is ∙ ap (λ t. blocks next 0 (at + size) t) rest
after_front s at size bytes xs more (content_of.Packet p) some all rest is =
    blocks-packet s (packet_in at bytes p) at size xs some all is ∙ ap (λ t. after (packet_in at bytes p ∷ []) (blocks s 0 (at + size) t)) rest
after_front s at size bytes xs more content_of.Other some all rest is =
    blocks-other s s at size xs some all is ∙ ap (λ t. blocks s 0 (at + size) t) rest

-- a whole block, and the blocks after it
pub blocks-block : (s : Section) (at size : ℕ) (bytes more : List ℕ) (found : Content) → HasBlock s at bytes size found →
    blocks s 0 at (take size bytes ++ more) ≡ after (map (packet_in at bytes) (place_in found)) (blocks (section_after s found) 0 (at + size) more)
blocks-block s at size bytes more found h =
    let long : length (take size bytes) ≡ size = length-take-le size bytes h.within in
    let sum : length (take size bytes ++ more) ≡ length (take size bytes) + length more = length-append (take size bytes) more in
    after_front s at size bytes (take size bytes ++ more) more found (omega (arith, h.least)) (omega (arith, long, sum))
    (dropped_front size bytes more h.within) (h.reads more)

-- the section after what a block adds
section_added : (order : Order) (f : FoundSeen) (found : Content) → f.order ≡ Some order → f.first ≤ length f.interfaces →
    section_in (added f found) ≡ Some (section_after (section_of order (drop f.first f.interfaces)) found)
section_added order f (content_of.Section told) is within =
    ap (λ t. Some (section_of told t)) (drop_all (length f.interfaces) f.interfaces (omega arith))
section_added order f (content_of.Interface i) is within =
    ap (λ m. option_map (λ (k : Order). section_of k (drop f.first (f.interfaces ++ i ∷ []))) m) is
    ∙ ap (λ t. Some (section_of order t)) (drop-append-le f.first f.interfaces (i ∷ []) within)
section_added order f (content_of.Packet p) is within = ap (λ m. option_map (λ (k : Order). section_of k (drop f.first f.interfaces)) m) is
section_added order f content_of.Other is within = ap (λ m. option_map (λ (k : Order). section_of k (drop f.first f.interfaces)) m) is

-- the section before it
section_before : (order : Order) (f : FoundSeen) → f.order ≡ Some order → section_in f ≡ Some (section_of order (drop f.first f.interfaces))
section_before order f is = ap (λ m. option_map (λ (k : Order). section_of k (drop f.first f.interfaces)) m) is

-- a whole block in a section
pub begins_block : (f : FoundSeen) (order : Order) (at : ℕ) (bytes : List ℕ) (size : ℕ) (found : Content) → f.order ≡ Some order → f.first ≤ length f.interfaces →
    HasBlock (section_of order (drop f.first f.interfaces)) at bytes size found → BeginsBlock f at bytes size found
begins_block f order at bytes size found is within h =
    let s : Section = section_of order (drop f.first f.interfaces) in
    let front : List ℕ → List ℕ = λ more. take size bytes ++ more in
    record {
      least = h.least;
      within = h.within;
      placed = h.placed;
      first = λ none. let e : None ≡ Some order = sym none ∙ is in absurd cc;
      reads = λ more.
          ap (λ o. reading_on o at (front more)) (section_before order f is) ∙ blocks-block s at size bytes more found h
          ∙ ap (λ o. after (map (packet_in at bytes) (place_in found)) (reading_on o (at + size) more)) (sym (section_added order f found is within));
    }

-- the first block, which is a section header
first_section : (f : FoundSeen) (bytes : List ℕ) (size : ℕ) (order : Order) → f.order ≡ None → is_section_header bytes ≡ true →
    HasBlock no_section 0 bytes size (content_of.Section order) → BeginsBlock f 0 bytes size (content_of.Section order)
first_section f bytes size order is header h =
    let before : section_in f ≡ None = ap (λ m. option_map (λ (k : Order). section_of k (drop f.first f.interfaces)) m) is in
    let later : section_in (added f (content_of.Section order)) ≡ Some (section_of order []) =
    ap (λ t. Some (section_of order t)) (drop_all (length f.interfaces) f.interfaces (omega arith)) in
    record {
      least = h.least;
      within = h.within;
      placed = h.placed;
      first = λ none. (order, refl);
      reads = λ more.
          ap (λ o. reading_on o 0 (take size bytes ++ more)) before
          ∙ pcapng-header (take size bytes ++ more) (front_header size bytes more header h.least h.within)
          ∙ blocks-block no_section 0 size bytes more (content_of.Section order) h
          ∙ ap (λ o. reading_on o (0 + size) more) (sym later);
    }
  where
    -- the front of a section header begins as it does
    front_header : (size : ℕ) (bytes more : List ℕ) → is_section_header bytes ≡ true → 12 ≤ size → size ≤ length bytes → is_section_header (take size bytes ++ more) ≡ true
    front_header size bytes more header least within =
        let long : length (take size bytes) ≡ size = length-take-le size bytes within in
        header-append (take size bytes) more (omega (arith, long, least))
        ∙ sym (header-append (take size bytes) (drop size bytes) (omega (arith, long, least)))
        ∙ ap (λ t. is_section_header t) (take-append-drop size bytes) ∙ header

pub begins_section : (f : FoundSeen) (at : ℕ) (bytes : List ℕ) (size : ℕ) (found : Content) → f.order ≡ None → at ≡ 0 → is_section_header bytes ≡ true →
    HasBlock no_section at bytes size found → BeginsBlock f at bytes size found
begins_section f at bytes size found is start header h =
    let k = h.section header in
    let P : ℕ → Content → Type 0 = λ n c. HasBlock no_section n bytes size c in
    let Q : ℕ → Content → Type 0 = λ n c. BeginsBlock f n bytes size c in
    let there : P 0 (content_of.Section k.0) = subst (λ (n : ℕ). P n (content_of.Section k.0)) start (subst (λ (c : Content). P at c) k.1 h) in
    subst (λ (n : ℕ). Q n found) (sym start) (subst (λ (c : Content). Q 0 c) (sym k.1) (first_section f bytes size k.0 is header there))

-- a refused place in a section
pub refused_block : (f : FoundSeen) (order : Order) (at : ℕ) (bytes : List ℕ) (why : CaptureWhy) → f.order ≡ Some order → 4 ≤ length bytes →
    ((more : List ℕ) → front_of (section_of order (drop f.first f.interfaces)) at (bytes ++ more) ≡ refused_front why) →
    AreRefused (section_in f) at (record { at = at; why = why }) bytes
refused_block f order at bytes why is told h = record {
  told = told;
  reads = λ more.
      let len : length (bytes ++ more) ≡ length bytes + length more = length-append bytes more in
      ap (λ o. reading_on o at (bytes ++ more)) (section_before order f is)
      ∙ blocks-refused (section_of order (drop f.first f.interfaces)) at (bytes ++ more) why (omega (arith, len, told)) (h more);
}

-- bytes of a section that are cut
pub open_block : (f : FoundSeen) (order : Order) (at : ℕ) (bytes : List ℕ) → f.order ≡ Some order → front_of (section_of order (drop f.first f.interfaces)) at bytes ≡ cut_front →
    AreOpen (section_in f) at bytes
open_block f order at bytes is cut =
    let P : Option Section → Type 0 = λ o. AreOpen o at bytes in
    subst P (sym (section_before order f is)) (open_in (section_of order (drop f.first f.interfaces)) at bytes cut)
  where
    open_in : (s : Section) (at : ℕ) (bytes : List ℕ) → front_of s at bytes ≡ cut_front → AreOpen (Some s) at bytes
    open_in s at [] cut = blocks-none s at [] refl
    open_in s at (b ∷ bytes) cut = blocks-cut s at (b ∷ bytes) (omega arith) cut

-- another magic at the start, however the bytes go on
pub refused_magic : (f : FoundSeen) (at : ℕ) (bytes : List ℕ) → f.order ≡ None → at ≡ 0 → 4 ≤ length bytes → is_section_header bytes ≡ false →
    AreRefused (section_in f) at (record { at = at; why = Magic }) bytes
refused_magic f at bytes is start told other = record {
  told = told;
  reads = λ more.
      let before : section_in f ≡ None = ap (λ m. option_map (λ (k : Order). section_of k (drop f.first f.interfaces)) m) is in
      ap (λ o. reading_on o at (bytes ++ more)) before ∙ pcapng-magic (bytes ++ more) (header-append bytes more told ∙ other)
      ∙ ap (λ n. refused_capture n Magic) (sym start);
}

-- fewer bytes than tell a magic
pub open_few : (f : FoundSeen) (at : ℕ) (bytes : List ℕ) → f.order ≡ None → length bytes < 4 → AreOpen (section_in f) at bytes
open_few f at bytes is few =
    let before : section_in f ≡ None = ap (λ m. option_map (λ (k : Order). section_of k (drop f.first f.interfaces)) m) is in
    let P : Option Section → Type 0 = λ o. AreOpen o at bytes in
    let there : P None = rw (lt-ltb (length bytes) 4 few) (pcapng-magic bytes (has_magic-few 0x0a0d0d0a bytes few)) in
    subst P (sym before) there

-- a section header that is cut
pub open_section : (f : FoundSeen) (at : ℕ) (bytes : List ℕ) → f.order ≡ None → at ≡ 0 → 4 ≤ length bytes → is_section_header bytes ≡ true → front_of no_section at bytes ≡ cut_front →
    AreOpen (section_in f) at bytes
open_section f at bytes is start told header cut =
    let before : section_in f ≡ None = ap (λ m. option_map (λ (k : Order). section_of k (drop f.first f.interfaces)) m) is in
    let P : Option Section → Type 0 = λ o. AreOpen o at bytes in
    let first : front_of no_section 0 bytes ≡ cut_front = ap (λ n. front_of no_section n bytes) (sym start) ∙ cut in
    let there : P None = rw (le-ltb (length bytes) 4 told) (pcapng-header bytes header ∙ blocks-cut no_section 0 bytes (omega (arith, told)) first) in
    subst P (sym before) there

-- what the code finds at the front of bytes of a section
pub front_begins : (f : FoundSeen) (order : Order) (at : ℕ) (bytes : List ℕ) (found : Front) → f.order ≡ Some order → f.first ≤ length f.interfaces →
    FrontIs (section_of order (drop f.first f.interfaces)) at bytes found → BeginsWith f at bytes found
front_begins f order at bytes front_in.Cut is within h = open_block f order at bytes is h
front_begins f order at bytes (front_in.Refused why) is within h = refused_block f order at bytes why is h.0 h.1
front_begins f order at bytes (front_in.Block size found) is within h = begins_block f order at bytes size found is within h

-- what it finds at the front of a capture that begins with a section header
pub first_begins : (f : FoundSeen) (at : ℕ) (bytes : List ℕ) (found : Front) → f.order ≡ None → at ≡ 0 → 4 ≤ length bytes → is_section_header bytes ≡ true →
    FrontIs no_section at bytes found → BeginsWith f at bytes found
first_begins f at bytes front_in.Cut is start told header h = open_section f at bytes is start told header h
first_begins f at bytes (front_in.Refused why) is start told header h = record {
  told = told;
  reads = λ more.
      let len : length (bytes ++ more) ≡ length bytes + length more = length-append bytes more in
      let before : section_in f ≡ None = ap (λ m. option_map (λ (k : Order). section_of k (drop f.first f.interfaces)) m) is in
      let first : front_of no_section 0 (bytes ++ more) ≡ refused_front why = ap (λ n. front_of no_section n (bytes ++ more)) (sym start) ∙ h.1 more in
      ap (λ o. reading_on o at (bytes ++ more)) before ∙ pcapng-header (bytes ++ more) (header-append bytes more told ∙ header)
      ∙ blocks-refused no_section 0 (bytes ++ more) why (omega (arith, len, told)) first ∙ ap (λ n. refused_capture n why) (sym start);
}
first_begins f at bytes (front_in.Block size found) is start told header h = begins_section f at bytes size found is start header h
