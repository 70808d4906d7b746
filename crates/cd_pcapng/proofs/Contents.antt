-- What whole blocks hold, as it stands among other bytes.
use Rattle.std.proofs.Common.{◌≡◌, ℕ, ◌+◌, ◌-◌, ◌≤◌, Bool, true, Some, List, ◌++◌, length, take, drop, refl, ap, sym, ◌∙◌, arith, subst}
use Rattle.std.proofs.lemmas.Bool.{eq-eqb}
use Rattle.std.proofs.lemmas.List.{take-append-drop, length-take-le}
use Rattle.cd_bytes.specs.Numbers.{number32_at}
use Rattle.cd_bytes.specs.declared.order.Order.{Order}
use Rattle.cd_packet.specs.declared.capture.CaptureWhy.{CaptureWhy}
use Rattle.cd_pcapng.specs.Blocks.{refused_front, packet_block, is_section_header, head_length, order_of, total_length, kind_of, least_length, is_block_length, content, whole_front, front_of}
use Rattle.cd_pcapng.specs.Fronts.{packet_in, front_with, IsPlaced, HasBlock}
use Rattle.cd_pcapng.specs.Sections.{Section}
use Rattle.cd_pcapng.specs.declared.front.Content.{Content}
use Rattle.cd_pcapng.specs.declared.front.Content.TheVariants as content_of
use Rattle.cd_pcapng.specs.declared.kind.Kind.{Kind}
use Rattle.cd_pcapng.proofs.Framing.{HasHead, block-stays, whole-stays, header-append, head_many, length-least}
use Rattle.cd_pcapng.proofs.Passing.{packet_in-append}

-- the two lengths of a block agree
pub whole-agrees : (order : Order) (s : Section) (at : ℕ) (block : List ℕ) → number32_at order (length block - 4) block ≡ length block →
    whole_front order s at block ≡ content order s at (kind_of order block) block
whole-agrees order s at block same = rw (eq-eqb (number32_at order (length block - 4) block) (length block) same) refl

-- a length as the code judged it
pub length_judged : (order : Order) (bytes : List ℕ) (k : Kind) (n : ℕ) (b c : Bool) → k ≡ kind_of order bytes → n ≡ total_length order bytes → b ≡ is_block_length k n → b ≡ c →
    is_block_length (kind_of order bytes) (total_length order bytes) ≡ c
length_judged order bytes k n b c ek en eb ec =
    ap (λ x. is_block_length x (total_length order bytes)) (sym ek) ∙ ap (λ x. is_block_length k x) (sym en) ∙ sym eb ∙ ec

-- a whole block that is refused, however the bytes go on
pub whole_refused : (s : Section) (at : ℕ) (bytes : List ℕ) (order : Order) (size : ℕ) (why : CaptureWhy) → head_length bytes ≤ length bytes → order_of s bytes ≡ Some order →
    is_block_length (kind_of order bytes) (total_length order bytes) ≡ true → size ≡ total_length order bytes → size ≤ length bytes →
    whole_front order s at (take size bytes) ≡ refused_front why → (4 ≤ length bytes) × ((more : List ℕ) → front_of s at (bytes ++ more) ≡ refused_front why)
whole_refused s at bytes order size why long told good is all e = (
  omega (arith, long, head_many bytes),
  λ more.
      whole-stays s at bytes more order long told good (omega (arith, is, all)) ∙ ap (λ n. whole_front order s at (take n bytes)) (sym is) ∙ e,
)

-- what stands in a block stands among the bytes
front_same : (s : Section) (at : ℕ) (bytes : List ℕ) (size : ℕ) (found : Content) → size ≤ length bytes → IsPlaced at found (at + size) →
    front_with s at (take size bytes) size found ≡ front_with s at bytes size found
front_same s at bytes size (content_of.Section order) all placed = refl
front_same s at bytes size (content_of.Interface i) all placed = refl
front_same s at bytes size content_of.Other all placed = refl
front_same s at bytes size (content_of.Packet p) all placed =
    let long : length (take size bytes) ≡ size = length-take-le size bytes all in
    let same : packet_in at (take size bytes) p ≡ packet_in at bytes p =
    sym (packet_in-append at (take size bytes) (drop size bytes) p placed.0 (omega (arith, long, placed.1)))
    ∙ ap (λ t. packet_in at t p) (take-append-drop size bytes) in
    ap (λ q. packet_block q size) same

-- the kind of a whole block allows its length
pub block_least : (s : Section) (order : Order) (size : ℕ) (bytes : List ℕ) → HasHead s order size bytes → least_length (kind_of order (take size bytes)) ≤ length (take size bytes)
block_least s order size bytes h =
    let long : length (take size bytes) ≡ size = length-take-le size bytes h.within in
    omega (arith, long, h.total, length-least (kind_of order (take size bytes)) (total_length order (take size bytes)) h.good)

-- a whole block with its content, whatever comes after it
pub whole_found : (s : Section) (at : ℕ) (bytes : List ℕ) (order : Order) (size : ℕ) (found : Content) → HasHead s order size bytes →
    (whole_front order s at (take size bytes) ≡ front_with s at (take size bytes) (length (take size bytes)) found) × IsPlaced at found (at + length (take size bytes)) →
    (is_section_header (take size bytes) ≡ true → found ≡ content_of.Section order) → HasBlock s at bytes size found
whole_found s at bytes order size found h e section =
    let long : length (take size bytes) ≡ size = length-take-le size bytes h.within in
    let P : ℕ → Type 0 = λ n. (whole_front order s at (take size bytes) ≡ front_with s at (take size bytes) n found) × IsPlaced at found (at + n) in
    let k : P size = subst P long e in
    record {
      least = h.least;
      within = h.within;
      placed = k.1;
      section = λ header. (
        order,
        section
            (sym (header-append (take size bytes) (drop size bytes) (omega (arith, long, h.least))) ∙ ap (λ t. is_section_header t) (take-append-drop size bytes) ∙ header),
      );
      reads = λ more. block-stays s at order size bytes more h ∙ k.0 ∙ front_same s at bytes size found h.within k.1;
    }
