-- What is known of each front.
use Rattle.std.proofs.Common.{◌≡◌, ℕ, ◌+◌, ◌-◌, ◌≤◌, ◌⊎◌, Bool, true, false, cond, not, ◌||◌, nat_lt, nat_eq, Option, Some, None, List, [], ◌∷◌, ◌++◌, length, take, drop, refl, sym, ◌∙◌, arith, subst, inl, inr}
use Rattle.std.proofs.lemmas.Bool.{cases_lt, cases_Bool}
use Rattle.std.proofs.lemmas.List.{length-take, length-take-le, length-drop}
use Rattle.std.specs.Prelude.{slice_get}
use Rattle.cd_bytes.specs.Numbers.{number16_at, number32_at}
use Rattle.cd_bytes.specs.declared.order.Order.{Order}
use Rattle.cd_packet.specs.declared.capture.CaptureWhy.{CaptureWhy}
use Rattle.cd_packet.specs.declared.capture.CaptureWhy.TheVariants as why
use Rattle.cd_packet.specs.declared.packet.Packet.{Packet}
use Rattle.cd_pcapng.specs.Blocks.{Front, cut_front, refused_front, other_block, packet_block, head_length, order_of, kind_of, total_length, least_length, is_block_length, interface_front, enhanced_front, simple_front, content, whole_front, front_of}
use Rattle.cd_pcapng.specs.Options.{padded}
use Rattle.cd_pcapng.specs.Sections.{Section, section_of, interface_in, captured_in, enhanced_packet, simple_captured, simple_packet}
use Rattle.cd_pcapng.specs.Times.{is_resolution}
use Rattle.cd_pcapng.specs.declared.interface.Interface.{Interface}
use Rattle.cd_pcapng.specs.declared.kind.Kind.{Kind}
use Rattle.cd_pcapng.specs.declared.kind.Kind.TheVariants as kind
use Rattle.cd_pcapng.proofs.Contents.{block_least}
use Rattle.cd_pcapng.proofs.Extending.{told_cases}
use Rattle.cd_pcapng.proofs.Framing.{HasHead, block_head, block-stays, front-short, front-order, front-length, front-cut, front-whole}

-- A whole block at this offset has this length. Where it holds a packet, it takes 16 bytes and the captured ones.
abbrev pub HasLength : ℕ → ℕ → Front → Type 0
HasLength at size cut_front = Unit {0}
HasLength at size (refused_front why) = Unit {0}
HasLength at size (other_block next n) = n ≡ size
HasLength at size (packet_block p n) = (n ≡ size) × (p.at ≡ at) × (16 + length p.bytes ≤ size)

-- one of two fronts
chosen : (at size : ℕ) (b : Bool) (x y : Front) → HasLength at size x → HasLength at size y → HasLength at size (cond b x y)
chosen at size true x y h k = h
chosen at size false x y h k = k

enhanced_length : (order : Order) (o : Option Interface) (at : ℕ) (block : List ℕ) → 32 ≤ length block → HasLength at (length block) (enhanced_front order o at block)
enhanced_length order None at block long = tt
enhanced_length order (Some i) at block long =
    let large : Bool = nat_lt 262144 (captured_in order block) || nat_lt (length block) (32 + padded (captured_in order block)) in
    let p : Packet = enhanced_packet order i at block in
    let fits : HasLength at (length block) (packet_block p (length block)) =
    (refl, refl, omega (arith, long, length-take (captured_in order block) (drop 28 block), length-drop 28 block)) in
    chosen at (length block) large (refused_front why.Record) (packet_block p (length block)) tt fits

simple_length : (order : Order) (o : Option Interface) (at : ℕ) (block : List ℕ) → 16 ≤ length block → HasLength at (length block) (simple_front order o at block)
simple_length order None at block long = tt
simple_length order (Some i) at block long =
    let p : Packet = simple_packet order i at block in
    let few : simple_captured order block ≤ length block - 16 = omega arith in
    let fits : HasLength at (length block) (packet_block p (length block)) =
    (refl, refl, omega (arith, long, few, length-take (simple_captured order block) (drop 12 block))) in
    chosen at (length block) (nat_lt 262144 (simple_captured order block)) (refused_front why.Record) (packet_block p (length block)) tt fits

interface_length : (order : Order) (s : Section) (at : ℕ) (block : List ℕ) → HasLength at (length block) (interface_front order s block)
interface_length order s at block =
    let next : Front = other_block (record s { interfaces = s.interfaces ++ interface_in order block ∷ [] }) (length block) in
    let bad : Bool = not (is_resolution (interface_in order block).resolution) in
    chosen at (length block) (not (nat_lt (length s.interfaces) 65536)) (refused_front why.Interface) (cond bad (refused_front why.Resolution) next) tt
    (chosen at (length block) bad (refused_front why.Resolution) next tt refl)

content_length : (order : Order) (s : Section) (at : ℕ) (k : Kind) (block : List ℕ) → least_length k ≤ length block → HasLength at (length block) (content order s at k block)
content_length order s at kind.SectionHeader block long =
    chosen at (length block) (nat_eq (number16_at order 12 block) 1) (other_block (section_of order []) (length block)) (refused_front why.Section) refl tt
content_length order s at kind.Interface block long = interface_length order s at block
content_length order s at kind.EnhancedPacket block long = enhanced_length order (slice_get s.interfaces (number32_at order 8 block)) at block long
content_length order s at kind.SimplePacket block long = simple_length order (slice_get s.interfaces 0) at block long
content_length order s at kind.Other block long = refl

-- A front of whole bytes: a block of this length, which is read the same whatever comes after it.
pub record IsWhole (s : Section) (at : ℕ) (bytes : List ℕ) (f : Front) : Type 0 where
  pub size : ℕ
  pub least : 12 ≤ size
  pub within : size ≤ length bytes
  pub long : HasLength at size f
  pub reads : (more : List ℕ) → front_of s at (take size bytes ++ more) ≡ f

-- a front is cut, refused, or whole
pub front_cases : (s : Section) (at : ℕ) (bytes : List ℕ) →
    (front_of s at bytes ≡ cut_front) ⊎ (((why : CaptureWhy) × (front_of s at bytes ≡ refused_front why)) ⊎ IsWhole s at bytes (front_of s at bytes))
front_cases s at bytes =
    elim (cases_lt (length bytes) (head_length bytes)) [
      | inl short ↦ inl (front-short s at bytes short)
      | inr long ↦ elim (told_cases (order_of s bytes)) [
        | inl none ↦ inr (inl (why.Order, front-order s at bytes long none))
        | inr told ↦ elim (cases_Bool (is_block_length (kind_of told.0 bytes) (total_length told.0 bytes))) [
          | inr bad ↦ inr (inl (why.BlockLength, front-length s at bytes told.0 long told.1 bad))
          | inl good ↦ elim (cases_lt (length bytes) (total_length told.0 bytes)) [
            | inl few ↦ inl (front-cut s at bytes told.0 long told.1 good few)
            | inr all ↦ inr (inr (whole_front_is s at bytes told.0 long told.1 good all))
          ]
        ]
      ]
    ]
  where
    whole_length : (order : Order) (s : Section) (at : ℕ) (block : List ℕ) → least_length (kind_of order block) ≤ length block → HasLength at (length block) (whole_front order s at block)
    whole_length order s at block many =
        chosen at (length block) (not (nat_eq (number32_at order (length block - 4) block) (length block))) (refused_front why.TrailerMismatch)
        (content order s at (kind_of order block) block) tt (content_length order s at (kind_of order block) block many)

    whole_front_is : (s : Section) (at : ℕ) (bytes : List ℕ) (order : Order) → head_length bytes ≤ length bytes → order_of s bytes ≡ Some order →
        is_block_length (kind_of order bytes) (total_length order bytes) ≡ true → total_length order bytes ≤ length bytes → IsWhole s at bytes (front_of s at bytes)
    whole_front_is s at bytes order long told good all =
        let size : ℕ = total_length order bytes in
        let head : HasHead s order size bytes = block_head s order size bytes told refl good all in
        let is : front_of s at bytes ≡ whole_front order s at (take size bytes) = front-whole s at bytes order long told good all in
        let count : length (take size bytes) ≡ size = length-take-le size bytes all in
        let P : ℕ → Type 0 = λ n. HasLength at n (whole_front order s at (take size bytes)) in
        let Q : Front → Type 0 = λ f. HasLength at size f in
        record {
          size = size;
          least = head.least;
          within = all;
          long = subst Q (sym is) (subst P count (whole_length order s at (take size bytes) (block_least s order size bytes head)));
          reads = λ more. block-stays s at order size bytes more head ∙ sym is;
        }
