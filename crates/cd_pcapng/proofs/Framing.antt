-- How the front of some bytes is found, and that it stays as they go on.
use Rattle.std.proofs.Common.{◌≡◌, ℕ, ◌+◌, ◌<◌, ◌≤◌, Bool, true, false, cond, not, ◌&&◌, nat_lt, Some, None, List, ◌++◌, length, take, drop, refl, ap, sym, ◌∙◌, arith, inl, inr, length-append}
use Rattle.std.proofs.lemmas.Bool.{le-ltb, lt-ltb, cases_Bool, ltb-false}
use Rattle.std.proofs.lemmas.List.{take-append-le, take-append-drop, length-take-le, take_all}
use Rattle.cd_bytes.proofs.Offsets.{le32-append, be32-append, number32_at-append}
use Rattle.cd_bytes.specs.declared.order.Order.{Order}
use Rattle.cd_packet.proofs.Growing.{has_magic-append}
use Rattle.cd_packet.specs.declared.capture.CaptureWhy.TheVariants as why
use Rattle.cd_pcapng.specs.Blocks.{cut_front, refused_front, is_section_header, head_length, told_order, order_of, total_length, kind_of, least_length, is_block_length, whole_front, ordered_front, front_of}
use Rattle.cd_pcapng.specs.Sections.{Section}
use Rattle.cd_pcapng.specs.declared.kind.Kind.{Kind}
use Rattle.cd_pcapng.specs.declared.kind.Kind.TheVariants as kind

-- twelve bytes tell as much as a head does
pub head_few : (bytes : List ℕ) → head_length bytes ≤ 12
head_few bytes = chosen (is_section_header bytes)
  where
    chosen : (b : Bool) → cond b 12 8 ≤ 12
    chosen true = omega arith
    chosen false = omega arith

-- a head has at least eight
pub head_many : (bytes : List ℕ) → 8 ≤ head_length bytes
head_many bytes = chosen (is_section_header bytes)
  where
    chosen : (b : Bool) → 8 ≤ cond b 12 8
    chosen true = omega arith
    chosen false = omega arith

pub header-append : (xs ys : List ℕ) → 4 ≤ length xs → is_section_header (xs ++ ys) ≡ is_section_header xs
header-append xs ys four = has_magic-append 0x0a0d0d0a xs ys four

pub head-append : (xs ys : List ℕ) → 4 ≤ length xs → head_length (xs ++ ys) ≡ head_length xs
head-append xs ys four = ap (λ (b : Bool). cond b 12 8) (header-append xs ys four)

told-append : (xs ys : List ℕ) → 12 ≤ length xs → told_order (xs ++ ys) ≡ told_order xs
told-append xs ys long =
    let l = le32-append 8 xs ys (omega arith) in
    let b = be32-append 8 xs ys (omega arith) in
    rw (l, b) refl

-- a head tells the same order, kind and length as the bytes go on
pub order-append : (s : Section) (xs ys : List ℕ) → head_length xs ≤ length xs → order_of s (xs ++ ys) ≡ order_of s xs
order-append s xs ys whole =
    let many : 8 ≤ head_length xs = head_many xs in
    let same = header-append xs ys (omega (arith, many, whole)) in
    elim (cases_Bool (is_section_header xs)) [
      | inl header ↦
          let long : 12 ≤ length xs = rw header at whole in
          rw (same, header) (told-append xs ys long)
      | inr other ↦ rw (same, other) refl
    ]

pub kind-append : (order : Order) (xs ys : List ℕ) → 4 ≤ length xs → kind_of order (xs ++ ys) ≡ kind_of order xs
kind-append order xs ys four = rw (header-append xs ys four, number32_at-append order 0 xs ys (omega (arith, four))) refl

pub total-append : (order : Order) (xs ys : List ℕ) → 8 ≤ length xs → total_length order (xs ++ ys) ≡ total_length order xs
total-append order xs ys eight = number32_at-append order 4 xs ys (omega (arith, eight))

-- a length that a block may have is at least the least one
pub length-least : (k : Kind) (n : ℕ) → is_block_length k n ≡ true → least_length k ≤ n
length-least k n h = ltb-false n (least_length k) (first (nat_lt n (least_length k)) _ h)
  where
    first : (a b : Bool) → not a && b ≡ true → a ≡ false
    first true b e = absurd cc
    first false b e = refl

-- and that is at least 12
pub least_many : (k : Kind) → 12 ≤ least_length k
least_many kind.SectionHeader = omega arith
least_many kind.Interface = omega arith
least_many kind.EnhancedPacket = omega arith
least_many kind.SimplePacket = omega arith
least_many kind.Other = omega arith

-- no whole head
pub front-short : (s : Section) (at : ℕ) (bytes : List ℕ) → length bytes < head_length bytes → front_of s at bytes ≡ cut_front
unfolding front_of
front-short s at bytes short = rw (lt-ltb (length bytes) (head_length bytes) short) refl

-- a whole head
pub front-ordered : (s : Section) (at : ℕ) (bytes : List ℕ) → head_length bytes ≤ length bytes → front_of s at bytes ≡ ordered_front (order_of s bytes) s at bytes
unfolding front_of
front-ordered s at bytes long = rw (le-ltb (length bytes) (head_length bytes) long) refl

-- a head that tells its order
pub front-told : (s : Section) (at : ℕ) (bytes : List ℕ) (order : Order) → head_length bytes ≤ length bytes → order_of s bytes ≡ Some order → front_of s at bytes ≡ ordered_front (Some order) s at bytes
front-told s at bytes order long told = front-ordered s at bytes long ∙ ap (λ o. ordered_front o s at bytes) told

-- a head that tells none
pub front-order : (s : Section) (at : ℕ) (bytes : List ℕ) → head_length bytes ≤ length bytes → order_of s bytes ≡ None → front_of s at bytes ≡ refused_front why.Order
front-order s at bytes long none = front-ordered s at bytes long ∙ ap (λ o. ordered_front o s at bytes) none

-- a length that no such block may have
pub front-length : (s : Section) (at : ℕ) (bytes : List ℕ) (order : Order) → head_length bytes ≤ length bytes → order_of s bytes ≡ Some order →
    is_block_length (kind_of order bytes) (total_length order bytes) ≡ false → front_of s at bytes ≡ refused_front why.BlockLength
front-length s at bytes order long told bad = front-told s at bytes order long told ∙ rw bad refl

-- a block that is cut
pub front-cut : (s : Section) (at : ℕ) (bytes : List ℕ) (order : Order) → head_length bytes ≤ length bytes → order_of s bytes ≡ Some order →
    is_block_length (kind_of order bytes) (total_length order bytes) ≡ true → length bytes < total_length order bytes → front_of s at bytes ≡ cut_front
front-cut s at bytes order long told good few =
    front-told s at bytes order long told ∙ rw (good, lt-ltb (length bytes) (total_length order bytes) few) refl

-- a whole block
pub front-whole : (s : Section) (at : ℕ) (bytes : List ℕ) (order : Order) → head_length bytes ≤ length bytes → order_of s bytes ≡ Some order →
    is_block_length (kind_of order bytes) (total_length order bytes) ≡ true → total_length order bytes ≤ length bytes →
    front_of s at bytes ≡ whole_front order s at (take (total_length order bytes) bytes)
front-whole s at bytes order long told good all =
    front-told s at bytes order long told ∙ rw (good, le-ltb (length bytes) (total_length order bytes) all) refl

-- the head of these bytes stays as they go on
pub order-stays : (s : Section) (at : ℕ) (bytes more : List ℕ) → head_length bytes ≤ length bytes → order_of s bytes ≡ None → front_of s at (bytes ++ more) ≡ refused_front why.Order
order-stays s at bytes more long none =
    let len : length (bytes ++ more) ≡ length bytes + length more = length-append bytes more in
    let many : 8 ≤ head_length bytes = head_many bytes in
    let same : head_length (bytes ++ more) ≡ head_length bytes = head-append bytes more (omega (arith, many, long)) in
    front-order s at (bytes ++ more) (omega (arith, len, same, long)) (order-append s bytes more long ∙ none)

pub length-stays : (s : Section) (at : ℕ) (bytes more : List ℕ) (order : Order) → head_length bytes ≤ length bytes → order_of s bytes ≡ Some order →
    is_block_length (kind_of order bytes) (total_length order bytes) ≡ false → front_of s at (bytes ++ more) ≡ refused_front why.BlockLength
length-stays s at bytes more order long told bad =
    let len : length (bytes ++ more) ≡ length bytes + length more = length-append bytes more in
    let many : 8 ≤ head_length bytes = head_many bytes in
    let same : head_length (bytes ++ more) ≡ head_length bytes = head-append bytes more (omega (arith, many, long)) in
    front-length s at (bytes ++ more) order (omega (arith, len, same, long)) (order-append s bytes more long ∙ told)
    (rw (kind-append order bytes more (omega (arith, many, long)), total-append order bytes more (omega (arith, many, long))) bad)

-- a whole block is read the same, whatever comes after it
pub whole-stays : (s : Section) (at : ℕ) (bytes more : List ℕ) (order : Order) → head_length bytes ≤ length bytes → order_of s bytes ≡ Some order →
    is_block_length (kind_of order bytes) (total_length order bytes) ≡ true → total_length order bytes ≤ length bytes →
    front_of s at (bytes ++ more) ≡ whole_front order s at (take (total_length order bytes) bytes)
whole-stays s at bytes more order long told good all =
    let len : length (bytes ++ more) ≡ length bytes + length more = length-append bytes more in
    let many : 8 ≤ head_length bytes = head_many bytes in
    let same : head_length (bytes ++ more) ≡ head_length bytes = head-append bytes more (omega (arith, many, long)) in
    let total : total_length order (bytes ++ more) ≡ total_length order bytes = total-append order bytes more (omega (arith, many, long)) in
    front-whole s at (bytes ++ more) order (omega (arith, len, same, long)) (order-append s bytes more long ∙ told)
    (rw (kind-append order bytes more (omega (arith, many, long)), total) good) (omega (arith, len, total, all))
    ∙ ap (λ n. whole_front order s at (take n (bytes ++ more))) total
    ∙ ap (λ t. whole_front order s at t) (take-append-le (total_length order bytes) bytes more all)

-- The bytes of a whole block alone have its head.
pub record HasHead (s : Section) (order : Order) (size : ℕ) (bytes : List ℕ) : Type 0 where
  pub least : 12 ≤ size
  pub within : size ≤ length bytes
  pub head : head_length (take size bytes) ≤ length (take size bytes)
  pub told : order_of s (take size bytes) ≡ Some order
  pub total : total_length order (take size bytes) ≡ size
  pub good : is_block_length (kind_of order (take size bytes)) (total_length order (take size bytes)) ≡ true

pub block_head : (s : Section) (order : Order) (size : ℕ) (bytes : List ℕ) → order_of s bytes ≡ Some order → total_length order bytes ≡ size →
    is_block_length (kind_of order bytes) (total_length order bytes) ≡ true → size ≤ length bytes → HasHead s order size bytes
block_head s order size bytes told total allowed all =
    let good : is_block_length (kind_of order bytes) size ≡ true = ap (λ n. is_block_length (kind_of order bytes) n) (sym total) ∙ allowed in
    let least : 12 ≤ least_length (kind_of order bytes) = least_many (kind_of order bytes) in
    let much : least_length (kind_of order bytes) ≤ size = length-least (kind_of order bytes) size good in
    let front : List ℕ = take size bytes in
    let long : length front ≡ size = length-take-le size bytes all in
    let head : head_length front ≤ length front = omega (arith, head_few front, long, least, much) in
    let whole : front ++ drop size bytes ≡ bytes = take-append-drop size bytes in
    let same_total : total_length order front ≡ size =
    sym (total-append order front (drop size bytes) (omega (arith, long, least, much))) ∙ ap (λ t. total_length order t) whole ∙ total in
    let same_kind : kind_of order front ≡ kind_of order bytes =
    sym (kind-append order front (drop size bytes) (omega (arith, long, least, much))) ∙ ap (λ t. kind_of order t) whole in
    record {
      least = omega (arith, least, much);
      within = all;
      head = head;
      told = sym (order-append s front (drop size bytes) head) ∙ ap (λ t. order_of s t) whole ∙ told;
      total = same_total;
      good = rw (same_kind, same_total) good;
    }

-- so it is read the same, whatever comes after it
pub block-stays : (s : Section) (at : ℕ) (order : Order) (size : ℕ) (bytes more : List ℕ) → HasHead s order size bytes → front_of s at (take size bytes ++ more) ≡ whole_front order s at (take size bytes)
block-stays s at order size bytes more h =
    let front : List ℕ = take size bytes in
    let long : length front ≡ size = length-take-le size bytes h.within in
    whole-stays s at front more order h.head h.told h.good (omega (arith, long, h.total))
    ∙ ap (λ t. whole_front order s at t) (take_all (total_length order front) front (omega (arith, long, h.total)))
