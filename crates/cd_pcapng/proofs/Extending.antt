-- What a capture becomes as its bytes go on.
use Rattle.std.proofs.Common.{◌≡◌, ℕ, zero, suc, ◌+◌, ◌-◌, ◌<◌, ◌≤◌, ◌⊎◌, Option, Some, None, List, [], ◌∷◌, ◌++◌, length, refl, ap, sym, ◌∙◌, arith, inl, inr}
use Rattle.std.proofs.lemmas.Bool.{cases_lt, cases_Bool}
use Rattle.cd_bytes.specs.declared.order.Order.{Order}
use Rattle.cd_packet.proofs.Growing.{has_magic-few, grows_at, grows_whole, grows_cut, grows_refused, grows_after}
use Rattle.cd_packet.specs.Capture.{Capture, Grows}
use Rattle.cd_packet.specs.declared.capture.CaptureWhy.TheVariants.{Magic}
use Rattle.cd_pcapng.specs.Blocks.{Front, cut_front, refused_front, other_block, packet_block, is_section_header, head_length, order_of, kind_of, total_length, is_block_length, front_of}
use Rattle.cd_pcapng.specs.Laws.{CapturesGrow}
use Rattle.cd_pcapng.specs.Pcapng.{from_front, blocks, pcapng}
use Rattle.cd_pcapng.specs.Sections.{Section, no_section}
use Rattle.cd_pcapng.proofs.Capturing.{blocks-cut, pcapng-header, pcapng-magic}
use Rattle.cd_pcapng.proofs.Framing.{header-append, front-short, front-order, front-length, front-cut, front-whole, order-stays, length-stays, whole-stays}

-- some order, or none
pub told_cases : (o : Option Order) → (o ≡ None) ⊎ ((order : Order) × (o ≡ Some order))
told_cases None = inl refl
told_cases (Some order) = inr (order, refl)

-- A front is cut, or it stays as the bytes go on.
pub front-stays : (s : Section) (at : ℕ) (bytes more : List ℕ) → (front_of s at bytes ≡ cut_front) ⊎ (front_of s at (bytes ++ more) ≡ front_of s at bytes)
front-stays s at bytes more =
    elim (cases_lt (length bytes) (head_length bytes)) [
      | inl short ↦ inl (front-short s at bytes short)
      | inr long ↦ elim (told_cases (order_of s bytes)) [
        | inl none ↦ inr (order-stays s at bytes more long none ∙ sym (front-order s at bytes long none))
        | inr told ↦ elim (cases_Bool (is_block_length (kind_of told.0 bytes) (total_length told.0 bytes))) [
          | inr bad ↦ inr (length-stays s at bytes more told.0 long told.1 bad ∙ sym (front-length s at bytes told.0 long told.1 bad))
          | inl good ↦ elim (cases_lt (length bytes) (total_length told.0 bytes)) [
            | inl few ↦ inl (front-cut s at bytes told.0 long told.1 good few)
            | inr all ↦ inr (whole-stays s at bytes more told.0 long told.1 good all ∙ sym (front-whole s at bytes told.0 long told.1 good all))
          ]
        ]
      ]
    ]

-- what comes after a front grows, and so does what is read from the front on
from_front-grow : (f : Front) (s : Section) (at : ℕ) (now later : Section → ℕ → Capture) → ((t : Section) (inside : ℕ) → Grows (now t inside) (later t inside)) →
    Grows (from_front f s at now) (from_front f s at later)
from_front-grow cut_front s at now later h = grows_cut _
from_front-grow (refused_front why) s at now later h = grows_refused at why
from_front-grow (other_block next size) s at now later h = h next (size - 1)
from_front-grow (packet_block p size) s at now later h = grows_after p _ _ (h s (size - 1))

pub blocks-grow : (s : Section) (inside at : ℕ) (xs more : List ℕ) → Grows (blocks s inside at xs) (blocks s inside at (xs ++ more))
unfolding blocks
blocks-grow s zero at [] more = grows_whole _
blocks-grow s (suc inside) at [] more = grows_cut _
blocks-grow s (suc inside) at (b ∷ xs) more = blocks-grow s inside (at + 1) xs more
blocks-grow s zero at (b ∷ xs) more =
    let now : Section → ℕ → Capture = λ t inside. blocks t inside (at + 1) xs in
    let later : Section → ℕ → Capture = λ t inside. blocks t inside (at + 1) (xs ++ more) in
    elim (front-stays s at (b ∷ xs) more) [
      | inl cut ↦ grows_at _ _ _ _ (blocks-cut s at (b ∷ xs) (omega arith) cut) refl (grows_cut _)
      | inr same ↦
          grows_at _ _ _ _ refl (ap (λ f. from_front f s at later) same)
          (from_front-grow (front_of s at (b ∷ xs)) s at now later (λ t inside. blocks-grow t inside (at + 1) xs more))
    ]

-- From four bytes on, what is read stays as the bytes go on.
pub pcapng-grow : (xs more : List ℕ) → 4 ≤ length xs → Grows (pcapng xs) (pcapng (xs ++ more))
pcapng-grow xs more four =
    let same : is_section_header (xs ++ more) ≡ is_section_header xs = header-append xs more four in
    elim (cases_Bool (is_section_header xs)) [
      | inr other ↦ grows_at _ _ _ _ (pcapng-magic xs other) (pcapng-magic (xs ++ more) (same ∙ other)) (grows_refused 0 Magic)
      | inl header ↦
          grows_at _ _ _ _ (pcapng-header xs header) (pcapng-header (xs ++ more) (same ∙ header)) (blocks-grow no_section 0 0 xs more)
    ]

-- fewer than four bytes hold no packet
pub pcapng-few : (bytes : List ℕ) → length bytes < 4 → (pcapng bytes).packets ≡ []
pcapng-few bytes few = ap (λ (c : Capture). c.packets) (pcapng-magic bytes (has_magic-few 0x0a0d0d0a bytes few))

-- any bytes as others come after them
pub pcapng-goes_on : CapturesGrow
pcapng-goes_on bytes more = record {
  packets = elim (cases_lt (length bytes) 4) [
    | inl few ↦ ((pcapng (bytes ++ more)).packets, rw (pcapng-few bytes few) refl)
    | inr many ↦ let g = pcapng-grow bytes more many in (g.rest.packets, ap (λ (c : Capture). c.packets) g.packets)
  ];
  few = pcapng-few bytes;
  many = pcapng-grow bytes more;
}
