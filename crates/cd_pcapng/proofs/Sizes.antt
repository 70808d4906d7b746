-- The blocks of the packets of a capture take no more bytes than it has.
use Rattle.std.proofs.Common.{◌≡◌, ℕ, zero, suc, ◌+◌, ◌-◌, ◌≤◌, Option, Some, None, List, [], ◌∷◌, ◌++◌, length, take, arith, subst, refl, ap, sym, ◌∙◌, inl, inr}
use Rattle.std.specs.List.{sum_by}
use Rattle.std.proofs.lemmas.Bool.{cases_Bool}
use Rattle.std.proofs.lemmas.List.{append-nil, length-take}
use Rattle.std.proofs.lemmas.List.Sums.{sum_by-cons}
use Rattle.cd_packet.specs.Capture.{Capture, after}
use Rattle.cd_packet.specs.declared.packet.Packet.{Packet}
use Rattle.cd_pcapng.specs.Blocks.{Front, cut_front, refused_front, other_block, packet_block, is_section_header, front_of}
use Rattle.cd_pcapng.specs.Laws.{PacketsAreWithin, least_block_length}
use Rattle.cd_pcapng.specs.Pcapng.{from_front, blocks, pcapng}
use Rattle.cd_pcapng.specs.Sections.{Section, no_section}
use Rattle.cd_pcapng.specs.Reading.{reading_on}
use Rattle.cd_pcapng.proofs.Capturing.{blocks-none, blocks-cut, blocks-refused, pcapng-header, pcapng-magic, pcapng-none}
use Rattle.cd_pcapng.proofs.Wholes.{HasLength, front_cases}

-- the packets of a capture take at most so many bytes
HaveSize : ℕ → Capture → Type 0
HaveSize n c = sum_by least_block_length c.packets ≤ n

size_at : (n : ℕ) (c d : Capture) → c ≡ d → HaveSize n d → HaveSize n c
size_at n c d is h = let P : Capture → Type 0 = λ k. HaveSize n k in subst P (sym is) h

no_size : (n : ℕ) (c : Capture) → c.packets ≡ [] → HaveSize n c
unfolding HaveSize
no_size n c none = rw none (omega arith)

more_size : (n m : ℕ) (c : Capture) → HaveSize n c → n ≤ m → HaveSize m c
unfolding HaveSize
more_size n m c h few = omega (arith, h, few)

first_size : (n m size : ℕ) (p : Packet) (c : Capture) → 16 + length p.bytes ≤ size → HaveSize n c → size + n ≤ m → HaveSize m (after (p ∷ []) c)
unfolding HaveSize
first_size n m size p c short h few = omega (arith, short, h, few, sum_by-cons least_block_length p c.packets)

size_known : (n : ℕ) (c : Capture) → HaveSize n c → sum_by least_block_length c.packets ≤ n
unfolding HaveSize
size_known n c h = h

-- a whole front, and what comes after it
front_size : (f : Front) (s : Section) (at size all : ℕ) (rest : Section → ℕ → Capture) → HasLength at size f → size ≤ all →
    ((t : Section) → HaveSize (all - size) (rest t (size - 1))) → HaveSize all (from_front f s at rest)
front_size cut_front s at size all rest long within h = no_size _ _ refl
front_size (refused_front why) s at size all rest long within h = no_size _ _ refl
front_size (other_block next n) s at size all rest long within h =
    let P : ℕ → Type 0 = λ k. HaveSize (all - size) (rest next (k - 1)) in
    more_size (all - size) all _ (subst P (sym long) (h next)) (omega arith)
front_size (packet_block p n) s at size all rest long within h =
    let P : ℕ → Type 0 = λ k. HaveSize (all - size) (rest s (k - 1)) in
    first_size (all - size) all size p _ long.2 (subst P (sym long.0) (h s)) (omega (arith, within))

-- blocks, of which so many bytes of one before stand in front
blocks_size : (s : Section) (inside at : ℕ) (bytes : List ℕ) → HaveSize (length bytes - inside) (blocks s inside at bytes)
unfolding blocks
blocks_size s zero at [] = no_size _ _ refl
blocks_size s (suc inside) at [] = no_size _ _ refl
blocks_size s (suc inside) at (b ∷ bytes) = more_size (length bytes - inside) _ _ (blocks_size s inside (at + 1) bytes) (omega arith)
blocks_size s zero at (b ∷ bytes) =
    elim (front_cases s at (b ∷ bytes)) [
      | inl cut ↦ size_at _ _ _ (blocks-cut s at (b ∷ bytes) (omega arith) cut) (no_size _ _ refl)
      | inr more ↦ elim more [
        | inl refused ↦ size_at _ _ _ (blocks-refused s at (b ∷ bytes) refused.0 (omega arith) refused.1) (no_size _ _ refl)
        | inr w ↦
            more_size (length (b ∷ bytes)) _ _
            (front_size (front_of s at (b ∷ bytes)) s at w.size (length (b ∷ bytes)) (λ t inside. blocks t inside (at + 1) bytes) w.long w.within
            (λ t. more_size (length bytes - (w.size - 1)) _ _ (blocks_size t (w.size - 1) (at + 1) bytes) (omega (arith, w.least))))
            (omega arith)
      ]
    ]

-- a capture
captures_have_size : (bytes : List ℕ) → HaveSize (length bytes) (pcapng bytes)
captures_have_size bytes =
    elim (cases_Bool (is_section_header bytes)) [
      | inr other ↦ size_at _ _ _ (pcapng-magic bytes other) (no_size _ _ refl)
      | inl header ↦ size_at _ _ _ (pcapng-header bytes header) (more_size _ _ _ (blocks_size no_section 0 0 bytes) (omega arith))
    ]

pub packets_within : PacketsAreWithin
packets_within bytes = size_known _ _ (captures_have_size bytes)

-- what is read from somewhere on
read_size : (section : Option Section) (at : ℕ) (bytes : List ℕ) → HaveSize (length bytes) (reading_on section at bytes)
read_size None at bytes = captures_have_size bytes
read_size (Some s) at bytes = more_size _ _ _ (blocks_size s 0 at bytes) (omega arith)

-- nothing but packets is left of packets before nothing
front_packets : (ps : List Packet) (c d : Capture) → c ≡ after ps d → d.packets ≡ [] → c.packets ≡ ps
front_packets ps c d is none = ap (λ (k : Capture). k.packets) is ∙ ap (λ qs. ps ++ qs) none ∙ append-nil ps

-- of no bytes there is no packet
none_read : (section : Option Section) (at : ℕ) → (reading_on section at []).packets ≡ []
none_read None at = ap (λ (c : Capture). c.packets) pcapng-none
none_read (Some s) at = ap (λ (c : Capture). c.packets) (blocks-none s at [] refl)

-- the packets of whole blocks take no more bytes than these
pub passed_size : (section next : Option Section) (at size : ℕ) (bytes : List ℕ) (ps : List Packet) →
    ((more : List ℕ) → reading_on section at (take size bytes ++ more) ≡ after ps (reading_on next (at + size) more)) →
    sum_by least_block_length ps ≤ size
passed_size section next at size bytes ps reads =
    let front : List ℕ = take size bytes in
    let packets : (reading_on section at front).packets ≡ ps =
    ap (λ t. (reading_on section at t).packets) (sym (append-nil front))
    ∙ front_packets ps (reading_on section at (front ++ [])) _ (reads []) (none_read next (at + size)) in
    let all = size_known _ _ (read_size section at front) in
    omega (arith, all, ap (sum_by least_block_length) packets, length-take size bytes)
