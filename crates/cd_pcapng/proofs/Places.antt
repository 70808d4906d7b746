-- Where the packets of a capture stand, and its refused place.
use Rattle.std.proofs.Common.{◌≡◌, ℕ, true, zero, suc, ◌+◌, ◌-◌, ◌<◌, ◌≤◌, List, [], ◌∷◌, ◌++◌, length, take, drop, refl, ap, sym, ◌∙◌, arith, inl, inr}
use Rattle.std.proofs.lemmas.Bool.{cases_Bool, cases_lt}
use Rattle.std.proofs.lemmas.List.{take-append-drop, length-take-le, take-append-le}
use Rattle.cd_packet.specs.Capture.{Capture}
use Rattle.cd_packet.specs.declared.capture.BadCapture.{BadCapture}
use Rattle.cd_packet.specs.declared.capture.CaptureWhy.TheVariants.{Magic}
use Rattle.cd_packet.specs.declared.capture.EndState.TheVariants.{Cut, Bad}
use Rattle.cd_packet.specs.declared.packet.Packet.{Packet}
use Rattle.cd_pcapng.specs.Blocks.{Front, cut_front, refused_front, other_block, packet_block, is_section_header, front_of}
use Rattle.cd_pcapng.specs.Laws.{PacketsStandBefore, PacketsStandInOrder}
use Rattle.cd_pcapng.specs.Pcapng.{from_front, blocks, pcapng}
use Rattle.cd_pcapng.specs.Sections.{Section, no_section}
use Rattle.cd_pcapng.proofs.Capturing.{blocks-none, blocks-cut, blocks-refused, pcapng-header, pcapng-magic, pcapng-none}
use Rattle.cd_pcapng.proofs.Extending.{pcapng-few}
use Rattle.cd_pcapng.proofs.Framing.{header-append, head_many, front-short}
use Rattle.cd_pcapng.proofs.Wholes.{IsWhole, front_cases}

-- no packet is not one packet
not_none : (before : List Packet) (p : Packet) (rest : List Packet) → [] ≡ before ++ p ∷ rest → ⊥
not_none [] p rest e = cc
not_none (q ∷ before) p rest e = cc

-- So many of the bytes stand before a packet, and they hold those before it.
record HasBefore (s : Section) (inside at : ℕ) (bytes : List ℕ) (before : List Packet) (offset : ℕ) : Type 0 where
  pub size : ℕ
  pub place : offset ≡ at + size
  pub least : inside ≤ size
  pub within : size ≤ length bytes
  pub packets : (blocks s inside at (take size bytes)).packets ≡ before

-- a front is the same in fewer bytes that have its block
front_prefix : (s : Section) (at m : ℕ) (bytes : List ℕ) (f : Front) (w : IsWhole s at bytes f) → w.size ≤ m → m ≤ length bytes → front_of s at (take m bytes) ≡ f
front_prefix s at m bytes f w few within =
    let count : length (take m bytes) ≡ m = length-take-le m bytes within in
    let same : take w.size (take m bytes) ≡ take w.size bytes =
    sym (take-append-le w.size (take m bytes) (drop m bytes) (omega (arith, few, count))) ∙ ap (λ t. take w.size t) (take-append-drop m bytes) in
    ap (λ t. front_of s at t) (sym (take-append-drop w.size (take m bytes)) ∙ ap (λ t. t ++ drop w.size (take m bytes)) same) ∙ w.reads (drop w.size (take m bytes))

-- the offset of the first packet
first_at : List Packet → ℕ
first_at [] = 0
first_at (p ∷ ps) = p.at

first_told : (p q : Packet) (ps qs : List Packet) → p ∷ ps ≡ q ∷ qs → p.at ≡ q.at
unfolding first_at
first_told p q ps qs e = ap first_at e

-- the rest of the capture, of which one byte is taken
abbrev rest_of : ℕ → List ℕ → Section → ℕ → Capture
rest_of at xs t inside = blocks t inside (at + 1) xs

-- the bytes before a packet, from the front on
before_front : (f : Front) (s : Section) (at b : ℕ) (xs : List ℕ) → IsWhole s at (b ∷ xs) f →
    ((t : Section) (inside : ℕ) (before rest : List Packet) (p : Packet) → (rest_of at xs t inside).packets ≡ before ++ p ∷ rest → HasBefore t inside (at + 1) xs before p.at) →
    (before rest : List Packet) (p : Packet) → (from_front f s at (rest_of at xs)).packets ≡ before ++ p ∷ rest → HasBefore s 0 at (b ∷ xs) before p.at
unfolding blocks
before_front cut_front s at b xs w step before rest p h = absurd (not_none before p rest h)
before_front (refused_front why) s at b xs w step before rest p h = absurd (not_none before p rest h)
before_front (other_block next n) s at b xs w step before rest p h =
    let k = step next (n - 1) before rest p h in
    let same : front_of s at (b ∷ take k.size xs) ≡ other_block next n =
    front_prefix s at (suc k.size) (b ∷ xs) (other_block next n) w (omega (arith, k.least, w.long)) (omega (arith, k.within)) in
    record {
      size = suc k.size;
      place = omega (arith, k.place);
      least = omega arith;
      within = omega (arith, k.within);
      packets = ap (λ f. (from_front f s at (rest_of at (take k.size xs))).packets) same ∙ k.packets;
    }
before_front (packet_block q n) s at b xs w step [] rest p h =
    let is : q.at ≡ p.at = first_told q p _ rest h in
    record { size = 0; place = omega (arith, is, w.long.1); least = omega arith; within = omega arith; packets = refl }
before_front (packet_block q n) s at b xs w step (r ∷ before) rest p h =
    let is : q ≡ r = cc in
    let tail : (rest_of at xs s (n - 1)).packets ≡ before ++ p ∷ rest = cc in
    let k = step s (n - 1) before rest p tail in
    let same : front_of s at (b ∷ take k.size xs) ≡ packet_block q n =
    front_prefix s at (suc k.size) (b ∷ xs) (packet_block q n) w (omega (arith, k.least, w.long.0)) (omega (arith, k.within)) in
    record {
      size = suc k.size;
      place = omega (arith, k.place);
      least = omega arith;
      within = omega (arith, k.within);
      packets = ap (λ f. (from_front f s at (rest_of at (take k.size xs))).packets) same ∙ ap (λ ps. q ∷ ps) k.packets ∙ ap (λ x. x ∷ before) is;
    }

-- no packet stands in a capture that has none
none_in : (c : Capture) (before : List Packet) (p : Packet) (rest : List Packet) → c.packets ≡ [] → c.packets ≡ before ++ p ∷ rest → ⊥
none_in c before p rest none h = not_none before p rest (sym none ∙ h)

-- the bytes before a packet
blocks_before : (s : Section) (inside at : ℕ) (bytes : List ℕ) (before rest : List Packet) (p : Packet) → (blocks s inside at bytes).packets ≡ before ++ p ∷ rest →
    HasBefore s inside at bytes before p.at
unfolding blocks
blocks_before s zero at [] before rest p h = absurd (not_none before p rest h)
blocks_before s (suc inside) at [] before rest p h = absurd (not_none before p rest h)
blocks_before s (suc inside) at (b ∷ xs) before rest p h =
    let k = blocks_before s inside (at + 1) xs before rest p h in
    record { size = suc k.size; place = omega (arith, k.place); least = omega (arith, k.least); within = omega (arith, k.within); packets = k.packets }
blocks_before s zero at (b ∷ xs) before rest p h =
    elim (front_cases s at (b ∷ xs)) [
      | inl cut ↦ absurd (none_in (blocks s 0 at (b ∷ xs)) before p rest (ap (λ (c : Capture). c.packets) (blocks-cut s at (b ∷ xs) (omega arith) cut)) h)
      | inr more ↦ elim more [
        | inl refused ↦ absurd (none_in (blocks s 0 at (b ∷ xs)) before p rest (ap (λ (c : Capture). c.packets) (blocks-refused s at (b ∷ xs) refused.0 (omega arith) refused.1)) h)
        | inr w ↦ before_front (front_of s at (b ∷ xs)) s at b xs w (λ t inside. blocks_before t inside (at + 1) xs) before rest p h
      ]
    ]

-- fewer bytes than a head has hold no packet
few_blocks : (s : Section) (at : ℕ) (bytes : List ℕ) → length bytes < 8 → (blocks s 0 at bytes).packets ≡ []
few_blocks s at [] few = ap (λ (c : Capture). c.packets) (blocks-none s at [] refl)
few_blocks s at (b ∷ bytes) few =
    ap (λ (c : Capture). c.packets)
    (blocks-cut s at (b ∷ bytes) (omega arith) (front-short s at (b ∷ bytes) (omega (arith, few, head_many (b ∷ bytes)))))

-- the first bytes of a capture hold what its first blocks do
first_blocks : (bytes : List ℕ) (size : ℕ) (before : List Packet) → is_section_header bytes ≡ true → size ≤ length bytes →
    (blocks no_section 0 0 (take size bytes)).packets ≡ before → (pcapng (take size bytes)).packets ≡ before
first_blocks bytes size before header within h =
    let count : length (take size bytes) ≡ size = length-take-le size bytes within in
    elim (cases_lt size 4) [
      | inl few ↦ pcapng-few (take size bytes) (omega (arith, count, few)) ∙ sym (few_blocks no_section 0 (take size bytes) (omega (arith, count, few))) ∙ h
      | inr many ↦
          let there : is_section_header (take size bytes) ≡ true =
          sym (header-append (take size bytes) (drop size bytes) (omega (arith, count, many))) ∙ ap (λ t. is_section_header t) (take-append-drop size bytes) ∙ header in
          ap (λ (c : Capture). c.packets) (pcapng-header (take size bytes) there) ∙ h
    ]

-- the bytes before a packet's offset hold the packets before it
pub packets_in_order : PacketsStandInOrder
packets_in_order bytes before rest p h =
    elim (cases_Bool (is_section_header bytes)) [
      | inr other ↦ absurd (none_in (pcapng bytes) before p rest (ap (λ (c : Capture). c.packets) (pcapng-magic bytes other)) h)
      | inl header ↦
          let k = blocks_before no_section 0 0 bytes before rest p (sym (ap (λ (c : Capture). c.packets) (pcapng-header bytes header)) ∙ h) in
          let place : p.at ≡ k.size = omega (arith, k.place) in
          ap (λ n. (pcapng (take n bytes)).packets) place ∙ first_blocks bytes k.size before header k.within k.packets
    ]

-- the same end is at the same place
place_told : (a b : BadCapture) → Bad a ≡ Bad b → a.at ≡ b.at
place_told a b e = let same : a ≡ b = cc in ap (λ (c : BadCapture). c.at) same

-- the bytes before a refused place, from the front on
refused_from : (f : Front) (s : Section) (at b : ℕ) (xs : List ℕ) → IsWhole s at (b ∷ xs) f →
    ((t : Section) (inside : ℕ) (bad : BadCapture) → (rest_of at xs t inside).end ≡ Bad bad → HasBefore t inside (at + 1) xs (rest_of at xs t inside).packets bad.at) →
    (bad : BadCapture) → (from_front f s at (rest_of at xs)).end ≡ Bad bad → HasBefore s 0 at (b ∷ xs) (from_front f s at (rest_of at xs)).packets bad.at
unfolding blocks
refused_from cut_front s at b xs w step bad h = absurd cc
refused_from (refused_front why) s at b xs w step bad h =
    let is : at ≡ bad.at = place_told _ _ h in
    record { size = 0; place = omega (arith, is); least = omega arith; within = omega arith; packets = refl }
refused_from (other_block next n) s at b xs w step bad h =
    let k = step next (n - 1) bad h in
    let same : front_of s at (b ∷ take k.size xs) ≡ other_block next n =
    front_prefix s at (suc k.size) (b ∷ xs) (other_block next n) w (omega (arith, k.least, w.long)) (omega (arith, k.within)) in
    record {
      size = suc k.size;
      place = omega (arith, k.place);
      least = omega arith;
      within = omega (arith, k.within);
      packets = ap (λ f. (from_front f s at (rest_of at (take k.size xs))).packets) same ∙ k.packets;
    }
refused_from (packet_block q n) s at b xs w step bad h =
    let k = step s (n - 1) bad h in
    let same : front_of s at (b ∷ take k.size xs) ≡ packet_block q n =
    front_prefix s at (suc k.size) (b ∷ xs) (packet_block q n) w (omega (arith, k.least, w.long.0)) (omega (arith, k.within)) in
    record {
      size = suc k.size;
      place = omega (arith, k.place);
      least = omega arith;
      within = omega (arith, k.within);
      packets = ap (λ f. (from_front f s at (rest_of at (take k.size xs))).packets) same ∙ ap (λ ps. q ∷ ps) k.packets;
    }

-- the bytes before a refused place have all packets
blocks_refused : (s : Section) (inside at : ℕ) (bytes : List ℕ) (bad : BadCapture) → (blocks s inside at bytes).end ≡ Bad bad →
    HasBefore s inside at bytes (blocks s inside at bytes).packets bad.at
unfolding blocks
blocks_refused s zero at [] bad h = absurd cc
blocks_refused s (suc inside) at [] bad h = absurd cc
blocks_refused s (suc inside) at (b ∷ xs) bad h =
    let k = blocks_refused s inside (at + 1) xs bad h in
    record { size = suc k.size; place = omega (arith, k.place); least = omega (arith, k.least); within = omega (arith, k.within); packets = k.packets }
blocks_refused s zero at (b ∷ xs) bad h =
    elim (front_cases s at (b ∷ xs)) [
      | inl cut ↦ let e : Cut ≡ Bad bad = sym (ap (λ (c : Capture). c.end) (blocks-cut s at (b ∷ xs) (omega arith) cut)) ∙ h in absurd cc
      | inr more ↦ elim more [
        | inl refused ↦
            let is = blocks-refused s at (b ∷ xs) refused.0 (omega arith) refused.1 in
            let e : Bad (record { at = at; why = refused.0 }) ≡ Bad bad = sym (ap (λ (c : Capture). c.end) is) ∙ h in
            let place : at ≡ bad.at = place_told _ _ e in
            record { size = 0; place = omega (arith, place); least = omega arith; within = omega arith; packets = sym (ap (λ (c : Capture). c.packets) is) }
        | inr w ↦ refused_from (front_of s at (b ∷ xs)) s at b xs w (λ t inside. blocks_refused t inside (at + 1) xs) bad h
      ]
    ]

-- all packets of a capture stand before its refused place
pub packets_before : PacketsStandBefore
packets_before bytes bad h =
    elim (cases_Bool (is_section_header bytes)) [
      | inr other ↦
          let is = pcapng-magic bytes other in
          let e : Bad (record { at = 0; why = Magic }) ≡ Bad bad = sym (ap (λ (c : Capture). c.end) is) ∙ h in
          let place : 0 ≡ bad.at = place_told _ _ e in
          ap (λ n. (pcapng (take n bytes)).packets) (sym place) ∙ ap (λ (c : Capture). c.packets) pcapng-none ∙ sym (ap (λ (c : Capture). c.packets) is)
      | inl header ↦
          let is = pcapng-header bytes header in
          let k = blocks_refused no_section 0 0 bytes bad (sym (ap (λ (c : Capture). c.end) is) ∙ h) in
          let place : bad.at ≡ k.size = omega (arith, k.place) in
          ap (λ n. (pcapng (take n bytes)).packets) place ∙ first_blocks bytes k.size (blocks no_section 0 0 bytes).packets header k.within k.packets
          ∙ sym (ap (λ (c : Capture). c.packets) is)
    ]
