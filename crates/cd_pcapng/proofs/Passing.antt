-- Whole blocks, one after another.
use Rattle.std.proofs.Common.{◌≡◌, ℕ, ◌+◌, ◌-◌, ◌≤◌, None, List, [], ◌∷◌, ◌++◌, length, take, drop, map, refl, ap, sym, ◌∙◌, subst, arith, append_assoc}
use Rattle.std.proofs.lemmas.List.{append-nil, drop-append-le, drop-drop, length-drop, length-take, map-append, take-append-le}
use Rattle.std.proofs.Math.Seq.{take-add, take-length}
use Rattle.cd_bytes.specs.declared.order.Order.{Order}
use Rattle.cd_packet.proofs.Growing.{after-after}
use Rattle.cd_packet.specs.Capture.{Capture, after}
use Rattle.cd_packet.specs.declared.packet.Packet.{Packet}
use Rattle.cd_pcapng.specs.Founds.{FoundSeen, section_in, added, place_in, BeginsBlock, Passes, Keeps}
use Rattle.cd_pcapng.specs.Fronts.{packet_in, ArePlaced, IsPlaced}
use Rattle.cd_pcapng.specs.Reading.{reading_on}
use Rattle.cd_pcapng.specs.declared.front.Content.{Content}
use Rattle.cd_pcapng.specs.declared.front.Content.TheVariants as content_of
use Rattle.cd_pcapng.specs.declared.packet_place.PacketPlace.{PacketPlace}

-- a packet at a place, seen from bytes that begin later
pub packet_in-drop : (base k : ℕ) (bytes : List ℕ) (p : PacketPlace) → base + k ≤ p.captured_at → packet_in (base + k) (drop k bytes) p ≡ packet_in base bytes p
packet_in-drop base k bytes p far =
    let sum : k + (p.captured_at - (base + k)) ≡ p.captured_at - base = omega arith in
    let same : drop (p.captured_at - (base + k)) (drop k bytes) ≡ drop (p.captured_at - base) bytes = drop-drop (p.captured_at - (base + k)) k bytes ∙ ap (λ n. drop n bytes) sum in
    ap (λ t.
    let q : Packet = record { at = p.at; when = p.when; link = p.link; original = p.original; bytes = take p.captured t; timely = p.timely } in q) same

-- the same of packets
pub packets_in-drop : (base k to : ℕ) (bytes : List ℕ) (ps : List PacketPlace) (from : ℕ) → base + k ≤ from → ArePlaced from ps to →
    map (packet_in (base + k) (drop k bytes)) ps ≡ map (packet_in base bytes) ps
packets_in-drop base k to bytes [] from far h = refl
packets_in-drop base k to bytes (p ∷ ps) from far h =
    let first : packet_in (base + k) (drop k bytes) p ≡ packet_in base bytes p = packet_in-drop base k bytes p (omega (arith, far, h.0)) in
    let others = packets_in-drop base k to bytes ps (p.captured_at + p.captured) (omega (arith, far, h.0)) h.1 in
    ap (λ q. q ∷ map (packet_in (base + k) (drop k bytes)) ps) first ∙ ap (λ qs. packet_in base bytes p ∷ qs) others

-- a packet whose bytes are there stays as they go on
pub packet_in-append : (base : ℕ) (bytes more : List ℕ) (p : PacketPlace) → base ≤ p.captured_at → p.captured_at + p.captured ≤ base + length bytes →
    packet_in base (bytes ++ more) p ≡ packet_in base bytes p
packet_in-append base bytes more p from to =
    let there : take p.captured (drop (p.captured_at - base) (bytes ++ more)) ≡ take p.captured (drop (p.captured_at - base) bytes) =
    ap (λ t. take p.captured t) (drop-append-le (p.captured_at - base) bytes more (omega (arith, from, to)))
    ∙ take-append-le p.captured (drop (p.captured_at - base) bytes) more (omega (arith, from, to, length-drop (p.captured_at - base) bytes)) in
    ap (λ t. let q : Packet = record { at = p.at; when = p.when; link = p.link; original = p.original; bytes = t; timely = p.timely } in q) there

-- packets that are placed end no earlier than they begin
pub placed_order : (from to : ℕ) (ps : List PacketPlace) → ArePlaced from ps to → from ≤ to
placed_order from to [] h = h
placed_order from to (p ∷ ps) h = let k = placed_order (p.captured_at + p.captured) to ps h.1 in omega (arith, h.0, k)

-- packets that are placed may end later
pub placed_later : (from to late : ℕ) (ps : List PacketPlace) → to ≤ late → ArePlaced from ps to → ArePlaced from ps late
placed_later from to late [] more h = omega (arith, more, h)
placed_later from to late (p ∷ ps) more h = (h.0, placed_later (p.captured_at + p.captured) to late ps more h.1)

-- packets after packets
pub placed_append : (from mid to : ℕ) (ps qs : List PacketPlace) → ArePlaced from ps mid → ArePlaced mid qs to → ArePlaced from (ps ++ qs) to
placed_append from mid to [] [] h k = omega (arith, h, k)
placed_append from mid to [] (q ∷ qs) h k = (omega (arith, h, k.0), k.1)
placed_append from mid to (p ∷ ps) qs h k = (h.0, placed_append (p.captured_at + p.captured) mid to ps qs h.1 k)

-- the packets of a block are placed in it
pub placed_in : (from to : ℕ) (found : Content) → IsPlaced from found to → ArePlaced from (place_in found) to
placed_in from to (content_of.Packet p) h = h
placed_in from to (content_of.Section order) h = h
placed_in from to (content_of.Interface i) h = h
placed_in from to content_of.Other h = h

-- the packets with those of one more block
added_ready : (f : FoundSeen) (found : Content) → (added f found).ready ≡ f.ready ++ place_in found
added_ready f (content_of.Packet p) = refl
added_ready f (content_of.Section order) = sym (append-nil f.ready)
added_ready f (content_of.Interface i) = sym (append-nil f.ready)
added_ready f content_of.Other = sym (append-nil f.ready)

-- before the first block
pub passes_none : (f : FoundSeen) (at : ℕ) (bytes : List ℕ) → Passes f f at bytes 0
passes_none f at bytes = record {
  places = [];
  ready = sym (append-nil f.ready);
  within = omega arith;
  placed = omega arith;
  reads = λ more. let e : at ≡ at + 0 = omega arith in ap (λ n. reading_on (section_in f) n more) e;
}

-- one more block
pub passes_more : (old f : FoundSeen) (at : ℕ) (bytes : List ℕ) (size n : ℕ) (found : Content) → Passes old f at bytes size → BeginsBlock f (at + size) (drop size bytes) n found →
    Passes old (added f found) at bytes (size + n)
passes_more old f at bytes size n found h b =
    let places : List PacketPlace = place_in found in
    let there : ArePlaced (at + size) places (at + size + n) = placed_in (at + size) (at + size + n) found b.placed in
    let far : at + size + n ≡ at + (size + n) = omega arith in
    let same : map (packet_in (at + size) (drop size bytes)) places ≡ map (packet_in at bytes) places =
    packets_in-drop at size (at + size + n) bytes places (at + size) (omega arith) there in
    record {
      places = h.places ++ places;
      ready = added_ready f found ∙ ap (λ ps. ps ++ places) h.ready ∙ append_assoc old.ready h.places places;
      within = omega (arith, h.within, b.within, length-drop size bytes);
      placed = placed_append at (at + size) (at + (size + n)) h.places places h.placed
          (placed_later (at + size) (at + size + n) (at + (size + n)) places (omega arith) there);
      reads = λ more.
          let next : Capture = reading_on (section_in (added f found)) (at + (size + n)) more in
          ap (λ t. reading_on (section_in old) at (t ++ more)) (take-add size n bytes)
          ∙ ap (λ t. reading_on (section_in old) at t) (append_assoc (take size bytes) (take n (drop size bytes)) more)
          ∙ h.reads (take n (drop size bytes) ++ more)
          ∙ ap (λ c. after (map (packet_in at bytes) h.places) c) (b.reads more)
          ∙ ap (λ k. after (map (packet_in at bytes) h.places) (after (map (packet_in (at + size) (drop size bytes)) places) (reading_on (section_in (added f found)) k more))) far
          ∙ ap (λ ps. after (map (packet_in at bytes) h.places) (after ps next)) same
          ∙ after-after (map (packet_in at bytes) h.places) (map (packet_in at bytes) places) next
          ∙ ap (λ ps. after ps next) (sym (map-append (packet_in at bytes) h.places places));
    }

-- a list whose front is kept is as long
pub kept_length : {X : Type 0} (xs ys : List X) → take (length xs) ys ≡ xs → length xs ≤ length ys
kept_length xs ys kept = let e : length (take (length xs) ys) ≡ length xs = ap length kept in omega (arith, e, length-take (length xs) ys)

-- what was found is kept
pub keeps_all : (f : FoundSeen) → Keeps f f
keeps_all f = record { ready = take-length f.ready; interfaces = take-length f.interfaces }

-- so it is as one more is added
pub keeps_more : (old f : FoundSeen) (found : Content) → Keeps old f → Keeps old (added f found)
keeps_more old f (content_of.Section order) h = record { ready = h.ready; interfaces = h.interfaces }
keeps_more old f content_of.Other h = h
keeps_more old f (content_of.Packet p) h = record {
  ready = take-append-le (length old.ready) f.ready (p ∷ []) (kept_length old.ready f.ready h.ready) ∙ h.ready;
  interfaces = h.interfaces;
}
keeps_more old f (content_of.Interface i) h = record {
  ready = h.ready;
  interfaces = take-append-le (length old.interfaces) f.interfaces (i ∷ []) (kept_length old.interfaces f.interfaces h.interfaces) ∙ h.interfaces;
}

-- after the first block a section began
pub order_added : (f : FoundSeen) (found : Content) → (f.order ≡ None → (order : Order) × (found ≡ content_of.Section order)) → (added f found).order ≡ None → ⊥
order_added f (content_of.Section order) first none = absurd cc
order_added f (content_of.Interface i) first none = let k = first none in let e : content_of.Interface i ≡ content_of.Section k.0 = k.1 in absurd cc
order_added f (content_of.Packet p) first none = let k = first none in let e : content_of.Packet p ≡ content_of.Section k.0 = k.1 in absurd cc
order_added f content_of.Other first none = let k = first none in let e : content_of.Other ≡ content_of.Section k.0 = k.1 in absurd cc

-- the first packet of some that are placed
pub first_placed : (from to : ℕ) (p : PacketPlace) (others ps : List PacketPlace) → ps ≡ p ∷ others → ArePlaced from ps to →
    (from ≤ p.captured_at) × (p.captured_at ≤ to) × ArePlaced p.captured_at ps to
first_placed from to p others ps is h =
    let P : ℕ → List PacketPlace → Type 0 = λ n qs. ArePlaced n qs to in
    let k : P from (p ∷ others) = subst (λ (qs : List PacketPlace). P from qs) is h in
    let end = placed_order (p.captured_at + p.captured) to others k.1 in
    let there : P p.captured_at (p ∷ others) = (omega arith, k.1) in
    (k.0, omega (arith, end), subst (λ (qs : List PacketPlace). P p.captured_at qs) (sym is) there)

-- its bytes end where the others may begin, and these are placed
pub others_placed : (from to : ℕ) (p : PacketPlace) (others ps : List PacketPlace) → ps ≡ p ∷ others → ArePlaced from ps to →
    (p.captured_at + p.captured ≤ to) × ArePlaced from others to
others_placed from to p others ps is h =
    let P : List PacketPlace → Type 0 = λ qs. ArePlaced from qs to in
    let k : P (p ∷ others) = subst P is h in
    (placed_order (p.captured_at + p.captured) to others k.1, placed_earlier from (p.captured_at + p.captured) to others (omega (arith, k.0)) k.1)
  where
    placed_earlier : (early from to : ℕ) (ps : List PacketPlace) → early ≤ from → ArePlaced from ps to → ArePlaced early ps to
    placed_earlier early from to [] less h = omega (arith, less, h)
    placed_earlier early from to (p ∷ ps) less h = (omega (arith, less, h.0), h.1)
