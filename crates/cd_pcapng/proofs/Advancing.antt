-- A reader as it goes on over the whole blocks that it holds.
use Rattle.std.proofs.Common.{◌≡◌, ℕ, ◌+◌, ◌-◌, ◌≤◌, ◌^◌, Option, Some, None, List, [], ◌∷◌, ◌++◌, length, take, drop, map, refl, ap, sym, ◌∙◌, subst, arith, length-append}
use Rattle.std.proofs.lemmas.List.{drop-append-le, drop-drop, drop-take, drop_all, length-drop, length-take-le, map-append, take-append-drop}
use Rattle.std.proofs.Math.Seq.{take-append_seam}
use Rattle.std.specs.List.{sum_by}
use Rattle.std.proofs.lemmas.List.Sums.{sum_by-append}
use Rattle.std.specs.Prelude.{option_map}
use Rattle.cd_bytes.specs.declared.order.Order.{Order}
use Rattle.cd_packet.specs.declared.capture.BadCapture.{BadCapture}
use Rattle.cd_packet.specs.declared.capture.CaptureWhy.{CaptureWhy}
use Rattle.cd_packet.specs.declared.packet.Packet.{Packet}
use Rattle.cd_pcapng.specs.Founds.{FoundSeen, section_in, FindsAll, IsStopped}
use Rattle.cd_pcapng.specs.Fronts.{packet_in, ArePlaced}
use Rattle.cd_pcapng.specs.Giving.{HasRoom}
use Rattle.cd_pcapng.specs.Laws.{least_block_length}
use Rattle.cd_pcapng.specs.Reading.{Kept, HasRead, StandsFor, AreOpen, AreRefused}
use Rattle.cd_pcapng.specs.Sections.{section_of}
use Rattle.cd_pcapng.specs.declared.front.WholeBlocks.{WholeBlocks}
use Rattle.cd_pcapng.specs.declared.packet_place.PacketPlace.{PacketPlace}
use Rattle.cd_pcapng.proofs.Dropping.{kept_in}
use Rattle.cd_pcapng.proofs.Passing.{packet_in-append, packets_in-drop, placed_append, placed_later, placed_order}
use Rattle.cd_pcapng.proofs.Sizes.{passed_size}
use Rattle.cd_pcapng.proofs.Standing.{blocks_read, open_stands, refused_stands}

-- all packets that were found are placed up to the mark
pub placed_all : (base start : ℕ) (bytes : List ℕ) (old new : FoundSeen) (b : WholeBlocks) → ArePlaced base old.ready (base + start) → FindsAll old new (base + start) bytes b →
    ArePlaced base new.ready (base + (start + b.size))
placed_all base start bytes old new b h k =
    let P : List PacketPlace → Type 0 = λ ps. ArePlaced base ps (base + (start + b.size)) in
    let there : ArePlaced (base + start) k.passes.places (base + (start + b.size)) =
    placed_later (base + start) (base + start + b.size) (base + (start + b.size)) k.passes.places (omega arith) k.passes.placed in
    subst P (sym k.passes.ready) (placed_append base (base + start) (base + (start + b.size)) old.ready k.passes.places h there)

-- packets among bytes that are cut after them
pub packets_in-take : (base m to : ℕ) (bytes : List ℕ) (ps : List PacketPlace) (from : ℕ) → base ≤ from → to ≤ base + m → m ≤ length bytes → ArePlaced from ps to →
    map (packet_in base (take m bytes)) ps ≡ map (packet_in base bytes) ps
packets_in-take base m to bytes [] from far near within h = refl
packets_in-take base m to bytes (p ∷ ps) from far near within h =
    let long : length (take m bytes) ≡ m = length-take-le m bytes within in
    let end = placed_order (p.captured_at + p.captured) to ps h.1 in
    let first : packet_in base (take m bytes) p ≡ packet_in base bytes p =
    sym (packet_in-append base (take m bytes) (drop m bytes) p (omega (arith, far, h.0)) (omega (arith, end, near, long)))
    ∙ ap (λ t. packet_in base t p) (take-append-drop m bytes) in
    let others = packets_in-take base m to bytes ps (p.captured_at + p.captured) (omega (arith, far, h.0)) near within h.1 in
    ap (λ q. q ∷ map (packet_in base (take m bytes)) ps) first ∙ ap (λ qs. packet_in base bytes p ∷ qs) others

-- what a reader keeps once it has read these packets
read_view : (fed_count base start size : ℕ) (bytes : List ℕ) (old new : FoundSeen) (places : List PacketPlace) (refused : Option BadCapture) → new.ready ≡ old.ready ++ places →
    ArePlaced (base + start) places (base + start + size) →
    record {
      fed_count = fed_count;
      ready = map (packet_in base bytes) old.ready ++ map (packet_in (base + start) (drop start bytes)) places;
      held = drop size (drop start bytes);
      at = base + start + size;
      section = section_in new;
      refused = refused;
    } ≡ kept_in fed_count base (start + size) bytes new refused
read_view fed_count base start size bytes old new places refused is placed =
    let seen : PacketPlace → Packet = packet_in base bytes in
    let later : map (packet_in (base + start) (drop start bytes)) places ≡ map seen places =
    packets_in-drop base start (base + start + size) bytes places (base + start) (omega arith) placed in
    let ready : map seen old.ready ++ map (packet_in (base + start) (drop start bytes)) places ≡ map seen new.ready =
    ap (λ qs. map seen old.ready ++ qs) later ∙ sym (map-append seen old.ready places) ∙ ap (λ ps. map seen ps) (sym is) in
    let held : drop size (drop start bytes) ≡ drop (start + size) bytes = drop-drop size start bytes in
    let place : base + start + size ≡ base + (start + size) = omega arith in
    let of : List Packet → List ℕ → ℕ → Kept = λ ps t n. record { fed_count = fed_count; ready = ps; held = t; at = n; section = section_in new; refused = refused } in
    ap (λ ps. of ps (drop size (drop start bytes)) (base + start + size)) ready ∙ ap (λ t. of (map seen new.ready) t (base + start + size)) held
    ∙ ap (λ n. of (map seen new.ready) (drop (start + size) bytes) n) place

-- the whole blocks that are held are read
read_on : (fed_count base start : ℕ) (bytes : List ℕ) (old new : FoundSeen) (b : WholeBlocks) (refused : Option BadCapture) → FindsAll old new (base + start) (drop start bytes) b →
    (fed : List ℕ) (given : List Packet) → HasRead (kept_in fed_count base start bytes old refused) fed [] given →
    HasRead (kept_in fed_count base (start + b.size) bytes new refused) fed [] given
read_on fed_count base start bytes old new b refused k fed given h =
    let P : Kept → Type 0 = λ r. HasRead r fed [] given in
    subst P (read_view fed_count base start b.size bytes old new k.passes.places refused k.passes.ready k.passes.placed)
    (blocks_read (kept_in fed_count base start bytes old refused) b.size (map (packet_in (base + start) (drop start bytes)) k.passes.places) (section_in new) fed given
    k.passes.within k.passes.reads h)

-- the packets that were read had room in the bytes that were
pub read_room : (fed_count base start : ℕ) (bytes : List ℕ) (old new : FoundSeen) (b : WholeBlocks) (before later : Option BadCapture) →
    FindsAll old new (base + start) (drop start bytes) b → base + (start + b.size) ≤ 2 ^ 48 →
    HasRoom (kept_in fed_count base start bytes old before) (kept_in fed_count base (start + b.size) bytes new later)
read_room fed_count base start bytes old new b before later k few =
    let seen : PacketPlace → Packet = packet_in base bytes in
    let ps : List Packet = map (packet_in (base + start) (drop start bytes)) k.passes.places in
    let ready : map seen old.ready ++ ps ≡ map seen new.ready =
    ap (λ (r : Kept). r.ready) (read_view fed_count base start b.size bytes old new k.passes.places before k.passes.ready k.passes.placed) in
    let sum : sum_by least_block_length (map seen new.ready) ≡ sum_by least_block_length (map seen old.ready) + sum_by least_block_length ps =
    sym (ap (sum_by least_block_length) ready) ∙ sum_by-append least_block_length (map seen old.ready) ps in
    let room : sum_by least_block_length ps ≤ b.size =
    passed_size (section_in old) (section_in new) (base + start) b.size (drop start bytes) ps k.passes.reads in
    record { packets = omega (arith, sum, room); few = few }

-- so they had before a refused place
pub refused_room : (fed_count base start : ℕ) (bytes : List ℕ) (old new : FoundSeen) (b : WholeBlocks) (before later : Option BadCapture) → start ≤ length bytes →
    ArePlaced base old.ready (base + start) → FindsAll old new (base + start) (drop start bytes) b → base + (start + b.size) ≤ 2 ^ 48 →
    HasRoom (kept_in fed_count base start bytes old before) (kept_in fed_count base (start + b.size) (take (start + b.size) bytes) new later)
refused_room fed_count base start bytes old new b before later within placed k few =
    let m : ℕ = start + b.size in
    let all : m ≤ length bytes = omega (arith, within, k.passes.within, length-drop start bytes) in
    let ready : map (packet_in base (take m bytes)) new.ready ≡ map (packet_in base bytes) new.ready =
    packets_in-take base m (base + m) bytes new.ready base (omega arith) (omega arith) all (placed_all base start (drop start bytes) old new b placed k) in
    let room = read_room fed_count base start bytes old new b before later k few in
    record { packets = omega (arith, room.packets, ap (sum_by least_block_length) ready); few = few }

-- what stands after them, as the reader sees it
stopped_after : (base start size : ℕ) (bytes : List ℕ) (P : ℕ → List ℕ → Type 0) → P (base + start + size) (drop size (drop start bytes)) → P (base + (start + size)) (drop (start + size) bytes)
stopped_after base start size bytes P h =
    let place : base + start + size ≡ base + (start + size) = omega arith in
    subst (λ (n : ℕ). P n (drop (start + size) bytes)) place (subst (λ (t : List ℕ). P (base + start + size) t) (drop-drop size start bytes) h)

-- up to bytes that are open
pub stands_open : (fed_count base start : ℕ) (bytes : List ℕ) (old new : FoundSeen) (b : WholeBlocks) (refused : Option BadCapture) → refused ≡ None → b.refused ≡ None →
    FindsAll old new (base + start) (drop start bytes) b → (fed : List ℕ) (given : List Packet) → HasRead (kept_in fed_count base start bytes old refused) fed [] given →
    StandsFor (kept_in fed_count base (start + b.size) bytes new refused) fed given
stands_open fed_count base start bytes old new b refused sound none k fed given h =
    let Q : Option CaptureWhy → Type 0 = λ o. IsStopped o (section_in new) (base + start + b.size) (drop b.size (drop start bytes)) in
    let open_there : AreOpen (section_in new) (base + start + b.size) (drop b.size (drop start bytes)) = subst Q none k.stopped in
    open_stands (kept_in fed_count base (start + b.size) bytes new refused) fed given sound
    (stopped_after base start b.size bytes (λ n t. AreOpen (section_in new) n t) open_there) (read_on fed_count base start bytes old new b refused k fed given h)

-- up to a refused place, from which on no byte is held
pub stands_refused : (fed_count base start : ℕ) (bytes : List ℕ) (old new : FoundSeen) (b : WholeBlocks) (why : CaptureWhy) (refused : Option BadCapture) → b.refused ≡ Some why →
    start ≤ length bytes → ArePlaced base old.ready (base + start) → FindsAll old new (base + start) (drop start bytes) b → (fed : List ℕ) (given : List Packet) →
    HasRead (kept_in fed_count base start bytes old refused) fed [] given →
    StandsFor (kept_in fed_count base (start + b.size) (take (start + b.size) bytes) new (Some (record { at = base + start + b.size; why = why }))) fed given
stands_refused fed_count base start bytes old new b why refused told within placed k fed given h =
    let m : ℕ = start + b.size in
    let bad : BadCapture = record { at = base + start + b.size; why = why } in
    let all : m ≤ length bytes = omega (arith, within, k.passes.within, length-drop start bytes) in
    let long : length (take m bytes) ≡ m = length-take-le m bytes all in
    let Q : Option CaptureWhy → Type 0 = λ o. IsStopped o (section_in new) (base + start + b.size) (drop b.size (drop start bytes)) in
    let refused_there : AreRefused (section_in new) (base + start + b.size) bad (drop b.size (drop start bytes)) = subst Q told k.stopped in
    let stands = refused_stands (kept_in fed_count base m bytes new refused) bad fed given
    (stopped_after base start b.size bytes (λ n t. AreRefused (section_in new) n bad t) refused_there) (read_on fed_count base start bytes old new b refused k fed given h) in
    let ready : map (packet_in base bytes) new.ready ≡ map (packet_in base (take m bytes)) new.ready =
    sym (packets_in-take base m (base + m) bytes new.ready base (omega arith) (omega arith) all (placed_all base start (drop start bytes) old new b placed k)) in
    let held : [] ≡ drop m (take m bytes) = sym (drop_all m (take m bytes) (omega (arith, long))) in
    let of : List Packet → List ℕ → Kept = λ ps t. record { fed_count = fed_count; ready = ps; held = t; at = base + m; section = section_in new; refused = Some bad } in
    let P : Kept → Type 0 = λ r. StandsFor r fed given in
    subst P (ap (λ ps. of ps []) ready ∙ ap (λ t. of (map (packet_in base (take m bytes)) new.ready) t) held) stands

-- a reader before the first section is at the start
pub start_known : (f : FoundSeen) (n : ℕ) → (f.order ≡ None → n ≡ 0) → section_in f ≡ None → n ≡ 0
start_known f n h none = h (unstarted f.order none)
  where
    unstarted : (o : Option Order) → option_map (λ order. section_of order (drop f.first f.interfaces)) o ≡ None → o ≡ None
    unstarted None e = refl
    unstarted (Some order) e = absurd cc

-- a chunk that is taken back leaves what was held
pub taken_back : (held chunk : List ℕ) → take (length (held ++ chunk) - length chunk) (held ++ chunk) ≡ held
taken_back held chunk =
    let size : length (held ++ chunk) - length chunk ≡ length held = omega (arith, length-append held chunk) in
    ap (λ n. take n (held ++ chunk)) size ∙ take-append_seam held chunk

-- packets among bytes that go on after them
packets_in-append : (base to : ℕ) (bytes more : List ℕ) (ps : List PacketPlace) (from : ℕ) → base ≤ from → to ≤ base + length bytes → ArePlaced from ps to →
    map (packet_in base (bytes ++ more)) ps ≡ map (packet_in base bytes) ps
packets_in-append base to bytes more [] from far near h = refl
packets_in-append base to bytes more (p ∷ ps) from far near h =
    let end = placed_order (p.captured_at + p.captured) to ps h.1 in
    let first : packet_in base (bytes ++ more) p ≡ packet_in base bytes p = packet_in-append base bytes more p (omega (arith, far, h.0)) (omega (arith, end, near)) in
    let others = packets_in-append base to bytes more ps (p.captured_at + p.captured) (omega (arith, far, h.0)) near h.1 in
    ap (λ q. q ∷ map (packet_in base (bytes ++ more)) ps) first ∙ ap (λ qs. packet_in base bytes p ∷ qs) others

-- a chunk is held after the other bytes
pub held_view : (fed_count count base start : ℕ) (bytes more : List ℕ) (f : FoundSeen) (refused : Option BadCapture) → start ≤ length bytes → ArePlaced base f.ready (base + start) →
    kept_in count base start (bytes ++ more) f refused ≡ record (kept_in fed_count base start bytes f refused) { fed_count = count; held = drop start bytes ++ more }
held_view fed_count count base start bytes more f refused within placed =
    let ready : map (packet_in base (bytes ++ more)) f.ready ≡ map (packet_in base bytes) f.ready =
    packets_in-append base (base + start) bytes more f.ready base (omega arith) (omega (arith, within)) placed in
    let held : drop start (bytes ++ more) ≡ drop start bytes ++ more = drop-append-le start bytes more within in
    let of : List Packet → List ℕ → Kept = λ ps t. record { fed_count = count; ready = ps; held = t; at = base + start; section = section_in f; refused = refused } in
    ap (λ ps. of ps (drop start (bytes ++ more))) ready ∙ ap (λ t. of (map (packet_in base bytes) f.ready) t) held

-- the last bytes that are held are taken back
pub back_view : (fed_count left base start count : ℕ) (bytes : List ℕ) (f : FoundSeen) (refused : Option BadCapture) → start ≤ length bytes → count ≤ length (drop start bytes) →
    ArePlaced base f.ready (base + start) → kept_in left base start (take (length bytes - count) bytes) f refused
    ≡ record (kept_in fed_count base start bytes f refused) { fed_count = left; held = take (length (drop start bytes) - count) (drop start bytes) }
back_view fed_count left base start count bytes f refused within few placed =
    let m : ℕ = length bytes - count in
    let size : length (drop start bytes) ≡ length bytes - start = length-drop start bytes in
    let ready : map (packet_in base (take m bytes)) f.ready ≡ map (packet_in base bytes) f.ready =
    packets_in-take base m (base + start) bytes f.ready base (omega arith) (omega (arith, within, few, size)) (omega arith) placed in
    let sum : m ≡ start + (length (drop start bytes) - count) = omega (arith, within, few, size) in
    let held : drop start (take m bytes) ≡ take (length (drop start bytes) - count) (drop start bytes) =
    ap (λ n. drop start (take n bytes)) sum ∙ drop-take start (length (drop start bytes) - count) bytes in
    let of : List Packet → List ℕ → Kept = λ ps t. record { fed_count = left; ready = ps; held = t; at = base + start; section = section_in f; refused = refused } in
    ap (λ ps. of ps (drop start (take m bytes))) ready ∙ ap (λ t. of (map (packet_in base bytes) f.ready) t) held
