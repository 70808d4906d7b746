-- What a reader that stands for a history knows of the bytes fed, and how it goes on.
use Rattle.std.proofs.Common.{◌≡◌, ℕ, ◌+◌, ◌≤◌, Bool, true, false, cond, nat_lt, Option, Some, None, List, [], ◌∷◌, ◌++◌, length, take, drop, refl, ap, sym, ◌∙◌, subst, arith, append_assoc, length-append}
use Rattle.std.proofs.lemmas.Bool.{le-ltb, ltb-false}
use Rattle.std.proofs.lemmas.List.{append-nil, take-append-drop, length-take-le}
use Rattle.cd_packet.specs.declared.packet.Packet.{Packet}
use Rattle.cd_packet.specs.declared.capture.BadCapture.{BadCapture}
use Rattle.cd_packet.specs.declared.capture.EndState.{EndState}
use Rattle.cd_packet.specs.declared.capture.EndState.TheVariants.{Bad}
use Rattle.cd_packet.proofs.Growing.{after-after}
use Rattle.cd_packet.specs.Capture.{Capture, ends, after}
use Rattle.cd_pcapng.specs.Laws.{GivenAreFirst}
use Rattle.cd_pcapng.specs.Pcapng.{pcapng}
use Rattle.cd_pcapng.specs.Reading.{Kept, AreOpen, AreRefused, StandsAfter, HasRead, StandsFor, reading_on, open_end, refusal_in, refusal_of}
use Rattle.cd_pcapng.specs.Sections.{Section}
use Rattle.cd_pcapng.proofs.Capturing.{pcapng-none}

-- the end of the bytes fed, from the refused place or from the bytes after the last whole block
abbrev pub end_after : Option BadCapture → Option Section → List ℕ → EndState
end_after None section held = open_end section held
end_after (Some bad) section held = Bad bad

-- the end of the bytes fed
abbrev pub end_of : Kept → EndState
end_of r = end_after r.refused r.section r.held

-- after the last whole block there is no packet
after_blocks : (refused : Option BadCapture) (section : Option Section) (at : ℕ) (held let_go : List ℕ) → StandsAfter refused section at held let_go →
    reading_on section at (held ++ let_go) ≡ ends (end_after refused section held)
after_blocks None section at held let_go h = ap (λ t. reading_on section at (held ++ t)) h.1 ∙ ap (λ t. reading_on section at t) (append-nil held) ∙ h.0
after_blocks (Some bad) section at held let_go h =
    ap (λ t. reading_on section at (t ++ let_go)) h.0 ∙ ap (λ t. reading_on section at t) (sym (append-nil let_go)) ∙ h.1.reads []

-- the capture of the bytes fed
pub fed_now : (r : Kept) (fed : List ℕ) (given : List Packet) → StandsFor r fed given → pcapng fed ≡ after (given ++ r.ready) (ends (end_of r))
fed_now r fed given h =
    ap (λ t. pcapng t) h.read.split ∙ h.read.reads (r.held ++ h.let_go)
    ∙ ap (λ c. after (given ++ r.ready) c) (after_blocks r.refused r.section r.at r.held h.let_go h.rest)

-- the end that the reader knows is that of the bytes fed
pub end_known : (r : Kept) (fed : List ℕ) (given : List Packet) → StandsFor r fed given → end_of r ≡ (pcapng fed).end
end_known r fed given h = sym (ap (λ (c : Capture). c.end) (fed_now r fed given h))

-- the packets of the bytes fed are those given and those that are ready
pub packets_known : (r : Kept) (fed : List ℕ) (given : List Packet) → StandsFor r fed given → (pcapng fed).packets ≡ given ++ r.ready
packets_known r fed given h = ap (λ (c : Capture). c.packets) (fed_now r fed given h) ∙ append-nil (given ++ r.ready)

-- the packets given are the first of those in the bytes fed
pub given_first : GivenAreFirst
given_first r fed given h = (r.ready, packets_known r fed given h)

-- where none is ready, all packets are given
pub all_given : (r : Kept) (fed : List ℕ) (given : List Packet) → r.ready ≡ [] → StandsFor r fed given → (pcapng fed).packets ≡ given
all_given r fed given none h = packets_known r fed given h ∙ ap (λ ps. given ++ ps) none ∙ append-nil given

-- the first packet that is ready is given
pub one_given : (r : Kept) (p : Packet) (others : List Packet) (fed : List ℕ) (given : List Packet) → r.ready ≡ p ∷ others → StandsFor r fed given →
    StandsFor (record r { ready = others }) fed (given ++ p ∷ [])
one_given r p others fed given first h = record {
  let_go = h.let_go;
  read = record {
    front = h.read.front;
    split = h.read.split;
    count = h.read.count;
    place = h.read.place;
    reads = λ more. h.read.reads more ∙ ap (λ ps. after ps (reading_on r.section r.at more)) (ap (λ ps. given ++ ps) first ∙ sym (append_assoc given (p ∷ []) others));
  };
  rest = h.rest;
}

-- an open end of four bytes or more is no refused place
open_unrefused : (section : Option Section) (held : List ℕ) → (section ≡ None → 4 ≤ length held) → refusal_in (open_end section held) ≡ None
open_unrefused None held many = rw (le-ltb (length held) 4 (many refl)) refl
open_unrefused (Some s) [] many = refl
open_unrefused (Some s) (b ∷ held) many = refl

-- from four bytes on, the refused place is that of the capture
pub refusal-many : (bytes : List ℕ) → 4 ≤ length bytes → refusal_of bytes ≡ refusal_in (pcapng bytes).end
unfolding refusal_of
refusal-many bytes many = rw (le-ltb (length bytes) 4 many) refl

-- a choice that is none either way
none_chosen : (few : Bool) (o : Option BadCapture) → (few ≡ false → o ≡ None) → cond few None o ≡ None
none_chosen true o h = refl
none_chosen false o h = h refl

-- where the end is no refused place, there is none
pub refusal-none : (bytes : List ℕ) → (4 ≤ length bytes → refusal_in (pcapng bytes).end ≡ None) → refusal_of bytes ≡ None
unfolding refusal_of
refusal-none bytes h = none_chosen (nat_lt (length bytes) 4) (refusal_in (pcapng bytes).end) (λ many. h (ltb-false (length bytes) 4 many))

-- the refused place, from what stands after the last whole block
known_after : (refused : Option BadCapture) (section : Option Section) (at : ℕ) (held let_go fed : List ℕ) → StandsAfter refused section at held let_go →
    end_after refused section held ≡ (pcapng fed).end → length let_go ≤ length fed → (section ≡ None → length fed ≡ length held + length let_go) → refusal_of fed ≡ refused
known_after None section at held let_go fed h end within all =
    let none : length let_go ≡ 0 = ap length h.1 in
    refusal-none fed (λ many. ap refusal_in (sym end) ∙ open_unrefused section held (λ first. omega (arith, all first)))
known_after (Some bad) section at held let_go fed h end within all = refusal-many fed (omega (arith, h.1.told)) ∙ ap refusal_in (sym end)

-- the refused place that the reader remembers is that of the bytes fed
pub refusal_known : (r : Kept) (fed : List ℕ) (given : List Packet) → (r.section ≡ None → r.at ≡ 0) → StandsFor r fed given → refusal_of fed ≡ r.refused
refusal_known r fed given start h =
    let long : length fed ≡ length h.read.front + (length r.held + length h.let_go) =
    ap length h.read.split ∙ length-append h.read.front (r.held ++ h.let_go) ∙ ap (λ n. length h.read.front + n) (length-append r.held h.let_go) in
    known_after r.refused r.section r.at r.held h.let_go fed h.rest (end_known r fed given h) (omega arith)
    (λ none. omega (arith, long, h.read.place, start none))

-- a chunk is held after the other bytes
pub held_more : (r : Kept) (chunk fed : List ℕ) (given : List Packet) → HasRead r fed [] given →
    HasRead (record r { fed_count = r.fed_count + length chunk; held = r.held ++ chunk }) (fed ++ chunk) [] given
held_more r chunk fed given h = record {
  front = h.front;
  split = ap (λ t. t ++ chunk) (h.split ∙ ap (λ t. h.front ++ t) (append-nil r.held)) ∙ append_assoc h.front r.held chunk
      ∙ ap (λ t. h.front ++ t) (sym (append-nil (r.held ++ chunk)));
  count = length-append fed chunk ∙ ap (λ n. n + length chunk) h.count;
  place = h.place;
  reads = h.reads;
}

-- a chunk that comes after a refused place is let go
pub refused_more : (r : Kept) (bad : BadCapture) (chunk fed : List ℕ) (given : List Packet) → r.refused ≡ Some bad → StandsFor r fed given →
    StandsFor (record r { fed_count = r.fed_count + length chunk }) (fed ++ chunk) given
refused_more r bad chunk fed given is h =
    let P : Option BadCapture → List ℕ → Type 0 = λ o t. StandsAfter o r.section r.at r.held t in
    let rest : P (Some bad) h.let_go = subst (λ (o : Option BadCapture). P o h.let_go) is h.rest in
    let more : P (Some bad) (h.let_go ++ chunk) = (
      rest.0,
      record {
        told = omega (arith, rest.1.told, length-append h.let_go chunk);
        reads = λ later. ap (λ t. reading_on r.section r.at t) (append_assoc h.let_go chunk later) ∙ rest.1.reads (chunk ++ later);
      },
    ) in
    record {
      let_go = h.let_go ++ chunk;
      read = record {
        front = h.read.front;
        split = ap (λ t. t ++ chunk) h.read.split ∙ append_assoc h.read.front (r.held ++ h.let_go) chunk ∙ ap (λ t. h.read.front ++ t) (append_assoc r.held h.let_go chunk);
        count = length-append fed chunk ∙ ap (λ n. n + length chunk) h.read.count;
        place = h.read.place;
        reads = h.read.reads;
      };
      rest = subst (λ (o : Option BadCapture). P o (h.let_go ++ chunk)) (sym is) more;
    }

-- a reader that was fed nothing
pub nothing_stands : StandsFor (record { fed_count = 0; ready = []; held = []; at = 0; section = None; refused = None }) [] []
nothing_stands = record {
  let_go = [];
  read = record { front = []; split = refl; count = refl; place = refl; reads = λ more. refl };
  rest = (pcapng-none, refl);
}

-- where no refused place came, all bytes fed are read or held
pub unrefused_read : (r : Kept) (fed : List ℕ) (given : List Packet) → r.refused ≡ None → StandsFor r fed given → HasRead r fed [] given
unrefused_read r fed given sound h =
    let P : Option BadCapture → Type 0 = λ o. StandsAfter o r.section r.at r.held h.let_go in
    let rest : P None = subst P sound h.rest in
    subst (λ (t : List ℕ). HasRead r fed t given) rest.1 h.read

-- whole blocks that are held are read
pub blocks_read : (r : Kept) (size : ℕ) (ps : List Packet) (next : Option Section) (fed : List ℕ) (given : List Packet) → size ≤ length r.held →
    ((more : List ℕ) → reading_on r.section r.at (take size r.held ++ more) ≡ after ps (reading_on next (r.at + size) more)) → HasRead r fed [] given →
    HasRead (record r { ready = r.ready ++ ps; held = drop size r.held; at = r.at + size; section = next }) fed [] given
blocks_read r size ps next fed given within reads h =
    let front : List ℕ = take size r.held in
    let long : length front ≡ size = length-take-le size r.held within in
    record {
      front = h.front ++ front;
      split = h.split ∙ ap (λ t. h.front ++ (t ++ [])) (sym (take-append-drop size r.held)) ∙ ap (λ t. h.front ++ t) (append_assoc front (drop size r.held) [])
          ∙ sym (append_assoc h.front front (drop size r.held ++ []));
      count = h.count;
      place = omega (arith, h.place, long, length-append h.front front);
      reads = λ more.
          ap (λ t. pcapng t) (append_assoc h.front front more) ∙ h.reads (front ++ more)
          ∙ ap (λ c. after (given ++ r.ready) c) (reads more)
          ∙ after-after (given ++ r.ready) ps (reading_on next (r.at + size) more)
          ∙ ap (λ qs. after qs (reading_on next (r.at + size) more)) (append_assoc given r.ready ps);
    }

-- the bytes that are held are open
pub open_stands : (r : Kept) (fed : List ℕ) (given : List Packet) → r.refused ≡ None → AreOpen r.section r.at r.held → HasRead r fed [] given → StandsFor r fed given
open_stands r fed given sound open_there h =
    let P : Option BadCapture → Type 0 = λ o. StandsAfter o r.section r.at r.held [] in
    record { let_go = []; read = h; rest = subst P (sym sound) (open_there, refl) }

-- a refused place stands at the front of the bytes that are held
pub refused_stands : (r : Kept) (bad : BadCapture) (fed : List ℕ) (given : List Packet) → AreRefused r.section r.at bad r.held → HasRead r fed [] given →
    StandsFor (record r { held = []; refused = Some bad }) fed given
refused_stands r bad fed given refused h = record {
  let_go = r.held;
  read = record {
    front = h.front;
    split = h.split ∙ ap (λ t. h.front ++ t) (append-nil r.held);
    count = h.count;
    place = h.place;
    reads = h.reads;
  };
  rest = (refl, refused);
}
