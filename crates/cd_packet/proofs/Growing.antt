-- What is read at the front stays, however the bytes go on.
use Rattle.std.proofs.Common.{◌≡◌, ℕ, false, nat_eq, ◌+◌, ◌<◌, ◌≤◌, List, [], ◌∷◌, ◌++◌, length, refl, ap, sym, arith, append_assoc, length-append, subst}
use Rattle.std.proofs.lemmas.Bool.{le-ltb, lt-ltb}
use Rattle.cd_bytes.proofs.Offsets.{le32-append}
use Rattle.cd_bytes.specs.Numbers.{le32}
use Rattle.cd_packet.specs.Magic.{has_magic}
use Rattle.cd_packet.specs.Capture.{Capture, ends, refused_capture, after, Grows}
use Rattle.cd_packet.specs.declared.packet.Packet.{Packet}
use Rattle.cd_packet.specs.declared.capture.EndState.TheVariants.{Whole, Cut}
use Rattle.cd_packet.specs.declared.capture.CaptureWhy.{CaptureWhy}

-- four bytes decide
pub has_magic-append : (n : ℕ) (xs ys : List ℕ) → 4 ≤ length xs → has_magic n (xs ++ ys) ≡ has_magic n xs
unfolding has_magic
has_magic-append n xs ys four =
    let len : length (xs ++ ys) ≡ length xs + length ys = length-append xs ys in
    let more : 4 ≤ length (xs ++ ys) = omega arith in
    rw (le-ltb (length (xs ++ ys)) 4 more, le-ltb (length xs) 4 four) (ap (λ k. nat_eq k n) (le32-append 0 xs ys four))

-- where four bytes are there, their number is compared
pub has_magic-many : (n : ℕ) (bytes : List ℕ) → 4 ≤ length bytes → has_magic n bytes ≡ nat_eq (le32 0 bytes) n
unfolding has_magic
has_magic-many n bytes four = rw (le-ltb (length bytes) 4 four) refl

-- fewer than four bytes do not
pub has_magic-few : (n : ℕ) (bytes : List ℕ) → length bytes < 4 → has_magic n bytes ≡ false
unfolding has_magic
has_magic-few n bytes few = rw (lt-ltb (length bytes) 4 few) refl

pub after-after : (a b : List Packet) (c : Capture) → after a (after b c) ≡ after (a ++ b) c
after-after a b c = ap (λ ps. let r : Capture = record { packets = ps; end = c.end } in r) (sym (append_assoc a b c.packets))

-- the same capture, read in another way
pub grows_at : (a b now later : Capture) → now ≡ a → later ≡ b → Grows a b → Grows now later
grows_at a b now later e f g =
    let P : Capture → Type 0 = λ c. Grows c later in
    let Q : Capture → Type 0 = λ c. Grows a c in
    subst P (sym e) (subst Q (sym f) g)

-- after an open end anything may come
pub grows_whole : (later : Capture) → Grows (ends Whole) later
grows_whole later = record { rest = later; packets = refl; refused = λ b e. absurd cc }

pub grows_cut : (later : Capture) → Grows (ends Cut) later
grows_cut later = record { rest = later; packets = refl; refused = λ b e. absurd cc }

pub grows_refused : (at : ℕ) (why : CaptureWhy) → Grows (refused_capture at why) (refused_capture at why)
grows_refused at why = record { rest = refused_capture at why; packets = refl; refused = λ b e. refl }

pub grows_after : (p : Packet) (now later : Capture) → Grows now later → Grows (after (p ∷ []) now) (after (p ∷ []) later)
grows_after p now later g = record {
  rest = g.rest;
  packets = ap (λ c. after (p ∷ []) c) g.packets;
  refused = g.refused;
}
