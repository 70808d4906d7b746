-- How the list of blocks goes on.
use Rattle.std.proofs.Common.{◌≡◌, ℕ, true, false, zero, suc, ◌+◌, ◌-◌, ◌<◌, ◌≤◌, List, [], ◌∷◌, length, drop, refl, ap, ◌∙◌, arith}
use Rattle.cd_packet.specs.Capture.{ends, refused_capture, after}
use Rattle.cd_packet.specs.Magic.{has_magic}
use Rattle.cd_packet.specs.declared.capture.CaptureWhy.{CaptureWhy}
use Rattle.cd_packet.specs.declared.capture.CaptureWhy.TheVariants.{Magic}
use Rattle.cd_packet.specs.declared.capture.EndState.TheVariants.{Whole, Cut}
use Rattle.cd_packet.specs.declared.packet.Packet.{Packet}
use Rattle.cd_pcapng.specs.Blocks.{Front, cut_front, refused_front, other_block, packet_block, is_section_header, front_of}
use Rattle.cd_pcapng.specs.Pcapng.{from_front, blocks, pcapng}
use Rattle.cd_pcapng.specs.Sections.{Section, no_section}

-- after the rest of a block the next one begins
pub blocks-inside : (s : Section) (inside at : ℕ) (bytes : List ℕ) → inside ≤ length bytes →
    blocks s inside at bytes ≡ blocks s 0 (at + inside) (drop inside bytes)
unfolding blocks
blocks-inside s zero at bytes h = let e : at ≡ at + 0 = omega arith in ap (λ n. blocks s 0 n bytes) e
blocks-inside s (suc k) at [] h = absurd (omega arith)
blocks-inside s (suc k) at (b ∷ bytes) h =
    let e : at + 1 + k ≡ at + suc k = omega arith in
    blocks-inside s k (at + 1) bytes (omega arith) ∙ ap (λ n. blocks s 0 n (drop k bytes)) e

pub blocks-none : (s : Section) (at : ℕ) (bytes : List ℕ) → length bytes ≡ 0 → blocks s 0 at bytes ≡ ends Whole
unfolding blocks
blocks-none s at [] h = refl
blocks-none s at (b ∷ bytes) h = absurd (omega arith)

-- a front, before what is read from the next byte on
blocks-first : (s : Section) (at b : ℕ) (bytes : List ℕ) (f : Front) → front_of s at (b ∷ bytes) ≡ f →
    blocks s 0 at (b ∷ bytes) ≡ from_front f s at (λ next inside. blocks next inside (at + 1) bytes)
unfolding blocks
blocks-first s at b bytes f is = ap (λ g. from_front g s at (λ next inside. blocks next inside (at + 1) bytes)) is

pub blocks-cut : (s : Section) (at : ℕ) (bytes : List ℕ) → 0 < length bytes → front_of s at bytes ≡ cut_front → blocks s 0 at bytes ≡ ends Cut
blocks-cut s at [] some is = absurd (omega arith)
blocks-cut s at (b ∷ bytes) some is = blocks-first s at b bytes cut_front is

pub blocks-refused : (s : Section) (at : ℕ) (bytes : List ℕ) (why : CaptureWhy) → 0 < length bytes → front_of s at bytes ≡ refused_front why → blocks s 0 at bytes ≡ refused_capture at why
blocks-refused s at [] why some is = absurd (omega arith)
blocks-refused s at (b ∷ bytes) why some is = blocks-first s at b bytes (refused_front why) is

-- the blocks after a whole one, of which one byte is taken
rest_after : (s : Section) (at b size : ℕ) (bytes : List ℕ) → 0 < size → size ≤ length (b ∷ bytes) →
    blocks s (size - 1) (at + 1) bytes ≡ blocks s 0 (at + size) (drop size (b ∷ bytes))
rest_after s at b size bytes some all =
    let inner = blocks-inside s (size - 1) (at + 1) bytes (omega arith) in
    let place : at + 1 + (size - 1) ≡ at + size = omega arith in
    let sum : suc (size - 1) ≡ size = omega arith in
    inner ∙ ap (λ n. blocks s 0 n (drop (size - 1) bytes)) place ∙ ap (λ n. blocks s 0 (at + size) (drop n (b ∷ bytes))) sum

pub blocks-other : (s next : Section) (at size : ℕ) (bytes : List ℕ) → 0 < size → size ≤ length bytes → front_of s at bytes ≡ other_block next size →
    blocks s 0 at bytes ≡ blocks next 0 (at + size) (drop size bytes)
blocks-other s next at size [] some all is = absurd (omega arith)
blocks-other s next at size (b ∷ bytes) some all is = blocks-first s at b bytes (other_block next size) is ∙ rest_after next at b size bytes some all

pub blocks-packet : (s : Section) (p : Packet) (at size : ℕ) (bytes : List ℕ) → 0 < size → size ≤ length bytes → front_of s at bytes ≡ packet_block p size →
    blocks s 0 at bytes ≡ after (p ∷ []) (blocks s 0 (at + size) (drop size bytes))
blocks-packet s p at size [] some all is = absurd (omega arith)
blocks-packet s p at size (b ∷ bytes) some all is =
    blocks-first s at b bytes (packet_block p size) is ∙ ap (λ c. after (p ∷ []) c) (rest_after s at b size bytes some all)

-- a section header is there
pub pcapng-header : (bytes : List ℕ) → is_section_header bytes ≡ true → pcapng bytes ≡ blocks no_section 0 0 bytes
unfolding pcapng
pcapng-header bytes header = rw header refl

pub pcapng-magic : (bytes : List ℕ) → is_section_header bytes ≡ false → pcapng bytes ≡ refused_capture 0 Magic
unfolding pcapng
pcapng-magic bytes other = rw other refl

-- no byte is no capture
pub pcapng-none : pcapng [] ≡ refused_capture 0 Magic
unfolding pcapng has_magic
pcapng-none = refl
