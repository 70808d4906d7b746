-- Which form the first four bytes of a capture tell.
use Rattle.std.proofs.Common.{◌≡◌, ℕ, Bool, true, false, if◌then◌else◌, Option, Some, None, ◌<◌, ◌≤◌, ◌⊎◌, List, ◌++◌, length, refl, inl, inr}
use Rattle.cd_packet.proofs.Growing.{has_magic-append, has_magic-few}
use Rattle.cd_packet.specs.Magic.{has_magic}
use Rattle.cd_pcap.specs.Pcap.{Form, little_micros, big_micros, little_nanos, big_nanos, form_of}

-- a form that is read is told, or none is
pub cases_form : (bytes : List ℕ) → (form_of bytes ≡ None) ⊎ ((form : Form) × (form_of bytes ≡ Some form))
cases_form bytes = cases (form_of bytes)
  where
    cases : (told : Option Form) → (told ≡ None) ⊎ ((form : Form) × (told ≡ Some form))
    cases None = inl refl
    cases (Some form) = inr (form, refl)

-- from four bytes on the form stays, however the bytes go on
pub form_of-append : (xs more : List ℕ) → 4 ≤ length xs → form_of (xs ++ more) ≡ form_of xs
unfolding form_of
form_of-append xs more four =
    rw (
      has_magic-append 0xa1b2c3d4 xs more four,
      has_magic-append 0xd4c3b2a1 xs more four,
      has_magic-append 0xa1b23c4d xs more four,
      has_magic-append 0x4d3cb2a1 xs more four,
    ) refl

-- fewer than four bytes tell none
pub form_of-few : (bytes : List ℕ) → length bytes < 4 → form_of bytes ≡ None
unfolding form_of
form_of-few bytes few =
    rw (
      has_magic-few 0xa1b2c3d4 bytes few,
      has_magic-few 0xd4c3b2a1 bytes few,
      has_magic-few 0xa1b23c4d bytes few,
      has_magic-few 0x4d3cb2a1 bytes few,
    ) refl

-- These bytes begin with the magic of this form.
abbrev pub HasMagicOf : List ℕ → Form → Type 0
HasMagicOf bytes form =
    ((has_magic 0xa1b2c3d4 bytes ≡ true) × (form ≡ little_micros))
    ⊎ (((has_magic 0xd4c3b2a1 bytes ≡ true) × (form ≡ big_micros))
    ⊎ (((has_magic 0xa1b23c4d bytes ≡ true) × (form ≡ little_nanos))
    ⊎ ((has_magic 0x4d3cb2a1 bytes ≡ true) × (form ≡ big_nanos))))

-- a form that is chosen was chosen by its test
chosen : (a b c d : Bool) (w x y z form : Form) →
    (if a then Some w else (if b then Some x else (if c then Some y else (if d then Some z else None)))) ≡ Some form →
    ((a ≡ true) × (form ≡ w))
    ⊎ (((b ≡ true) × (form ≡ x)) ⊎ (((c ≡ true) × (form ≡ y)) ⊎ ((d ≡ true) × (form ≡ z))))
chosen true b c d w x y z form e = inl (refl, cc)
chosen false true c d w x y z form e = inr (inl (refl, cc))
chosen false false true d w x y z form e = inr (inr (inl (refl, cc)))
chosen false false false true w x y z form e = inr (inr (inr (refl, cc)))
chosen false false false false w x y z form e = absurd cc

-- a form that is told has its magic in front
pub form_told : (bytes : List ℕ) (form : Form) → form_of bytes ≡ Some form → HasMagicOf bytes form
unfolding form_of
form_told bytes form e =
    chosen (has_magic 0xa1b2c3d4 bytes) (has_magic 0xd4c3b2a1 bytes) (has_magic 0xa1b23c4d bytes)
    (has_magic 0x4d3cb2a1 bytes) little_micros big_micros little_nanos big_nanos form e
