-- Names without pointers that are written one after the other.
use Rattle.std.proofs.Common.{◌≡◌, ℕ, zero, suc, ◌<◌, ◌≤◌, List, [], ◌∷◌, length, take, drop, Some, None, Result, Ok, Err, refl, ap, sym, subst, ◌∙◌, arith, length-append}
use Rattle.std.specs.List.{All, concat}
use Rattle.std.proofs.lemmas.Bool.{false≢true}
use Rattle.std.proofs.lemmas.List.Elements.{All-head, All-tail}
use Rattle.std.proofs.Math.Seq.{take-append_seam, drop-append_seam}
use Rattle.cd_name.specs.Names.{IsName, are_labels_and_root}
use Rattle.cd_name.specs.NameSizes.{name_size, size_from}
use Rattle.cd_name.specs.WrittenNames.{name_piece}
use Rattle.cd_name.proofs.NameSizes.{name_sizes_are_exact}
use Rattle.cd_message.specs.declared.writing.Writing.{Writing}
use Rattle.cd_message.specs.declared.writing.WriteFault.{WriteFault}
use Rattle.cd_message.specs.Putting.{Puts}
use Rattle.cd_message.specs.Written.{each_in_turn}
use Rattle.cd_message.proofs.InTurn.{puts_in_turn, puts_first_fails, puts_none}

-- a name has a byte
pub name_has_byte : (bytes : List ℕ) (size : ℕ) → name_size bytes ≡ Some size → 0 < size
unfolding are_labels_and_root
name_has_byte bytes zero is = absurd (false≢true ((name_sizes_are_exact bytes 0).0 is).1.0)
name_has_byte bytes (suc n) is = omega arith

-- no bytes begin with no name
no_name : name_size [] ≡ None
unfolding size_from
no_name = refl

-- the bytes of some names begin with the first
first_size : (name : List ℕ) (others : List (List ℕ)) (bytes : List ℕ) → All IsName (name ∷ others) → bytes ≡ concat (name ∷ others) → name_size bytes ≡ Some (length name)
first_size name others bytes are spell =
    let front : take (length name) bytes ≡ name = ap (λ t. take (length name) t) spell ∙ take-append_seam name (concat others) in
    (name_sizes_are_exact bytes (length name)).1
    (omega (arith, ap length spell, length-append name (concat others)), subst IsName (sym front) (All-head IsName name others are))

-- a name is the first of some names, and the bytes after it are those of the others
abbrev FirstHas : List (List ℕ) → List ℕ → List ℕ → Type 0
FirstHas names name after = (others : List (List ℕ)) × (names ≡ name ∷ others) × (after ≡ concat others)

-- the first of some names is the one at the front of their bytes
first_has : (names : List (List ℕ)) (bytes : List ℕ) (size : ℕ) (name after : List ℕ) → All IsName names → bytes ≡ concat names → name_size bytes ≡ Some size → name ≡ take size bytes → after ≡ drop size bytes → FirstHas names name after
first_has [] bytes size name after are spell is front back = let none : name_size bytes ≡ None = ap name_size spell ∙ no_name in cc
first_has (first ∷ others) bytes size name after are spell is front back =
    let known = first_size first others bytes are spell in
    let all : size ≡ length first = cc in (
      others,
      rw (front, spell, all, take-append_seam first (concat others)) refl,
      rw (back, spell, all) (drop-append_seam first (concat others)),
    )

-- Of some names, these bytes are those that are left: what the call does that writes them says what the call does that writes all.
pub record NamesLeft (names : List (List ℕ)) (rest : List ℕ) (old now : Writing) : Type 0 where
  pub left : List (List ℕ)
  pub are_names : All IsName left
  pub spell : rest ≡ concat left
  pub goes_on : (new : Writing) (r : Result (Unit {0}) WriteFault) → Puts (each_in_turn name_piece left) now new r → Puts (each_in_turn name_piece names) old new r

-- a name is written
pub name_written : (names : List (List ℕ)) (rest : List ℕ) (size : ℕ) (name after : List ℕ) (old now next : Writing) → name_size rest ≡ Some size → name ≡ take size rest → after ≡ drop size rest →
    Puts (name_piece name) now next (Ok tt) → NamesLeft names rest old now → NamesLeft names after old next
unfolding each_in_turn
name_written names rest size name after old now next is front back puts before =
    let first = first_has before.left rest size name after before.are_names before.spell is front back in
    let joined = puts_in_turn (name_piece name) (each_in_turn name_piece first.0) now next in
    record {
      left = first.0;
      are_names = All-tail IsName name first.0 (subst (λ (t : List (List ℕ)). All IsName t) first.1 before.are_names);
      spell = first.2;
      goes_on = λ new r others. before.goes_on new r (subst (λ (t : List (List ℕ)). Puts (each_in_turn name_piece t) now new r) (sym first.1) (joined new r puts others));
    }

-- a name is not written
pub name_fails : (names : List (List ℕ)) (rest : List ℕ) (size : ℕ) (name : List ℕ) (old now next : Writing) (e : WriteFault) → name_size rest ≡ Some size → name ≡ take size rest →
    Puts (name_piece name) now next (Err e) → NamesLeft names rest old now → Puts (each_in_turn name_piece names) old next (Err e)
unfolding each_in_turn
name_fails names rest size name old now next e is front fails before =
    let first = first_has before.left rest size name (drop size rest) before.are_names before.spell is front refl in
    let fails_in_turn = puts_first_fails (name_piece name) (each_in_turn name_piece first.0) now next e fails in
    before.goes_on next (Err e) (subst (λ (t : List (List ℕ)). Puts (each_in_turn name_piece t) now next (Err e)) (sym first.1) fails_in_turn)

-- names whose bytes begin with no name are none
are_none : (names : List (List ℕ)) (bytes : List ℕ) → All IsName names → bytes ≡ concat names → name_size bytes ≡ None → names ≡ []
are_none [] bytes are spell none = refl
are_none (name ∷ others) bytes are spell none =
    let known = first_size name others bytes are spell in cc

-- where no name begins, all are written
pub all_written : (names : List (List ℕ)) (rest : List ℕ) (old now : Writing) → name_size rest ≡ None → length now.bytes ≤ 65535 →
    NamesLeft names rest old now → Puts (each_in_turn name_piece names) old now (Ok tt)
unfolding each_in_turn
all_written names rest old now none short before =
    let empty : before.left ≡ [] = are_none before.left rest before.are_names before.spell none in
    before.goes_on now (Ok tt) (rw empty (puts_none now short))
