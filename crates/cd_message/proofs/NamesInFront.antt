-- Names without pointers with which some bytes begin, one after the other.
use Rattle.std.proofs.Common.{◌≡◌, ℕ, suc, ◌+◌, ◌-◌, ◌<◌, ◌≤◌, List, [], ◌∷◌, ◌++◌, take, drop, Option, Some, None, refl, ap, sym, subst, ◌∙◌, arith, length-drop}
use Rattle.std.specs.Option.{option_map}
use Rattle.std.proofs.lemmas.List.{drop-drop}
use Rattle.std.proofs.lemmas.List.Elements.{All-nil, All-cons}
use Rattle.std.proofs.Math.Seq.{take-add}
use Rattle.cd_name.specs.Names.{IsName}
use Rattle.cd_name.specs.NameSizes.{name_size}
use Rattle.cd_name.proofs.NameSizes.{name_sizes_are_exact}
use Rattle.cd_message.specs.Putting.{AreNamesInFront}
use Rattle.cd_message.specs.Written.{names_in_front}

-- no names
no_names : (bytes : List ℕ) → AreNamesInFront 0 bytes (Some 0)
unfolding names_in_front
no_names bytes = ([], refl, omega arith, refl, All-nil IsName)

-- no name where one is wanted
name_misses : (count : ℕ) (bytes : List ℕ) → name_size bytes ≡ None → AreNamesInFront (suc count) bytes None
unfolding names_in_front
name_misses count bytes none = rw none refl

-- a name, and others after it
name_then_names : (count : ℕ) (bytes : List ℕ) (size : ℕ) (others : Option ℕ) → name_size bytes ≡ Some size → AreNamesInFront count (drop size bytes) others →
    AreNamesInFront (suc count) bytes (option_map (λ n. size + n) others)
unfolding names_in_front
name_then_names count bytes size None is none = rw (is, none) refl
name_then_names count bytes size (Some n) is are =
    let first = (name_sizes_are_exact bytes size).0 is in
    let after : drop n (drop size bytes) ≡ drop (size + n) bytes = drop-drop n size bytes in (
      take size bytes ∷ are.0,
      rw (is, are.1, after) refl,
      omega (arith, are.2, first.0, length-drop size bytes),
      take-add size n bytes ∙ ap (λ t. take size bytes ++ t) are.3,
      All-cons IsName (take size bytes) are.0 first.1 are.4,
    )

-- Of so many names, these are left after so many bytes: what they are says what all are.
abbrev pub AreLeft : ℕ → List ℕ → ℕ → ℕ → Type 0
AreLeft count bytes left end = (others : Option ℕ) → AreNamesInFront left (drop end bytes) others → AreNamesInFront count bytes (option_map (λ n. end + n) others)

-- numbers of bytes that are added in turn
regroup : (end size : ℕ) (others : Option ℕ) → option_map (λ n. end + n) (option_map (λ n. size + n) others) ≡ option_map (λ n. end + size + n) others
regroup end size None = refl
regroup end size (Some n) = ap Some (omega arith)

-- one name more
pub left_after : (count : ℕ) (bytes : List ℕ) (counter end size : ℕ) → counter < count → name_size (drop end bytes) ≡ Some size → AreLeft count bytes (count - counter) end →
    AreLeft count bytes (count - (counter + 1)) (end + size)
left_after count bytes counter end size more is left others are =
    let k : count - counter ≡ suc (count - (counter + 1)) = omega arith in
    let place : drop (end + size) bytes ≡ drop size (drop end bytes) = sym (drop-drop size end bytes) in
    let with_name : AreNamesInFront (count - counter) (drop end bytes) (option_map (λ n. size + n) others) =
    rw k (name_then_names (count - (counter + 1)) (drop end bytes) size others is (subst (λ (t : List ℕ). AreNamesInFront (count - (counter + 1)) t others) place are)) in
    subst (λ (r : Option ℕ). AreNamesInFront count bytes r) (regroup end size others) (left (option_map (λ n. size + n) others) with_name)

-- no name where one is left
pub left_misses : (count : ℕ) (bytes : List ℕ) (counter end : ℕ) → counter < count → name_size (drop end bytes) ≡ None → AreLeft count bytes (count - counter) end →
    AreNamesInFront count bytes None
left_misses count bytes counter end more none left =
    let k : count - counter ≡ suc (count - (counter + 1)) = omega arith in
    left None (rw k (name_misses (count - (counter + 1)) (drop end bytes) none))

-- none is left after the last
pub none_left : (count : ℕ) (bytes : List ℕ) (counter end : ℕ) → count ≤ counter → AreLeft count bytes (count - counter) end → AreNamesInFront count bytes (Some end)
none_left count bytes counter end all left =
    let k : count - counter ≡ 0 = omega arith in
    subst (λ (n : ℕ). AreNamesInFront count bytes (Some n)) (omega arith) (left (Some 0) (rw k (no_names (drop end bytes))))
