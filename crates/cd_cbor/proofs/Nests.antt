-- What is open, the innermost last.
use Rattle.std.proofs.Common.{◌≡◌, ◌<◌, List, [], ◌∷◌, ◌++◌, length, drop, reverse, Option, Some, None, refl, ap, sym, ◌∙◌, arith}
use Rattle.std.specs.Prelude.{◌↔◌, IsSome, option_to_list}
use Rattle.std.proofs.lemmas.List.{reverse-append}
use Rattle.cd_cbor.specs.Events.{passed, acted, after_one}
use Rattle.cd_cbor.specs.declared.wanted.Wanted.{Wanted}
use Rattle.cd_cbor.specs.declared.event.Act.TheVariants as act

-- the last is the innermost
pub last_first : (xs rest : List Wanted) (top : Wanted) → xs ≡ rest ++ top ∷ [] → reverse xs ≡ top ∷ reverse rest
last_first xs rest top is = ap reverse is ∙ reverse-append rest (top ∷ [])

-- nothing is open
pub passed_none : (xs : List Wanted) → (0 < length xs → ⊥) → reverse xs ≡ passed (reverse xs)
unfolding passed
passed_none [] none = refl
passed_none (x ∷ xs) none = absurd (none (omega arith))

-- the innermost is closed
pub closed_drop : (xs rest : List Wanted) (r : Option Wanted) → xs ≡ rest ++ option_to_list r → (IsSome r ↔ (0 < length xs)) → reverse rest ≡ drop 1 (reverse xs)
closed_drop xs rest (Some top) is some = sym (ap (drop 1) (last_first xs rest top is))
closed_drop xs [] None is some = let none : xs ≡ [] = is in rw none refl
closed_drop xs (y ∷ ys) None is some =
    let long : length xs ≡ length (y ∷ (ys ++ [])) = ap length is in let found = some.1 (omega arith) in absurd cc

-- it is whole
pub passed_whole : (xs rest : List Wanted) (top : Wanted) → xs ≡ rest ++ top ∷ [] → after_one top ≡ None → passed (reverse rest) ≡ passed (reverse xs)
unfolding passed
passed_whole xs rest top is whole = sym (ap passed (last_first xs rest top is) ∙ rw whole refl)

-- it wants this still
pub passed_still : (xs rest : List Wanted) (top inner : Wanted) (new : List Wanted) → xs ≡ rest ++ top ∷ [] → after_one top ≡ Some inner → new ≡ rest ++ inner ∷ [] → reverse new ≡ passed (reverse xs)
unfolding passed
passed_still xs rest top inner new is still put = last_first new rest inner put ∙ sym (ap passed (last_first xs rest top is) ∙ rw still refl)

pub acted_item : (w : List Wanted) → passed w ≡ acted act.Item w
unfolding acted
acted_item w = refl

pub acted_enter : (inner : Wanted) (w : List Wanted) → inner ∷ w ≡ acted (act.Enter inner) w
unfolding acted
acted_enter inner w = refl

pub acted_close : (w : List Wanted) → passed (drop 1 w) ≡ acted act.Close w
unfolding acted
acted_close w = refl
