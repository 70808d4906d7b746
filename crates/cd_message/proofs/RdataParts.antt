-- RDATA has parts exactly if it fills its shape.
use Rattle.std.proofs.Common.{◌≡◌, ℕ, zero, suc, ◌≤◌, Bool, true, false, List, [], ◌∷◌, ◌++◌, length, take, drop, Option, Some, None, refl, ap, sym, ◌∙◌, subst, arith, append_assoc, length-append, nat_eq, nat_lt, cond}
use Rattle.std.specs.Option.{option_map}
use Rattle.std.specs.List.{All, concat}
use Rattle.std.proofs.lemmas.Bool.{eq-eqb, eqb-true, ltb-false, le-ltb}
use Rattle.std.proofs.lemmas.List.{length-take-le, take-append-drop}
use Rattle.std.proofs.lemmas.List.Elements.{All-nil, All-cons, All-head, All-tail}
use Rattle.std.proofs.lemmas.Option.{same_Some, cond_some, option_and_then_some, none-some}
use Rattle.std.proofs.Math.Seq.{drop-append_seam, take-append_seam}
use Rattle.cd_name.specs.Names.{IsName}
use Rattle.cd_name.specs.NameSizes.{name_size}
use Rattle.cd_name.proofs.NameSizes.{name_sizes_are_exact}
use Rattle.cd_message.specs.declared.shape.Shape as kind
use Rattle.cd_message.specs.Valid.{FillsShape}
use Rattle.cd_message.specs.Written.{RdataParts, names_in_front, parts_of_shape}
use Rattle.cd_message.specs.WrittenLaws.{PartsFillShapes}

-- so many names at the front of some bytes, and the bytes after them
record AreInFront (count : ℕ) (bytes : List ℕ) (x : List (List ℕ) × List ℕ) : Type 0 where
  number : length x.0 ≡ count
  each : All IsName x.0
  is_all : bytes ≡ concat x.0 ++ x.1

-- a mapped option that is there
option_map_some : {A B : Type 0} (f : A → B) (o : Option A) (y : B) → option_map f o ≡ Some y → (x : A) × (o ≡ Some x) × (f x ≡ y)
option_map_some f None y h = absurd (none-some y h)
option_map_some f (Some x) y h = (x, refl, same_Some (f x) y h)

-- an option that is there unless a test holds
if_none_else : {A : Type 0} (b : Bool) (o : Option A) (x : A) → cond b None o ≡ Some x → (b ≡ false) × (o ≡ Some x)
if_none_else true o x h = absurd (none-some x h)
if_none_else false o x h = (refl, h)

-- what is told at the front of some bytes is so many names, and the bytes after them
names_are_in_front : (count : ℕ) (bytes : List ℕ) (x : List (List ℕ) × List ℕ) → names_in_front count bytes ≡ Some x → AreInFront count bytes x
unfolding names_in_front
names_are_in_front zero bytes x h = subst (λ y. AreInFront zero bytes y) (same_Some ([], bytes) x h) (record { number = refl; each = All-nil IsName; is_all = refl })
names_are_in_front (suc count) bytes x h =
    option_and_then_some _ (name_size bytes) x h (λ size one two.
    let is = (name_sizes_are_exact bytes size).0 one in
    let more = option_map_some _ (names_in_front count (drop size bytes)) x two in
    let others = names_are_in_front count (drop size bytes) more.0 more.1 in
    subst (λ y. AreInFront (suc count) bytes y) more.2 (record {
      number = ap suc others.number;
      each = All-cons IsName (take size bytes) more.0.0 is.1 others.each;
      is_all = sym (take-append-drop size bytes) ∙ ap (λ t. take size bytes ++ t) others.is_all ∙ sym (append_assoc (take size bytes) (concat more.0.0) more.0.1);
    }))

-- names at the front of some bytes are told
names_in_front_are_told : (names : List (List ℕ)) → All IsName names → (after : List ℕ) → names_in_front (length names) (concat names ++ after) ≡ Some (names, after)
unfolding names_in_front
names_in_front_are_told [] are after = refl
names_in_front_are_told (name ∷ others) are after =
    let rest : List ℕ = concat others ++ after in
    let is : IsName (take (length name) (name ++ rest)) = subst IsName (sym (take-append_seam name rest)) (All-head IsName name others are) in
    let size : name_size (name ++ rest) ≡ Some (length name) = (name_sizes_are_exact (name ++ rest) (length name)).1 (omega (arith, length-append name rest), is) in
    let again = names_in_front_are_told others (All-tail IsName name others are) after in
    ap (λ t. names_in_front (suc (length others)) t) (append_assoc name (concat others) after)
    ∙ rw (size, drop-append_seam name rest, again, take-append_seam name rest) refl

-- the same bytes, names and bytes are the same parts
pub same_parts : {b d : List ℕ} {n o : List (List ℕ)} {h k : List ℕ} → b ≡ d → n ≡ o → h ≡ k →
    ◌≡◌ {A = RdataParts} (record { before = b; names = n; after = h }) (record { before = d; names = o; after = k })
same_parts e f g = rw (e, f, g) refl

-- the shape is filled by the parts
abbrev AreFilling : kind.Shape → List ℕ → RdataParts → Type 0
AreFilling s rdata parts = (fills : FillsShape s rdata) × (fills.before ≡ parts.before) × (fills.names ≡ parts.names) × (fills.after ≡ parts.after)

-- the parts that RDATA has fill its shape
parts_fill : (s : kind.Shape) (rdata : List ℕ) (parts : RdataParts) → parts_of_shape s rdata ≡ Some parts → AreFilling s rdata parts
parts_fill s rdata parts h =
    let room = if_none_else (nat_lt (length rdata) s.before) _ parts h in
    let fits : s.before ≤ length rdata = ltb-false (length rdata) s.before room.0 in
    option_and_then_some _ (names_in_front s.names (drop s.before rdata)) parts room.1 (λ names one two.
    let last = cond_some (nat_eq (length names.1) s.after) _ parts two in
    let are = names_are_in_front s.names (drop s.before rdata) names one in
    let fills : FillsShape s rdata = record {
      before = take s.before rdata;
      names = names.0;
      after = names.1;
      before_size = length-take-le s.before rdata fits;
      names_count = are.number;
      after_size = eqb-true (length names.1) s.after last.0;
      are_names = are.each;
      is_all = sym (take-append-drop s.before rdata) ∙ ap (λ t. take s.before rdata ++ t) are.is_all ∙ sym (append_assoc (take s.before rdata) (concat names.0) names.1);
    } in
    subst (λ y. AreFilling s rdata y) last.1 (fills, refl, refl, refl))

-- RDATA has the parts that fill its shape
filling_are_parts : (s : kind.Shape) (rdata : List ℕ) (parts : RdataParts) → AreFilling s rdata parts → parts_of_shape s rdata ≡ Some parts
filling_are_parts s rdata parts filling =
    let fills = filling.0 in
    let rest : List ℕ = concat fills.names ++ fills.after in
    let group : rdata ≡ fills.before ++ rest = fills.is_all ∙ append_assoc fills.before (concat fills.names) fills.after in
    let room : s.before ≤ length rdata = omega (arith, fills.before_size, ap length group, length-append fills.before rest) in
    let front : take s.before rdata ≡ fills.before = ap (λ k. take k rdata) (sym fills.before_size) ∙ ap (λ t. take (length fills.before) t) group ∙ take-append_seam fills.before rest in
    let back : drop s.before rdata ≡ rest = ap (λ k. drop k rdata) (sym fills.before_size) ∙ ap (λ t. drop (length fills.before) t) group ∙ drop-append_seam fills.before rest in
    let told : names_in_front s.names rest ≡ Some (fills.names, fills.after) =
    ap (λ k. names_in_front k rest) (sym fills.names_count) ∙ names_in_front_are_told fills.names fills.are_names fills.after in
    rw (le-ltb (length rdata) s.before room, back, told, eq-eqb (length fills.after) s.after fills.after_size, front)
    (ap Some (same_parts filling.1 filling.2 filling.3))

-- RDATA has parts exactly if it fills its shape, and they are those that fill it
pub parts_fill_shapes : PartsFillShapes
parts_fill_shapes s rdata parts = (parts_fill s rdata parts, filling_are_parts s rdata parts)
