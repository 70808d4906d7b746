-- RDATA that is read keeps its type's shape, and RDATA that keeps it is read as itself.
use Rattle.std.proofs.Common.{◌≡◌, ℕ, zero, suc, ◌+◌, ◌-◌, ◌≤◌, List, [], ◌∷◌, ◌++◌, length, take, drop, Ok, Option, None, Some, refl, sym, ap, ◌∙◌, append_assoc, length-append, arith, false, subst, inl, inr, nat_eq, nat_lt}
use Rattle.std.specs.List.{All, concat}
use Rattle.std.proofs.lemmas.List.{take_all, length-take-le, length-drop, nil_from_length}
use Rattle.std.proofs.lemmas.List.Elements.{All-nil, All-cons, All-head, All-tail}
use Rattle.std.proofs.lemmas.Bool.{cases_Bool, eq-eqb, eqb-true, ltb-false, le-ltb}
use Rattle.std.proofs.Math.Seq.{drop-append_seam, take-append_seam}
use Rattle.cd_name.specs.Names.{IsName, name_at, run_is_cut}
use Rattle.cd_name.proofs.Names.{names_are_names}
use Rattle.cd_name.proofs.Plain.{plain_names, plain_not_cut}
use Rattle.cd_message.specs.declared.message.MsgWhy.TheVariants.{Shape}
use Rattle.cd_message.specs.declared.shape.Shape as kind
use Rattle.cd_message.specs.Readings.{repeat}
use Rattle.cd_message.specs.Messages.{why_of, rdata_why_of, name_reading, name_in, rdata_name, rdata_names, rdata_of_shape, rdata_at, bytes_at}
use Rattle.cd_message.specs.Shapes.{shape_of}
use Rattle.cd_message.specs.Valid.{FillsShape, KeepsShape}
use Rattle.cd_message.specs.MessageLaws.{RdataKeepsShape, ShapedRdataIsItself}
use Rattle.cd_message.proofs.Binds.{bind_ok, ok_same, name_reading_ok, if_ok_else, if_err_else}

-- a name in RDATA is a name
rdata_name_is_name : (p : List ℕ) (end at : ℕ) (x : List ℕ × ℕ) → rdata_name p end at ≡ Ok x → IsName x.0
unfolding rdata_name name_in
rdata_name_is_name p end at x h =
    elim (cases_Bool (run_is_cut (take end p) at)) [
      | inl cut ↦ (names_are_names (take end p) at x.0 x.1 (name_reading_ok rdata_why_of (name_at (take end p) at) x (rw cut at h))).0
      | inr whole ↦ (names_are_names p at x.0 x.1 (name_reading_ok why_of (name_at p at) x (rw whole at h))).0
    ]

-- so many names
pub record AreNames (count : ℕ) (names : List (List ℕ)) : Type 0 where
  pub each : All IsName names
  pub number : length names ≡ count

-- names in RDATA are so many names
pub rdata_names_are_names : (p : List ℕ) (end count at : ℕ) (x : List (List ℕ) × ℕ) → repeat (rdata_name p end) count at ≡ Ok x → AreNames count x.0
unfolding repeat
rdata_names_are_names p end zero at x h =
    let e : [] ≡ x.0 = ap (λ (v : List (List ℕ) × ℕ). v.0) (ok_same ([], at) x h) in
    subst (λ t. AreNames 0 t) e (record { each = All-nil IsName; number = refl })
rdata_names_are_names p end (suc count) at x h =
    let one = bind_ok (rdata_name p end at) _ x h in
    let two = bind_ok (repeat (rdata_name p end) count one.0.1) _ x one.2 in
    let e : one.0.0 ∷ two.0.0 ≡ x.0 = ap (λ (v : List (List ℕ) × ℕ). v.0) (ok_same (one.0.0 ∷ two.0.0, two.0.1) x two.2) in
    let others = rdata_names_are_names p end count one.0.1 two.0 two.1 in
    subst (λ t. AreNames (suc count) t) e (record {
      each = All-cons IsName one.0.0 two.0.0 (rdata_name_is_name p end at one.0 one.1) others.each;
      number = ap suc others.number;
    })

-- a name without pointers in RDATA is read as itself
plain_rdata_name : (front name after : List ℕ) (end : ℕ) → IsName name → length (front ++ (name ++ after)) ≡ end →
    rdata_name (front ++ (name ++ after)) end (length front) ≡ Ok (name, length front + length name)
unfolding rdata_name name_in
plain_rdata_name front name after end is size =
    let all : take end (front ++ (name ++ after)) ≡ front ++ (name ++ after) = take_all end (front ++ (name ++ after)) (omega arith) in
    let plain : name_at (front ++ (name ++ after)) (length front) ≡ Ok (name, length front + length name) =
    ap (λ t. name_at t (length front)) (sym (append_assoc front name after)) ∙ plain_names front name after is in
    rw (all, plain_not_cut front name after is) (ap (name_reading why_of) plain)

-- names without pointers in RDATA are read as themselves
plain_rdata_names : (names : List (List ℕ)) → All IsName names → (front after : List ℕ) (end : ℕ) → length (front ++ (concat names ++ after)) ≡ end →
    repeat (rdata_name (front ++ (concat names ++ after)) end) (length names) (length front) ≡ Ok (names, length front + length (concat names))
unfolding repeat
plain_rdata_names [] are front after end size = let e : length front ≡ length front + 0 = omega arith in ap (λ k. Ok ([], k)) e
plain_rdata_names (name ∷ others) are front after end size =
    let group : front ++ ((name ++ concat others) ++ after) ≡ front ++ (name ++ (concat others ++ after)) = ap (λ t. front ++ t) (append_assoc name (concat others) after) in
    let group2 : front ++ (name ++ (concat others ++ after)) ≡ (front ++ name) ++ (concat others ++ after) = sym (append_assoc front name (concat others ++ after)) in
    let size2 : length (front ++ (name ++ (concat others ++ after))) ≡ end = ap length (sym group) ∙ size in
    let first = plain_rdata_name front name (concat others ++ after) end (All-head IsName name others are) size2 in
    let place : length front + length name ≡ length (front ++ name) = sym (length-append front name) in
    let deeper : repeat (rdata_name (front ++ (name ++ (concat others ++ after))) end) (length others) (length front + length name) ≡ Ok (others, length (front ++ name) + length (concat others)) =
    ap (λ t. repeat (rdata_name t end) (length others) (length front + length name)) group2
    ∙ ap (λ k. repeat (rdata_name ((front ++ name) ++ (concat others ++ after)) end) (length others) k) place
    ∙ plain_rdata_names others (All-tail IsName name others are) (front ++ name) after end (ap length (sym group2) ∙ size2) in
    let last : length (front ++ name) + length (concat others) ≡ length front + length (name ++ concat others) = omega (arith, length-append front name, length-append name (concat others)) in
    ap (λ t. repeat (rdata_name t end) (suc (length others)) (length front)) group ∙ rw (first, deeper) (ap (λ k. Ok (name ∷ others, k)) last)

-- bytes, names and bytes that fill a shape are read as themselves
filled_shape : (s : kind.Shape) (all : List ℕ) → FillsShape s all → rdata_of_shape (Some s) all 0 (length all) ≡ Ok all
unfolding rdata_of_shape rdata_names
filled_shape s all fills =
    let before = fills.before in
    let text : List ℕ = concat fills.names in
    let after = fills.after in
    let group : all ≡ before ++ (text ++ after) = fills.is_all ∙ append_assoc before text after in
    let size : length all ≡ length before + length text + length after = ap length fills.is_all ∙ length-append (before ++ text) after ∙ ap (λ k. k + length after) (length-append before text) in
    let start : 0 + s.before ≡ length before = omega (arith, fills.before_size) in
    let read : repeat (rdata_name all (length all)) s.names (length before) ≡ Ok (fills.names, length before + length text) =
    ap (λ k. repeat (rdata_name all (length all)) k (length before)) (sym fills.names_count)
    ∙ ap (λ t. repeat (rdata_name t (length all)) (length fills.names) (length before)) group
    ∙ plain_rdata_names fills.names fills.are_names before after (length all) (ap length (sym group)) in
    let front : take s.before all ≡ before = ap (λ k. take k all) (sym fills.before_size) ∙ ap (λ t. take (length before) t) group ∙ take-append_seam before (text ++ after) in
    let place : length before + length text ≡ length (before ++ text) = sym (length-append before text) in
    let back : drop (length before + length text) all ≡ after =
    ap (λ k. drop k all) place ∙ ap (λ t. drop (length (before ++ text)) t) fills.is_all ∙ drop-append_seam (before ++ text) after in
    let filled : length before + length text + s.after ≡ length all = omega (arith, fills.after_size) in
    rw (
      le-ltb (length all) (0 + s.before) (omega arith),
      start,
      read,
      eq-eqb (length before + length text + s.after) (length all) filled,
      front,
      back,
      take_all s.after after (omega (arith, fills.after_size)),
    )
    (ap Ok (sym fills.is_all))

-- RDATA that is read with a shape fills it
fills_shape : (s : kind.Shape) (p : List ℕ) (at end : ℕ) (rdata : List ℕ) → end ≤ length p → at ≤ end → rdata_of_shape (Some s) p at end ≡ Ok rdata → FillsShape s rdata
unfolding rdata_of_shape rdata_names
fills_shape s p at end rdata within order h =
    let room = if_err_else (nat_lt end (at + s.before)) Shape _ rdata h in
    let joint = bind_ok (rdata_names p end s.names (at + s.before)) _ rdata room.1 in
    let names = bind_ok (repeat (rdata_name p end) s.names (at + s.before)) _ joint.0 joint.1 in
    let last = if_ok_else (nat_eq (joint.0.1 + s.after) end) Shape _ rdata joint.2 in
    let are = rdata_names_are_names p end s.names (at + s.before) names.0 names.1 in
    let bytes : concat names.0.0 ≡ joint.0.0 = ap (λ (v : List ℕ × ℕ). v.0) (ok_same (concat names.0.0, names.0.1) joint.0 names.2) in
    let fits : at + s.before ≤ end = ltb-false end (at + s.before) room.0 in
    let filled : joint.0.1 + s.after ≡ end = eqb-true (joint.0.1 + s.after) end last.0 in
    record {
      before = bytes_at p at s.before;
      names = names.0.0;
      after = bytes_at p joint.0.1 s.after;
      before_size = length-take-le s.before (drop at p) (omega (arith, length-drop at p));
      names_count = are.number;
      after_size = length-take-le s.after (drop joint.0.1 p) (omega (arith, length-drop joint.0.1 p));
      are_names = are.each;
      is_all = sym (ok_same _ rdata last.1) ∙ ap (λ t. bytes_at p at s.before ++ t ++ bytes_at p joint.0.1 s.after) (sym bytes);
    }

-- empty RDATA keeps any shape
empty_keeps : (o : Option kind.Shape) → KeepsShape o []
empty_keeps None = tt
empty_keeps (Some s) = tt

-- RDATA that is read keeps the shape that it is read with
shape_kept : (o : Option kind.Shape) (p : List ℕ) (at end : ℕ) (rdata : List ℕ) → end ≤ length p → at ≤ end → rdata_of_shape o p at end ≡ Ok rdata → KeepsShape o rdata
shape_kept None p at end rdata within order h = tt
shape_kept (Some s) p at end [] within order h = tt
shape_kept (Some s) p at end (b ∷ bytes) within order h = fills_shape s p at end (b ∷ bytes) within order h

-- the law on RDATA that is read
pub rdata_keeps_shape : RdataKeepsShape
unfolding rdata_at
rdata_keeps_shape rtype p at end rdata within order h =
    elim (cases_Bool (nat_eq at end)) [
      | inl same ↦ subst (λ t. KeepsShape (shape_of rtype) t) (ok_same [] rdata (rw same at h)) (empty_keeps (shape_of rtype))
      | inr apart ↦ shape_kept (shape_of rtype) p at end rdata within order (rw apart at h)
    ]

-- RDATA with bytes that keeps a shape is read with it as itself
kept_shape : (o : Option kind.Shape) (rdata : List ℕ) → nat_eq 0 (length rdata) ≡ false → KeepsShape o rdata → rdata_of_shape o rdata 0 (length rdata) ≡ Ok rdata
unfolding rdata_of_shape
kept_shape None rdata some keeps = ap Ok (take_all (length rdata - 0) rdata (omega arith))
kept_shape (Some s) [] some keeps = absurd (cc)
kept_shape (Some s) (b ∷ bytes) some keeps = filled_shape s (b ∷ bytes) keeps

-- the law on RDATA that stands alone
pub shaped_rdata_is_itself : ShapedRdataIsItself
unfolding rdata_at
shaped_rdata_is_itself rtype rdata keeps =
    elim (cases_Bool (nat_eq 0 (length rdata))) [
      | inl empty ↦ rw empty (ap Ok (sym (nil_from_length rdata (sym (eqb-true 0 (length rdata) empty)))))
      | inr some ↦ rw some (kept_shape (shape_of rtype) rdata some keeps)
    ]
