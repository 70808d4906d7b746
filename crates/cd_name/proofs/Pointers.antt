-- Labels, and a pointer after them.
use Rattle.std.proofs.Common.{◌≡◌, ℕ, ◌+◌, ◌-◌, ◌*◌, ◌<◌, ◌≤◌, List, [], ◌∷◌, ◌++◌, length, take, drop, get_or, ap, sym, ◌∙◌, arith, append_assoc, length-append, subst, add-zero}
use Rattle.std.proofs.lemmas.List.{get_or-append-add}
use Rattle.std.proofs.Math.Seq.{drop-append_seam, take-append_seam}
use Rattle.cd_name.specs.NameLaws.{label_bytes, LabelsAreRead, PointersAreFollowed}
use Rattle.cd_name.specs.Rules.{ReadsName, label, pointer}
use Rattle.cd_name.proofs.Rules.{read_by_rules}

-- one label
label_is_read : (l front after name : List ℕ) (start next : ℕ) → 0 < length l → length l ≤ 63 →
    ReadsName (front ++ ((length l ∷ l) ++ after)) start (length front + length (length l ∷ l)) name next →
    ReadsName (front ++ ((length l ∷ l) ++ after)) start (length front) ((length l ∷ l) ++ name) next
label_is_read l front after name start next some few deeper =
    let p : List ℕ = front ++ ((length l ∷ l) ++ after) in
    let here : drop (length front) p ≡ (length l ∷ l) ++ after = drop-append_seam front ((length l ∷ l) ++ after) in
    let size : length (length l ∷ l) ≡ length l + 1 = omega arith in
    let cut : take (length l + 1) (drop (length front) p) ≡ length l ∷ l =
    ap (λ t. take (length l + 1) t) here ∙ ap (λ k. take k ((length l ∷ l) ++ after)) (sym size) ∙ take-append_seam (length l ∷ l) after in
    let head : get_or p (length front) 0 ≡ length l = ap (λ k. get_or p k 0) (sym (add-zero (length front))) ∙ get_or-append-add front ((length l ∷ l) ++ after) 0 0 in
    let there : length front + length l < length p = omega (arith, length-append front ((length l ∷ l) ++ after), length-append (length l ∷ l) after) in
    let place : length front + length (length l ∷ l) ≡ length front + (length l + 1) = omega arith in
    subst (λ t. ReadsName p start (length front) (t ++ name) next) cut
    (label start (length front) (length l) name next (head, some, few, there) (subst (λ k. ReadsName p start k name next) place deeper))

-- labels are read before what is read after them
pub labels_are_read : LabelsAreRead
labels_are_read [] front more name start next are r = subst (λ k. ReadsName (front ++ more) start k name next) (add-zero (length front)) r
labels_are_read (l ∷ ls) front more name start next are r =
    let first : List ℕ = length l ∷ l in
    let inner : (first ++ label_bytes ls) ++ more ≡ first ++ (label_bytes ls ++ more) = append_assoc first (label_bytes ls) more in
    let group : front ++ ((first ++ label_bytes ls) ++ more) ≡ (front ++ first) ++ (label_bytes ls ++ more) =
    ap (λ t. front ++ t) inner ∙ sym (append_assoc front first (label_bytes ls ++ more)) in
    let far : length front + length (first ++ label_bytes ls) ≡ length (front ++ first) + length (label_bytes ls) =
    omega (arith, length-append first (label_bytes ls), length-append front first) in
    let moved : ReadsName ((front ++ first) ++ (label_bytes ls ++ more)) start (length (front ++ first) + length (label_bytes ls)) name next =
    subst (λ k. ReadsName ((front ++ first) ++ (label_bytes ls ++ more)) start k name next) far
    (subst (λ t. ReadsName t start (length front + length (first ++ label_bytes ls)) name next) group r) in
    let deeper : ReadsName ((front ++ first) ++ (label_bytes ls ++ more)) start (length (front ++ first)) (label_bytes ls ++ name) next =
    labels_are_read ls (front ++ first) more name start next are.1 moved in
    let back : ReadsName (front ++ (first ++ (label_bytes ls ++ more))) start (length front + length first) (label_bytes ls ++ name) next =
    subst (λ k. ReadsName (front ++ (first ++ (label_bytes ls ++ more))) start k (label_bytes ls ++ name) next) (length-append front first)
    (subst (λ t. ReadsName t start (length (front ++ first)) (label_bytes ls ++ name) next) (append_assoc front first (label_bytes ls ++ more)) deeper) in
    let one = label_is_read l front (label_bytes ls ++ more) (label_bytes ls ++ name) start next are.0.0 are.0.1 back in
    subst (λ t. ReadsName (front ++ ((first ++ label_bytes ls) ++ more)) start (length front) t next) (sym (append_assoc first (label_bytes ls) name))
    (subst (λ t. ReadsName (front ++ t) start (length front) (first ++ (label_bytes ls ++ name)) next) (sym inner) one)

-- labels and a pointer
pub pointers_are_followed : PointersAreFollowed
pointers_are_followed labels front more name high low target next are two is before h short =
    let tail : List ℕ = high ∷ low ∷ more in
    let p : List ℕ = front ++ (label_bytes labels ++ tail) in
    let r = (read_by_rules p target name next).0 h in
    let group : p ≡ (front ++ label_bytes labels) ++ tail = sym (append_assoc front (label_bytes labels) tail) in
    let at : ℕ = length front + length (label_bytes labels) in
    let at_is : length (front ++ label_bytes labels) ≡ at = length-append front (label_bytes labels) in
    let first : get_or p at 0 ≡ high =
    ap (λ t. get_or t at 0) group ∙ ap (λ k. get_or ((front ++ label_bytes labels) ++ tail) k 0) (sym at_is ∙ sym (add-zero (length (front ++ label_bytes labels))))
    ∙ get_or-append-add (front ++ label_bytes labels) tail 0 0 in
    let second : get_or p (at + 1) 0 ≡ low =
    ap (λ t. get_or t (at + 1) 0) group ∙ ap (λ k. get_or ((front ++ label_bytes labels) ++ tail) (k + 1) 0) (sym at_is)
    ∙ get_or-append-add (front ++ label_bytes labels) tail 1 0 in
    let room : at + 1 < length p = omega (arith, length-append front (label_bytes labels ++ tail), length-append (label_bytes labels) tail) in
    let where_ : target ≡ (get_or p at 0 - 192) * 256 + get_or p (at + 1) 0 = rw (first, second) is in
    let jump : ReadsName p (length front) at name (at + 2) = pointer (length front) at target name next (room, omega (arith, first), where_) before r.0 in
    (read_by_rules p (length front) (label_bytes labels ++ name) (at + 2)).1
    (labels_are_read labels front tail name (length front) (at + 2) are jump, omega (arith, length-append (label_bytes labels) name))
