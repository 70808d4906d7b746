-- What is read stays with more bytes after the payload, and so does a rule that is broken where no byte is missing.
use Rattle.std.proofs.Common.{◌≡◌, ◌≢◌, ℕ, ◌+◌, refl, List, ◌++◌, take, drop, ap, ◌∙◌, arith, length-append, subst}
use Rattle.std.proofs.lemmas.List.{get_or_append_left, take-append-le, drop-append-le, length-drop}
use Rattle.cd_name.specs.NameLaws.{NamesStay, BrokenNamesStay}
use Rattle.cd_name.specs.Rules.{LabelAt, PointerAt, ReadsName, root, label, pointer, BreaksName, no_byte, reserved_type, part_of_label, part_of_pointer, forward_pointer, long_name, after_label, after_pointer}
use Rattle.cd_name.specs.declared.fault.NameWhy.{NameWhy}
use Rattle.cd_name.specs.declared.fault.NameWhy.TheVariants.{Short}
use Rattle.cd_name.proofs.Rules.{read_by_rules, broken_by_rules}

-- a label stays
label_stays : (p more : List ℕ) (at n : ℕ) → LabelAt p at n → LabelAt (p ++ more) at n
label_stays p more at n h = (get_or_append_left p more 0 at (omega (arith, h.3)) ∙ h.0, h.1, h.2, omega (arith, length-append p more, h.3))

-- its bytes stay
label_bytes_stay : (p more : List ℕ) (at n : ℕ) → LabelAt p at n → take (n + 1) (drop at (p ++ more)) ≡ take (n + 1) (drop at p)
label_bytes_stay p more at n h =
    ap (λ bytes. take (n + 1) bytes) (drop-append-le at p more (omega (arith, h.3)))
    ∙ take-append-le (n + 1) (drop at p) more (omega (arith, length-drop at p, h.3))

-- a pointer stays
pointer_stays : (p more : List ℕ) (at target : ℕ) → PointerAt p at target → PointerAt (p ++ more) at target
pointer_stays p more at target h =
    let first = get_or_append_left p more 0 at (omega (arith, h.0)) in
    let second = get_or_append_left p more 0 (at + 1) h.0 in
    (omega (arith, length-append p more, h.0), omega (arith, first, h.1), rw (first, second) h.2)

-- what the rules read they read with more bytes after
pub rules_stay : {p : List ℕ} (more : List ℕ) {s at : ℕ} {name : List ℕ} {next : ℕ} → ReadsName p s at name next → ReadsName (p ++ more) s at name next
rules_stay {p} more (root s at h e) = root s at (omega (arith, length-append p more)) (get_or_append_left p more 0 at h ∙ e)
rules_stay {p} more (label s at n labels next h deeper) =
    subst (λ bytes. ReadsName (p ++ more) s at (bytes ++ labels) next) (label_bytes_stay p more at n h)
    (label s at n labels next (label_stays p more at n h) (rules_stay more deeper))
rules_stay {p} more (pointer s at target labels next h before deeper) =
    pointer s at target labels next (pointer_stays p more at target h) before (rules_stay more deeper)

-- a name that is read is read with more bytes after
pub names_stay : NamesStay
names_stay p more at name next h =
    let r = (read_by_rules p at name next).0 h in
    (read_by_rules (p ++ more) at name next).1 (rules_stay more r.0, r.1)

-- what the rules say is broken first they say with more bytes after, unless bytes are missing
pub broken_rules_stay : {p : List ℕ} (more : List ℕ) {s at size : ℕ} {why : NameWhy} → BreaksName p s at size why → why ≢ Short → BreaksName (p ++ more) s at size why
broken_rules_stay {p} more (no_byte s at size h) other = absurd (other refl)
broken_rules_stay {p} more (reserved_type s at size h k m) other =
    let byte = get_or_append_left p more 0 at h in
    reserved_type s at size (omega (arith, length-append p more)) (omega (arith, byte)) (omega (arith, byte))
broken_rules_stay {p} more (part_of_label s at size h k m o) other = absurd (other refl)
broken_rules_stay {p} more (part_of_pointer s at size h k) other = absurd (other refl)
broken_rules_stay {p} more (forward_pointer s at target size h past) other = forward_pointer s at target size (pointer_stays p more at target h) past
broken_rules_stay {p} more (long_name s at n size h much) other = long_name s at n size (label_stays p more at n h) much
broken_rules_stay {p} more (after_label s at n size why h fits deeper) other =
    after_label s at n size why (label_stays p more at n h) fits (broken_rules_stay more deeper other)
broken_rules_stay {p} more (after_pointer s at target size why h before deeper) other =
    after_pointer s at target size why (pointer_stays p more at target h) before (broken_rules_stay more deeper other)

-- a rule that is broken where no byte is missing stays broken with more bytes after
pub broken_names_stay : BrokenNamesStay
broken_names_stay p more at why h other = (broken_by_rules (p ++ more) at why).1 (broken_rules_stay more ((broken_by_rules p at why).0 h) other)
