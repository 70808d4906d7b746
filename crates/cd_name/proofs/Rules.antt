-- The rules and the reading agree.
use Rattle.std.proofs.Common.{◌≡◌, ℕ, zero, suc, ◌+◌, ◌-◌, ◌*◌, ◌<◌, ◌≤◌, List, [], ◌∷◌, ◌++◌, length, take, drop, get_or, refl, ap, sym, ◌∙◌, arith, append_assoc, length-append, subst, inl, inr, ◌⊎◌, Some, None, Result, Ok, Err}
use Rattle.std.proofs.lemmas.Bool.{le-ltb, lt-ltb, cases_eq, cases_lt}
use Rattle.cd_name.specs.Names.{NameReading, reading_at, break_reading, label_then_reading, pointer_then_reading, name_at, name_of_reading, NameAt, NameBroken}
use Rattle.cd_name.specs.Rules.{LabelAt, PointerAt, ReadsName, root, label, pointer, BreaksName, no_byte, reserved_type, part_of_label, part_of_pointer, forward_pointer, long_name, after_label, after_pointer, ReadByRules, BrokenByRules}
use Rattle.cd_name.specs.declared.fault.NameWhy.{NameWhy}
use Rattle.cd_name.specs.declared.fault.NameWhy.TheVariants.{Short, Label, Pointer, LongName}
use Rattle.cd_name.proofs.Bytes.{length-label}
use Rattle.cd_name.proofs.Readings.{reading-none, reading-root, reading-label, reading-cut, reading-reserved, reading-pointer_cut, reading-back, reading-forward}

-- the reading of a name that the rules give
record IsReading (p : List ℕ) (s at : ℕ) (name : List ℕ) (next : ℕ) : Type 0 where
  labels : List ℕ
  name_is : name ≡ labels ++ 0 ∷ []
  reads : reading_at p s at ≡ record { labels = labels; next = next; fault = None }

-- what the rules read is the reading
reading_of_rules : {p : List ℕ} {s at : ℕ} {name : List ℕ} {next : ℕ} → ReadsName p s at name next → IsReading p s at name next
reading_of_rules {p} (root s at h e) = record { labels = []; name_is = refl; reads = reading-root p s at h e }
reading_of_rules {p} (label s at n labels next h deeper) =
    let d = reading_of_rules deeper in
    record {
      labels = take (n + 1) (drop at p) ++ d.labels;
      name_is = ap (λ t. take (n + 1) (drop at p) ++ t) d.name_is ∙ sym (append_assoc (take (n + 1) (drop at p)) d.labels (0 ∷ []));
      reads = reading-label p s at n h.0 h.1 h.2 h.3 ∙ ap (λ r. label_then_reading (take (n + 1) (drop at p)) r) d.reads;
    }
reading_of_rules {p} (pointer s at t labels next h k deeper) =
    let d = reading_of_rules deeper in
    record { labels = d.labels; name_is = d.name_is; reads = reading-back p s at (get_or p at 0) t refl h.0 h.1 h.2 k ∙ ap (λ r. pointer_then_reading (at + 2) r) d.reads }

-- the first rule broken, after so many bytes of labels
abbrev FirstBroken : ℕ → NameReading → NameWhy → Type 0
FirstBroken size r why = ((254 < size + length r.labels) × (why ≡ LongName)) ⊎ ((size + length r.labels ≤ 254) × (r.fault ≡ Some why))

-- a rule that is broken with no label before it
first_at_once : (size : ℕ) (r : NameReading) (next : ℕ) (why : NameWhy) → size ≤ 254 → r ≡ break_reading next why → FirstBroken size r why
first_at_once size r next why h e = subst (λ x. FirstBroken size x why) (sym e) (inr (omega arith, refl))

-- a rule that is broken after a label
first_after_label : (size n : ℕ) (l : List ℕ) (r : NameReading) (why : NameWhy) → length l ≡ n → FirstBroken (size + n) r why → FirstBroken size (label_then_reading l r) why
first_after_label size n l r why e (inl f) = inl (omega (arith, length-append l r.labels, f.0), f.1)
first_after_label size n l r why e (inr f) = inr (omega (arith, length-append l r.labels, f.0), f.1)

-- what the rules say is broken first is so in the reading
first_of_rules : {p : List ℕ} {s at size : ℕ} {why : NameWhy} → BreaksName p s at size why → size ≤ 254 → FirstBroken size (reading_at p s at) why
first_of_rules {p} (no_byte s at size h) small = first_at_once size (reading_at p s at) _ Short small (reading-none p s at h)
first_of_rules {p} (reserved_type s at size h k m) small = first_at_once size (reading_at p s at) _ Label small (reading-reserved p s at (get_or p at 0) refl h k m)
first_of_rules {p} (part_of_label s at size h k m o) small = first_at_once size (reading_at p s at) _ Short small (reading-cut p s at (get_or p at 0) refl k m h o)
first_of_rules {p} (part_of_pointer s at size h k) small = first_at_once size (reading_at p s at) _ Short small (reading-pointer_cut p s at (get_or p at 0) refl h k)
first_of_rules {p} (forward_pointer s at t size h k) small = first_at_once size (reading_at p s at) _ Pointer small (reading-forward p s at (get_or p at 0) t refl h.0 h.1 h.2 k)
first_of_rules {p} (long_name s at n size h k) small =
    let l = take (n + 1) (drop at p) in
    subst (λ r. FirstBroken size r LongName) (sym (reading-label p s at n h.0 h.1 h.2 h.3))
    (inl (omega (arith, length-append l (reading_at p s (at + (n + 1))).labels, length-label p at n h.3), refl))
first_of_rules {p} (after_label s at n size why h k deeper) small =
    let l = take (n + 1) (drop at p) in
    subst (λ r. FirstBroken size r why) (sym (reading-label p s at n h.0 h.1 h.2 h.3))
    (first_after_label size (n + 1) l (reading_at p s (at + (n + 1))) why (length-label p at n h.3) (first_of_rules deeper (omega arith)))
first_of_rules {p} (after_pointer s at t size why h k deeper) small =
    subst (λ r. FirstBroken size r why) (sym (reading-back p s at (get_or p at 0) t refl h.0 h.1 h.2 k)) (first_of_rules deeper small)

-- one of the two holds
abbrev HasAnswer : List ℕ → ℕ → ℕ → ℕ → Type 0
HasAnswer p s at size = ((name : List ℕ) × (next : ℕ) × ReadsName p s at name next × (size + length name ≤ 255)) ⊎ ((why : NameWhy) × BreaksName p s at size why)

-- an answer, with a label before it
answer_with_label : (p : List ℕ) (s at n size : ℕ) → LabelAt p at n → size + (n + 1) + 1 ≤ 255 → HasAnswer p s (at + (n + 1)) (size + (n + 1)) → HasAnswer p s at size
answer_with_label p s at n size h k (inl d) =
    inl (take (n + 1) (drop at p) ++ d.0, d.1, label s at n d.0 d.1 h d.2, omega (arith, length-append (take (n + 1) (drop at p)) d.0, length-label p at n h.3, d.3))
answer_with_label p s at n size h k (inr d) = inr (d.0, after_label s at n size d.0 h k d.1)

-- an answer, with a pointer to it
answer_with_pointer : (p : List ℕ) (s at t size : ℕ) → PointerAt p at t → t < s → HasAnswer p t t size → HasAnswer p s at size
answer_with_pointer p s at t size h k (inl d) = inl (d.0, at + 2, pointer s at t d.0 d.1 h k d.2, d.3)
answer_with_pointer p s at t size h k (inr d) = inr (d.0, after_pointer s at t size d.0 h k d.1)

-- an answer, if there is one at each smaller start and at each later offset
answer_at : (p : List ℕ) (s at size : ℕ) → size ≤ 254 → ((t : ℕ) → t < s → HasAnswer p t t size) →
    ((n size : ℕ) → 0 < n → at + n < length p → size ≤ 254 → HasAnswer p s (at + (n + 1)) size) → HasAnswer p s at size
answer_at p s at size small back on =
    let b : ℕ = get_or p at 0 in
    let t : ℕ = (get_or p at 0 - 192) * 256 + get_or p (at + 1) 0 in
    elim (cases_lt at (length p)) [
      | inr end ↦ inr (Short, no_byte s at size end)
      | inl here ↦
          elim (cases_eq b 0) [
            | inl zero_ ↦ inl (0 ∷ [], at + 1, root s at here zero_, omega arith)
            | inr some ↦
                elim (cases_lt b 64) [
                  | inl is_label ↦
                      elim (cases_lt (at + b) (length p)) [
                        | inr short ↦ inr (Short, part_of_label s at size here (omega arith) (omega arith) short)
                        | inl there ↦
                            elim (cases_lt 255 (size + (b + 1) + 1)) [
                              | inl much ↦ inr (LongName, long_name s at b size (refl, omega arith, omega arith, there) much)
                              | inr fits ↦ answer_with_label p s at b size (refl, omega arith, omega arith, there) fits (on b (size + (b + 1)) (omega arith) there (omega arith))
                            ]
                      ]
                  | inr above ↦
                      elim (cases_lt b 192) [
                        | inl odd ↦ inr (Label, reserved_type s at size here (omega arith) odd)
                        | inr is_pointer ↦
                            elim (cases_eq (at + 1) (length p)) [
                              | inl last ↦ inr (Short, part_of_pointer s at size last (omega arith))
                              | inr more ↦
                                  elim (cases_lt t s) [
                                    | inl before ↦ answer_with_pointer p s at t size (omega arith, omega arith, refl) before (back t before)
                                    | inr past ↦ inr (Pointer, forward_pointer s at t size (omega arith, omega arith, refl) past)
                                  ]
                            ]
                      ]
                ]
          ]
    ]

-- an answer, if there is one at each smaller start; j bounds the bytes left
answer_in_run : (j : ℕ) (p : List ℕ) (s : ℕ) → ((t size : ℕ) → t < s → size ≤ 254 → HasAnswer p t t size) →
    (at size : ℕ) → length p ≤ at + j → size ≤ 254 → HasAnswer p s at size
answer_in_run zero p s back at size left small = inr (Short, no_byte s at size (omega arith))
answer_in_run (suc j) p s back at size left small =
    answer_at p s at size small (λ t h. back t size h small) (λ n size2 h k m. answer_in_run j p s back (at + (n + 1)) size2 (omega arith) m)

-- an answer at each offset; k bounds the start
has_answer : (k : ℕ) (p : List ℕ) (s : ℕ) → s ≤ k → (at size : ℕ) → size ≤ 254 → HasAnswer p s at size
has_answer zero p s h at size small = answer_in_run (length p) p s (λ t size2 m o. absurd (omega arith)) at size (omega arith) small
has_answer (suc k) p s h at size small = answer_in_run (length p) p s (λ t size2 m o. has_answer k p t (omega arith) t size2 o) at size (omega arith) small

-- a name that the rules read stands there
name_of_rules : (p : List ℕ) (at : ℕ) (name : List ℕ) (next : ℕ) → ReadsName p at at name next → length name ≤ 255 → NameAt p at name next
name_of_rules p at name next r short =
    let d = reading_of_rules r in
    let size : length name ≡ length d.labels + 1 = ap length d.name_is ∙ length-append d.labels (0 ∷ []) in
    ap name_of_reading d.reads ∙ rw (le-ltb 254 (length d.labels) (omega arith)) (ap (λ t. Ok (t, next)) (sym d.name_is))

-- the first rule that is broken is the answer
rule_of_first : (r : NameReading) (why : NameWhy) → FirstBroken 0 r why → name_of_reading r ≡ Err why
rule_of_first r why (inl f) = rw (lt-ltb 254 (length r.labels) (omega (arith, f.0))) (ap Err (sym f.1))
rule_of_first r why (inr f) = rw (le-ltb 254 (length r.labels) (omega (arith, f.0)), f.1) refl

-- a rule that the rules say is broken first is the answer
rule_of_rules : (p : List ℕ) (at : ℕ) (why : NameWhy) → BreaksName p at at 0 why → NameBroken p at why
rule_of_rules p at why b = rule_of_first (reading_at p at at) why (first_of_rules b (omega arith))

-- one result holds one pair
same_pair : (u v : List ℕ × ℕ) (r : Result (List ℕ × ℕ) NameWhy) → r ≡ Ok u → r ≡ Ok v → u ≡ v
same_pair u v r h k = cc

-- one result is no name and rule at once
not_both : (a : List ℕ × ℕ) (why : NameWhy) (r : Result (List ℕ × ℕ) NameWhy) → r ≡ Ok a → r ≡ Err why → ⊥
not_both a why r h k = cc

-- one result holds one rule
same_why : (a b : NameWhy) (r : Result (List ℕ × ℕ) NameWhy) → r ≡ Err a → r ≡ Err b → a ≡ b
same_why a b r h k = cc

-- the rules read a name that stands there
rules_of_name : (p : List ℕ) (at : ℕ) (name : List ℕ) (next : ℕ) → NameAt p at name next → HasAnswer p at at 0 → ReadsName p at at name next × (length name ≤ 255)
rules_of_name p at name next h (inl d) =
    let k = name_of_rules p at d.0 d.1 d.2 (omega (arith, d.3)) in
    let n : name ≡ d.0 = ap (λ (v : List ℕ × ℕ). v.0) (same_pair (name, next) (d.0, d.1) (name_at p at) h k) in
    let x : next ≡ d.1 = ap (λ (v : List ℕ × ℕ). v.1) (same_pair (name, next) (d.0, d.1) (name_at p at) h k) in
    (subst (λ k. ReadsName p at at name k) (sym x) (subst (λ t. ReadsName p at at t d.1) (sym n) d.2), omega (arith, ap length n, d.3))
rules_of_name p at name next h (inr d) = absurd (not_both (name, next) d.0 (name_at p at) h (rule_of_rules p at d.0 d.1))

-- the rules say which is broken first
rules_of_rule : (p : List ℕ) (at : ℕ) (why : NameWhy) → NameBroken p at why → HasAnswer p at at 0 → BreaksName p at at 0 why
rules_of_rule p at why h (inl d) = absurd (not_both (d.0, d.1) why (name_at p at) (name_of_rules p at d.0 d.1 d.2 (omega (arith, d.3))) h)
rules_of_rule p at why h (inr d) =
    subst (λ x. BreaksName p at at 0 x) (sym (same_why why d.0 (name_at p at) h (rule_of_rules p at d.0 d.1))) d.1

-- a name stands there exactly if the rules read it
pub read_by_rules : ReadByRules
read_by_rules p at name next =
    (λ h. rules_of_name p at name next h (has_answer at p at (omega arith) at 0 (omega arith)), λ r. name_of_rules p at name next r.0 r.1)

-- a rule is broken first exactly if the rules say so
pub broken_by_rules : BrokenByRules
broken_by_rules p at why =
    (λ h. rules_of_rule p at why h (has_answer at p at (omega arith) at 0 (omega arith)), λ b. rule_of_rules p at why b)
