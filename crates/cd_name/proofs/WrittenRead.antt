-- A name that is written is read as itself, and so are the suffixes that come to stand.
use Rattle.std.proofs.Common.{◌≡◌, ℕ, ◌+◌, ◌-◌, ◌*◌, ◌/◌, ◌%◌, ◌<◌, ◌≤◌, List, [], ◌∷◌, ◌++◌, inl, inr, length, refl, ap, sym, ◌∙◌, subst, arith, append_assoc, length-append, add-zero}
use Rattle.std.specs.List.{All, AllByRecursion, Contains}
use Rattle.std.proofs.lemmas.List.{append-nil}
use Rattle.std.proofs.lemmas.List.Elements.{All-append, All-weaker, All-contains, All-contains_itself}
use Rattle.cd_name.specs.Names.{IsName, NameAt}
use Rattle.cd_name.specs.NameLaws.{IsLabel, label_bytes}
use Rattle.cd_name.specs.WrittenNames.{Suffix, Written, pointer_to, name_piece, IsWrittenByRule, SuffixesAreRead, WrittenNamesAreRead}
use Rattle.cd_name.proofs.Spelled.{names_are_labels}
use Rattle.cd_name.proofs.Names.{names_are_names}
use Rattle.cd_name.proofs.Longer.{names_stay}
use Rattle.cd_name.proofs.Plain.{plain_names}
use Rattle.cd_name.proofs.Pointers.{pointers_are_followed}
use Rattle.cd_name.proofs.WrittenByRule.{names_are_written_by_rule}

-- the bytes of labels after others
label_bytes-append : (front after : List (List ℕ)) → label_bytes (front ++ after) ≡ label_bytes front ++ label_bytes after
label_bytes-append [] after = refl
label_bytes-append (l ∷ ls) after =
    ap (λ t. (length l ∷ l) ++ t) (label_bytes-append ls after) ∙ sym (append_assoc (length l ∷ l) (label_bytes ls) (label_bytes after))

-- the last ones of labels are labels
labels_after : (front after : List (List ℕ)) → AllByRecursion IsLabel (front ++ after) → AllByRecursion IsLabel after
labels_after [] after are = are
labels_after (l ∷ ls) after are = labels_after ls after are.1

-- labels and the root are read
all_is_read : (front : List ℕ) (labels : List (List ℕ)) → AllByRecursion IsLabel labels → length (label_bytes labels ++ 0 ∷ []) ≤ 255 →
    NameAt (front ++ (label_bytes labels ++ 0 ∷ [])) (length front) (label_bytes labels ++ 0 ∷ []) (length (front ++ (label_bytes labels ++ 0 ∷ [])))
all_is_read front labels are short =
    let name : List ℕ = label_bytes labels ++ 0 ∷ [] in
    let P : List ℕ → Type 0 = λ p. NameAt p (length front) name (length front + length name) in
    let Q : ℕ → Type 0 = λ next. NameAt (front ++ name) (length front) name next in
    subst Q (sym (length-append front name)) (subst P (append-nil (front ++ name)) (plain_names front name [] ((names_are_labels name).1 (labels, are, refl, short))))

-- labels and a pointer to a suffix that is read are read
pointer_is_read : (old before : List ℕ) (labels : List (List ℕ)) (suffix : List ℕ) (offset next : ℕ) → AllByRecursion IsLabel labels → offset < 16384 →
    NameAt old offset suffix next → length (label_bytes labels) + length suffix ≤ 255 →
    NameAt ((old ++ before) ++ (label_bytes labels ++ pointer_to offset)) (length (old ++ before)) (label_bytes labels ++ suffix)
    (length ((old ++ before) ++ (label_bytes labels ++ pointer_to offset)))
pointer_is_read old before labels suffix offset next are near reads short =
    let front : List ℕ = old ++ before in
    let after : List ℕ = label_bytes labels ++ pointer_to offset in
    let n = names_are_names old offset suffix next reads in
    let stays : NameAt (front ++ after) offset suffix next =
    (let P : List ℕ → Type 0 = λ p. NameAt p offset suffix next in subst P (sym (append_assoc old before after)) (names_stay old (before ++ after) offset suffix next reads)) in
    let target : offset ≡ (192 + offset / 256 - 192) * 256 + offset % 256 = omega arith in
    let within : offset < length front = omega (arith, n.1, n.2, length-append old before) in
    let next_is : length front + length (label_bytes labels) + 2 ≡ length (front ++ after) = omega (arith, length-append front after, length-append (label_bytes labels) (pointer_to offset)) in
    let Q : ℕ → Type 0 = λ k. NameAt (front ++ after) (length front) (label_bytes labels ++ suffix) k in
    subst Q next_is (pointers_are_followed labels front [] suffix (192 + offset / 256) (offset % 256) offset next are (omega arith) target within stays short)

-- what is written by the rule is read from each of its labels on
label_is_read : (old : List ℕ) (standing : List Suffix) (name : List ℕ) (w : Written) → SuffixesAreRead old standing → IsName name → (r : IsWrittenByRule standing (length old) name w) →
    (front after : List (List ℕ)) → r.labels ≡ front ++ after →
    NameAt (old ++ w.bytes) (length old + length (label_bytes front)) (label_bytes after ++ r.suffix) (length (old ++ w.bytes))
label_is_read old standing name w are is r front after e =
    let before : List ℕ = label_bytes front in
    let are_after : AllByRecursion IsLabel after = labels_after front after (let P : List (List ℕ) → Type 0 = λ ls. AllByRecursion IsLabel ls in subst P e r.are_labels) in
    let parts : label_bytes r.labels ≡ before ++ label_bytes after = ap label_bytes e ∙ label_bytes-append front after in
    let short : length (label_bytes after) + length r.suffix ≤ 255 =
    omega (arith, ap length r.is_all, length-append (label_bytes r.labels) r.suffix, ap length parts, length-append before (label_bytes after), is.1) in
    let place : (end : List ℕ) → w.bytes ≡ label_bytes r.labels ++ end → (old ++ before) ++ (label_bytes after ++ end) ≡ old ++ w.bytes =
    λ (end : List ℕ) (b : w.bytes ≡ label_bytes r.labels ++ end).
    append_assoc old before (label_bytes after ++ end) ∙ ap (λ t. old ++ t) (sym (append_assoc before (label_bytes after) end) ∙ ap (λ t. t ++ end) (sym parts) ∙ sym b) in
    let P : List ℕ → Type 0 = λ p. NameAt p (length old + length before) (label_bytes after ++ r.suffix) (length p) in
    let Q : (end : List ℕ) → ℕ → Type 0 =
    λ end k. NameAt ((old ++ before) ++ (label_bytes after ++ end)) k (label_bytes after ++ r.suffix) (length ((old ++ before) ++ (label_bytes after ++ end))) in
    elim r.ends [
      | inl root ↦
          let R : List ℕ → Type 0 = λ s. NameAt ((old ++ before) ++ (label_bytes after ++ s)) (length (old ++ before)) (label_bytes after ++ s) (length ((old ++ before) ++ (label_bytes after ++ s))) in
          subst P (place r.suffix (root.1 ∙ r.is_all)) (subst (Q r.suffix) (length-append old before)
          (subst R (sym root.0) (all_is_read (old ++ before) after are_after (omega (arith, length-append (label_bytes after) (0 ∷ []), ap length root.0)))))
      | inr far ↦
          let stands = All-contains (λ (s : Suffix). (s.offset < 16384) × ((next : ℕ) × NameAt old s.offset s.name next)) standing _ are far.2.stands in
          subst P (place (pointer_to far.0) far.3) (subst (Q (pointer_to far.0)) (length-append old before)
          (pointer_is_read old before after r.suffix far.0 stands.1.0 are_after stands.0 stands.1.1 short))
    ]

-- what is written by the rule is read, and so are the suffixes that come to stand
written_is_read : (old : List ℕ) (standing : List Suffix) (name : List ℕ) (w : Written) → SuffixesAreRead old standing → IsName name → IsWrittenByRule standing (length old) name w →
    NameAt (old ++ w.bytes) (length old) name (length (old ++ w.bytes)) × SuffixesAreRead (old ++ w.bytes) (standing ++ w.suffixes)
written_is_read old standing name w are is r =
    let p : List ℕ = old ++ w.bytes in
    let from = label_is_read old standing name w are is r in
    let P : List ℕ → Type 0 = λ n. NameAt p (length old) n (length p) in
    let Q : ℕ → Type 0 = λ at. NameAt p at (label_bytes r.labels ++ r.suffix) (length p) in
    let R : List ℕ → Suffix → Type 0 = λ bytes s. (s.offset < 16384) × ((next : ℕ) × NameAt bytes s.offset s.name next) in
    let stay : All (R p) standing =
    All-weaker (R old) (R p) (λ s h. (h.0, (h.1.0, names_stay old w.bytes s.offset s.name h.1.0 h.1.1))) standing are in
    let come : (s : Suffix) → Contains w.suffixes s → R p s = λ s h.
    let c = (r.come_to_stand s).0 h in
    let S : ℕ → Type 0 = λ at. NameAt p at s.name (length p) in
    let T : List ℕ → Type 0 = λ n. NameAt p (length old + length (label_bytes c.0)) n (length p) in
    (c.6, (length p, subst S (sym c.5) (subst T (sym c.4) (from c.0 c.1 c.2)))) in (
      subst P (sym r.is_all) (subst Q (add-zero (length old)) (from [] r.labels refl)),
      All-append (R p) standing w.suffixes stay (All-weaker (Contains w.suffixes) (R p) come w.suffixes (All-contains_itself w.suffixes)),
    )

-- a name that is written is read as itself, and so are the suffixes that come to stand
pub written_names_are_read : WrittenNamesAreRead
written_names_are_read bytes standing name new_bytes new_standing are is written =
    let w : Written = name_piece name standing (length bytes) in
    let read = written_is_read bytes standing name w are is (names_are_written_by_rule standing (length bytes) name is) in
    let P : List ℕ → Type 0 = λ p. NameAt p (length bytes) name (length p) × SuffixesAreRead p (standing ++ w.suffixes) in
    let Q : List Suffix → Type 0 = λ standing. NameAt new_bytes (length bytes) name (length new_bytes) × SuffixesAreRead new_bytes standing in
    subst Q (sym written.suffixes) (subst P (sym written.bytes) read)
