-- A name is written by the rule.
use Rattle.std.proofs.Common.{◌≡◌, ◌≢◌, ◌↔◌, ℕ, ◌+◌, ◌<◌, List, [], ◌∷◌, ◌++◌, inl, inr, Option, Some, None, length, get_or, refl, ap, sym, ◌∙◌, subst, arith, append_assoc, length-append}
use Rattle.std.specs.List.{Contains, AllByRecursion}
use Rattle.std.proofs.lemmas.List.Elements.{Contains-append_left, Contains-append_right, Contains-append_cases}
use Rattle.cd_name.specs.NameLaws.{IsLabel, label_bytes}
use Rattle.cd_name.specs.WrittenNames.{Suffix, Written, least_offset, pointer_to, suffix_at, only_bytes, name_from, StandsAt, IsLeastOffset, IsWrittenByRule, NamesAreWrittenByRule}
use Rattle.cd_name.proofs.LeastOffsets.{IsLeast, least_is_least}
use Rattle.cd_name.proofs.WrittenSteps.{suffix_at_has, suffix_at_only, written_before, name_from-label, name_from-standing}
use Rattle.cd_name.proofs.Spelled.{names_are_labels}

-- no label stands after no labels
no_label_after : (front after : List (List ℕ)) → [] ≡ front ++ after → after ≢ [] → ⊥
no_label_after [] after e some = some (sym e)
no_label_after (f ∷ fs) after e some = cc

-- where a suffix comes to stand of labels that are written at an offset before another suffix
abbrev ComesToStand : ℕ → List (List ℕ) → List ℕ → Suffix → Type 0
ComesToStand at labels suffix s =
    (front : List (List ℕ)) × (after : List (List ℕ)) × (labels ≡ front ++ after) × (after ≢ []) × (s.name ≡ label_bytes after ++ suffix) ×
    (s.offset ≡ at + length (label_bytes front)) × (s.offset < 16384)

-- none comes to stand where no label is written
none_comes_to_stand : (at : ℕ) (suffix : List ℕ) (s : Suffix) → Contains [] s ↔ ComesToStand at [] suffix s
none_comes_to_stand at suffix s = (λ h. absurd (omega (arith, h.1)), λ c. absurd (no_label_after c.0 c.1 c.2 c.3))

-- a root is written by the rule
root_by_rule : (standing : List Suffix) (at : ℕ) → IsWrittenByRule standing at (0 ∷ []) (name_from standing at 0 (0 ∷ []))
unfolding name_from
root_by_rule standing at = record {
  labels = [];
  suffix = 0 ∷ [];
  are_labels = tt;
  is_all = refl;
  is_longest = λ front after offset e some h. no_label_after front after e some;
  ends = inl (refl, refl);
  come_to_stand = none_comes_to_stand at (0 ∷ []);
}

-- a pointer to a suffix that stands is written by the rule
pointer_by_rule : (standing : List Suffix) (at n : ℕ) (bytes : List ℕ) (offset : ℕ) → 0 < n → IsLeastOffset standing (n ∷ bytes) offset →
    IsWrittenByRule standing at (n ∷ bytes) (only_bytes (pointer_to offset))
pointer_by_rule standing at n bytes offset some least = record {
  labels = [];
  suffix = n ∷ bytes;
  are_labels = tt;
  is_all = refl;
  is_longest = λ front after offset e some h. no_label_after front after e some;
  ends = inr (offset, λ e. absurd (omega (arith, ap (λ bs. get_or bs 0 0) e)), least, refl);
  come_to_stand = none_comes_to_stand at (n ∷ bytes);
}

-- no longer suffix stands, with one label more
longest_with_label : (standing : List Suffix) (l : List ℕ) (ls : List (List ℕ)) (suffix : List ℕ) →
    ((offset : ℕ) → StandsAt standing (label_bytes (l ∷ ls) ++ suffix) offset → ⊥) →
    ((front after : List (List ℕ)) (offset : ℕ) → ls ≡ front ++ after → after ≢ [] → StandsAt standing (label_bytes after ++ suffix) offset → ⊥) →
    (front after : List (List ℕ)) (offset : ℕ) → l ∷ ls ≡ front ++ after → after ≢ [] → StandsAt standing (label_bytes after ++ suffix) offset → ⊥
longest_with_label standing l ls suffix none longest [] after offset e some h =
    let P : List (List ℕ) → Type 0 = λ labels. StandsAt standing (label_bytes labels ++ suffix) offset in
    none offset (subst P (sym e) h)
longest_with_label standing l ls suffix none longest (f ∷ fs) after offset e some h = longest fs after offset (cc) some h

-- what stands with one label more comes to stand there
comes_with_label : (at : ℕ) (l : List ℕ) (ls : List (List ℕ)) (suffix : List ℕ) (others : List Suffix) (s : Suffix) →
    (Contains others s → ComesToStand (at + length (length l ∷ l)) ls suffix s) → Contains (suffix_at (label_bytes (l ∷ ls) ++ suffix) at ++ others) s →
    ComesToStand at (l ∷ ls) suffix s
comes_with_label at l ls suffix others s deeper h =
    elim (Contains-append_cases (suffix_at (label_bytes (l ∷ ls) ++ suffix) at) others s h) [
      | inl here ↦
          let o = suffix_at_only s (label_bytes (l ∷ ls) ++ suffix) at here in
          ([], l ∷ ls, refl, λ e. cc, o.0, omega (arith, o.1), o.2)
      | inr later ↦
          let d = deeper later in
          (l ∷ d.0, d.1, ap (λ labels. l ∷ labels) d.2, d.3, d.4, omega (arith, d.5, length-append (length l ∷ l) (label_bytes d.0)), d.6)
    ]

-- what comes to stand with one label more stands there
has_with_label : (at : ℕ) (l : List ℕ) (ls : List (List ℕ)) (suffix : List ℕ) (others : List Suffix) (s : Suffix) →
    (ComesToStand (at + length (length l ∷ l)) ls suffix s → Contains others s) →
    (front after : List (List ℕ)) → l ∷ ls ≡ front ++ after → after ≢ [] → s.name ≡ label_bytes after ++ suffix → s.offset ≡ at + length (label_bytes front) →
    s.offset < 16384 → Contains (suffix_at (label_bytes (l ∷ ls) ++ suffix) at ++ others) s
has_with_label at l ls suffix others s deeper [] after e some n o near =
    Contains-append_left (suffix_at (label_bytes (l ∷ ls) ++ suffix) at) others s
    (suffix_at_has s (label_bytes (l ∷ ls) ++ suffix) at (n ∙ ap (λ labels. label_bytes labels ++ suffix) (sym e)) (omega (arith, o)) near)
has_with_label at l ls suffix others s deeper (f ∷ fs) after e some n o near =
    let same : l ≡ f = cc in
    let size : length (length l ∷ l) ≡ length (length f ∷ f) = ap (λ (t : List ℕ). length (length t ∷ t)) same in
    Contains-append_right (suffix_at (label_bytes (l ∷ ls) ++ suffix) at) others s
    (deeper (fs, after, cc, some, n, omega (arith, o, size, length-append (length f ∷ f) (label_bytes fs)), near))

-- a label before what is written by the rule is written by the rule
label_by_rule : (standing : List Suffix) (at : ℕ) (l more : List ℕ) (w : Written) → IsLabel l → IsLeast standing ((length l ∷ l) ++ more) None →
    IsWrittenByRule standing (at + length (length l ∷ l)) more w →
    IsWrittenByRule standing at ((length l ∷ l) ++ more) (written_before (length l ∷ l) (suffix_at ((length l ∷ l) ++ more) at) w)
label_by_rule standing at l more w is none r =
    let first : List ℕ = length l ∷ l in
    let whole : first ++ more ≡ label_bytes (l ∷ r.labels) ++ r.suffix = ap (λ t. first ++ t) r.is_all ∙ sym (append_assoc first (label_bytes r.labels) r.suffix) in
    let P : List ℕ → Type 0 = λ name. (offset : ℕ) → StandsAt standing name offset → ⊥ in
    let Q : List ℕ → Type 0 = λ name. (s : Suffix) → Contains (suffix_at name at ++ w.suffixes) s ↔ ComesToStand at (l ∷ r.labels) r.suffix s in
    record {
      labels = l ∷ r.labels;
      suffix = r.suffix;
      are_labels = (is, r.are_labels);
      is_all = whole;
      is_longest = longest_with_label standing l r.labels r.suffix (subst P whole none) r.is_longest;
      ends = elim r.ends [
        | inl e ↦ inl (e.0, ap (λ t. first ++ t) e.1)
        | inr e ↦ inr (e.0, e.1, e.2, ap (λ t. first ++ t) e.3 ∙ sym (append_assoc first (label_bytes r.labels) (pointer_to e.0)))
      ];
      come_to_stand = subst Q (sym whole) (λ s. (
        comes_with_label at l r.labels r.suffix w.suffixes s (r.come_to_stand s).0,
        λ c. has_with_label at l r.labels r.suffix w.suffixes s (r.come_to_stand s).1 c.0 c.1 c.2 c.3 c.4 c.5 c.6,
      ));
    }

-- what begins with a label is written by the rule if what is after the label is
label_or_pointer : (standing : List Suffix) (at : ℕ) (l more : List ℕ) (found : Option ℕ) → least_offset standing ((length l ∷ l) ++ more) ≡ found →
    IsLeast standing ((length l ∷ l) ++ more) found → IsLabel l →
    IsWrittenByRule standing (at + length (length l ∷ l)) more (name_from standing (at + length (length l ∷ l)) 0 more) →
    IsWrittenByRule standing at ((length l ∷ l) ++ more) (name_from standing at 0 ((length l ∷ l) ++ more))
label_or_pointer standing at l more None e least is r =
    let P : Written → Type 0 = λ w. IsWrittenByRule standing at ((length l ∷ l) ++ more) w in
    subst P (sym (name_from-label standing at l more is.0 e)) (label_by_rule standing at l more _ is least r)
label_or_pointer standing at l more (Some offset) e least is r =
    let P : Written → Type 0 = λ w. IsWrittenByRule standing at ((length l ∷ l) ++ more) w in
    subst P (sym (name_from-standing standing at (length l) offset (l ++ more) is.0 e)) (pointer_by_rule standing at (length l) (l ++ more) offset is.0 least)

-- labels and the root are written by the rule
by_rule : (labels : List (List ℕ)) (standing : List Suffix) (at : ℕ) → AllByRecursion IsLabel labels →
    IsWrittenByRule standing at (label_bytes labels ++ 0 ∷ []) (name_from standing at 0 (label_bytes labels ++ 0 ∷ []))
by_rule [] standing at are = root_by_rule standing at
by_rule (l ∷ ls) standing at are =
    let more : List ℕ = label_bytes ls ++ 0 ∷ [] in
    let name : List ℕ = (length l ∷ l) ++ more in
    let P : List ℕ → Type 0 = λ n. IsWrittenByRule standing at n (name_from standing at 0 n) in
    subst P (sym (append_assoc (length l ∷ l) (label_bytes ls) (0 ∷ [])))
    (label_or_pointer standing at l more (least_offset standing name) refl (least_is_least standing name) are.0 (by_rule ls standing (at + length (length l ∷ l)) are.1))

-- each name is written by the rule
pub names_are_written_by_rule : NamesAreWrittenByRule
names_are_written_by_rule standing at name is =
    let s = (names_are_labels name).0 is in
    let P : List ℕ → Type 0 = λ n. IsWrittenByRule standing at n (name_from standing at 0 n) in
    subst P (sym s.2) (by_rule s.0 standing at s.1)
