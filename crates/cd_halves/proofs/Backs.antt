-- Questions and resource records, kept whole and rendered again.
use Rattle.std.proofs.Common.{◌≡◌, ℕ, ◌^◌, ◌<◌, Bool, true, false, cond, not, ◌&&◌, nat_eq, List, [], ◌∷◌, ◌++◌, map, length, drop, Some, None, refl, sym, ap, ◌∙◌, mod-eq_of_lt, arith, inl, inr}
use Rattle.std.specs.Prelude.{slice_get, if◌then◌else◌}
use Rattle.std.specs.List.{All, AllByRecursion, filter, find}
use Rattle.std.proofs.lemmas.Bool.{cases_Bool, eqb-true}
use Rattle.std.proofs.lemmas.List.Elements.{All-head, All-tail, All-filter, filter_passes}
use Rattle.cd_block.specs.declared.kept.KeptQuestion.{KeptQuestion}
use Rattle.cd_hints.specs.Lists.{is_listed_record, kept_question, kept_rr, without_opt}
use Rattle.cd_hints.specs.Settings.{default_hints}
use Rattle.cd_message.specs.Valid.{is_opt}
use Rattle.cd_message.specs.WrittenLaws.{RecordNumbersFit}
use Rattle.cd_message.specs.declared.message.Question.{Question}
use Rattle.cd_message.specs.declared.message.Rr.{Rr}
use Rattle.cd_rebuild.specs.Messages.{question_of, record_of, records_of}
use Rattle.cd_halves.specs.PlainHalves.{AllListed}

-- questions come back
questions_back : (qs : List Question) → map question_of (map kept_question qs) ≡ qs
questions_back [] = refl
questions_back (q ∷ qs) = ap (λ rest. q ∷ rest) (questions_back qs)

-- the questions of a half come back, by what its flag tells
pub all_questions : (b : Bool) (lead : Question) (further : List KeptQuestion) (qs : List Question) → b ≡ nat_eq (length qs) 0 →
    further ≡ map kept_question (drop 1 qs) → ((q : Question) → slice_get qs 0 ≡ Some q → lead ≡ q) →
    (if b then [] else lead ∷ []) ++ map question_of further ≡ qs
all_questions b lead further [] told is first = rw (told, is) refl
all_questions true lead further (q ∷ qs) told is first = let none : length (q ∷ qs) ≡ 0 = eqb-true (length (q ∷ qs)) 0 (sym told) in absurd (omega (arith, none))
all_questions false lead further (q ∷ qs) told is first =
    ap (λ fs. lead ∷ map question_of fs) is ∙ ap (λ x. x ∷ map question_of (map kept_question qs)) (first q refl) ∙ ap (λ rest. q ∷ rest) (questions_back qs)

-- a resource record is kept whole and stands in the message
record Comes (types : List ℕ) (b : Bool) (r : Rr) : Type 0 where
  listed : is_listed_record types r ≡ true
  fits : r.ttl < 2 ^ 32
  rendered : not (b && is_opt r) ≡ true

-- a resource record comes back
record_back : (r : Rr) → r.ttl < 2 ^ 32 → record_of (kept_rr default_hints r) ≡ r
record_back r fits =
    let with_ttl : ℕ → Rr = λ n. record { owner = r.owner; rtype = r.rtype; rclass = r.rclass; ttl = n; rdata = r.rdata } in
    ap with_ttl (mod-eq_of_lt fits)

-- resource records come back
come_back : (types : List ℕ) (b : Bool) (rs : List Rr) → AllByRecursion (Comes types b) rs →
    records_of b (map (kept_rr default_hints) (filter (is_listed_record types) rs)) ≡ rs
come_back types b [] all = refl
come_back types b (r ∷ rs) all = rw (all.0.listed, all.0.rendered)
    (ap (λ x. x ∷ records_of b (map (kept_rr default_hints) (filter (is_listed_record types) rs))) (record_back r all.0.fits) ∙ ap (λ rest. r ∷ rest) (come_back types b rs all.1))

-- each of some resource records, of which no OPT record is told apart
each_plain : (types : List ℕ) (rs : List Rr) → AllListed types rs → All RecordNumbersFit rs → AllByRecursion (Comes types false) rs
each_plain types [] listed fit = tt
each_plain types (r ∷ rs) listed fit =
    let P : Rr → Type 0 = λ x. is_listed_record types x ≡ true in (
      record { listed = All-head P r rs listed; fits = (All-head RecordNumbersFit r rs fit).2; rendered = refl },
      each_plain types rs (All-tail P r rs listed) (All-tail RecordNumbersFit r rs fit),
    )

-- the resource records of a list come back
pub plain_back : (types : List ℕ) (rs : List Rr) → AllListed types rs → All RecordNumbersFit rs →
    records_of false (map (kept_rr default_hints) (filter (is_listed_record types) rs)) ≡ rs
plain_back types rs listed fit = come_back types false rs (each_plain types rs listed fit)

-- where a resource record is no OPT record, it stands in the message
rendered_other : (b : Bool) (r : Rr) → not (is_opt r) ≡ true → not (b && is_opt r) ≡ true
rendered_other true r other = other
rendered_other false r other = refl

-- each of some resource records that are no OPT records
each_other : (types : List ℕ) (b : Bool) (rs : List Rr) → AllListed types rs → All RecordNumbersFit rs → All (λ r. not (is_opt r) ≡ true) rs → AllByRecursion (Comes types b) rs
each_other types b [] listed fit other = tt
each_other types b (r ∷ rs) listed fit other =
    let P : Rr → Type 0 = λ x. is_listed_record types x ≡ true in
    let Q : Rr → Type 0 = λ x. not (is_opt x) ≡ true in (
      record { listed = All-head P r rs listed; fits = (All-head RecordNumbersFit r rs fit).2; rendered = rendered_other b r (All-head Q r rs other) },
      each_other types b rs (All-tail P r rs listed) (All-tail RecordNumbersFit r rs fit) (All-tail Q r rs other),
    )

-- the resource records that are no OPT records come back
pub other_back : (types : List ℕ) (b : Bool) (rs : List Rr) → AllListed types (without_opt rs) → All RecordNumbersFit rs →
    records_of b (map (kept_rr default_hints) (filter (is_listed_record types) (without_opt rs))) ≡ without_opt rs
other_back types b rs listed fit =
    let test : Rr → Bool = λ r. not (is_opt r) in
    come_back types b (without_opt rs) (each_other types b (without_opt rs) listed (All-filter test RecordNumbersFit rs fit) (filter_passes test rs))

-- where none is found, none is an OPT record
pub none_found : (rs : List Rr) → find is_opt rs ≡ None → without_opt rs ≡ rs
none_found [] none = refl
none_found (r ∷ rs) none = elim (cases_Bool (is_opt r)) [
  | inl opt ↦ absurd (found_not r rs opt none)
  | inr other ↦ rw other (ap (λ rest. r ∷ rest) (none_found rs (rw other at none)))
]
  where
    found_not : (r : Rr) (rs : List Rr) → is_opt r ≡ true → cond (is_opt r) (Some r) (find is_opt rs) ≡ None → ⊥
    found_not r rs opt none = let e : Some r ≡ None = (rw opt at none) in absurd cc

-- what is found is an OPT record
pub found_opt : (rs : List Rr) (o : Rr) → find is_opt rs ≡ Some o → is_opt o ≡ true
found_opt [] o found = absurd cc
found_opt (r ∷ rs) o found = found_by r rs o (is_opt r) refl found (found_opt rs o)
  where
    found_by : (r : Rr) (rs : List Rr) (o : Rr) (b : Bool) → is_opt r ≡ b → cond b (Some r) (find is_opt rs) ≡ Some o → (find is_opt rs ≡ Some o → is_opt o ≡ true) → is_opt o ≡ true
    found_by r rs o true is found more = let same : r ≡ o = cc in ap is_opt (sym same) ∙ is
    found_by r rs o false is found more = more found

-- what is so of all of a list is so of its last element
pub at_last : (P : Rr → Type 0) (rs : List Rr) (o : Rr) → All P (rs ++ o ∷ []) → P o
at_last P [] o all = All-head P o [] all
at_last P (r ∷ rs) o all = at_last P rs o (All-tail P r (rs ++ o ∷ []) all)
