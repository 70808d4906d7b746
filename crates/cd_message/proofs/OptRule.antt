-- The rule of OPT records, of the records before and of the test that a reading makes.
use Rattle.std.proofs.Common.{◌≡◌, ◌≢◌, ℕ, ◌+◌, ◌≤◌, Bool, true, false, ◌&&◌, not, List, [], ◌∷◌, ◌++◌, length, get_or, nat_lt, ◌⊎◌, inl, inr, refl, sym, subst, ap, arith}
use Rattle.std.specs.List.{All, count_by}
use Rattle.std.proofs.lemmas.Bool.{cases_eq, cases_lt, le-ltb, lt-ltb, eq-eqb, ne_eqb}
use Rattle.std.proofs.lemmas.List.Elements.{All-nil, All-push, All-take, All-drop, All-head}
use Rattle.std.proofs.lemmas.List.Sums.{sum_by-append, sum_by-cons}
use Rattle.std.proofs.Math.Seq.{drop-append_seam, take-append_seam}
use Rattle.cd_name.specs.Names.{IsName}
use Rattle.cd_message.specs.declared.message.Rr.{Rr}
use Rattle.cd_message.specs.declared.message.TheConstants.{OPT}
use Rattle.cd_message.specs.Messages.{breaks_opt_rule, opt_allowed_after}
use Rattle.cd_message.specs.Rules.{KeepsOptRule, BreaksOptRule}
use Rattle.cd_message.specs.Valid.{is_opt}
use Rattle.cd_message.proofs.Valid.{one_byte_is_root, opts_of}

-- an OPT record is the root's
abbrev OfRoot : Rr → Type 0
OfRoot r = r.rtype ≡ OPT → r.owner ≡ 0 ∷ []

-- whether an OPT record is allowed after some records of a section that may hold so many
abbrev pub opt_still_allowed : ℕ → List Rr → Bool
opt_still_allowed opts before = nat_lt (count_by is_opt before) opts

-- OPT records, with one record more
count_more : (before : List Rr) (r : Rr) → count_by is_opt (before ++ r ∷ []) ≡ count_by is_opt before + opts_of r
count_more before r = omega (arith, sum_by-append opts_of before (r ∷ []), sum_by-cons opts_of r [])

-- no records keep the rule
pub keeps_none : (opts : ℕ) → KeepsOptRule opts []
keeps_none opts = record { few = omega arith; of_root = All-nil OfRoot }

-- the first of some records that keep the rule keep it
pub keeps_front : (opts : ℕ) (before more : List Rr) → KeepsOptRule opts (before ++ more) → KeepsOptRule opts before
keeps_front opts before more k = record {
  few = omega (arith, sum_by-append opts_of before more, k.few);
  of_root = subst (λ t. All OfRoot t) (take-append_seam before more) (All-take OfRoot (length before) (before ++ more) k.of_root);
}

-- an OPT record counts as one
counts_one : (r : Rr) → is_opt r ≡ true → opts_of r ≡ 1
counts_one r is = rw is refl

-- another record does not count
counts_none : (r : Rr) → is_opt r ≡ false → opts_of r ≡ 0
counts_none r is = rw is refl

-- after few OPT records, one more record that does not break the rule leaves them few
few_more : (opts : ℕ) (before : List Rr) (r : Rr) → count_by is_opt before ≤ opts → (BreaksOptRule opts before r.rtype r.owner → ⊥) →
    count_by is_opt (before ++ r ∷ []) ≤ opts
few_more opts before r few kept =
    elim (cases_eq r.rtype OPT) [
      | inr other ↦ omega (arith, count_more before r, counts_none r (ne_eqb r.rtype OPT other))
      | inl opt ↦
          elim (cases_lt (count_by is_opt before) opts) [
            | inr much ↦ absurd (kept (opt, inl much))
            | inl fewer ↦ omega (arith, count_more before r, counts_one r (eq-eqb r.rtype OPT opt))
          ]
    ]

-- a name is the root or not
root_or_not : (name : List ℕ) → (name ≡ 0 ∷ []) ⊎ (name ≢ 0 ∷ [])
root_or_not [] = inr (λ e. cc)
root_or_not (n ∷ []) = elim (cases_eq n 0) [ inl e ↦ inl (ap (λ k. k ∷ []) e) | inr other ↦ inr (λ e. other (ap (λ t. get_or t 0 0) e)) ]
root_or_not (n ∷ m ∷ bytes) = inr (λ e. cc)

-- an OPT record that does not break the rule is the root's
root_more : (opts : ℕ) (before : List Rr) (r : Rr) → (BreaksOptRule opts before r.rtype r.owner → ⊥) → OfRoot r
root_more opts before r kept opt = elim (root_or_not r.owner) [ inl root ↦ root | inr odd ↦ absurd (kept (opt, inr odd)) ]

-- after records that keep the rule a record that does not break it keeps it
pub keeps_more : (opts : ℕ) (before : List Rr) (r : Rr) → KeepsOptRule opts before → (BreaksOptRule opts before r.rtype r.owner → ⊥) → KeepsOptRule opts (before ++ r ∷ [])
keeps_more opts before r k kept = record {
  few = few_more opts before r k.few kept;
  of_root = All-push OfRoot before r k.of_root (root_more opts before r kept);
}

-- the last of some records that keep the rule does not break it
pub keeps_last : (opts : ℕ) (before : List Rr) (r : Rr) → KeepsOptRule opts (before ++ r ∷ []) → BreaksOptRule opts before r.rtype r.owner → ⊥
keeps_last opts before r k (opt, inl much) = omega (arith, count_more before r, counts_one r (eq-eqb r.rtype OPT opt), k.few)
keeps_last opts before r k (opt, inr odd) =
    odd (All-head OfRoot r [] (subst (λ t. All OfRoot t) (drop-append_seam before (r ∷ [])) (All-drop OfRoot (length before) (before ++ r ∷ []) k.of_root)) opt)

-- the test holds and the rule is broken, or neither
abbrev TestOfRule : ℕ → List Rr → ℕ → List ℕ → Type 0
TestOfRule opts before rtype owner =
    ((breaks_opt_rule (opt_still_allowed opts before) rtype owner ≡ true) × BreaksOptRule opts before rtype owner)
    ⊎ ((breaks_opt_rule (opt_still_allowed opts before) rtype owner ≡ false) × (BreaksOptRule opts before rtype owner → ⊥))

-- the test tells whether the rule is broken
pub test_of_rule : (opts : ℕ) (before : List Rr) (rtype : ℕ) (owner : List ℕ) → IsName owner → TestOfRule opts before rtype owner
test_of_rule opts before rtype owner is =
    elim (cases_eq rtype OPT) [
      | inr other ↦ inr (rw (ne_eqb rtype OPT other) refl, λ breaks. other breaks.0)
      | inl opt ↦
          elim (cases_lt (count_by is_opt before) opts) [
            | inr much ↦ inl (rw (eq-eqb rtype OPT opt, le-ltb (count_by is_opt before) opts much) refl, (opt, inl much))
            | inl few ↦
                elim (cases_lt 1 (length owner)) [
                  | inl long ↦ inl (rw (eq-eqb rtype OPT opt, lt-ltb (count_by is_opt before) opts few, lt-ltb 1 (length owner) long) refl, (opt, inr (λ e. omega (arith, ap length e))))
                  | inr one ↦
                      (let short = le-ltb 1 (length owner) one in
                      inr (
                        rw (eq-eqb rtype OPT opt, lt-ltb (count_by is_opt before) opts few, short) refl,
                        λ breaks. elim breaks.1 [ inl much ↦ omega arith | inr odd ↦ odd (one_byte_is_root owner is short) ],
                      ))
                ]
          ]
    ]

-- where the rule is not broken the test does not hold
pub test_of_kept : (opts : ℕ) (before : List Rr) (rtype : ℕ) (owner : List ℕ) → TestOfRule opts before rtype owner → (BreaksOptRule opts before rtype owner → ⊥) →
    breaks_opt_rule (opt_still_allowed opts before) rtype owner ≡ false
test_of_kept opts before rtype owner (inl test) kept = absurd (kept test.1)
test_of_kept opts before rtype owner (inr test) kept = test.0

-- where the rule is broken the test holds
pub test_of_broken : (opts : ℕ) (before : List Rr) (rtype : ℕ) (owner : List ℕ) → TestOfRule opts before rtype owner → BreaksOptRule opts before rtype owner →
    breaks_opt_rule (opt_still_allowed opts before) rtype owner ≡ true
test_of_broken opts before rtype owner (inl test) breaks = test.0
test_of_broken opts before rtype owner (inr test) breaks = absurd (test.1 breaks)

-- a test that holds no more after one record, and stays as it was after another
test_after : (allowed is next : Bool) → (is ≡ true → next ≡ false) → (is ≡ false → next ≡ allowed) → (allowed && not is) ≡ next
test_after true true next never stays = sym (never refl)
test_after true false next never stays = sym (stays refl)
test_after false true next never stays = sym (never refl)
test_after false false next never stays = sym (stays refl)

-- In a section that may hold one OPT record at most, one is allowed after a record where it was allowed before and the record is none.
pub opt_allowed_next : (opts : ℕ) → opts ≤ 1 → (before : List Rr) (r : Rr) →
    opt_allowed_after (opt_still_allowed opts before) r ≡ opt_still_allowed opts (before ++ r ∷ [])
opt_allowed_next opts one before r =
    test_after (opt_still_allowed opts before) (is_opt r) (opt_still_allowed opts (before ++ r ∷ []))
    (λ is. le-ltb (count_by is_opt (before ++ r ∷ [])) opts (omega (arith, count_more before r, counts_one r is)))
    (λ is. (let same : count_by is_opt (before ++ r ∷ []) ≡ count_by is_opt before = omega (arith, count_more before r, counts_none r is) in ap (λ k. nat_lt k opts) same))
