-- A record that the rules read after others of its section is the one that is read.
use Rattle.std.proofs.Common.{◌≡◌, ℕ, ◌+◌, ◌≤◌, true, false, List, length, Ok, Err, ◌⊎◌, inl, inr, refl, ap, sym, ◌∙◌, subst, arith}
use Rattle.std.proofs.lemmas.Bool.{cases_lt, le-ltb, lt-ltb}
use Rattle.cd_name.specs.Names.{NameAt}
use Rattle.cd_name.proofs.Names.{names_are_names}
use Rattle.cd_message.specs.declared.message.MsgWhy.{MsgWhy}
use Rattle.cd_message.specs.declared.message.MsgWhy.TheVariants.{Short, Opt}
use Rattle.cd_message.specs.declared.message.Rr.{Rr}
use Rattle.cd_bytes.specs.Numbers.{be16, be32}
use Rattle.cd_message.specs.Messages.{why_of, breaks_opt_rule, record_after_owner, record_at}
use Rattle.cd_message.specs.Rules.{ReadsRdata, ReadsRecord, BreaksOptRule, BreaksRecord, record_owner, record_fields, record_opt, rdata_bytes, record_rdata}
use Rattle.cd_message.proofs.NamesByRules.{name_or_rule, name_is_read, name_is_broken}
use Rattle.cd_message.proofs.RdataByRules.{rdata_by_rules}
use Rattle.cd_message.proofs.OptRule.{opt_still_allowed, test_of_rule, test_of_kept, test_of_broken}

-- the record whose owner ends at an offset
abbrev record_of : List ℕ → List ℕ → ℕ → List ℕ → Rr
record_of p owner at rdata = record {
  owner = owner;
  rtype = be16 at p;
  rclass = be16 (at + 2) p;
  ttl = be32 (at + 4) p;
  rdata = rdata;
}

-- the offset after that record
abbrev record_end : List ℕ → ℕ → ℕ
record_end p at = at + 10 + be16 (at + 8) p

-- the test of an OPT record does not hold of a name that keeps the rule
opt_is_kept : (p : List ℕ) (opts : ℕ) (before : List Rr) (rtype at : ℕ) (owner : List ℕ) (next : ℕ) → NameAt p at owner next → (BreaksOptRule opts before rtype owner → ⊥) →
    breaks_opt_rule (opt_still_allowed opts before) rtype owner ≡ false
opt_is_kept p opts before rtype at owner next named kept =
    test_of_kept opts before rtype owner (test_of_rule opts before rtype owner (names_are_names p at owner next named).0) kept

-- the test holds of a name that breaks the rule
opt_is_broken : (p : List ℕ) (opts : ℕ) (before : List Rr) (rtype at : ℕ) (owner : List ℕ) (next : ℕ) → NameAt p at owner next → BreaksOptRule opts before rtype owner →
    breaks_opt_rule (opt_still_allowed opts before) rtype owner ≡ true
opt_is_broken p opts before rtype at owner next named breaks =
    test_of_broken opts before rtype owner (test_of_rule opts before rtype owner (names_are_names p at owner next named).0) breaks

-- a record is read by its parts
parts_are_read : (p : List ℕ) (opts : ℕ) (before : List Rr) (at : ℕ) (owner : List ℕ) (next : ℕ) (rdata : List ℕ) → NameAt p at owner next → record_end p next ≤ length p →
    (BreaksOptRule opts before (be16 next p) owner → ⊥) → ReadsRdata p (be16 next p) (next + 10) (record_end p next) rdata →
    record_at p (opt_still_allowed opts before) at ≡ Ok (record_of p owner next rdata, record_end p next)
unfolding record_at record_after_owner
parts_are_read p opts before at owner next rdata named there kept reads =
    let name = name_is_read p at owner next named in
    let opt = opt_is_kept p opts before (be16 next p) at owner next named kept in
    let read = (rdata_by_rules p (be16 next p) (next + 10) (record_end p next) there).read rdata reads in
    rw (name, le-ltb (length p) (next + 10) (omega arith), opt, le-ltb (length p) (record_end p next) there, read) refl

-- a record with the same parts, and the same offset after it
same_record : (x : Rr × ℕ) (rtype rclass ttl next : ℕ) → rtype ≡ x.0.rtype → rclass ≡ x.0.rclass → ttl ≡ x.0.ttl → next ≡ x.1 →
    (record { owner = x.0.owner; rtype = rtype; rclass = rclass; ttl = ttl; rdata = x.0.rdata }, next) ≡ x
same_record x rtype rclass ttl next h k m n = rw (h, k, m, n) refl

-- a record that the rules read, and that keeps the rule of OPT records, is read
pub record_is_read : (p : List ℕ) (opts : ℕ) (before : List Rr) (at : ℕ) (x : Rr × ℕ) → ReadsRecord p at x.0 x.1 → (BreaksOptRule opts before x.0.rtype x.0.owner → ⊥) →
    record_at p (opt_still_allowed opts before) at ≡ Ok x
record_is_read p opts before at x h kept =
    let typed : ReadsRdata p (be16 h.owner_end p) (h.owner_end + 10) x.1 x.0.rdata =
    subst (λ t. ReadsRdata p t (h.owner_end + 10) x.1 x.0.rdata) h.is_type h.has_rdata in
    let reads : ReadsRdata p (be16 h.owner_end p) (h.owner_end + 10) (record_end p h.owner_end) x.0.rdata =
    subst (λ k. ReadsRdata p (be16 h.owner_end p) (h.owner_end + 10) k x.0.rdata) h.ends typed in
    let read = parts_are_read p opts before at x.0.owner h.owner_end x.0.rdata h.is_owned (omega (arith, h.is_there, h.ends))
    (subst (λ t. BreaksOptRule opts before t x.0.owner → ⊥) h.is_type kept) reads in
    read ∙ ap Ok (same_record x (be16 h.owner_end p) (be16 (h.owner_end + 2) p) (be32 (h.owner_end + 4) p) (record_end p h.owner_end)
    (sym h.is_type) (sym h.is_class) (sym h.is_ttl) (sym h.ends))

-- a rule that the rules say a record breaks is broken
pub record_is_broken : (p : List ℕ) (opts : ℕ) (why : MsgWhy) (before : List Rr) (at : ℕ) → BreaksRecord p opts why before at →
    record_at p (opt_still_allowed opts before) at ≡ Err why
unfolding record_at record_after_owner
record_is_broken p opts why before at (record_owner broken h told) = rw (name_is_broken p at broken h) (ap Err (sym told))
record_is_broken p opts why before at (record_fields owner next named cut told) =
    rw (name_is_read p at owner next named, lt-ltb (length p) (next + 10) cut) (ap Err (sym told))
record_is_broken p opts why before at (record_opt owner next named there breaks told) =
    rw (name_is_read p at owner next named, le-ltb (length p) (next + 10) there, opt_is_broken p opts before (be16 next p) at owner next named breaks) (ap Err (sym told))
record_is_broken p opts why before at (rdata_bytes owner next named there kept cut told) =
    rw (name_is_read p at owner next named, le-ltb (length p) (next + 10) there, opt_is_kept p opts before (be16 next p) at owner next named kept, lt-ltb (length p) (record_end p next) cut)
    (ap Err (sym told))
record_is_broken p opts why before at (record_rdata owner next named kept there breaks) =
    let broken = (rdata_by_rules p (be16 next p) (next + 10) (record_end p next) there).broken why breaks in
    rw (
      name_is_read p at owner next named,
      le-ltb (length p) (next + 10) (omega arith),
      opt_is_kept p opts before (be16 next p) at owner next named kept,
      le-ltb (length p) (record_end p next) there,
      broken,
    )
    refl

-- one of the two holds
abbrev pub RecordAnswer : List ℕ → ℕ → List Rr → ℕ → Type 0
RecordAnswer p opts before at =
    ((x : Rr × ℕ) × ReadsRecord p at x.0 x.1 × (BreaksOptRule opts before x.0.rtype x.0.owner → ⊥)) ⊎ ((why : MsgWhy) × BreaksRecord p opts why before at)

-- the rules have an answer on a record whose bytes are there
there_answer : (p : List ℕ) (opts : ℕ) (before : List Rr) (at : ℕ) (owner : List ℕ) (next : ℕ) → NameAt p at owner next → record_end p next ≤ length p →
    (BreaksOptRule opts before (be16 next p) owner → ⊥) → RecordAnswer p opts before at
there_answer p opts before at owner next named there kept =
    elim (rdata_by_rules p (be16 next p) (next + 10) (record_end p next) there).answer [
      | inr a ↦ inr (a.0, record_rdata owner next named kept there a.1)
      | inl a ↦
          inl (
            (record_of p owner next a.0, record_end p next),
            record { owner_end = next; is_owned = named; is_type = refl; is_class = refl; is_ttl = refl; ends = refl; is_there = there; has_rdata = a.1 },
            kept,
          )
    ]

-- the rules have an answer on a record after its owner
after_owner_answer : (p : List ℕ) (opts : ℕ) (before : List Rr) (at : ℕ) (owner : List ℕ) (next : ℕ) → NameAt p at owner next → RecordAnswer p opts before at
after_owner_answer p opts before at owner next named =
    elim (cases_lt (length p) (next + 10)) [
      | inl cut ↦ inr (Short, record_fields owner next named cut refl)
      | inr there ↦
          elim (test_of_rule opts before (be16 next p) owner (names_are_names p at owner next named).0) [
            | inl opt ↦ inr (Opt, record_opt owner next named there opt.1 refl)
            | inr opt ↦
                elim (cases_lt (length p) (record_end p next)) [
                  | inl cut ↦ inr (Short, rdata_bytes owner next named there opt.1 cut refl)
                  | inr all ↦ there_answer p opts before at owner next named all opt.1
                ]
          ]
    ]

-- the rules have an answer on a record
pub record_answer : (p : List ℕ) (opts : ℕ) (before : List Rr) (at : ℕ) → RecordAnswer p opts before at
record_answer p opts before at =
    elim (name_or_rule p at) [
      | inr owner ↦ inr (why_of owner.0, record_owner owner.0 owner.1 refl)
      | inl owner ↦ after_owner_answer p opts before at owner.0.0 owner.0.1 owner.1
    ]
