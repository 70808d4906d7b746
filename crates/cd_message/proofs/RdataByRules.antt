-- RDATA that the rules read is what is read.
use Rattle.std.proofs.Common.{◌≡◌, ◌≢◌, ℕ, ◌+◌, ◌-◌, ◌≤◌, List, [], ◌++◌, length, Option, None, Some, Ok, Err, ◌⊎◌, inl, inr, refl, ap, sym}
use Rattle.std.specs.List.{concat}
use Rattle.std.proofs.lemmas.Bool.{cases_eq, cases_lt, le-ltb, lt-ltb, eq-eqb, ne_eqb}
use Rattle.cd_message.specs.declared.message.MsgWhy.{MsgWhy}
use Rattle.cd_message.specs.declared.message.MsgWhy.TheVariants.{Shape}
use Rattle.cd_message.specs.declared.shape.Shape as kind
use Rattle.cd_message.specs.Readings.{repeat}
use Rattle.cd_message.specs.Messages.{bytes_at, rdata_name, rdata_names, rdata_of_shape, rdata_at}
use Rattle.cd_message.specs.Shapes.{shape_of}
use Rattle.cd_message.specs.Rules.{ReadsEach, BreaksAmong, RdataNameAt, BreaksRdataName, ReadsRdata, empty, any_bytes, shaped, BreaksRdata, before_names, among_names, after_names}
use Rattle.cd_message.proofs.Decides.{Decides}
use Rattle.cd_message.proofs.EachByRules.{items_by_rules}
use Rattle.cd_message.proofs.RdataNames.{rdata_name_by_rules}

-- the rules decide what is read of the names in RDATA
names_by_rules : (p : List ℕ) (end : ℕ) → end ≤ length p → (count at : ℕ) →
    Decides (repeat (rdata_name p end) count at) (λ x. ReadsEach (RdataNameAt p end) count at x.0 x.1)
    (λ why. BreaksAmong (RdataNameAt p end) (λ before here. BreaksRdataName p end here why) count at)
names_by_rules p end there count at =
    items_by_rules (rdata_name p end) (RdataNameAt p end) (λ here why. BreaksRdataName p end here why) (λ here. rdata_name_by_rules p end here there) count at

-- RDATA that the rules read is read
rdata_is_read : (p : List ℕ) (rtype at end : ℕ) → end ≤ length p → (rdata : List ℕ) → ReadsRdata p rtype at end rdata → rdata_at rtype p at end ≡ Ok rdata
unfolding rdata_at rdata_of_shape rdata_names
rdata_is_read p rtype at end there rdata (empty e is) = rw (eq-eqb at end e) (ap Ok (sym is))
rdata_is_read p rtype at end there rdata (any_bytes apart none is) = rw (ne_eqb at end apart, none) (ap Ok (sym is))
rdata_is_read p rtype at end there rdata (shaped s names next apart some fits each filled is) =
    let read = (names_by_rules p end there s.names (at + s.before)).read (names, next) each in
    rw (ne_eqb at end apart, some, le-ltb end (at + s.before) fits, read, eq-eqb (next + s.after) end filled) (ap Ok (sym is))

-- a rule that the rules say RDATA breaks is broken
rdata_is_broken : (p : List ℕ) (rtype at end : ℕ) → end ≤ length p → (why : MsgWhy) → BreaksRdata p rtype at end why → rdata_at rtype p at end ≡ Err why
unfolding rdata_at rdata_of_shape rdata_names
rdata_is_broken p rtype at end there why (before_names s apart some cut told) =
    rw (ne_eqb at end apart, some, lt-ltb end (at + s.before) cut) (ap Err (sym told))
rdata_is_broken p rtype at end there why (among_names s apart some fits breaks) =
    let broken = (names_by_rules p end there s.names (at + s.before)).broken why breaks in
    rw (ne_eqb at end apart, some, le-ltb end (at + s.before) fits, broken) refl
rdata_is_broken p rtype at end there why (after_names s names next apart some fits each odd told) =
    let read = (names_by_rules p end there s.names (at + s.before)).read (names, next) each in
    rw (ne_eqb at end apart, some, le-ltb end (at + s.before) fits, read, ne_eqb (next + s.after) end odd) (ap Err (sym told))

-- one of the two holds
abbrev RdataAnswer : List ℕ → ℕ → ℕ → ℕ → Type 0
RdataAnswer p rtype at end = ((rdata : List ℕ) × ReadsRdata p rtype at end rdata) ⊎ ((why : MsgWhy) × BreaksRdata p rtype at end why)

-- the rules have an answer on RDATA with bytes
bytes_answer : (p : List ℕ) (rtype at end : ℕ) → end ≤ length p → at ≢ end → (o : Option kind.Shape) → shape_of rtype ≡ o → RdataAnswer p rtype at end
bytes_answer p rtype at end there apart None none = inl (bytes_at p at (end - at), any_bytes apart none refl)
bytes_answer p rtype at end there apart (Some s) some =
    elim (cases_lt end (at + s.before)) [
      | inl cut ↦ inr (Shape, before_names s apart some cut refl)
      | inr fits ↦
          elim (names_by_rules p end there s.names (at + s.before)).answer [
            | inr a ↦ inr (a.0, among_names s apart some fits a.1)
            | inl a ↦
                elim (cases_eq (a.0.1 + s.after) end) [
                  | inr odd ↦ inr (Shape, after_names s a.0.0 a.0.1 apart some fits a.1 odd refl)
                  | inl filled ↦
                      inl (bytes_at p at s.before ++ concat a.0.0 ++ bytes_at p a.0.1 s.after, shaped s a.0.0 a.0.1 apart some fits a.1 filled refl)
                ]
          ]
    ]

-- the rules have an answer on RDATA
rdata_answer : (p : List ℕ) (rtype at end : ℕ) → end ≤ length p → RdataAnswer p rtype at end
rdata_answer p rtype at end there =
    elim (cases_eq at end) [
      | inl e ↦ inl ([], empty e refl)
      | inr apart ↦ bytes_answer p rtype at end there apart (shape_of rtype) refl
    ]

-- the rules decide what is read of RDATA
pub rdata_by_rules : (p : List ℕ) (rtype at end : ℕ) → end ≤ length p →
    Decides (rdata_at rtype p at end) (λ rdata. ReadsRdata p rtype at end rdata) (λ why. BreaksRdata p rtype at end why)
rdata_by_rules p rtype at end there = record {
  read = rdata_is_read p rtype at end there;
  broken = rdata_is_broken p rtype at end there;
  answer = rdata_answer p rtype at end there;
}
