-- The records of a section that the rules read are those that are read.
use Rattle.std.proofs.Common.{◌≡◌, ℕ, ◌≤◌, Bool, List, [], ◌∷◌, ◌++◌, Ok, Err, inl, inr, refl, ap}
use Rattle.cd_message.specs.declared.message.MsgWhy.{MsgWhy}
use Rattle.cd_message.specs.declared.message.Rr.{Rr}
use Rattle.cd_message.specs.Messages.{record_step, records_at}
use Rattle.cd_message.specs.Rules.{ReadsRecord, KeepsOptRule, ReadsSection, BreaksRecord, BreaksSection}
use Rattle.cd_message.proofs.Decides.{Decides}
use Rattle.cd_message.proofs.EachByRules.{DecidesNext, each_is_read, among_is_broken, each_answer}
use Rattle.cd_message.proofs.OptRule.{opt_still_allowed, keeps_none, keeps_front, keeps_more, keeps_last, opt_allowed_next}
use Rattle.cd_message.proofs.RecordsByRules.{record_is_read, record_is_broken, record_answer}

-- an offset after some records, and whether an OPT record is allowed there
abbrev place_after : ℕ → List Rr → ℕ → ℕ × Bool
place_after opts before at = (at, opt_still_allowed opts before)

-- after some records that keep the rule of OPT records, another one breaks a rule
abbrev BreaksNext : List ℕ → ℕ → MsgWhy → List Rr → ℕ → Type 0
BreaksNext p opts why before at = KeepsOptRule opts before × BreaksRecord p opts why before at

-- a record is read with the place after it
step_is_read : (p : List ℕ) (opts : ℕ) → opts ≤ 1 → (before : List Rr) (at : ℕ) (r : Rr) (next : ℕ) → ReadsRecord p at r next → KeepsOptRule opts (before ++ r ∷ []) →
    record_step p (place_after opts before at) ≡ Ok (r, place_after opts (before ++ r ∷ []) next)
step_is_read p opts one before at r next reads keeps =
    let read = record_is_read p opts before at (r, next) reads (keeps_last opts before r keeps) in
    rw read (ap (λ b. Ok (r, (next, b))) (opt_allowed_next opts one before r))

-- a record that breaks a rule gives no place after it
step_is_broken : (p : List ℕ) (opts : ℕ) (why : MsgWhy) (before : List Rr) (at : ℕ) → BreaksRecord p opts why before at →
    record_step p (place_after opts before at) ≡ Err why
step_is_broken p opts why before at breaks = let broken = record_is_broken p opts why before at breaks in rw broken refl

-- the rules decide each record of a section after those before it
next_record_by_rules : (p : List ℕ) (opts : ℕ) → opts ≤ 1 → DecidesNext (record_step p) (place_after opts) (KeepsOptRule opts) (ReadsRecord p) (BreaksNext p opts)
next_record_by_rules p opts one = record {
  front_keeps = keeps_front opts;
  broken_keeps = λ why before at breaks. breaks.0;
  read = step_is_read p opts one;
  broken = λ why before at breaks. step_is_broken p opts why before at breaks.1;
  answer = λ before at keeps.
      elim (record_answer p opts before at) [
        | inl a ↦ inl (a.0.0, a.0.1, a.1, keeps_more opts before a.0.0 keeps a.2)
        | inr a ↦ inr (a.0, (keeps, a.1))
      ];
}

-- the rules decide what is read of a section that may hold one OPT record at most
pub section_by_rules : (p : List ℕ) (opts : ℕ) → opts ≤ 1 → (count at : ℕ) →
    Decides (records_at p count (opt_still_allowed opts []) at) (λ x. ReadsSection p opts count at x.0 x.1) (λ why. BreaksSection p opts count at why)
section_by_rules p opts one count at =
    let d = next_record_by_rules p opts one in
    record {
      read = λ x reads. (let e = each_is_read d reads.are_read [] reads.opt_rule in rw e refl);
      broken = λ why breaks. (let e = among_is_broken d breaks.are_read why count [] breaks.one_is_left breaks.is_broken in rw e refl);
      answer =
          elim (each_answer d count [] at (keeps_none opts)) [
            | inl a ↦ inl ((a.0, a.1), record { are_read = a.2; opt_rule = a.3 })
            | inr a ↦ inr a
          ];
    }
