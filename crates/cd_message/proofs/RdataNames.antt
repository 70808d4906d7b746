-- A name in RDATA that the rules read is the one that is read.
use Rattle.std.proofs.Common.{◌≡◌, ℕ, ◌+◌, ◌<◌, ◌≤◌, Bool, false, List, length, take, get_or, Ok, Err, ◌⊎◌, inl, inr, refl, ap, sym, ◌∙◌, arith}
use Rattle.std.proofs.lemmas.Bool.{cases_Bool, cases_lt, false≢true}
use Rattle.std.proofs.lemmas.List.{length-take-le, get_or-take}
use Rattle.std.proofs.Math.Seq.{take-length}
use Rattle.cd_name.specs.Names.{LabelRun, NameAt, is_short_end, run_is_cut}
use Rattle.cd_name.specs.Rules.{ReadsName, root, label, pointer}
use Rattle.cd_name.proofs.Rules.{read_by_rules}
use Rattle.cd_name.proofs.Names.{names_are_names}
use Rattle.cd_name.proofs.RunsAt.{run_at-none, run_at-root, run_at-label, run_at-cut, run_at-pointer_cut, run_at-pointer}
use Rattle.cd_message.specs.declared.message.MsgWhy.{MsgWhy}
use Rattle.cd_message.specs.Messages.{why_of, rdata_why_of, name_reading, name_in, rdata_name}
use Rattle.cd_message.specs.Rules.{RdataNameAt, BreaksRdataName, past_end, within_end}
use Rattle.cd_message.proofs.Decides.{Decides}
use Rattle.cd_message.proofs.NamesByRules.{name_or_rule}

-- whether a run ends for want of bytes
abbrev is_cut : LabelRun → Bool
is_cut r = is_short_end r.end

-- a name's own bytes end after their beginning, and if they end before an offset, then its first run is not cut there
record IsWhole (p : List ℕ) (at next end : ℕ) : Type 0 where
  after : at < next
  whole : next ≤ end → end ≤ length p → run_is_cut (take end p) at ≡ false

-- the byte at an offset before the end
byte_within : (p : List ℕ) (at end n : ℕ) → at < end → get_or p at 0 ≡ n → get_or (take end p) at 0 ≡ n
byte_within p at end n h e = get_or-take end p at 0 h ∙ e

-- what the rules read is whole
whole_of_rules : {p : List ℕ} {s at : ℕ} {name : List ℕ} {next : ℕ} → ReadsName p s at name next → (end : ℕ) → IsWhole p at next end
whole_of_rules {p} (root s at h e) end = record {
  after = omega arith;
  whole = λ within there. ap is_cut (run_at-root (take end p) at (omega (arith, length-take-le end p there)) (byte_within p at end 0 (omega arith) e));
}
whole_of_rules {p} (label s at n labels next h deeper) end =
    let d = whole_of_rules deeper end in
    record {
      after = omega (arith, d.after);
      whole = λ within there.
          (ap is_cut (run_at-label (take end p) at n (byte_within p at end n (omega (arith, d.after)) h.0) h.1 h.2 (omega (arith, d.after, length-take-le end p there))) ∙ d.whole within there);
    }
whole_of_rules {p} (pointer s at t labels next h k deeper) end = record {
  after = omega arith;
  whole = λ within there.
      ap is_cut (run_at-pointer (take end p) at (get_or p at 0) (byte_within p at end (get_or p at 0) (omega arith) refl) (omega (arith, length-take-le end p there)) h.1);
}

-- of a name whose first run is not cut before an offset, the own bytes end before it
within_of_rules : {p : List ℕ} {s at : ℕ} {name : List ℕ} {next : ℕ} → ReadsName p s at name next → (end : ℕ) → end ≤ length p →
    run_is_cut (take end p) at ≡ false → next ≤ end
within_of_rules {p} (root s at h e) end there whole =
    elim (cases_lt at end) [
      | inl before ↦ omega arith
      | inr past ↦ absurd (false≢true (sym whole ∙ ap is_cut (run_at-none (take end p) at (omega (arith, length-take-le end p there)))))
    ]
within_of_rules {p} (label s at n labels next h deeper) end there whole =
    let size : length (take end p) ≡ end = length-take-le end p there in
    elim (cases_lt at end) [
      | inr past ↦ absurd (false≢true (sym whole ∙ ap is_cut (run_at-none (take end p) at (omega arith))))
      | inl before ↦
          (let byte = byte_within p at end n before h.0 in
          elim (cases_lt (at + n) end) [
            | inr cut ↦ absurd (false≢true (sym whole ∙ ap is_cut (run_at-cut (take end p) at n byte h.1 h.2 (omega arith) (omega arith))))
            | inl inside ↦ within_of_rules deeper end there (sym (ap is_cut (run_at-label (take end p) at n byte h.1 h.2 (omega arith))) ∙ whole)
          ])
    ]
within_of_rules {p} (pointer s at t labels next h k deeper) end there whole =
    let size : length (take end p) ≡ end = length-take-le end p there in
    elim (cases_lt at end) [
      | inr past ↦ absurd (false≢true (sym whole ∙ ap is_cut (run_at-none (take end p) at (omega arith))))
      | inl before ↦
          elim (cases_lt (at + 1) end) [
            | inl inside ↦ omega arith
            | inr cut ↦
                absurd (false≢true (sym whole ∙ ap is_cut (run_at-pointer_cut (take end p) at (get_or p at 0) (byte_within p at end (get_or p at 0) before refl) (omega arith) h.1)))
          ]
    ]

-- the first run of a name that stands in bytes is not cut
name_is_whole : (p : List ℕ) (at : ℕ) (x : List ℕ × ℕ) → NameAt p at x.0 x.1 → run_is_cut p at ≡ false
name_is_whole p at x h =
    let w = whole_of_rules ((read_by_rules p at x.0 x.1).0 h).0 (length p) in
    ap (λ t. run_is_cut t at) (sym (take-length p)) ∙ w.whole (names_are_names p at x.0 x.1 h).2 (omega arith)

-- a name in RDATA that the rules read is read
rdata_name_is_read : (p : List ℕ) (end at : ℕ) → end ≤ length p → (x : List ℕ × ℕ) → RdataNameAt p end at x.0 x.1 → rdata_name p end at ≡ Ok x
unfolding rdata_name name_in
rdata_name_is_read p end at there x h =
    let whole = (whole_of_rules ((read_by_rules p at x.0 x.1).0 h.0).0 end).whole h.1 there in
    rw whole (ap (name_reading why_of) h.0)

-- a rule that the rules say a name in RDATA breaks is broken
rdata_name_is_broken : (p : List ℕ) (end at : ℕ) (why : MsgWhy) → BreaksRdataName p end at why → rdata_name p end at ≡ Err why
unfolding rdata_name name_in
rdata_name_is_broken p end at why (past_end broken cut h told) = rw cut (ap (name_reading rdata_why_of) h ∙ ap Err (sym told))
rdata_name_is_broken p end at why (within_end broken whole h told) = rw whole (ap (name_reading why_of) h ∙ ap Err (sym told))

-- the rules have an answer on a name in RDATA
rdata_name_answer : (p : List ℕ) (end at : ℕ) → end ≤ length p →
    ((x : List ℕ × ℕ) × RdataNameAt p end at x.0 x.1) ⊎ ((why : MsgWhy) × BreaksRdataName p end at why)
rdata_name_answer p end at there =
    elim (cases_Bool (run_is_cut (take end p) at)) [
      | inl cut ↦
          elim (name_or_rule (take end p) at) [
            | inl a ↦ absurd (false≢true (sym (name_is_whole (take end p) at a.0 a.1) ∙ cut))
            | inr a ↦ inr (rdata_why_of a.0, past_end a.0 cut a.1 refl)
          ]
      | inr whole ↦
          elim (name_or_rule p at) [
            | inl a ↦ inl (a.0, (a.1, within_of_rules ((read_by_rules p at a.0.0 a.0.1).0 a.1).0 end there whole))
            | inr a ↦ inr (why_of a.0, within_end a.0 whole a.1 refl)
          ]
    ]

-- the rules decide what is read of a name in RDATA
pub rdata_name_by_rules : (p : List ℕ) (end at : ℕ) → end ≤ length p →
    Decides (rdata_name p end at) (λ x. RdataNameAt p end at x.0 x.1) (λ why. BreaksRdataName p end at why)
rdata_name_by_rules p end at there = record {
  read = rdata_name_is_read p end at there;
  broken = rdata_name_is_broken p end at;
  answer = rdata_name_answer p end at there;
}
