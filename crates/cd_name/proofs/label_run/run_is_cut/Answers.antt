use Rattle.std.proofs.Common.{◌≡◌, ℕ, ◌+◌, ◌-◌, ◌*◌, ◌∙◌, List, length, drop, get_or, ap, sym, arith, inl, inr}
use Rattle.std.proofs.lemmas.Bool.{le-ltb, lt-ltb, cases_lt}
use Rattle.cd_name.specs.Names.{RunEnd, Root, Target, Break, LabelRun, run_of_end, label_run, is_short_end, run_is_cut}
use Rattle.cd_name.specs.declared.fault.NameWhy.TheVariants.{Short, Label}
use Rattle.cd_name.proofs.RunsAt.{run_at-none, run_at-root, run_at-label, run_at-cut, run_at-reserved, run_at-pointer_cut, run_at-pointer}
use Rattle.cd_name.proofs.label_run.run_is_cut.Goals as goal

-- where no label is left, the end of the run decides
end_decides : (p : List ℕ) (at : ℕ) (end : RunEnd) → label_run 0 (drop at p) ≡ run_of_end end → run_is_cut p at ≡ is_short_end end
end_decides p at end is = ap (λ (r : LabelRun). is_short_end r.end) is

pub returns-then-first-eq0 : goal.returns-then-first-eq0
returns-then-first-eq0 c =
    sym (c.labels.invariant ∙ end_decides c.args.payload.now c.labels.here Root (run_at-root c.args.payload.now c.labels.here (omega arith) (sym c.from-first.ensures ∙ c.if-first-eq0.true)))

pub returns-then-first-ge-FIRST_POINTER : goal.returns-then-first-ge-FIRST_POINTER
returns-then-first-ge-FIRST_POINTER c =
    let p : List ℕ = c.args.payload.now in
    let here : ℕ = c.labels.here in
    let first : ℕ = c.from-first.result in
    elim (cases_lt (length p - here) 2) [
      | inl last ↦ lt-ltb (length p - here) 2 last
          ∙ sym (c.labels.invariant ∙ end_decides p here (Break Short) (run_at-pointer_cut p here first (sym c.from-first.ensures) (omega arith) (omega arith)))
      | inr more ↦ le-ltb (length p - here) 2 more
          ∙ sym (c.labels.invariant ∙ end_decides p here (Target ((first - 192) * 256 + get_or p (here + 1) 0)) (run_at-pointer p here first (sym c.from-first.ensures) (omega arith) (omega arith)))
    ]

pub returns-then-first-gt-MAX_LABEL : goal.returns-then-first-gt-MAX_LABEL
returns-then-first-gt-MAX_LABEL c =
    sym (c.labels.invariant ∙ end_decides c.args.payload.now c.labels.here (Break Label)
    (run_at-reserved c.args.payload.now c.labels.here c.from-first.result (sym c.from-first.ensures) (omega arith) (omega arith) (omega arith)))

pub returns-then-payload-here : goal.returns-then-payload-here
returns-then-payload-here c =
    sym (c.labels.invariant ∙ end_decides c.args.payload.now c.labels.here (Break Short)
    (run_at-cut c.args.payload.now c.labels.here c.from-first.result (sym c.from-first.ensures) (omega arith) (omega arith) (omega arith) (omega arith)))

pub labels-preserved : goal.labels-preserved
labels-preserved c =
    c.labels.invariant
    ∙ ap (λ (r : LabelRun). is_short_end r.end) (run_at-label c.args.payload.now c.labels.here c.from-first.result (sym c.from-first.ensures) (omega arith) (omega arith) (omega arith))

pub returns : goal.returns
returns c = sym (c.labels.invariant ∙ end_decides c.args.payload.now c.labels.here (Break Short) (run_at-none c.args.payload.now c.labels.here (omega arith)))
