use Rattle.std.proofs.Common.{◌≡◌, List, ℕ, IfOk, ◌∙◌, subst}
use Rattle.cd_workload.specs.Workload
use Rattle.cd_workload.proofs.Steps.{goes_on, all_written}
use Rattle.cd_workload.proofs.writing.workload.Goals as goal

-- a lookup is written
pub lookups-preserved : goal.lookups-preserved
lookups-preserved c =
    goes_on c.args.count c.lookups.number c.lookups.state c.next_state-state.result c.draw-drawn.result c.lookups.out c.put_lookup.new.out
    (Workload.workload c.args.count c.args.seed) c.lookups-test.true c.next_state-state.ensures c.draw-drawn.ensures c.in_ok-put_lookup.ensures
    c.lookups.invariant

-- all are written
pub returns : goal.returns
returns c =
    let whole = all_written c.args.count c.lookups.number c.lookups.state c.lookups.out (Workload.workload c.args.count c.args.seed)
    c.lookups-test.false c.lookups.invariant in
    subst (λ (t : List ℕ). IfOk c.from_slice.result (λ capture. capture ≡ t)) (c.bytes.ensures ∙ whole) c.from_slice.ensures
