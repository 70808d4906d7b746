use Rattle.cd_cbor.proofs.Spelled.{grown, spelling_all_more, spelling_array_all}
use Rattle.cd_file.proofs.spelled.push_array.Goals as goal

pub values-preserved : goal.values-preserved
values-preserved g c =
    grown _ _ _ _ _ _ c.values.invariant (rw c.value-item.is at c.in_ok-push.ensures)
    (spelling_all_more g.T.Spelled.item c.as_slice-values.result.now c.values.value-index c.value-item.result c.values-test.true)

pub returns : goal.returns
returns g c =
    rw (← c.as_slice-values.ensures)
    (grown _ _ _ _ _ _ c.in_ok-push_array_head.ensures.ok c.values.invariant
    (spelling_array_all g.T.Spelled.item c.as_slice-values.result.now c.values.value-index c.values-test.false))
