use Rattle.cd_chain.specs.declared.lane.Lanes.{Lanes}
use Rattle.cd_chain.proofs.Stores.{new_holds, new_seen}
use Rattle.cd_chain.proofs.store.Store.new.Goals as goal

pub invariant_of-result : goal.invariant_of-result
invariant_of-result g c =
    let lanes : Lanes = record { first = c.no_lists.result; second = c.no_lists-2.result; third = c.no_lists-3.result } in
    new_holds c.new.result.items lanes c.new.ensures.items c.no_lists.ensures.rows c.no_lists-2.ensures.rows c.no_lists-3.ensures.rows c.no_lists.ensures.free c.no_lists-2.ensures.free c.no_lists-3.ensures.free

pub returns : goal.returns
returns g c =
    let lanes : Lanes = record { first = c.no_lists.result; second = c.no_lists-2.result; third = c.no_lists-3.result } in
    new_seen c.new.result.items lanes c.new.ensures.items c.no_lists.ensures.rows c.no_lists-2.ensures.rows c.no_lists-3.ensures.rows
