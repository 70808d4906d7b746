-- nothing waits in a store without slots
use Rattle.cd_window.specs.declared.waiting.Waiting.{Waiting}
use Rattle.cd_window.proofs.Beginning.{begins}
use Rattle.cd_window.proofs.waiting.Waiting.new.Goals as goal

pub returns-clause-listed : goal.returns-clause-listed
returns-clause-listed c =
    let x : Waiting = record { store = c.add_list.new.self; all = c.in_ok-all.all; primaries = c.new.result; exchanges = c.new-2.result; alloc = c.args.alloc } in
    (begins x c.new-store.result c.new-store.ensures c.in_ok-all.ensures.ok c.add_list.ensures.values c.new.ensures.empty c.new-2.ensures.empty).listed

pub returns-clause-empty : goal.returns-clause-empty
returns-clause-empty c =
    let x : Waiting = record { store = c.add_list.new.self; all = c.in_ok-all.all; primaries = c.new.result; exchanges = c.new-2.result; alloc = c.args.alloc } in
    (begins x c.new-store.result c.new-store.ensures c.in_ok-all.ensures.ok c.add_list.ensures.values c.new.ensures.empty c.new-2.ensures.empty).empty
