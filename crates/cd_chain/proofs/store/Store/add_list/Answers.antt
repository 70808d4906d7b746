use Rattle.cd_chain.proofs.Stores.{adds_any, adds_ok, adds_err, room_for_list}
use Rattle.cd_chain.proofs.store.Store.add_list.Goals as goal

pub add_row-requires-clause-room : goal.add_row-requires-clause-room
add_row-requires-clause-room g c = room_for_list c.self.inside.slots.items c.self.inside.lanes c.self.inside.spare c.args.lane c.args.self.now c.self.view_is c.requires.room

pub invariant_of-self : goal.invariant_of-self
invariant_of-self g c = adds_any c.self.inside.slots.items c.self.inside.lanes c.add_row.new.lanes c.self.inside.spare c.args.lane c.self.inside.free c.add_row.result c.self.invariant
    c.add_row.ensures.ok c.add_row.ensures.err c.add_row.ensures.err_free c.add_row.ensures.others c.add_row.ensures.others_free

pub returns-clause-ok : goal.returns-clause-ok
returns-clause-ok g c = adds_ok c.self.inside.slots.items c.self.inside.lanes c.add_row.new.lanes c.self.inside.spare c.args.lane c.args.self.now c.add_row.result c.self.view_is c.add_row.ensures.ok c.add_row.ensures.others

pub returns-clause-err : goal.returns-clause-err
returns-clause-err g c = adds_err c.self.inside.slots.items c.self.inside.lanes c.add_row.new.lanes c.self.inside.spare c.args.lane c.args.self.now c.add_row.result c.self.view_is c.add_row.ensures.err c.add_row.ensures.others
