-- the event comes last in its lists
use Rattle.std.proofs.Common.{refl}
use Rattle.cd_window.specs.declared.waiting.Waiting.{Waiting}
use Rattle.cd_window.proofs.Listing.{put_waits, lists_there}
use Rattle.cd_window.proofs.waiting.Waiting.put.Goals as goal

pub returns-clause-listed : goal.returns-clause-listed
returns-clause-listed c =
    let x' : Waiting = record c.args.self.now { store = c.put_reserved.new.self } in
    (put_waits c.args.self.now x' c.args.waiter c.put_reserved.result c.args.room.primary c.args.room.exchange refl c.requires.listed c.requires.listed.primaries c.requires.listed.exchanges
    c.requires.room.primaries c.requires.room.exchanges c.requires.room.primary c.requires.room.exchange c.put_reserved.ensures.values
    (c.put_reserved.ensures.lists.lists 0) (c.put_reserved.ensures.lists.lists 1) (c.put_reserved.ensures.lists.lists 2)).listed

pub returns-clause-filled : goal.returns-clause-filled
returns-clause-filled c =
    let x' : Waiting = record c.args.self.now { store = c.put_reserved.new.self } in
    (put_waits c.args.self.now x' c.args.waiter c.put_reserved.result c.args.room.primary c.args.room.exchange refl c.requires.listed c.requires.listed.primaries c.requires.listed.exchanges
    c.requires.room.primaries c.requires.room.exchanges c.requires.room.primary c.requires.room.exchange c.put_reserved.ensures.values
    (c.put_reserved.ensures.lists.lists 0) (c.put_reserved.ensures.lists.lists 1) (c.put_reserved.ensures.lists.lists 2)).filled

pub returns-clause-put : goal.returns-clause-put
returns-clause-put c =
    let x' : Waiting = record c.args.self.now { store = c.put_reserved.new.self } in
    (put_waits c.args.self.now x' c.args.waiter c.put_reserved.result c.args.room.primary c.args.room.exchange refl c.requires.listed c.requires.listed.primaries c.requires.listed.exchanges
    c.requires.room.primaries c.requires.room.exchanges c.requires.room.primary c.requires.room.exchange c.put_reserved.ensures.values
    (c.put_reserved.ensures.lists.lists 0) (c.put_reserved.ensures.lists.lists 1) (c.put_reserved.ensures.lists.lists 2)).waits

pub put_reserved-requires-clause-there : goal.put_reserved-requires-clause-there
put_reserved-requires-clause-there c = lists_there c.args.self.now c.args.waiter c.args.room c.requires.listed c.requires.room
