-- a key whose list is empty loses it
use Rattle.cd_window.proofs.KeyCalls.{gone_at, dropped_indexed, dropped_filled}
use Rattle.cd_window.proofs.LaneCalls.{drops_rest}
use Rattle.cd_window.proofs.lists.drop_list.Goals as goal

pub returns-clause-indexed : goal.returns-clause-indexed
returns-clause-indexed c = λ slots A. dropped_indexed c.args.numbers.now c.remove_at.new.numbers c.args.store.now c.drop_list.new.self c.args.lane c.args.list c.args.key.now slots
    c.requires.number c.requires.empty (gone_at c.args.numbers.now c.remove_at.new.numbers c.args.key.now c.args.place c.args.list c.requires.entry c.remove_at.ensures)
    c.drop_list.ensures.lists c.drop_list.ensures.values c.drop_list.ensures.spare A

pub returns-clause-filled : goal.returns-clause-filled
returns-clause-filled c = dropped_filled c.args.numbers.now c.remove_at.new.numbers c.args.store.now c.drop_list.new.self c.args.lane c.args.list c.args.key.now
    (gone_at c.args.numbers.now c.remove_at.new.numbers c.args.key.now c.args.place c.args.list c.requires.entry c.remove_at.ensures) c.drop_list.ensures.lists c.requires.filled

pub returns-clause-rest : goal.returns-clause-rest
returns-clause-rest c = drops_rest c.args.store.now c.drop_list.new.self c.args.lane c.args.list c.drop_list.ensures.lists c.drop_list.ensures.values c.drop_list.ensures.spare
