-- the key gets the list, or all is as it was
use Rattle.std.proofs.Common.{◌∙◌}
use Rattle.cd_window.proofs.Keying.{keys_are}
use Rattle.cd_window.proofs.KeyCalls.{added_indexed, added_filled, added_number, undone_indexed, undone_filled}
use Rattle.cd_window.proofs.LaneCalls.{adds_rest, drops_rest, rest_twice}
use Rattle.cd_window.proofs.lists.add_list.Goals as goal

pub returns-in-Ok-clause-indexed : goal.returns-in-Ok-clause-indexed
returns-in-Ok-clause-indexed c = λ slots A. added_indexed c.args.numbers.now c.insert.new.self c.args.store.now c.add_list.new.self c.args.lane c.in_ok-list.list c.in_ok-copy.copy slots
    ((keys_are c.args.numbers.now c.args.store.now c.args.lane).numbers c.in_ok-copy.copy c.args.key.now c.in_ok-copy.ensures ∙ c.requires.fresh) c.in-Ok.ensures.updates.0 c.in_ok-list.ensures.ok c.add_list.ensures.values c.add_list.ensures.spare A

pub returns-in-Ok-clause-filled : goal.returns-in-Ok-clause-filled
returns-in-Ok-clause-filled c = added_filled c.args.numbers.now c.insert.new.self c.args.store.now c.add_list.new.self c.args.lane c.in_ok-list.list c.in_ok-copy.copy
    c.requires.slots.0 c.args.key.now c.in_ok-copy.ensures c.in-Ok.ensures.updates.0 c.in_ok-list.ensures.ok c.requires.slots.1 c.requires.filled

pub returns-in-Ok-clause-number : goal.returns-in-Ok-clause-number
returns-in-Ok-clause-number c = added_number c.args.numbers.now c.insert.new.self c.args.store.now c.add_list.new.self c.args.lane c.in_ok-list.list c.in_ok-copy.copy
    c.args.key.now c.in_ok-copy.ensures c.in-Ok.ensures.updates.0

pub returns-in-Ok-clause-rest : goal.returns-in-Ok-clause-rest
returns-in-Ok-clause-rest c = adds_rest c.args.store.now c.add_list.new.self c.args.lane c.in_ok-list.list c.in_ok-list.ensures.ok c.add_list.ensures.values c.add_list.ensures.spare

pub returns-in-Err-clause-indexed : goal.returns-in-Err-clause-indexed
returns-in-Err-clause-indexed c = λ slots A. undone_indexed c.args.numbers.now c.insert.new.self c.args.store.now c.add_list.new.self c.drop_list.new.self c.args.lane c.in_ok-list.list c.in-Err.ensures.err c.in_ok-list.ensures.ok c.drop_list.ensures.lists slots
    (rest_twice c.args.store.now c.add_list.new.self c.drop_list.new.self c.args.lane
    (adds_rest c.args.store.now c.add_list.new.self c.args.lane c.in_ok-list.list c.in_ok-list.ensures.ok c.add_list.ensures.values c.add_list.ensures.spare)
    (drops_rest c.add_list.new.self c.drop_list.new.self c.args.lane c.in_ok-list.list c.drop_list.ensures.lists c.drop_list.ensures.values c.drop_list.ensures.spare)) A

pub returns-in-Err-clause-err_filled : goal.returns-in-Err-clause-err_filled
returns-in-Err-clause-err_filled c = undone_filled c.args.numbers.now c.insert.new.self c.args.store.now c.add_list.new.self c.drop_list.new.self c.args.lane c.in_ok-list.list c.in-Err.ensures.err c.in_ok-list.ensures.ok c.drop_list.ensures.lists c.requires.filled

pub returns-in-Err-clause-rest : goal.returns-in-Err-clause-rest
returns-in-Err-clause-rest c = rest_twice c.args.store.now c.add_list.new.self c.drop_list.new.self c.args.lane
    (adds_rest c.args.store.now c.add_list.new.self c.args.lane c.in_ok-list.list c.in_ok-list.ensures.ok c.add_list.ensures.values c.add_list.ensures.spare)
    (drops_rest c.add_list.new.self c.drop_list.new.self c.args.lane c.in_ok-list.list c.drop_list.ensures.lists c.drop_list.ensures.values c.drop_list.ensures.spare)
