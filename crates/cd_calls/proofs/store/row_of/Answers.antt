-- the lists are there and empty
use Rattle.std.proofs.Common.{◌≡◌, ◌+◌, arith, ◌∙◌, ap}
use Rattle.cd_chain.specs.Contents.{list_count}
use Rattle.cd_calls.proofs.Rowing.{added_here}
use Rattle.cd_calls.proofs.store.row_of.Goals as goal

pub add_list-requires-2-clause-room : goal.add_list-requires-2-clause-room
add_list-requires-2-clause-room c =
    let a : list_count c.add_list.new.self 1 ≡ list_count c.new-store.result 1 + 0 = c.in_ok-first.ensures.ok.counts 1 in
    let b : list_count c.new-store.result 1 ≡ 0 = ap (λ s. list_count s 1) c.new-store.ensures in
    omega arith

pub add_list-requires-3-clause-room : goal.add_list-requires-3-clause-room
add_list-requires-3-clause-room c =
    let a : list_count c.add_list.new.self 2 ≡ list_count c.new-store.result 2 + 0 = c.in_ok-first.ensures.ok.counts 2 in
    let b : list_count c.new-store.result 2 ≡ 0 = ap (λ s. list_count s 2) c.new-store.ensures in
    let d : list_count c.add_list-2.new.self 2 ≡ list_count c.add_list.new.self 2 + 0 = c.in_ok-second.ensures.ok.counts 2 in
    omega arith

pub fill-requires-clause-first : goal.fill-requires-clause-first
fill-requires-clause-first c = c.reserve.ensures.lists.lists 0 c.in_ok-first.first ∙ c.in_ok-third.ensures.ok.lists 0 c.in_ok-first.first ∙ c.in_ok-second.ensures.ok.lists 0 c.in_ok-first.first
    ∙ added_here c.new-store.result c.add_list.new.self 0 c.in_ok-first.first c.in_ok-first.ensures.ok

pub fill-requires-clause-second : goal.fill-requires-clause-second
fill-requires-clause-second c = c.reserve.ensures.lists.lists 1 c.in_ok-second.second ∙ c.in_ok-third.ensures.ok.lists 1 c.in_ok-second.second
    ∙ added_here c.add_list.new.self c.add_list-2.new.self 1 c.in_ok-second.second c.in_ok-second.ensures.ok

pub fill-requires-clause-third : goal.fill-requires-clause-third
fill-requires-clause-third c = c.reserve.ensures.lists.lists 2 c.in_ok-third.third
    ∙ added_here c.add_list-2.new.self c.add_list-3.new.self 2 c.in_ok-third.third c.in_ok-third.ensures.ok
