use Rattle.std.proofs.Common.{arith, ◌<◌, length, map}
use Rattle.std.proofs.lemmas.List.{length-map}
use Rattle.cd_pairing.proofs.Matcher.{paired_joined, paired_alone}
use Rattle.cd_pairing.proofs.whole_list.meet.Goals as goal

pub returns-in-Some-clause-paired : goal.returns-in-Some-clause-paired
returns-in-Some-clause-paired g c =
    let es = map g.E.Keyed.view c.args.events.now in
    let room : length c.args.partners.now.items < length es = omega (arith, length-map c.args.events.now g.E.Keyed.view, c.requires.room) in
    paired_joined c.join.result c.args.windows.now es c.args.partners.now.items c.join.new.partners.items c.args.others.now.items c.drop_closed.new.waiting.items c.join.new.others.items c.args.own.now.items
    c.args.now c.in-Some.k c.requires.next room c.requires.waits c.requires.paired c.drop_closed.ensures c.in-Some.ensures c.join.ensures.partners c.join.ensures.others

pub returns-in-None-clause-paired : goal.returns-in-None-clause-paired
returns-in-None-clause-paired g c =
    let es = map g.E.Keyed.view c.args.events.now in
    let room : length c.args.partners.now.items < length es = omega (arith, length-map c.args.events.now g.E.Keyed.view, c.requires.room) in
    paired_alone c.leave.result c.args.windows.now es c.args.partners.now.items c.leave.new.partners.items c.args.others.now.items c.drop_closed.new.waiting.items c.args.own.now.items c.leave.new.own.items
    c.args.now c.requires.next room c.requires.waits c.requires.paired c.drop_closed.ensures c.in-None.ensures c.leave.ensures.partners c.leave.ensures.own
