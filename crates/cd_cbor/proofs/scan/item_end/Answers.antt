use Rattle.std.proofs.Common.{◌<◌, arith}
use Rattle.std.proofs.lemmas.List.Elements.{All-from_get_or}
use Rattle.cd_cbor.specs.declared.scan.Judged.TheVariants as judged
use Rattle.cd_cbor.proofs.Marks.{end_told}
use Rattle.cd_cbor.proofs.scan.item_end.Goals as goal

pub returns-in-Whole : goal.returns-in-Whole
returns-in-Whole c = λ item end is.
    let all = All-from_get_or (λ byte. byte < 256) c.args.bytes.now 0 (λ i within. omega (arith, c.type_inv.bytes i)) in
    let e = end_told c.from.result c.judge.new.self c.args.depth c.args.at c.args.bytes.now all (judged.Whole c.in-Whole.end) item end c.from.ensures.history c.from.ensures.depth c.in-Whole.ensures.history is in
    cc

pub returns-in-Bad : goal.returns-in-Bad
returns-in-Bad c = λ item end is.
    let all = All-from_get_or (λ byte. byte < 256) c.args.bytes.now 0 (λ i within. omega (arith, c.type_inv.bytes i)) in
    let e = end_told c.from.result c.judge.new.self c.args.depth c.args.at c.args.bytes.now all (judged.Bad c.in-Bad._place c.in-Bad._why) item end c.from.ensures.history c.from.ensures.depth c.in-Bad.ensures.history is in
    absurd cc

pub returns-in-More : goal.returns-in-More
returns-in-More c = λ item end is.
    let all = All-from_get_or (λ byte. byte < 256) c.args.bytes.now 0 (λ i within. omega (arith, c.type_inv.bytes i)) in
    let e = end_told c.from.result c.judge.new.self c.args.depth c.args.at c.args.bytes.now all judged.More item end c.from.ensures.history c.from.ensures.depth c.in-More.ensures.history is in
    absurd cc
