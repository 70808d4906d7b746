-- Each step of the loop is a step of the definition.
use Rattle.std.proofs.Common.{◌<◌, sym, ◌∙◌, arith}
use Rattle.std.proofs.lemmas.List.Elements.{All-from_get_or}
use Rattle.cd_file.proofs.Courses.{visits_none, visits_all, visits_fault, visits_more, visits_past}
use Rattle.cd_file.proofs.reading.maps.read_pairs.Goals as goal

pub pairs-init : goal.pairs-init
pairs-init g c = λ pairs end stands.
    visits_none g.T.Table.table c.args.depth c.args.bytes.now c.args.fields.now pairs end c.args.left c.args.at c.new-met.result c.new-met.ensures stands

pub returns-in-Some : goal.returns-in-Some
returns-in-Some g c = λ pairs end stands.
    let so_far = c.pairs.invariant pairs end stands in
    visits_all g.T.Table.table c.args.depth c.args.bytes.now c.args.fields.now pairs end c.pairs.still c.pairs.here c.pairs.counter c.pairs.met c.pairs.fields so_far c.in-Some.end c.complete.result
    (sym c.ended_at.ensures ∙ c.in-Some.is) (λ keys keeps. c.complete.ensures keys c.pairs.fields keeps)

pub returns-in-Err : goal.returns-in-Err
returns-in-Err g c = λ pairs end stands.
    let so_far = c.pairs.invariant pairs end stands in
    visits_fault g.T.Table.table c.args.depth c.args.bytes.now c.args.fields.now pairs end c.pairs.still c.pairs.here c.pairs.counter c.pairs.met c.pairs.fields so_far c.read_entry.new.met
    c.read_entry.new.fields c.in-Err.fault (sym c.ended_at.ensures ∙ c.in-None.is) c.in-Err.ensures

pub pairs-preserved : goal.pairs-preserved
pairs-preserved g c = λ pairs end stands.
    let so_far = c.pairs.invariant pairs end stands in
    let all = All-from_get_or (λ byte. byte < 256) c.args.bytes.now 0 (λ i within. omega (arith, c.type_inv.bytes i)) in
    rw c.one_less-still.ensures
    (visits_more g.T.Table.table c.args.depth c.args.bytes.now c.args.fields.now pairs end c.pairs.still c.pairs.here c.pairs.counter c.pairs.met c.pairs.fields so_far c.read_entry.new.met
    c.read_entry.new.fields all c.in-Ok.next (sym c.ended_at.ensures ∙ c.in-None.is) c.in-Ok.ensures)

pub returns : goal.returns
returns g c = λ pairs end stands.
    let so_far = c.pairs.invariant pairs end stands in
    let all = All-from_get_or (λ byte. byte < 256) c.args.bytes.now 0 (λ i within. omega (arith, c.type_inv.bytes i)) in
    visits_past g.T.Table.table c.args.depth c.args.bytes.now c.args.fields.now pairs end c.pairs.still c.pairs.here c.pairs.counter c.pairs.met c.pairs.fields so_far all c.complete-2.result
    c.pairs-test.false (λ keys keeps. c.complete-2.ensures keys c.pairs.fields keeps)
