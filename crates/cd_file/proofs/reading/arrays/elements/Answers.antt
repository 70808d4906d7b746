-- Each step of the loop is a step of the definition.
use Rattle.std.proofs.Common.{◌<◌, sym, ◌∙◌, arith}
use Rattle.std.specs.Prelude.{pos}
use Rattle.std.proofs.lemmas.List.Elements.{All-from_get_or}
use Rattle.cd_file.proofs.Elements.{gathers_none, gathers_all, gathers_fault, gathers_more, gathers_past}
use Rattle.cd_file.proofs.reading.arrays.elements.Goals as goal

pub elements-init : goal.elements-init
elements-init g c = λ items end stands. gathers_none g.K.Kind.kind (pos c.args.key) c.args.depth c.args.bytes.now c.args.left c.args.at _ items end c.new-values.ensures.items stands

pub returns-in-Some : goal.returns-in-Some
returns-in-Some g c = λ items end stands.
    let so_far = c.elements.invariant items end stands in
    rw c.from_vec.ensures
    (gathers_all g.K.Kind.kind (pos c.args.key) c.args.depth c.args.bytes.now c.elements.still c.elements.here c.elements.counter c.elements.values.items items end so_far c.in-Some.end
    (sym c.ended_at.ensures ∙ c.in-Some.is))

pub returns-in-Err : goal.returns-in-Err
returns-in-Err g c = λ items end stands.
    let so_far = c.elements.invariant items end stands in
    gathers_fault g.K.Kind.kind (pos c.args.key) c.args.depth c.args.bytes.now c.elements.still c.elements.here c.elements.counter c.elements.values.items items end so_far c.in-Err.fault
    (sym c.ended_at.ensures ∙ c.in-None.is) c.in-Err.ensures

pub elements-preserved : goal.elements-preserved
elements-preserved g c = λ items end stands.
    let so_far = c.elements.invariant items end stands in
    let all = All-from_get_or (λ byte. byte < 256) c.args.bytes.now 0 (λ i within. omega (arith, c.type_inv.bytes i)) in
    rw c.one_less-still.ensures
    (gathers_more g.K.Kind.kind (pos c.args.key) c.args.depth c.args.bytes.now c.elements.still c.elements.here c.elements.counter c.elements.values.items items end so_far all
    c.in-Ok.value c.in-Ok.next c.push.new.self.items c.in-Ok-push.ensures.items (sym c.ended_at.ensures ∙ c.in-None.is) c.in-Ok.ensures)

pub returns : goal.returns
returns g c = λ items end stands.
    let so_far = c.elements.invariant items end stands in
    let all = All-from_get_or (λ byte. byte < 256) c.args.bytes.now 0 (λ i within. omega (arith, c.type_inv.bytes i)) in
    rw c.from_vec-2.ensures
    (gathers_past g.K.Kind.kind (pos c.args.key) c.args.depth c.args.bytes.now c.elements.still c.elements.here c.elements.counter c.elements.values.items items end so_far all c.elements-test.false)
