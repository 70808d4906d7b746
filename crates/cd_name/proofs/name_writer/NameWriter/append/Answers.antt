use Rattle.std.proofs.Common.{◌≡◌, ◌+◌, ◌-◌, ◌<◌, ◌++◌, length, take, drop, sym, ap, ◌∙◌, arith}
use Rattle.std.proofs.lemmas.Result.{on_ok_weaker}
use Rattle.cd_name.specs.WrittenNames.{least_offset, suffix_at}
use Rattle.cd_name.proofs.NameProgress.{progress_start, progress_label, label_is_there, ends_with_root, ends_with_pointer, no_end}
use Rattle.cd_name.proofs.name_writer.NameWriter.append.Goals as goal

pub labels-init : goal.labels-init
labels-init c = progress_start c.args.self.now c.args.message.now c.args.name.now c.requires

pub returns-then-size-eq0-clause-ok : goal.returns-then-size-eq0-clause-ok
returns-then-size-eq0-clause-ok c =
    on_ok_weaker c.push.result (λ e. ends_with_root c.labels.invariant c.push.new.self (omega arith) (sym c.from-size.ensures ∙ c.if-size-eq0.true) e) c.push.ensures.ok

pub returns-in-Some-clause-ok : goal.returns-in-Some-clause-ok
returns-in-Some-clause-ok c =
    let is = c.in_ok-suffix.ensures ∙ ap (λ w. drop c.labels.here w) c.in_ok-whole.ensures in
    let some : 0 < c.from-size.result = omega (arith, c.if-size-eq0.false) in
    on_ok_weaker c.push_slice.result
    (λ e.
    ends_with_pointer c.labels.invariant c.push_slice.new.self c.from-size.result c.in-Some.offset (omega arith) (sym c.from-size.ensures) some (ap (λ t. least_offset c.labels.self t) (sym is) ∙ sym c.in-Some.ensures.least)
    (e ∙ ap (λ t. c.labels.message ++ t) c.pointer_to.ensures))
    c.push_slice.ensures.ok

pub slice_bounds-push_slice-end-in-labels : goal.slice_bounds-push_slice-end-in-labels
slice_bounds-push_slice-end-in-labels c =
    let some : 0 < c.from-size.result = omega (arith, c.if-size-eq0.false) in
    let there = label_is_there c.args.name.now c.labels.here c.from-size.result c.labels.invariant.labels (omega arith) (sym c.from-size.ensures) some in
    omega (arith, there.1)

pub labels-preserved : goal.labels-preserved
labels-preserved c =
    let is = c.in_ok-suffix.ensures ∙ ap (λ w. drop c.labels.here w) c.in_ok-whole.ensures in
    let some : 0 < c.from-size.result = omega (arith, c.if-size-eq0.false) in
    let size : c.labels.here + c.from-size.result + 1 - c.labels.here ≡ c.from-size.result + 1 = omega arith in
    progress_label c.labels.invariant c.push_slice-in-labels.new.self c.note.new.self c.from-size.result (omega arith) (sym c.from-size.ensures) some
    (ap (λ t. least_offset c.labels.self t) (sym is) ∙ sym c.in_default.ensures.least)
    (c.in_ok-push_slice.ensures.ok ∙ ap (λ k. c.labels.message ++ take k (drop c.labels.here c.args.name.now)) size)
    (c.in_ok-note.ensures.ok ∙ ap (λ t. c.labels.self ++ suffix_at t (length c.as_slice.result.now)) is ∙ ap (λ m. c.labels.self ++ suffix_at (drop c.labels.here c.args.name.now) (length m)) c.as_slice.ensures)

pub returns-clause-ok : goal.returns-clause-ok
returns-clause-ok c = absurd (no_end c.labels.invariant (omega arith))
