use Rattle.std.proofs.Common.{◌∙◌, sym, arith}
use Rattle.cd_name.specs.NameSizes.{size_from}
use Rattle.cd_name.proofs.SizeSteps.{option_map-zero, goes_on, size_at_root, no_size_at_long, no_size_at_end, no_size_past_255}
use Rattle.cd_name.proofs.name.name_size.Goals as goal

pub labels-init : goal.labels-init
labels-init c = option_map-zero (size_from 0 c.args.bytes.now)

pub returns-then-size-eq0 : goal.returns-then-size-eq0
returns-then-size-eq0 c = size_at_root c.args.bytes.now c.labels.here c.labels.invariant (sym c.from-size.ensures ∙ c.if-size-eq0.true) (omega arith) (omega arith)

pub returns-then-size-gt-MAX_LABEL : goal.returns-then-size-gt-MAX_LABEL
returns-then-size-gt-MAX_LABEL c = no_size_at_long c.args.bytes.now c.labels.here c.from-size.result c.labels.invariant (sym c.from-size.ensures) (omega arith) (omega arith)

pub labels-preserved : goal.labels-preserved
labels-preserved c = goes_on c.args.bytes.now c.labels.here c.from-size.result c.labels.invariant (sym c.from-size.ensures) (omega arith) (omega arith) (omega arith)

pub returns-else-here-lt-MAX_NAME : goal.returns-else-here-lt-MAX_NAME
returns-else-here-lt-MAX_NAME c = no_size_past_255 c.args.bytes.now c.labels.here c.labels.invariant (omega arith)

pub returns-after-labels : goal.returns-after-labels
returns-after-labels c = no_size_at_end c.args.bytes.now c.labels.here c.labels.invariant (omega arith)
