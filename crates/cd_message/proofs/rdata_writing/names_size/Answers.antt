use Rattle.std.proofs.Common.{length-drop, arith, sym}
use Rattle.std.proofs.lemmas.List.{take_rest}
use Rattle.cd_name.proofs.NameSizes.{name_sizes_are_exact}
use Rattle.cd_message.proofs.NamesInFront.{left_after, left_misses, none_left}
use Rattle.cd_message.proofs.rdata_writing.names_size.Goals as goal

pub returns-in-None : goal.returns-in-None
returns-in-None c =
    let none = rw take_rest at c.in-None.ensures in
    left_misses c.args.count c.args.bytes.now c.names.counter c.names.end c.names-test.true (sym none) c.names.invariant.left

pub names-preserved : goal.names-preserved
names-preserved c =
    let size = rw take_rest at c.in-Some.ensures in
    let is = (name_sizes_are_exact _ _).0 (sym size) in record {
      within = omega (arith, is.0, length-drop c.names.end c.args.bytes.now);
      left = left_after c.args.count c.args.bytes.now c.names.counter c.names.end c.in-Some.size c.names-test.true (sym size) c.names.invariant.left;
    }

pub returns : goal.returns
returns c = none_left c.args.count c.args.bytes.now c.names.counter c.names.end c.names-test.false c.names.invariant.left
