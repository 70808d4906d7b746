use Rattle.std.proofs.Common.{◌<◌, ◌≤◌, length, arith, sym}
use Rattle.std.proofs.lemmas.Result.{err_from_is_err_and}
use Rattle.cd_name.proofs.NameSizes.{name_sizes_are_exact}
use Rattle.cd_message.proofs.NamesInTurn.{name_has_byte, name_written, name_fails, all_written}
use Rattle.cd_message.proofs.writing.Writing.put_names.Goals as goal

pub split_at-requires : goal.split_at-requires
split_at-requires c = ((name_sizes_are_exact c.names.rest.now c.in-Some.size).0 (sym c.in-Some.ensures)).0

pub put_name-requires : goal.put_name-requires
put_name-requires c = rw c.split_at.ensures.front ((name_sizes_are_exact c.names.rest.now c.in-Some.size).0 (sym c.in-Some.ensures)).1

pub returns-in_err-put_name : goal.returns-in_err-put_name
returns-in_err-put_name c =
    let p = err_from_is_err_and c.from_residual.result c.from_residual.ensures.1 in
    λ names are spell. rw (p.1, p.2)
    (name_fails names c.names.rest.now c.in-Some.size c.split_at.result.0.now c.args.self.now c.names.self c.put_name.new.self c.in_err-put_name.field-0.0
    (sym c.in-Some.ensures) c.split_at.ensures.front c.in_err-put_name.ensures (c.names.invariant.left names are spell))

pub names-smaller : goal.names-smaller
names-smaller c =
    let some : 0 < c.in-Some.size = name_has_byte c.names.rest.now c.in-Some.size (sym c.in-Some.ensures) in
    let within : c.in-Some.size ≤ length c.names.rest.now = ((name_sizes_are_exact c.names.rest.now c.in-Some.size).0 (sym c.in-Some.ensures)).0 in omega arith

pub names-preserved : goal.names-preserved
names-preserved c = record {
  short = c.in_ok-put_name.ensures.1;
  left = λ names are spell. name_written names c.names.rest.now c.in-Some.size c.split_at.result.0.now c.split_at.result.1.now c.args.self.now c.names.self c.put_name.new.self
      (sym c.in-Some.ensures) c.split_at.ensures.front c.split_at.ensures.back c.in_ok-put_name.ensures (c.names.invariant.left names are spell);
}

pub returns : goal.returns
returns c = λ names are spell. all_written names c.names.rest.now c.args.self.now c.names.self (sym c.in_default.ensures) c.names.invariant.short (c.names.invariant.left names are spell)
