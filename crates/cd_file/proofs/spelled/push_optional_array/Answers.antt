use Rattle.std.proofs.Common.{◌≡◌, ◌<◌, arith, map}
use Rattle.cd_file.specs.Maps.{optional_array, there}
use Rattle.cd_file.proofs.Maps.{absent, entry_left_out, array_added}
use Rattle.cd_file.proofs.spelled.push_optional_array.Goals as goal

pub returns-then-array_count-eq0 : goal.returns-then-array_count-eq0
returns-then-array_count-eq0 g c =
    let none : there (optional_array (map g.T.Spelled.item c.args.values.now)) ≡ 0 = omega (arith, c.array_count.ensures.exact) in
    entry_left_out _ _ _ (absent _ none)

pub returns : goal.returns
returns g c =
    let some : 0 < there (optional_array (map g.T.Spelled.item c.args.values.now)) = omega (arith, c.array_count.ensures.exact) in
    array_added _ _ _ _ _ some c.in_ok-push_unsigned.ensures.ok c.in_ok-push_array.ensures
