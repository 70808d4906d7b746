use Rattle.cd_name.proofs.LowerCase.{lower_case_is_name}
use Rattle.cd_name.proofs.name.fold.Goals as goal

pub invariant_of-result : goal.invariant_of-result
invariant_of-result c =
    (lower_case_is_name c.as_slice.result.now c.in_ok-bytes.bytes.items c.in_ok-bytes.ensures (rw c.as_slice.ensures.bytes c.as_slice.ensures.named), tt)
