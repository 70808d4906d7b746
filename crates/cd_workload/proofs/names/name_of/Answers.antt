use Rattle.std.proofs.Common.{◌≡◌, ◌%◌, List, ℕ, IfOk, ap, ◌∙◌, subst}
use Rattle.std.specs.Fmt.{decimal}
use Rattle.cd_workload.specs.Workload.{name_with, name_of}
use Rattle.cd_workload.proofs.SpelledNames.{few_digits, name_is_name, name_of-is}
use Rattle.cd_workload.proofs.names.name_of.Goals as goal

pub name_bytes-requires : goal.name_bytes-requires
name_bytes-requires c =
    let digits : c.as_bytes.result.now ≡ decimal (c.args.drawn % 1000) = c.as_bytes.ensures.value ∙ c.format-digits.ensures.text in
    rw digits (few_digits c.args.drawn)

pub from_slice-requires : goal.from_slice-requires
from_slice-requires c =
    let digits : c.as_bytes.result.now ≡ decimal (c.args.drawn % 1000) = c.as_bytes.ensures.value ∙ c.format-digits.ensures.text in
    let whole : c.as_slice.result.now ≡ name_with (decimal (c.args.drawn % 1000)) =
    c.as_slice.ensures.value ∙ c.in_ok-bytes.ensures ∙ ap name_with digits in
    rw whole (name_is_name (decimal (c.args.drawn % 1000)) (few_digits c.args.drawn))

pub returns : goal.returns
returns c =
    let digits : c.as_bytes.result.now ≡ decimal (c.args.drawn % 1000) = c.as_bytes.ensures.value ∙ c.format-digits.ensures.text in
    let whole : c.as_slice.result.now ≡ name_of c.args.drawn =
    c.as_slice.ensures.value ∙ c.in_ok-bytes.ensures ∙ ap name_with digits ∙ name_of-is c.args.drawn in
    subst (λ (t : List ℕ). IfOk c.from_slice.result (λ name. name ≡ t)) whole c.from_slice.ensures
