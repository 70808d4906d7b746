use Rattle.std.proofs.Common.{refl, sym}
use Rattle.cd_edns.proofs.OptRecords.{none_found, some_found}
use Rattle.cd_edns.proofs.opt_reading.opt_ref.Goals as goal

pub returns-in-Some-clause-none : goal.returns-in-Some-clause-none
returns-in-Some-clause-none c =
    let found = rw c.as_slice.ensures at c.in-Some.ensures in
    (λ e. absurd (cc e), λ none. absurd (some_found c.args.message.now.additional _ found none))

pub returns-in-None-clause-none : goal.returns-in-None-clause-none
returns-in-None-clause-none c =
    let missing = rw c.as_slice.ensures at c.in-None.ensures in (λ _. none_found c.args.message.now.additional (sym missing), λ _. refl)
