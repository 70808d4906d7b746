-- a key that has a list keeps it
use Rattle.std.proofs.Common.{false, refl, sym}
use Rattle.cd_chain.specs.Contents.{list_at}
use Rattle.cd_window.specs.Keys.{same_key}
use Rattle.cd_window.specs.Lists.{number_of}
use Rattle.cd_window.proofs.Filling.{fewer_filled}
use Rattle.cd_window.proofs.LaneCalls.{rest_same}
use Rattle.cd_window.proofs.lists.add_list_of.Goals as goal

pub returns-in-Some-clause-number : goal.returns-in-Some-clause-number
returns-in-Some-clause-number c = sym c.in-Some.ensures

pub returns-in-Some-clause-filled : goal.returns-in-Some-clause-filled
returns-in-Some-clause-filled c = fewer_filled (number_of c.args.numbers.now) (list_at c.args.store.now c.args.lane) (λ k. false) (λ k. same_key c.args.key.now k) (λ k h. refl) c.requires.filled

pub returns-in-Some-clause-rest : goal.returns-in-Some-clause-rest
returns-in-Some-clause-rest c = rest_same c.args.store.now c.args.lane
