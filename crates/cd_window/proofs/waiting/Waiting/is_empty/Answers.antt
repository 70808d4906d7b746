-- a list that has no first slot is empty
use Rattle.std.proofs.Common.{ap, sym}
use Rattle.cd_chain.specs.Contents.{list_at, slots_of}
use Rattle.cd_window.proofs.Indexing.{some_is}
use Rattle.cd_window.proofs.KeyCalls.{empty_list}
use Rattle.cd_window.proofs.waiting.Waiting.is_empty.Goals as goal

pub returns-in-None : goal.returns-in-None
returns-in-None c = λ h.
    let s = some_is (list_at c.args.self.now.store 0 c.args.self.now.all) c.requires.there in
    ap slots_of (empty_list (list_at c.args.self.now.store 0 c.args.self.now.all) s.0 s.1 (sym c.in-None.ensures.first))
