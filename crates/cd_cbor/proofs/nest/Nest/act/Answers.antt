-- Each act is what it does to what is open.
use Rattle.std.proofs.Common.{◌∷◌, ◌∙◌, ap, drop}
use Rattle.cd_cbor.specs.Events.{passed}
use Rattle.cd_cbor.proofs.Nests.{last_first, closed_drop, acted_item, acted_enter, acted_close}
use Rattle.cd_cbor.proofs.nest.Nest.act.Goals as goal

pub returns-in-Item : goal.returns-in-Item
returns-in-Item c = rw c.in-Item.is (c.pass_item.ensures.passed ∙ ap passed c.self.view_is ∙ acted_item c.args.self.now)

pub returns-in-Enter : goal.returns-in-Enter
returns-in-Enter c =
    rw c.in-Enter.is
    (last_first c.push.new.self.items c.self.inside.wants.items c.in-Enter.inner c.push.ensures.items ∙ ap (λ w. c.in-Enter.inner ∷ w) c.self.view_is ∙ acted_enter c.in-Enter.inner c.args.self.now)

pub returns-in-Close : goal.returns-in-Close
returns-in-Close c =
    rw c.in-Close.is
    (c.pass_item-in-Close.ensures.passed ∙ ap passed (closed_drop c.self.inside.wants.items c.pop-closed.new.self.items c.pop-closed.result c.pop-closed.ensures.items c.pop-closed.ensures.variant)
    ∙ ap (λ w. passed (drop 1 w)) c.self.view_is ∙ acted_close c.args.self.now)
