use Rattle.std.proofs.Common.{◌∙◌, ap, sym, subst}
use Rattle.std.specs.Prelude.{IsSome, IfSome}
use Rattle.cd_chain.specs.declared.link.Link.{Link}
use Rattle.cd_chain.specs.Contents.{value_at}
use Rattle.cd_chain.proofs.Seeing.{linked, next_is}
use Rattle.cd_chain.proofs.Stores.{next_used}
use Rattle.cd_chain.proofs.store.Store.next.Goals as goal

pub link_at-link-requires : goal.link_at-link-requires
link_at-link-requires g c = rw c.deref.ensures.value (linked c.self.inside.slots.items c.self.inside.lanes c.self.inside.spare c.args.lane c.args.slot c.args.self.now c.self.view_is c.self.invariant.lists c.requires).within

pub returns-clause-next : goal.returns-clause-next
returns-clause-next g c k i = ap (λ (x : Link). x.after) (rw c.deref.ensures.value at c.link_at-link.ensures) ∙ next_is c.self.inside.slots.items c.self.inside.lanes c.self.inside.spare c.args.lane c.args.slot c.args.self.now c.self.view_is (c.self.invariant.lists c.args.lane) k i

pub returns-clause-used : goal.returns-clause-used
returns-clause-used g c = subst (λ (x : Link). IfSome x.after (λ t. IsSome (value_at c.args.self.now t))) (sym (rw c.deref.ensures.value at c.link_at-link.ensures))
    (next_used c.self.inside.slots.items c.self.inside.lanes c.self.inside.spare c.self.inside.spare c.args.lane c.args.slot c.requires.list c.self.inside.free c.args.self.now c.self.view_is c.self.invariant
    (linked c.self.inside.slots.items c.self.inside.lanes c.self.inside.spare c.args.lane c.args.slot c.args.self.now c.self.view_is c.self.invariant.lists c.requires).list)
