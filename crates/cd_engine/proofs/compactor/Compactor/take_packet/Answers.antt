use Rattle.std.proofs.Common.{◌≡◌, Some, refl, ap, sym, ◌∙◌}
use Rattle.cd_ident.specs.Keys.{parts_of}
use Rattle.cd_ident.specs.declared.event_rules.EventRules.{EventRules}
use Rattle.cd_packet.specs.Layers.{skipped, layer_of}
use Rattle.cd_engine.specs.Events.{rules_of, event_of, events_of}
use Rattle.cd_engine.specs.Standing.{CompactorSeen}
use Rattle.cd_engine.proofs.Taking.{compacted_more, skipped_more, rules_kept}
use Rattle.cd_engine.proofs.compactor.Compactor.take_packet.Goals as goal

pub returns-in_ok-take_event-in-Event-clause-compacts : goal.returns-in_ok-take_event-in-Event-clause-compacts
returns-in_ok-take_event-in-Event-clause-compacts c =
    λ given cleared h.
    let rules : EventRules = rules_of c.args.self.now.blocks.filing.settings in
    let kept : c.self.inside.rules ≡ rules =
    rules_kept _ _ _ _ (ap (λ (s : CompactorSeen). s.blocks) c.self.view_is) c.requires.fresh c.self.invariant.rules refl in
    let exact = rw c.in-Event.is at c.in_ok-held.ensures.exact in
    let some : event_of rules c.args.packet.now ≡ Some (parts_of c.in-Event.event) = ap (λ r. event_of r c.args.packet.now) (sym kept) ∙ exact in
    let e = c.in_ok-take_event-in-Event.ensures in
    compacted_more rules _ _ given cleared c.args.packet.now c.in-Event.event h some e.packets (e.history (events_of rules given) cleared h.blocks)

pub returns-in-Skipped-clause-compacts : goal.returns-in-Skipped-clause-compacts
returns-in-Skipped-clause-compacts c =
    rw (← c.self.view_is)
    (λ given cleared h.
    let rules : EventRules = rules_of c.self.inside.blocks.filing.settings in
    let kept : c.self.inside.rules ≡ rules = c.self.invariant.rules (ap (λ (s : CompactorSeen). s.blocks.spent) c.self.view_is ∙ c.requires.fresh) in
    let exact = rw c.in-Skipped.is at c.in_ok-held.ensures.exact in
    let is : layer_of rules.port c.args.packet.now ≡ skipped c.in-Skipped.reason = ap (λ (r : EventRules). layer_of r.port c.args.packet.now) (sym kept) ∙ exact in
    skipped_more rules _ _ given cleared c.args.packet.now c.in-Skipped.reason h is c.packet_counts_without-self-inside.ensures refl)
