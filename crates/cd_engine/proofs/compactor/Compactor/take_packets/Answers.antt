use Rattle.std.proofs.Common.{◌≡◌, ◌∙◌, refl, ap, sym}
use Rattle.cd_capture.specs.Reading.{Kept}
use Rattle.cd_ident.specs.declared.event_rules.EventRules.{EventRules}
use Rattle.cd_engine.specs.Events.{rules_of}
use Rattle.cd_engine.specs.Standing.{CompactorSeen}
use Rattle.cd_engine.proofs.Taking.{all_taken, reads_more}
use Rattle.cd_engine.proofs.compactor.Compactor.take_packets.Goals as goal

pub returns-in-None-clause-history : goal.returns-in-None-clause-history
returns-in-None-clause-history c = λ fed cleared h.
    let rules : EventRules = rules_of c.args.self.now.blocks.filing.settings in
    let f = rw (← c.self.view_is) at (c.packets.invariant.history fed cleared h) in
    let k = rw c.in-None.is at (c.in_ok-next.ensures.history fed f.given f.reads) in
    let passed = rw c.in-None.is at c.in_ok-next.ensures.moves in
    all_taken rules _ _ fed cleared f
    (sym (ap (λ (s : CompactorSeen). rules_of s.blocks.filing.settings) c.self.view_is ∙ ap rules_of c.packets.invariant.settings))
    refl refl passed k.0 k.1

pub packets-preserved : goal.packets-preserved
packets-preserved c =
    let e = c.in_ok-take_packet-in-Some.ensures in
    record {
      history = λ fed cleared h.
          let rules : EventRules = rules_of c.args.self.now.blocks.filing.settings in
          let f = rw (← c.self.view_is) at (c.packets.invariant.history fed cleared h) in
          let k = rw c.in-Some.is at (c.in_ok-next.ensures.history fed f.given f.reads) in
          let moved = rw c.in-Some.is at c.in_ok-next.ensures.moves in
          let same : rules_of c.self.inside.blocks.filing.settings ≡ rules =
          ap (λ (s : CompactorSeen). rules_of s.blocks.filing.settings) c.self.view_is ∙ ap rules_of c.packets.invariant.settings in
          reads_more rules _ _ _ _ fed cleared c.in-Some.packet f same (rw e.reader k.0)
          (ap (λ (r : Kept). r.passed) e.reader ∙ moved.0) (rw e.reader moved.1)
          (e.compacts f.given cleared);
      settings = e.settings ∙ ap (λ (s : CompactorSeen). s.blocks.filing.settings) c.self.view_is ∙ c.packets.invariant.settings;
      fresh = e.fresh;
      count = ap (λ (r : Kept). r.fed_count) e.reader ∙ c.in_ok-next.ensures.count ∙ ap (λ (s : CompactorSeen). s.reader.fed_count) c.self.view_is ∙ c.packets.invariant.count;
    }
