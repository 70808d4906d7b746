use Rattle.std.proofs.Common.{◌≡◌, ℕ, ◌-◌, true, Some, ap, sym, ◌∙◌, subst, arith, rules}
use Rattle.cd_window.specs.Seen.{Seen, is_ready}
use Rattle.cd_window.specs.Pops.{IsPopped}
use Rattle.cd_window.specs.History.{StandsFor, events_in}
use Rattle.cd_window.specs.Keeping.{Keeps}
use Rattle.cd_pairing.specs.declared.keyed.Side.TheVariants.{Query, Response}
use Rattle.cd_window.proofs.Fronts.{popped_waiting}
use Rattle.cd_window.proofs.Pushed.{holds_rising, holds_from}
use Rattle.cd_window.proofs.Popped.{popped_stands}
use Rattle.cd_window.proofs.Rising.{weight_within}
use Rattle.cd_window.proofs.Taking.{after, pop_facts}
use Rattle.cd_window.proofs.window.Window.pop.Goals as goal

pub take_front-record-requires-clause-mated : goal.take_front-record-requires-clause-mated
take_front-record-requires-clause-mated g c = λ j h at p. c.self.invariant.0.mated 0 j h at p

pub overflow_sub-self : goal.overflow_sub-self
overflow_sub-self g c =
    let i = c.self.inside in
    let w : Seen g.row.E.Denot = record { windows = i.windows; finished = i.finished; first = i.first; clock = i.clock; weight_sum = i.weight_sum; held = i.places.items } in
    let is : c.ready.result ≡ true = search rules in
    let ready : is_ready g.E.Keyed.view w ≡ true = subst (λ x. is_ready g.E.Keyed.view x ≡ true) (sym c.self.view_is) (sym c.ready.ensures.ready ∙ is) in
    let F = pop_facts g.E.Keyed.view w i.count i.weight c.take_front-record.result c.take_front-record.new.places.items c.trim.new.places.items c.trim.result c.self.invariant.0 ready c.take_front-record.ensures c.trim.ensures in
    omega (arith, F.events, c.events_in.ensures)

pub weight_in-requires : goal.weight_in-requires
weight_in-requires g c =
    let i = c.self.inside in
    let w : Seen g.row.E.Denot = record { windows = i.windows; finished = i.finished; first = i.first; clock = i.clock; weight_sum = i.weight_sum; held = i.places.items } in
    let is : c.ready.result ≡ true = search rules in
    let ready : is_ready g.E.Keyed.view w ≡ true = subst (λ x. is_ready g.E.Keyed.view x ≡ true) (sym c.self.view_is) (sym c.ready.ensures.ready ∙ is) in
    let F = pop_facts g.E.Keyed.view w i.count i.weight c.take_front-record.result c.take_front-record.new.places.items c.trim.new.places.items c.trim.result c.self.invariant.0 ready c.take_front-record.ensures c.trim.ensures in
    let within = weight_within g.E.Keyed.view w i.count i.weight c.self.invariant.0 in
    omega (arith, within, F.weighs, c.self.invariant.0.light)

pub overflow_sub-self-2 : goal.overflow_sub-self-2
overflow_sub-self-2 g c =
    let i = c.self.inside in
    let w : Seen g.row.E.Denot = record { windows = i.windows; finished = i.finished; first = i.first; clock = i.clock; weight_sum = i.weight_sum; held = i.places.items } in
    let is : c.ready.result ≡ true = search rules in
    let ready : is_ready g.E.Keyed.view w ≡ true = subst (λ x. is_ready g.E.Keyed.view x ≡ true) (sym c.self.view_is) (sym c.ready.ensures.ready ∙ is) in
    let F = pop_facts g.E.Keyed.view w i.count i.weight c.take_front-record.result c.take_front-record.new.places.items c.trim.new.places.items c.trim.result c.self.invariant.0 ready c.take_front-record.ensures c.trim.ensures in
    omega (arith, F.weighs, c.weight_in.ensures)

pub take_front-requires-clause-rising : goal.take_front-requires-clause-rising
take_front-requires-clause-rising g c =
    let i = c.self.inside in
    let w : Seen g.row.E.Denot = record { windows = i.windows; finished = i.finished; first = i.first; clock = i.clock; weight_sum = i.weight_sum; held = i.places.items } in
    holds_rising g.E.Keyed.view w i.count i.weight i.queries Query c.self.invariant.0 c.self.invariant.1.queries_wait

pub take_front-requires-clause-first : goal.take_front-requires-clause-first
take_front-requires-clause-first g c =
    let i = c.self.inside in
    let w : Seen g.row.E.Denot = record { windows = i.windows; finished = i.finished; first = i.first; clock = i.clock; weight_sum = i.weight_sum; held = i.places.items } in
    holds_from g.E.Keyed.view w i.queries Query c.self.invariant.1.queries_wait

pub take_front-requires-2-clause-rising : goal.take_front-requires-2-clause-rising
take_front-requires-2-clause-rising g c =
    let i = c.self.inside in
    let w : Seen g.row.E.Denot = record { windows = i.windows; finished = i.finished; first = i.first; clock = i.clock; weight_sum = i.weight_sum; held = i.places.items } in
    holds_rising g.E.Keyed.view w i.count i.weight i.responses Response c.self.invariant.0 c.self.invariant.1.responses_wait

pub take_front-requires-2-clause-first : goal.take_front-requires-2-clause-first
take_front-requires-2-clause-first g c =
    let i = c.self.inside in
    let w : Seen g.row.E.Denot = record { windows = i.windows; finished = i.finished; first = i.first; clock = i.clock; weight_sum = i.weight_sum; held = i.places.items } in
    holds_from g.E.Keyed.view w i.responses Response c.self.invariant.1.responses_wait

pub invariant_of-self : goal.invariant_of-self
invariant_of-self g c =
    let i = c.self.inside in
    let w : Seen g.row.E.Denot = record { windows = i.windows; finished = i.finished; first = i.first; clock = i.clock; weight_sum = i.weight_sum; held = i.places.items } in
    let is : c.ready.result ≡ true = search rules in
    let ready : is_ready g.E.Keyed.view w ≡ true = subst (λ x. is_ready g.E.Keyed.view x ≡ true) (sym c.self.view_is) (sym c.ready.ensures.ready ∙ is) in
    let F = pop_facts g.E.Keyed.view w i.count i.weight c.take_front-record.result c.take_front-record.new.places.items c.trim.new.places.items c.trim.result c.self.invariant.0 ready c.take_front-record.ensures c.trim.ensures in (
      subst (λ n. Keeps g.E.Keyed.view (after w c.trim.result c.trim.new.places.items) n (i.weight - c.weight_in.result)) (ap (λ (n : ℕ). i.count - n) (sym c.events_in.ensures))
          (subst (λ n. Keeps g.E.Keyed.view (after w c.trim.result c.trim.new.places.items) (i.count - events_in c.take_front-record.result) (i.weight - n)) (sym c.weight_in.ensures) F.keeps),
      popped_waiting g.E.Keyed.view w i.count i.weight c.take_front-record.result c.take_front-record.new.places.items c.trim.new.places.items c.trim.result i.queries i.responses c.take_front.new.self c.take_front-2.new.self c.self.invariant.0 c.self.invariant.1
          c.take_front-record.ensures c.trim.ensures c.take_front.ensures.listed c.take_front.ensures.filled c.take_front.ensures.left c.take_front-2.ensures.listed c.take_front-2.ensures.filled c.take_front-2.ensures.left,
    )

pub returns-clause-popped : goal.returns-clause-popped
returns-clause-popped g c =
    let i = c.self.inside in
    let w : Seen g.row.E.Denot = record { windows = i.windows; finished = i.finished; first = i.first; clock = i.clock; weight_sum = i.weight_sum; held = i.places.items } in
    let is : c.ready.result ≡ true = search rules in
    let ready : is_ready g.E.Keyed.view w ≡ true = subst (λ x. is_ready g.E.Keyed.view x ≡ true) (sym c.self.view_is) (sym c.ready.ensures.ready ∙ is) in
    let F = pop_facts g.E.Keyed.view w i.count i.weight c.take_front-record.result c.take_front-record.new.places.items c.trim.new.places.items c.trim.result c.self.invariant.0 ready c.take_front-record.ensures c.trim.ensures in
    subst (λ x. IsPopped g.E.Keyed.view x (Some c.take_front-record.result) (after w c.trim.result c.trim.new.places.items)) c.self.view_is F.popped

pub returns-clause-stands : goal.returns-clause-stands
returns-clause-stands g c =
    let i = c.self.inside in
    let w : Seen g.row.E.Denot = record { windows = i.windows; finished = i.finished; first = i.first; clock = i.clock; weight_sum = i.weight_sum; held = i.places.items } in
    let is : c.ready.result ≡ true = search rules in
    let ready : is_ready g.E.Keyed.view w ≡ true = subst (λ x. is_ready g.E.Keyed.view x ≡ true) (sym c.self.view_is) (sym c.ready.ensures.ready ∙ is) in
    let F = pop_facts g.E.Keyed.view w i.count i.weight c.take_front-record.result c.take_front-record.new.places.items c.trim.new.places.items c.trim.result c.self.invariant.0 ready c.take_front-record.ensures c.trim.ensures in
    λ pushed popped S. popped_stands g.E.Keyed.view w (Some c.take_front-record.result) (after w c.trim.result c.trim.new.places.items) pushed popped
    (subst (λ x. StandsFor g.E.Keyed.view x pushed popped) (sym c.self.view_is) S) F.popped
