use Rattle.std.proofs.Common.{◌≡◌, ℕ, ◌+◌, ◌<◌, ◌^◌, false, max, ap, sym, ◌∙◌, subst, arith}
use Rattle.cd_pairing.specs.declared.keyed.Side.TheVariants.{Query, Response}
use Rattle.cd_window.specs.declared.stamps.Stamp.{Stamp}
use Rattle.cd_window.specs.Seen.{Seen, is_ready}
use Rattle.cd_window.specs.Pushes.{IsPushed}
use Rattle.cd_window.specs.History.{StandsFor}
use Rattle.cd_window.specs.Keeping.{Keeps}
use Rattle.cd_window.proofs.Admitted.{joins_among, admit_facts}
use Rattle.cd_window.proofs.Pushed.{can_join}
use Rattle.cd_window.proofs.Pushing.{pushed_stands}
use Rattle.cd_window.proofs.Putting.{grown, IsNext, push_facts}
use Rattle.cd_window.proofs.Rising.{weight_within}
use Rattle.cd_window.proofs.window.Window.push.Goals as goal

pub admit-requires-clause-queries : goal.admit-requires-clause-queries
admit-requires-clause-queries g c =
    let i = c.self.inside in
    let w : Seen g.row.E.Denot = record { windows = i.windows; finished = i.finished; first = i.first; clock = i.clock; weight_sum = i.weight_sum; held = i.places.items } in
    let next : Stamp = record { index = i.first + c.len.result; clock = c.max.result; weight_sum = i.weight_sum + c.weight.result } in
    let N : IsNext g.E.Keyed.view w c.args.event next = record {
      index = ap (λ (n : ℕ). i.first + n) (c.len.ensures ∙ i.places.ok.0);
      clock = c.max.ensures ∙ ap (max i.clock) c.time.ensures;
      weight_sum = ap (λ (n : ℕ). i.weight_sum + n) c.weight.ensures;
    } in
    let light = subst (λ x. x.weight_sum + (g.E.Keyed.view c.args.event).weight < 2 ^ 63) (sym c.self.view_is) c.requires.light in
    let ready : is_ready g.E.Keyed.view w ≡ false = subst (λ x. is_ready g.E.Keyed.view x ≡ false) (sym c.self.view_is) c.requires.due in
    can_join g.E.Keyed.view w i.count i.weight c.args.event next i.queries Query c.self.invariant.0 ready N c.self.invariant.1.queries_wait

pub admit-requires-clause-responses : goal.admit-requires-clause-responses
admit-requires-clause-responses g c =
    let i = c.self.inside in
    let w : Seen g.row.E.Denot = record { windows = i.windows; finished = i.finished; first = i.first; clock = i.clock; weight_sum = i.weight_sum; held = i.places.items } in
    let next : Stamp = record { index = i.first + c.len.result; clock = c.max.result; weight_sum = i.weight_sum + c.weight.result } in
    let N : IsNext g.E.Keyed.view w c.args.event next = record {
      index = ap (λ (n : ℕ). i.first + n) (c.len.ensures ∙ i.places.ok.0);
      clock = c.max.ensures ∙ ap (max i.clock) c.time.ensures;
      weight_sum = ap (λ (n : ℕ). i.weight_sum + n) c.weight.ensures;
    } in
    let light = subst (λ x. x.weight_sum + (g.E.Keyed.view c.args.event).weight < 2 ^ 63) (sym c.self.view_is) c.requires.light in
    let ready : is_ready g.E.Keyed.view w ≡ false = subst (λ x. is_ready g.E.Keyed.view x ≡ false) (sym c.self.view_is) c.requires.due in
    can_join g.E.Keyed.view w i.count i.weight c.args.event next i.responses Response c.self.invariant.0 ready N c.self.invariant.1.responses_wait

pub admit-requires-clause-among : goal.admit-requires-clause-among
admit-requires-clause-among g c =
    let i = c.self.inside in
    let w : Seen g.row.E.Denot = record { windows = i.windows; finished = i.finished; first = i.first; clock = i.clock; weight_sum = i.weight_sum; held = i.places.items } in
    let next : Stamp = record { index = i.first + c.len.result; clock = c.max.result; weight_sum = i.weight_sum + c.weight.result } in
    let N : IsNext g.E.Keyed.view w c.args.event next = record {
      index = ap (λ (n : ℕ). i.first + n) (c.len.ensures ∙ i.places.ok.0);
      clock = c.max.ensures ∙ ap (max i.clock) c.time.ensures;
      weight_sum = ap (λ (n : ℕ). i.weight_sum + n) c.weight.ensures;
    } in
    let light = subst (λ x. x.weight_sum + (g.E.Keyed.view c.args.event).weight < 2 ^ 63) (sym c.self.view_is) c.requires.light in
    let ready : is_ready g.E.Keyed.view w ≡ false = subst (λ x. is_ready g.E.Keyed.view x ≡ false) (sym c.self.view_is) c.requires.due in
    λ met qs rs J. joins_among g.E.Keyed.view w i.count i.weight c.args.event next i.queries i.responses met qs rs c.self.invariant.0 c.self.invariant.1 N c.requires.heavy J

pub overflow_add-self-2 : goal.overflow_add-self-2
overflow_add-self-2 g c =
    let within = weight_within g.E.Keyed.view _ c.self.inside.count c.self.inside.weight c.self.invariant.0 in
    let light = subst (λ x. x.weight_sum + (g.E.Keyed.view c.args.event).weight < 2 ^ 63) (sym c.self.view_is) c.requires.light in
    omega (arith, within, light, c.weight-weight.ensures)

pub invariant_of-self-2 : goal.invariant_of-self-2
invariant_of-self-2 g c =
    let i = c.self.inside in
    let w : Seen g.row.E.Denot = record { windows = i.windows; finished = i.finished; first = i.first; clock = i.clock; weight_sum = i.weight_sum; held = i.places.items } in
    let next : Stamp = record { index = i.first + c.len.result; clock = c.max.result; weight_sum = i.weight_sum + c.weight.result } in
    let N : IsNext g.E.Keyed.view w c.args.event next = record {
      index = ap (λ (n : ℕ). i.first + n) (c.len.ensures ∙ i.places.ok.0);
      clock = c.max.ensures ∙ ap (max i.clock) c.time.ensures;
      weight_sum = ap (λ (n : ℕ). i.weight_sum + n) c.weight.ensures;
    } in
    let light = subst (λ x. x.weight_sum + (g.E.Keyed.view c.args.event).weight < 2 ^ 63) (sym c.self.view_is) c.requires.light in
    let ready : is_ready g.E.Keyed.view w ≡ false = subst (λ x. is_ready g.E.Keyed.view x ≡ false) (sym c.self.view_is) c.requires.due in
    let A = admit_facts g.E.Keyed.view w i.count i.weight c.args.event next c.admit.new.places.items i.queries i.responses c.admit.new.queries c.admit.new.responses c.self.invariant.0 c.self.invariant.1 N c.requires.heavy c.in_default.ensures.admitted c.in_default.ensures.queries_listed c.in_default.ensures.queries_filled c.in_default.ensures.responses_listed c.in_default.ensures.responses_filled in
    let F = push_facts g.E.Keyed.view w i.count i.weight c.args.event next c.admit.new.places.items c.self.invariant.0 N c.requires.heavy light A.puts in
    (subst (λ n. Keeps g.E.Keyed.view (grown w next c.admit.new.places.items) (i.count + 1) (i.weight + n)) (sym c.weight-weight.ensures) F.keeps, A.keeps)

pub returns-clause-pushed : goal.returns-clause-pushed
returns-clause-pushed g c =
    let i = c.self.inside in
    let w : Seen g.row.E.Denot = record { windows = i.windows; finished = i.finished; first = i.first; clock = i.clock; weight_sum = i.weight_sum; held = i.places.items } in
    let next : Stamp = record { index = i.first + c.len.result; clock = c.max.result; weight_sum = i.weight_sum + c.weight.result } in
    let N : IsNext g.E.Keyed.view w c.args.event next = record {
      index = ap (λ (n : ℕ). i.first + n) (c.len.ensures ∙ i.places.ok.0);
      clock = c.max.ensures ∙ ap (max i.clock) c.time.ensures;
      weight_sum = ap (λ (n : ℕ). i.weight_sum + n) c.weight.ensures;
    } in
    let light = subst (λ x. x.weight_sum + (g.E.Keyed.view c.args.event).weight < 2 ^ 63) (sym c.self.view_is) c.requires.light in
    let ready : is_ready g.E.Keyed.view w ≡ false = subst (λ x. is_ready g.E.Keyed.view x ≡ false) (sym c.self.view_is) c.requires.due in
    let A = admit_facts g.E.Keyed.view w i.count i.weight c.args.event next c.admit.new.places.items i.queries i.responses c.admit.new.queries c.admit.new.responses c.self.invariant.0 c.self.invariant.1 N c.requires.heavy c.in_default.ensures.admitted c.in_default.ensures.queries_listed c.in_default.ensures.queries_filled c.in_default.ensures.responses_listed c.in_default.ensures.responses_filled in
    let F = push_facts g.E.Keyed.view w i.count i.weight c.args.event next c.admit.new.places.items c.self.invariant.0 N c.requires.heavy light A.puts in
    subst (λ x. IsPushed g.E.Keyed.view x c.args.event (grown w next c.admit.new.places.items)) c.self.view_is F.pushed

pub returns-clause-stands : goal.returns-clause-stands
returns-clause-stands g c =
    let i = c.self.inside in
    let w : Seen g.row.E.Denot = record { windows = i.windows; finished = i.finished; first = i.first; clock = i.clock; weight_sum = i.weight_sum; held = i.places.items } in
    let next : Stamp = record { index = i.first + c.len.result; clock = c.max.result; weight_sum = i.weight_sum + c.weight.result } in
    let N : IsNext g.E.Keyed.view w c.args.event next = record {
      index = ap (λ (n : ℕ). i.first + n) (c.len.ensures ∙ i.places.ok.0);
      clock = c.max.ensures ∙ ap (max i.clock) c.time.ensures;
      weight_sum = ap (λ (n : ℕ). i.weight_sum + n) c.weight.ensures;
    } in
    let light = subst (λ x. x.weight_sum + (g.E.Keyed.view c.args.event).weight < 2 ^ 63) (sym c.self.view_is) c.requires.light in
    let ready : is_ready g.E.Keyed.view w ≡ false = subst (λ x. is_ready g.E.Keyed.view x ≡ false) (sym c.self.view_is) c.requires.due in
    let A = admit_facts g.E.Keyed.view w i.count i.weight c.args.event next c.admit.new.places.items i.queries i.responses c.admit.new.queries c.admit.new.responses c.self.invariant.0 c.self.invariant.1 N c.requires.heavy c.in_default.ensures.admitted c.in_default.ensures.queries_listed c.in_default.ensures.queries_filled c.in_default.ensures.responses_listed c.in_default.ensures.responses_filled in
    let F = push_facts g.E.Keyed.view w i.count i.weight c.args.event next c.admit.new.places.items c.self.invariant.0 N c.requires.heavy light A.puts in
    λ pushed popped S. pushed_stands g.E.Keyed.view w c.args.event (grown w next c.admit.new.places.items) pushed popped
    (subst (λ x. StandsFor g.E.Keyed.view x pushed popped) (sym c.self.view_is) S) (subst (λ x. x.finished ≡ false) (sym c.self.view_is) c.requires.going) c.requires.heavy F.pushed
