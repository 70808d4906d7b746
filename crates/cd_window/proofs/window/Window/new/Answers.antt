use Rattle.std.proofs.Common.{false, [], sym, subst}
use Rattle.cd_window.specs.Seen.{Seen}
use Rattle.cd_window.specs.History.{StandsFor}
use Rattle.cd_window.specs.Keeping.{Keeps}
use Rattle.cd_window.specs.Lists.{KeepsWaiting}
use Rattle.cd_window.proofs.Empty.{empty_stands, empty_keeps}
use Rattle.cd_window.proofs.window.Window.new.Goals as goal

pub invariant_of-result : goal.invariant_of-result
invariant_of-result g c = subst
    (λ hs. let w : Seen g.row.E.Denot = record { windows = c.args.windows; finished = false; first = 0; clock = 0; weight_sum = 0; held = hs } in
    Keeps g.E.Keyed.view w 0 0 × KeepsWaiting g.E.Keyed.view w c.in_ok-queries.queries c.in_ok-responses.responses)
    (sym c.new-3.ensures.items) (
      empty_keeps g.E.Keyed.view c.args.windows c.requires.some c.requires.few,
      record {
        queries_wait = record { listed = c.in_ok-queries.ensures.listed; filled = c.in_ok-queries.ensures.filled; waits_are = c.in_ok-queries.ensures.empty };
        responses_wait = record { listed = c.in_ok-responses.ensures.listed; filled = c.in_ok-responses.ensures.filled; waits_are = c.in_ok-responses.ensures.empty };
      },
    )

pub returns-clause-stands : goal.returns-clause-stands
returns-clause-stands g c = subst
    (λ hs. let w : Seen g.row.E.Denot = record { windows = c.args.windows; finished = false; first = 0; clock = 0; weight_sum = 0; held = hs } in StandsFor g.E.Keyed.view w [] [])
    (sym c.new-3.ensures.items) (empty_stands g.E.Keyed.view c.args.windows)
