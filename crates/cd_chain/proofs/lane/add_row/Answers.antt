use Rattle.std.proofs.Common.{◌≡◌, ◌<◌, ◌^◌, length, ◌∙◌, sym, ap, subst, List, ℕ, Option, arith}
use Rattle.cd_chain.specs.declared.lane.Row.{Row}
use Rattle.cd_chain.specs.Lanes.{rows_in, free_in, row_at}
use Rattle.cd_chain.specs.Cells.{AreFree, row_cells, used_cells}
use Rattle.cd_chain.specs.Lists.{AddsRow}
use Rattle.cd_chain.proofs.Rows.{free_row_gone, adds_freed, all_there}
use Rattle.cd_chain.proofs.lane.add_row.Goals as goal

pub next_free-next-requires-clause-free : goal.next_free-next-requires-clause-free
next_free-next-requires-clause-free c = rw c.rows_in.ensures (free_row_gone (rows_in c.args.lanes.now c.args.lane) c.in-Some.list
    (subst (λ (h : Option ℕ). AreFree (row_cells (rows_in c.args.lanes.now c.args.lane)) h) (sym c.in-Some.ensures) c.requires.frees))

pub returns-in-Some-clause-ok : goal.returns-in-Some-clause-ok
returns-in-Some-clause-ok c = subst (λ (h : Option ℕ). AddsRow (rows_in c.args.lanes.now c.args.lane) (rows_in c.set_free.new.lanes c.args.lane) h c.in-Some.list) (sym c.set_free.ensures.free)
    (adds_freed (rows_in c.args.lanes.now c.args.lane) (rows_in c.set_free.new.lanes c.args.lane) c.in-Some.list c.next_free-next.result (free_in c.args.lanes.now c.args.lane) (sym c.in-Some.ensures) c.requires.frees
    (ap (λ (rows : List Row). row_at rows c.in-Some.list) (sym c.rows_in.ensures) ∙ c.next_free-next.ensures) (c.set_free.ensures.rows c.args.lane ∙ c.set_row.ensures.rows))

pub overflow_cast-list-in-None : goal.overflow_cast-list-in-None
overflow_cast-list-in-None c =
    let all : used_cells (row_cells (rows_in c.args.lanes.now c.args.lane)) ≡ length (rows_in c.args.lanes.now c.args.lane) =
    all_there (rows_in c.args.lanes.now c.args.lane) (free_in c.args.lanes.now c.args.lane) (sym c.in-None.ensures) c.requires.frees in
    let few : length c.rows_in-in-None.result.now < 2 ^ 31 = rw c.rows_in-in-None.ensures (subst (λ (n : ℕ). n < 2 ^ 31) all c.requires.room) in
    omega arith
