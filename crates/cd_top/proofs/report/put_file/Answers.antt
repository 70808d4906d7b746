use Rattle.std.proofs.Common.{ℕ, List, ◌++◌}
use Rattle.std.specs.Prelude.{codes}
use Rattle.cd_engine.specs.Filing.{one_if}
use Rattle.cd_top.specs.Reports.{count_line, file_lines}
use Rattle.cd_top.proofs.Reporting.{further}
use Rattle.cd_top.proofs.report.put_file.Goals as goal

pub returns : goal.returns
unfolding file_lines
returns c =
    let t0 : List ℕ = c.args.text.now.bytes.items in
    let t1 : List ℕ = c.put_count.new.text.bytes.items in
    let t2 : List ℕ = c.put_count-2.new.text.bytes.items in
    let t3 : List ℕ = c.put_count-3.new.text.bytes.items in
    let t4 : List ℕ = c.put_count-4.new.text.bytes.items in
    let t5 : List ℕ = c.put_flag.new.text.bytes.items in
    let l1 : List ℕ = count_line (codes "dropped-records") c.args.counts.now.dropped in
    let l2 : List ℕ = count_line (codes "blocks") c.args.counts.now.blocks in
    let l3 : List ℕ = count_line (codes "items") c.args.counts.now.items in
    let l4 : List ℕ = count_line (codes "pairs") c.args.counts.now.pairs in
    let l5 : List ℕ = count_line (codes "cut") (one_if c.args.counts.now.cut) in
    further t0 t4 t5 (l1 ++ l2 ++ l3 ++ l4) l5
    (further t0 t3 t4 (l1 ++ l2 ++ l3) l4
    (further t0 t2 t3 (l1 ++ l2) l3
    (further t0 t1 t2 (l1) l2
    (c.in_ok-put_count.ensures)
    c.in_ok-put_count-2.ensures)
    c.in_ok-put_count-3.ensures)
    c.in_ok-put_count-4.ensures)
    c.in_ok-put_flag.ensures
