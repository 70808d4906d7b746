use Rattle.std.proofs.Common.{ℕ, List, ◌++◌}
use Rattle.std.specs.Prelude.{codes, slice_index}
use Rattle.cd_top.specs.Reports.{count_line, other_skip_lines}
use Rattle.cd_top.proofs.Reporting.{further}
use Rattle.cd_top.proofs.report.put_other_skips.Goals as goal

pub returns : goal.returns
unfolding other_skip_lines
returns c =
    let t0 : List ℕ = c.args.text.now.bytes.items in
    let t1 : List ℕ = c.put_skipped.new.text.bytes.items in
    let t2 : List ℕ = c.put_skipped-2.new.text.bytes.items in
    let t3 : List ℕ = c.put_skipped-3.new.text.bytes.items in
    let t4 : List ℕ = c.put_skipped-4.new.text.bytes.items in
    let l1 : List ℕ = count_line (codes "skipped-port") (slice_index c.args.counts.now.skipped 5) in
    let l2 : List ℕ = count_line (codes "skipped-cut") (slice_index c.args.counts.now.skipped 6) in
    let l3 : List ℕ = count_line (codes "skipped-time") (slice_index c.args.counts.now.skipped 7) in
    let l4 : List ℕ = count_line (codes "skipped-no-time") (slice_index c.args.counts.now.skipped 8) in
    further t0 t3 t4 (l1 ++ l2 ++ l3) l4
    (further t0 t2 t3 (l1 ++ l2) l3
    (further t0 t1 t2 (l1) l2
    (c.in_ok-put_skipped.ensures)
    c.in_ok-put_skipped-2.ensures)
    c.in_ok-put_skipped-3.ensures)
    c.in_ok-put_skipped-4.ensures
