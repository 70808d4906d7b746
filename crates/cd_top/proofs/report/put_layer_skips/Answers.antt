use Rattle.std.proofs.Common.{ℕ, List, ◌++◌}
use Rattle.std.specs.Prelude.{codes, slice_index}
use Rattle.cd_top.specs.Reports.{count_line, layer_skip_lines}
use Rattle.cd_top.proofs.Reporting.{further}
use Rattle.cd_top.proofs.report.put_layer_skips.Goals as goal

pub returns : goal.returns
unfolding layer_skip_lines
returns c =
    let t0 : List ℕ = c.args.text.now.bytes.items in
    let t1 : List ℕ = c.put_skipped.new.text.bytes.items in
    let t2 : List ℕ = c.put_skipped-2.new.text.bytes.items in
    let t3 : List ℕ = c.put_skipped-3.new.text.bytes.items in
    let t4 : List ℕ = c.put_skipped-4.new.text.bytes.items in
    let t5 : List ℕ = c.put_skipped-5.new.text.bytes.items in
    let l1 : List ℕ = count_line (codes "skipped-link") (slice_index c.args.counts.now.skipped 0) in
    let l2 : List ℕ = count_line (codes "skipped-length") (slice_index c.args.counts.now.skipped 1) in
    let l3 : List ℕ = count_line (codes "skipped-not-ip") (slice_index c.args.counts.now.skipped 2) in
    let l4 : List ℕ = count_line (codes "skipped-fragment") (slice_index c.args.counts.now.skipped 3) in
    let l5 : List ℕ = count_line (codes "skipped-not-udp") (slice_index c.args.counts.now.skipped 4) in
    further t0 t4 t5 (l1 ++ l2 ++ l3 ++ l4) l5
    (further t0 t3 t4 (l1 ++ l2 ++ l3) l4
    (further t0 t2 t3 (l1 ++ l2) l3
    (further t0 t1 t2 (l1) l2
    (c.in_ok-put_skipped.ensures)
    c.in_ok-put_skipped-2.ensures)
    c.in_ok-put_skipped-3.ensures)
    c.in_ok-put_skipped-4.ensures)
    c.in_ok-put_skipped-5.ensures
