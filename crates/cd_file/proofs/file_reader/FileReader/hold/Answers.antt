use Rattle.std.proofs.Common.{◌≡◌, ap, ◌∙◌, arith, length-append}
use Rattle.std.proofs.lemmas.List.{drop-append-le}
use Rattle.cd_file.proofs.StepsTaken.{scanned_more}
use Rattle.cd_file.proofs.file_reader.FileReader.hold.Goals as goal

pub invariant_of-self-2 : goal.invariant_of-self-2
invariant_of-self-2 c =
    let few : c.self.inside.fed_count ≡ c.args.self.now.fed_count = ap (λ r. r.fed_count) (c.self.view_is ∙ c.drop_read.ensures) in
    rw c.in_ok-extend_from_slice.ensures.items
    (record {
      within = omega (arith, c.self.invariant.within, length-append c.self.inside.bytes.items c.args.piece.now);
      counted = omega (arith, c.self.invariant.within, c.self.invariant.counted, length-append c.self.inside.bytes.items c.args.piece.now);
      few = omega (arith, few, c.requires);
      given = c.self.invariant.given;
      placed = c.self.invariant.placed;
      scanned =
          rw (drop-append-le c.self.inside.start c.self.inside.bytes.items c.args.piece.now c.self.invariant.within)
          (scanned_more c.self.inside.progress.stage c.self.inside.progress.mark _ c.args.piece.now c.self.invariant.scanned);
    })
