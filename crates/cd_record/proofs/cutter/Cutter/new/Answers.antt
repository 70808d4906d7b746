use Rattle.std.proofs.Common.{refl, arith}
use Rattle.std.proofs.lemmas.List.Elements.{All-nil}
use Rattle.cd_hints.specs.Records.{HasKinds}
use Rattle.cd_record.proofs.cutter.Cutter.new.Goals as goal

pub invariant_of-result : goal.invariant_of-result
invariant_of-result c = rw (c.new.ensures.recs, c.new.ensures.tally c.args.settings.now.params.ticks) (record {
  items = c.requires.params.block_items;
  weight = c.requires.block_bytes;
  seconds = c.requires.params.ticks;
  admissible = record { few_items = omega arith; few_malformed = omega arith; light = omega arith };
  kinds = All-nil HasKinds;
  counted = refl;
})
