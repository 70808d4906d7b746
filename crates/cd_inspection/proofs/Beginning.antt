-- An inspection that was fed nothing.
use Rattle.std.proofs.Common.{◌≡◌, false, [], length, None, refl, sym, ◌∙◌}
use Rattle.cd_file.specs.FileGrowth.{nothing_read}
use Rattle.cd_file.specs.FileReading as reader
use Rattle.cd_file.specs.KeptFile.{kept_file, kept_blocks}
use Rattle.cd_inspection.specs.Growing.{nothing_unrefused}
use Rattle.cd_inspection.specs.Inspecting.{Rendering, inspected, inspected_in}
use Rattle.cd_inspection.specs.Standing.{InspectionSeen, InspectionStands, so_far}

module _ {C : Type 0} (r : Rendering C) (m : InspectionSeen C) where
  none_inspected : m.counts ≡ r.no_counts → m.output ≡ r.begins → so_far m [] ≡ inspected_in r (kept_file [])
  unfolding kept_file kept_blocks inspected
  none_inspected counts output = rw nothing_read (λ i. record { bytes = output i; counts = counts i })

  none_counted : m.block_count ≡ 0 → m.block_count ≡ length (kept_file []).blocks
  unfolding kept_file kept_blocks
  none_counted none = rw nothing_read none

  pub stands_at_first : m.spent ≡ false → m.refused ≡ None → m.is_whole ≡ false → m.block_count ≡ 0 → m.counts ≡ r.no_counts → m.output ≡ r.begins →
      reader.StandsFor m.reader [] [] → m.reader.refused ≡ None → m.reader.params ≡ None → InspectionStands r m [] []
  stands_at_first fresh unrefused going none counts output reads none_refused params = record {
    fresh = fresh;
    taken = record {
      refusal = unrefused ∙ sym nothing_unrefused;
      number = none_counted none;
      inspected = none_inspected counts output;
      goes_on = λ _. record {
        given = [];
        kept = [];
        reads = reads;
        unrefused = none_refused;
        resolved = refl;
        blocks = rw nothing_read refl;
        end = rw (nothing_read, going) refl;
        params = params ∙ rw nothing_read refl;
      };
    };
  }
