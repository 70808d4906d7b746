-- A map is read by its pairs.
use Rattle.std.proofs.Common.{refl}
use Rattle.cd_file.specs.MapReading.{map_from}
use Rattle.cd_file.proofs.reading.maps.read_entries.Goals as goal

pub returns-in-Some : goal.returns-in-Some
unfolding map_from
returns-in-Some g c = λ item end is.
    let seen = c.in-Some.ensures c.args.depth item end is in
    rw seen.1 (c.read_pairs.ensures seen.0 end (rw c.saturating_sub.ensures seen.2))

pub returns-in-None : goal.returns-in-None
unfolding map_from
returns-in-None g c = λ item end is.
    let seen = c.in-None.ensures c.args.depth item end is in
    rw (c.shape.ensures, seen) refl
