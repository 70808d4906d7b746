-- A key from 0 goes by its line, and a key below 0 has none.
use Rattle.std.proofs.Common.{refl}
use Rattle.cd_file.specs.MapReading.{value_read}
use Rattle.cd_file.proofs.reading.maps.read_value.Goals as goal

pub returns-in-Unsigned : goal.returns-in-Unsigned
unfolding value_read
returns-in-Unsigned g c = rw c.in-Unsigned.is (λ item end is. c.read_value.ensures item end is)

pub returns-in-Negative : goal.returns-in-Negative
unfolding value_read
returns-in-Negative g c = rw c.in-Negative.is (λ item end is. rw (c.passed_over.ensures item end is) (refl, refl))
