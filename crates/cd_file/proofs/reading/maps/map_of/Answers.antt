-- The fields are read from what they are before the first entry.
use Rattle.cd_file.proofs.reading.maps.map_of.Goals as goal

pub returns-in-Ok : goal.returns-in-Ok
returns-in-Ok g c = λ item end is. rw c.initial-fields.ensures at c.in-Ok.ensures item end is
