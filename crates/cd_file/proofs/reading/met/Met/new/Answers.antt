-- No place is taken, and no other key is there.
use Rattle.std.proofs.Common.{refl}
use Rattle.cd_file.specs.Meeting.{low_place}
use Rattle.cd_file.proofs.EntriesMet.{none_at}
use Rattle.cd_file.proofs.reading.met.Met.new.Goals as goal

pub returns : goal.returns
returns c = λ key. none_at 64 (low_place key) _ (rw c.new.ensures.empty refl)
