use Rattle.cd_file.proofs.MapSizes.{signature_short, question_short, rr_short, malformed_short}
use Rattle.cd_file.proofs.size_laws.maps_of_numbers_are_short.Goals as goal

pub returns : goal.returns
returns c = record { signature = signature_short; question = question_short; rr = rr_short; malformed = malformed_short }
