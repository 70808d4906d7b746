use Rattle.cd_file.proofs.MapSizes.{classtype_short, malformed_data_short, item_short, statistics_short}
use Rattle.cd_file.proofs.size_laws.maps_of_blocks_are_short.Goals as goal

pub returns : goal.returns
returns c = record { classtype = classtype_short; malformed_data = malformed_data_short; item = item_short; statistics = statistics_short }
