use Rattle.cd_size.proofs.DatagramRanges.{datagrams_in_range}
use Rattle.cd_size.proofs.laws.datagrams_are_in_range.Goals as goal

pub returns : goal.returns
returns c = datagrams_in_range
