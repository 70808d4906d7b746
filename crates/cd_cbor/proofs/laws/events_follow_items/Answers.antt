use Rattle.cd_cbor.proofs.FollowAll.{events_follow}
use Rattle.cd_cbor.proofs.laws.events_follow_items.Goals as goal

pub returns : goal.returns
returns c = events_follow
