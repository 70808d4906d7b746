-- The order of packets: by their times, and packets of one time stay in their order.
use Rattle.std.specs.Prelude.{ℕ, nat_le, List, [], ◌∷◌, if◌then◌else◌}
use Rattle.cd_rebuild.specs.declared.rebuilt_block.Raw.{Raw}

-- a packet before the first of these that is not earlier
abbrev pub put_by_time : Raw → List Raw → List Raw
put_by_time p [] = p ∷ []
put_by_time p (q ∷ more) = if nat_le p.time q.time then p ∷ q ∷ more else q ∷ put_by_time p more

-- packets in the order of their times, and those of one time in the order that they had
abbrev pub by_time : List Raw → List Raw
by_time [] = []
by_time (p ∷ more) = put_by_time p (by_time more)
