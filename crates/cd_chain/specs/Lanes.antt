-- What stands in each lane: the links of a slot, and the numbers of lists.
use Rattle.std.specs.Prelude.{ℕ, eqb, if◌then◌else◌, List, [], Option, None, slice_index_or}
use Rattle.cd_chain.specs.declared.link.Link.{Link}
use Rattle.cd_chain.specs.declared.link.Links.{Links}
use Rattle.cd_chain.specs.declared.lane.Row.{Row}
use Rattle.cd_chain.specs.declared.lane.Row.TheVariants.{Free}
use Rattle.cd_chain.specs.declared.lane.Lanes.{Lanes}

-- of three values the one of this lane, and the last one where there is no such lane
abbrev pub by_lane : {X : Type 0} → ℕ → X → X → X → X → X
by_lane lane a b c d = if eqb lane 0 then a else (if eqb lane 1 then b else (if eqb lane 2 then c else d))

-- the link of a slot that stands in no list of a lane
abbrev pub no_link : Link
no_link = record { list = None; before = None; after = None }

-- the links of a slot that stands in no list
abbrev pub no_links : Links
no_links = record { first = no_link; second = no_link; third = no_link }

-- the link of a slot in a lane
abbrev pub lane_link : Links → ℕ → Link
lane_link links lane = by_lane lane links.first links.second links.third no_link

-- what stands under the numbers of a lane's lists
abbrev pub rows_in : Lanes → ℕ → List Row
rows_in lanes lane = by_lane lane lanes.first.rows.items lanes.second.rows.items lanes.third.rows.items []

-- the free number of a lane that is given out next
abbrev pub free_in : Lanes → ℕ → Option ℕ
free_in lanes lane = by_lane lane lanes.first.free lanes.second.free lanes.third.free None

-- what stands under a number
abbrev pub row_at : List Row → ℕ → Row
row_at rows k = slice_index_or rows k (Free None)
