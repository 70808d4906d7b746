-- A block before it is filled, and the resource records that are put into it.
use Rattle.std.specs.Prelude.{ℕ, Bool, ◌||◌, ◌&&◌, not, List, [], Option, Some}
use Rattle.cd_block.specs.declared.kept.KeptBlock.{KeptBlock}
use Rattle.cd_block.specs.declared.stamp.Stamp.{Stamp}
use Rattle.cd_block.specs.declared.stats.Stats.{Stats}
use Rattle.cd_message.specs.declared.message.Rr.{Rr}
use Rattle.cd_message.specs.Valid.{is_opt}
use Rattle.cd_hints.specs.Lists.{is_listed_record}

-- a block with this earliest time and these statistics, and nothing in it
abbrev pub empty_block : Option Stamp → Stats → KeptBlock
empty_block earliest stats = record { earliest = earliest; params = 0; stats = Some stats; items = []; malformed = [] }

-- a resource record is kept in a list of these types, with OPT records or without
abbrev pub is_kept : List ℕ → Bool → Rr → Bool
is_kept types with_opt r = (with_opt || not (is_opt r)) && is_listed_record types r
