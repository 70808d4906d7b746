-- Scaffolding, which only contracts of private functions cite: how the next event finds its partner.
use Rattle.std.specs.Prelude.{◌≡◌, ℕ, ◌+◌, ◌-◌, ◌<◌, ◌^◌, List, length, Option, None}
use Rattle.std.specs.List.{filter}
use Rattle.cd_pairing.specs.declared.keyed.TheConstants.{LEAST_WEIGHT}
use Rattle.cd_pairing.specs.declared.keyed.Side.{Side}
use Rattle.cd_pairing.specs.declared.keyed.Side.TheVariants.{Query, Response, Neither}
use Rattle.cd_pairing.specs.declared.keyed.Windows.{Windows}
use Rattle.cd_pairing.specs.Events.{EventView}
use Rattle.cd_window.specs.declared.stamps.Stamp.{Stamp}
use Rattle.cd_window.specs.declared.waiting.Waiting.{Waiting}
use Rattle.cd_window.specs.Seen.{Places}
use Rattle.cd_window.specs.Places.{HoldsNext}
use Rattle.cd_window.specs.Waiting.{Waits, waits_with, waits_still, AreRising, AllBefore, agreeing, joined_by, left_of}
use Rattle.cd_window.specs.Lists.{waits_in, IsListed, HasNoEmpty}

-- A window that is open for an event of the least weight by this stamp has the next event in it.
abbrev pub before_next : Stamp → Stamp
before_next next = record {
  index = next.index;
  clock = next.clock;
  weight_sum = next.weight_sum - LEAST_WEIGHT;
}

-- the stamp of all events once the next one came
abbrev pub after_next : Stamp → Stamp
after_next next = record { index = next.index + 1; clock = next.clock; weight_sum = next.weight_sum }

-- events wait that all came before these, and there are few enough for one more
pub record CanJoin (x : Waiting) (i clock weight_sum : ℕ) : Type 0 where
  pub listed : IsListed x
  pub filled : HasNoEmpty x
  pub rising : AreRising (waits_in x)
  pub before : AllBefore i clock weight_sum (waits_in x)
  pub few : length (waits_in x) + 1 < 2 ^ 31

-- The next event of this side meets the first that agrees with it, of those of the other side in whose windows it comes,
-- and else waits. Windows that it closes are let go of.
pub record Meets (windows : Windows) (side other : Side) (x : Waits) (next : Stamp) (met : Option ℕ)
    (own others own' others' : List Waits) : Type 0 where
  pub found : met ≡ agreeing x (filter (waits_still windows other (before_next next)) others)
  pub own_left : own' ≡ filter (waits_still windows side (after_next next)) (joined_by met x own)
  pub others_left : others' ≡ filter (waits_still windows other (after_next next)) (left_of met others)

-- the next event of this side meets one of the other side or waits, and what is neither closes windows alone
abbrev pub Joins : Windows → Side → Waits → Stamp → Option ℕ → List Waits → List Waits → List Waits → List Waits →
    Type 0
Joins windows Query x next met qs rs qs' rs' = Meets windows Query Response x next met qs rs qs' rs'
Joins windows Response x next met qs rs qs' rs' = Meets windows Response Query x next met rs qs rs' qs'
Joins windows Neither x next met qs rs qs' rs' =
    (met ≡ None) × (qs' ≡ filter (waits_still windows Query (after_next next)) qs)
    × (rs' ≡ filter (waits_still windows Response (after_next next)) rs)

-- the next event is held, with the partner that it meets
pub record Admits {E : Type 0} (view : E → EventView) (windows : Windows) (first : ℕ) (e : E) (next : Stamp)
    (old new : Places E) (qs rs qs' rs' : List Waits) : Type 0 where
  pub met : Option ℕ
  pub joins :
      Joins windows (view e).side (waits_with (view e) next.index next.clock next.weight_sum) next met qs rs qs' rs'
  pub holds : HoldsNext first old e next met new
