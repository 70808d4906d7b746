-- A head that opens something is read only where one more may be open.
use Rattle.std.proofs.Common.{ℕ, ◌<◌, inl, inr}
use Rattle.std.specs.Prelude.{nat_eq}
use Rattle.std.proofs.lemmas.Bool.{cases_Bool}
use Rattle.cd_cbor.specs.Events.{HasRoom, array_act, map_act}
use Rattle.cd_cbor.specs.declared.event.Event.{Event}
use Rattle.cd_cbor.specs.declared.event.Told.TheVariants as told

pub array_room : (room count : ℕ) (e : Event) → 0 < room → HasRoom room (told.Event e (array_act count))
array_room room count e some =
    elim (cases_Bool (nat_eq count 0)) [
      | inl none ↦ rw none tt
      | inr more ↦ rw more some
    ]

pub map_room : (room count : ℕ) (e : Event) → 0 < room → HasRoom room (told.Event e (map_act count))
map_room room count e some =
    elim (cases_Bool (nat_eq count 0)) [
      | inl none ↦ rw none tt
      | inr more ↦ rw more some
    ]
