-- A time is read of the two numbers of its array.
use Rattle.std.proofs.Common.{◌≡◌, ℕ, ◌<◌, ◌≤◌, List, [], ◌∷◌, length, Some, Ok, Err, refl, ap, arith}
use Rattle.std.specs.Prelude.{ℤ, slice_index_or}
use Rattle.cd_cbor.specs.declared.item.Item.{Item}
use Rattle.cd_block.specs.declared.stamp.Stamp.{Stamp}
use Rattle.cd_file.specs.declared.reading.fault.ItemFault.{ItemFault}
use Rattle.cd_file.specs.declared.reading.fault.ItemFault.TheVariants as fault
use Rattle.cd_file.specs.Refusing.{◌>>=◌}
use Rattle.cd_file.specs.Kinds.{or_shape, unsigned, array_of, stamp, stamp_in}
use Rattle.cd_file.specs.ItemReading.{Reads}

pub two_numbers : (numbers : List ℕ) → 2 ≤ length numbers → length numbers < 3 → Some (record { seconds = slice_index_or numbers 0 0; ticks = slice_index_or numbers 1 0 }) ≡ stamp_in numbers
two_numbers [] low high = absurd (omega (arith, low))
two_numbers (a ∷ []) low high = absurd (omega (arith, low))
two_numbers (a ∷ b ∷ []) low high = refl
two_numbers (a ∷ b ∷ n ∷ numbers) low high = absurd (omega (arith, high))

pub stamp_fault : (key : ℤ) (item : Item) (end : ℕ) (f : ItemFault) → Reads (λ (numbers : List ℕ). numbers) (Err f) (array_of unsigned key item) end → Reads (λ (s : Stamp). s) (Err f) (stamp key item) end
unfolding stamp
stamp_fault key item end fault.NoMemory reads = tt
stamp_fault key item end (fault.Refused reason) reads = ap (λ r. r >>= (λ numbers. or_shape key (stamp_in numbers))) reads

pub stamp_read : (key : ℤ) (item : Item) (end : ℕ) (numbers : List ℕ) (next : ℕ) (time : Stamp) → Reads (λ (xs : List ℕ). xs) (Ok (numbers, next)) (array_of unsigned key item) end →
    stamp_in numbers ≡ Some time → (stamp key item ≡ Ok time) × (next ≡ end)
unfolding stamp
stamp_read key item end numbers next time reads is = (rw reads.0 (ap (or_shape key) is), reads.1)
