-- The reader of an item by the reader of those in it.
use Rattle.std.proofs.Common.{◌≡◌, ℕ, zero, suc, ◌-◌, ◌/◌, ◌%◌, List, refl, arith}
use Rattle.cd_cbor.specs.Heads.{major_type}
use Rattle.cd_cbor.specs.Readings.{byte_at}
use Rattle.cd_cbor.specs.Reading.{ItemReader, array_at, map_at, tagged_at, open_array_at, open_map_at, definite_at, indefinite_at, item_by, item_at}
use Rattle.cd_cbor.proofs.Binds.{bind_same}
use Rattle.cd_cbor.specs.declared.fault.Why.{Why}
use Rattle.cd_cbor.specs.declared.major_type.MajorType.{MajorType}
use Rattle.cd_cbor.specs.declared.major_type.MajorType.TheVariants as major

-- where nothing may be open, it does not matter how inner items are read
definite_closed : (f g : ItemReader) (kind : MajorType) (info at : ℕ) (bytes : List ℕ) → definite_at 0 f kind info at bytes ≡ definite_at 0 g kind info at bytes
unfolding definite_at array_at map_at tagged_at
definite_closed f g major.Unsigned info at bytes = refl
definite_closed f g major.Negative info at bytes = refl
definite_closed f g major.Bytes info at bytes = refl
definite_closed f g major.Text info at bytes = refl
definite_closed f g major.Array info at bytes = refl
definite_closed f g major.Map info at bytes = refl
definite_closed f g major.Tag info at bytes = refl
definite_closed f g major.Simple info at bytes = refl

indefinite_closed : (f g : ItemReader) (broken : Why) (kind : MajorType) (at : ℕ) (bytes : List ℕ) → indefinite_at 0 f broken kind at bytes ≡ indefinite_at 0 g broken kind at bytes
unfolding indefinite_at open_array_at open_map_at
indefinite_closed f g broken major.Unsigned at bytes = refl
indefinite_closed f g broken major.Negative at bytes = refl
indefinite_closed f g broken major.Bytes at bytes = refl
indefinite_closed f g broken major.Text at bytes = refl
indefinite_closed f g broken major.Array at bytes = refl
indefinite_closed f g broken major.Map at bytes = refl
indefinite_closed f g broken major.Tag at bytes = refl
indefinite_closed f g broken major.Simple at bytes = refl

item_closed : (f g : ItemReader) (broken : Why) (at : ℕ) (bytes : List ℕ) → item_by 0 f broken at bytes ≡ item_by 0 g broken at bytes
unfolding item_by
item_closed f g broken at bytes =
    bind_same (byte_at at bytes) _ _
    (λ first. rw (definite_closed f g (major_type (first / 32)) (first % 32) at bytes, indefinite_closed f g broken (major_type (first / 32)) at bytes) refl)

-- an item is read by the reader that may open one less
pub item_at_is : (depth : ℕ) (bytes : List ℕ) (broken : Why) (at : ℕ) → item_at depth bytes broken at ≡ item_by depth (item_at (depth - 1) bytes) broken at bytes
unfolding item_at
item_at_is zero bytes broken at = item_closed _ _ broken at bytes
item_at_is (suc depth) bytes broken at = let e : suc depth - 1 ≡ depth = omega arith in rw e refl
