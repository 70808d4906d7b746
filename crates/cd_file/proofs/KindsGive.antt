-- The ranges of the values of each kind that is read.
use Rattle.std.proofs.Common.{◌≡◌, ℕ, ◌^◌, ◌<◌, ◌≤◌, Bool, true, false, cond, List, length, Option, Some, None, refl, subst}
use Rattle.std.specs.Prelude.{nat_lt, nat_le, ℤ, pos, negsuc, IfSome, option_map}
use Rattle.std.specs.List.{AllByRecursion}
use Rattle.std.proofs.lemmas.Bool.{ltb-true, leb-true}
use Rattle.cd_cbor.specs.declared.item.Item.{Item}
use Rattle.cd_cbor.specs.declared.item.Item.TheViews.{out-Item}
use Rattle.cd_cbor.specs.declared.item.Item.TheOpen.{Item-F}
use Rattle.cd_file.specs.Kinds.{Kind, unsigned, unsigned_below, unsigned_if_below, signed, signed_in, byte_string, short_byte_string, below, at_most, or_shape, items_in, filled, filled_array_of}
use Rattle.cd_file.specs.Readable.{IsSigned}
use Rattle.cd_file.proofs.MapsKeep.{bind_read, read_same, shape_read, KindGives, each_gives}

some_same : {A : Type 0} (x y : A) → ◌≡◌ {A = Option A} (Some x) (Some y) → x ≡ y
some_same x y h = cc

-- a number that is below its bound
below_by : (bound n m : ℕ) (is_low : Bool) → nat_lt n bound ≡ is_low → cond is_low (Some n) None ≡ Some m → m < bound
below_by bound n m true low is = subst (λ k. k < bound) (some_same n m is) (ltb-true n bound low)
below_by bound n m false low is = absurd cc

below_some : (bound n m : ℕ) → below bound n ≡ Some m → m < bound
below_some bound n m is = below_by bound n m (nat_lt n bound) refl is

if_below : (bound n : ℕ) (o : Option ℕ) → below bound n ≡ o → IfSome o (λ m. m < bound)
if_below bound n None is = tt
if_below bound n (Some m) is = below_some bound n m is

-- a number below a bound
pub below_gives : (bound : ℕ) → KindGives (unsigned_below bound) (λ n. n < bound)
unfolding unsigned_below
below_gives bound = record {
  gives = λ key item value h.
      let k = bind_read (unsigned key item) _ value h in below_some bound k.0 value (shape_read key (below bound k.0) value k.2);
}

-- a number that is passed over unless it is below a bound
pub if_below_gives : (bound : ℕ) → KindGives (unsigned_if_below bound) (λ v. IfSome v (λ n. n < bound))
unfolding unsigned_if_below
if_below_gives bound = record {
  gives = λ key item value h.
      let k = bind_read (unsigned key item) _ value h in if_below bound k.0 value (read_same (below bound k.0) value k.2);
}

pos_some : (o : Option ℕ) (z : ℤ) → ((n : ℕ) → o ≡ Some n → n < 2 ^ 63) → option_map pos o ≡ Some z → IsSigned z
pos_some None z low is = absurd cc
pos_some (Some n) z low is = subst IsSigned (some_same (pos n) z is) (low n refl)

neg_some : (o : Option ℕ) (z : ℤ) → ((n : ℕ) → o ≡ Some n → n < 2 ^ 63) → option_map negsuc o ≡ Some z → IsSigned z
neg_some None z low is = absurd cc
neg_some (Some n) z low is = subst IsSigned (some_same (negsuc n) z is) (low n refl)

signed_some : (seen : Item-F Item) (z : ℤ) → signed_in seen ≡ Some z → IsSigned z
signed_some (Item-F.Uint n) z is = pos_some (below (2 ^ 63) n) z (λ m. below_some (2 ^ 63) n m) is
signed_some (Item-F.Nint n) z is = neg_some (below (2 ^ 63) n) z (λ m. below_some (2 ^ 63) n m) is
signed_some _ z is = absurd cc

-- a signed number
pub signed_gives : KindGives signed IsSigned
unfolding signed
signed_gives = record { gives = λ key item value h. signed_some (out-Item item) value (shape_read key (signed_in (out-Item item)) value h) }

short_by : (most : ℕ) (content value : List ℕ) (is_short : Bool) → nat_le (length content) most ≡ is_short → cond is_short (Some content) None ≡ Some value → length value ≤ most
short_by most content value true short is = subst (λ (bytes : List ℕ). length bytes ≤ most) (some_same content value is) (leb-true (length content) most short)
short_by most content value false short is = absurd cc

-- a string of few bytes
pub short_gives : (most : ℕ) → KindGives (short_byte_string most) (λ bytes. length bytes ≤ most)
unfolding short_byte_string
short_gives most = record {
  gives = λ key item value h.
      let k = bind_read (byte_string key item) _ value h in
      short_by most k.0 value (nat_le (length k.0) most) refl (shape_read key (at_most most k.0) value k.2);
}

-- an array of at least one value
pub filled_gives : {A : Type 0} (Q : A → Type 0) (kind : Kind A) → KindGives kind Q → KindGives (filled_array_of kind) (AllByRecursion Q)
unfolding filled_array_of
filled_gives Q kind of = record {
  gives = λ key item values h.
      let k = bind_read (or_shape key (items_in (out-Item item))) _ values h in
      let l = bind_read (or_shape key (filled k.0)) _ values k.2 in each_gives Q kind of key l.0 values l.2;
}
