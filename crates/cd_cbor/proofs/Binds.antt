-- What stands after a reading, and what it tells of those before.
use Rattle.std.proofs.Common.{◌≡◌, Bool, true, false, cond, Result, Ok, Err, refl}
use Rattle.cd_cbor.specs.declared.fault.CborFault.{CborFault}
use Rattle.cd_cbor.specs.declared.fault.CborFault.TheVariants as fault
use Rattle.cd_cbor.specs.Readings.{◌>>=◌, GivesFault}

-- two readings that give a value both gave one
pub bind_ok : {A B : Type 0} (r : Result A CborFault) (f : A → Result B CborFault) (y : B) → (r >>= f) ≡ Ok y → (x : A) × (r ≡ Ok x) × (f x ≡ Ok y)
bind_ok (Ok x) f y h = (x, refl, h)
bind_ok (Err e) f y h = absurd (cc)

-- readings that go on in the same way are the same
pub bind_same : {A B : Type 0} (r : Result A CborFault) (f g : A → Result B CborFault) → ((x : A) → f x ≡ g x) → (r >>= f) ≡ (r >>= g)
bind_same (Ok x) f g h = h x
bind_same (Err e) f g h = refl

-- equal readings give equal values
pub ok_same : {A : Type 0} (x y : A) → ◌≡◌ {A = Result A CborFault} (Ok x) (Ok y) → x ≡ y
ok_same x y h = cc

-- a fault is no value
pub not_ok : {A : Type 0} (e : CborFault) (x : A) → ◌≡◌ {A = Result A CborFault} (Err e) (Ok x) → ⊥
not_ok e x h = cc

-- a value that is given if a test holds
pub if_ok_else : {A : Type 0} (b : Bool) (e : CborFault) (r : Result A CborFault) (y : A) → cond b r (Err e) ≡ Ok y → (b ≡ true) × (r ≡ Ok y)
if_ok_else true e r y h = (refl, h)
if_ok_else false e r y h = absurd (not_ok e y h)

-- a value that is given unless a test holds
pub if_err_else : {A : Type 0} (b : Bool) (e : CborFault) (r : Result A CborFault) (y : A) → cond b (Err e) r ≡ Ok y → (b ≡ false) × (r ≡ Ok y)
if_err_else true e r y h = absurd (not_ok e y h)
if_err_else false e r y h = (refl, h)

-- a fault of the first of two readings is one of both
pub fault_first : {A B : Type 0} (e : CborFault) (r : Result A CborFault) (read : A → Result B CborFault) → GivesFault e r → GivesFault e (r >>= read)
fault_first fault.NoMemory r read h = tt
fault_first (fault.Bad at why) r read h = rw h refl
