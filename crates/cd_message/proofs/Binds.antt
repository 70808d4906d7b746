-- What stands after a reading that gives a value.
use Rattle.std.proofs.Common.{◌≡◌, ℕ, Bool, List, Result, Ok, Err, refl, true, false, cond}
use Rattle.cd_name.specs.declared.fault.NameWhy.{NameWhy}
use Rattle.cd_message.specs.declared.message.MsgWhy.{MsgWhy}
use Rattle.cd_message.specs.Readings.{◌>>=◌}
use Rattle.cd_message.specs.Messages.{name_reading}

-- two readings that give a value both gave one
pub bind_ok : {A B : Type 0} (r : Result A MsgWhy) (f : A → Result B MsgWhy) (y : B) → (r >>= f) ≡ Ok y → (x : A) × (r ≡ Ok x) × (f x ≡ Ok y)
bind_ok (Ok x) f y h = (x, refl, h)
bind_ok (Err e) f y h = absurd (cc)

-- equal readings give equal values
pub ok_same : {A : Type 0} (x y : A) → ◌≡◌ {A = Result A MsgWhy} (Ok x) (Ok y) → x ≡ y
ok_same x y h = cc

-- a broken rule is no value
pub not_ok : {A : Type 0} (e : MsgWhy) (x : A) → ◌≡◌ {A = Result A MsgWhy} (Err e) (Ok x) → ⊥
not_ok e x h = cc

-- a name that is read in a message is read
pub name_reading_ok : (why_of : NameWhy → MsgWhy) (r : Result (List ℕ × ℕ) NameWhy) (x : List ℕ × ℕ) → name_reading why_of r ≡ Ok x → r ≡ Ok x
name_reading_ok why_of (Ok y) x h = cc
name_reading_ok why_of (Err e) x h = absurd (cc)

-- a value that is given if a test holds
pub if_ok_else : {A : Type 0} (b : Bool) (e : MsgWhy) (r : Result A MsgWhy) (y : A) → cond b r (Err e) ≡ Ok y → (b ≡ true) × (r ≡ Ok y)
if_ok_else true e r y h = (refl, h)
if_ok_else false e r y h = absurd (not_ok e y h)

-- a value that is given unless a test holds
pub if_err_else : {A : Type 0} (b : Bool) (e : MsgWhy) (r : Result A MsgWhy) (y : A) → cond b (Err e) r ≡ Ok y → (b ≡ false) × (r ≡ Ok y)
if_err_else true e r y h = absurd (not_ok e y h)
if_err_else false e r y h = (refl, h)
