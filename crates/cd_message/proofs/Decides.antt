-- Rules that say of a reading what it gives.
use Rattle.std.proofs.Common.{◌≡◌, ◌↔◌, Result, Ok, Err, ◌⊎◌, inl, inr, sym, ◌∙◌, subst}
use Rattle.cd_message.specs.declared.message.MsgWhy.{MsgWhy}
use Rattle.cd_message.proofs.Binds.{ok_same, not_ok}

-- each value that rules read, and each rule that they say is broken, is what a reading gives, and they have one of these
pub record Decides {A : Type 0} (r : Result A MsgWhy) (Reads : A → Type 0) (Breaks : MsgWhy → Type 0) : Type 0 where
  pub read : (x : A) → Reads x → r ≡ Ok x
  pub broken : (why : MsgWhy) → Breaks why → r ≡ Err why
  pub answer : ((x : A) × Reads x) ⊎ ((why : MsgWhy) × Breaks why)

-- equal readings break equal rules
same_why : {A : Type 0} (a b : MsgWhy) → ◌≡◌ {A = Result A MsgWhy} (Err a) (Err b) → a ≡ b
same_why a b h = cc

-- what is read the rules read
reads_of : {A : Type 0} {r : Result A MsgWhy} {Reads : A → Type 0} {Breaks : MsgWhy → Type 0} (d : Decides r Reads Breaks) → ((x : A) × Reads x) ⊎ ((why : MsgWhy) × Breaks why) →
    (x : A) → r ≡ Ok x → Reads x
reads_of {A} {r} {Reads} {Breaks} d (inl a) x h = subst Reads (ok_same a.0 x (sym (d.read a.0 a.1) ∙ h)) a.1
reads_of {A} {r} {Reads} {Breaks} d (inr a) x h = absurd (not_ok a.0 x (sym (d.broken a.0 a.1) ∙ h))

-- the rule that a reading says is broken the rules say is broken
breaks_of : {A : Type 0} {r : Result A MsgWhy} {Reads : A → Type 0} {Breaks : MsgWhy → Type 0} (d : Decides r Reads Breaks) → ((x : A) × Reads x) ⊎ ((why : MsgWhy) × Breaks why) →
    (why : MsgWhy) → r ≡ Err why → Breaks why
breaks_of {A} {r} {Reads} {Breaks} d (inl a) why h = absurd (not_ok why a.0 (sym h ∙ d.read a.0 a.1))
breaks_of {A} {r} {Reads} {Breaks} d (inr a) why h = subst Breaks (same_why {A = A} a.0 why (sym (d.broken a.0 a.1) ∙ h)) a.1

-- a value is read exactly if the rules read it
pub reads_exactly : {A : Type 0} {r : Result A MsgWhy} {Reads : A → Type 0} {Breaks : MsgWhy → Type 0} (d : Decides r Reads Breaks) (x : A) → (r ≡ Ok x) ↔ Reads x
reads_exactly d x = (reads_of d d.answer x, d.read x)

-- a rule is broken exactly if the rules say so
pub breaks_exactly : {A : Type 0} {r : Result A MsgWhy} {Reads : A → Type 0} {Breaks : MsgWhy → Type 0} (d : Decides r Reads Breaks) (why : MsgWhy) → (r ≡ Err why) ↔ Breaks why
breaks_exactly d why = (breaks_of d d.answer why, d.broken why)
