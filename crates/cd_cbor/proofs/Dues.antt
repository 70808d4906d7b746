-- What is due after an item of what is open.
use Rattle.std.proofs.Common.{◌≡◌, ℕ, zero, suc, ◌+◌, ◌-◌, ◌<◌, ◌≤◌, Bool, true, false, cond, List, [], ◌∷◌, length, Some, None, Result, Ok, Err, refl, ap, ◌∙◌, arith}
use Rattle.std.specs.Prelude.{nat_eq, All}
use Rattle.std.proofs.lemmas.Bool.{le-ltb}
use Rattle.cd_cbor.specs.Readings.{Reading, ◌>>=◌, ends, byte_at, times, until_break}
use Rattle.cd_cbor.specs.Reading.{ItemReader, entry_at, item_at}
use Rattle.cd_cbor.specs.Events.{passed}
use Rattle.cd_cbor.specs.Scanning.{all_left, due_by, all_due, due_after}
use Rattle.cd_cbor.specs.declared.item.Item.{Item}
use Rattle.cd_cbor.specs.declared.wanted.Wanted.{Wanted}
use Rattle.cd_cbor.specs.declared.wanted.Wanted.TheVariants as wanted
use Rattle.cd_cbor.specs.declared.fault.Why.{Why}
use Rattle.cd_cbor.specs.declared.fault.Why.TheVariants as why
use Rattle.cd_cbor.specs.declared.fault.CborFault.{CborFault}
use Rattle.cd_cbor.proofs.Binds.{bind_ok, bind_same, ok_same}
use Rattle.cd_cbor.proofs.Growing.{item_within}
use Rattle.cd_cbor.proofs.Follow.{passed_items, passed_pair}

-- readings that go on in the same way after what is read are the same
bind_after : {A B : Type 0} (r : Result A CborFault) (f g : A → Result B CborFault) → ((x : A) → r ≡ Ok x → f x ≡ g x) → (r >>= f) ≡ (r >>= g)
bind_after (Ok x) f g h = h x refl
bind_after (Err e) f g h = refl

-- one reading, and then two in turn
pub bind_assoc : {A B C : Type 0} (r : Result A CborFault) (f : A → Result B CborFault) (g : B → Result C CborFault) → ((r >>= f) >>= g) ≡ (r >>= (λ x. f x >>= g))
bind_assoc (Ok x) f g = refl
bind_assoc (Err e) f g = refl

-- a choice, and then a reading
pub cond_bind : {A B : Type 0} (b : Bool) (x y : Result A CborFault) (f : A → Result B CborFault) → (cond b x y >>= f) ≡ cond b (x >>= f) (y >>= f)
cond_bind true x y f = refl
cond_bind false x y f = refl

-- past the last byte
byte_none : (at : ℕ) (bytes : List ℕ) → length bytes ≤ at → byte_at at bytes ≡ ends bytes
unfolding byte_at
byte_none at bytes past = rw (le-ltb at (length bytes) past) refl

-- one more of so many, and how reading goes on after the last
pub times_on : {A B : Type 0} (read : ℕ → Reading A) (k at : ℕ) (f : ℕ → Result B CborFault) → (times (suc k) read at >>= (λ x. f x.1)) ≡ (read at >>= (λ x. times k read x.1 >>= (λ y. f y.1)))
unfolding times
times_on read k at f = bind_assoc (read at) _ _ ∙ bind_same (read at) _ _ (λ x. bind_assoc (times k read x.1) _ _)

-- none of so many
pub times_none : {A B : Type 0} (read : ℕ → Reading A) (at : ℕ) (f : ℕ → Result B CborFault) → (times 0 read at >>= (λ x. f x.1)) ≡ f at
unfolding times
times_none read at f = refl

module _ {A P : Type 0} (offset : P → ℕ) (bytes : List ℕ) (read : P → Result (A × P) CborFault) (ahead : (place : P) (x : A × P) → read place ≡ Ok x → offset place < offset x.1) where
  -- no more values are there than bytes are left
  until_longer : (left : ℕ) (place : P) → length bytes ≤ left + offset place → until_break offset bytes left read place ≡ until_break offset bytes (suc left) read place
  unfolding until_break
  until_longer zero place room = rw (byte_none (offset place) bytes (omega (arith, room))) refl
  until_longer (suc left) place room =
      bind_same (byte_at (offset place) bytes) _ _
      (λ first. ap (λ r. cond (nat_eq first 255) (Ok ([], offset place + 1)) r)
      (bind_after (read place) _ _
      (λ value e. let further : offset place < offset value.1 = ahead place value e in
      ap (λ r. r >>= (λ others. Ok (value.0 ∷ others.0, others.1))) (until_longer left value.1 (omega (arith, room, further))))))

  -- one more, or the break, and how reading goes on after it
  pub until_on : {B : Type 0} (place : P) (f : ℕ → Result B CborFault) → (until_break offset bytes (length bytes) read place >>= (λ x. f x.1))
      ≡ (byte_at (offset place) bytes >>= (λ first. cond (nat_eq first 255) (f (offset place + 1)) (read place >>= (λ x. until_break offset bytes (length bytes) read x.1 >>= (λ y. f y.1)))))
  unfolding until_break
  until_on place f =
      ap (λ r. r >>= (λ x. f x.1)) (until_longer (length bytes) place (omega arith)) ∙ bind_assoc (byte_at (offset place) bytes) _ _
      ∙ bind_same (byte_at (offset place) bytes) _ _
      (λ first. cond_bind (nat_eq first 255) _ _ _
      ∙ ap (λ r. cond (nat_eq first 255) (f (offset place + 1)) r) (bind_assoc (read place) _ _ ∙ bind_same (read place) _ _ (λ x. bind_assoc (until_break offset bytes (length bytes) read x.1) _ _)))

-- a key and its value, and how reading goes on after them
entry_on : {B : Type 0} (inner : ItemReader) (reason : Why) (at : ℕ) (f : ℕ → Result B CborFault) → (entry_at inner reason at >>= (λ x. f x.1)) ≡ (inner why.Break at >>= (λ key. inner reason key.1 >>= (λ value. f value.1)))
unfolding entry_at
entry_on inner reason at f = bind_assoc (inner why.Break at) _ _ ∙ bind_same (inner why.Break at) _ _ (λ key. bind_assoc (inner reason key.1) _ _)

module _ (depth : ℕ) (bytes : List ℕ) (all : All (λ byte. byte < 256) bytes) where
  -- an item that is read goes ahead
  item_ahead : (room : ℕ) (reason : Why) (at : ℕ) (x : Item × ℕ) → item_at room bytes reason at ≡ Ok x → at < x.1
  item_ahead room reason at x e = (item_within room bytes all reason at x.0 x.1 e).0

  -- so does a key with its value
  entry_ahead : (room at : ℕ) (x : (Item × Item) × ℕ) → entry_at (item_at room bytes) why.Odd at ≡ Ok x → at < x.1
  unfolding entry_at
  entry_ahead room at x e =
      let key = bind_ok (item_at room bytes why.Break at) _ x e in
      let value = bind_ok (item_at room bytes why.Odd key.0.1) _ x key.2 in
      let end : value.0.1 ≡ x.1 = ap (λ y. y.1) (ok_same _ x value.2) in
      let first : at < key.0.1 = item_ahead room why.Break at key.0 key.1 in
      let second : key.0.1 < value.0.1 = item_ahead room why.Odd key.0.1 value.0 value.1 in
      omega arith

  -- after an item of an array of so many
  pub items_due : (k : ℕ) (w : List Wanted) (at : ℕ) → all_left depth bytes (wanted.Items (suc k) ∷ w) at ≡ due_by (Some why.Break) depth bytes (wanted.Items k ∷ w) at
  unfolding all_left due_by
  items_due k w at = times_on (item_at (depth - suc (length w)) bytes why.Break) k at (all_left depth bytes w)

  pub last_due : (w : List Wanted) (at : ℕ) → all_left depth bytes (wanted.Items 0 ∷ w) at ≡ all_left depth bytes w at
  unfolding all_left
  last_due w at = times_none (item_at (depth - suc (length w)) bytes why.Break) at (all_left depth bytes w)

  -- after a key, and after a value, of a map of so many
  pub key_due : (k : ℕ) (w : List Wanted) (at : ℕ) → all_left depth bytes (wanted.Pairs k ∷ w) at ≡ due_by (Some why.Break) depth bytes (wanted.Half k ∷ w) at
  unfolding all_left due_by
  key_due k w at = refl

  pub pair_due : (k : ℕ) (w : List Wanted) (at : ℕ) → all_left depth bytes (wanted.Half (suc k) ∷ w) at ≡ due_by (Some why.Break) depth bytes (wanted.Pairs k ∷ w) at
  unfolding all_left due_by
  pair_due k w at =
      let inner : ItemReader = item_at (depth - suc (length w)) bytes in
      times_on (entry_at inner why.Break) k at (all_left depth bytes w)
      ∙ entry_on inner why.Break at (λ next. times k (entry_at inner why.Break) next >>= (λ y. all_left depth bytes w y.1))

  pub last_pair_due : (w : List Wanted) (at : ℕ) → all_left depth bytes (wanted.Half 0 ∷ w) at ≡ all_left depth bytes w at
  unfolding all_left
  last_pair_due w at = times_none (entry_at (item_at (depth - suc (length w)) bytes) why.Break) at (all_left depth bytes w)

  -- after an item of an array up to a break
  pub element_due : (w : List Wanted) (at : ℕ) → all_left depth bytes (wanted.Elements ∷ w) at ≡ due_by None depth bytes (wanted.Elements ∷ w) at
  unfolding all_left due_by
  element_due w at =
      until_on (λ (p : ℕ). p) bytes (item_at (depth - suc (length w)) bytes why.Break) (λ k x e. item_ahead (depth - suc (length w)) why.Break k x e) at (all_left depth bytes w)

  -- after a key, and after a value, of a map up to a break
  pub open_key_due : (w : List Wanted) (at : ℕ) → all_left depth bytes (wanted.Keys ∷ w) at ≡ due_by (Some why.Odd) depth bytes (wanted.Value ∷ w) at
  unfolding all_left due_by
  open_key_due w at = refl

  pub value_due : (w : List Wanted) (at : ℕ) → all_left depth bytes (wanted.Value ∷ w) at ≡ due_by None depth bytes (wanted.Keys ∷ w) at
  unfolding all_left due_by
  value_due w at =
      let room : ℕ = depth - suc (length w) in
      let inner : ItemReader = item_at room bytes in
      until_on (λ (p : ℕ). p) bytes (entry_at inner why.Odd) (λ k x e. entry_ahead room k x e) at (all_left depth bytes w)
      ∙ bind_same (byte_at at bytes) _ _
      (λ first. ap (λ r. cond (nat_eq first 255) (all_left depth bytes w (at + 1)) r)
      (entry_on inner why.Odd at (λ next. until_break (λ (p : ℕ). p) bytes (length bytes) (entry_at inner why.Odd) next >>= (λ y. all_left depth bytes w y.1))))

  -- after an item, what is due is so where what is open has passed it
  pub passed_due : (w : List Wanted) (at : ℕ) → all_left depth bytes w at ≡ all_due depth bytes (passed w) (due_after (passed w)) at
  unfolding passed all_left all_due
  passed_due [] at = refl
  passed_due (wanted.Items zero ∷ w) at = last_due w at ∙ passed_due w at
  passed_due (wanted.Items (suc k) ∷ w) at = items_due k w at ∙ rw (passed_items k w) refl
  passed_due (wanted.Pairs k ∷ w) at = key_due k w at
  passed_due (wanted.Half zero ∷ w) at = last_pair_due w at ∙ passed_due w at
  passed_due (wanted.Half (suc k) ∷ w) at = pair_due k w at ∙ rw (passed_pair k w) refl
  passed_due (wanted.Elements ∷ w) at = element_due w at
  passed_due (wanted.Keys ∷ w) at = open_key_due w at
  passed_due (wanted.Value ∷ w) at = value_due w at
