-- What calls on a store change.
use Rattle.std.specs.Prelude.{◌≡◌, ℕ, ◌+◌, ◌&&◌, eqb, if◌then◌else◌, List, [], Option, Some, None}
use Rattle.cd_chain.specs.Contents.{Contents, value_at, used_slots, list_at, list_count}

-- the same lists are there, and the list k of the lane l becomes `change l k` of what it was
pub record ChangesLists {T : Type 0} (old new : Contents T)
    (change : ℕ → ℕ → Option (List ℕ) → Option (List ℕ)) : Type 0 where
  pub lists : (l k : ℕ) → list_at new l k ≡ change l k (list_at old l k)
  pub counts : (l : ℕ) → list_count new l ≡ list_count old l

-- no list changes
abbrev pub KeepsLists : {T : Type 0} → Contents T → Contents T → Type 0
KeepsLists old new = ChangesLists old new (λ l k o. o)

-- each used slot keeps its value, and no other slot is used
pub record KeepsValues {T : Type 0} (old new : Contents T) : Type 0 where
  pub values : (s : ℕ) → value_at new s ≡ value_at old s
  pub used : used_slots new ≡ used_slots old

-- the slot was not used and has the value now, and the others keep theirs
pub record PutsValue {T : Type 0} (old new : Contents T) (slot : ℕ) (value : T) : Type 0 where
  pub fresh : value_at old slot ≡ None
  pub values : (s : ℕ) → value_at new s ≡ (if eqb s slot then Some value else value_at old s)
  pub used : used_slots new ≡ used_slots old + 1

-- the slot had the value and is not used now, and the others keep theirs
pub record TakesValue {T : Type 0} (old new : Contents T) (slot : ℕ) (value : T) : Type 0 where
  pub was : value_at old slot ≡ Some value
  pub values : (s : ℕ) → value_at new s ≡ (if eqb s slot then None else value_at old s)
  pub used : used_slots new + 1 ≡ used_slots old

-- a list of the lane is there that was not, and it is empty; the other lists are as they were
pub record AddsList {T : Type 0} (old new : Contents T) (lane list : ℕ) : Type 0 where
  pub fresh : list_at old lane list ≡ None
  pub lists : (l k : ℕ) → list_at new l k ≡ (if eqb l lane && eqb k list then Some [] else list_at old l k)
  pub counts : (l : ℕ) → list_count new l ≡ list_count old l + (if eqb l lane then 1 else 0)

-- the list of the lane is not there any more; the other lists are as they were
pub record DropsList {T : Type 0} (old new : Contents T) (lane list : ℕ) : Type 0 where
  pub lists : (l k : ℕ) → list_at new l k ≡ (if eqb l lane && eqb k list then None else list_at old l k)
  pub counts : (l : ℕ) → list_count new l + (if eqb l lane then 1 else 0) ≡ list_count old l
