-- One reading after the other, as a loop makes them.
use Rattle.std.proofs.Common.{◌≡◌, ℕ, suc, ◌-◌, ◌+◌, ◌≤◌, ◌<◌, List, [], ◌∷◌, ◌++◌, Result, Ok, Err, refl, sym, ◌∙◌, append_assoc, arith}
use Rattle.std.proofs.lemmas.List.{append-nil}
use Rattle.std.specs.List.{concat}
use Rattle.cd_message.specs.declared.message.MsgWhy.{MsgWhy}
use Rattle.cd_message.specs.declared.message.ParseFault.{ParseFault}
use Rattle.cd_message.specs.declared.message.ParseFault.TheVariants as fault
use Rattle.cd_message.specs.Readings.{◌>>=◌, GivesFault, repeat, with_front}
use Rattle.cd_message.specs.Messages.{rdata_name, rdata_names}

-- items before items before a reading
with_front-with_front : {A P : Type 0} (front xs : List A) (reading : Result (List A × P) MsgWhy) → with_front front (with_front xs reading) ≡ with_front (front ++ xs) reading
with_front-with_front front xs (Ok x) = rw (append_assoc front xs x.0) refl
with_front-with_front front xs (Err why) = refl

-- no items before a reading
pub with_front-nil : {A P : Type 0} (reading : Result (List A × P) MsgWhy) → with_front [] reading ≡ reading
with_front-nil (Ok x) = refl
with_front-nil (Err why) = refl

-- items before a reading of none
with_front-end : {A P : Type 0} (front : List A) (place : P) → with_front front (Ok ([], place)) ≡ Ok (front, place)
with_front-end front place = rw (append-nil front) refl

-- a fault of the first of two readings is one of both
pub fault_first : {A B : Type 0} (e : ParseFault) (r : Result A MsgWhy) (read : A → Result B MsgWhy) → GivesFault e r → GivesFault e (r >>= read)
fault_first fault.NoMemory r read h = tt
fault_first (fault.Malformed why) r read h = rw h refl

-- before the first reading of a loop
pub repeat_start : {A P : Type 0} (read : P → Result (A × P) MsgWhy) (count : ℕ) (place : P) → with_front [] (repeat read (count - 0) place) ≡ repeat read count place
repeat_start read count place = let k : count - 0 ≡ count = omega arith in rw k (with_front-nil (repeat read count place))

-- a reading of a loop that gives an item
pub repeat_more : {A P : Type 0} (read : P → Result (A × P) MsgWhy) (front : List A) (count i : ℕ) (place : P) (x : A) (next : P) (total : Result (List A × P) MsgWhy) →
    i < count → read place ≡ Ok (x, next) → with_front front (repeat read (count - i) place) ≡ total →
    with_front (front ++ x ∷ []) (repeat read (count - (i + 1)) next) ≡ total
unfolding repeat
repeat_more read front count i place x next total lt gives so_far =
    let k : count - i ≡ suc (count - (i + 1)) = omega arith in
    let one : with_front front (repeat read (count - i) place) ≡ with_front (front ++ x ∷ []) (repeat read (count - (i + 1)) next) =
    rw (k, gives) (with_front-with_front front (x ∷ []) (repeat read (count - (i + 1)) next)) in
    sym one ∙ so_far

-- a reading of a loop that fails
pub repeat_fault : {A P : Type 0} (e : ParseFault) (read : P → Result (A × P) MsgWhy) (front : List A) (count i : ℕ) (place : P) (total : Result (List A × P) MsgWhy) →
    i < count → GivesFault e (read place) → with_front front (repeat read (count - i) place) ≡ total → GivesFault e total
unfolding repeat
repeat_fault fault.NoMemory read front count i place total lt gives so_far = tt
repeat_fault (fault.Malformed why) read front count i place total lt gives so_far =
    let k : count - i ≡ suc (count - (i + 1)) = omega arith in
    let one : with_front front (repeat read (count - i) place) ≡ Err why = rw (k, gives) refl in
    sym so_far ∙ one

-- after the last reading of a loop
pub repeat_end : {A P : Type 0} (read : P → Result (A × P) MsgWhy) (front : List A) (count i : ℕ) (place : P) (total : Result (List A × P) MsgWhy) →
    count ≤ i → with_front front (repeat read (count - i) place) ≡ total → total ≡ Ok (front, place)
unfolding repeat
repeat_end read front count i place total le so_far =
    let k : count - i ≡ 0 = omega arith in
    let one : with_front front (repeat read (count - i) place) ≡ Ok (front, place) = rw k (with_front-end front place) in
    sym so_far ∙ one

-- a name and the names after it
abbrev name_then : List ℕ → List (List ℕ) × ℕ → Result (List (List ℕ) × ℕ) MsgWhy
name_then name others = Ok (name ∷ others.0, others.1)

-- the bytes of some names
abbrev bytes_of : List (List ℕ) × ℕ → Result (List ℕ × ℕ) MsgWhy
bytes_of names = Ok (concat names.0, names.1)

-- bytes before a name and the names after it
names_regroup : (front name : List ℕ) (names : Result (List (List ℕ) × ℕ) MsgWhy) →
    with_front front ((names >>= name_then name) >>= bytes_of) ≡ with_front (front ++ name) (names >>= bytes_of)
names_regroup front name (Ok x) = rw (append_assoc front name (concat x.0)) refl
names_regroup front name (Err why) = refl

-- before the first name
pub names_start : (p : List ℕ) (end : ℕ) (front : List ℕ) (count at : ℕ) → with_front front (rdata_names p end (count - 0) at) ≡ with_front front (rdata_names p end count at)
names_start p end front count at = let k : count - 0 ≡ count = omega arith in rw k refl

-- one more name
pub names_more : (p : List ℕ) (end : ℕ) (front : List ℕ) (count i at : ℕ) (name : List ℕ) (next : ℕ) (total : Result (List ℕ × ℕ) MsgWhy) →
    i < count → rdata_name p end at ≡ Ok (name, next) → with_front front (rdata_names p end (count - i) at) ≡ total →
    with_front (front ++ name) (rdata_names p end (count - (i + 1)) next) ≡ total
unfolding rdata_names repeat
names_more p end front count i at name next total lt gives so_far =
    let k : count - i ≡ suc (count - (i + 1)) = omega arith in
    let one : with_front front (rdata_names p end (count - i) at) ≡ with_front (front ++ name) (rdata_names p end (count - (i + 1)) next) =
    rw (k, gives) (names_regroup front name (repeat (rdata_name p end) (count - (i + 1)) next)) in
    sym one ∙ so_far

-- a name that is not read
pub names_fault : (e : ParseFault) (p : List ℕ) (end : ℕ) (front : List ℕ) (count i at : ℕ) (total : Result (List ℕ × ℕ) MsgWhy) →
    i < count → GivesFault e (rdata_name p end at) → with_front front (rdata_names p end (count - i) at) ≡ total → GivesFault e total
unfolding rdata_names repeat
names_fault fault.NoMemory p end front count i at total lt gives so_far = tt
names_fault (fault.Malformed why) p end front count i at total lt gives so_far =
    let k : count - i ≡ suc (count - (i + 1)) = omega arith in
    let one : with_front front (rdata_names p end (count - i) at) ≡ Err why = rw (k, gives) refl in
    sym so_far ∙ one

-- after the last name
pub names_end : (p : List ℕ) (end : ℕ) (front : List ℕ) (count i at : ℕ) (total : Result (List ℕ × ℕ) MsgWhy) →
    count ≤ i → with_front front (rdata_names p end (count - i) at) ≡ total → total ≡ Ok (front, at)
unfolding rdata_names repeat
names_end p end front count i at total le so_far =
    let k : count - i ≡ 0 = omega arith in
    let one : with_front front (rdata_names p end (count - i) at) ≡ Ok (front, at) = rw k (with_front-end front at) in
    sym so_far ∙ one
