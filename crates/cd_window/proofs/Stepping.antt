-- The same events wait where only lists of keys come or go.
use Rattle.std.proofs.Common.{◌≡◌, ◌<◌, ◌^◌, length, ◌∙◌, arith}
use Rattle.std.proofs.lemmas.List.{length-map}
use Rattle.cd_chain.specs.Contents.{list_count}
use Rattle.cd_chain.specs.Calls.{KeepsLists, KeepsValues}
use Rattle.cd_window.specs.declared.waiting.Waiting.{Waiting}
use Rattle.cd_window.specs.Lists.{IsIndexed, KeepsRest, slots_in, waits_in_slot, waits_in, IsListed, HasNoEmpty}
use Rattle.cd_window.proofs.Listing.{rest_value, rest_used, indexed_rest, indexed_kept, Same, listed_same, few_primaries, few_exchanges}

pub step_primaries : (x x' : Waiting) → x'.all ≡ x.all → KeepsRest x.store x'.store 1 → IsListed x → IsIndexed x'.store x'.primaries 1 (slots_in x) → IsIndexed x.store x'.exchanges 2 (slots_in x) → Same x x'
step_primaries x x' ea R L P E = listed_same x x' ea L (λ s. rest_value x.store x'.store 1 s R) (rest_used x.store x'.store 1 R) ((R.lanes 0 (λ z. omega arith)).lists x.all) P (indexed_rest x'.exchanges x.store x'.store 1 2 (slots_in x) R (λ z. omega arith) E)

pub step_exchanges : (x x' : Waiting) → x'.all ≡ x.all → KeepsRest x.store x'.store 2 → IsListed x → IsIndexed x.store x'.primaries 1 (slots_in x) → IsIndexed x'.store x'.exchanges 2 (slots_in x) → Same x x'
step_exchanges x x' ea R L P E = listed_same x x' ea L (λ s. rest_value x.store x'.store 2 s R) (rest_used x.store x'.store 2 R) ((R.lanes 0 (λ z. omega arith)).lists x.all) (indexed_rest x'.primaries x.store x'.store 2 1 (slots_in x) R (λ z. omega arith) P) E

pub step_slots : (x x' : Waiting) → x'.all ≡ x.all → KeepsValues x.store x'.store → KeepsLists x.store x'.store → IsListed x → IsIndexed x.store x'.primaries 1 (slots_in x) → IsIndexed x.store x'.exchanges 2 (slots_in x) → Same x x'
step_slots x x' ea V C L P E = listed_same x x' ea L V.values V.used (C.lists 0 x.all) (indexed_kept x'.primaries x.store x'.store 1 (slots_in x) V C P) (indexed_kept x'.exchanges x.store x'.store 2 (slots_in x) V C E)

pub same_twice : (x y z : Waiting) → Same x y → Same y z → Same x z
same_twice x y z A B = record { listed = B.listed; slots = B.slots ∙ A.slots; waits = B.waits ∙ A.waits }

-- as many events wait as slots stand in the list of all
pub as_many : (x : Waiting) → length (waits_in x) ≡ length (slots_in x)
as_many x = length-map (slots_in x) (waits_in_slot x.store)

-- few events are in few lists
pub primaries_room : (x : Waiting) → IsListed x → HasNoEmpty x → length (waits_in x) < 2 ^ 31 → list_count x.store 1 < 2 ^ 31
primaries_room x L F few = let a = few_primaries x L F in let b = as_many x in omega arith

pub exchanges_room : (x : Waiting) → IsListed x → HasNoEmpty x → length (waits_in x) < 2 ^ 31 → list_count x.store 2 < 2 ^ 31
exchanges_room x L F few = let a = few_exchanges x L F in let b = as_many x in omega arith
