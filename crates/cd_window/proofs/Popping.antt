-- What was popped is a front of what is released, and of all records.
use Rattle.std.proofs.Common.{◌≡◌, ℕ, ◌≤◌, List, length, take, map, Option, refl, ap, subst, arith}
use Rattle.std.proofs.lemmas.List.{length-map, take-take, take_all}
use Rattle.cd_pairing.specs.Events.{EventView}
use Rattle.cd_pairing.specs.Pairing.{IsPairing, are_compatible}
use Rattle.cd_pairing.specs.Settling.{is_settled, settled_count}
use Rattle.cd_pairing.specs.Records.{records, records_from, released_records, BeginsWith}
use Rattle.cd_pairing.proofs.Unique.{unique}
use Rattle.cd_pairing.proofs.Records.{settled_least, front_told}
use Rattle.cd_window.specs.declared.released.Released.{Released}
use Rattle.cd_window.specs.Seen.{Seen}
use Rattle.cd_window.specs.History.{StandsFor, AreRecords, AreFirstRecords}
use Rattle.cd_window.specs.Laws.{PoppedIsReleased, FinishedTellsAll}

pub first_within : {E : Type 0} (view : E → EventView) (w : Seen E) (pushed : List E) (popped : List (Released E)) → StandsFor view w pushed popped → w.first ≤ length (map view pushed)
first_within view w pushed popped S = let c = S.count in rw length-map (omega arith)

pub same_partners : {E : Type 0} (view : E → EventView) (w : Seen E) (pushed : List E) (popped : List (Released E)) (p : List (Option ℕ)) (S : StandsFor view w pushed popped) → IsPairing w.windows (map view pushed) p → S.partners ≡ p
same_partners view w pushed popped p S P = unique (are_compatible w.windows (map view pushed)) (length (map view pushed)) S.partners p S.pairing P

pub popped_is_released : {E : Type 0} (view : E → EventView) → PoppedIsReleased view
popped_is_released {E} view w pushed popped p S going P =
    let events : List EventView = map view pushed in
    let q : List (Option ℕ) = S.partners in
    let m : ℕ = settled_count w.windows events q in
    let le : w.first ≤ m = settled_least (is_settled w.windows events q) (length events) 0 w.first (first_within view w pushed popped S) (λ j a b. S.settled going j (omega arith)) in
    let f : BeginsWith (records_from 0 (take w.first q)) (records_from 0 (take m q)) = front_told w.first q (take m q) (take-take w.first m q le) in
    subst (λ (x : List (Option ℕ)). AreFirstRecords view pushed (released_records w.windows events x) popped) (same_partners view w pushed popped p S P)
    (record { front = records (take w.first q); rest = f.rest; whole = f.whole; popped_are = S.popped_are })

pub finished_tells_all : {E : Type 0} (view : E → EventView) → FinishedTellsAll view
finished_tells_all {E} view w pushed popped p S P =
    let q : List (Option ℕ) = S.partners in
    let same = same_partners view w pushed popped p S P in
    let f : BeginsWith (records_from 0 (take w.first q)) (records_from 0 q) = front_told w.first q q refl in (
      subst (λ (x : List (Option ℕ)). AreFirstRecords view pushed (records x) popped) same (record { front = records (take w.first q); rest = f.rest; whole = f.whole; popped_are = S.popped_are }),
      λ empty. subst (λ (x : List (Option ℕ)). AreRecords view pushed (records x) popped) same
          (subst (λ (x : List (Option ℕ)). AreRecords view pushed (records x) popped) (take_all w.first q (let c = S.count in let n = ap length empty in let t = S.pairing.total in omega (arith, length-map pushed view))) S.popped_are),
    )
