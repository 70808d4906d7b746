-- What a scan keeps stands for the bytes so far.
use Rattle.std.proofs.Common.{◌≡◌, ℕ, ◌+◌, ◌-◌, ◌<◌, ◌≤◌, true, false, List, [], ◌++◌, length, drop, Result, Ok, Err, refl, ap, sym, subst, ◌∙◌, arith, append_assoc, append-nil, length-append}
use Rattle.std.specs.Prelude.{nat_eq, All}
use Rattle.std.proofs.lemmas.List.{drop-append-le}
use Rattle.cd_cbor.specs.Readings.{Reading, ◌>>=◌, refused}
use Rattle.cd_cbor.specs.Reading.{item_at}
use Rattle.cd_cbor.specs.Events.{innermost}
use Rattle.cd_cbor.specs.Ends.{end_of}
use Rattle.cd_cbor.specs.Scanning.{all_left, due_by, all_due, done_of, due_front, Mark, IsMarked, Passes, LiesBefore, TellsFault, Judges}
use Rattle.cd_cbor.specs.declared.item.Item.{Item}
use Rattle.cd_cbor.specs.declared.wanted.Wanted.{Wanted}
use Rattle.cd_cbor.specs.declared.event.Told.{Told}
use Rattle.cd_cbor.specs.declared.event.Told.TheVariants as told
use Rattle.cd_cbor.specs.declared.scan.Due.{Due}
use Rattle.cd_cbor.specs.declared.scan.Due.TheVariants as due
use Rattle.cd_cbor.specs.declared.scan.Judged.{Judged}
use Rattle.cd_cbor.specs.declared.scan.Judged.TheVariants as judged
use Rattle.cd_cbor.specs.declared.fault.Why.{Why}
use Rattle.cd_cbor.specs.declared.fault.Why.TheVariants as why
use Rattle.cd_cbor.specs.declared.fault.CborFault.{CborFault}
use Rattle.cd_cbor.specs.declared.fault.CborFault.TheVariants as fault
use Rattle.cd_cbor.proofs.Growing.{Goes, goes_ok, goes_bind, goes_if, byte_goes, chunk_goes, item_within}
use Rattle.cd_cbor.proofs.EventsGoing.{head_front_goes}
use Rattle.cd_cbor.proofs.Moved.{moved_by, further}
use Rattle.cd_cbor.proofs.HeadsPassed.{due_on, due_is}

-- what a head does stays as the bytes go on
done_goes : (bytes : List ℕ) (x : Told × ℕ) → Goes bytes (done_of x) (done_of x)
done_goes bytes (told.Event e act, size) = goes_ok bytes _ _ refl
done_goes bytes (told.Chunks is_text, size) = goes_ok bytes _ _ refl

-- so does what is open and due after it
due_goes : (bytes more : List ℕ) (depth : ℕ) (w : List Wanted) (now : Due) → Goes bytes (due_front depth w now bytes) (due_front depth w now (bytes ++ more))
unfolding due_front
due_goes bytes more depth w due.Head =
    goes_bind bytes _ _ _ _ (goes_bind bytes _ _ _ _ (head_front_goes bytes more (depth - length w) (innermost w)) (λ x e. done_goes bytes x)) (λ head e. goes_ok bytes _ _ refl)
due_goes bytes more depth w (due.Chunk is_text before) =
    goes_bind bytes _ _ _ _ (byte_goes bytes more 0)
    (λ first e. goes_if bytes (nat_eq first 255) _ _ _ _ (goes_ok bytes _ _ refl)
    (goes_bind bytes _ _ _ _ (chunk_goes bytes more is_text (before, 0)) (λ chunk e. goes_ok bytes _ _ refl)))
due_goes bytes more depth w due.Nothing = goes_ok bytes _ _ refl

-- what is due at an offset of some bytes is due there of more
due_stays : (bytes more : List ℕ) (depth : ℕ) (w : List Wanted) (now : Due) (at : ℕ) (x : (List Wanted × Due) × ℕ) → at ≤ length bytes → due_front depth w now (drop at bytes) ≡ Ok x →
    due_front depth w now (drop at (bytes ++ more)) ≡ Ok x
due_stays bytes more depth w now at x within is =
    ap (due_front depth w now) (drop-append-le at bytes more within) ∙ (due_goes (drop at bytes) more depth w now).stays (λ k h. let e = sym is ∙ h in absurd cc) ∙ is

-- nothing was passed
pub marked_new : (m : Mark) (start : ℕ) (bytes : List ℕ) → m.at ≡ start → m.wants ≡ [] → m.due ≡ due.Head → start ≤ length bytes → IsMarked start m bytes
unfolding all_due due_by all_left
marked_new m start bytes at_is none first within =
    let room : m.depth - 0 ≡ m.depth = omega arith in
    record { within = omega arith; goes_on = λ more all. rw (at_is, none, first, room) refl }

-- the bytes go on
pub marked_grow : (m : Mark) (start : ℕ) (before more bytes : List ℕ) → bytes ≡ before ++ more → IsMarked start m before → IsMarked start m bytes
marked_grow m start before more bytes is h = rw is (record {
  within = omega (arith, h.within, length-append before more);
  goes_on = λ later all.
      let same : before ++ (more ++ later) ≡ (before ++ more) ++ later = sym (append_assoc before more later) in
      subst (λ b. end_of (item_at m.depth b why.Break start) ≡ all_due m.depth b m.wants m.due m.at) same (h.goes_on (more ++ later) (subst (All (λ byte. byte < 256)) (sym same) all));
})

module _ (old new : Mark) (start : ℕ) (bytes : List ℕ) (h : IsMarked start old bytes) where
  -- what is due is passed
  pub marked_on : Passes old new bytes (Ok false) → IsMarked start new bytes
  marked_on p = record {
    within = p.4;
    goes_on = λ more all.
        let within : old.at ≤ length (bytes ++ more) = omega (arith, h.within, length-append bytes more) in
        let front : due_front old.depth old.wants old.due (drop old.at (bytes ++ more)) ≡ Ok ((new.wants, new.due), p.0) = due_stays bytes more old.depth old.wants old.due old.at ((new.wants, new.due), p.0) h.within p.1 in
        rw (p.5, p.3)
        (h.goes_on more all ∙ due_is old.depth (bytes ++ more) all old.wants old.due old.at within ∙ ap (λ r. moved_by old.at (further old.at) r >>= due_on old.depth (bytes ++ more)) front);
  }

-- where an item is known to end
end_refused : {A : Type 0} (r : Reading A) (at : ℕ) (reason : Why) → end_of r ≡ refused at reason → r ≡ refused at reason
end_refused {A} (Ok x) at reason e = absurd cc
end_refused {A} (Err f) at reason e = let same : f ≡ fault.Bad at reason = cc in ap {B = Reading A} (λ y. Err y) same

module _ (m : Mark) (start : ℕ) (bytes : List ℕ) (all : All (λ byte. byte < 256) bytes) (h : IsMarked start m bytes) where
  -- of the bytes as they are
  marked_now : end_of (item_at m.depth bytes why.Break start) ≡ all_due m.depth bytes m.wants m.due m.at
  marked_now = subst (λ b. end_of (item_at m.depth b why.Break start) ≡ all_due m.depth b m.wants m.due m.at) (append-nil bytes) (h.goes_on [] (subst (All (λ byte. byte < 256)) (sym (append-nil bytes)) all))

  -- nothing is due
  pub judged_whole : m.due ≡ due.Nothing → Judges (judged.Whole m.at) (item_at m.depth bytes why.Break start)
  unfolding all_due
  judged_whole none = marked_now ∙ rw none refl

  -- a fault is there
  judged_fault : (place : ℕ) (reason : Why) → due_front m.depth m.wants m.due (drop m.at bytes) ≡ refused place reason → item_at m.depth bytes why.Break start ≡ refused (m.at + place) reason
  judged_fault place reason front =
      end_refused (item_at m.depth bytes why.Break start) (m.at + place) reason
      (marked_now ∙ due_is m.depth bytes all m.wants m.due m.at h.within ∙ ap (λ r. moved_by m.at (further m.at) r >>= due_on m.depth bytes) front)

  pub judged_bad : (place : ℕ) (reason : Why) → (reason ≡ why.End → ⊥) → due_front m.depth m.wants m.due (drop m.at bytes) ≡ refused place reason → Judges (judged.Bad (m.at + place) reason) (item_at m.depth bytes why.Break start)
  judged_bad place reason apart front = (judged_fault place reason front, apart)

  pub judged_more : (place : ℕ) → due_front m.depth m.wants m.due (drop m.at bytes) ≡ refused place why.End → Judges judged.More (item_at m.depth bytes why.Break start)
  judged_more place front = (m.at + place, judged_fault place why.End front)

module _ (first old new : Mark) (bytes : List ℕ) (all : All (λ byte. byte < 256) bytes) (stands : (start : ℕ) → IsMarked start first bytes → IsMarked start old bytes) (same : old.depth ≡ first.depth) where
  -- what a scan says once nothing is due
  pub whole_told : Passes old new bytes (Ok true) → (start : ℕ) (before more : List ℕ) → bytes ≡ before ++ more → IsMarked start first before →
      IsMarked start new bytes × Judges (judged.Whole new.at) (item_at first.depth bytes why.Break start)
  whole_told p start before more is h =
      let now : IsMarked start old bytes = stands start (marked_grow first start before more bytes is h) in
      rw p.1 (now, subst (λ n. Judges (judged.Whole old.at) (item_at n bytes why.Break start)) same (judged_whole old start bytes all now p.0))

  -- what it says at a fault
  fault_now : (place : ℕ) (reason : Why) (told : Judged) → TellsFault (fault.Bad place reason) old.at told → due_front old.depth old.wants old.due (drop old.at bytes) ≡ refused place reason → (start : ℕ) → IsMarked start old bytes →
      Judges told (item_at old.depth bytes why.Break start)
  fault_now place reason (judged.Whole end) t front start now = absurd t
  fault_now place reason (judged.Bad there shown) t front start now = rw (t.0, t.1) (judged_bad old start bytes all now place reason t.2 front)
  fault_now place reason judged.More t front start now = judged_more old start bytes all now place (rw t at front)

  pub fault_told : (e : CborFault) (told : Judged) → Passes old new bytes (Err e) → TellsFault e new.at told → (start : ℕ) (before more : List ℕ) → bytes ≡ before ++ more → IsMarked start first before →
      IsMarked start new bytes × Judges told (item_at first.depth bytes why.Break start)
  fault_told (fault.Bad place reason) told p t start before more is h =
      let now : IsMarked start old bytes = stands start (marked_grow first start before more bytes is h) in
      let says : TellsFault (fault.Bad place reason) old.at told = subst (λ m. TellsFault (fault.Bad place reason) m.at told) p.2 t in
      rw p.2 (now, subst (λ n. Judges told (item_at n bytes why.Break start)) same (fault_now place reason told says p.0 start now))
  fault_told fault.NoMemory told p t start before more is h = absurd p

  -- the depth does not change
  pub depth_stays : (e : CborFault) → Passes old new bytes (Err e) → new.depth ≡ first.depth
  depth_stays (fault.Bad place reason) p = ap (λ m. m.depth) p.2 ∙ same
  depth_stays fault.NoMemory p = absurd p

-- where a fault lies
pub fault_before : (old new : Mark) (bytes : List ℕ) (count : ℕ) (e : CborFault) → count ≡ length bytes → Passes old new bytes (Err e) → LiesBefore count new.at e
fault_before old new bytes count (fault.Bad place reason) long p = let same : new.at ≡ old.at = ap (λ m. m.at) p.2 in omega (arith, p.1)
fault_before old new bytes count fault.NoMemory long p = absurd p

-- where a scan says that an item ends is where it is read to end
ends_there : {A : Type 0} (r : Reading A) (x : A) (end : ℕ) (told : Judged) → r ≡ Ok (x, end) → Judges told r → told ≡ judged.Whole end
ends_there {A} r x end (judged.Whole other) is h =
    let e : ◌≡◌ {A = Result ℕ CborFault} (Ok end) (Ok other) = ap end_of (sym is) ∙ h in
    let same : other ≡ end = cc in
    ap judged.Whole same
ends_there {A} r x end (judged.Bad at reason) is h = let e = sym is ∙ h.0 in absurd cc
ends_there {A} r x end judged.More is h = let e = sym is ∙ h.1 in absurd cc

-- so is what a new scan says
pub end_told : (m new : Mark) (depth at : ℕ) (bytes : List ℕ) → All (λ byte. byte < 256) bytes → (told : Judged) (item : Item) (end : ℕ) → ((b : List ℕ) → at ≤ length b → IsMarked at m b) → m.depth ≡ depth →
    ((start : ℕ) (before more : List ℕ) → bytes ≡ before ++ more → IsMarked start m before → IsMarked start new bytes × Judges told (item_at m.depth bytes why.Break start)) →
    item_at depth bytes why.Break at ≡ Ok (item, end) → told ≡ judged.Whole end
end_told m new depth at bytes all told item end marked same history is =
    let reach = item_within depth bytes all why.Break at item end is in
    let within : at ≤ length bytes = omega (arith, reach.0, reach.1) in
    let now = history at bytes [] (sym (append-nil bytes)) (marked bytes within) in
    ends_there (item_at m.depth bytes why.Break at) item end told (ap (λ n. item_at n bytes why.Break at) same ∙ is) now.1
