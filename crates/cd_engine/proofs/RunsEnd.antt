-- What a compaction or a check answers, by what a drive answers.
use Rattle.std.proofs.Common.{◌≡◌, ℕ, Bool, true, false, cond, List, [], ◌++◌, length, take, Option, Some, None, refl, ap, sym, ◌∙◌, subst, arith}
use Rattle.std.specs.Prelude.{nat_lt, ⊤}
use Rattle.std.specs.Io.KnownBytes.{Consumes}
use Rattle.std.proofs.lemmas.List.{append_cancel_right}
use Rattle.cd_drive.specs.Behaviors.{Behavior}
use Rattle.cd_drive.specs.Driving.{ReadsInTime, IsTaken, stopped_by}
use Rattle.cd_drive.specs.Driving as drives
use Rattle.cd_drive.specs.declared.driving.Stop.{Stop}
use Rattle.cd_drive.specs.declared.driving.Stop.TheVariants as stop
use Rattle.cd_ports.specs.Reading.{SourceMeaning}
use Rattle.cd_ports.specs.Writing.{SinkMeaning}
use Rattle.cd_engine.specs.Endings.{Judging, refused_as, ended_of, ended_in, StopsInTime, IfStopped}
use Rattle.cd_engine.specs.declared.ended.Ended.{Ended}
use Rattle.cd_engine.specs.declared.ended.Ended.TheVariants as ended

-- how the behavior of a machine judges bytes
abbrev pub judging_by : {R C : Type 0} → Behavior R C → (R → Ended) → Judging R
judging_by b f = record { refused = b.refusal; refused_at_end = b.at_end; ended_for = f }

-- how a refusal, or else something, ends the call
ended_refused : {R : Type 0} (f : R → Ended) (o : Option R) (other : Stop R) →
    ended_of f (drives.refused_or o other) ≡ refused_as f o (ended_of f other)
ended_refused f None other = refl
ended_refused f (Some r) other = refl

ended_chosen : {R : Type 0} (f : R → Ended) (b : Bool) (x y : Stop R) →
    ended_of f (cond b x y) ≡ cond b (ended_of f x) (ended_of f y)
ended_chosen f true x y = refl
ended_chosen f false x y = refl

-- what ended the input says how the call ends
pub ended_stop : {R C : Type 0} (b : Behavior R C) (f : R → Ended) (max : ℕ) (taken : List ℕ) (told : Bool) →
    ended_of f (stopped_by b max taken told) ≡ ended_in (judging_by b f) max taken told
ended_stop {R = R} b f max taken told =
    let at_end : Stop R = drives.refused_or (b.at_end taken) stop.Done in
    let last : Stop R = cond told at_end stop.ReadFault in
    let long : Stop R = cond (nat_lt max (length taken)) stop.TooLong last in
    ended_refused f (b.refusal (take max taken)) long
    ∙ ap (refused_as f (b.refusal (take max taken)))
    (ended_chosen f (nat_lt max (length taken)) stop.TooLong last
    ∙ ap (cond (nat_lt max (length taken)) ended.TooLong)
    (ended_chosen f told at_end stop.ReadFault
    ∙ ap (λ e. cond told e ended.ReadFault) (ended_refused f (b.at_end taken) stop.Done)))

-- reading stops with the bytes that say how the input ends
pub reads_on : {R C : Type 0} (b : Behavior R C) (f : R → Ended) (max : ℕ) (so sn : SourceMeaning) (ko kn : SinkMeaning) (taken : List ℕ) →
    ReadsInTime b max so sn ko kn taken → StopsInTime (judging_by b f) max so sn taken
reads_on b f max so sn ko kn taken r = record {
  before = r.before;
  last = r.last;
  split = r.split;
  chunk = r.chunk;
  undecided = r.undecided;
  within = r.within;
  few = r.few;
  calls = r.calls;
}

-- a source that was not asked was read in time
pub stops_unasked : {R : Type 0} (judging : Judging R) → judging.refused [] ≡ None → (max : ℕ) (so : SourceMeaning) → StopsInTime judging max so so []
stops_unasked judging begins max so = record {
  before = [];
  last = [];
  split = refl;
  chunk = omega arith;
  undecided = begins;
  within = omega arith;
  few = omega arith;
  calls = omega arith;
}

-- bytes are refused so
abbrev pub IsRefusal : Ended → Type 0
IsRefusal (ended.BadCapture b) = ⊤
IsRefusal (ended.BadFile b) = ⊤
IsRefusal ended.Done = ⊥
IsRefusal ended.ReadFault = ⊥
IsRefusal ended.WriteFault = ⊥
IsRefusal ended.NoMemory = ⊥
IsRefusal ended.TooLong = ⊥

-- each refusal ends a call so
abbrev pub AreRefusals : {R : Type 0} → (R → Ended) → Type 0
AreRefusals {R = R} f = (r : R) → IsRefusal (f r)

-- what is no refusal
no_refusal : (x y : Ended) → x ≡ y → IsRefusal x → IsRefusal y
no_refusal x y e is = let P : Ended → Type 0 = λ z. IsRefusal z in subst P e is

refusal_goes : (P Q : Type 0) (x : Ended) → IsRefusal x → Q → IfStopped x P Q
refusal_goes P Q (ended.BadCapture b) is q = q
refusal_goes P Q (ended.BadFile b) is q = q
refusal_goes P Q ended.Done is q = absurd is
refusal_goes P Q ended.ReadFault is q = absurd is
refusal_goes P Q ended.WriteFault is q = absurd is
refusal_goes P Q ended.NoMemory is q = absurd is
refusal_goes P Q ended.TooLong is q = absurd is

-- what ended the input stopped no call
pub goes_on : {R : Type 0} (f : R → Ended) → AreRefusals f → (P Q : Type 0) (e : Stop R) → Q → IfStopped (ended_of f e) P Q
goes_on f are P Q stop.Done q = q
goes_on f are P Q (stop.Refused r) q = refusal_goes P Q (f r) (are r) q
goes_on f are P Q stop.TooLong q = q
goes_on f are P Q stop.ReadFault q = q

-- and no write failed
pub no_write_fault : {R : Type 0} (f : R → Ended) → AreRefusals f → (e : Stop R) → ended_of f e ≡ ended.WriteFault → ⊥
no_write_fault f are stop.Done h = absurd cc
no_write_fault f are (stop.Refused r) h = no_refusal (f r) ended.WriteFault h (are r)
no_write_fault f are stop.TooLong h = absurd cc
no_write_fault f are stop.ReadFault h = absurd cc

-- it is done where the input is
pub done_told : {R : Type 0} (f : R → Ended) → AreRefusals f → (e : Stop R) → ended_of f e ≡ ended.Done → e ≡ stop.Done
done_told f are stop.Done h = refl
done_told f are (stop.Refused r) h = absurd (no_refusal (f r) ended.Done h (are r))
done_told f are stop.TooLong h = absurd cc
done_told f are stop.ReadFault h = absurd cc

-- the source failed where that ended the input
pub fault_told : {R : Type 0} (f : R → Ended) → AreRefusals f → (e : Stop R) → ended_of f e ≡ ended.ReadFault → e ≡ stop.ReadFault
fault_told f are stop.Done h = absurd cc
fault_told f are (stop.Refused r) h = absurd (no_refusal (f r) ended.ReadFault h (are r))
fault_told f are stop.TooLong h = absurd cc
fault_told f are stop.ReadFault h = refl

-- nothing was taken from a source that was not asked
pub consumes_none : (o : Option (List ℕ)) → Consumes o o []
consumes_none None = tt
consumes_none (Some xs) = refl

-- and nothing from one that has lost nothing
pub none_taken : (so : SourceMeaning) (taken : List ℕ) → IsTaken so so taken → [] ≡ taken
none_taken so taken is =
    let same : taken ++ is.left ≡ is.left = some_same (taken ++ is.left) is.left (sym is.before ∙ is.now) in
    append_cancel_right [] taken is.left (sym same)
  where
    some_same : (a b : List ℕ) → Some a ≡ Some b → a ≡ b
    some_same a b e = cc
