-- What a drive did, from what the reading did and the last write.
use Rattle.std.proofs.Common.{◌≡◌, ℕ, ◌+◌, ◌-◌, ◌<◌, ◌≤◌, List, [], ◌++◌, length, take, drop, Option, Some, None}
use Rattle.std.proofs.Common.{Result, Ok, Err, ap, sym, ◌∙◌, arith, subst, length-append, inl, inr, append_assoc}
use Rattle.std.proofs.lemmas.List.{append-nil, take-append-le, take-append-drop}
use Rattle.cd_ports.proofs.Steps.{stopped}
use Rattle.cd_ports.proofs.Outputs.{output_then, output_stop}
use Rattle.cd_ports.specs.Reading.{SourceMeaning}
use Rattle.cd_ports.specs.Writing.{SinkMeaning, OutputStep, AppendsPrefix}
use Rattle.cd_ports.specs.declared.sink.SinkFault.{SinkFault}
use Rattle.cd_ports.specs.declared.sink.SinkFault.TheVariants as fault
use Rattle.cd_drive.specs.Behaviors.{Behavior, IsLawful, IsFront, Histories}
use Rattle.cd_drive.specs.Driving.{AppendsMore, ReadsInTime, Drives}
use Rattle.cd_drive.specs.Steps.{Wrote, Reads}
use Rattle.cd_drive.specs.declared.driving.Driven.{Driven}
use Rattle.cd_drive.specs.declared.driving.Stop.{Stop}
use Rattle.cd_drive.proofs.BetweenReads.{wrote_stops, due_grows, front_prefix, more_then}

-- a front of a front is one
front_then : (p q r : List ℕ) → IsFront p q → IsFront q r → IsFront p r
front_then p q r h k = (h.0 ++ k.0, k.1 ∙ ap (λ t. t ++ k.0) h.1 ∙ append_assoc p h.0 k.0)

-- what grows by these grows by each front of them
more_front : (a b : Option (List ℕ)) (p q : List ℕ) → IsFront p q → AppendsMore a b q → AppendsMore a b p
more_front None b p q k h = tt
more_front (Some xs) None p q k h = absurd h
more_front (Some xs) (Some ys) p q k h = (
  k.0 ++ h.0,
  h.1 ∙ ap (λ t. xs ++ t ++ h.0) k.1 ∙ ap (λ t. t ++ h.0) (sym (append_assoc xs p k.0)) ∙
      append_assoc (xs ++ p) k.0 h.0,
)

-- what is due before the last 65,536 bytes is due before the last read
due_early : {R C : Type 0} (d : Behavior R C) (max : ℕ) (s0 s1 : SourceMeaning) (k0 k1 : SinkMeaning) (taken : List ℕ) →
    IsLawful d → ReadsInTime d max s0 s1 k0 k1 taken → 65536 < length taken →
    AppendsMore k0.contents k1.contents (d.ready (take (length taken - 65536) taken))
due_early d max s0 s1 k0 k1 taken laws h many =
    elim h.written [
      | inl unasked ↦ let zero : length taken ≡ 0 = ap length unasked.none in absurd (omega (arith, zero, many))
      | inr more ↦
          let size : length taken ≡ length h.before + length h.last =
          ap length h.split ∙ length-append h.before h.last in
          let k : ℕ = length taken - 65536 in
          let few : k ≤ length h.before = omega (arith, size, h.chunk) in
          let same : take k taken ≡ take k h.before =
          ap (λ t. take k t) h.split ∙ take-append-le k h.before h.last few in
          let P : List ℕ → Type 0 = λ t. IsFront (d.ready (take k h.before)) (d.ready t) in
          let front : IsFront (d.ready (take k h.before)) (d.ready h.before) =
          subst P (take-append-drop k h.before) (laws.grows (take k h.before) (drop k h.before)) in
          let Q : List ℕ → Type 0 = λ t. AppendsMore k0.contents k1.contents (d.ready t) in
          subst Q (sym same)
          (more_front k0.contents k1.contents (d.ready (take k h.before)) (d.ready h.before) front more)
    ]

-- the input was read in time, whatever is written after that
reads_at : {R C : Type 0} (d : Behavior R C) (max : ℕ) (s0 s1 : SourceMeaning) (k0 k1 k2 : SinkMeaning)
    (taken output : List ℕ) →
    (h : ReadsInTime d max s0 s1 k0 k1 taken) → Wrote k0 k1 (d.ready h.before) →
    AppendsPrefix k1.contents k2.contents output →
    ReadsInTime d max s0 s1 k0 k2 taken
reads_at d max s0 s1 k0 k1 k2 taken output h wrote more = record {
  before = h.before;
  last = h.last;
  split = h.split;
  chunk = h.chunk;
  undecided = h.undecided;
  within = h.within;
  few = h.few;
  calls = h.calls;
  written = inr (more_then k0.contents k1.contents k2.contents (d.ready h.before) output wrote.bytes more);
}

-- the bytes before the last read are a front of those taken, up to as many as are wanted
ready_grows : {R C : Type 0} (d : Behavior R C) (max : ℕ) (s0 s1 : SourceMeaning) (k0 k1 : SinkMeaning)
    (taken : List ℕ) →
    IsLawful d → (h : ReadsInTime d max s0 s1 k0 k1 taken) → IsFront (d.ready h.before) (d.ready (take max taken))
ready_grows d max s0 s1 k0 k1 taken laws h =
    let P : List ℕ → Type 0 = λ t. IsFront (d.ready h.before) (d.ready (take max t)) in
    subst P (sym h.split) (due_grows d max h.before h.last laws h.within)

-- memory ran out while reading, or a write was refused
pub drives_cut : {R C : Type 0} (d : Behavior R C) (max : ℕ) (stands : Histories) (s0 s1 : SourceMeaning)
    (k0 k1 : SinkMeaning) (e : SinkFault) → IsLawful d →
    (let r : Result (Stop R) SinkFault = Err e in Reads d max stands s0 s1 k0 k1 r) →
    (let r : Result (Driven R C) SinkFault = Err e in Drives d max s0 s1 k0 k1 r)
drives_cut {R = R} {C = C} d max stands s0 s1 k0 k1 e laws h =
    let within = laws.within (take max h.taken) in
    let P : List ℕ → Type 0 = λ t. OutputStep k0 k1 (stopped (Driven R C) e) t in (
      h.taken,
      h.took,
      record {
        reads = h.reads;
        stop = tt;
        counts = tt;
        output = subst P (sym within.1)
            (output_stop (Unit {0}) (Driven R C) k0 k1 e (d.ready (take max h.taken)) within.0 h.ending);
        early = due_early d max s0 s1 k0 k1 h.taken laws h.reads;
      },
    )

-- memory ran out at the end
pub drives_unfinished : {R C : Type 0} (d : Behavior R C) (max : ℕ) (stands : Histories) (s0 s1 : SourceMeaning)
    (k0 k1 : SinkMeaning) (s : Stop R) → IsLawful d →
    (let r : Result (Stop R) SinkFault = Ok s in Reads d max stands s0 s1 k0 k1 r) →
    (let r : Result (Driven R C) SinkFault = Err fault.NoMemory in Drives d max s0 s1 k0 k1 r)
drives_unfinished {R = R} {C = C} d max stands s0 s1 k0 k1 s laws h =
    let used : List ℕ = take max h.taken in
    let front : IsFront (d.ready h.reads.before) (d.whole used) =
    front_then (d.ready h.reads.before) (d.ready used) (d.whole used)
    (ready_grows d max s0 s1 k0 k1 h.taken laws h.reads) (laws.within used) in (
      h.taken,
      h.took,
      record {
        reads = h.reads;
        stop = tt;
        counts = tt;
        output = wrote_stops (Driven R C) k0 k1 (d.ready h.reads.before) (d.whole used) h.ending.2 front;
        early = due_early d max s0 s1 k0 k1 h.taken laws h.reads;
      },
    )

-- the same output of an answer of any type
output_ok : {T U : Type 0} (a b : SinkMeaning) (x : T) (y : U) (p : List ℕ) →
    (let r : Result T SinkFault = Ok x in OutputStep a b r p) →
    (let r : Result U SinkFault = Ok y in OutputStep a b r p)
output_ok a b x y p h = record {
  bytes = h.bytes;
  cause = record { later = h.cause.later; failed = λ e. absurd cc };
  failed = h.failed;
  refused = h.refused;
}

-- what the machine gives at the end, at what it means
abbrev pub Finishes : {R C : Type 0} → Behavior R C → Histories → List ℕ → C → Type 0
Finishes d stands output counts =
    ((fed cleared : List ℕ) → stands fed cleared → cleared ++ output ≡ d.whole fed)
    × ((fed cleared : List ℕ) → stands fed cleared → counts ≡ d.counts fed)

-- the same, of a machine that does the same
pub finishes_at : {R C : Type 0} (d e : Behavior R C) (stands : Histories) (output : List ℕ) (counts : C) → d ≡ e →
    Finishes d stands output counts → Finishes e stands output counts
finishes_at d e stands output counts same h =
    let P : Behavior _ _ → Type 0 = λ x. Finishes x stands output counts in
    subst P same h

-- all is written
pub drives_whole : {R C : Type 0} (d : Behavior R C) (max : ℕ) (stands : Histories) (s0 s1 : SourceMeaning)
    (k0 k1 k2 : SinkMeaning) (s : Stop R) (output : List ℕ) (counts : C) → IsLawful d →
    (let r : Result (Stop R) SinkFault = Ok s in Reads d max stands s0 s1 k0 k1 r) →
    Finishes d stands output counts → Wrote k1 k2 output →
    (let r : Result (Driven R C) SinkFault = Ok (record { stop = s; counts = counts }) in Drives d max s0 s1 k0 k2 r)
drives_whole {R = R} {C = C} d max stands s0 s1 k0 k1 k2 s output counts laws h ends put =
    let more = front_prefix k1.contents k2.contents output output put.bytes ([], sym (append-nil output)) in
    let reads = reads_at d max s0 s1 k0 k1 k2 h.taken output h.reads h.ending.2 more in
    let used : List ℕ = take max h.taken in
    let written : Result (Unit {0}) SinkFault = Ok tt in
    let done : Result (Driven R C) SinkFault = Ok (record { stop = s; counts = counts }) in
    let P : List ℕ → Type 0 = λ t. OutputStep k0 k2 done t in
    let all = output_then k0 k1 k2 tt written (d.ready h.reads.before) output h.ending.2 put in (
      h.taken,
      h.took,
      record {
        reads = reads;
        stop = h.ending.0;
        counts = ends.1 used (d.ready h.reads.before) h.ending.1;
        output = subst P (ends.0 used (d.ready h.reads.before) h.ending.1)
            (output_ok k0 k2 tt (record { stop = s; counts = counts }) (d.ready h.reads.before ++ output) all);
        early = due_early d max s0 s1 k0 k2 h.taken laws reads;
      },
    )

-- the last write was refused
pub drives_refused : {R C : Type 0} (d : Behavior R C) (max : ℕ) (stands : Histories) (s0 s1 : SourceMeaning)
    (k0 k1 k2 : SinkMeaning) (s : Stop R) (output : List ℕ) (counts : C) (e : SinkFault) → IsLawful d →
    (let r : Result (Stop R) SinkFault = Ok s in Reads d max stands s0 s1 k0 k1 r) →
    Finishes d stands output counts → OutputStep k1 k2 (stopped (Unit {0}) e) output →
    (let r : Result (Driven R C) SinkFault = Err e in Drives d max s0 s1 k0 k2 r)
drives_refused {R = R} {C = C} d max stands s0 s1 k0 k1 k2 s output counts e laws h ends put =
    let reads = reads_at d max s0 s1 k0 k1 k2 h.taken output h.reads h.ending.2 put.bytes in
    let used : List ℕ = take max h.taken in
    let P : List ℕ → Type 0 = λ t. OutputStep k0 k2 (stopped (Driven R C) e) t in
    let all = output_then k0 k1 k2 tt (stopped (Unit {0}) e) (d.ready h.reads.before) output h.ending.2 put in
    let typed = output_stop (Unit {0}) (Driven R C) k0 k2 e (d.ready h.reads.before ++ output) [] all in (
      h.taken,
      h.took,
      record {
        reads = reads;
        stop = tt;
        counts = tt;
        output =
            subst P (append-nil (d.ready h.reads.before ++ output) ∙ ends.0 used (d.ready h.reads.before) h.ending.1)
            typed;
        early = due_early d max s0 s1 k0 k2 h.taken laws reads;
      },
    )
