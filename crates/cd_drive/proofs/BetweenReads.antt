-- The state between two reads, and how the reading ends from there.
use Rattle.std.proofs.Common.{◌≡◌, ℕ, ◌+◌, ◌-◌, ◌<◌, ◌≤◌, List, [], ◌++◌, length, take, Option, Some, None, Result}
use Rattle.std.proofs.Common.{Ok, Err, refl, ap, sym, ◌∙◌, arith, subst, length-append, inl, inr}
use Rattle.std.proofs.lemmas.List.{take_all, append-nil}
use Rattle.std.proofs.Math.Seq.{take-append_seam, take-append-add}
use Rattle.std.specs.Io.KnownBytes.{Consumes, Appends}
use Rattle.cd_ports.proofs.Steps.{consumes_none, consumes_then, keeps_same, stopped}
use Rattle.cd_ports.proofs.Outputs.{output_then, output_none}
use Rattle.cd_ports.specs.Reading.{SourceMeaning}
use Rattle.cd_ports.specs.Writing.{SinkMeaning, OutputStep, AppendsPrefix}
use Rattle.cd_ports.specs.declared.sink.SinkFault.{SinkFault}
use Rattle.cd_ports.specs.declared.sink.SinkFault.TheVariants as fault
use Rattle.cd_drive.specs.Behaviors.{Behavior, IsLawful, IsFront, Histories}
use Rattle.cd_drive.specs.Driving.{Took, AppendsMore, ReadsInTime}
use Rattle.cd_drive.specs.Steps.{TakesChunk, Wrote, Reads}
use Rattle.cd_drive.specs.declared.driving.Stop.{Stop}

-- a machine that stands so, and a call that writes what is ready
abbrev pub WritesReady : {R C : Type 0} → Behavior R C → Histories → SinkMeaning → SinkMeaning →
    Result (Unit {0}) SinkFault → Type 0
WritesReady d stands k0 k1 r =
    (fed cleared : List ℕ) → stands fed cleared →
    (bytes : List ℕ) × (cleared ++ bytes ≡ d.ready fed) × OutputStep k0 k1 r bytes

-- Between two reads all is written that is ready.
pub record BetweenReads {R C : Type 0} (d : Behavior R C) (max : ℕ) (stands : Histories) (s0 s1 : SourceMeaning)
    (k0 k1 : SinkMeaning) (room : ℕ) : Type 0 where
  pub taken : List ℕ
  pub took : Consumes s0.left s1.left taken
  pub count : length taken + room ≡ max + 1
  pub some : 0 < room
  pub history : stands taken (d.ready taken)
  pub unrefused : d.refusal taken ≡ None
  pub output : Wrote k0 k1 (d.ready taken)

-- bytes that grow by these grow by these at least
appends_more : (a b : Option (List ℕ)) (p : List ℕ) → Appends a b p → AppendsMore a b p
appends_more None b p h = tt
appends_more (Some xs) None p h = absurd h
appends_more (Some xs) (Some ys) p h = ([], h ∙ sym (append-nil (xs ++ p)))

-- and still do, whatever is written then
pub more_then : (a b c : Option (List ℕ)) (p q : List ℕ) → Appends a b p → AppendsPrefix b c q → AppendsMore a c p
more_then None b c p q h k = tt
more_then (Some xs) None c p q h k = absurd h
more_then (Some xs) (Some ys) None p q h k = absurd k
more_then (Some xs) (Some ys) (Some zs) p q h k = (take k.0 q, k.1 ∙ ap (λ t. t ++ take k.0 q) h)

-- bytes that grow by these grow by a prefix of more
pub front_prefix : (a b : Option (List ℕ)) (p q : List ℕ) → Appends a b p → IsFront p q → AppendsPrefix a b q
front_prefix None b p q h k = tt
front_prefix (Some xs) None p q h k = absurd h
front_prefix (Some xs) (Some ys) p q h k =
    (length p, h ∙ ap (λ t. xs ++ t) (sym (ap (λ t. take (length p) t) k.1 ∙ take-append_seam p k.0)))

-- memory ran out after bytes that are a front of what is due
pub wrote_stops : (T : Type 0) (k0 k1 : SinkMeaning) (p q : List ℕ) → Wrote k0 k1 p → IsFront p q →
    OutputStep k0 k1 (stopped T fault.NoMemory) q
wrote_stops T k0 k1 p q h k = record {
  bytes = front_prefix k0.contents k1.contents p q h.bytes k;
  cause = record { later = h.cause.later; failed = λ e. absurd cc };
  failed = h.failed;
  refused = λ before now. refl;
}

-- nothing was read
start_reads : {R C : Type 0} (d : Behavior R C) (max : ℕ) (s : SourceMeaning) (k0 k1 : SinkMeaning) → IsLawful d →
    ReadsInTime d max s s k0 k1 []
start_reads d max s k0 k1 laws = record {
  before = [];
  last = [];
  split = refl;
  chunk = omega arith;
  undecided = laws.begins;
  within = omega arith;
  few = omega arith;
  calls = omega arith;
  written = inl (record { source = refl; none = refl });
}

-- nothing of nothing is wanted
none_taken : (max : ℕ) → let none : List ℕ = [] in take max none ≡ none
none_taken max = let none : List ℕ = [] in take_all max none (omega arith)

-- memory ran out before anything was read
pub reads_none : {R C : Type 0} (d : Behavior R C) (max : ℕ) (stands : Histories) (s : SourceMeaning)
    (k : SinkMeaning) → IsLawful d →
    Reads d max stands s s k k (Err fault.NoMemory)
reads_none d max stands s k laws = record {
  taken = [];
  took = consumes_none s.left s.left (keeps_same s.left);
  reads = start_reads d max s k k laws;
  ending = wrote_stops (Unit {0}) k k [] (d.ready (take max [])) (output_none (Unit {0}) k tt)
      (d.ready (take max []), refl);
}

-- the first write was refused
pub reads_unwritten : {R C : Type 0} (d : Behavior R C) (max : ℕ) (so sn : Histories) (s : SourceMeaning)
    (k0 k1 : SinkMeaning) (e : SinkFault) → IsLawful d → so [] [] →
    WritesReady d so k0 k1 (Err e) → Reads d max sn s s k0 k1 (Err e)
reads_unwritten d max so sn s k0 k1 e laws fresh writes =
    let w = writes [] [] fresh in
    let P : List ℕ → Type 0 = λ t. OutputStep k0 k1 (stopped (Unit {0}) e) t in
    record {
      taken = [];
      took = consumes_none s.left s.left (keeps_same s.left);
      reads = start_reads d max s k0 k1 laws;
      ending = subst P (w.1 ∙ ap d.ready (sym (none_taken max))) w.2;
    }

-- before the first read
pub between_first : {R C : Type 0} (d : Behavior R C) (max : ℕ) (so sn : Histories) (s : SourceMeaning)
    (k0 k1 : SinkMeaning) → IsLawful d → so [] [] →
    WritesReady d so k0 k1 (Ok tt) → ((fed cleared : List ℕ) → so fed cleared → sn fed (d.ready fed)) →
    BetweenReads d max sn s s k0 k1 (max + 1)
between_first d max so sn s k0 k1 laws fresh writes history =
    let w = writes [] [] fresh in
    let P : List ℕ → Type 0 = λ t. Wrote k0 k1 t in
    record {
      taken = [];
      took = consumes_none s.left s.left (keeps_same s.left);
      count = omega arith;
      some = omega arith;
      history = history [] [] fresh;
      unrefused = laws.begins;
      output = subst P w.1 w.2;
    }

-- the same, of a machine that does the same
pub chunk_at : {R C E : Type 0} (d e : Behavior R C) (so sn : Histories) (s1 s2 : SourceMeaning) (room left : ℕ)
    (r : Result (Option (Stop R)) E) → d ≡ e →
    Took s1 s2 (TakesChunk d so sn s2.ended room left r) → Took s1 s2 (TakesChunk e so sn s2.ended room left r)
chunk_at d e so sn s1 s2 room left r same h =
    let P : Behavior _ _ → Type 0 = λ x. Took s1 s2 (TakesChunk x so sn s2.ended room left r) in
    subst P same h

-- and of a call that writes what is ready
pub writes_at : {R C : Type 0} (d e : Behavior R C) (stands : Histories) (k0 k1 : SinkMeaning)
    (r : Result (Unit {0}) SinkFault) → d ≡ e →
    WritesReady d stands k0 k1 r → WritesReady e stands k0 k1 r
writes_at d e stands k0 k1 r same h =
    let P : Behavior _ _ → Type 0 = λ x. WritesReady x stands k0 k1 r in
    subst P same h

-- the last read took these bytes, after others
pub record ReadsLast {R C : Type 0} (d : Behavior R C) (max room left : ℕ) (s0 s2 : SourceMeaning)
    (k0 k2 : SinkMeaning) (taken bytes : List ℕ) : Type 0 where
  pub count : length taken + room ≡ max + 1
  pub some : 0 < room
  pub unrefused : d.refusal taken ≡ None
  pub small : length bytes ≤ 65536
  pub fits : left + length bytes ≡ room
  pub calls : s2.calls ≤ s0.calls + length taken + 1
  pub written : AppendsMore k0.contents k2.contents (d.ready taken)

-- the input was read in time where it was so up to the last read
last_reads : {R C : Type 0} (d : Behavior R C) (max room left : ℕ) (s0 s2 : SourceMeaning) (k0 k2 : SinkMeaning)
    (taken bytes : List ℕ) →
    ReadsLast d max room left s0 s2 k0 k2 taken bytes → ReadsInTime d max s0 s2 k0 k2 (taken ++ bytes)
last_reads d max room left s0 s2 k0 k2 taken bytes h = record {
  before = taken;
  last = bytes;
  split = refl;
  chunk = h.small;
  undecided = h.unrefused;
  within = omega (arith, h.count, h.some);
  few = omega (arith, length-append taken bytes, h.count, h.fits);
  calls = h.calls;
  written = inr h.written;
}

-- what is due grows with the bytes taken
pub due_grows : {R C : Type 0} (d : Behavior R C) (max : ℕ) (taken bytes : List ℕ) → IsLawful d →
    length taken ≤ max → IsFront (d.ready taken) (d.ready (take max (taken ++ bytes)))
due_grows d max taken bytes laws few =
    let rest : max ≡ length taken + (max - length taken) = omega arith in
    let split : take max (taken ++ bytes) ≡ taken ++ take (max - length taken) bytes =
    ap (λ n. take n (taken ++ bytes)) rest ∙ take-append-add taken bytes (max - length taken) in
    let P : List ℕ → Type 0 = λ t. IsFront (d.ready taken) (d.ready t) in
    subst P (sym split) (laws.grows taken (take (max - length taken) bytes))

-- memory ran out
pub reads_refused : {R C E : Type 0} (d : Behavior R C) (max : ℕ) (so sn : Histories) (s0 s1 s2 : SourceMeaning)
    (k0 k1 : SinkMeaning) (room left : ℕ) (e : E) → IsLawful d →
    (h : BetweenReads d max so s0 s1 k0 k1 room) →
    (let r : Result (Option (Stop R)) E = Err e in Took s1 s2 (TakesChunk d so sn s2.ended room left r)) →
    s2.calls ≤ s0.calls + length h.taken + 1 → Reads d max sn s0 s2 k0 k1 (Err fault.NoMemory)
reads_refused d max so sn s0 s1 s2 k0 k1 room left e laws h step calls =
    let few : length h.taken ≤ max = omega (arith, h.count, h.some) in
    record {
      taken = h.taken ++ step.0;
      took = consumes_then s0.left s1.left s2.left h.taken step.0 h.took step.1;
      reads = last_reads d max room left s0 s2 k0 k1 h.taken step.0 (record {
        count = h.count;
        some = h.some;
        unrefused = h.unrefused;
        small = step.2.small;
        fits = step.2.room;
        calls = calls;
        written = appends_more k0.contents k1.contents (d.ready h.taken) h.output.bytes;
      });
      ending = wrote_stops (Unit {0}) k0 k1 (d.ready h.taken) (d.ready (take max (h.taken ++ step.0))) h.output
          (due_grows d max h.taken step.0 laws few);
    }

-- something ended the input
pub reads_stopped : {R C : Type 0} (E : Type 0) (d : Behavior R C) (max : ℕ) (so sn : Histories)
    (s0 s1 s2 : SourceMeaning) (k0 k1 : SinkMeaning) (room left : ℕ) (s : Stop R) →
    (h : BetweenReads d max so s0 s1 k0 k1 room) →
    (let r : Result (Option (Stop R)) E = Ok (Some s) in Took s1 s2 (TakesChunk d so sn s2.ended room left r)) →
    s2.calls ≤ s0.calls + length h.taken + 1 → Reads d max sn s0 s2 k0 k1 (Ok s)
unfolding last_reads
reads_stopped E d max so sn s0 s1 s2 k0 k1 room left s h step calls =
    let j = step.2.judges max h.taken (d.ready h.taken) h.count h.history h.unrefused in
    record {
      taken = h.taken ++ step.0;
      took = consumes_then s0.left s1.left s2.left h.taken step.0 h.took step.1;
      reads = last_reads d max room left s0 s2 k0 k1 h.taken step.0 (record {
        count = h.count;
        some = h.some;
        unrefused = h.unrefused;
        small = step.2.small;
        fits = step.2.room;
        calls = calls;
        written = appends_more k0.contents k1.contents (d.ready h.taken) h.output.bytes;
      });
      ending = (j.1, j.0, h.output);
    }

-- a chunk was taken, and nothing ends the input
pub record GoesOn {R C : Type 0} (d : Behavior R C) (max : ℕ) (stands : Histories) (taken bytes : List ℕ) : Type 0 where
  pub unrefused : d.refusal (taken ++ bytes) ≡ None
  pub few : length (taken ++ bytes) ≤ max
  pub history : stands (taken ++ bytes) (d.ready taken)

-- the bytes taken so far and the chunk go on
goes_on : {R C : Type 0} (E : Type 0) (d : Behavior R C) (max : ℕ) (so sn : Histories) (s0 s1 s2 : SourceMeaning)
    (k0 k1 : SinkMeaning) (room left : ℕ) →
    (h : BetweenReads d max so s0 s1 k0 k1 room) →
    (step : let r : Result (Option (Stop R)) E = Ok None in Took s1 s2 (TakesChunk d so sn s2.ended room left r)) →
    GoesOn d max sn h.taken step.0
goes_on E d max so sn s0 s1 s2 k0 k1 room left h step =
    let j = step.2.judges max h.taken (d.ready h.taken) h.count h.history h.unrefused in
    let P : List ℕ → Type 0 = λ t. sn t (d.ready h.taken) in
    record {
      unrefused = j.1.0;
      few = j.1.1;
      history = subst P (take_all max (h.taken ++ step.0) j.1.1) j.0;
    }

-- a write between two reads was refused
pub reads_cut : {R C : Type 0} (E : Type 0) (d : Behavior R C) (max : ℕ) (so sm sn : Histories)
    (s0 s1 s2 : SourceMeaning) (k0 k1 k2 : SinkMeaning) (room left : ℕ) (e : SinkFault) →
    (h : BetweenReads d max so s0 s1 k0 k1 room) →
    (let r : Result (Option (Stop R)) E = Ok None in Took s1 s2 (TakesChunk d so sm s2.ended room left r)) →
    WritesReady d sm k1 k2 (Err e) → s2.calls ≤ s0.calls + length h.taken + 1 → Reads d max sn s0 s2 k0 k2 (Err e)
reads_cut E d max so sm sn s0 s1 s2 k0 k1 k2 room left e h step writes calls =
    let g = goes_on E d max so sm s0 s1 s2 k0 k1 room left h step in
    let w = writes (h.taken ++ step.0) (d.ready h.taken) g.history in
    let P : List ℕ → Type 0 = λ t. OutputStep k0 k2 (stopped (Unit {0}) e) t in
    record {
      taken = h.taken ++ step.0;
      took = consumes_then s0.left s1.left s2.left h.taken step.0 h.took step.1;
      reads = last_reads d max room left s0 s2 k0 k2 h.taken step.0 (record {
        count = h.count;
        some = h.some;
        unrefused = h.unrefused;
        small = step.2.small;
        fits = step.2.room;
        calls = calls;
        written = more_then k0.contents k1.contents k2.contents (d.ready h.taken) w.0 h.output.bytes w.2.bytes;
      });
      ending = subst P (w.1 ∙ ap d.ready (sym (take_all max (h.taken ++ step.0) g.few)))
          (output_then k0 k1 k2 tt (stopped (Unit {0}) e) (d.ready h.taken) w.0 h.output w.2);
    }

-- before the next read
pub between_next : {R C : Type 0} (E : Type 0) (d : Behavior R C) (max : ℕ) (so sm sn : Histories)
    (s0 s1 s2 : SourceMeaning) (k0 k1 k2 : SinkMeaning) (room left : ℕ) →
    BetweenReads d max so s0 s1 k0 k1 room →
    (let r : Result (Option (Stop R)) E = Ok None in Took s1 s2 (TakesChunk d so sm s2.ended room left r)) →
    WritesReady d sm k1 k2 (Ok tt) → ((fed cleared : List ℕ) → sm fed cleared → sn fed (d.ready fed)) →
    BetweenReads d max sn s0 s2 k0 k2 left
between_next E d max so sm sn s0 s1 s2 k0 k1 k2 room left h step writes history =
    let g = goes_on E d max so sm s0 s1 s2 k0 k1 room left h step in
    let w = writes (h.taken ++ step.0) (d.ready h.taken) g.history in
    let P : List ℕ → Type 0 = λ t. Wrote k0 k2 t in
    let size : length (h.taken ++ step.0) ≡ length h.taken + length step.0 = length-append h.taken step.0 in
    record {
      taken = h.taken ++ step.0;
      took = consumes_then s0.left s1.left s2.left h.taken step.0 h.took step.1;
      count = omega (arith, size, h.count, step.2.room);
      some = omega (arith, size, h.count, step.2.room, g.few);
      history = history (h.taken ++ step.0) (d.ready h.taken) g.history;
      unrefused = g.unrefused;
      output = subst P w.1 (output_then k0 k1 k2 tt (Ok tt) (d.ready h.taken) w.0 h.output w.2);
    }
