-- What the parts of `drive` do.
use Rattle.std.specs.Prelude.{◌≡◌, ℕ, ◌+◌, ◌<◌, ◌≤◌, Bool, true, false, List, ◌++◌, length, take}
use Rattle.std.specs.Prelude.{Option, Some, None, Result, Ok, Err, IfOk}
use Rattle.std.specs.Io.KnownBytes.{Consumes}
use Rattle.cd_ports.specs.Reading.{SourceMeaning}
use Rattle.cd_ports.specs.Writing.{SinkMeaning, OutputStep}
use Rattle.cd_ports.specs.declared.sink.SinkFault.{SinkFault}
use Rattle.cd_drive.specs.Behaviors.{Behavior, Histories}
use Rattle.cd_drive.specs.Driving.{stopped_by, ReadsInTime}
use Rattle.cd_drive.specs.declared.driving.Stop.{Stop}
use Rattle.cd_drive.specs.declared.driving.Stop.TheVariants as stop

-- the source failed
abbrev pub is_fault : {R : Type 0} → Stop R → Bool
is_fault stop.ReadFault = true
is_fault stop.Done = false
is_fault stop.TooLong = false
is_fault (stop.Refused refusal) = false

-- a call that says what ends the input says that the source failed
abbrev pub is_read_fault : {R E : Type 0} → Result (Option (Stop R)) E → Bool
is_read_fault (Ok (Some s)) = is_fault s
is_read_fault (Ok None) = false
is_read_fault (Err e) = false

-- what the bytes taken say of the end of the input
abbrev pub Says : {R C : Type 0} → Behavior R C → ℕ → List ℕ → Bool → Option (Stop R) → Type 0
Says b max taken told_end (Some s) = s ≡ stopped_by b max taken told_end
Says b max taken told_end None = (b.refusal taken ≡ None) × (length taken ≤ max)

-- A machine that stood for bytes that ended nothing stands for them and the chunk, and what ends the input was said.
abbrev pub Judges : {R C : Type 0} → Behavior R C → Histories → Histories → Bool → ℕ →
    List ℕ → Option (Stop R) → Type 0
Judges b stands_old stands_new told_end room chunk said =
    (max : ℕ) (taken cleared : List ℕ) → length taken + room ≡ max + 1 → stands_old taken cleared →
    b.refusal taken ≡ None →
    stands_new (take max (taken ++ chunk)) cleared × Says b max (taken ++ chunk) told_end said

-- This chunk was taken, where there was room for so many bytes, and there is room for so many more.
pub record TakesChunk {R C E : Type 0} (b : Behavior R C) (stands_old stands_new : Histories) (told_end : Bool)
    (room_old room_new : ℕ) (result : Result (Option (Stop R)) E) (chunk : List ℕ) : Type 0 where
  pub small : length chunk ≤ 65536
  pub room : room_new + length chunk ≡ room_old
  pub more : IfOk result (λ said. said ≡ None → 0 < length chunk)
  pub judges : IfOk result (Judges b stands_old stands_new told_end room_old chunk)

-- these bytes were written
abbrev pub Wrote : SinkMeaning → SinkMeaning → List ℕ → Type 0
Wrote old new bytes = let written : Result (Unit {0}) SinkFault = Ok tt in OutputStep old new written bytes

-- What stands after the last read: what ended the input, and the output that was due before it; or, where a write
-- was refused or memory ran out, a front of the output that is due.
abbrev pub EndsReading : {R C : Type 0} → Behavior R C → ℕ → Histories → Bool → SinkMeaning → SinkMeaning →
    List ℕ → List ℕ → Result (Stop R) SinkFault → Type 0
EndsReading b max stands told_end old new before taken (Ok s) =
    (s ≡ stopped_by b max taken told_end) × stands (take max taken) (b.ready before) × Wrote old new (b.ready before)
EndsReading b max stands told_end old new before taken (Err e) =
    let failed : Result (Unit {0}) SinkFault = Err e in OutputStep old new failed (b.ready (take max taken))

-- The input was read, and what was due was written meanwhile.
pub record Reads {R C : Type 0} (b : Behavior R C) (max : ℕ) (stands : Histories) (src_old src_new : SourceMeaning)
    (out_old out_new : SinkMeaning) (result : Result (Stop R) SinkFault) : Type 0 where
  pub taken : List ℕ
  pub took : Consumes src_old.left src_new.left taken
  pub reads : ReadsInTime b max src_old src_new out_old out_new taken
  pub ending : EndsReading b max stands src_new.ended out_old out_new reads.before taken result
