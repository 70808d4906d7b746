-- What a drive took from a source that tells.
use Rattle.std.proofs.Common.{◌≡◌, ℕ, List, ◌++◌, Option, Some, Result, sym, subst}
use Rattle.std.proofs.lemmas.List.{append_cancel_right}
use Rattle.std.specs.Io.KnownBytes.{Consumes}
use Rattle.cd_ports.specs.Reading.{SourceMeaning}
use Rattle.cd_ports.specs.Writing.{SinkMeaning}
use Rattle.cd_ports.specs.declared.sink.SinkFault.{SinkFault}
use Rattle.cd_drive.specs.Behaviors.{Behavior}
use Rattle.cd_drive.specs.Driving.{Drives, DrivesOn, DrivesTold, IsTaken}
use Rattle.cd_drive.specs.declared.driving.Driven.{Driven}

-- the bytes that the call took are those that the source has lost
taken_is : (old new : SourceMeaning) (t taken : List ℕ) → Consumes old.left new.left t → IsTaken old new taken →
    t ≡ taken
taken_is old new t taken took is =
    let P : Option (List ℕ) → Type 0 = λ o. Consumes o new.left t in
    let Q : Option (List ℕ) → Type 0 = λ o. Consumes (Some (taken ++ is.left)) o t in
    append_cancel_right t taken is.left (sym (subst Q is.now (subst P is.before took)))

-- so the answer and the output are those of the bytes that it has lost
pub drives_told : {R C : Type 0} (d : Behavior R C) (max : ℕ) (s0 s1 : SourceMeaning) (k0 k1 : SinkMeaning)
    (r : Result (Driven R C) SinkFault) →
    Drives d max s0 s1 k0 k1 r → DrivesTold d max s0 s1 k0 k1 r
drives_told d max s0 s1 k0 k1 r h = λ taken is.
    let P : List ℕ → Type 0 = λ t. DrivesOn d max s0 s1 k0 k1 r t in
    subst P (taken_is s0 s1 h.0 taken h.1 is) h.2
