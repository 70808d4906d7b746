-- What a call that writes answers, by what a drive answers.
use Rattle.std.proofs.Common.{◌≡◌, ℕ, Bool, true, false, List, Option, Some, None, Result, Ok, Err, refl, ap, sym, ◌∙◌, inl, inr, ◌⊎◌}
use Rattle.std.specs.Prelude.{◌||◌}
use Rattle.std.specs.Io.KnownBytes.{Appends}
use Rattle.std.proofs.lemmas.Bool.{false≢true}
use Rattle.std.proofs.lemmas.List.{append-nil}
use Rattle.cd_drive.specs.Behaviors.{Behavior}
use Rattle.cd_drive.specs.Driving.{Drives, IsDone}
use Rattle.cd_drive.specs.declared.driving.Driven.{Driven}
use Rattle.cd_drive.specs.declared.driving.Stop.{Stop}
use Rattle.cd_ports.specs.Reading.{SourceMeaning}
use Rattle.cd_ports.specs.Writing.{SinkMeaning, AppendsPrefix}
use Rattle.cd_ports.specs.declared.sink.SinkFault.{SinkFault}
use Rattle.cd_ports.specs.declared.sink.SinkFault.TheVariants as fault
use Rattle.cd_engine.specs.Compacting.{Writes, WriteOutranks}
use Rattle.cd_engine.specs.Endings.{ended_of}
use Rattle.cd_engine.specs.declared.ended.Ended.{Ended}
use Rattle.cd_engine.specs.declared.ended.Ended.TheVariants as ended
use Rattle.cd_engine.proofs.RunsEnd.{AreRefusals, goes_on}

-- a write that did not fail is no failure
no_failure : (before after : Bool) → after ≡ (before || false) → before ≡ false → after ≡ true → ⊥
no_failure true after e sound failed = absurd cc
no_failure false after e sound failed = false≢true (sym e ∙ failed)

-- nothing is a prefix of any bytes
pub appends_none : (o : Option (List ℕ)) (bytes : List ℕ) → AppendsPrefix o o bytes
appends_none None bytes = tt
appends_none (Some xs) bytes = (0, sym (append-nil xs))

-- the output is written whole
pub writes_at : {R : Type 0} (f : R → Ended) → AreRefusals f → (old new : SinkMeaning) (e : Stop R) (bytes : List ℕ) →
    Appends old.contents new.contents bytes → Writes old new (ended_of f e) bytes
writes_at f are old new e bytes h = goes_on f are (AppendsPrefix old.contents new.contents bytes) (Appends old.contents new.contents bytes) e h

module _ {R C : Type 0} (f : R → Ended) where
  -- how a drive ends the call, with what counts, or with no counts
  abbrev pub answer_of : C → Result (Driven R C) SinkFault → Ended × C
  answer_of none (Ok driven) = (ended_of f driven.stop, driven.counts)
  answer_of none (Err fault.Failed) = (ended.WriteFault, none)
  answer_of none (Err fault.NoMemory) = (ended.NoMemory, none)

  -- a fault of the sink outranks all but want of memory
  pub outranks_driven : (none : C) (b : Behavior R C) (max : ℕ) (so sn : SourceMeaning) (ko kn : SinkMeaning) (r : Result (Driven R C) SinkFault) →
      Drives b max so sn ko kn r → WriteOutranks ko kn (answer_of none r).0
  outranks_driven none b max so sn ko kn (Ok driven) h = record {
    failed = λ sound failed. absurd (no_failure ko.failed kn.failed h.2.output.failed sound failed);
    refused = λ sound refused. absurd (false≢true (h.2.output.refused sound refused));
  }
  outranks_driven none b max so sn ko kn (Err fault.Failed) h = record { failed = λ _ _. tt; refused = λ _ _. tt }
  outranks_driven none b max so sn ko kn (Err fault.NoMemory) h = record { failed = λ _ _. tt; refused = λ _ _. tt }

  -- a drive that is done is a call that is
  pub done_driven : (none : C) (r : Result (Driven R C) SinkFault) → IsDone r →
      ((answer_of none r).0 ≡ ended.Done) ⊎ ((answer_of none r).0 ≡ ended.NoMemory)
  done_driven none (Ok driven) h = inl (ap (ended_of f) h)
  done_driven none (Err fault.Failed) h = absurd cc
  done_driven none (Err fault.NoMemory) h = inr refl
