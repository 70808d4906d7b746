-- What a report gets that is written, or is not.
use Rattle.std.proofs.Common.{◌≡◌, ℕ, List, ◌++◌, ap, sym, ◌∙◌, inr, subst, append_assoc}
use Rattle.cd_ports.specs.Writing.{SinkMeaning, AppendsPrefix}
use Rattle.cd_top.specs.Reports.{TellsReport}
use Rattle.cd_top.specs.Statuses.{IsStopped, WriteOutranks}
use Rattle.cd_top.specs.declared.status.Status.{Status}
use Rattle.cd_top.specs.declared.status.Status.TheVariants as status
use Rattle.cd_top.proofs.Mapping.{memory_stops, write_stops}
use Rattle.cd_top.proofs.Unread.{prefix_none}

-- a prefix of it is written
pub told_front : (a b : SinkMeaning) (r s : Status) (text : List ℕ) → AppendsPrefix a.contents b.contents text → IsStopped r → TellsReport a b r s text
told_front a b r s text h halt = record { ends = inr halt; whole = λ going. absurd (going halt); front = λ again. h }

-- the bytes of which a prefix is written are the text
pub told_front_of : (a b : SinkMeaning) (r s : Status) (bytes text : List ℕ) → bytes ≡ text → AppendsPrefix a.contents b.contents bytes → IsStopped r →
    TellsReport a b r s text
told_front_of a b r s bytes text is h halt =
    let P : List ℕ → Type 0 = λ t. AppendsPrefix a.contents b.contents t in
    told_front a b r s text (subst P is h) halt

-- a run that is not stopped had no failed write
pub no_failed_write : (s : Status) → (IsStopped s → ⊥) → s ≡ status.WriteFault → ⊥
no_failed_write s going is =
    let P : Status → Type 0 = λ x. IsStopped x in
    going (subst P (sym is) write_stops)

-- nothing is written where memory ran out
pub unsaid : (a : SinkMeaning) (s : Status) (text : List ℕ) → TellsReport a a status.NoMemory s text
unsaid a s text = told_front a a status.NoMemory s text (prefix_none a.contents text) memory_stops

-- a run that is stopped is outranked by nothing
pub outranks_stopped : (a b : SinkMeaning) (r : Status) → IsStopped r → WriteOutranks a b r
outranks_stopped a b r halt = record { failed = λ before now. halt; refused = λ before now. halt }

-- one piece more after some text
pub further : (before now next pieces piece : List ℕ) → now ≡ before ++ pieces → next ≡ now ++ piece → next ≡ before ++ (pieces ++ piece)
further before now next pieces piece first second = second ∙ ap (λ t. t ++ piece) first ∙ append_assoc before pieces piece
