-- What holds of a run that took no byte and wrote none.
use Rattle.std.proofs.Common.{◌≡◌, ℕ, List, [], ◌++◌, length, Option, Some, None, refl, ap, sym, ◌∙◌, arith, length-append}
use Rattle.std.specs.Io.KnownBytes.{Consumes}
use Rattle.std.specs.Prelude.{option_map}
use Rattle.std.proofs.lemmas.List.{append-nil}
use Rattle.cd_drive.specs.Driving.{IsTaken}
use Rattle.cd_engine.specs.Checking.{judging_files}
use Rattle.cd_engine.specs.CapturesGo as captures
use Rattle.cd_engine.specs.Endings.{judging_captures}
use Rattle.cd_engine.specs.declared.ended.Ended.TheVariants as ended
use Rattle.cd_inspection.specs.Growing.{nothing_unrefused}
use Rattle.cd_ports.specs.Reading.{SourceMeaning}
use Rattle.cd_ports.specs.Writing.{SinkMeaning, AppendsPrefix}
use Rattle.cd_words.specs.declared.command.Command.{Command}
use Rattle.cd_words.specs.declared.command.Command.TheVariants.{Compact, Check, Inspect, Drill}
use Rattle.cd_top.specs.Run.{StopsReading, refused_for}
use Rattle.cd_top.specs.Statuses.{Writes}
use Rattle.cd_top.specs.declared.status.Status.TheVariants as status

-- no byte was taken
pub none_taken : (src : SourceMeaning) (bytes : List ℕ) → src.left ≡ Some bytes → IsTaken src src []
none_taken src bytes told = record { left = bytes; before = told; now = told }

-- what was consumed was taken, where the source told what is left
pub consumed_is_taken : (old new : SourceMeaning) (bytes taken : List ℕ) → old.left ≡ Some bytes → Consumes old.left new.left taken → IsTaken old new taken
consumed_is_taken old new bytes taken told consumed =
    let rest = by old.left new.left told consumed in
    record { left = rest.0; before = rest.1; now = rest.2 }
  where
    by : (o n : Option (List ℕ)) → o ≡ Some bytes → Consumes o n taken → (left : List ℕ) × (o ≡ Some (taken ++ left)) × (n ≡ Some left)
    by None n is h = absurd cc
    by (Some xs) None is h = absurd h
    by (Some xs) (Some ys) is h = (ys, ap (λ x. Some x) h, refl)

-- no byte is refused
none_refused : (c : Command) → refused_for c [] ≡ None
none_refused (Compact s) = ap (λ o. option_map judging_captures.ended_for o) captures.nothing_unrefused
none_refused (Check max) = ap (λ o. option_map judging_files.ended_for o) nothing_unrefused
none_refused (Inspect max) = ap (λ o. option_map judging_files.ended_for o) nothing_unrefused
none_refused (Drill settings) = refl

-- to take nothing is to stop in time
pub none_stops : (c : Command) (src : SourceMeaning) → StopsReading c src src []
none_stops c src = record {
  before = [];
  last = [];
  split = refl;
  chunk = omega arith;
  undecided = none_refused c;
  within = omega arith;
  few = omega arith;
  calls = omega arith;
}

-- so what was taken is nothing
pub unread : (src : SourceMeaning) (taken : List ℕ) → IsTaken src src taken → length taken ≡ 0
unread src taken is =
    let same : taken ++ is.left ≡ is.left = some_same (taken ++ is.left) is.left (sym is.before ∙ is.now) in
    omega (arith, length-append taken is.left, ap length same)
  where
    some_same : (a b : List ℕ) → Some a ≡ Some b → a ≡ b
    some_same a b e = cc

-- no byte is a prefix
pub prefix_none : (contents : Option (List ℕ)) (bytes : List ℕ) → AppendsPrefix contents contents bytes
prefix_none None bytes = tt
prefix_none (Some xs) bytes = (0, sym (append-nil xs))

-- where memory ran out nothing need be written
pub writes_none : (sink : SinkMeaning) (bytes : List ℕ) → Writes sink sink status.NoMemory bytes
writes_none sink bytes = record { end = ended.NoMemory; is = refl; holds = prefix_none sink.contents bytes }
