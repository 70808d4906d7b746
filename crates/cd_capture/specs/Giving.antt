-- What the reader of a capture answers.
use Rattle.std.specs.Prelude.{◌≡◌, ℕ, ◌+◌, ◌≤◌, ◌^◌, List, [], ◌∷◌, ◌++◌, take, Option, Some, None, Result, Ok, Err, ⊤}
use Rattle.std.specs.declared.alloc.AllocError.{AllocError}
use Rattle.cd_packet.specs.declared.capture.BadCapture.{BadCapture}
use Rattle.cd_packet.specs.declared.capture.EndState.{EndState}
use Rattle.cd_packet.specs.declared.capture.EndState.TheVariants as end
use Rattle.cd_packet.specs.declared.capture.FeedFault.{FeedFault}
use Rattle.cd_packet.specs.declared.capture.FeedFault.TheVariants.{Bad, NoMemory}
use Rattle.cd_packet.specs.declared.packet.Packet.{Packet}
use Rattle.cd_capture.specs.Formats.{capture}
use Rattle.cd_capture.specs.Laws.{record_size}
use Rattle.cd_capture.specs.Reading.{Kept, StandsFor, refusal_of}

-- The history after a call of `feed`: a chunk is taken exactly where the bytes fed hold no refused place.
abbrev pub Feeds : {U : Type 0} → Kept → List ℕ → List Packet → Result U FeedFault → Type 0
Feeds new fed given (Ok u) = StandsFor new fed given × (refusal_of fed ≡ None)
Feeds new fed given (Err (Bad bad)) = StandsFor new fed given × (refusal_of fed ≡ Some bad)
Feeds new fed given (Err NoMemory) = ⊤

-- Where the bytes fed before held a refused place, it is the answer again, for which no memory is wanted.
abbrev pub RefusesAgain : {U : Type 0} → Kept → Result U FeedFault → Type 0
RefusesAgain old result =
    (fed : List ℕ) (given : List Packet) (bad : BadCapture) → StandsFor old fed given → refusal_of fed ≡ Some bad →
    result ≡ Err (Bad bad)

-- So many bytes more were fed, or no memory was found and nothing changed.
abbrev pub Counts : {U : Type 0} → Kept → Kept → ℕ → Result U FeedFault → Type 0
Counts old new more (Ok u) = new.fed_count ≡ old.fed_count + more
Counts old new more (Err (Bad bad)) = new.fed_count ≡ old.fed_count + more
Counts old new more (Err NoMemory) = new ≡ old

-- what `feed` answers where the bytes fed end so
abbrev pub AnswersFor : {U : Type 0} → EndState → Result U FeedFault → Type 0
AnswersFor e (Ok u) = (bad : BadCapture) → e ≡ end.Bad bad → ⊥
AnswersFor e (Err (Bad bad)) = e ≡ end.Bad bad
AnswersFor e (Err NoMemory) = ⊥

-- The history after a call of `next`: the packet that it gave is the one at its offset, and where there is none, all
-- packets of the bytes fed are given.
abbrev pub Gives : Kept → List ℕ → List Packet → Result (Option Packet) AllocError → Type 0
Gives new fed given (Ok (Some p)) = StandsFor new fed (given ++ p ∷ []) × ((capture (take p.at fed)).packets ≡ given)
Gives new fed given (Ok None) = StandsFor new fed given × ((capture fed).packets ≡ given)
Gives new fed given (Err e) = ⊤

-- where a packet was given, its bytes and 16 besides are passed, and no more than may be fed; else nothing changed
abbrev pub Moves : Kept → Kept → Result (Option Packet) AllocError → Type 0
Moves old new (Ok (Some p)) = (new.passed ≡ old.passed + record_size p) × (new.passed ≤ 2 ^ 48)
Moves old new (Ok None) = new.passed ≡ old.passed
Moves old new (Err e) = ⊤
