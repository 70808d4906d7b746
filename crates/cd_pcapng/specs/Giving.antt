-- What the reader of a capture answers.
use Rattle.std.specs.Prelude.{◌≡◌, ℕ, ◌+◌, ◌≤◌, ◌^◌, List, [], ◌∷◌, ◌++◌, take, Option, Some, None, Result, Ok, Err, ⊤}
use Rattle.std.specs.declared.alloc.AllocError.{AllocError}
use Rattle.cd_packet.specs.declared.capture.BadCapture.{BadCapture}
use Rattle.cd_packet.specs.declared.capture.FeedFault.{FeedFault}
use Rattle.cd_packet.specs.declared.capture.FeedFault.TheVariants.{Bad, NoMemory}
use Rattle.cd_packet.specs.declared.packet.Packet.{Packet}
use Rattle.std.specs.List.{sum_by}
use Rattle.cd_pcapng.specs.Laws.{least_block_length}
use Rattle.cd_pcapng.specs.Pcapng.{pcapng}
use Rattle.cd_pcapng.specs.Reading.{Kept, StandsFor, refusal_of}

-- The history after a call of `feed`: a chunk is taken exactly where the bytes fed hold no refused place.
abbrev pub Feeds : {U : Type 0} → Kept → List ℕ → List Packet → Result U FeedFault → Type 0
Feeds new fed given (Ok u) = StandsFor new fed given × (refusal_of fed ≡ None)
Feeds new fed given (Err (Bad bad)) = StandsFor new fed given × (refusal_of fed ≡ Some bad)
Feeds new fed given (Err NoMemory) = ⊤

-- Where the bytes fed before held a refused place, it is the answer again, for which no memory is wanted.
abbrev pub RefusesAgain : {U : Type 0} → Kept → Result U FeedFault → Type 0
RefusesAgain old result =
    (fed : List ℕ) (given : List Packet) (bad : BadCapture) → StandsFor old fed given → refusal_of fed ≡ Some bad →
    result ≡ Err (Bad bad)

-- So many bytes more were fed, or no memory was found and nothing changed.
abbrev pub Counts : {U : Type 0} → Kept → Kept → ℕ → Result U FeedFault → Type 0
Counts old new more (Ok u) = new.fed_count ≡ old.fed_count + more
Counts old new more (Err (Bad bad)) = new.fed_count ≡ old.fed_count + more
Counts old new more (Err NoMemory) = new ≡ old

-- as bytes were fed, the packets that came took no more of them than were read, and these are no more than may be fed
pub record HasRoom (old new : Kept) : Type 0 where
  pub packets : old.at + sum_by least_block_length new.ready ≤ new.at + sum_by least_block_length old.ready
  pub few : new.at ≤ 2 ^ 48

-- What `next` answers: the first packet that is ready, which is then given, or that none is. Nothing else changes.
abbrev pub GivesFirst : Kept → Kept → Result (Option Packet) AllocError → Type 0
GivesFirst old new (Ok (Some p)) = (old.ready ≡ p ∷ new.ready) × (new ≡ record old { ready = new.ready })
GivesFirst old new (Ok None) = (old.ready ≡ []) × (new ≡ old)
GivesFirst old new (Err e) = new ≡ old

-- The history after a call of `next`: the packet that it gave is the one at its offset, and where there is none, all
-- packets of the bytes fed are given.
abbrev pub Gives : Kept → List ℕ → List Packet → Result (Option Packet) AllocError → Type 0
Gives new fed given (Ok (Some p)) = StandsFor new fed (given ++ p ∷ []) × ((pcapng (take p.at fed)).packets ≡ given)
Gives new fed given (Ok None) = StandsFor new fed given × ((pcapng fed).packets ≡ given)
Gives new fed given (Err e) = ⊤
