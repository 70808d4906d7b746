-- Steps that end no event change no history.
use Rattle.std.proofs.Common.{◌≡◌, ℕ, List, length}
use Rattle.cd_cbor.specs.Following.{StandsFor}
use Rattle.cd_cbor.specs.declared.event.Event.{Event}
use Rattle.cd_cbor.proofs.reader.Reader.next.Given as goal

abbrev pub invariant-steps : goal.invariant-steps
invariant-steps l = record {
  stands : (fed : List ℕ) (given : List Event) → StandsFor l.fn.self fed given → StandsFor l.self fed given;
  count : l.self.fed_count ≡ l.fn.self.fed_count;
}

abbrev pub decreases-steps : goal.decreases-steps
decreases-steps l = length l.self.held
