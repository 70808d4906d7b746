-- What the bytes of a capture are refused for, at their end and before.
use Rattle.std.proofs.Common.{◌≡◌, ℕ, cond, nat_lt, List, length, None, refl, ◌∙◌, inl, inr}
use Rattle.std.proofs.lemmas.Bool.{cases_lt}
use Rattle.cd_capture.specs.Formats.{capture}
use Rattle.cd_capture.specs.Reading.{refusal_in, refusal_of}
use Rattle.cd_capture.proofs.Growing.{refusal-few, refusal-many}
use Rattle.cd_packet.specs.Capture.{IsWholeOrCut}
use Rattle.cd_packet.specs.declared.capture.EndState.{EndState}
use Rattle.cd_packet.specs.declared.capture.EndState.TheVariants.{Whole, Cut, Bad}
use Rattle.cd_engine.specs.Refusals.{refusal_at_end}

-- at their end bytes are refused for the end of their capture
pub at_end_known : (bytes : List ℕ) → refusal_at_end bytes ≡ refusal_in (capture bytes).end
unfolding refusal_at_end
at_end_known bytes = refl

-- Before, they are refused for the same once four of them are there.
pub refusal_told : (bytes : List ℕ) → refusal_of bytes ≡ cond (nat_lt (length bytes) 4) None (refusal_at_end bytes)
unfolding refusal_of refusal_at_end
refusal_told bytes = refl

-- an end that is no refused place
open_end : (end : EndState) → IsWholeOrCut end → refusal_in end ≡ None
open_end Whole h = refl
open_end Cut h = refl
open_end (Bad b) h = absurd h

-- A capture that ends between records or within one is refused for nothing.
pub record IsUnrefused (bytes : List ℕ) : Type 0 where
  pub now : refusal_of bytes ≡ None
  pub at_end : refusal_at_end bytes ≡ None

pub served_unrefused : (bytes : List ℕ) → IsWholeOrCut (capture bytes).end → IsUnrefused bytes
served_unrefused bytes end =
    let none : refusal_in (capture bytes).end ≡ None = open_end (capture bytes).end end in
    record {
      now = elim (cases_lt (length bytes) 4) [
        | inl few ↦ refusal-few bytes few
        | inr many ↦ refusal-many bytes many ∙ none
      ];
      at_end = at_end_known bytes ∙ none;
    }
