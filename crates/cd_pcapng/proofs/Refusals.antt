-- A refused place stays.
use Rattle.std.proofs.Common.{◌≡◌, ℕ, ◌≤◌, Bool, true, false, cond, nat_lt, Some, None, List, ◌++◌, length, refl, ap, ◌∙◌, arith, length-append}
use Rattle.std.proofs.lemmas.Bool.{ltb-false}
use Rattle.cd_packet.specs.Capture.{Capture, Grows}
use Rattle.cd_packet.specs.declared.capture.BadCapture.{BadCapture}
use Rattle.cd_packet.specs.declared.capture.EndState.{EndState}
use Rattle.cd_packet.specs.declared.capture.EndState.TheVariants.{Whole, Cut, Bad}
use Rattle.cd_pcapng.specs.Laws.{RefusalsStay}
use Rattle.cd_pcapng.specs.Pcapng.{pcapng}
use Rattle.cd_pcapng.specs.Reading.{refusal_in, refusal_of}
use Rattle.cd_pcapng.proofs.Extending.{pcapng-grow}
use Rattle.cd_pcapng.proofs.Standing.{refusal-many}

-- an end with a refused place is that place
refusal_told : (e : EndState) (bad : BadCapture) → refusal_in e ≡ Some bad → e ≡ Bad bad
refusal_told Whole bad h = absurd cc
refusal_told Cut bad h = absurd cc
refusal_told (Bad b) bad h = cc

-- a refused place is told only where there are four bytes
refusal_chosen : (few : Bool) (e : EndState) (bad : BadCapture) → cond few None (refusal_in e) ≡ Some bad → (few ≡ false) × (e ≡ Bad bad)
refusal_chosen true e bad h = absurd cc
refusal_chosen false e bad h = (refl, refusal_told e bad h)

-- a refused place is told by four bytes, and is the end of the capture
pub refusal-end : (bytes : List ℕ) (bad : BadCapture) → refusal_of bytes ≡ Some bad → (4 ≤ length bytes) × ((pcapng bytes).end ≡ Bad bad)
unfolding refusal_of
refusal-end bytes bad h =
    let k = refusal_chosen (nat_lt (length bytes) 4) (pcapng bytes).end bad h in
    (ltb-false (length bytes) 4 k.0, k.1)

-- a refused place stays
pub refusals_kept : RefusalsStay
refusals_kept fed more bad h =
    let k = refusal-end fed bad h in
    let g : Grows (pcapng fed) (pcapng (fed ++ more)) = pcapng-grow fed more k.0 in
    let end : (pcapng (fed ++ more)).end ≡ Bad bad =
    ap (λ (c : Capture). c.end) g.packets ∙ ap (λ (c : Capture). c.end) (g.refused bad k.1) ∙ k.1 in
    refusal-many (fed ++ more) (omega (arith, length-append fed more)) ∙ ap refusal_in end
