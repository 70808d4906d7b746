use Rattle.std.proofs.Common.{◌≡◌, ℕ, ◌+◌, ◌<◌, max, ltb, true, false, [], ◌∷◌, ◌++◌, get_or, arith, refl, sym, ap, ◌∙◌}
use Rattle.std.specs.List.{list_any}
use Rattle.std.proofs.lemmas.Bool.Decides.{nat_tests}
use Rattle.std.proofs.lemmas.List.{get_or_read}
use Rattle.cd_hints.specs.Listing.{is_listed}
use Rattle.cd_hints.proofs.Listed.{listed_below_none, listed_below_holds, listed_below_skips}
use Rattle.cd_hints.proofs.Reach.{reaches_from_below, none_below, more_below, listed_is, max_tells}
use Rattle.cd_hints.proofs.settings.listing.numbers_below.Goals as goal
use Rattle.cd_hints.proofs.settings.listing.numbers_below.Goals.{then-number-reach+in_ok-push, else-number-reach}

pub loop-number-init : goal.loop-number-init
loop-number-init c = record {
  reach = λ n _. none_below n c.args.parts.now;
  numbers = c.new-numbers.ensures.items ∙ sym (listed_below_none c.args.parts.now);
}

pub loop-number-preserved : goal.loop-number-preserved
loop-number-preserved c =
    let parts = c.args.parts.now in
    let number = c.loop-number.number in
    let are = c.in_ok-reaches.ensures in
    let below : number < c.args.limit = omega arith in
    let read = get_or_read c.in_ok-reaches.reaches.items _ _ (omega (arith, are.long)) c.index.ensures 0 in
    let entry : c.max-reach.result ≡ max c.loop-number.reach (get_or c.in_ok-reaches.reaches.items number 0) = c.max-reach.ensures ∙ rw read refl in
    let reach : (n : ℕ) → n < c.args.limit → ltb n c.max-reach.result ≡ list_any (reaches_from_below (number + 1) n) parts = λ n small.
    rw entry (max_tells n c.loop-number.reach (get_or c.in_ok-reaches.reaches.items number 0)
    ∙ rw (c.loop-number.invariant.reach n small, are.reach number n below small) (more_below number n parts)) in
    let listed : ltb number c.max-reach.result ≡ is_listed parts number = reach number below ∙ listed_is number parts in
    record {
      reach = reach;
      numbers = elim c.if-number-reach.branch [
        | then-number-reach+in_ok-push w ↦
            let holds : is_listed parts number ≡ true = sym listed ∙ grind (arith, nat_tests) in
            let pushed : w.push.new.self.items ≡ c.loop-number.numbers.items ++ number ∷ [] = w.in_ok-push.ensures.items in
            rw (w.numbers-is, pushed, listed_below_holds number parts holds) (ap (λ xs. xs ++ number ∷ []) c.loop-number.invariant.numbers)
        | else-number-reach w ↦
            let holds : is_listed parts number ≡ false = sym listed ∙ grind (arith, nat_tests) in
            rw (w.numbers-is, listed_below_skips number parts holds) c.loop-number.invariant.numbers
      ];
    }
