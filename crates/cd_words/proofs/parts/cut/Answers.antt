use Rattle.std.proofs.Common.{◌≡◌, ◌==◌, ◌<◌, length, length-drop, arith, rules, tests, refl, sym, ◌∙◌}
use Rattle.std.specs.List.{position, position_or_len}
use Rattle.std.proofs.lemmas.Iterator.{YieldsList-from_slice}
use Rattle.std.proofs.lemmas.Iterator.Search.{position_from_yields_List}
use Rattle.std.proofs.lemmas.List.{take_all, take_rest}
use Rattle.std.proofs.lemmas.List.Folds.{list_any_none}
use Rattle.std.proofs.lemmas.List.Splits.{slice_split_first, slice_split_none}
use Rattle.cd_words.proofs.Cuts.{found_place, no_place, none_passes, some_passes}
use Rattle.cd_words.proofs.parts.cut.Goals as goal

pub returns-in-Some : goal.returns-in-Some
returns-in-Some c =
    let text = c.args.text.now in
    let gives : c.position.result ≡ position (λ b. b == c.args.at) text =
    position_from_yields_List (λ b. b == c.args.at) _ _ c.position.result c.position.ensures.ran (YieldsList-from_slice text cc) (λ x b q k. search (rules, tests)) in
    let place = found_place (λ b. b == c.args.at) text c.in-Some.index (sym c.in-Some.is ∙ gives) in
    let some : position_or_len (λ b. b == c.args.at) text < length text = omega (arith, place.0, place.1) in
    record {
      before = rw place.0 refl;
      found = sym (some_passes (λ b. b == c.args.at) text 0 some);
      after = rw (take_rest, place.0) refl;
      shorter = rw (take_rest, length-drop) (omega (arith, place.1));
      split = rw take_rest (slice_split_first (λ b. b == c.args.at) text 0 some ∙ rw place.0 refl);
    }

pub returns-in-None : goal.returns-in-None
returns-in-None c =
    let text = c.args.text.now in
    let gives : c.position.result ≡ position (λ b. b == c.args.at) text =
    position_from_yields_List (λ b. b == c.args.at) _ _ c.position.result c.position.ensures.ran (YieldsList-from_slice text cc) (λ x b q k. search (rules, tests)) in
    let missing = no_place (λ b. b == c.args.at) text (sym c.in-None.is ∙ gives) in
    let none = none_passes (λ b. b == c.args.at) text 0 missing in
    record {
      before = sym (take_all (position_or_len (λ b. b == c.args.at) text) text missing);
      found = sym (list_any_none (λ b. b == c.args.at) text none);
      after = tt;
      shorter = tt;
      split = slice_split_none (λ b. b == c.args.at) text none;
    }
