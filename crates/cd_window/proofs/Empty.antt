-- A window that was given no event, and one of which the end is told.
use Rattle.std.proofs.Common.{◌≡◌, ℕ, ◌<◌, ◌≤◌, ◌^◌, true, List, [], Some, None, refl, sym, ◌∙◌, arith}
use Rattle.std.proofs.lemmas.Bool.{true≢false}
use Rattle.std.proofs.lemmas.Option.{none-some}
use Rattle.std.proofs.lemmas.List.{get_or_past}
use Rattle.cd_pairing.specs.declared.keyed.Windows.{Windows}
use Rattle.cd_pairing.specs.Events.{EventView}
use Rattle.cd_pairing.specs.Matching.{partner}
use Rattle.cd_window.specs.declared.released.Released.{Released}
use Rattle.cd_window.specs.Seen.{Seen, empty_window}
use Rattle.cd_window.specs.History.{StandsFor}
use Rattle.cd_window.specs.Keeping.{Keeps}

unpaired : (i j : ℕ) → partner [] i ≡ Some j → ⊥
unpaired i j e = none-some j (sym (get_or_past [] i None (omega arith)) ∙ e)

pub empty_stands : {E : Type 0} (view : E → EventView) (windows : Windows) → StandsFor view (empty_window windows) [] []
empty_stands {E} view windows = record {
  partners = [];
  pairing = record {
    total = refl;
    back = λ i j e. absurd (unpaired i j e);
    apart = λ i e. unpaired i i e;
    compatible = λ i j lt e. absurd (unpaired i j e);
    stable = λ i j lt lj b. absurd (omega arith);
  };
  heavy = λ i lt. absurd (omega arith);
  count = refl;
  clock = refl;
  weight_sum = refl;
  held = λ k lt. absurd (omega arith);
  popped_are = tt;
  unpopped = record { count = refl; weight = refl };
  settled = λ going i lt. absurd (omega arith);
}

pub empty_keeps : {E : Type 0} (view : E → EventView) (windows : Windows) → 1 ≤ windows.count → windows.count < 2 ^ 31 → Keeps {E = E} view (empty_window windows) 0 0
empty_keeps {E} view windows some few = record {
  some = some;
  few = few;
  trimmed = λ e. refl;
  rises = (omega arith, omega arith);
  mated = λ k j h at p. absurd (none-some h (sym (get_or_past [] k None (omega arith)) ∙ at));
  room = omega arith;
  light = omega arith;
  counted = refl;
  weighed = refl;
}

-- the end changes nothing but what is due
pub finished_stands : {E : Type 0} (view : E → EventView) (w : Seen E) (pushed : List E) (popped : List (Released E)) → StandsFor view w pushed popped → StandsFor view (record w { finished = true }) pushed popped
finished_stands view w pushed popped S = record {
  partners = S.partners;
  pairing = S.pairing;
  heavy = S.heavy;
  count = S.count;
  clock = S.clock;
  weight_sum = S.weight_sum;
  held = S.held;
  popped_are = S.popped_are;
  unpopped = record { count = S.unpopped.count; weight = S.unpopped.weight };
  settled = λ going i lt. absurd (true≢false going);
}

pub finished_keeps : {E : Type 0} (view : E → EventView) (w : Seen E) (count weight : ℕ) → Keeps view w count weight → Keeps view (record w { finished = true }) count weight
finished_keeps view w count weight K = record {
  some = K.some;
  few = K.few;
  trimmed = K.trimmed;
  rises = K.rises;
  mated = K.mated;
  room = K.room;
  light = K.light;
  counted = K.counted;
  weighed = K.weighed;
}
