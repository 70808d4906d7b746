-- What a machine does that copies its bytes, and refuses them where one is 0.
use Rattle.std.specs.Prelude.{◌≡◌, ℕ, Bool, true, false, nat_eq, List, [], ◌++◌, Option, None, Some, if◌then◌else◌, ◌||◌}
use Rattle.std.specs.List.{list_any}
use Rattle.std.proofs.Common.{refl, sym}
use Rattle.std.proofs.lemmas.List.{append-nil}
use Rattle.std.proofs.lemmas.List.Folds.{list_any-append}
use Rattle.cd_drive.specs.Behaviors.{Behavior, IsLawful}

-- whether some byte is 0
abbrev pub has_zero : List ℕ → Bool
has_zero bytes = list_any (λ b. nat_eq b 0) bytes

-- the refusal, where a 0 was seen
abbrev pub zero_refusal : Bool → Option (Unit {0})
zero_refusal seen = if seen then Some tt else None

-- what is copied is what was fed
abbrev pub copying : Behavior (Unit {0}) ℕ
copying = record {
  refusal = λ bytes. zero_refusal (has_zero bytes);
  at_end = λ bytes. None;
  ready = λ bytes. bytes;
  whole = λ bytes. bytes;
  counts = λ bytes. 0;
}

-- A machine that holds these bytes, and has seen a 0 or not, was fed these bytes, and these were cleared.
pub record Copied (held : List ℕ) (zero : Bool) (fed cleared : List ℕ) : Type 0 where
  pub bytes : cleared ++ held ≡ fed
  pub seen : zero ≡ has_zero fed

-- where no 0 was seen in all, none was seen in a front
none_before : (a b : Bool) → zero_refusal (a || b) ≡ None → zero_refusal a ≡ None
none_before false b e = refl
none_before true b e = absurd cc

pub copying_lawful : IsLawful copying
copying_lawful = record {
  grows = λ xs ys. (ys, refl);
  within = λ xs. ([], sym (append-nil xs));
  stays = λ xs ys e. none_before (has_zero xs) (has_zero ys) (rw (list_any-append (λ b. nat_eq b 0) xs ys) at e);
  begins = refl;
}
