-- The interval of a part, by the numbers in it.
use Rattle.std.proofs.Common.{◌≡◌, ℕ, ◌^◌, ◌<◌, ◌≤◌, Bool, true, false, cond, List, Option, Some, None, IfSome, refl, arith}
use Rattle.std.specs.Option.{option_map, option_and_then}
use Rattle.std.specs.List.{list_any, before_first, after_first}
use Rattle.std.proofs.lemmas.Bool.Decides.{nat_tests}
use Rattle.cd_hints.specs.declared.settings.interval.Interval.{Interval}
use Rattle.cd_hints.specs.Options.{between}
use Rattle.cd_words.specs.Numbers.{number_of}
use Rattle.cd_words.specs.Parts.{is_dash, interval_of, is_within, part_of}

-- the part of these two numbers, if it lies in the range
abbrev pub part_between : Interval → Option ℕ → Bool → Option ℕ → Option Interval
part_between range first dash second = option_and_then (λ part. cond (is_within range part) (Some part) None)
    (option_and_then (λ least. option_map (between least) (cond dash second (Some least))) first)

-- a part is that of the numbers before and after its first dash
pub part_of_numbers : (range : Interval) (text : List ℕ) →
    part_of range text ≡ part_between range (number_of (before_first is_dash text)) (list_any is_dash text) (number_of (after_first is_dash text))
unfolding part_of interval_of
part_of_numbers range text = refl

-- a part does not lie in a range that ends below it
past : (range : Interval) (least most : ℕ) → range.most < least → is_within range (between least most) ≡ false
past range least most h = grind (arith, nat_tests)

-- or that ends below its end
past_end : (range : Interval) (least most : ℕ) → range.most < most → is_within range (between least most) ≡ false
past_end range least most h = grind (arith, nat_tests)

-- where the first number is missing or great there is no part
pub no_first : (range : Interval) (first : Option ℕ) (dash : Bool) (second : Option ℕ) → range.most < 2 ^ 64 → IfSome first (λ n. 2 ^ 64 ≤ n) →
    part_between range first dash second ≡ None
no_first range None dash second small h = refl
no_first range (Some least) false second small h = rw (past range least least (omega arith)) refl
no_first range (Some least) true None small h = refl
no_first range (Some least) true (Some most) small h = rw (past range least most (omega arith)) refl

-- where the second number is missing or great there is none
pub no_second : (range : Interval) (least : ℕ) (second : Option ℕ) → range.most < 2 ^ 64 → IfSome second (λ n. 2 ^ 64 ≤ n) →
    part_between range (Some least) true second ≡ None
no_second range least None small h = refl
no_second range least (Some most) small h = rw (past_end range least most (omega arith)) refl
