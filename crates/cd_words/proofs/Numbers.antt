-- Numbers on a command line.
use Rattle.std.proofs.Common.{◌≡◌, ℕ, ◌+◌, ◌-◌, ◌*◌, ◌<◌, ◌≤◌, true, false, cond, ◌&&◌, List, length, get_or, take, Some, None, IfSome, refl, arith}
use Rattle.std.specs.Str.{all_ascii_digits}
use Rattle.std.specs.Str.Parse.{digits_value}
use Rattle.std.specs.Char.{is_ascii_digit, digit_value}
use Rattle.std.proofs.lemmas.Bool.Decides.{nat_tests}
use Rattle.std.proofs.lemmas.Int.Digits.{digits_value_more, digits_more}
use Rattle.std.proofs.lemmas.Str.Parse.{IsNumeralModel, numerals_by_value, tells_all_ascii_digits, digits_value-take-le}
use Rattle.std.proofs.lemmas.List.Recursion.{and_fails_at}
use Rattle.cd_words.specs.Numbers.{has_no_leading_zero, number_of}

-- std's words for texts of digits
pub own : IsNumeralModel (λ ds. all_ascii_digits ds ≡ true) (digits_value 10)
own = numerals_by_value _ tells_all_ascii_digits

-- what holds of the digits' value holds of a number that the bytes are
pub if_number : (text : List ℕ) (P : ℕ → Type 0) → P (digits_value 10 text) → IfSome (number_of text) P
unfolding number_of
if_number text P h = elim (has_no_leading_zero text && all_ascii_digits text) as (λ b. IfSome (cond b (Some (digits_value 10 text)) None) P) [ true ↦ h | false ↦ tt ]

-- where a first 0 is out of place the bytes are no number
pub leading_zero_is_none : (text : List ℕ) → has_no_leading_zero text ≡ false → number_of text ≡ None
unfolding number_of
leading_zero_is_none text h = rw h refl

-- where a byte is no digit the bytes are no number
pub other_byte_is_none : (text : List ℕ) (i : ℕ) → i < length text → is_ascii_digit (get_or text i 0) ≡ false → number_of text ≡ None
unfolding number_of
other_byte_is_none text i below differs =
    let other : all_ascii_digits text ≡ false = and_fails_at all_ascii_digits is_ascii_digit refl (λ _ _. refl) text i 0 below differs in
    rw other (elim (has_no_leading_zero text) as (λ b. cond (b && false) (Some (digits_value 10 text)) None ≡ None) [ true ↦ refl | false ↦ refl ])

-- other digits are a number
pub digits_are : (text : List ℕ) → has_no_leading_zero text ≡ true → all_ascii_digits text ≡ true → number_of text ≡ Some (digits_value 10 text)
unfolding number_of
digits_are text first digits = rw (first, digits) refl

-- the value of a digit
pub digit_is : (c : ℕ) → is_ascii_digit c ≡ true → digit_value c ≡ c - 48
digit_is c h = grind (arith, nat_tests)

-- one more digit
pub digit_more : (text : List ℕ) (i : ℕ) → i < length text → is_ascii_digit (get_or text i 0) ≡ true → all_ascii_digits (take i text) ≡ true →
    all_ascii_digits (take (i + 1) text) ≡ true
digit_more text i below digit before = own.from (take (i + 1) text) (digits_more 10 text i below (own.to (take i text) before) (grind (arith, nat_tests)))

-- and its value
pub value_more : (text : List ℕ) (i : ℕ) → i < length text → is_ascii_digit (get_or text i 0) ≡ true →
    digits_value 10 (take (i + 1) text) ≡ digits_value 10 (take i text) * 10 + (get_or text i 0 - 48)
value_more text i below digit = omega (arith, digits_value_more 10 text i below, digit_is (get_or text i 0) digit)

-- bytes whose front has a great value are no smaller number
pub great_front : (text : List ℕ) (i m : ℕ) → m ≤ digits_value 10 (take i text) → IfSome (number_of text) (λ n. m ≤ n)
great_front text i m h = if_number text (λ n. m ≤ n) (omega (arith, digits_value-take-le 10 text i (omega arith)))
