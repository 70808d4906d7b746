-- Numbers on a command line are what std writes.
use Rattle.std.proofs.Common.{◌≡◌, ℕ, ◌^◌, ◌<◌, Bool, true, false, cond, ◌&&◌, List, [], ◌∷◌, length, get_or, Some, None, suc, zero, refl, sym, ap, ◌∙◌, arith}
use Rattle.std.specs.Str.{all_ascii_digits}
use Rattle.std.specs.Str.Parse.{digits_value}
use Rattle.std.specs.Fmt.{decimal}
use Rattle.std.proofs.lemmas.Bool.Decides.{nat_tests}
use Rattle.std.proofs.lemmas.Fmt.{decimal_digit, first_decimal, digits_decimal, digits_value-decimal, decimal-digits_value}
use Rattle.cd_words.specs.Numbers.{has_no_leading_zero, number_of}
use Rattle.cd_words.specs.Laws.{NumbersAreDecimal}
use Rattle.cd_words.proofs.Numbers.{own, digits_are}

-- what it means that no 0 leads: there is a byte
some_byte : (text : List ℕ) → has_no_leading_zero text ≡ true → 0 < length text
some_byte [] h = absurd (cc)
some_byte (byte ∷ bytes) h = omega arith

-- and a first 0 is the only byte
only_zero : (text : List ℕ) → has_no_leading_zero text ≡ true → get_or text 0 0 ≡ 48 → length text ≡ 1
only_zero [] h first = absurd (cc)
only_zero (byte ∷ []) h first = refl
only_zero (byte ∷ next ∷ bytes) h first = absurd (grind (arith, nat_tests))

-- where a first byte is no 0 none leads
no_zero : (text : List ℕ) → 48 < get_or text 0 0 → has_no_leading_zero text ≡ true
no_zero [] h = absurd (omega arith)
no_zero (byte ∷ []) h = refl
no_zero (byte ∷ next ∷ bytes) h = grind (arith, nat_tests)

-- none leads in what std writes
none_leads : (n : ℕ) → n < 2 ^ 64 → has_no_leading_zero (decimal n) ≡ true
none_leads zero small = rw (decimal_digit 0 (omega arith)) refl
none_leads (suc n) small = no_zero (decimal (suc n)) (first_decimal (suc n) (omega arith) small)

-- the tests and the value of a number
tested : (text : List ℕ) (n : ℕ) → number_of text ≡ Some n → (has_no_leading_zero text ≡ true) × (all_ascii_digits text ≡ true) × (digits_value 10 text ≡ n)
unfolding number_of
tested text n h = by (has_no_leading_zero text) (all_ascii_digits text) refl refl h
  where
    by : (a b : Bool) → has_no_leading_zero text ≡ a → all_ascii_digits text ≡ b → cond (a && b) (Some (digits_value 10 text)) None ≡ Some n →
        (has_no_leading_zero text ≡ true) × (all_ascii_digits text ≡ true) × (digits_value 10 text ≡ n)
    by true true e f h = (e, f, cc)
    by true false e f h = absurd (cc)
    by false b e f h = absurd (cc)

-- a number is what std writes of it, and that is the number
pub are_decimal : NumbersAreDecimal
are_decimal text n small = (to, from)
  where
    to : number_of text ≡ Some n → text ≡ decimal n
    to h =
        let parts = tested text n h in
        let value : digits_value 10 text ≡ n = parts.2 in
        let written : decimal (digits_value 10 text) ≡ text =
        decimal-digits_value own text parts.1 (some_byte text parts.0) (only_zero text parts.0) (omega arith) in
        sym written ∙ ap decimal value

    from : text ≡ decimal n → number_of text ≡ Some n
    from e =
        let written : number_of (decimal n) ≡ Some (digits_value 10 (decimal n)) = digits_are (decimal n) (none_leads n small) (digits_decimal own n small) in
        ap number_of e ∙ written ∙ ap Some (digits_value-decimal own n small)
