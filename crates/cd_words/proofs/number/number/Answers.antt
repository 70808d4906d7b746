use Rattle.std.proofs.Common.{◌≡◌, ◌+◌, ◌^◌, get_or, take, true, false, arith}
use Rattle.std.specs.Char.{is_ascii_digit}
use Rattle.std.specs.Str.{all_ascii_digits}
use Rattle.std.specs.Str.Parse.{digits_value}
use Rattle.std.proofs.lemmas.List.{take_all}
use Rattle.cd_words.specs.Numbers.{has_no_leading_zero}
use Rattle.cd_words.proofs.Numbers.{leading_zero_is_none, other_byte_is_none, digits_are, digit_more, value_more, great_front}
use Rattle.cd_words.proofs.number.number.Goals as goal

pub returns-then-not-has_no_leading_zero : goal.returns-then-not-has_no_leading_zero
returns-then-not-has_no_leading_zero c =
    let leading : has_no_leading_zero c.args.text.now ≡ false = cc in
    rw (leading_zero_is_none c.args.text.now leading) tt

pub returns-then-not-is_ascii_digit : goal.returns-then-not-is_ascii_digit
returns-then-not-is_ascii_digit c =
    let other : is_ascii_digit (get_or c.args.text.now c.loop-byte.byte-index 0) ≡ false = cc in
    rw (other_byte_is_none c.args.text.now c.loop-byte.byte-index (omega arith) other) tt

pub returns-in_default : goal.returns-in_default
returns-in_default c =
    let digit : is_ascii_digit (get_or c.args.text.now c.loop-byte.byte-index 0) ≡ true = cc in
    let value = value_more c.args.text.now c.loop-byte.byte-index (omega arith) digit in
    let before = c.loop-byte.invariant.value in
    great_front c.args.text.now (c.loop-byte.byte-index + 1) (2 ^ 64) (omega (arith, c.in_default.ensures))

pub returns-in_default-checked_add : goal.returns-in_default-checked_add
returns-in_default-checked_add c =
    let digit : is_ascii_digit (get_or c.args.text.now c.loop-byte.byte-index 0) ≡ true = cc in
    let value = value_more c.args.text.now c.loop-byte.byte-index (omega arith) digit in
    let before = c.loop-byte.invariant.value in
    great_front c.args.text.now (c.loop-byte.byte-index + 1) (2 ^ 64) (omega (arith, c.in_default-checked_add.ensures, c.in-Some.ensures))

pub loop-byte-preserved : goal.loop-byte-preserved
loop-byte-preserved c =
    let digit : is_ascii_digit (get_or c.args.text.now c.loop-byte.byte-index 0) ≡ true = cc in
    let value = value_more c.args.text.now c.loop-byte.byte-index (omega arith) digit in
    record {
      digits = digit_more c.args.text.now c.loop-byte.byte-index (omega arith) digit c.loop-byte.invariant.digits;
      value = omega (arith, c.in-Some.ensures, c.in-Some-checked_add.ensures, c.loop-byte.invariant.value);
    }

pub returns : goal.returns
returns c =
    let all : take c.loop-byte.byte-index c.args.text.now ≡ c.args.text.now = take_all c.loop-byte.byte-index c.args.text.now (omega arith) in
    let digits : all_ascii_digits c.args.text.now ≡ true = cc in
    let value : digits_value 10 c.args.text.now ≡ c.loop-byte.value = cc in
    let first : has_no_leading_zero c.args.text.now ≡ true = cc in
    rw (← value) (digits_are c.args.text.now first digits)
