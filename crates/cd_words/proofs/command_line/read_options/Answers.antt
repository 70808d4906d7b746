use Rattle.std.proofs.Common.{◌≡◌, ℕ, ◌+◌, ◌*◌, ◌/◌, ◌<◌, ◌≤◌, length, [], Some, arith, refl, sym, ap, ◌∙◌}
use Rattle.std.proofs.lemmas.Bool.Decides.{when_true, when_false}
use Rattle.cd_words.specs.CommandLines.{word_at}
use Rattle.cd_words.proofs.Lines.{first_line, line_more, settings_first, settings_more, breaks_name, breaks_value, missing_value, other_value, value_said}
use Rattle.cd_words.proofs.command_line.read_options.Goals as goal

pub options-init : goal.options-init
options-init g c =
    let language = g.O.CommandOption.language in
    let words = c.args.words.now in
    record { odd = refl; within = omega (arith, c.requires); line = first_line language words c.requires; settings = c.in-Ok.ensures.defaults ∙ sym (settings_first language words); valid = c.in-Ok.ensures.valid }

pub options-preserved : goal.options-preserved
options-preserved g c =
    let language = g.O.CommandOption.language in
    let words = c.args.words.now in
    let place = c.options.place in
    let k : ℕ = place / 2 in
    let odd : place ≡ 2 * k + 1 = omega (arith, c.options.invariant.odd) in
    let there : place + 1 < length words = c.in-Some-get.ensures.lookup.3.0 in
    let word : c.in-Some-get.value.now ≡ word_at words (place + 1) = c.in-Some-get.ensures.lookup.4 (omega arith) [] in
    let named : language.named (word_at words place) ≡ Some c.in-Some.option = c.in-Some.ensures.1 in
    let same : c.as_slice.result.now ≡ word_at words (place + 1) = c.as_slice.ensures ∙ word in
    let set = rw same at (when_true _ _ c.in-Ok-true.field-0-test c.in-Ok-true.ensures.value) in
    record {
      odd = omega (arith, c.options.invariant.odd);
      within = omega arith;
      line = line_more language words place k odd c.options.invariant.line c.in-Some.ensures.0 (value_said language words place c.in-Some.option there named set.0);
      settings = set.1 ∙ ap (language.with_value c.in-Some.option (word_at words (place + 1))) c.options.invariant.settings ∙ sym (settings_more language words place k c.in-Some.option odd there named);
      valid = c.in-Ok-true.ensures.valid c.options.invariant.valid;
    }

pub returns-in_default-option_at-clause-fault : goal.returns-in_default-option_at-clause-fault
returns-in_default-option_at-clause-fault g c =
    let language = g.O.CommandOption.language in
    let words = c.args.words.now in
    let place = c.options.place in
    let k : ℕ = place / 2 in
    let odd : place ≡ 2 * k + 1 = omega (arith, c.options.invariant.odd) in
    breaks_name language words place k odd c.options-test.true c.options.invariant.line c.in_default-option_at.ensures

pub returns-in_default-get-clause-fault : goal.returns-in_default-get-clause-fault
returns-in_default-get-clause-fault g c =
    let language = g.O.CommandOption.language in
    let words = c.args.words.now in
    let place = c.options.place in
    let k : ℕ = place / 2 in
    let odd : place ≡ 2 * k + 1 = omega (arith, c.options.invariant.odd) in
    let short : length words ≤ place + 1 = c.in_default-get.ensures.lookup.3 in
    breaks_value language words place k odd c.options-test.true c.options.invariant.line c.in-Some.ensures.0 (missing_value language words place short)

pub returns-in-Ok-false-clause-fault : goal.returns-in-Ok-false-clause-fault
returns-in-Ok-false-clause-fault g c =
    let language = g.O.CommandOption.language in
    let words = c.args.words.now in
    let place = c.options.place in
    let k : ℕ = place / 2 in
    let odd : place ≡ 2 * k + 1 = omega (arith, c.options.invariant.odd) in
    let word : c.in-Some-get.value.now ≡ word_at words (place + 1) = c.in-Some-get.ensures.lookup.4 (omega arith) [] in
    let same : c.as_slice.result.now ≡ word_at words (place + 1) = c.as_slice.ensures ∙ word in
    let unset = rw same at (when_false _ _ c.in-Ok-false.field-0-test c.in-Ok-false.ensures.value) in
    breaks_value language words place k odd c.options-test.true c.options.invariant.line c.in-Some.ensures.0 (other_value language words place c.in-Some.option c.in-Some.ensures.1 unset)
