use Rattle.std.proofs.Common.{◌≡◌, ◌∙◌, ◌<◌, [], length, refl, sym, ap, arith}
use Rattle.std.proofs.lemmas.Bool.{false≢true}
use Rattle.std.proofs.lemmas.List.{get_or_read}
use Rattle.cd_words.specs.CommandLines.{word_at}
use Rattle.cd_words.proofs.Places.{named_there, none_named, none_named_more, none_named_before}
use Rattle.cd_words.proofs.command_line.is_named_before.Goals as goal

pub names-init : goal.names-init
names-init g c = record { odd = refl; none = none_named g.O.CommandOption.language c.args.words.now c.args.option }

pub names-preserved : goal.names-preserved
names-preserved g c =
    let language = g.O.CommandOption.language in
    let words = c.args.words.now in
    let there : c.names.before < length words = omega (arith, c.requires, c.names-test.true) in
    let word : c.index-words-before.result ≡ word_at words c.names.before = get_or_read words _ _ there c.index-words-before.is [] in
    let is : c.as_slice-word.result.now ≡ word_at words c.names.before = c.as_slice-word.ensures ∙ word in
    record {
      odd = omega (arith, c.names.invariant.odd);
      none = none_named_more language words c.names.before c.args.option c.names.invariant.odd c.names.invariant.none
          (λ named. false≢true (sym c.if-names.false ∙ c.names-in-names.ensures.1 (ap language.named is ∙ named)));
    }

pub returns-then-names : goal.returns-then-names
returns-then-names g c =
    let language = g.O.CommandOption.language in
    let words = c.args.words.now in
    let there : c.names.before < length words = omega (arith, c.requires, c.names-test.true) in
    let word : c.index-words-before.result ≡ word_at words c.names.before = get_or_read words _ _ there c.index-words-before.is [] in
    let is : c.as_slice-word.result.now ≡ word_at words c.names.before = c.as_slice-word.ensures ∙ word in
    named_there language words c.names.before c.args.place c.args.option c.names.invariant.odd c.names-test.true
    (ap language.named (sym is) ∙ c.names-in-names.ensures.0 c.if-names.true)

pub returns : goal.returns
returns g c =
    none_named_before g.O.CommandOption.language c.args.words.now c.args.place c.names.before c.args.option (omega (arith, c.names-test.false)) c.names.invariant.none
