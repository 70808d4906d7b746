use Rattle.std.proofs.Common.{◌≡◌, rules, nat_lt}
use Rattle.std.proofs.lemmas.List.Sorted.{answers_always}
use Rattle.cd_hints.proofs.Ascending.{ascends_decided}
use Rattle.cd_hints.proofs.settings.validity.ascends.Goals as goal

pub returns : goal.returns
returns c = ascends_decided c.args.numbers.now c.is_sorted_by.result
    (c.is_sorted_by.ensures.cases nat_lt (answers_always _ (λ a r. r ≡ nat_lt a.0.now a.1.0.now) _ (λ f a r g called. search rules)))
