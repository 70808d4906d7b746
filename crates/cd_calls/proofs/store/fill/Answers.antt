-- each slot comes last in each list
use Rattle.std.proofs.Common.{◌∙◌}
use Rattle.cd_calls.proofs.Rowing.{put_last, row_there, used_here, used_still, fresh_apart}
use Rattle.cd_calls.proofs.store.fill.Goals as goal

pub put_reserved-y-requires-clause-there : goal.put_reserved-y-requires-clause-there
put_reserved-y-requires-clause-there c = row_there c.put_reserved-x.new.self c.args.first c.args.second c.args.third _ _ _
    (c.put_reserved-x.ensures.lists.lists 0 c.args.first ∙ put_last c.args.first c.put_reserved-x.result _ _ c.requires.first)
    (c.put_reserved-x.ensures.lists.lists 1 c.args.second ∙ put_last c.args.second c.put_reserved-x.result _ _ c.requires.second)
    (c.put_reserved-x.ensures.lists.lists 2 c.args.third ∙ put_last c.args.third c.put_reserved-x.result _ _ c.requires.third)

pub put_reserved-z-requires-clause-there : goal.put_reserved-z-requires-clause-there
put_reserved-z-requires-clause-there c = row_there c.put_reserved-y.new.self c.args.first c.args.second c.args.third _ _ _
    (c.put_reserved-y.ensures.lists.lists 0 c.args.first ∙ put_last c.args.first c.put_reserved-y.result _ _ (c.put_reserved-x.ensures.lists.lists 0 c.args.first ∙ put_last c.args.first c.put_reserved-x.result _ _ c.requires.first))
    (c.put_reserved-y.ensures.lists.lists 1 c.args.second ∙ put_last c.args.second c.put_reserved-y.result _ _ (c.put_reserved-x.ensures.lists.lists 1 c.args.second ∙ put_last c.args.second c.put_reserved-x.result _ _ c.requires.second))
    (c.put_reserved-y.ensures.lists.lists 2 c.args.third ∙ put_last c.args.third c.put_reserved-y.result _ _ (c.put_reserved-x.ensures.lists.lists 2 c.args.third ∙ put_last c.args.third c.put_reserved-x.result _ _ c.requires.third))

pub returns : goal.returns
returns c = record {
  in_first = c.put_reserved-z.ensures.lists.lists 0 c.args.first ∙ put_last c.args.first c.put_reserved-z.result _ _ (c.put_reserved-y.ensures.lists.lists 0 c.args.first ∙ put_last c.args.first c.put_reserved-y.result _ _ (c.put_reserved-x.ensures.lists.lists 0 c.args.first ∙ put_last c.args.first c.put_reserved-x.result _ _ c.requires.first));
  in_second = c.put_reserved-z.ensures.lists.lists 1 c.args.second ∙ put_last c.args.second c.put_reserved-z.result _ _ (c.put_reserved-y.ensures.lists.lists 1 c.args.second ∙ put_last c.args.second c.put_reserved-y.result _ _ (c.put_reserved-x.ensures.lists.lists 1 c.args.second ∙ put_last c.args.second c.put_reserved-x.result _ _ c.requires.second));
  in_third = c.put_reserved-z.ensures.lists.lists 2 c.args.third ∙ put_last c.args.third c.put_reserved-z.result _ _ (c.put_reserved-y.ensures.lists.lists 2 c.args.third ∙ put_last c.args.third c.put_reserved-y.result _ _ (c.put_reserved-x.ensures.lists.lists 2 c.args.third ∙ put_last c.args.third c.put_reserved-x.result _ _ c.requires.third));
  used = used_still c.put_reserved-y.new.self c.put_reserved-z.new.self c.put_reserved-z.result _ c.put_reserved-y.result c.put_reserved-z.ensures.values
      (used_here c.put_reserved-x.new.self c.put_reserved-y.new.self c.put_reserved-y.result _ c.put_reserved-y.ensures.values);
  apart = fresh_apart c.put_reserved-y.new.self c.put_reserved-z.new.self c.put_reserved-z.result _ c.put_reserved-y.result c.put_reserved-z.ensures.values
      (used_here c.put_reserved-x.new.self c.put_reserved-y.new.self c.put_reserved-y.result _ c.put_reserved-y.ensures.values);
}
