-- each list is there after each call, and the third slot stands in the first one
use Rattle.std.proofs.Common.{ap, ◌∙◌}
use Rattle.cd_chain.specs.Contents.{list_at}
use Rattle.cd_chain.specs.Lists.{gone_from}
use Rattle.cd_calls.proofs.Rowing.{is_there, third_in}
use Rattle.cd_calls.proofs.store.a_slot_goes_from_one_list_and_from_all.Goals as goal

pub shows-requires : goal.shows-requires
shows-requires g c = is_there _ _ (c.unlink.ensures.lists.lists 0 c.in_ok-store.field-0.first ∙ c.in_ok-store.ensures.in_first)

pub shows-requires-2 : goal.shows-requires-2
shows-requires-2 g c = is_there _ _ (c.unlink.ensures.lists.lists 1 c.in_ok-store.field-0.second ∙ ap (gone_from c.in_ok-store.field-0.y) c.in_ok-store.ensures.in_second)

pub shows-requires-3 : goal.shows-requires-3
shows-requires-3 g c = is_there _ _ (c.unlink.ensures.lists.lists 2 c.in_ok-store.field-0.third ∙ c.in_ok-store.ensures.in_third)

pub shows-requires-4 : goal.shows-requires-4
shows-requires-4 g c = is_there _ _ (c.remove-value.ensures.lists.lists 0 c.in_ok-store.field-0.first ∙ ap (gone_from c.in_ok-store.field-0.y) (c.unlink.ensures.lists.lists 0 c.in_ok-store.field-0.first ∙ c.in_ok-store.ensures.in_first))

pub shows-requires-5 : goal.shows-requires-5
shows-requires-5 g c = is_there _ _ (c.remove-value.ensures.lists.lists 1 c.in_ok-store.field-0.second ∙ ap (gone_from c.in_ok-store.field-0.y) (c.unlink.ensures.lists.lists 1 c.in_ok-store.field-0.second ∙ ap (gone_from c.in_ok-store.field-0.y) c.in_ok-store.ensures.in_second))

pub shows-requires-6 : goal.shows-requires-6
shows-requires-6 g c = is_there _ _ (c.remove-value.ensures.lists.lists 2 c.in_ok-store.field-0.third ∙ ap (gone_from c.in_ok-store.field-0.y) (c.unlink.ensures.lists.lists 2 c.in_ok-store.field-0.third ∙ c.in_ok-store.ensures.in_third))

pub next-after-requires : goal.next-after-requires
next-after-requires g c = record { list = c.in_ok-store.field-0.first; within = third_in (list_at c.remove-value.new.self 0 c.in_ok-store.field-0.first) c.in_ok-store.field-0.x c.in_ok-store.field-0.y c.in_ok-store.field-0.z (c.remove-value.ensures.lists.lists 0 c.in_ok-store.field-0.first ∙ ap (gone_from c.in_ok-store.field-0.y) (c.unlink.ensures.lists.lists 0 c.in_ok-store.field-0.first ∙ c.in_ok-store.ensures.in_first)) c.in_ok-store.ensures.apart }
