-- from the first slot on, those that wait no more are passed
use Rattle.std.proofs.Common.{filter, refl, ap, sym, ◌∙◌}
use Rattle.cd_chain.specs.Contents.{list_at, slots_of}
use Rattle.cd_window.specs.Lists.{still_in_slot}
use Rattle.cd_window.proofs.Listing.{first_in}
use Rattle.cd_window.proofs.Passing.{from_slot, from_first, passes, stops, in_list}
use Rattle.cd_window.proofs.lists.first_open.Goals as goal

pub passing-init : goal.passing-init
passing-init c =
    let slots = slots_of (list_at c.args.store.now c.args.lane c.args.list) in
    record {
      used = c.first-found.ensures.used;
      among = λ s e. first_in slots s (sym c.first-found.ensures.first ∙ e);
      same = ap (λ o. filter (still_in_slot c.args.windows.now c.args.side c.args.now c.args.store.now) (from_slot o slots)) c.first-found.ensures.first
          ∙ ap (filter (still_in_slot c.args.windows.now c.args.side c.args.now c.args.store.now)) (from_first slots);
    }

pub next-found-requires : goal.next-found-requires
next-found-requires c = record {
  list = c.args.list;
  within = in_list (list_at c.args.store.now c.args.lane c.args.list) c.in-Some.slot (c.passing.invariant.among c.in-Some.slot c.in-Some.ensures.is);
}

pub passing-preserved : goal.passing-preserved
passing-preserved c =
    let it = list_at c.args.store.now c.args.lane c.args.list in
    let i = c.passing.invariant.among c.in-Some.slot c.in-Some.ensures.is in
    let P = passes (still_in_slot c.args.windows.now c.args.side c.args.now c.args.store.now) c.passing.found c.next-found.result c.in-Some.slot (slots_of it) c.requires.distinct i c.in-Some.ensures.closed c.in-Some.ensures.is
    (c.next-found.ensures.next c.args.list (in_list it c.in-Some.slot i)) in
    record { used = c.next-found.ensures.used; among = P.among; same = P.same ∙ c.passing.invariant.same }

pub passing-smaller : goal.passing-smaller
passing-smaller c =
    let it = list_at c.args.store.now c.args.lane c.args.list in
    let i = c.passing.invariant.among c.in-Some.slot c.in-Some.ensures.is in
    (passes (still_in_slot c.args.windows.now c.args.side c.args.now c.args.store.now) c.passing.found c.next-found.result c.in-Some.slot (slots_of it) c.requires.distinct i c.in-Some.ensures.closed c.in-Some.ensures.is
    (c.next-found.ensures.next c.args.list (in_list it c.in-Some.slot i))).shorter

pub returns : goal.returns
returns c = stops (still_in_slot c.args.windows.now c.args.side c.args.now c.args.store.now) c.passing.found (slots_of (list_at c.args.store.now c.args.lane c.args.list))
    c.requires.distinct c.passing.invariant.among (c.in_default.ensures.still refl) c.passing.invariant.same
