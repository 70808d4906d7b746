use Rattle.std.proofs.Common.{◌≡◌, [], ◌∷◌, ◌++◌, rules, ap, sym, ◌∙◌}
use Rattle.std.specs.List.{filter_map}
use Rattle.std.proofs.lemmas.Iterator.Adapters.{YieldsList-from_vec}
use Rattle.std.proofs.lemmas.Iterator.Consumers.{YieldsList-end}
use Rattle.std.proofs.lemmas.List.{map-id}
use Rattle.cd_rebuild.specs.Rebuilding.{packet_of}
use Rattle.cd_rebuild.specs.declared.rebuilt_block.Raw.{Raw}
use Rattle.cd_rebuild.proofs.Flattening.{nothing_more, no_packet, one_more, one_packet}
use Rattle.cd_rebuild.proofs.rebuilding.packets_of.Goals as goal

-- a packet stands at the end
pub sendings-preserved-in-Continue-branch-2 : goal.sendings-preserved-in-Continue-branch-2
sendings-preserved-in-Continue-branch-2 c =
    let raw : Raw = record { time = c.in-Some.sending.time; bytes = c.in-Some-packet.bytes } in
    let pushed : c.push.new.self.items ≡ c.sendings.packets.items ++ raw ∷ [] = search rules in
    let more = one_more packet_of c.sendings.yielded c.in-Some.sending raw (one_packet c.in-Some.sending c.in-Some-packet.bytes c.in-Some-packet.is) in
    pushed ∙ ap (λ xs. xs ++ raw ∷ []) c.sendings.invariant ∙ sym more

-- what has no packet adds none
pub sendings-preserved : goal.sendings-preserved
sendings-preserved c =
    c.sendings.invariant ∙ sym (nothing_more packet_of c.sendings.yielded c.in-Some.sending (no_packet c.in-Some.sending c.in-None-packet.is))

-- all was sent
pub returns : goal.returns
returns c =
    let end = YieldsList-end (YieldsList-from_vec {s = c.into_iter-sending-iterator.result} c.args.sendings.items (search rules) (search rules)) c.sendings.yielded c.sendings.sending-iterator c.sendings.yielded_by c.next.result c.next.new.self c.in-None.is c.next.ensures.steps in
    c.sendings.invariant ∙ ap (filter_map packet_of) (sym (map-id c.sendings.yielded) ∙ end.0)
