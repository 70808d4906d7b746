-- A head at the front is one of the definition.
use Rattle.std.proofs.Common.{◌≡◌, ◌+◌, ◌∙◌, length, drop, None, ap, sym, refl, arith}
use Rattle.std.specs.Option.{option_map}
use Rattle.std.proofs.lemmas.List.{drop-drop}
use Rattle.cd_cbor.specs.Events.{front_step}
use Rattle.cd_cbor.proofs.Stepping.{none_of_map, with_content, head_event, head_chunks, head_stops}
use Rattle.cd_cbor.proofs.reader.Reader.step_head.Goals as goal

pub returns-in-Err : goal.returns-in-Err
returns-in-Err c =
    let open_is = ap (λ r. r.open_now) c.self.view_is in
    let held_is : drop c.self.inside.start c.self.inside.bytes.items ≡ c.args.self.now.held = ap (λ r. r.held) c.self.view_is in
    let none : c.self.inside.chunks ≡ None = none_of_map c.self.inside.chunks c.self.inside.content.items (ap (λ r. r.open_now.chunks) c.self.view_is ∙ c.requires) in
    head_stops c.args.self.now c.in-Err.fault c.self.inside.nest _ c.room-room.result c.innermost-top.result (drop c.self.inside.start c.self.inside.bytes.items) c.rest-held.result.now
    (ap (option_map (with_content c.self.inside.content.items)) none) c.room-room.ensures c.innermost-top.ensures c.rest-held.ensures open_is held_is c.in-Err.ensures.read

pub returns-in-Event : goal.returns-in-Event
returns-in-Event c =
    let open_is = ap (λ r. r.open_now) c.self.view_is in
    let held_is : drop c.self.inside.start c.self.inside.bytes.items ≡ c.args.self.now.held = ap (λ r. r.held) c.self.view_is in
    let none : c.self.inside.chunks ≡ None = none_of_map c.self.inside.chunks c.self.inside.content.items (ap (λ r. r.open_now.chunks) c.self.view_is ∙ c.requires) in
    let long : length (drop c.self.inside.start c.self.inside.bytes.items) ≡ length c.args.self.now.held = ap length held_is in (
      c.in-Ok.found.1,
      ap (λ o. front_step o c.args.self.now.held) (sym open_is)
          ∙ head_event c.self.inside.nest _ c.room-room.result c.innermost-top.result c.args.self.now.held c.rest-held.result.now (ap (option_map (with_content c.self.inside.content.items)) none) c.room-room.ensures c.innermost-top.ensures
          (c.rest-held.ensures ∙ held_is) c.in-Ok.found.0 c.in-Event.event c.in-Event.done c.in-Ok.found.1 c.act.new.self _ c.in-Ok.ensures.read c.in-Event.is c.act.ensures (ap (option_map (with_content c.self.inside.content.items)) none),
      omega (arith, c.in-Ok.ensures.within),
      omega (arith, c.in-Ok.ensures.within, ap length c.rest-held.ensures),
      sym (drop-drop c.in-Ok.found.1 c.self.inside.start c.self.inside.bytes.items) ∙ ap (drop c.in-Ok.found.1) held_is,
      ap (λ n. n + c.in-Ok.found.1) (ap (λ r. r.at) c.self.view_is),
      ap (λ r. r.fed_count) c.self.view_is,
      refl,
    )

pub returns-in-Chunks : goal.returns-in-Chunks
returns-in-Chunks c =
    let open_is = ap (λ r. r.open_now) c.self.view_is in
    let held_is : drop c.self.inside.start c.self.inside.bytes.items ≡ c.args.self.now.held = ap (λ r. r.held) c.self.view_is in
    let none : c.self.inside.chunks ≡ None = none_of_map c.self.inside.chunks c.self.inside.content.items (ap (λ r. r.open_now.chunks) c.self.view_is ∙ c.requires) in
    let long : length (drop c.self.inside.start c.self.inside.bytes.items) ≡ length c.args.self.now.held = ap length held_is in (
      c.in-Ok.found.1,
      ap (λ o. front_step o c.args.self.now.held) (sym open_is)
          ∙ head_chunks c.self.inside.nest _ c.room-room.result c.innermost-top.result c.args.self.now.held c.rest-held.result.now (ap (option_map (with_content c.self.inside.content.items)) none) c.room-room.ensures c.innermost-top.ensures
          (c.rest-held.ensures ∙ held_is) c.in-Ok.found.0 c.in-Chunks.is_text c.in-Ok.found.1 c.clear.new.self.items c.in-Ok.ensures.read c.in-Chunks.is c.clear.ensures.items,
      omega (arith, c.in-Ok.ensures.within),
      omega (arith, c.in-Ok.ensures.within, ap length c.rest-held.ensures),
      sym (drop-drop c.in-Ok.found.1 c.self.inside.start c.self.inside.bytes.items) ∙ ap (drop c.in-Ok.found.1) held_is,
      ap (λ n. n + c.in-Ok.found.1) (ap (λ r. r.at) c.self.view_is),
      ap (λ r. r.fed_count) c.self.view_is,
      ap (λ r. r.position) c.self.view_is,
    )
