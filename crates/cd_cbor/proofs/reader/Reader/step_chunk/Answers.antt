-- A chunk at the front is one of the definition.
use Rattle.std.proofs.Common.{◌≡◌, ◌+◌, ◌∙◌, length, drop, Some, ap, sym, refl, arith}
use Rattle.std.specs.Option.{option_map}
use Rattle.std.proofs.lemmas.List.{drop-drop}
use Rattle.cd_cbor.specs.Events.{front_step}
use Rattle.cd_cbor.proofs.Stepping.{some_of_map, kind_of, with_content, chunk_on, chunk_ends, chunk_stops}
use Rattle.cd_cbor.proofs.reader.Reader.step_chunk.Goals as goal

pub returns-in-Err : goal.returns-in-Err
returns-in-Err c =
    let open_is = ap (λ r. r.open_now) c.self.view_is in
    let held_is : drop c.self.inside.start c.self.inside.bytes.items ≡ c.args.self.now.held = ap (λ r. r.held) c.self.view_is in
    let some : c.self.inside.chunks ≡ Some c.args.is_text = some_of_map c.self.inside.chunks c.self.inside.content.items c.args.is_text (ap (λ r. option_map kind_of r.open_now.chunks) c.self.view_is ∙ c.requires) in
    let string = ap (option_map (with_content c.self.inside.content.items)) some in
    chunk_stops c.args.self.now _ c.in-Err.fault c.self.inside.nest _ c.args.is_text c.self.inside.content.items c.chunk_front.new.content.items (drop c.self.inside.start c.self.inside.bytes.items)
    c.rest-held.result.now string c.rest-held.ensures open_is held_is c.in-Err.ensures.told
    (λ same. ap (λ content. record {
      fed_count = c.self.inside.fed_count;
      held = drop c.self.inside.start c.self.inside.bytes.items;
      at = c.self.inside.at;
      position = c.self.inside.position;
      open_now = record { wants = c.self.inside.nest; chunks = option_map (with_content content) c.self.inside.chunks };
    }) same ∙ c.self.view_is)

pub returns-in-None : goal.returns-in-None
returns-in-None c =
    let open_is = ap (λ r. r.open_now) c.self.view_is in
    let held_is : drop c.self.inside.start c.self.inside.bytes.items ≡ c.args.self.now.held = ap (λ r. r.held) c.self.view_is in
    let some : c.self.inside.chunks ≡ Some c.args.is_text = some_of_map c.self.inside.chunks c.self.inside.content.items c.args.is_text (ap (λ r. option_map kind_of r.open_now.chunks) c.self.view_is ∙ c.requires) in
    let string = ap (option_map (with_content c.self.inside.content.items)) some in
    let long : length (drop c.self.inside.start c.self.inside.bytes.items) ≡ length c.args.self.now.held = ap length held_is in
    let told = rw c.in-None.is at c.in-Ok.ensures.told in (
      c.in-Ok.found.1,
      ap (λ o. front_step o c.args.self.now.held) (sym open_is)
          ∙ chunk_on c.self.inside.nest _ c.args.is_text c.self.inside.content.items c.args.self.now.held c.rest-held.result.now string (c.rest-held.ensures ∙ held_is) c.chunk_front.new.content.items _ c.in-Ok.found.1
          told (ap (option_map (with_content c.chunk_front.new.content.items)) some),
      omega (arith, c.in-Ok.ensures.within),
      omega (arith, c.in-Ok.ensures.within, ap length c.rest-held.ensures),
      sym (drop-drop c.in-Ok.found.1 c.self.inside.start c.self.inside.bytes.items) ∙ ap (drop c.in-Ok.found.1) held_is,
      ap (λ n. n + c.in-Ok.found.1) (ap (λ r. r.at) c.self.view_is),
      ap (λ r. r.fed_count) c.self.view_is,
      ap (λ r. r.position) c.self.view_is,
    )

pub returns-in-Some : goal.returns-in-Some
returns-in-Some c =
    let open_is = ap (λ r. r.open_now) c.self.view_is in
    let held_is : drop c.self.inside.start c.self.inside.bytes.items ≡ c.args.self.now.held = ap (λ r. r.held) c.self.view_is in
    let some : c.self.inside.chunks ≡ Some c.args.is_text = some_of_map c.self.inside.chunks c.self.inside.content.items c.args.is_text (ap (λ r. option_map kind_of r.open_now.chunks) c.self.view_is ∙ c.requires) in
    let string = ap (option_map (with_content c.self.inside.content.items)) some in
    let long : length (drop c.self.inside.start c.self.inside.bytes.items) ≡ length c.args.self.now.held = ap length held_is in
    let told = rw c.in-Some.is at c.in-Ok.ensures.told in (
      c.in-Ok.found.1,
      ap (λ o. front_step o c.args.self.now.held) (sym open_is)
          ∙ chunk_ends c.self.inside.nest _ c.args.is_text c.self.inside.content.items c.args.self.now.held c.rest-held.result.now string (c.rest-held.ensures ∙ held_is) c.in-Some.event c.in-Ok.found.1 c.pass.new.self
          told.0 c.pass.ensures,
      omega (arith, c.in-Ok.ensures.within),
      omega (arith, c.in-Ok.ensures.within, ap length c.rest-held.ensures),
      sym (drop-drop c.in-Ok.found.1 c.self.inside.start c.self.inside.bytes.items) ∙ ap (drop c.in-Ok.found.1) held_is,
      ap (λ n. n + c.in-Ok.found.1) (ap (λ r. r.at) c.self.view_is),
      ap (λ r. r.fed_count) c.self.view_is,
      refl,
    )
