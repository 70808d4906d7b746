use Rattle.std.proofs.Common.{◌≡◌, ◌+◌, ◌≤◌, None, length, ap, ◌∙◌, arith}
use Rattle.std.proofs.lemmas.List.{take_rest, length-drop, length-take-le}
use Rattle.cd_pcapng.specs.Reading.{Kept}
use Rattle.cd_pcapng.proofs.Advancing.{placed_all, read_room, refused_room, stands_open, stands_refused}
use Rattle.cd_pcapng.proofs.pcapng_reader.PcapngReader.read_blocks.Goals as goal

pub invariant_of-self-in-Some : goal.invariant_of-self-in-Some
invariant_of-self-in-Some c =
    let k = rw (c.deref.ensures.value, take_rest) at c.in_ok-whole.ensures.ok in
    let all : c.self.inside.start + c.in_ok-whole.whole.size ≤ length c.self.inside.bytes.items =
    omega (arith, c.self.invariant.within, k.passes.within, length-drop c.self.inside.start c.self.inside.bytes.items) in
    let long : length c.truncate.new.self.items ≡ c.self.inside.start + c.in_ok-whole.whole.size =
    ap length c.truncate.ensures.items ∙ length-take-le (c.self.inside.start + c.in_ok-whole.whole.size) c.self.inside.bytes.items all in
    record {
      within = omega (arith, long);
      counted = omega (arith, long, all, c.self.invariant.counted);
      few = c.self.invariant.few;
      placed = placed_all _ _ _ _ _ _ c.self.invariant.placed k;
      first = λ none. omega (arith, k.started none);
    }

pub invariant_of-self-in_default : goal.invariant_of-self-in_default
invariant_of-self-in_default c =
    let k = rw (c.deref.ensures.value, take_rest) at c.in_ok-whole.ensures.ok in
    record {
      within = omega (arith, c.self.invariant.within, k.passes.within, length-drop c.self.inside.start c.self.inside.bytes.items);
      counted = c.self.invariant.counted;
      few = c.self.invariant.few;
      placed = placed_all _ _ _ _ _ _ c.self.invariant.placed k;
      first = λ none. omega (arith, k.started none);
    }

pub returns-in-Some-clause-history : goal.returns-in-Some-clause-history
returns-in-Some-clause-history c =
    let k = rw (c.deref.ensures.value, take_rest) at c.in_ok-whole.ensures.ok in
    rw (c.truncate.ensures.items, ← c.self.view_is)
    (stands_refused c.self.inside.fed_count c.self.inside.base c.self.inside.start c.self.inside.bytes.items c.self.inside.found c.read.new.self c.in_ok-whole.whole
    c.in-Some.why c.self.inside.refused c.in-Some.is c.self.invariant.within c.self.invariant.placed k)

pub returns-in_default-clause-history : goal.returns-in_default-clause-history
returns-in_default-clause-history c =
    let k = rw (c.deref.ensures.value, take_rest) at c.in_ok-whole.ensures.ok in
    let sound : c.self.inside.refused ≡ None = ap (λ (r : Kept). r.refused) c.self.view_is ∙ c.requires in
    rw (← c.self.view_is)
    (stands_open c.self.inside.fed_count c.self.inside.base c.self.inside.start c.self.inside.bytes.items c.self.inside.found c.read.new.self c.in_ok-whole.whole
    c.self.inside.refused sound c.in_default.is k)

pub returns-in-Some-clause-place : goal.returns-in-Some-clause-place
returns-in-Some-clause-place c =
    let k = rw (c.deref.ensures.value, take_rest) at c.in_ok-whole.ensures.ok in
    let few = c.self.invariant.few in
    let counted = c.self.invariant.counted in
    rw (c.truncate.ensures.items, ← c.self.view_is)
    (refused_room c.self.inside.fed_count c.self.inside.base c.self.inside.start c.self.inside.bytes.items c.self.inside.found c.read.new.self c.in_ok-whole.whole
    c.self.inside.refused _ c.self.invariant.within c.self.invariant.placed k
    (omega (arith, few, counted, c.self.invariant.within, k.passes.within, length-drop c.self.inside.start c.self.inside.bytes.items)))

pub returns-in_default-clause-place : goal.returns-in_default-clause-place
returns-in_default-clause-place c =
    let k = rw (c.deref.ensures.value, take_rest) at c.in_ok-whole.ensures.ok in
    let few = c.self.invariant.few in
    let counted = c.self.invariant.counted in
    rw (← c.self.view_is)
    (read_room c.self.inside.fed_count c.self.inside.base c.self.inside.start c.self.inside.bytes.items c.self.inside.found c.read.new.self c.in_ok-whole.whole
    c.self.inside.refused _ k
    (omega (arith, few, counted, c.self.invariant.within, k.passes.within, length-drop c.self.inside.start c.self.inside.bytes.items)))
