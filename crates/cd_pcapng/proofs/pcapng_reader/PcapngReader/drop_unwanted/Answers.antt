use Rattle.std.proofs.Common.{◌≡◌, ℕ, ◌+◌, ◌-◌, drop, subst, arith, rules}
use Rattle.std.proofs.lemmas.Grind.{common_steps}
use Rattle.cd_pcapng.specs.Fronts.{ArePlaced}
use Rattle.cd_pcapng.proofs.Dropping.{dropped_view}
use Rattle.cd_pcapng.proofs.pcapng_reader.PcapngReader.drop_unwanted.Goals as goal

pub returns-then-unwanted-len : goal.returns-then-unwanted-len
returns-then-unwanted-len c =
    let base : ℕ = c.self.inside.base in
    let k : ℕ = c.first_wanted-wanted.result - base in
    let wanted = (rw c.forget_sections.ensures at c.first_wanted-wanted.ensures) base c.self.invariant.placed in
    let there : c.first_wanted-wanted.result ≡ base + k = omega (arith, wanted.0) in
    let P : ℕ → Type 0 = λ n. ArePlaced n c.self.inside.found.ready (base + c.self.inside.start) in
    let placed : P (base + k) = subst P there wanted.2 in
    let items : c.truncate.new.self.items ≡ drop k c.self.inside.bytes.items = first_of (search rules, grind (arith, common_steps)) in
    rw (items, c.forget_sections.ensures, ← c.self.view_is)
    (dropped_view c.self.inside.fed_count base c.self.inside.start k (base + c.self.inside.start) c.self.inside.bytes.items c.self.inside.found c.self.inside.refused
    (omega (arith, wanted.1, wanted.0)) placed)
