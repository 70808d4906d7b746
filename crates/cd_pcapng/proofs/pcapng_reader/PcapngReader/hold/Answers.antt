use Rattle.std.proofs.Common.{◌≡◌, ◌+◌, ◌∙◌, length}
use Rattle.cd_pcapng.specs.contracts.pcapng_reader.PcapngReader.{the_view}
use Rattle.cd_pcapng.proofs.Advancing.{held_view}
use Rattle.cd_pcapng.proofs.pcapng_reader.PcapngReader.hold.Goals as goal

pub returns-clause-ok : goal.returns-clause-ok
returns-clause-ok c =
    let same : the_view c.self.inside ≡ c.args.self.now = c.self.view_is ∙ c.drop_unwanted.ensures in
    rw (c.in_ok-extend_from_slice.ensures.items, ← same)
    (held_view c.self.inside.fed_count (c.self.inside.fed_count + length c.args.chunk.now) c.self.inside.base c.self.inside.start c.self.inside.bytes.items c.args.chunk.now
    c.self.inside.found c.self.inside.refused c.self.invariant.within c.self.invariant.placed)
