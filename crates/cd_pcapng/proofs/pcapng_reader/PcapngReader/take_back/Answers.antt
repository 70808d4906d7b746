use Rattle.std.proofs.Common.{◌≡◌, ◌-◌, length, take, arith, rules}
use Rattle.std.proofs.lemmas.Grind.{common_steps}
use Rattle.cd_pcapng.proofs.Advancing.{back_view}
use Rattle.cd_pcapng.proofs.pcapng_reader.PcapngReader.take_back.Goals as goal

pub returns : goal.returns
returns c =
    let items : c.truncate.new.self.items ≡ take (length c.self.inside.bytes.items - c.args.count) c.self.inside.bytes.items =
    first_of (search rules, grind (arith, common_steps)) in
    let few = rw (← c.self.view_is) at c.requires.held in
    rw (items, ← c.self.view_is)
    (back_view c.self.inside.fed_count (c.self.inside.fed_count - c.args.count) c.self.inside.base c.self.inside.start c.args.count c.self.inside.bytes.items c.self.inside.found
    c.self.inside.refused c.self.invariant.within few c.self.invariant.placed)
