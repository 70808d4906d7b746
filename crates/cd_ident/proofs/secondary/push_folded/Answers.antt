use Rattle.std.proofs.Common.{rules}
use Rattle.std.proofs.lemmas.Iterator.{YieldsList-from_slice, YieldsList-from_map}
use Rattle.std.proofs.lemmas.Iterator.Consumers.{YieldsList-at}
use Rattle.std.proofs.lemmas.Iterator.Adapters.{items_from_extend}
use Rattle.cd_name.specs.Names.{lower_case}
use Rattle.cd_ident.proofs.secondary.push_folded.Goals as goal

pub returns : goal.returns
returns c =
    let all = items_from_extend c.extend.result c.extend.ensures.ran
    (YieldsList-from_map _ lower_case (YieldsList-at c.map.ensures.source (YieldsList-from_slice c.args.name.now c.iter.ensures.rest)) c.map.ensures.closure (λ x r q k. search rules)) in
    search rules
