use Rattle.std.proofs.Common.{rules, ℕ, ◌∷◌, ap, sym, ◌∙◌}
use Rattle.atomic_table.specs.Table.{rest}
use Rattle.cd_ring.specs.declared.view.Place.TheVariants.{Empty}
use Rattle.cd_ring.specs.Kinds.{noted}
use Rattle.cd_ring.proofs.Bringing.{brings_place}
use Rattle.cd_ring.proofs.ring.Ring.bring_place.Goals as goal

pub load-requires : goal.load-requires
load-requires g c = (search rules, search rules, brings_place _ _ _ _ _ _ c.args.slot c.args.job.now c.requires.claim.1 c.requires.places)

pub returns-clause-known : goal.returns-clause-known
returns-clause-known g c = let b = c.load.ensures.2 in (b.2, b.0.0 ∙ ap (λ (r : ℕ). noted c.args.seat.now.me.0.looks c.args.slot r) b.1, b.0.1)

pub returns-clause-places : goal.returns-clause-places
returns-clause-places g c = let b = c.load.ensures.2 in (b.3.1 ∙ ap (λ l. (c.args.slot, Empty) ∷ l) (sym (ap rest b.3.1)), b.4)
