use Rattle.std.proofs.Common.{None, ap, drop, refl}
use Rattle.cd_cbor.proofs.Histories.{stands_new}
use Rattle.cd_cbor.proofs.reader.Reader.new.Goals as goal

pub returns-clause-history : goal.returns-clause-history
returns-clause-history c =
    stands_new _ (ap (λ w. record { wants = w; chunks = None }) c.new-2.ensures) refl refl (ap (drop 0) c.new.ensures.items)
