use Rattle.std.proofs.Common.{◌∙◌, ap, sym, subst, drop, refl}
use Rattle.std.proofs.lemmas.List.{drop-append-le}
use Rattle.cd_cbor.specs.Following.{StandsFor}
use Rattle.cd_cbor.proofs.Histories.{stands_feed}
use Rattle.cd_cbor.proofs.reader.Reader.feed.Goals as goal

pub returns-clause-history : goal.returns-clause-history
returns-clause-history c = λ fed given h.
    stands_feed _ _ fed c.args.piece.now given (subst (λ r. StandsFor r fed given) (sym (c.self.view_is ∙ c.drop_read.ensures)) h) refl refl refl
    (ap (drop c.self.inside.start) c.in_ok-extend_from_slice.ensures.items ∙ drop-append-le c.self.inside.start c.self.inside.bytes.items c.args.piece.now c.self.invariant.within)
