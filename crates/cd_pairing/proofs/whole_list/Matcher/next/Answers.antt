use Rattle.std.proofs.Common.{ℕ, ◌+◌, get_or, arith, length, ◌≡◌, refl, ap, ◌∙◌}
use Rattle.cd_pairing.specs.declared.stamp.Stamp.{Stamp}
use Rattle.cd_pairing.specs.Waiting.{digest_of}
use Rattle.cd_pairing.proofs.Stamps.{next}
use Rattle.cd_pairing.proofs.whole_list.Matcher.next.Goals as goal

pub overflow_add-result : goal.overflow_add-result
overflow_add-result g c =
    let x = c.index-events-index in
    let s = c.args.self.now in
    let e : c.len-index.result ≡ length s.partners.items = omega (arith, s.partners.ok.0) in
    let n = next g.E.Keyed.view c.args.events.now (length s.partners.items) x.result s.clock s.weight_sum c.time.result c.weight.result (digest_of (g.E.Keyed.view x.result).primary) (omega arith)
    (x.is ∙ ap (λ (k : ℕ). get_or c.args.events.now k x.result) e) c.requires.clock c.requires.weight_sum c.time.ensures c.weight.ensures refl in
    omega (arith, n.light, c.requires.light)

pub returns : goal.returns
returns g c =
    let x = c.index-events-index in
    let s = c.args.self.now in
    let e : c.len-index.result ≡ length s.partners.items = omega (arith, s.partners.ok.0) in
    let n = next g.E.Keyed.view c.args.events.now (length s.partners.items) x.result s.clock s.weight_sum c.time.result c.weight.result c.digest_of.result (omega arith)
    (x.is ∙ ap (λ (k : ℕ). get_or c.args.events.now k x.result) e) c.requires.clock c.requires.weight_sum c.time.ensures c.weight.ensures
    (c.digest_of.ensures ∙ ap digest_of c.primary.ensures) in
    ap (λ (k : ℕ). let r : Stamp = record { index = k; clock = c.max.result; weight_sum = s.weight_sum + c.weight.result; digest = c.digest_of.result } in r) e
    ∙ ap (λ (k : ℕ). let r : Stamp = record { index = length s.partners.items; clock = k; weight_sum = s.weight_sum + c.weight.result; digest = c.digest_of.result } in r) c.max.ensures
    ∙ n.stamp
