use Rattle.std.proofs.Common.{◌+◌, ◌-◌, ◌<◌, ◌≤◌, sym, ◌∙◌, ap, arith}
use Rattle.std.proofs.lemmas.Result.{err_from_is_err_and}
use Rattle.cd_bytes.specs.Numbers.{be16}
use Rattle.cd_packet.proofs.Walking.{tags_stop, tags_on, tags_end, tags_left}
use Rattle.cd_packet.specs.Links.{after_tags}
use Rattle.cd_packet.proofs.link_reading.after_tags.Goals as goal
use Rattle.cd_packet.proofs.link_reading.after_tags.Goals.{then-tags-test+else-is_tag, else-tags-test}

pub returns-in_err-needs-clause-exact : goal.returns-in_err-needs-clause-exact
returns-in_err-needs-clause-exact c =
    let some : 0 < c.tags.left = omega arith in
    let p = err_from_is_err_and c.from_residual.result c.from_residual.ensures.1 in
    rw (p.1, p.2) (sym (c.tags.invariant.0 ∙ tags_stop c.tags.left c.tags.protocol c.tags.at c.args.packet.now _ some (sym c.is_tag.ensures ∙ c.if-is_tag.true) (sym c.in_err-needs.ensures.exact)))

pub tags-preserved : goal.tags-preserved
tags-preserved c =
    let some : 0 < c.tags.left = omega arith in
    let next = ap (be16 (c.tags.at + 2)) (sym c.as_slice-bytes.ensures) ∙ sym c.be16-protocol.ensures in (
      c.tags.invariant.0
          ∙ tags_on c.tags.left c.tags.protocol c.tags.at c.args.packet.now some (sym c.is_tag.ensures ∙ c.if-is_tag.true) c.in_ok-needs.ensures.there
          ∙ ap (λ q. after_tags (c.tags.left - 1) q (c.tags.at + 4) c.args.packet.now) next,
      c.in_ok-needs.ensures.there,
    )

pub returns-clause-exact : goal.returns-clause-exact
returns-clause-exact c =
    elim c.tags-test.branch [
      | then-tags-test+else-is_tag w ↦
          c.network_packet.ensures.exact ∙ sym (c.tags.invariant.0
          ∙ tags_end c.tags.left c.tags.protocol c.tags.at c.args.packet.now (sym w.is_tag.ensures ∙ w.if-is_tag.false))
      | else-tags-test w ↦
          let none : c.tags.left ≤ 0 = omega arith in
          c.network_packet.ensures.exact ∙ sym (c.tags.invariant.0 ∙ tags_left c.tags.left c.tags.protocol c.tags.at c.args.packet.now none)
    ]
