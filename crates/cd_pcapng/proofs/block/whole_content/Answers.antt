use Rattle.std.proofs.Common.{◌≡◌, ◌-◌, ◌∙◌, length, sym}
use Rattle.cd_bytes.specs.Numbers.{number32_at}
use Rattle.cd_pcapng.specs.Sections.{section_of}
use Rattle.cd_pcapng.proofs.Contents.{whole-agrees}
use Rattle.cd_pcapng.proofs.block.whole_content.Goals as goal

pub returns-clause-found : goal.returns-clause-found
returns-clause-found c =
    let same : number32_at c.args.order (length c.args.block.now - 4) c.args.block.now ≡ length c.args.block.now =
    sym c.number32_at.ensures ∙ c.if-number32_at-block.false in
    λ before.
    rw (whole-agrees c.args.order (section_of before c.args.interfaces.now) c.args.at c.args.block.now same, ← c.kind_of.ensures)
    (c.content_of.ensures.found before)
