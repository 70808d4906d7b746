use Rattle.std.proofs.Common.{◌≡◌, ◌∙◌, ◌≤◌, true, false, Some, None, length, sym, arith}
use Rattle.cd_pcapng.specs.Blocks.{head_length, order_of, kind_of, total_length, is_block_length}
use Rattle.cd_pcapng.specs.Sections.{Section, section_of}
use Rattle.cd_pcapng.proofs.Contents.{length_judged, whole_refused, block_least, whole_found}
use Rattle.cd_pcapng.proofs.Framing.{block_head, head_many, front-short, front-cut, order-stays, length-stays}
use Rattle.cd_pcapng.proofs.block.front_of.Goals as goal

pub returns-then-bytes-head_length : goal.returns-then-bytes-head_length
returns-then-bytes-head_length c = front-short _ _ _ (omega (arith, c.if-bytes-head_length.true, c.head_length.ensures))

pub returns-in-None : goal.returns-in-None
returns-in-None c =
    let s : Section = section_of c.args.order c.args.interfaces.now in
    let long : head_length c.args.bytes.now ≤ length c.args.bytes.now = omega (arith, c.if-bytes-head_length.false, c.head_length.ensures) in
    let none : order_of s c.args.bytes.now ≡ None = sym c.order_of.ensures ∙ c.in-None.is in
    (omega (arith, long, head_many c.args.bytes.now), λ more. order-stays s c.args.at c.args.bytes.now more long none)

pub returns-then-not-is_block_length : goal.returns-then-not-is_block_length
returns-then-not-is_block_length c =
    let s : Section = section_of c.args.order c.args.interfaces.now in
    let long : head_length c.args.bytes.now ≤ length c.args.bytes.now = omega (arith, c.if-bytes-head_length.false, c.head_length.ensures) in
    let told : order_of s c.args.bytes.now ≡ Some c.in-Some.told = sym c.order_of.ensures ∙ c.in-Some.is in
    let bad : is_block_length (kind_of c.in-Some.told c.args.bytes.now) (total_length c.in-Some.told c.args.bytes.now) ≡ false =
    length_judged _ _ _ _ _ _ c.kind_of.ensures c.number32_at-size.ensures c.is_block_length.ensures c.if-not-is_block_length.true in
    (omega (arith, long, head_many c.args.bytes.now), λ more. length-stays s c.args.at c.args.bytes.now more c.in-Some.told long told bad)

pub returns-then-bytes-size : goal.returns-then-bytes-size
returns-then-bytes-size c =
    let s : Section = section_of c.args.order c.args.interfaces.now in
    let long : head_length c.args.bytes.now ≤ length c.args.bytes.now = omega (arith, c.if-bytes-head_length.false, c.head_length.ensures) in
    let told : order_of s c.args.bytes.now ≡ Some c.in-Some.told = sym c.order_of.ensures ∙ c.in-Some.is in
    let good : is_block_length (kind_of c.in-Some.told c.args.bytes.now) (total_length c.in-Some.told c.args.bytes.now) ≡ true =
    length_judged _ _ _ _ _ _ c.kind_of.ensures c.number32_at-size.ensures c.is_block_length.ensures c.if-not-is_block_length.false in
    front-cut s c.args.at c.args.bytes.now c.in-Some.told long told good (omega (arith, c.if-bytes-size.true, c.number32_at-size.ensures))

pub whole_content-requires-clause-long : goal.whole_content-requires-clause-long
whole_content-requires-clause-long c =
    let s : Section = section_of c.args.order c.args.interfaces.now in
    let told : order_of s c.args.bytes.now ≡ Some c.in-Some.told = sym c.order_of.ensures ∙ c.in-Some.is in
    let good : is_block_length (kind_of c.in-Some.told c.args.bytes.now) (total_length c.in-Some.told c.args.bytes.now) ≡ true =
    length_judged _ _ _ _ _ _ c.kind_of.ensures c.number32_at-size.ensures c.is_block_length.ensures c.if-not-is_block_length.false in
    block_least s c.in-Some.told c.number32_at-size.result c.args.bytes.now
    (block_head s c.in-Some.told c.number32_at-size.result c.args.bytes.now told (sym c.number32_at-size.ensures) good (omega (arith, c.if-bytes-size.false)))

pub returns-in-Err : goal.returns-in-Err
returns-in-Err c =
    let s : Section = section_of c.args.order c.args.interfaces.now in
    let long : head_length c.args.bytes.now ≤ length c.args.bytes.now = omega (arith, c.if-bytes-head_length.false, c.head_length.ensures) in
    let told : order_of s c.args.bytes.now ≡ Some c.in-Some.told = sym c.order_of.ensures ∙ c.in-Some.is in
    let good : is_block_length (kind_of c.in-Some.told c.args.bytes.now) (total_length c.in-Some.told c.args.bytes.now) ≡ true =
    length_judged _ _ _ _ _ _ c.kind_of.ensures c.number32_at-size.ensures c.is_block_length.ensures c.if-not-is_block_length.false in
    whole_refused s c.args.at c.args.bytes.now c.in-Some.told c.number32_at-size.result c.in-Err.why long told good c.number32_at-size.ensures
    (omega (arith, c.if-bytes-size.false)) (c.in-Err.ensures.found c.args.order)

pub returns-in-Ok : goal.returns-in-Ok
returns-in-Ok c =
    let s : Section = section_of c.args.order c.args.interfaces.now in
    let told : order_of s c.args.bytes.now ≡ Some c.in-Some.told = sym c.order_of.ensures ∙ c.in-Some.is in
    let good : is_block_length (kind_of c.in-Some.told c.args.bytes.now) (total_length c.in-Some.told c.args.bytes.now) ≡ true =
    length_judged _ _ _ _ _ _ c.kind_of.ensures c.number32_at-size.ensures c.is_block_length.ensures c.if-not-is_block_length.false in
    whole_found s c.args.at c.args.bytes.now c.in-Some.told c.number32_at-size.result c.in-Ok.content
    (block_head s c.in-Some.told c.number32_at-size.result c.args.bytes.now told (sym c.number32_at-size.ensures) good (omega (arith, c.if-bytes-size.false)))
    (c.in-Ok.ensures.found c.args.order) c.in-Ok.ensures.section
