-- Each step of the loop is a step of the definition.
use Rattle.std.proofs.Common.{◌≡◌, ℕ, ◌+◌, [], ◌∷◌, ◌++◌, length, Ok, ap, sym, subst, ◌∙◌, arith, length-append}
use Rattle.cd_cbor.specs.Readings.{GivesFault}
use Rattle.cd_cbor.specs.Reading.{joined, chunk_at, chunks_at}
use Rattle.cd_cbor.proofs.Repeats.{until_fault, until_no_byte, until_stop, until_none}
use Rattle.cd_cbor.proofs.Loops.{chunks_start, chunks_more, concat_more}
use Rattle.cd_cbor.proofs.string_reading.chunks_at.Goals as goal

pub chunks-init : goal.chunks-init
chunks-init c =
    let none : length c.new-content.result.items ≡ 0 = ap length c.new-content.ensures.items in
    record {
      chunks = [];
      are = c.new-content.ensures.items;
      short = omega arith;
      order = omega arith;
      read = chunks_start c.args.is_text c.args.at c.args.bytes.now c.new-content.result.items c.new-content.ensures.items;
    }

pub returns-in-Err-clause-read : goal.returns-in-Err-clause-read
returns-in-Err-clause-read c =
    until_no_byte (λ (p : ℕ × ℕ). p.1) c.args.bytes.now (chunk_at c.args.is_text c.args.bytes.now) c.chunks.invariant.chunks (length c.args.bytes.now) c.chunks.counter
    (length c.chunks.content.items, c.chunks.here) joined (chunks_at c.args.is_text c.args.at c.args.bytes.now) c.in-Err.fault (omega arith) c.in-Err.ensures.read c.chunks.invariant.read

pub returns-then-first-clause-read : goal.returns-then-first-clause-read
returns-then-first-clause-read c =
    until_stop (λ (p : ℕ × ℕ). p.1) c.args.bytes.now (chunk_at c.args.is_text c.args.bytes.now) c.chunks.invariant.chunks (length c.args.bytes.now) c.chunks.counter
    (length c.chunks.content.items, c.chunks.here) joined (chunks_at c.args.is_text c.args.at c.args.bytes.now) c.in-Ok.first (omega arith) c.in-Ok.ensures.read c.if-first.true c.chunks.invariant.read
    ∙ ap (λ x. Ok (x, c.chunks.here + 1)) (sym c.chunks.invariant.are ∙ sym c.from_vec.ensures)

pub returns-in-Err-chunk_at-clause-read : goal.returns-in-Err-chunk_at-clause-read
returns-in-Err-chunk_at-clause-read c =
    let same : c.len-before.result ≡ length c.chunks.content.items = c.len-before.ensures ∙ c.chunks.content.ok.0 in
    let gives = subst (λ n. GivesFault c.in-Err-chunk_at.fault (chunk_at c.args.is_text c.args.bytes.now (n, c.chunks.here))) same c.in-Err-chunk_at.ensures.read in
    until_fault (λ (p : ℕ × ℕ). p.1) c.args.bytes.now (chunk_at c.args.is_text c.args.bytes.now) c.chunks.invariant.chunks (length c.args.bytes.now) c.chunks.counter
    (length c.chunks.content.items, c.chunks.here) joined (chunks_at c.args.is_text c.args.at c.args.bytes.now) c.in-Err-chunk_at.fault c.in-Ok.first (omega arith) c.in-Ok.ensures.read c.if-first.false gives
    c.chunks.invariant.read

pub chunks-preserved : goal.chunks-preserved
chunks-preserved c =
    let same : c.len-before.result ≡ length c.chunks.content.items = c.len-before.ensures ∙ c.chunks.content.ok.0 in
    let new = c.in-Ok-extend_from_slice.ensures.items in
    let long : length c.extend_from_slice.new.self.items ≡ length c.chunks.content.items + length c.in-Ok-chunk_at.chunk.now =
    ap length new ∙ length-append c.chunks.content.items c.in-Ok-chunk_at.chunk.now in
    record {
      chunks = c.chunks.invariant.chunks ++ c.in-Ok-chunk_at.chunk.now ∷ [];
      are = new ∙ ap (λ t. t ++ c.in-Ok-chunk_at.chunk.now) c.chunks.invariant.are ∙ sym (concat_more c.chunks.invariant.chunks c.in-Ok-chunk_at.chunk.now);
      short = omega (arith, c.in-Ok-chunk_at.ensures.short);
      order = omega (arith, c.in-Ok-chunk_at.ensures.within, c.chunks.invariant.order);
      read = chunks_more c.args.is_text c.args.bytes.now c.chunks.invariant.chunks c.chunks.content.items c.extend_from_slice.new.self.items (length c.args.bytes.now) c.chunks.counter c.chunks.here
          c.len-before.result c.in-Ok.first c.in-Ok-chunk_at.chunk.now c.in-Ok-chunk_at.next (chunks_at c.args.is_text c.args.at c.args.bytes.now) (omega arith) c.in-Ok.ensures.read c.if-first.false same
          c.in-Ok-chunk_at.ensures.read new c.chunks.invariant.read;
    }

pub returns-clause-read : goal.returns-clause-read
returns-clause-read c =
    rw c.bad.ensures
    (until_none (λ (p : ℕ × ℕ). p.1) c.args.bytes.now (chunk_at c.args.is_text c.args.bytes.now) c.chunks.invariant.chunks (length c.args.bytes.now) c.chunks.counter
    (length c.chunks.content.items, c.chunks.here) joined (chunks_at c.args.is_text c.args.at c.args.bytes.now) (omega arith) c.chunks.invariant.read)
