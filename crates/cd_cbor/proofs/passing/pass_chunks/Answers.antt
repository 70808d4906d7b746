-- Each step of the loop is a step of the definition.
use Rattle.std.proofs.Common.{ℕ, ◌+◌, length, refl, arith}
use Rattle.cd_cbor.specs.Reading.{chunk_at, chunked_string_at}
use Rattle.cd_cbor.specs.Ends.{end_of}
use Rattle.cd_cbor.proofs.PassedOver.{pass_on, pass_wrong, pass_no_byte, pass_stop, pass_none, chunks_begin}
use Rattle.cd_cbor.proofs.passing.pass_chunks.Goals as goal

pub chunks-init : goal.chunks-init
chunks-init c = record { short = omega arith; order = omega arith; read = chunks_begin c.args.is_text c.args.at 0 c.args.bytes.now refl }

pub returns-in-Err-clause-read : goal.returns-in-Err-clause-read
returns-in-Err-clause-read c = pass_no_byte (λ (p : ℕ × ℕ). p.1) c.args.bytes.now (chunk_at c.args.is_text c.args.bytes.now) (length c.args.bytes.now) c.chunks.counter (c.chunks.before, c.chunks.here) (end_of (chunked_string_at c.args.is_text c.args.at c.args.bytes.now)) c.in-Err.fault (omega arith) c.in-Err.ensures.read c.chunks.invariant.read

pub returns-then-first-clause-read : goal.returns-then-first-clause-read
returns-then-first-clause-read c = pass_stop (λ (p : ℕ × ℕ). p.1) c.args.bytes.now (chunk_at c.args.is_text c.args.bytes.now) (length c.args.bytes.now) c.chunks.counter (c.chunks.before, c.chunks.here) (end_of (chunked_string_at c.args.is_text c.args.at c.args.bytes.now)) c.in-Ok.first (omega arith) c.in-Ok.ensures.read c.if-first.true c.chunks.invariant.read

pub returns-in-Err-chunk_at-clause-read : goal.returns-in-Err-chunk_at-clause-read
returns-in-Err-chunk_at-clause-read c =
    pass_wrong (λ (p : ℕ × ℕ). p.1) c.args.bytes.now (chunk_at c.args.is_text c.args.bytes.now) (length c.args.bytes.now) c.chunks.counter (c.chunks.before, c.chunks.here) (end_of (chunked_string_at c.args.is_text c.args.at c.args.bytes.now)) c.in-Err-chunk_at.fault c.in-Ok.first (omega arith) c.in-Ok.ensures.read c.if-first.false c.in-Err-chunk_at.ensures.read c.chunks.invariant.read

pub chunks-preserved : goal.chunks-preserved
chunks-preserved c = record {
  short = omega (arith, c.in-Ok-chunk_at.ensures.short);
  order = omega (arith, c.in-Ok-chunk_at.ensures.within, c.chunks.invariant.order);
  read = pass_on (λ (p : ℕ × ℕ). p.1) c.args.bytes.now (chunk_at c.args.is_text c.args.bytes.now) (length c.args.bytes.now) c.chunks.counter (c.chunks.before, c.chunks.here) (end_of (chunked_string_at c.args.is_text c.args.at c.args.bytes.now)) c.in-Ok.first c.in-Ok-chunk_at.chunk.now (c.chunks.before + length c.in-Ok-chunk_at.chunk.now, c.in-Ok-chunk_at.next) (omega arith) c.in-Ok.ensures.read c.if-first.false c.in-Ok-chunk_at.ensures.read c.chunks.invariant.read;
}

pub returns-clause-read : goal.returns-clause-read
returns-clause-read c = rw c.bad.ensures (pass_none (λ (p : ℕ × ℕ). p.1) c.args.bytes.now (chunk_at c.args.is_text c.args.bytes.now) (length c.args.bytes.now) c.chunks.counter (c.chunks.before, c.chunks.here) (end_of (chunked_string_at c.args.is_text c.args.at c.args.bytes.now)) (omega arith) c.chunks.invariant.read)
