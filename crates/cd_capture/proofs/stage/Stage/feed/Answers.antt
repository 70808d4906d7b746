use Rattle.std.proofs.Common.{ℕ, ◌≤◌, ◌+◌, length, arith, inl, inr, refl}
use Rattle.std.proofs.lemmas.Bool.{cases_lt, false≢true}
use Rattle.cd_capture.proofs.Standing.{begun_feeds, first_again, first_feeds, pcap_again, pcap_feeds, pcapng_again, pcapng_feeds}
use Rattle.cd_capture.proofs.stage.Stage.feed.Goals as goal

-- more than three bytes are four
more_known : (n : ℕ) → (n ≤ 3 → ⊥) → 4 ≤ n
more_known n never = elim (cases_lt 3 n) [ inl more ↦ omega arith | inr few ↦ absurd (never few) ]

pub returns-in-Ok-clause-history : goal.returns-in-Ok-clause-history
returns-in-Ok-clause-history c =
    rw c.in-Undecided.is
    (first_feeds c.in-Undecided.first c.try_extend_from_slice.new.self c.args.chunk.now (tt {0}) c.in-Ok.ensures.ok
    (omega (arith, c.in-Ok.ensures.len, c.in-Ok.ensures.variant.0 refl)))

pub returns-in-Ok-clause-again : goal.returns-in-Ok-clause-again
returns-in-Ok-clause-again c = rw c.in-Undecided.is (first_again c.in-Undecided.first _)

pub returns-in-Pcap-clause-history : goal.returns-in-Pcap-clause-history
returns-in-Pcap-clause-history c =
    rw c.in-Pcap.is (pcap_feeds c.in-Pcap.reader c.feed.new.self c.args.chunk.now c.feed.result c.feed.ensures.history)

pub returns-in-Pcap-clause-again : goal.returns-in-Pcap-clause-again
returns-in-Pcap-clause-again c = rw c.in-Pcap.is (pcap_again c.in-Pcap.reader c.feed.result c.feed.ensures.again)

pub returns-in-Pcapng-clause-history : goal.returns-in-Pcapng-clause-history
returns-in-Pcapng-clause-history c =
    rw c.in-Pcapng.is
    (pcapng_feeds c.in-Pcapng.reader c.feed-in-Pcapng.new.self c.args.chunk.now c.feed-in-Pcapng.result
    c.feed-in-Pcapng.ensures.history)

pub returns-in-Pcapng-clause-again : goal.returns-in-Pcapng-clause-again
returns-in-Pcapng-clause-again c =
    rw c.in-Pcapng.is (pcapng_again c.in-Pcapng.reader c.feed-in-Pcapng.result c.feed-in-Pcapng.ensures.again)

pub returns-in-Err-begun-clause-again : goal.returns-in-Err-begun-clause-again
returns-in-Err-begun-clause-again c = rw c.in-Undecided.is (first_again c.in-Undecided.first _)

pub returns-in-Ok-begun-clause-again : goal.returns-in-Ok-begun-clause-again
returns-in-Ok-begun-clause-again c = rw c.in-Undecided.is (first_again c.in-Undecided.first _)

pub returns-in-Ok-begun-clause-history : goal.returns-in-Ok-begun-clause-history
returns-in-Ok-begun-clause-history c =
    let many = more_known (length c.in-Undecided.first.items + length c.args.chunk.now) (λ few. false≢true (c.in-Err.ensures.variant.1 few)) in
    let stands = rw (c.deref.ensures.0, c.in-Err.ensures.err) at c.in-Ok-begun.ensures.history in
    rw c.in-Undecided.is
    (begun_feeds c.in-Undecided.first c.in-Ok-begun.stage c.args.chunk.now c.end.result c.answer_for-answer.result many
    stands c.end.ensures c.answer_for-answer.ensures)
