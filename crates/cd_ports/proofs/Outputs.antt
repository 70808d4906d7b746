-- Several outputs as one.
use Rattle.std.proofs.Common.{◌≡◌, ℕ, ◌≤◌, Bool, true, false, ◌||◌, List, [], ◌++◌, Result, Ok, refl, ap, sym, ◌∙◌, arith, is_err}
use Rattle.std.proofs.Math.Bool.{or-false, or_assoc}
use Rattle.std.proofs.KnownBytes.{Appends-nil}
use Rattle.std.proofs.lemmas.Bool.{false≢true}
use Rattle.cd_ports.specs.declared.sink.SinkFault.{SinkFault}
use Rattle.cd_ports.specs.Writing.{SinkMeaning, WriteStep, OutputStep, is_failure}
use Rattle.cd_ports.specs.Counter.{next_count}
use Rattle.cd_ports.proofs.Steps.{prefix_longer, writes_then, stopped, same_failure, same_kind}

-- one write
pub output_of_step : {T : Type 0} (a b : SinkMeaning) (r : Result T SinkFault) (p : List ℕ) → WriteStep a b r p → OutputStep a b r p
output_of_step a b r p h = record {
  bytes = h.bytes;
  cause = h.cause;
  failed = h.failed;
  refused = λ before now. sym (rw before at h.refused) ∙ now;
}

-- a sink that refuses a write in one of two outputs stops both
stops_then : {T U : Type 0} (a b c : Bool) (x : U) (r : Result T SinkFault) → (a ≡ false → b ≡ true → false ≡ true) → (b ≡ false → c ≡ true → is_err r ≡ true) →
    a ≡ false → c ≡ true → is_err r ≡ true
stops_then a true c x r h k before now = absurd (false≢true (h before refl))
stops_then a false c x r h k before now = k refl now

-- an output, and then another one
pub output_then : {T U : Type 0} (a b c : SinkMeaning) (x : U) (r : Result T SinkFault) (p q : List ℕ) → OutputStep a b (Ok x) p → OutputStep b c r q → OutputStep a c r (p ++ q)
output_then a b c x r p q h k = record {
  bytes = writes_then a.contents b.contents c.contents r p q h.bytes k.bytes;
  cause = record {
    later = omega (arith, h.cause.later, k.cause.later);
    failed = λ e. let rose : next_count b.faults ≤ c.faults = k.cause.failed e in omega (arith, h.cause.later, rose);
  };
  failed = k.failed ∙ ap (λ t. t || is_failure r) h.failed ∙ or_assoc a.failed false (is_failure r);
  refused = stops_then a.refused b.refused c.refused x r h.refused k.refused;
}

-- an output that was refused, and nothing after it
pub output_stop : (T U : Type 0) (a b : SinkMeaning) (e : SinkFault) (p q : List ℕ) → OutputStep a b (stopped T e) p → OutputStep a b (stopped U e) (p ++ q)
output_stop T U a b e p q h = record {
  bytes = prefix_longer a.contents b.contents p q h.bytes;
  cause = record { later = h.cause.later; failed = λ is. h.cause.failed (same_failure T U e is) };
  failed = h.failed ∙ ap (λ t. a.failed || t) (same_kind T U e);
  refused = λ before now. refl;
}

-- nothing to write
pub output_none : (T : Type 0) (a : SinkMeaning) (x : T) → let r : Result T SinkFault = Ok x in OutputStep a a r []
output_none T a x = record {
  bytes = Appends-nil a.contents;
  cause = record { later = omega arith; failed = λ is. absurd cc };
  failed = sym (or-false a.failed);
  refused = λ before now. absurd (false≢true (sym before ∙ now));
}
