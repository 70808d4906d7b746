-- What the status of an end says.
use Rattle.std.proofs.Common.{◌≡◌, ◌⊎◌, refl, ap, sym, ◌∙◌, inl, inr, subst}
use Rattle.cd_engine.specs.Endings as endings
use Rattle.cd_engine.specs.Endings.{IfStopped}
use Rattle.cd_engine.specs.declared.ended.Ended.{Ended}
use Rattle.cd_engine.specs.declared.ended.Ended.TheVariants as ended
use Rattle.cd_top.specs.Statuses.{status_of, IsStatusOf, IsStopped, EndsAs, ComesExactly}
use Rattle.cd_top.specs.declared.status.Status.{Status}
use Rattle.cd_top.specs.declared.status.Status.TheVariants as status

-- an end with a status; `Usage` has none, and any is given
abbrev end_of : Status → Ended
end_of status.Done = ended.Done
end_of status.Usage = ended.Done
end_of (status.BadCapture b) = ended.BadCapture b
end_of (status.BadFile b) = ended.BadFile b
end_of status.ReadFault = ended.ReadFault
end_of status.WriteFault = ended.WriteFault
end_of status.NoMemory = ended.NoMemory
end_of status.TooLong = ended.TooLong

end_back : (e : Ended) → end_of (status_of e) ≡ e
end_back ended.Done = refl
end_back (ended.BadCapture b) = refl
end_back (ended.BadFile b) = refl
end_back ended.ReadFault = refl
end_back ended.WriteFault = refl
end_back ended.NoMemory = refl
end_back ended.TooLong = refl

-- two ends with one status are one
pub same_end : (e f : Ended) → status_of e ≡ status_of f → e ≡ f
same_end e f same = sym (end_back e) ∙ ap (λ s. end_of s) same ∙ end_back f

-- the end of a run whose status is that of an end
pub end_is : (r : Status) (e f : Ended) → r ≡ status_of e → r ≡ status_of f → e ≡ f
end_is r e f is same = same_end e f (sym is ∙ same)

-- no end is a refusal of the words
pub no_usage : (e : Ended) → status_of e ≡ status.Usage → ⊥
no_usage ended.Done same = absurd cc
no_usage (ended.BadCapture b) same = absurd cc
no_usage (ended.BadFile b) same = absurd cc
no_usage ended.ReadFault same = absurd cc
no_usage ended.WriteFault same = absurd cc
no_usage ended.NoMemory same = absurd cc
no_usage ended.TooLong same = absurd cc

-- an end of which P holds
pub has_end : (P : Ended → Type 0) (r : Status) (e : Ended) → r ≡ status_of e → P e → IsStatusOf P r
has_end P r e is h = record { end = e; is = is; holds = h }

-- want of memory stops a run, and so does a failed write
pub memory_stops : IsStopped status.NoMemory
memory_stops = record { end = ended.NoMemory; is = refl; holds = tt }

pub write_stops : IsStopped status.WriteFault
write_stops = record { end = ended.WriteFault; is = refl; holds = tt }

-- a status of an end that is not stopped is none that is
pub not_stopped : (r : Status) (e : Ended) → r ≡ status_of e → (endings.IsStopped e → ⊥) → IsStopped r → ⊥
not_stopped r e is going h =
    let P : Ended → Type 0 = λ f. endings.IsStopped f in
    going (subst P (end_is r h.end e h.is is) h.holds)

-- nor is a refusal of the words
pub usage_goes : (r : Status) → r ≡ status.Usage → IsStopped r → ⊥
usage_goes r is h = no_usage h.end (sym h.is ∙ is)

-- what comes exactly where memory ran out
pub comes_stopped : (r s : Status) (P : Type 0) → r ≡ status.NoMemory → (r ≡ s → ⊥) → ComesExactly r s P
comes_stopped r s P is other =
    let Q : Status → Type 0 = λ x. IsStopped x in
    record { only = λ same. absurd (other same); always = λ holds. inr (subst Q (sym is) memory_stops) }

-- a write failed, or memory ran out
pub stopped_is : (r : Status) → IsStopped r → (r ≡ status.WriteFault) ⊎ (r ≡ status.NoMemory)
stopped_is r h = by h.end h.is h.holds
  where
    by : (e : Ended) → r ≡ status_of e → endings.IsStopped e → (r ≡ status.WriteFault) ⊎ (r ≡ status.NoMemory)
    by ended.WriteFault is halt = inl is
    by ended.NoMemory is halt = inr is
    by ended.Done is halt = absurd halt
    by (ended.BadCapture b) is halt = absurd halt
    by (ended.BadFile b) is halt = absurd halt
    by ended.ReadFault is halt = absurd halt
    by ended.TooLong is halt = absurd halt

-- a run that ends so and is not stopped ends so alone
pub ends_only : (r : Status) (e f : Ended) → EndsAs r (status_of e) → r ≡ status_of f → (endings.IsStopped f → ⊥) → e ≡ f
ends_only r e f (inl same) is going = end_is r e f same is
ends_only r e f (inr halt) is going = absurd (not_stopped r f is going halt)

-- it is no refusal of the words
pub ends_no_usage : (r : Status) (e : Ended) → EndsAs r (status_of e) → r ≡ status.Usage → ⊥
ends_no_usage r e (inl same) is = no_usage e (sym same ∙ is)
ends_no_usage r e (inr halt) is = usage_goes r is halt

-- where no write failed a run that is done unless it is stopped is done or finds no memory
pub ends_complete : (r : Status) → EndsAs r status.Done → (r ≡ status.WriteFault → ⊥) → (r ≡ status.Done) ⊎ (r ≡ status.NoMemory)
ends_complete r (inl done) unfailed = inl done
ends_complete r (inr halt) unfailed = elim (stopped_is r halt) [
  | inl failed ↦ absurd (unfailed failed)
  | inr memory ↦ inr memory
]

-- an end is a stop or not
pub stopped_or_going : (e : Ended) → endings.IsStopped e ⊎ (endings.IsStopped e → ⊥)
stopped_or_going ended.WriteFault = inl tt
stopped_or_going ended.NoMemory = inl tt
stopped_or_going ended.Done = inr (λ halt. halt)
stopped_or_going (ended.BadCapture b) = inr (λ halt. halt)
stopped_or_going (ended.BadFile b) = inr (λ halt. halt)
stopped_or_going ended.ReadFault = inr (λ halt. halt)
stopped_or_going ended.TooLong = inr (λ halt. halt)

-- what holds at a stop
pub at_stop : (e : Ended) (P Q : Type 0) → endings.IsStopped e → IfStopped e P Q → P
at_stop ended.WriteFault P Q halt h = h
at_stop ended.NoMemory P Q halt h = h
at_stop ended.Done P Q halt h = absurd halt
at_stop (ended.BadCapture b) P Q halt h = absurd halt
at_stop (ended.BadFile b) P Q halt h = absurd halt
at_stop ended.ReadFault P Q halt h = absurd halt
at_stop ended.TooLong P Q halt h = absurd halt

-- what holds at another end
pub while_going : (e : Ended) (P Q : Type 0) → (endings.IsStopped e → ⊥) → IfStopped e P Q → Q
while_going ended.WriteFault P Q going h = absurd (going tt)
while_going ended.NoMemory P Q going h = absurd (going tt)
while_going ended.Done P Q going h = h
while_going (ended.BadCapture b) P Q going h = h
while_going (ended.BadFile b) P Q going h = h
while_going ended.ReadFault P Q going h = h
while_going ended.TooLong P Q going h = h

pub stopped_so : (e : Ended) (P Q : Type 0) → endings.IsStopped e → P → IfStopped e P Q
stopped_so ended.WriteFault P Q halt p = p
stopped_so ended.NoMemory P Q halt p = p
stopped_so ended.Done P Q halt p = absurd halt
stopped_so (ended.BadCapture b) P Q halt p = absurd halt
stopped_so (ended.BadFile b) P Q halt p = absurd halt
stopped_so ended.ReadFault P Q halt p = absurd halt
stopped_so ended.TooLong P Q halt p = absurd halt

pub going_so : (e : Ended) (P Q : Type 0) → (endings.IsStopped e → ⊥) → Q → IfStopped e P Q
going_so ended.WriteFault P Q going q = absurd (going tt)
going_so ended.NoMemory P Q going q = absurd (going tt)
going_so ended.Done P Q going q = q
going_so (ended.BadCapture b) P Q going q = q
going_so (ended.BadFile b) P Q going q = q
going_so ended.ReadFault P Q going q = q
going_so ended.TooLong P Q going q = q
