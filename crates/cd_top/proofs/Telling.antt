-- What a run answers and reports, by how its command ended and what it counted.
use Rattle.std.proofs.Common.{◌≡◌, ◌⊎◌, List, ℕ, ◌++◌, length, Option, Some, None, ap, sym, ◌∙◌, inl, inr, subst, arith}
use Rattle.std.specs.Io.KnownBytes.{Appends}
use Rattle.std.proofs.lemmas.List.{take_all}
use Rattle.cd_engine.specs.Compacting as compacting
use Rattle.cd_engine.specs.Endings as endings
use Rattle.cd_engine.specs.Endings.{IfStopped}
use Rattle.cd_engine.specs.declared.ended.Ended.{Ended}
use Rattle.cd_engine.specs.declared.ended.Ended.TheVariants as ended
use Rattle.cd_ports.specs.Writing.{SinkMeaning, AppendsPrefix}
use Rattle.cd_top.specs.Reports.{TellsReport, TellsEnd}
use Rattle.cd_top.specs.Statuses.{status_of, IsStopped, EndsAs, Writes, WriteOutranks}
use Rattle.cd_top.specs.declared.status.Status.{Status}
use Rattle.cd_top.specs.declared.status.Status.TheVariants as status
use Rattle.cd_top.proofs.Mapping.{has_end, ends_only, ends_complete, stopped_is, stopped_or_going, at_stop, while_going, stopped_so}
use Rattle.cd_top.proofs.Unread.{prefix_none}

-- a command that is done is not stopped
pub done_goes : (e : Ended) → e ≡ ended.Done → endings.IsStopped e → ⊥
done_goes e is = let P : Ended → Type 0 = λ f. endings.IsStopped f → ⊥ in subst P (sym is) (λ halt. halt)

-- what is written whole is written as a prefix
whole_prefix : (o n : Option (List ℕ)) (bytes : List ℕ) → Appends o n bytes → AppendsPrefix o n bytes
whole_prefix None n bytes h = tt
whole_prefix (Some xs) None bytes h = absurd h
whole_prefix (Some xs) (Some ys) bytes h = (length bytes, h ∙ ap (λ t. xs ++ t) (sym (take_all (length bytes) bytes (omega arith))))

-- what is written where a run is not stopped yet it has written, whatever becomes of its report
pub writes_so : (ko kn : SinkMeaning) (r : Status) (e : Ended) (bytes : List ℕ) → (endings.IsStopped e → ⊥) → EndsAs r (status_of e) →
    compacting.Writes ko kn e bytes → Writes ko kn r bytes
writes_so ko kn r e bytes going (inl is) writes = has_end (λ f. compacting.Writes ko kn f bytes) r e is writes
writes_so ko kn r e bytes going (inr halt) writes =
    has_end (λ f. compacting.Writes ko kn f bytes) r halt.end halt.is
    (stopped_so halt.end _ _ halt.holds (whole_prefix ko.contents kn.contents bytes (while_going e _ _ going writes)))

module _ {C : Type 0} (form : C → Status → List ℕ) where
  -- what is told of a command that ended so, as it was stopped or not
  pub told_by : (old new : SinkMeaning) (r : Status) (e : Ended) (counts : C) → TellsEnd form old new r e counts →
      (endings.IsStopped e × (r ≡ status_of e) × (new ≡ old)) ⊎ ((endings.IsStopped e → ⊥) × TellsReport old new r (status_of e) (form counts (status_of e)))
  told_by old new r e counts h = elim (stopped_or_going e) [
    | inl halt ↦ inl (halt, (at_stop e _ _ halt h).0, (at_stop e _ _ halt h).1)
    | inr going ↦ inr (going, while_going e _ _ going h)
  ]

  -- the run ends as the command does, or is stopped
  pub told_ends : (old new : SinkMeaning) (r : Status) (e : Ended) (counts : C) → TellsEnd form old new r e counts → EndsAs r (status_of e)
  told_ends old new r e counts h = elim (told_by old new r e counts h) [
    | inl stop ↦ inl stop.1
    | inr tells ↦ tells.1.ends
  ]

  -- a run whose command was stopped is
  pub told_stops : (old new : SinkMeaning) (r : Status) (e : Ended) (counts : C) → TellsEnd form old new r e counts → endings.IsStopped e → IsStopped r
  told_stops old new r e counts h halt = has_end (λ x. endings.IsStopped x) r e (at_stop e _ _ halt h).0 halt

  -- where a command ends so or is stopped, the run does
  pub told_ends_as : (old new : SinkMeaning) (r : Status) (e f : Ended) (counts : C) → TellsEnd form old new r e counts → endings.EndsAs e f → EndsAs r (status_of f)
  told_ends_as old new r e f counts h ends = elim ends [
    | inl same ↦ let P : Ended → Type 0 = λ x. EndsAs r (status_of x) in subst P same (told_ends old new r e counts h)
    | inr halt ↦ inr (told_stops old new r e counts h halt)
  ]

  -- what a command writes that ended so, the run does, whatever became of the report
  pub writes_told : (ko kn old new : SinkMeaning) (r : Status) (e : Ended) (counts : C) (bytes : List ℕ) → TellsEnd form old new r e counts →
      compacting.Writes ko kn e bytes → Writes ko kn r bytes
  writes_told ko kn old new r e counts bytes h writes = elim (told_by old new r e counts h) [
    | inl stop ↦ has_end (λ f. compacting.Writes ko kn f bytes) r e stop.1 writes
    | inr tells ↦ writes_so ko kn r e bytes tells.0 tells.1.ends writes
  ]

  -- a fault of the output outranks all but want of memory
  pub outranks_told : (ko kn old new : SinkMeaning) (r : Status) (e : Ended) (counts : C) → TellsEnd form old new r e counts →
      compacting.WriteOutranks ko kn e → WriteOutranks ko kn r
  outranks_told ko kn old new r e counts h w = record {
    failed = λ sound failed. told_stops old new r e counts h (w.failed sound failed);
    refused = λ sound refused. told_stops old new r e counts h (w.refused sound refused);
  }

  -- a run that ends so and is not stopped is a command that ends so
  pub told_end_is : (old new : SinkMeaning) (r : Status) (e f : Ended) (counts : C) → TellsEnd form old new r e counts → r ≡ status_of f → (endings.IsStopped f → ⊥) → e ≡ f
  told_end_is old new r e f counts h is going = ends_only r e f (told_ends old new r e counts h) is going

  -- the report says what was counted in the bytes that are used
  pub reports_as : (old new : SinkMeaning) (r : Status) (e f : Ended) (found counts none : C) (P : Type 0) → (P → found ≡ counts) →
      TellsEnd form old new r e found → endings.EndsAs e f → IfStopped e (found ≡ none) P → TellsReport old new r (status_of f) (form counts (status_of f))
  reports_as old new r e f found counts none P same h ends are = elim (told_by old new r e found h) [
    | inl stop ↦
        let halt : IsStopped r = has_end (λ x. endings.IsStopped x) r e stop.1 stop.0 in
        let F : SinkMeaning → Type 0 = λ x. AppendsPrefix old.contents x.contents (form counts (status_of f)) in
        record {
          ends = inr halt;
          whole = λ going. absurd (going halt);
          front = λ again. subst F (sym stop.2) (prefix_none old.contents (form counts (status_of f)));
        }
    | inr tells ↦ elim ends [
      | inl is ↦
          let Q : C → Type 0 = λ x. TellsReport old new r (status_of e) (form x (status_of e)) in
          let E : Ended → Type 0 = λ x. TellsReport old new r (status_of x) (form counts (status_of x)) in
          subst E is (subst Q (same (while_going e _ _ tells.0 are)) tells.1)
      | inr halt ↦ absurd (tells.0 halt)
    ]
  ]

  -- a command that is done or finds no memory is a run that is, where the report does not fail
  pub completes : (old new : SinkMeaning) (r : Status) (e : Ended) (counts : C) → TellsEnd form old new r e counts →
      (r ≡ status.WriteFault → ⊥) → (e ≡ ended.Done) ⊎ (e ≡ ended.NoMemory) → (r ≡ status.Done) ⊎ (r ≡ status.NoMemory)
  completes old new r e counts h unfailed (inl is) =
      let P : Ended → Type 0 = λ x. EndsAs r (status_of x) in
      ends_complete r (subst P is (told_ends old new r e counts h)) unfailed
  completes old new r e counts h unfailed (inr is) =
      let P : Ended → Type 0 = λ x. EndsAs r (status_of x) in
      elim (subst P is (told_ends old new r e counts h)) [
        | inl memory ↦ inr memory
        | inr halt ↦ elim (stopped_is r halt) [
          | inl failed ↦ absurd (unfailed failed)
          | inr memory ↦ inr memory
        ]
      ]
