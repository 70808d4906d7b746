-- Each answer that the bytes taken give comes exactly where they give it.
use Rattle.std.proofs.Common.{◌≡◌, ℕ, Bool, true, false, cond, List, length, Option, Some, None, refl, ap, sym, ◌∙◌, inl, inr, subst}
use Rattle.std.specs.Prelude.{nat_lt, option_map}
use Rattle.std.proofs.lemmas.Bool.{cases_lt, lt-ltb, le-ltb, le-leb, lt-leb, ltb-true}
use Rattle.std.proofs.lemmas.List.{take_all}
use Rattle.cd_engine.specs.Checking.{judging_files}
use Rattle.cd_engine.specs.Endings as endings
use Rattle.cd_engine.specs.Endings.{refused_as, judging_captures}
use Rattle.cd_engine.specs.declared.ended.Ended.{Ended}
use Rattle.cd_engine.specs.declared.ended.Ended.TheVariants as ended
use Rattle.cd_engine.proofs.Refusing.{refusal_told}
use Rattle.cd_file.specs.KeptFile.{kept_file}
use Rattle.cd_file.specs.ReadFile.{FileEnd, Whole, Open, Refused, number_after, refusal_at, told}
use Rattle.cd_file.specs.declared.refusal.BadFile.{BadFile}
use Rattle.cd_packet.specs.declared.capture.BadCapture.{BadCapture}
use Rattle.cd_words.specs.declared.command.Command.{Command}
use Rattle.cd_words.specs.declared.command.Command.TheVariants.{Compact, Check, Inspect, Drill}
use Rattle.cd_top.specs.Run.{max_input_of, refusal_by, refusal_at_end_by, refused_for, refused_at_end_for, used_bytes, refusal_used, IsTooLong, ended_by}
use Rattle.cd_top.specs.Statuses.{status_of, EndsAs, ComesExactly}
use Rattle.cd_top.specs.declared.status.Status.{Status}
use Rattle.cd_top.specs.declared.status.Status.TheVariants as status
use Rattle.cd_top.proofs.Mapping.{end_is, not_stopped}

-- as refused, else so
abbrev refused_or : Option Ended → Ended → Ended
refused_or o other = refused_as (λ e. e) o other

-- how it ends to take so many bytes that are not refused
abbrev unrefused : Bool → Bool → Ended
unrefused more told_end = cond more ended.TooLong (cond told_end ended.Done ended.ReadFault)

-- what a file is refused for at its end it may be refused for before
file_judged_once : (bytes : List ℕ) (x : Ended) →
    refused_or (refusal_by judging_files bytes) (refused_or (refusal_at_end_by judging_files bytes) x) ≡ refused_or (refusal_at_end_by judging_files bytes) x
file_judged_once bytes x =
    by (number_after (kept_file bytes).params (length (kept_file bytes).blocks)) (length bytes) (kept_file bytes).end
  where
    by : (number count : ℕ) (e : FileEnd) →
        refused_or (option_map judging_files.ended_for (refusal_at number e)) (refused_or (option_map judging_files.ended_for (refusal_at number (told count e))) x)
        ≡ refused_or (option_map judging_files.ended_for (refusal_at number (told count e))) x
    by number count Whole = refl
    by number count Open = refl
    by number count (Refused why) = refl

-- what bytes are refused for at their end they may be refused for before
judged_once : (c : Command) (bytes : List ℕ) (x : Ended) →
    refused_or (refused_for c bytes) (refused_or (refused_at_end_for c bytes) x) ≡ refused_or (refused_at_end_for c bytes) x
judged_once (Compact s) bytes x =
    ap (λ o. refused_or (option_map judging_captures.ended_for o) (refused_or (refused_at_end_for (Compact s) bytes) x)) (refusal_told bytes)
    ∙ by (nat_lt (length bytes) 4) (judging_captures.refused_at_end bytes)
  where
    by : (few : Bool) (o : Option BadCapture) →
        refused_or (option_map judging_captures.ended_for (cond few None o)) (refused_or (option_map judging_captures.ended_for o) x)
        ≡ refused_or (option_map judging_captures.ended_for o) x
    by true o = refl
    by false None = refl
    by false (Some bad) = refl
judged_once (Check max) bytes x = file_judged_once bytes x
judged_once (Inspect max) bytes x = file_judged_once bytes x
judged_once (Drill settings) bytes x = refl

-- how it ends to take bytes, by what those that are used are refused for
pub ended_used : (c : Command) (taken : List ℕ) (told_end : Bool) →
    ended_by c taken told_end ≡ refused_or (refusal_used c taken told_end) (unrefused (nat_lt (max_input_of c) (length taken)) told_end)
ended_used c taken told_end =
    elim (cases_lt (max_input_of c) (length taken)) [
      | inl more ↦ rw (lt-ltb (max_input_of c) (length taken) more, lt-leb (length taken) (max_input_of c) more) refl
      | inr few ↦
          rw (le-ltb (max_input_of c) (length taken) few, le-leb (length taken) (max_input_of c) few, take_all (max_input_of c) taken few) (by told_end)
    ]
  where
    by : (t : Bool) → refused_or (refused_for c taken) (cond t (refused_or (refused_at_end_for c taken) ended.Done) ended.ReadFault)
        ≡ refused_or (cond t (refused_at_end_for c taken) (refused_for c taken)) (cond t ended.Done ended.ReadFault)
    by true = judged_once c taken ended.Done
    by false = refl

-- no refusal is told as too many bytes
told_short : {R : Type 0} (f : R → Ended) → ((r : R) → f r ≡ ended.TooLong → ⊥) → (o : Option R) → option_map f o ≡ Some ended.TooLong → ⊥
told_short f short None is = cc
told_short f short (Some r) is = short r (some_same (f r) ended.TooLong is)
  where
    some_same : (a b : Ended) → Some a ≡ Some b → a ≡ b
    some_same a b same = cc

capture_short : (o : Option BadCapture) → option_map judging_captures.ended_for o ≡ Some ended.TooLong → ⊥
capture_short o is = told_short judging_captures.ended_for (λ b same. cc) o is

file_short : (o : Option BadFile) → option_map judging_files.ended_for o ≡ Some ended.TooLong → ⊥
file_short o is = told_short judging_files.ended_for (λ b same. cc) o is

refused_short : (c : Command) (bytes : List ℕ) → refused_for c bytes ≡ Some ended.TooLong → ⊥
refused_short (Compact s) bytes is = capture_short (judging_captures.refused bytes) is
refused_short (Check max) bytes is = file_short (judging_files.refused bytes) is
refused_short (Inspect max) bytes is = file_short (judging_files.refused bytes) is
refused_short (Drill settings) bytes is = cc

refused_at_end_short : (c : Command) (bytes : List ℕ) → refused_at_end_for c bytes ≡ Some ended.TooLong → ⊥
refused_at_end_short (Compact s) bytes is = capture_short (judging_captures.refused_at_end bytes) is
refused_at_end_short (Check max) bytes is = file_short (judging_files.refused_at_end bytes) is
refused_at_end_short (Inspect max) bytes is = file_short (judging_files.refused_at_end bytes) is
refused_at_end_short (Drill settings) bytes is = cc

-- an end that is that of a refusal
pub record IsRefusal (e : Ended) : Type 0 where
  pub short : e ≡ ended.TooLong → ⊥
  pub undone : e ≡ ended.Done → ⊥
  pub unfailed : e ≡ ended.ReadFault → ⊥
  pub going : endings.IsStopped e → ⊥

pub capture_refusal : (b : _) → IsRefusal (ended.BadCapture b)
capture_refusal b = record { short = λ is. cc; undone = λ is. cc; unfailed = λ is. cc; going = λ halt. halt }

pub file_refusal : (b : _) → IsRefusal (ended.BadFile b)
file_refusal b = record { short = λ is. cc; undone = λ is. cc; unfailed = λ is. cc; going = λ halt. halt }

refused_end : (o : Option Ended) (more t : Bool) (e : Ended) → IsRefusal e → refused_or o (unrefused more t) ≡ e → o ≡ Some e
refused_end None true t e kind is = absurd (kind.short (sym is))
refused_end None false true e kind is = absurd (kind.undone (sym is))
refused_end None false false e kind is = absurd (kind.unfailed (sym is))
refused_end (Some x) more t e kind is = ap (λ y. Some y) is

too_long_end : (o p : Option Ended) (more t : Bool) → (o ≡ Some ended.TooLong → ⊥) → (p ≡ Some ended.TooLong → ⊥) →
    refused_or o (cond more ended.TooLong (cond t (refused_or p ended.Done) ended.ReadFault)) ≡ ended.TooLong → (o ≡ None) × (more ≡ true)
too_long_end None p true t no_o no_p e = (refl, refl)
too_long_end None None false true no_o no_p e = absurd cc
too_long_end None (Some x) false true no_o no_p e = absurd (no_p (ap (λ y. Some y) e))
too_long_end None p false false no_o no_p e = absurd cc
too_long_end (Some x) p more t no_o no_p e = absurd (no_o (ap (λ y. Some y) e))

-- a status comes exactly where the end that it is of does
end_comes : (r : Status) (end e : Ended) → EndsAs r (status_of end) → (endings.IsStopped e → ⊥) → ComesExactly r (status_of e) (end ≡ e)
end_comes r end e ends going = record {
  only = λ same. elim ends [
    | inl is ↦ end_is r end e is same
    | inr halt ↦ absurd (not_stopped r e same going halt)
  ];
  always = λ is. let P : Ended → Type 0 = λ x. EndsAs r (status_of x) in subst P is ends;
}

-- what comes exactly where P holds comes exactly where Q does, if these hold together
comes_also : (r s : Status) (P Q : Type 0) → ComesExactly r s P → (P → Q) → (Q → P) → ComesExactly r s Q
comes_also r s P Q h to from = record { only = λ same. to (h.only same); always = λ q. h.always (from q) }

-- a refusal comes exactly where the bytes used are refused so
pub refused_comes : (r : Status) (c : Command) (taken : List ℕ) (told_end : Bool) (e : Ended) → IsRefusal e →
    EndsAs r (status_of (ended_by c taken told_end)) → ComesExactly r (status_of e) (refusal_used c taken told_end ≡ Some e)
refused_comes r c taken told_end e kind ends =
    let used = ended_used c taken told_end in
    comes_also r (status_of e) (ended_by c taken told_end ≡ e) _
    (end_comes r (ended_by c taken told_end) e ends kind.going)
    (λ is. refused_end (refusal_used c taken told_end) (nat_lt (max_input_of c) (length taken)) told_end e kind (sym used ∙ is))
    (λ refused. used ∙ ap (λ o. refused_or o (unrefused (nat_lt (max_input_of c) (length taken)) told_end)) refused)

-- bytes whose front is not refused, with one byte too many
too_long_ends : (c : Command) (taken : List ℕ) (told_end : Bool) → IsTooLong c taken → ended_by c taken told_end ≡ ended.TooLong
too_long_ends c taken told_end h = rw (h.accepted, lt-ltb (max_input_of c) (length taken) h.more) refl

pub too_long_comes : (r : Status) (c : Command) (taken : List ℕ) (told_end : Bool) → EndsAs r (status_of (ended_by c taken told_end)) →
    ComesExactly r status.TooLong (IsTooLong c taken)
too_long_comes r c taken told_end ends =
    comes_also r status.TooLong (ended_by c taken told_end ≡ ended.TooLong) _
    (end_comes r (ended_by c taken told_end) ended.TooLong ends (λ halt. halt))
    (λ is.
    let k = too_long_end (refused_for c (used_bytes c taken)) (refused_at_end_for c taken) (nat_lt (max_input_of c) (length taken)) told_end
    (refused_short c (used_bytes c taken)) (refused_at_end_short c taken) is in
    record { more = ltb-true (max_input_of c) (length taken) k.1; accepted = k.0 })
    (too_long_ends c taken told_end)
