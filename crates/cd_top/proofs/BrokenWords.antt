-- Words that are no command line, and what a run answers to them.
use Rattle.std.proofs.Common.{◌≡◌, ℕ, List, refl, sym, ◌∙◌, inl, inr, subst}
use Rattle.cd_words.specs.Commands.{HasFault, IsLine, BreaksRuleAt, SaysCommand}
use Rattle.cd_words.specs.Laws.{LinesOrBreaks}
use Rattle.cd_words.specs.declared.command.Command.{Command}
use Rattle.cd_words.specs.declared.fault.WordsFault.{WordsFault}
use Rattle.cd_words.specs.declared.fault.WordsFault.TheVariants as fault
use Rattle.cd_ports.specs.Reading.{SourceMeaning}
use Rattle.cd_ports.specs.Writing.{SinkMeaning}
use Rattle.cd_top.specs.Refusing.{usage_text, Refuses, RefusesWords}
use Rattle.cd_top.specs.Statuses.{ComesExactly}
use Rattle.cd_top.specs.declared.status.Status.{Status}
use Rattle.cd_top.specs.declared.status.Status.TheVariants as status
use Rattle.cd_top.proofs.Reporting.{unsaid}

-- words say a command that is another by its name
pub says_as : (words : List (List ℕ)) (c d : Command) → c ≡ d → SaysCommand words c → SaysCommand words d
says_as words c d is says = let P : Command → Type 0 = λ x. SaysCommand words x in subst P is says

-- they break a rule at one place
one_place : LinesOrBreaks → (words : List (List ℕ)) (p q : ℕ) → BreaksRuleAt words p → BreaksRuleAt words q → p ≡ q
one_place law words p q here there = elim (law words) [
  | inl whole ↦ absurd (whole.1 p here)
  | inr broken ↦ broken.1.only p here ∙ sym (broken.1.only q there)
]

-- words that break a rule are no command line
pub broken_is_no_line : LinesOrBreaks → (words : List (List ℕ)) (p : ℕ) → BreaksRuleAt words p → IsLine words → ⊥
broken_is_no_line law words p here line = elim (law words) [
  | inl whole ↦ whole.1 p here
  | inr broken ↦ broken.1.outside line
]

-- the fault says where they break a rule
pub fault_breaks : (words : List (List ℕ)) (f : WordsFault) (p : ℕ) → f ≡ fault.Usage p → HasFault words f → BreaksRuleAt words p
fault_breaks words f p is has = let F : WordsFault → Type 0 = λ x. HasFault words x in subst F is has

-- words with a fault say no command
pub broken_says_none : LinesOrBreaks → (words : List (List ℕ)) (f : WordsFault) (p : ℕ) (c : Command) → f ≡ fault.Usage p → HasFault words f → SaysCommand words c → ⊥
broken_says_none law words f p c is has says = broken_is_no_line law words p (fault_breaks words f p is has) (c, says)

-- and are refused so
pub broken_comes : LinesOrBreaks → (words : List (List ℕ)) (f : WordsFault) (p : ℕ) (a b : SinkMeaning) (r : Status) → f ≡ fault.Usage p → HasFault words f →
    Refuses p a b r → ComesExactly r status.Usage (¬ (IsLine words))
broken_comes law words f p a b r is has h = record {
  only = λ same line. broken_is_no_line law words p (fault_breaks words f p is has) line;
  always = λ outside. h.ends;
}

-- the report says this place
pub refused_words : LinesOrBreaks → (words : List (List ℕ)) (f : WordsFault) (p q : ℕ) (src : SourceMeaning) (out a b : SinkMeaning) (r : Status) →
    f ≡ fault.Usage p → HasFault words f → BreaksRuleAt words q → Refuses p a b r → RefusesWords q src src out out a b r
refused_words law words f p q src out a b r is has there h =
    let P : ℕ → Type 0 = λ n. Refuses n a b r in
    record { source = refl; out = refl; refuses = subst P (one_place law words p q (fault_breaks words f p is has) there) h }

-- where memory ran out nothing is said
pub refused_spent : (place : ℕ) (src : SourceMeaning) (out report : SinkMeaning) → RefusesWords place src src out out report report status.NoMemory
refused_spent place src out report = record {
  source = refl;
  out = refl;
  refuses = unsaid report status.Usage (usage_text place);
}
