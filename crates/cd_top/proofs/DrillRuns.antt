-- What a run answers whose words say `drill`: it reads nothing, and is done unless it is stopped.
use Rattle.std.proofs.Common.{◌≡◌, List, ℕ, subst}
use Rattle.cd_engine.specs.declared.ended.Ended.TheVariants as ended
use Rattle.cd_words.specs.Commands.{SaysCommand, IsLine}
use Rattle.cd_words.specs.Laws.{CommandsAreOne}
use Rattle.cd_words.specs.declared.command.Command.{Command}
use Rattle.cd_words.specs.declared.command.Command.TheVariants.{Drill}
use Rattle.cd_words.specs.declared.drill.DrillSettings.{DrillSettings}
use Rattle.cd_top.specs.Run.{ReadsInput}
use Rattle.cd_top.specs.Statuses.{EndsAs, ComesExactly}
use Rattle.cd_top.specs.declared.status.Status.{Status}
use Rattle.cd_top.specs.declared.status.Status.TheVariants as status
use Rattle.cd_top.proofs.Mapping.{ends_only}

-- words that say a drill say no command that reads
pub drill_reads_none : CommandsAreOne → (words : List (List ℕ)) (settings : DrillSettings) (c : Command) → SaysCommand words (Drill settings) → SaysCommand words c →
    ReadsInput c → ⊥
drill_reads_none one words settings c said says reads =
    let P : Command → Type 0 = λ d. ReadsInput d in
    subst P (one words c (Drill settings) says said) reads

-- they say these settings
pub drill_same : CommandsAreOne → (words : List (List ℕ)) (first second : DrillSettings) → SaysCommand words (Drill first) → SaysCommand words (Drill second) → first ≡ second
drill_same one words first second said says = inner first second (one words (Drill first) (Drill second) said says)
  where
    inner : (a b : DrillSettings) → Drill a ≡ Drill b → a ≡ b
    inner a b same = cc

-- words that say a command are a command line, and the run does not say else
pub line_comes : (words : List (List ℕ)) (c : Command) (r : Status) → SaysCommand words c → (r ≡ status.Usage → ⊥) → ComesExactly r status.Usage (¬ (IsLine words))
line_comes words c r says other = record { only = λ same. absurd (other same); always = λ none. absurd (none (c, says)) }

-- no read fails
pub no_read_fault : (r : Status) → EndsAs r status.Done → r ≡ status.ReadFault → ⊥
no_read_fault r ends is = cc_end (ends_only r ended.Done ended.ReadFault ends is (λ halt. halt))
  where
    cc_end : ended.Done ≡ ended.ReadFault → ⊥
    cc_end same = cc
