-- Words by their command: words that begin with it are judged by its language alone.
use Rattle.std.proofs.Common.{◌≡◌, ℕ, ◌<◌, ◌⊎◌, inl, inr, List, length, cond, refl, sym, ap, ◌∙◌, subst}
use Rattle.std.specs.Prelude.{codes}
use Rattle.std.specs.Str.{bytes_eq}
use Rattle.cd_words.specs.declared.command.Command.{Command}
use Rattle.cd_words.specs.declared.command.Command.TheVariants.{Compact, Check, Inspect, Drill}
use Rattle.cd_words.specs.declared.fault.WordsFault.{WordsFault}
use Rattle.cd_words.specs.declared.fault.WordsFault.TheVariants.{Usage, NoMemory}
use Rattle.cd_words.specs.Commands.{SaysCommand, IsLine, HasNoCommand, BreaksRuleAt, HasFault}
use Rattle.cd_words.specs.Commands.BreaksRuleAt.{no_command, after_compact, after_check, after_inspect, after_drill}
use Rattle.cd_words.specs.CommandLines.{Language, HasCommand, HasOptions, BreaksAt, settings_of}
use Rattle.cd_words.specs.Compact.{compact}
use Rattle.cd_words.specs.Drill.{drill}
use Rattle.cd_words.specs.Faults.{HasFaultIn}
use Rattle.cd_words.specs.Laws.{BreaksOnce, LinesOrBreaks, CommandsAreOne}
use Rattle.cd_words.specs.Reading.{reading}
use Rattle.cd_words.proofs.DrillNames.{drill_same_or_not}
use Rattle.cd_words.proofs.LineOrBreak.{IsDecided, LineOrBreak, line_or_break, command_or_not}
use Rattle.cd_words.proofs.OptionNames.{same_or_not}
use Rattle.cd_words.proofs.ReadingNames.{reading_same_or_not}
use Rattle.cd_words.proofs.SaysOrNot.{says_or_not, reading_says_or_not, drill_says_or_not}

-- ---- one command

-- the commands, without their settings
data Kind : Type 0 where
  compacting : Kind
  checking : Kind
  inspecting : Kind
  drilling : Kind

-- the word of a command
abbrev word_of_kind : Kind → List ℕ
word_of_kind compacting = codes "compact"
word_of_kind checking = codes "check"
word_of_kind inspecting = codes "inspect"
word_of_kind drilling = codes "drill"

-- the command whose word this is, if it is the word of one
abbrev kind_of : List ℕ → Kind
kind_of word =
    cond (bytes_eq word (codes "compact")) compacting
    (cond (bytes_eq word (codes "check")) checking
    (cond (bytes_eq word (codes "inspect")) inspecting drilling))

-- the words of the commands differ
kind_is : (kind : Kind) → kind_of (word_of_kind kind) ≡ kind
kind_is compacting = refl
kind_is checking = refl
kind_is inspecting = refl
kind_is drilling = refl

-- so no words begin with two commands
one_kind : (words : List (List ℕ)) (first second : Kind) → HasCommand (word_of_kind first) words → HasCommand (word_of_kind second) words → first ≡ second
one_kind words first second one other = sym (kind_is first) ∙ ap kind_of (sym one.1 ∙ other.1) ∙ kind_is second

-- which command it is
abbrev kind_said : Command → Kind
kind_said (Compact settings) = compacting
kind_said (Check max_input) = checking
kind_said (Inspect max_input) = inspecting
kind_said (Drill settings) = drilling

-- the command with the settings that the words say
abbrev command_said : Kind → List (List ℕ) → Command
command_said compacting words = Compact (settings_of compact words)
command_said checking words = Check (settings_of reading words)
command_said inspecting words = Inspect (settings_of reading words)
command_said drilling words = Drill (settings_of drill words)

-- words that say a command begin with it
begin_with : (words : List (List ℕ)) (command : Command) → SaysCommand words command → HasCommand (word_of_kind (kind_said command)) words
begin_with words (Compact settings) says = says.0.0
begin_with words (Check max_input) says = says.0.0
begin_with words (Inspect max_input) says = says.0.0
begin_with words (Drill settings) says = says.0.0

-- and it has the settings that they say
has_settings : (words : List (List ℕ)) (command : Command) → SaysCommand words command → command ≡ command_said (kind_said command) words
has_settings words (Compact settings) says = ap Compact says.1
has_settings words (Check max_input) says = ap Check says.1
has_settings words (Inspect max_input) says = ap Inspect says.1
has_settings words (Drill settings) says = ap Drill says.1

-- so they say at most one
pub commands_are_one : CommandsAreOne
commands_are_one words first second one other =
    let same : kind_said first ≡ kind_said second = one_kind words (kind_said first) (kind_said second) (begin_with words first one) (begin_with words second other) in
    has_settings words first one ∙ ap (λ kind. command_said kind words) same ∙ sym (has_settings words second other)

-- ---- the faults of a language

-- a fault after `compact`
pub fault_of_compact : (words : List (List ℕ)) (fault : WordsFault) → HasCommand (codes "compact") words → HasFaultIn compact words fault → HasFault words fault
fault_of_compact words (Usage place) has breaks = after_compact place (has, breaks)
fault_of_compact words NoMemory has h = h

-- a fault after `check`
pub fault_of_check : (words : List (List ℕ)) (fault : WordsFault) → HasCommand (codes "check") words → HasFaultIn reading words fault → HasFault words fault
fault_of_check words (Usage place) has breaks = after_check place (has, breaks)
fault_of_check words NoMemory has h = h

-- a fault after `inspect`
pub fault_of_inspect : (words : List (List ℕ)) (fault : WordsFault) → HasCommand (codes "inspect") words → HasFaultIn reading words fault → HasFault words fault
fault_of_inspect words (Usage place) has breaks = after_inspect place (has, breaks)
fault_of_inspect words NoMemory has h = h

-- a fault after `drill`
pub fault_of_drill : (words : List (List ℕ)) (fault : WordsFault) → HasCommand (codes "drill") words → HasFaultIn drill words fault → HasFault words fault
fault_of_drill words (Usage place) has breaks = after_drill place (has, breaks)
fault_of_drill words NoMemory has h = h

-- ---- lines and breaks

-- options of the language of a command stand after it
abbrev OptionsOf : Kind → List (List ℕ) → Type 0
OptionsOf compacting words = HasOptions compact words
OptionsOf checking words = HasOptions reading words
OptionsOf inspecting words = HasOptions reading words
OptionsOf drilling words = HasOptions drill words

-- the words break a rule of the language of a command
abbrev BreaksOf : Kind → List (List ℕ) → ℕ → Type 0
BreaksOf compacting words place = BreaksAt compact words place
BreaksOf checking words place = BreaksAt reading words place
BreaksOf inspecting words place = BreaksAt reading words place
BreaksOf drilling words place = BreaksAt drill words place

-- words that say a command have options of its language
have_options : (words : List (List ℕ)) (command : Command) → SaysCommand words command → OptionsOf (kind_said command) words
have_options words (Compact settings) says = says.0.1
have_options words (Check max_input) says = says.0.1
have_options words (Inspect max_input) says = says.0.1
have_options words (Drill settings) says = says.0.1

-- a line that begins with a command has options of its language
options_of : (words : List (List ℕ)) (kind : Kind) → HasCommand (word_of_kind kind) words → IsLine words → OptionsOf kind words
options_of words kind has line =
    let P : Kind → Type 0 = λ k. OptionsOf k words in
    subst P (one_kind words (kind_said line.0) kind (begin_with words line.0 line.1) has) (have_options words line.0 line.1)

-- words that begin with no command do not begin with one
begin_with_none : (words : List (List ℕ)) → HasNoCommand words → (kind : Kind) → HasCommand (word_of_kind kind) words → ⊥
begin_with_none words none compacting has = none.not_compact has
begin_with_none words none checking has = none.not_check has
begin_with_none words none inspecting has = none.not_inspect has
begin_with_none words none drilling has = none.not_drill has

-- words that begin with a command break the rules of its language
breaks_of : (words : List (List ℕ)) (kind : Kind) → HasCommand (word_of_kind kind) words → (place : ℕ) → BreaksRuleAt words place → BreaksOf kind words place
breaks_of words kind has place breaks = by place breaks
  where
    after : (place : ℕ) (other : Kind) → HasCommand (word_of_kind other) words → BreaksOf other words place → BreaksOf kind words place
    after place other there h =
        let P : Kind → Type 0 = λ k. BreaksOf k words place in
        subst P (one_kind words other kind there has) h

    by : (place : ℕ) → BreaksRuleAt words place → BreaksOf kind words place
    by _ (no_command none) = absurd (begin_with_none words none kind has)
    by _ (after_compact place h) = after place compacting h.0 h.1
    by _ (after_check place h) = after place checking h.0 h.1
    by _ (after_inspect place h) = after place inspecting h.0 h.1
    by _ (after_drill place h) = after place drilling h.0 h.1

-- the words are judged by a language: their lines and breaks are its lines and breaks
record IsJudgedBy {C S : Type 0} (language : Language C S) (words : List (List ℕ)) : Type 0 where
  first : 0 < length words
  line_to : HasOptions language words → IsLine words
  line_from : IsLine words → HasOptions language words
  break_to : (place : ℕ) → BreaksAt language words place → BreaksRuleAt words place
  break_from : (place : ℕ) → BreaksRuleAt words place → BreaksAt language words place

-- words with the command `compact` are judged by its language
by_compact : (words : List (List ℕ)) → HasCommand (codes "compact") words → IsJudgedBy compact words
by_compact words has = record {
  first = has.0;
  line_to = λ options. (Compact (settings_of compact words), ((has, options), refl));
  line_from = options_of words compacting has;
  break_to = λ place breaks. after_compact place (has, breaks);
  break_from = breaks_of words compacting has;
}

-- words with the command `check` are judged by its language
by_check : (words : List (List ℕ)) → HasCommand (codes "check") words → IsJudgedBy reading words
by_check words has = record {
  first = has.0;
  line_to = λ options. (Check (settings_of reading words), ((has, options), refl));
  line_from = options_of words checking has;
  break_to = λ place breaks. after_check place (has, breaks);
  break_from = breaks_of words checking has;
}

-- words with the command `inspect` are judged by its language
by_inspect : (words : List (List ℕ)) → HasCommand (codes "inspect") words → IsJudgedBy reading words
by_inspect words has = record {
  first = has.0;
  line_to = λ options. (Inspect (settings_of reading words), ((has, options), refl));
  line_from = options_of words inspecting has;
  break_to = λ place breaks. after_inspect place (has, breaks);
  break_from = breaks_of words inspecting has;
}

-- words with the command `drill` are judged by its language
by_drill : (words : List (List ℕ)) → HasCommand (codes "drill") words → IsJudgedBy drill words
by_drill words has = record {
  first = has.0;
  line_to = λ options. (Drill (settings_of drill words), ((has, options), refl));
  line_from = options_of words drilling has;
  break_to = λ place breaks. after_drill place (has, breaks);
  break_from = breaks_of words drilling has;
}

-- words are a command line and break no rule, or break a rule at exactly one place
abbrev Judged : List (List ℕ) → Type 0
Judged words = (IsLine words × ((place : ℕ) → ¬ (BreaksRuleAt words place))) ⊎ ((place : ℕ) × BreaksOnce words place)

-- what a language says of words that are judged by it
judged : {C S : Type 0} (language : Language C S) (words : List (List ℕ)) → IsDecided language → IsJudgedBy language words → Judged words
judged language words decided by = from (line_or_break language decided words by.first)
  where
    from : LineOrBreak language words → Judged words
    from (inl whole) = inl (by.line_to whole.0, λ place breaks. whole.1 place (by.break_from place breaks))
    from (inr broken) = inr (
      broken.0,
      record {
        here = by.break_to broken.0 broken.1.here;
        only = λ other there. broken.1.only other (by.break_from other there);
        outside = λ line. broken.1.outside (by.line_from line);
      },
    )

-- words without a command break the first rule
no_command_breaks : (words : List (List ℕ)) → HasNoCommand words → BreaksOnce words 0
no_command_breaks words none = record {
  here = no_command none;
  only = only;
  outside = λ line. begin_with_none words none (kind_said line.0) (begin_with words line.0 line.1);
}
  where
    only : (other : ℕ) → BreaksRuleAt words other → other ≡ 0
    only _ (no_command other) = refl
    only _ (after_compact place h) = absurd (none.not_compact h.0)
    only _ (after_check place h) = absurd (none.not_check h.0)
    only _ (after_inspect place h) = absurd (none.not_inspect h.0)
    only _ (after_drill place h) = absurd (none.not_drill h.0)

-- each language is decided
compact_decided : IsDecided compact
compact_decided = record { says = says_or_not; same = same_or_not }

reading_decided : IsDecided reading
reading_decided = record { says = reading_says_or_not; same = reading_same_or_not }

drill_decided : IsDecided drill
drill_decided = record { says = drill_says_or_not; same = drill_same_or_not }

-- the words begin with a command or not
abbrev BeginOrNot : List ℕ → List (List ℕ) → Type 0
BeginOrNot command words = HasCommand command words ⊎ ¬ (HasCommand command words)

-- all words are a command line or break a rule at one place
pub lines_or_breaks : LinesOrBreaks
lines_or_breaks words =
    by (command_or_not (codes "compact") words) (command_or_not (codes "check") words)
    (command_or_not (codes "inspect") words) (command_or_not (codes "drill") words)
  where
    by : BeginOrNot (codes "compact") words → BeginOrNot (codes "check") words → BeginOrNot (codes "inspect") words → BeginOrNot (codes "drill") words → Judged words
    by (inl has) b c d = judged compact words compact_decided (by_compact words has)
    by (inr a) (inl has) c d = judged reading words reading_decided (by_check words has)
    by (inr a) (inr b) (inl has) d = judged reading words reading_decided (by_inspect words has)
    by (inr a) (inr b) (inr c) (inl has) = judged drill words drill_decided (by_drill words has)
    by (inr a) (inr b) (inr c) (inr d) = inr (0, no_command_breaks words (record { not_compact = a; not_check = b; not_inspect = c; not_drill = d }))
