-- What a run answers to words that are no command line, and its report on them.
use Rattle.std.specs.Prelude.{◌≡◌, ℕ, List, [], ◌∷◌, ◌++◌, codes}
use Rattle.std.specs.Fmt.{decimal}
use Rattle.cd_ports.specs.Reading.{SourceMeaning}
use Rattle.cd_ports.specs.Writing.{SinkMeaning}
use Rattle.cd_top.specs.declared.status.Status.{Status}
use Rattle.cd_top.specs.declared.status.Status.TheVariants as status
use Rattle.cd_top.specs.Reports.{TellsReport}

-- the report on words that break a rule at this place
abbrev pub usage_text : ℕ → List ℕ
usage_text place = codes "usage " ++ decimal place ++ 10 ∷ []

-- the place is reported
abbrev pub Refuses : ℕ → SinkMeaning → SinkMeaning → Status → Type 0
Refuses place report_old report_new result = TellsReport report_old report_new result status.Usage (usage_text place)

-- The words break a rule at this place: nothing is read or written but the report, which says the place.
pub record RefusesWords (place : ℕ) (src_old src_new : SourceMeaning)
    (out_old out_new report_old report_new : SinkMeaning) (result : Status) : Type 0 where
  pub source : src_new ≡ src_old
  pub out : out_new ≡ out_old
  pub refuses : Refuses place report_old report_new result
