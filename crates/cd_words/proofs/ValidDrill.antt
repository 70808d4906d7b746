-- Settings of `drill` stay valid where an option has a number that it may say.
use Rattle.std.proofs.Common.{ℕ, lit≤}
use Rattle.cd_words.specs.declared.drill.DrillSettings.{DrillSettings}
use Rattle.cd_words.specs.declared.drill_option.DrillOption.{DrillOption}
use Rattle.cd_words.specs.declared.drill_option.DrillOption.TheVariants.{Count, Seed, Workers}
use Rattle.cd_words.specs.Drill.{drill_range, drill_defaults, drill_with_number, IsValidDrill}
use Rattle.cd_words.specs.Numbers.{IsIn}

-- an option has a number that it may say
pub valid_drill_number : (option : DrillOption) (n : ℕ) (s : DrillSettings) → IsIn (drill_range option) n → IsValidDrill s → IsValidDrill (drill_with_number option n s)
valid_drill_number Count n s said v = record { count = said; seed = v.seed; workers = v.workers }
valid_drill_number Seed n s said v = record { count = v.count; seed = said; workers = v.workers }
valid_drill_number Workers n s said v = record { count = v.count; seed = v.seed; workers = said }

-- the settings where no option is given
pub valid_drill_defaults : IsValidDrill drill_defaults
valid_drill_defaults = record {
  count = record { least = lit≤ tt; most = lit≤ tt };
  seed = record { least = lit≤ tt; most = lit≤ tt };
  workers = record { least = lit≤ tt; most = lit≤ tt };
}
