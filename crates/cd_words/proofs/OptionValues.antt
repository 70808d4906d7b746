-- Each option has a value that a word says.
use Rattle.std.proofs.Common.{lit≤, inl, refl}
use Rattle.std.specs.Prelude.{codes}
use Rattle.cd_hints.specs.declared.settings.options.NumberOption.TheVariants.{Workers, Ticks, QueryTimeout, SkewTimeout, Window, WindowBytes, BlockItems, BlockBytes, QrHints, SigHints, RrHints, OtherHints, ClientPrefix4, ClientPrefix6, ServerPrefix4, ServerPrefix6, Port, MaxInput}
use Rattle.cd_hints.specs.declared.settings.options.ListOption.TheVariants.{Opcodes, RrTypes}
use Rattle.cd_words.specs.declared.drill_option.DrillOption.TheVariants as drilling
use Rattle.cd_words.specs.declared.reading_option.ReadingOption.TheVariants as of_file
use Rattle.cd_words.specs.declared.compact_option.CompactOption.TheVariants.{Number, Parts}
use Rattle.cd_words.specs.Numbers.{number_of}
use Rattle.cd_words.specs.Parts.{interval_of, part_of, parts_of}
use Rattle.cd_words.specs.Compact.{compact}
use Rattle.cd_words.specs.Drill.{drill}
use Rattle.cd_words.specs.Laws.{OptionsHaveValues}
use Rattle.cd_words.specs.Reading.{reading}

-- the least one, or a list of it alone
pub options_valued : OptionsHaveValues compact
unfolding number_of parts_of part_of interval_of
options_valued (Number Workers) = (codes "0", record { least = lit≤ tt; most = lit≤ tt; allowed = tt })
options_valued (Number Ticks) = (codes "1000000", record { least = lit≤ tt; most = lit≤ tt; allowed = inl refl })
options_valued (Number QueryTimeout) = (codes "0", record { least = lit≤ tt; most = lit≤ tt; allowed = tt })
options_valued (Number SkewTimeout) = (codes "0", record { least = lit≤ tt; most = lit≤ tt; allowed = tt })
options_valued (Number Window) = (codes "1", record { least = lit≤ tt; most = lit≤ tt; allowed = tt })
options_valued (Number WindowBytes) = (codes "16777216", record { least = lit≤ tt; most = lit≤ tt; allowed = tt })
options_valued (Number BlockItems) = (codes "1", record { least = lit≤ tt; most = lit≤ tt; allowed = tt })
options_valued (Number BlockBytes) = (codes "8388608", record { least = lit≤ tt; most = lit≤ tt; allowed = tt })
options_valued (Number QrHints) = (codes "0", record { least = lit≤ tt; most = lit≤ tt; allowed = refl })
options_valued (Number SigHints) = (codes "0", record { least = lit≤ tt; most = lit≤ tt; allowed = refl })
options_valued (Number RrHints) = (codes "0", record { least = lit≤ tt; most = lit≤ tt; allowed = tt })
options_valued (Number OtherHints) = (codes "0", record { least = lit≤ tt; most = lit≤ tt; allowed = tt })
options_valued (Number ClientPrefix4) = (codes "1", record { least = lit≤ tt; most = lit≤ tt; allowed = tt })
options_valued (Number ClientPrefix6) = (codes "1", record { least = lit≤ tt; most = lit≤ tt; allowed = tt })
options_valued (Number ServerPrefix4) = (codes "1", record { least = lit≤ tt; most = lit≤ tt; allowed = tt })
options_valued (Number ServerPrefix6) = (codes "1", record { least = lit≤ tt; most = lit≤ tt; allowed = tt })
options_valued (Number Port) = (codes "1", record { least = lit≤ tt; most = lit≤ tt; allowed = tt })
options_valued (Number MaxInput) = (codes "0", record { least = lit≤ tt; most = lit≤ tt; allowed = tt })
options_valued (Parts Opcodes) = (codes "0", refl)
options_valued (Parts RrTypes) = (codes "0", refl)

-- the least one
pub reading_options_valued : OptionsHaveValues reading
unfolding number_of
reading_options_valued of_file.MaxInput = (codes "0", record { least = lit≤ tt; most = lit≤ tt; allowed = tt })

-- the least one
pub drill_options_valued : OptionsHaveValues drill
unfolding number_of
drill_options_valued drilling.Count = (codes "1", record { least = lit≤ tt; most = lit≤ tt })
drill_options_valued drilling.Seed = (codes "0", record { least = lit≤ tt; most = lit≤ tt })
drill_options_valued drilling.Workers = (codes "0", record { least = lit≤ tt; most = lit≤ tt })
