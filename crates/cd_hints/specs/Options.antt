-- The options of `compact`: one definition a column of their table.
use Rattle.std.specs.Prelude.{◌≡◌, ℕ, ◌≤◌, ◌⊎◌, ⊤, List, [], ◌∷◌, codes}
use Rattle.std.specs.Int.{bit_at}
use Rattle.cd_hints.specs.declared.settings.interval.Interval.{Interval}
use Rattle.cd_hints.specs.declared.settings.options.NumberOption.{NumberOption}
use Rattle.cd_hints.specs.declared.settings.options.NumberOption.TheVariants.{Workers, Ticks, QueryTimeout, SkewTimeout}
use Rattle.cd_hints.specs.declared.settings.options.NumberOption.TheVariants.{Window, WindowBytes, BlockItems}
use Rattle.cd_hints.specs.declared.settings.options.NumberOption.TheVariants.{BlockBytes, QrHints, SigHints, RrHints}
use Rattle.cd_hints.specs.declared.settings.options.NumberOption.TheVariants.{OtherHints, ClientPrefix4, ClientPrefix6}
use Rattle.cd_hints.specs.declared.settings.options.NumberOption.TheVariants.{ServerPrefix4, ServerPrefix6, Port}
use Rattle.cd_hints.specs.declared.settings.options.NumberOption.TheVariants.{MaxInput}
use Rattle.cd_hints.specs.declared.settings.options.ListOption.{ListOption}
use Rattle.cd_hints.specs.declared.settings.options.ListOption.TheVariants.{Opcodes, RrTypes}

-- the numbers from the first to the second
abbrev pub between : ℕ → ℕ → Interval
between least most = record { least = least; most = most }

-- the name of an option on the command line
abbrev pub name_of : NumberOption → List ℕ
name_of Workers = codes "workers"
name_of Ticks = codes "ticks"
name_of QueryTimeout = codes "query-timeout"
name_of SkewTimeout = codes "skew-timeout"
name_of Window = codes "window"
name_of WindowBytes = codes "window-bytes"
name_of BlockItems = codes "block-items"
name_of BlockBytes = codes "block-bytes"
name_of QrHints = codes "qr-hints"
name_of SigHints = codes "sig-hints"
name_of RrHints = codes "rr-hints"
name_of OtherHints = codes "other-hints"
name_of ClientPrefix4 = codes "client-prefix4"
name_of ClientPrefix6 = codes "client-prefix6"
name_of ServerPrefix4 = codes "server-prefix4"
name_of ServerPrefix6 = codes "server-prefix6"
name_of Port = codes "port"
name_of MaxInput = codes "max-input"

-- the least and the greatest number that an option may say
abbrev pub option_range : NumberOption → Interval
option_range Workers = between 0 64
option_range Ticks = between 1000000 1000000000
option_range QueryTimeout = between 0 3600000
option_range SkewTimeout = between 0 1000000
option_range Window = between 1 1048576
option_range WindowBytes = between 16777216 1073741824
option_range BlockItems = between 1 100000
option_range BlockBytes = between 8388608 67108864
option_range QrHints = between 0 262143
option_range SigHints = between 0 131071
option_range RrHints = between 0 3
option_range OtherHints = between 0 1
option_range ClientPrefix4 = between 1 32
option_range ClientPrefix6 = between 1 128
option_range ServerPrefix4 = between 1 32
option_range ServerPrefix6 = between 1 128
option_range Port = between 1 65535
option_range MaxInput = between 0 281474976710656

-- what holds where an option is not given
abbrev pub option_default : NumberOption → ℕ
option_default Workers = 0
option_default Ticks = 1000000
option_default QueryTimeout = 5000
option_default SkewTimeout = 10
option_default Window = 262144
option_default WindowBytes = 268435456
option_default BlockItems = 10000
option_default BlockBytes = 33554432
option_default QrHints = 261119
option_default SigHints = 131063
option_default RrHints = 3
option_default OtherHints = 1
option_default ClientPrefix4 = 32
option_default ClientPrefix6 = 128
option_default ServerPrefix4 = 32
option_default ServerPrefix6 = 128
option_default Port = 53
option_default MaxInput = 281474976710656

-- what its range does not say of a number: ticks are microseconds or nanoseconds, and two hints have a bit that is
-- never set
abbrev pub IsAllowed : NumberOption → ℕ → Type 0
IsAllowed Ticks n = (n ≡ 1000000) ⊎ (n ≡ 1000000000)
IsAllowed QrHints n = bit_at n 10 ≡ 0
IsAllowed SigHints n = bit_at n 3 ≡ 0
IsAllowed _ n = ⊤

-- the option may say this number
pub record Admits (option : NumberOption) (n : ℕ) : Type 0 where
  pub least : (option_range option).least ≤ n
  pub most : n ≤ (option_range option).most
  pub allowed : IsAllowed option n

-- the name of an option with a list
abbrev pub list_name_of : ListOption → List ℕ
list_name_of Opcodes = codes "opcodes"
list_name_of RrTypes = codes "rr-types"

-- the numbers that may stand in its list
abbrev pub list_range : ListOption → Interval
list_range Opcodes = between 0 15
list_range RrTypes = between 0 65535

-- the parts of its list where it is not given
abbrev pub list_default : ListOption → List Interval
list_default Opcodes = between 0 6 ∷ []
list_default RrTypes = between 1 260 ∷ between 32768 32769 ∷ []
