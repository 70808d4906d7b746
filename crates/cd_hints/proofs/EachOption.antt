-- What holds of each number option in turn holds of each.
use Rattle.std.proofs.Common.{◌≡◌, ◌≢◌, ℕ, List, [], ◌∷◌, arith}
use Rattle.std.specs.List.{All}
use Rattle.std.specs.Option.{MatchOption}
use Rattle.std.specs.Prelude.{Option, None, Some}
use Rattle.cd_hints.specs.declared.settings.options.NumberOption.{NumberOption}
use Rattle.cd_hints.specs.declared.settings.options.NumberOption.TheVariants.{Workers, Ticks, QueryTimeout, SkewTimeout, Window, WindowBytes, BlockItems, BlockBytes, QrHints, SigHints, RrHints, OtherHints, ClientPrefix4, ClientPrefix6, ServerPrefix4, ServerPrefix6, Port, MaxInput}
use Rattle.cd_hints.specs.Options.{name_of}

-- each number option
abbrev pub number_options : List NumberOption
number_options = Workers ∷ Ticks ∷ QueryTimeout ∷ SkewTimeout ∷ Window ∷ WindowBytes ∷ BlockItems ∷ BlockBytes ∷ QrHints ∷ SigHints ∷ RrHints ∷
    OtherHints ∷ ClientPrefix4 ∷ ClientPrefix6 ∷ ServerPrefix4 ∷ ServerPrefix6 ∷ Port ∷ MaxInput ∷ []

-- a name that none of them has is that of no option
pub none_is_named : (name : List ℕ) → All (λ option. name_of option ≢ name) number_options → (option : NumberOption) → name_of option ≢ name
none_is_named name none Workers = none 0 Workers (omega arith)
none_is_named name none Ticks = none 1 Workers (omega arith)
none_is_named name none QueryTimeout = none 2 Workers (omega arith)
none_is_named name none SkewTimeout = none 3 Workers (omega arith)
none_is_named name none Window = none 4 Workers (omega arith)
none_is_named name none WindowBytes = none 5 Workers (omega arith)
none_is_named name none BlockItems = none 6 Workers (omega arith)
none_is_named name none BlockBytes = none 7 Workers (omega arith)
none_is_named name none QrHints = none 8 Workers (omega arith)
none_is_named name none SigHints = none 9 Workers (omega arith)
none_is_named name none RrHints = none 10 Workers (omega arith)
none_is_named name none OtherHints = none 11 Workers (omega arith)
none_is_named name none ClientPrefix4 = none 12 Workers (omega arith)
none_is_named name none ClientPrefix6 = none 13 Workers (omega arith)
none_is_named name none ServerPrefix4 = none 14 Workers (omega arith)
none_is_named name none ServerPrefix6 = none 15 Workers (omega arith)
none_is_named name none Port = none 16 Workers (omega arith)
none_is_named name none MaxInput = none 17 Workers (omega arith)

-- the answer on each number option in turn is the answer on all
pub named_in_turn : (name : List ℕ) (found : Option NumberOption) →
    MatchOption found (All (λ option. name_of option ≢ name) number_options) (λ option. name_of option ≡ name) →
    MatchOption found ((option : NumberOption) → name_of option ≢ name) (λ option. name_of option ≡ name)
named_in_turn name None none = none_is_named name none
named_in_turn name (Some option) named = named
