use Rattle.std.proofs.Common.{◌≡◌, ℕ, ◌<◌, ltb}
use Rattle.std.specs.List.{list_any}
use Rattle.cd_hints.specs.Listing.{listed_below}
use Rattle.cd_hints.proofs.Reach.{reaches_from_below}
use Rattle.cd_hints.proofs.settings.listing.numbers_below.Given as goal

abbrev pub invariant-loop-number : goal.invariant-loop-number
invariant-loop-number l = record {
  reach : (n : ℕ) → n < l.limit → ltb n l.reach ≡ list_any (reaches_from_below l.number n) l.parts;
  numbers : l.numbers.items ≡ listed_below l.number l.parts;
}
