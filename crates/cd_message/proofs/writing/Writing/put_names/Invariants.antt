use Rattle.std.proofs.Common.{◌≡◌, ℕ, List, ◌≤◌, length}
use Rattle.std.specs.List.{All, concat}
use Rattle.cd_name.specs.Names.{IsName}
use Rattle.cd_message.proofs.NamesInTurn.{NamesLeft}
use Rattle.cd_message.proofs.writing.Writing.put_names.Given as goal

abbrev pub invariant-names : goal.invariant-names
invariant-names l = record {
  short : length l.self.bytes ≤ 65535;
  left : (names : List (List ℕ)) → All IsName names → l.names ≡ concat names → NamesLeft names l.rest l.initial.self l.self;
}

abbrev pub decreases-names : goal.decreases-names
decreases-names l = length l.rest
