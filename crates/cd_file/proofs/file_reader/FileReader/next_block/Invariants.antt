-- Parts that are no block change no history.
use Rattle.std.proofs.Common.{◌≡◌, ◌+◌, ◌≤◌, ℕ, List, length, None, false}
use Rattle.cd_block.specs.declared.block.Block.{Block}
use Rattle.cd_file.specs.FileReading.{StandsFor}
use Rattle.cd_file.proofs.file_reader.FileReader.next_block.Given as goal

abbrev pub invariant-parts : goal.invariant-parts
invariant-parts l = record {
  stands : (fed : List ℕ) (given : List Block) → StandsFor l.fn.self fed given → StandsFor l.self fed given;
  unrefused : l.self.refused ≡ None;
  unspent : l.self.is_spent ≡ false;
  same_end : l.self.ended ≡ l.fn.self.ended;
  same_fed : l.self.fed_count ≡ l.fn.self.fed_count;
  far : l.fn.self.at ≤ l.self.at;
  same_place : l.self.at + length l.self.held ≡ l.fn.self.at + length l.fn.self.held;
}

abbrev pub decreases-parts : goal.decreases-parts
decreases-parts l = length l.self.held
