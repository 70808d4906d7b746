-- The rules give exactly one answer at each offset: what is read there.
use Rattle.std.proofs.Common.{◌≡◌, ℕ, List, refl, sym, Result, Ok, Err}
use Rattle.cd_name.specs.Names.{name_at}
use Rattle.cd_name.specs.Rules.{RulesGive, RulesGiveOne}
use Rattle.cd_name.specs.declared.fault.NameWhy.{NameWhy}
use Rattle.cd_name.proofs.Rules.{read_by_rules, broken_by_rules}

-- the rules give what is read
read_is_given : (p : List ℕ) (at : ℕ) (answer : Result (List ℕ × ℕ) NameWhy) → name_at p at ≡ answer → RulesGive p at answer
read_is_given p at (Ok r) e = (read_by_rules p at r.0 r.1).0 e
read_is_given p at (Err why) e = (broken_by_rules p at why).0 e

-- what the rules give is read
given_is_read : (p : List ℕ) (at : ℕ) (answer : Result (List ℕ × ℕ) NameWhy) → RulesGive p at answer → answer ≡ name_at p at
given_is_read p at (Ok r) g = sym ((read_by_rules p at r.0 r.1).1 g)
given_is_read p at (Err why) g = sym ((broken_by_rules p at why).1 g)

-- exactly one answer
pub rules_give_one : RulesGiveOne
rules_give_one p at = (name_at p at, read_is_given p at (name_at p at) refl, given_is_read p at)
