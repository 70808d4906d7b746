-- The rules give exactly one answer for each payload: what is read.
use Rattle.std.proofs.Common.{◌≡◌, ℕ, List, refl, sym, Result, Ok, Err}
use Rattle.cd_message.specs.declared.message.MsgWhy.{MsgWhy}
use Rattle.cd_message.specs.declared.message.Message.{Message}
use Rattle.cd_message.specs.Messages.{message_of}
use Rattle.cd_message.specs.Rules.{RulesGive, RulesGiveOne}
use Rattle.cd_message.proofs.MessagesByRules.{spelled_by_rules, broken_by_rules}

-- the rules give what is read
read_is_given : (p : List ℕ) (answer : Result (Message × ℕ) MsgWhy) → message_of p ≡ answer → RulesGive p answer
read_is_given p (Ok x) e = (spelled_by_rules p x.0 x.1).0 e
read_is_given p (Err why) e = (broken_by_rules p why).0 e

-- what the rules give is read
given_is_read : (p : List ℕ) (answer : Result (Message × ℕ) MsgWhy) → RulesGive p answer → answer ≡ message_of p
given_is_read p (Ok x) g = sym ((spelled_by_rules p x.0 x.1).1 g)
given_is_read p (Err why) g = sym ((broken_by_rules p why).1 g)

-- exactly one answer
pub rules_give_one : RulesGiveOne
rules_give_one p = (message_of p, read_is_given p (message_of p) refl, given_is_read p)
