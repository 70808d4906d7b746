-- That the names of a kept block are names without pointers (RFC 1035 3.1), as its type keeps them. A list of bytes
-- alone need not be one.
use Rattle.std.specs.Prelude.{List, IfSome}
use Rattle.std.specs.List.{AllByRecursion}
use Rattle.cd_name.specs.Names.{IsName}
use Rattle.cd_block.specs.declared.kept.KeptQuestion.{KeptQuestion}
use Rattle.cd_block.specs.declared.kept.KeptRr.{KeptRr}
use Rattle.cd_block.specs.declared.kept.KeptLists.{KeptLists}
use Rattle.cd_block.specs.declared.kept.KeptItem.{KeptItem}
use Rattle.cd_block.specs.declared.kept.KeptBlock.{KeptBlock}

-- the names of some questions
abbrev pub QuestionsNamed : List KeptQuestion → Type 0
QuestionsNamed questions = AllByRecursion (λ q. IsName q.name) questions

-- the names of some resource records
abbrev pub RecordsNamed : List KeptRr → Type 0
RecordsNamed records = AllByRecursion (λ r. IsName r.name) records

-- the names of an extended part
pub record ListsNamed (l : KeptLists) : Type 0 where
  pub questions : QuestionsNamed l.question
  pub answers : RecordsNamed l.answer
  pub authorities : RecordsNamed l.authority
  pub additionals : RecordsNamed l.additional

-- the names of an item
pub record ItemNamed (i : KeptItem) : Type 0 where
  pub lead : IfSome i.query_name IsName
  pub query : ListsNamed i.query_extended
  pub response : ListsNamed i.response_extended

-- the names of a block
abbrev pub BlockNamed : KeptBlock → Type 0
BlockNamed b = AllByRecursion ItemNamed b.items
