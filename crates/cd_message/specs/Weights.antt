-- What a message weighs, where messages are held back: the sum by which windows and blocks are limited.
use Rattle.std.specs.Prelude.{ℕ, ◌+◌, length}
use Rattle.std.specs.List.{sum_by}
use Rattle.cd_message.specs.declared.message.Question.{Question}
use Rattle.cd_message.specs.declared.message.Rr.{Rr}
use Rattle.cd_message.specs.declared.message.Message.{Message}

-- the weight of a question: its name and 48
abbrev pub question_weight : Question → ℕ
question_weight q = length q.name + 48

-- the weight of a record: its owner, its RDATA and 64
abbrev pub record_weight : Rr → ℕ
record_weight r = length r.owner + length r.rdata + 64

-- the weight of a message: 256, its questions and its records
abbrev pub weight_of : Message → ℕ
weight_of m = 256 + sum_by question_weight m.questions + sum_by record_weight m.answers + sum_by record_weight m.authority + sum_by record_weight m.additional
