use Rattle.std.proofs.Common.{◌≡◌, [], ◌∷◌, ◌++◌, map, take, if◌then◌else◌}
use Rattle.cd_rebuild.specs.Flags.{has_flag}
use Rattle.cd_rebuild.specs.Messages.{lead_question, question_of}
use Rattle.cd_rebuild.proofs.questions.questions.Given as goal

-- the list so far is the lead question, where there is one, and the further ones so far
abbrev pub invariant-further : goal.invariant-further
invariant-further l =
    l.list.items ≡ (if has_flag l.signature l.has_none then [] else lead_question l.item l.signature ∷ []) ++ map question_of (take l.question-index l.further)
