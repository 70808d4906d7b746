-- The string is the one that its head tells.
use Rattle.std.specs.Prelude.{pos}
use Rattle.cd_file.proofs.StringsSeen.{string_seen}
use Rattle.cd_file.proofs.reading.strings.byte_string.Goals as goal

pub returns : goal.returns
returns c = λ depth item end is.
    string_seen (pos c.args.key) item end c.head_at-head.result.next depth c.args.bytes.now c.string_of.result c.head_at-head.result.kind c.head_at-head.result.argument
    (c.head_at-head.ensures depth item end is) c.string_of.ensures
