-- A key is met once.
use Rattle.std.proofs.Common.{sym, ◌∙◌}
use Rattle.cd_file.specs.ItemReading.{key_by}
use Rattle.cd_file.proofs.EntriesMet.{value_met, key_repeated}
use Rattle.cd_file.proofs.reading.maps.meet_value.Goals as goal

pub returns-then-is_new : goal.returns-then-is_new
returns-then-is_new g c = λ keys value end keeps is.
    value_met g.T.Table.table (key_by c.args.key) value end c.args.met.now c.meet.new.self keys keeps c.args.fields.now c.read_value.new.fields c.read_value.result
    (sym c.if-is_new.true ∙ c.in-Ok.ensures.is_new) c.in-Ok.ensures.kept (c.read_value.ensures value end is)

pub returns-else-is_new : goal.returns-else-is_new
returns-else-is_new g c = λ keys value end keeps is.
    rw c.repeated.ensures
    (key_repeated g.T.Table.table (key_by c.args.key) value end c.args.met.now c.meet.new.self keys keeps c.args.fields.now c.args.fields.now (sym c.if-is_new.false ∙ c.in-Ok.ensures.is_new))
