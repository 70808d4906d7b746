-- The array that is read is put into the table.
use Rattle.std.specs.Prelude.{pos}
use Rattle.cd_file.specs.Kinds.{array_of}
use Rattle.cd_file.proofs.FieldsPut.{put_in}
use Rattle.cd_file.proofs.reading.block_tables.read_table.Goals as goal

pub returns : goal.returns
returns g c = λ item end stands.
    put_in c.put.new.place c.put.result (array_of g.K.Kind.kind (pos c.args.key) item) end c.array_of.result (c.array_of.ensures item end stands) c.put.ensures
