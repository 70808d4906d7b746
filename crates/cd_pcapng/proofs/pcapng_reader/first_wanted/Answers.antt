use Rattle.cd_pcapng.proofs.Passing.{first_placed}
use Rattle.cd_pcapng.proofs.pcapng_reader.first_wanted.Goals as goal

pub returns-in-Some : goal.returns-in-Some
returns-in-Some c = λ base h. first_placed base c.args.at c.in-Some.place _ c.args.found.now.ready c.in-Some.ensures h
