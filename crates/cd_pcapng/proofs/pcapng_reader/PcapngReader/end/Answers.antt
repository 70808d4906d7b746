use Rattle.std.proofs.Common.{◌∙◌, Option, ap, sym, drop}
use Rattle.cd_packet.specs.declared.capture.BadCapture.{BadCapture}
use Rattle.cd_pcapng.specs.Founds.{section_in}
use Rattle.cd_pcapng.proofs.Standing.{end_after, end_known}
use Rattle.cd_pcapng.proofs.pcapng_reader.PcapngReader.end.Goals as goal

pub returns-in-Some : goal.returns-in-Some
returns-in-Some c =
    rw (← c.self.view_is)
    (λ fed given h.
    ap (λ (o : Option BadCapture). end_after o (section_in c.self.inside.found) (drop c.self.inside.start c.self.inside.bytes.items)) (sym c.in-Some.is)
    ∙ end_known _ fed given h)
