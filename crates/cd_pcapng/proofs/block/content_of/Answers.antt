use Rattle.cd_pcapng.specs.Sections.{section_of}
use Rattle.cd_pcapng.proofs.block.content_of.Goals as goal

pub returns-in-SectionHeader-clause-found : goal.returns-in-SectionHeader-clause-found
returns-in-SectionHeader-clause-found c =
    rw c.in-SectionHeader.is (λ before. c.section_content.ensures.found (section_of before c.args.interfaces.now) c.args.at)

pub returns-in-SectionHeader-clause-section : goal.returns-in-SectionHeader-clause-section
returns-in-SectionHeader-clause-section c = λ is. c.section_content.ensures.section

pub returns-in-Interface-clause-found : goal.returns-in-Interface-clause-found
returns-in-Interface-clause-found c = rw c.in-Interface.is (λ before. c.interface_content.ensures before c.args.at)

pub returns-in-EnhancedPacket-clause-found : goal.returns-in-EnhancedPacket-clause-found
returns-in-EnhancedPacket-clause-found c =
    rw c.in-EnhancedPacket.is (λ before. c.enhanced_content.ensures (section_of before c.args.interfaces.now))

pub returns-in-SimplePacket-clause-found : goal.returns-in-SimplePacket-clause-found
returns-in-SimplePacket-clause-found c =
    rw c.in-SimplePacket.is (λ before. c.simple_content.ensures (section_of before c.args.interfaces.now))
