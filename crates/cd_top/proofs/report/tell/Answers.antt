use Rattle.cd_top.specs.declared.status.Status.TheVariants as status
use Rattle.cd_top.proofs.Mapping.{memory_stops, write_stops}
use Rattle.cd_top.proofs.Reporting.{told_front_of, no_failed_write, outranks_stopped}
use Rattle.cd_top.proofs.report.tell.Goals as goal

pub returns-in-Ok-clause-write_fault : goal.returns-in-Ok-clause-write_fault
returns-in-Ok-clause-write_fault g c = λ is. absurd (no_failed_write c.args.status c.requires is)

pub returns-in-Err-Failed-clause-tells : goal.returns-in-Err-Failed-clause-tells
returns-in-Err-Failed-clause-tells g c = told_front_of _ _ status.WriteFault c.args.status _ c.args.text.now c.as_bytes.ensures.value c.in-Err-Failed.ensures.bytes write_stops

pub returns-in-Err-Failed-clause-outranks : goal.returns-in-Err-Failed-clause-outranks
returns-in-Err-Failed-clause-outranks g c = outranks_stopped _ _ status.WriteFault write_stops

pub returns-in-Err-NoMemory-clause-tells : goal.returns-in-Err-NoMemory-clause-tells
returns-in-Err-NoMemory-clause-tells g c = told_front_of _ _ status.NoMemory c.args.status _ c.args.text.now c.as_bytes.ensures.value c.in-Err-NoMemory.ensures.bytes memory_stops

pub returns-in-Err-NoMemory-clause-outranks : goal.returns-in-Err-NoMemory-clause-outranks
returns-in-Err-NoMemory-clause-outranks g c = outranks_stopped _ _ status.NoMemory memory_stops
