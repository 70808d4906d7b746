use Rattle.std.proofs.Common.{◌++◌, []}
use Rattle.cd_pcapng.specs.Reading.{HasRead}
use Rattle.cd_pcapng.proofs.Standing.{held_more, unrefused_read}
use Rattle.cd_pcapng.proofs.pcapng_reader.PcapngReader.take_chunk.Goals as goal

pub returns-in-Ok-clause-history : goal.returns-in-Ok-clause-history
returns-in-Ok-clause-history c = λ fed given h.
    let held : HasRead c.hold.new.self (fed ++ c.args.chunk.now) [] given =
    rw c.in_ok-hold.ensures.ok (held_more c.args.self.now c.args.chunk.now fed given (unrefused_read c.args.self.now fed given c.requires.sound h)) in
    c.in-Ok.ensures.history (fed ++ c.args.chunk.now) given held

pub returns-in-Ok-clause-place : goal.returns-in-Ok-clause-place
returns-in-Ok-clause-place c =
    let room = rw c.in_ok-hold.ensures.ok at c.in-Ok.ensures.place in
    record { packets = room.packets; few = room.few }
