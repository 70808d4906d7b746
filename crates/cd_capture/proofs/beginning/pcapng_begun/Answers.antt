use Rattle.std.proofs.Common.{arith}
use Rattle.cd_capture.proofs.Standing.{nothing_ready}
use Rattle.cd_capture.proofs.beginning.pcapng_begun.Goals as goal

pub returns-clause-room : goal.returns-clause-room
returns-clause-room c =
    let none = nothing_ready _ c.new-reader.ensures.history in
    let one = c.in_ok-feed_pcapng.ensures.place in
    let two = c.in_ok-feed_pcapng-2.ensures.place in
    (omega (arith, none, one.packets, two.packets), two.few)
