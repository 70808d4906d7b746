use Rattle.std.proofs.Common.{◌≡◌, length}
use Rattle.cd_pcapng.specs.Options.{options, resolution_after, offset_after, resolution_of, offset_of}
use Rattle.cd_pcapng.proofs.interface_options.clock_options.Given as goal

abbrev pub invariant-options : goal.invariant-options
invariant-options l = record {
  resolution : resolution_after l.clock.resolution (options l.order 0 l.rest) ≡ resolution_of l.order l.bytes;
  offset : offset_after l.order l.clock.offset (options l.order 0 l.rest) ≡ offset_of l.order l.bytes;
}

abbrev pub decreases-options : goal.decreases-options
decreases-options l = length l.rest
