use Rattle.std.proofs.Common.{◌≡◌, ◌+◌, drop}
use Rattle.std.proofs.lemmas.List.{take_rest}
use Rattle.cd_pcapng.specs.Options.{padded, option_length}
use Rattle.cd_pcapng.proofs.OptionsRead.{resolution_none, offset_none, resolution_more, offset_more, rest_after}
use Rattle.cd_pcapng.proofs.interface_options.clock_options.Goals as goal

pub returns-in-None-clause-resolution : goal.returns-in-None-clause-resolution
returns-in-None-clause-resolution c = resolution_none _ _ _ _ c.in-None.ensures c.options.invariant.resolution

pub returns-in-None-clause-offset : goal.returns-in-None-clause-offset
returns-in-None-clause-offset c = offset_none _ _ _ _ c.in-None.ensures c.options.invariant.offset

pub options-preserved : goal.options-preserved
options-preserved c =
    let next : drop c.min.result c.options.rest.now ≡ drop (4 + padded (option_length c.args.order c.options.rest.now)) c.options.rest.now =
    rest_after c.args.order c.options.rest.now _ c.padded-size.result c.min.result c.in-Some.ensures.3 c.padded-size.ensures c.min.ensures in
    rw (take_rest, next)
    (record {
      resolution = resolution_more _ _ _ _ _ _ c.in-Some.ensures.0 c.in-Some.ensures.1 c.next_clock-clock.ensures.resolution c.options.invariant.resolution;
      offset = offset_more _ _ _ _ _ _ c.in-Some.ensures.0 c.in-Some.ensures.1 c.next_clock-clock.ensures.offset c.options.invariant.offset;
    })
