use Rattle.cd_file.proofs.Numbers.{two_written}
use Rattle.cd_file.proofs.block.StampSpelled.push.Goals as goal

pub returns : goal.returns
returns c =
    two_written _ _ _ _ c.args.self.now.seconds c.args.self.now.ticks
    c.in_ok-push_array_head.ensures.ok c.in_ok-push_unsigned.ensures.ok c.in_ok-push_unsigned-2.ensures.ok
