use Rattle.std.proofs.Common.{arith}
use Rattle.bridge_core.proofs.Passed.{passed_less, passed_stay}
use Rattle.bridge_core.proofs.above.Above.close_up.Goals as goal

pub returns-then-self-place : goal.returns-then-self-place
returns-then-self-place c us there known =
    passed_stay us c.args.unit.now c.args.place c.args.self.now.passed c.args.self.now.channels there c.if-self-place.true known

pub returns-then-from-lt-CHANNELS : goal.returns-then-from-lt-CHANNELS
returns-then-from-lt-CHANNELS c us there known =
    passed_less us c.args.unit.now c.args.place c.args.self.now.passed c.args.self.now.channels there
    (omega (arith, c.if-from-lt-CHANNELS.true, c.from.ensures, c.channel_of.ensures)) (omega (arith, c.if-self-place.false)) known
