use Rattle.bridge_core.proofs.Changes.{unanswered, unchanged}
use Rattle.bridge_core.proofs.core_state.taking.change_by.Goals as goal

pub returns-then-no_wait-clause-path : goal.returns-then-no_wait-clause-path
returns-then-no_wait-clause-path c s = unanswered _ _ _ _ _ _ _ _ _ s c.in-ExchangeDeclare.is c.if-no_wait.true

pub returns-in_default-clause-path : goal.returns-in_default-clause-path
returns-in_default-clause-path c s =
    unchanged c.args.method.now c.requires c.in_default.not-ChannelFlow c.in_default.not-ExchangeDeclare
    c.in_default.not-ConfirmSelect c.in_default.not-BasicQos c.in_default.not-BasicAck c.in_default.not-BasicReject c.in_default.not-BasicNack
    c.in_default.not-BasicRecover c.in_default.not-BasicRecoverAsync c.in_default.not-ChannelClose s
