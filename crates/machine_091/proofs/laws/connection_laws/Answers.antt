use Rattle.machine_091.proofs.CallLaws.{limits_hold, channels_hold}
use Rattle.machine_091.proofs.ContentLaws.{open_contents, none_call}
use Rattle.machine_091.proofs.Published.{publishes_last}
use Rattle.machine_091.proofs.StepLaws.{limits_stay, logins_named, refusal_ruled, refusal_closes}
use Rattle.machine_091.proofs.StepLaws.{none_runs, closed_stays}
use Rattle.machine_091.proofs.laws.connection_laws.Goals as goal

pub returns-clause-limits_stay : goal.returns-clause-limits_stay
returns-clause-limits_stay c = limits_stay

pub returns-clause-order : goal.returns-clause-order
returns-clause-order c = refusal_ruled

pub returns-clause-refusals : goal.returns-clause-refusals
returns-clause-refusals c = refusal_closes

pub returns-clause-logins : goal.returns-clause-logins
returns-clause-logins c = logins_named

pub returns-clause-running : goal.returns-clause-running
returns-clause-running c = none_runs

pub returns-clause-closed : goal.returns-clause-closed
returns-clause-closed c = closed_stays

pub returns-clause-limits : goal.returns-clause-limits
returns-clause-limits c = limits_hold

pub returns-clause-channels : goal.returns-clause-channels
returns-clause-channels c = channels_hold

pub returns-clause-on_open : goal.returns-clause-on_open
returns-clause-on_open c = open_contents

pub returns-clause-none : goal.returns-clause-none
returns-clause-none c = none_call

pub returns-clause-contents : goal.returns-clause-contents
returns-clause-contents c = publishes_last
