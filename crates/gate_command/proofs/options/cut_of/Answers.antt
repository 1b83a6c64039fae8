use Rattle.std.proofs.Common.{sym}
use Rattle.gate_command.proofs.Cutting.{split_found, split_absent}
use Rattle.gate_command.proofs.options.cut_of.Goals as goal

pub returns-in-Some-clause-front : goal.returns-in-Some-clause-front
returns-in-Some-clause-front c = sym (split_found _ _ c.split_once.ensures.cases _ c.in-Some.is).front_is

pub returns-in-Some-clause-back : goal.returns-in-Some-clause-back
returns-in-Some-clause-back c = sym (split_found _ _ c.split_once.ensures.cases _ c.in-Some.is).back_is

pub returns-in-None-clause-front : goal.returns-in-None-clause-front
returns-in-None-clause-front c = sym (split_absent _ _ c.split_once.ensures.cases c.in-None.is).front_is

pub returns-in-None-clause-back : goal.returns-in-None-clause-back
returns-in-None-clause-back c = sym (split_absent _ _ c.split_once.ensures.cases c.in-None.is).back_is
