use Rattle.std.proofs.Common.{sym, ◌∙◌}
use Rattle.gate_command.proofs.Names.{name_in-ascii, name_in-other}
use Rattle.gate_command.proofs.options.name_of.Goals as goal

pub returns-then-is_ascii : goal.returns-then-is_ascii
returns-then-is_ascii c = c.short_of.ensures ∙ sym (name_in-ascii c.args.text.now c.is_ascii.result c.is_ascii.ensures.cases c.if-is_ascii.true)

pub returns-else-is_ascii : goal.returns-else-is_ascii
returns-else-is_ascii c = sym (name_in-other c.args.text.now c.is_ascii.result c.is_ascii.ensures.cases c.if-is_ascii.false)
