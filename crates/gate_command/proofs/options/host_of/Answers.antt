use Rattle.std.proofs.Common.{sym, ◌∙◌}
use Rattle.gate_command.proofs.Names.{host_in-text}
use Rattle.gate_command.proofs.options.host_of.Goals as goal

pub returns : goal.returns
returns c = c.short_of.ensures ∙ sym (host_in-text c.args.text.now c.utf8.text)
