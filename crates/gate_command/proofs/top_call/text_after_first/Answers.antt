use Rattle.std.proofs.Common.{map, ◌∙◌, ap}
use Rattle.std.specs.String.{string_bytes}
use Rattle.gate_command.specs.Command.{text_of}
use Rattle.gate_command.proofs.Texts.{text_after}
use Rattle.gate_command.proofs.top_call.text_after_first.Goals as goal

pub returns-in_ok-join-in-len1-up : goal.returns-in_ok-join-in-len1-up
returns-in_ok-join-in-len1-up c =
    c.in_ok-join-in-len1-up.ensures.ok ∙ text_after string_bytes c.as_slice.result.now ∙ ap (λ ws. text_of (map string_bytes ws)) c.as_slice.ensures.value
