use Rattle.std.proofs.Common.{◌≡◌, if◌then◌else◌, rules}
use Rattle.std.specs.Prelude.{is_some}
use Rattle.bridge_core.proofs.PathChanges.{heard_is, source_in, target_in}
use Rattle.bridge_core.proofs.path_changes.attach_heard.Goals as goal

pub returns : goal.returns
returns c =
    let a = c.args.attach.now in
    let there : c.if-attach.there ≡ (if a.role then is_some a.target else is_some a.source) =
    elim c.if-attach.branch [
      | goal.then-attach w ↦ target_in a c.if-attach.there (search rules) (search rules)
      | goal.else-attach w ↦ source_in a c.if-attach.there (search rules) (search rules)
    ] in
    heard_is a c.args.name c.if-attach.there c.unwrap_or.result there c.unwrap_or.ensures
