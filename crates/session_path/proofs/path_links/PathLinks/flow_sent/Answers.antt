use Rattle.std.proofs.Common.{◌≡◌, ◌∙◌, Some, sym, ap}
use Rattle.std.specs.Prelude.{find, option_copied, ◌==◌}
use Rattle.session_path.specs.Path.{owes_flow}
use Rattle.session_path.proofs.Ties.{told_once_tied}
use Rattle.session_path.proofs.path_links.PathLinks.flow_sent.Goals as goal

pub invariant_of-self : goal.invariant_of-self
invariant_of-self c =
    let e : find (owes_flow c.args.publishes.now.list c.self.inside.sending) c.self.inside.links.items ≡ Some c.in-Some.l.now = sym (ap (find (owes_flow c.args.publishes.now.list c.self.inside.sending)) c.as_slice.ensures.value) ∙ sym c.first_owing.ensures ∙ ap option_copied c.in-Some.is in
    rw (c.put_link.ensures, c.told_once.ensures, c.drain_if.ensures)
    (told_once_tied (owes_flow c.args.publishes.now.list c.self.inside.sending) (c.in-Some.l.now.echoes == 0) _ _ _ c.in-Some.l.now c.self.invariant e)
