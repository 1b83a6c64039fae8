use Rattle.std.proofs.Common.{◌≡◌, ◌∙◌, Some, sym, ap}
use Rattle.std.specs.Prelude.{find, option_copied}
use Rattle.session_path.specs.Links.{is_asked_as}
use Rattle.session_path.proofs.Ties.{is_asked_for, answered_tied}
use Rattle.session_path.proofs.path_links.PathLinks.attach.Goals as goal

pub attached-requires : goal.attached-requires
attached-requires c =
    let e : find (is_asked_as c.args.a.name c.args.a.role) c.self.inside.links.items ≡ Some c.in-Some.l.now = sym (ap (find (is_asked_as c.args.a.name c.args.a.role)) c.as_slice.ensures.value) ∙ sym c.first_asked_as.ensures ∙ ap option_copied c.in-Some.is in
    rw c.handle.ensures (is_asked_for c.args.a.name c.args.a.role _ _ _ c.in-Some.l.now c.self.invariant e)

pub invariant_of-self-2 : goal.invariant_of-self-2
invariant_of-self-2 c =
    let e : find (is_asked_as c.args.a.name c.args.a.role) c.self.inside.links.items ≡ Some c.in-Some.l.now = sym (ap (find (is_asked_as c.args.a.name c.args.a.role)) c.as_slice.ensures.value) ∙ sym c.first_asked_as.ensures ∙ ap option_copied c.in-Some.is in
    rw (c.put_link.ensures, c.answered.ensures, c.attach_if.ensures, c.if-not-attached.ensures.attached, c.handle.ensures)
    (answered_tied c.args.a.name c.args.a.role c.args.a.peer c.args.a.there _ _ _ c.in-Some.l.now c.self.invariant e)
