use Rattle.std.proofs.Common.{◌≡◌, ◌∙◌, Some, sym, ap}
use Rattle.std.specs.Prelude.{find, option_copied}
use Rattle.session_path.specs.Links.{is_at}
use Rattle.session_path.proofs.Ties.{is_unread_at, detached_tied}
use Rattle.session_path.proofs.path_links.PathLinks.detach.Goals as goal

pub detach_read-requires : goal.detach_read-requires
detach_read-requires c =
    let e : find (is_at c.in-Some.own) c.self.inside.links.items ≡ Some c.in-Some-first_at.l.now = sym (ap (find (is_at c.in-Some.own)) c.as_slice.ensures.value) ∙ sym c.first_at.ensures ∙ ap option_copied c.in-Some-first_at.is in
    rw c.handle.ensures (is_unread_at c.in-Some.own _ _ _ c.in-Some-first_at.l.now c.self.invariant e)

pub invariant_of-self : goal.invariant_of-self
invariant_of-self c =
    let e : find (is_at c.in-Some.own) c.self.inside.links.items ≡ Some c.in-Some-first_at.l.now = sym (ap (find (is_at c.in-Some.own)) c.as_slice.ensures.value) ∙ sym c.first_at.ensures ∙ ap option_copied c.in-Some-first_at.is in
    rw (c.detach_link.ensures, c.remove_one.ensures, c.detach_read.ensures, c.handle.ensures)
    (detached_tied c.in-Some.own _ _ _ c.in-Some-first_at.l.now c.self.invariant e)
