use Rattle.std.proofs.Common.{◌≡◌, ◌∙◌, Some, sym, ap}
use Rattle.std.specs.Prelude.{find, option_copied}
use Rattle.session_path.specs.Links.{is_at}
use Rattle.session_path.proofs.Ties.{failed_tied}
use Rattle.session_path.proofs.path_links.PathLinks.fail.Goals as goal

pub invariant_of-self : goal.invariant_of-self
invariant_of-self c =
    let e : find (is_at c.in-Some.own) c.self.inside.links.items ≡ Some c.in-Some-first_at.l.now = sym (ap (find (is_at c.in-Some.own)) c.as_slice.ensures.value) ∙ sym c.first_at.ensures ∙ ap option_copied c.in-Some-first_at.is in
    rw (c.put_link.ensures, c.failed.ensures)
    (failed_tied (is_at c.in-Some.own) c.args.fault _ _ _ c.in-Some-first_at.l.now c.self.invariant e (sym c.is_link_taking.ensures ∙ c.if-is_link_taking.true))
