use Rattle.std.proofs.Common.{◌≡◌, ◌∙◌, Some, sym, ap}
use Rattle.std.specs.Prelude.{find, option_copied}
use Rattle.session_path.specs.Links.{is_at}
use Rattle.session_path.proofs.Ties.{flowed_tied}
use Rattle.session_path.proofs.path_links.PathLinks.flow.Goals as goal

pub invariant_of-self : goal.invariant_of-self
invariant_of-self c =
    let e : find (is_at c.in-Some.own) c.self.inside.links.items ≡ Some c.in-Some-first_at.l.now = sym (ap (find (is_at c.in-Some.own)) c.as_slice.ensures.value) ∙ sym c.first_at.ensures ∙ ap option_copied c.in-Some-first_at.is in
    rw (c.put_link.ensures, c.in_ok-link.ensures, c.flow_one.ensures)
    (flowed_tied c.in-Some.own c.args.flow.count c.args.flow.credit c.args.flow.drain c.args.flow.echo _ _ _ c.in-Some-first_at.l.now c.self.invariant e)
