use Rattle.std.proofs.Common.{◌≡◌, ◌∙◌, Some, sym, ap}
use Rattle.std.specs.Prelude.{find, option_copied}
use Rattle.session_path.specs.Links.{is_wanted}
use Rattle.session_path.proofs.Ties.{asked_tied}
use Rattle.session_path.proofs.path_links.PathLinks.ask.Goals as goal

pub invariant_of-self : goal.invariant_of-self
invariant_of-self c =
    let e : find is_wanted c.self.inside.links.items ≡ Some c.in-Some.l.now = sym (ap (find is_wanted) c.as_slice.ensures.value) ∙ sym c.first_wanted.ensures ∙ ap option_copied c.in-Some.is in
    rw (c.put_link.ensures, c.asked.ensures, c.attach.ensures)
    (asked_tied is_wanted _ _ _ c.in-Some.l.now c.in-Some-free.own c.args.name c.self.invariant e (sym c.free.ensures ∙ c.in-Some-free.is))
