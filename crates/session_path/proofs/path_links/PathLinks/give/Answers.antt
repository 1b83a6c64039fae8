use Rattle.std.proofs.Common.{◌≡◌, ◌∙◌, Some, ap}
use Rattle.std.specs.Prelude.{find}
use Rattle.session_path.specs.Links.{LinksState, has_number}
use Rattle.session_path.proofs.Ties.{is_unsent_open, given_tied}
use Rattle.session_path.proofs.path_links.PathLinks.give.Goals as goal

pub detach_sent-requires : goal.detach_sent-requires
detach_sent-requires c =
    let e : find (has_number c.args.l.link) c.self.inside.links.items ≡ Some c.args.l = ap (λ (s : LinksState). find (has_number c.args.l.link) s.links) c.self.view_is ∙ c.requires.there in
    rw c.handle.ensures (is_unsent_open (has_number c.args.l.link) _ _ _ c.args.l c.self.invariant e c.requires.stage)

pub invariant_of-self : goal.invariant_of-self
invariant_of-self c =
    let e : find (has_number c.args.l.link) c.self.inside.links.items ≡ Some c.args.l = ap (λ (s : LinksState). find (has_number c.args.l.link) s.links) c.self.view_is ∙ c.requires.there in
    rw (c.put_link.ensures, c.given.ensures, c.remove_one.ensures, c.detach_sent.ensures, c.handle.ensures)
    (given_tied (has_number c.args.l.link) _ _ _ c.args.l c.self.invariant e c.requires.stage)
