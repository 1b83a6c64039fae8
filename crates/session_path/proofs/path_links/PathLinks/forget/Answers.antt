use Rattle.std.proofs.Common.{◌≡◌, ◌∙◌, Some, ap}
use Rattle.std.specs.Prelude.{find}
use Rattle.session_path.specs.Links.{LinksState, has_number}
use Rattle.session_path.proofs.Ties.{is_unsent_at, gone_tied}
use Rattle.session_path.proofs.path_links.PathLinks.forget.Goals as goal

pub detach_sent-requires : goal.detach_sent-requires
detach_sent-requires c =
    let e : find (has_number c.args.l.link) c.self.inside.links.items ≡ Some c.args.l = ap (λ (s : LinksState). find (has_number c.args.l.link) s.links) c.self.view_is ∙ c.requires.there in
    rw c.handle-own.ensures (is_unsent_at (has_number c.args.l.link) _ _ _ c.args.l c.self.invariant e c.requires.left)

pub invariant_of-self : goal.invariant_of-self
invariant_of-self c =
    let e : find (has_number c.args.l.link) c.self.inside.links.items ≡ Some c.args.l = ap (λ (s : LinksState). find (has_number c.args.l.link) s.links) c.self.view_is ∙ c.requires.there in
    rw (c.drop_left.ensures, c.detach_sent.ensures, c.handle-own.ensures)
    (gone_tied (has_number c.args.l.link) _ _ _ c.args.l c.self.invariant e c.requires.left)
