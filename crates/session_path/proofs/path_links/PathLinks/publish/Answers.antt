use Rattle.std.proofs.Common.{◌≡◌, ◌∙◌, ℕ, None, sym, ap, subst}
use Rattle.std.specs.Prelude.{OnOk}
use Rattle.publish_path.specs.Links.{link_to}
use Rattle.publish_path.specs.Publishes.{TakenUp, after_event}
use Rattle.session_path.specs.Links.{LinksState}
use Rattle.session_path.proofs.Wanted.{number_new, map_none}
use Rattle.session_path.proofs.path_links.PathLinks.publish.Goals as goal

pub returns-in-None-clause-ok_publishes : goal.returns-in-None-clause-ok_publishes
returns-in-None-clause-ok_publishes c =
    let none : link_to c.args.self.now.sending c.args.address ≡ None =
    sym (ap (λ (s : LinksState). link_to s.sending c.args.address) c.self.view_is)
    ∙ (sym (ap (link_to c.self.inside.sending) c.as_slice.ensures) ∙ map_none _ (sym c.find.ensures ∙ c.in-None.is)) in
    subst (λ (n : ℕ). OnOk c.publish_on_new.result (c.publish_on_new.new.publishes ≡ after_event (TakenUp n c.args.confirm c.args.payload c.args.back) c.args.publishes.now))
    (number_new c.args.address c.args.self.now none) c.publish_on_new.ensures.ok_publishes
