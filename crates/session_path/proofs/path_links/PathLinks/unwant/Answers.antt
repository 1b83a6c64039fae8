use Rattle.std.proofs.Common.{◌∙◌, List, ap}
use Rattle.session_path.specs.declared.path.PathLink.{PathLink}
use Rattle.session_path.specs.Links.{LinksState}
use Rattle.session_path.proofs.Ties.{filtered_tied}
use Rattle.session_path.proofs.Wanted.{unwanted_is, unwanted_receives}
use Rattle.session_path.proofs.path_links.PathLinks.unwant.Goals as goal

pub invariant_of-self : goal.invariant_of-self
invariant_of-self c = rw c.drop_wanted_receiver.ensures (filtered_tied _ _ _ _ (unwanted_receives c.args.link) c.self.invariant)

pub returns : goal.returns
returns c old e f =
    let s : LinksState = record { sending = c.self.inside.sending; links = c.self.inside.links.items; handles = c.self.inside.handles } in
    ap (λ (ls : List PathLink). record s { links = ls }) c.drop_wanted_receiver.ensures
    ∙ unwanted_is c.args.link s old c.self.invariant.rising (c.self.view_is ∙ e) f
