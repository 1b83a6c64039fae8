use Rattle.std.proofs.Common.{◌≡◌, ◌∙◌, List, [], ◌∷◌, ◌++◌, ap, false}
use Rattle.std.specs.Prelude.{remove}
use Rattle.link_table.specs.Table.{HandleTable}
use Rattle.publish_path.specs.Links.{asked_link, without}
use Rattle.publish_path.specs.declared.send_links.SendingLink.{SendingLink}
use Rattle.session_path.specs.declared.path.PathLink.{PathLink}
use Rattle.session_path.specs.Links.{LinksState, free_number, with_wanted}
use Rattle.session_path.proofs.Wanted.{free_none, wanted_tied, without_new, remove_insert}
use Rattle.session_path.proofs.path_links.PathLinks.publish_on_new.Goals as goal

links_back : (c : goal.After-remove) → c.remove.new.self.items ≡ c.self.inside.links.items
links_back c =
    c.remove.ensures.items
    ∙ (ap (λ xs. remove xs c.in_ok-link.link) c.in_ok-link.ensures.links
    ∙ (ap (λ n. remove (with_wanted (free_number c.self.inside.links.items) false c.self.inside.links.items) n) c.in_ok-link.ensures.number
    ∙ remove_insert c.self.inside.links.items (free_number c.self.inside.links.items) _ c.in_ok-link.ensures.within))

sending_back : (c : goal.After-remove) → c.remove_one.new.sending ≡ c.self.inside.sending
sending_back c =
    c.remove_one.ensures
    ∙ (ap (without c.in_ok-link.link) c.in_ok-link.ensures.sending
    ∙ (ap (λ n. without n (c.self.inside.sending ++ asked_link (free_number c.self.inside.links.items) c.args.address ∷ [])) c.in_ok-link.ensures.number
    ∙ without_new (free_number c.self.inside.links.items) c.args.address c.self.inside.sending (free_none _ _ _ c.self.invariant)))

pub add_link-requires-clause-number : goal.add_link-requires-clause-number
add_link-requires-clause-number c = free_none _ _ _ c.self.invariant

pub invariant_of-self-in-Ok : goal.invariant_of-self-in-Ok
invariant_of-self-in-Ok c = rw (c.in_ok-link.ensures.sending, c.in_ok-link.ensures.links) (wanted_tied c.args.address _ _ _ c.self.invariant)

pub invariant_of-self-in-Err : goal.invariant_of-self-in-Err
invariant_of-self-in-Err c = rw (sending_back c, links_back c) c.self.invariant

abbrev with_all : List SendingLink → List PathLink → HandleTable → LinksState
with_all xs ls t = record { sending = xs; links = ls; handles = t }

same_all : (xs ys : List SendingLink) (ls ks : List PathLink) (t : HandleTable) → xs ≡ ys → ls ≡ ks → (record { sending = xs; links = ls; handles = t } ≡ with_all ys ks t)
same_all xs ys ls ks t e f = cc

pub returns-in-Err-clause-err_links : goal.returns-in-Err-clause-err_links
returns-in-Err-clause-err_links c = same_all _ _ _ _ c.self.inside.handles (sending_back c) (links_back c) ∙ c.self.view_is
