-- The numbers of the receiving links that the gateway didn't detach, after what the container and the
-- gateway send: only the gateway's detach takes one away.
use Rattle.std.proofs.Common.{◌≡◌, ◌∙◌, ℕ, List, Bool, true, false, Option, Some, None, refl, sym}
use Rattle.std.proofs.Common.{ap, cond, subst}
use Rattle.std.specs.Prelude.{◌==◌, ◌&&◌, not, find, is_some}
use Rattle.link_table.specs.Table.{free_of, named_by}
use Rattle.publish_path.specs.Links.{link_to}
use Rattle.publish_path.specs.declared.publish.Publish.{Publish}
use Rattle.consume_path.specs.declared.receiving.TransferFault.{TransferFault}
use Rattle.session_path.specs.declared.path.AttachHeard.{AttachHeard}
use Rattle.session_path.specs.declared.path.PathLink.{PathLink}
use Rattle.session_path.specs.declared.path.Stage.{Stage}
use Rattle.session_path.specs.declared.path.Stage.TheVariants.{Given}
use Rattle.session_path.specs.Links.{LinksState, Rises, answered, asked_as, asked_on, at_handle}
use Rattle.session_path.specs.Links.{attach_fault, attached, attached_as, detached_on, failed_by}
use Rattle.session_path.specs.Links.{failed_on, flowed_on, free_number, given_by, given_on, gone_on}
use Rattle.session_path.specs.Links.{has_number, is_asked_as, is_at, is_given, is_left}
use Rattle.session_path.specs.Links.{is_stage_asked, is_stage_given, is_stage_wanted}
use Rattle.session_path.specs.Links.{is_stage_whole, is_wanted, left_by, link_asked, link_detached}
use Rattle.session_path.specs.Links.{link_failed, link_flowed, linked_to, named, parted, put}
use Rattle.session_path.specs.Links.{told_by, told_on, told_once, with_link_to}
use Rattle.session_path.specs.Path.{flow_of, owes_flow, taking_in}
use Rattle.session_path.proofs.Numbers.{and_none, any_found, dropped_takes, given_takes}
use Rattle.session_path.proofs.Numbers.{is_taking, other_takes, put_alike, sender_takes, takes}
use Rattle.session_path.proofs.Numbers.{takes_itself, takes_one}
use Rattle.session_path.proofs.Tied.{Tied}
use Rattle.session_path.proofs.Ties.{and_left, and_right, dropped, found_passes, gone_is}
use Rattle.session_path.proofs.Ties.{no_clash}

-- what passes a test that a link with the gateway's detach doesn't isn't one
not_given : (p : Stage → Bool) → ((h : ℕ) → p (Given h) ≡ false) → (l : PathLink) → p l.stage ≡ true → is_given l ≡ false
not_given p never l is = by l.stage is
  where
    by : (s : Stage) → p s ≡ true → is_stage_given s ≡ false
    by (Given h) e = absurd (no_clash (p (Given h)) e (never h))
    by s e = refl

-- a link in the place of the one that is found, where the gateway detached neither
restaged : (p : PathLink → Bool) (n : ℕ) (ls : List PathLink) (l x : PathLink) → Rises 0 ls → find p ls ≡ Some l → x.link ≡ l.link → x.receives ≡ l.receives → is_given x ≡ false → is_given l ≡ false
    → takes n (put x ls) ≡ takes n ls
restaged p n ls l x r e number role off was =
    put_alike p n ls l x r e number (ap (λ i. (i == n) && is_taking x) number ∙ (ap (λ b. (l.link == n) && (b && not (is_given x))) role ∙ ap (λ b. (l.link == n) && (l.receives && not b)) (off ∙ sym was)))

pub takes_linked : (n : ℕ) (address : List ℕ) (s : LinksState) → takes n (linked_to address s).links ≡ takes n s.links
takes_linked n address s = by (is_some (link_to s.sending address))
  where
    by : (b : Bool) → takes n (cond b s (with_link_to address s)).links ≡ takes n s.links
    by true = refl
    by false = sender_takes n (free_number s.links) s.links

pub takes_attached : (n : ℕ) (a : AttachHeard) (s : LinksState) → Tied s → takes n (attached a s).links ≡ takes n s.links
takes_attached n a s t = by (is_some (attach_fault a.name a.role a.peer s)) (find (is_asked_as a.name a.role) s.links) refl
  where
    answer : (l : PathLink) (b : Bool) → is_given (answered b l) ≡ false
    answer l true = refl
    answer l false = refl

    by : (b : Bool) (o : Option PathLink) → find (is_asked_as a.name a.role) s.links ≡ o → takes n (attached_as (cond b None o) a.peer a.there s).links ≡ takes n s.links
    by true o e = refl
    by false None e = refl
    by false (Some l) e =
        restaged (is_asked_as a.name a.role) n s.links l (answered a.there l) t.rising e refl refl (answer l a.there)
        (not_given is_stage_asked (λ h. refl) l (and_left _ _ (and_left _ _ (found_passes (is_asked_as a.name a.role) s.links l e))))

flowed_one : (n h : ℕ) (count : Option ℕ) (credit : ℕ) (drain echo : Bool) (s : LinksState) (o : Option PathLink) → Tied s → find (is_at h) s.links ≡ o
    → takes n (flowed_on o count credit drain echo s).links ≡ takes n s.links
flowed_one n h count credit drain echo s None t e = refl
flowed_one n h count credit drain echo s (Some l) t e = put_alike (is_at h) n s.links l (told_by drain echo l) t.rising e refl refl

pub takes_flowed : (n peer : ℕ) (count : Option ℕ) (credit : ℕ) (drain echo : Bool) (s : LinksState) → Tied s → takes n (link_flowed peer count credit drain echo s).links ≡ takes n s.links
takes_flowed n peer count credit drain echo s t = by (named_by s.handles peer)
  where
    by : (o : Option ℕ) → takes n (flowed_on (at_handle o s.links) count credit drain echo s).links ≡ takes n s.links
    by None = refl
    by (Some h) = flowed_one n h count credit drain echo s (find (is_at h) s.links) t refl

not_taking : (l : PathLink) → is_given l ≡ true → is_taking l ≡ false
not_taking l is = and_none l.receives (not (is_given l)) (ap not is)

detached_one : (n h : ℕ) (s : LinksState) (o : Option PathLink) → Tied s → find (is_at h) s.links ≡ o → takes n (detached_on o s).links ≡ takes n s.links
detached_one n h s None t e = refl
detached_one n h s (Some l) t e = by (is_given l) refl
  where
    by : (b : Bool) → is_given l ≡ b → takes n (cond b (dropped l.link s.links) (put (left_by s.sending l) s.links)) ≡ takes n s.links
    by true is = dropped_takes n l.link s.links ∙ other_takes (is_at h) n s.links l t.rising e (not_taking l is)
    by false is = restaged (is_at h) n s.links l (left_by s.sending l) t.rising e refl refl refl is

pub takes_detached : (n peer : ℕ) (s : LinksState) → Tied s → takes n (link_detached peer s).links ≡ takes n s.links
takes_detached n peer s t = by (named_by s.handles peer)
  where
    by : (o : Option ℕ) → takes n (detached_on (at_handle o s.links) s).links ≡ takes n s.links
    by None = refl
    by (Some h) = detached_one n h s (find (is_at h) s.links) t refl

failed_one : (n h : ℕ) (fault : TransferFault) (s : LinksState) (o : Option PathLink) → Tied s → find (is_at h) s.links ≡ o → takes n (failed_on o fault s).links ≡ takes n s.links
failed_one n h fault s None t e = refl
failed_one n h fault s (Some l) t e = by (is_stage_whole l.stage && l.receives) refl
  where
    by : (b : Bool) → (is_stage_whole l.stage && l.receives) ≡ b → takes n (cond b (record s { links = put (failed_by fault l) s.links }) s).links ≡ takes n s.links
    by true is = restaged (is_at h) n s.links l (failed_by fault l) t.rising e refl refl refl (not_given is_stage_whole (λ h. refl) l (and_left _ _ is))
    by false is = refl

pub takes_failed : (n peer : ℕ) (fault : TransferFault) (s : LinksState) → Tied s → takes n (link_failed peer fault s).links ≡ takes n s.links
takes_failed n peer fault s t = by (named_by s.handles peer)
  where
    by : (o : Option ℕ) → takes n (failed_on (at_handle o s.links) fault s).links ≡ takes n s.links
    by None = refl
    by (Some h) = failed_one n h fault s (find (is_at h) s.links) t refl

pub takes_asked : (n name : ℕ) (s : LinksState) → Tied s → takes n (link_asked name s).links ≡ takes n s.links
takes_asked n name s t = by (find is_wanted s.links) refl (free_of s.handles)
  where
    by : (o : Option PathLink) → find is_wanted s.links ≡ o → (f : Option ℕ) → takes n (asked_on o f name s).links ≡ takes n s.links
    by None e f = refl
    by (Some l) e None = refl
    by (Some l) e (Some h) = restaged is_wanted n s.links l (asked_as h name l) t.rising e refl refl refl (not_given is_stage_wanted (λ h. refl) l (found_passes is_wanted s.links l e))

pub takes_told : (n : ℕ) (list : List Publish) (s : LinksState) → Tied s → takes n (told_on (flow_of list s) s).links ≡ takes n s.links
takes_told n list s t = by (flow_of list s) refl
  where
    by : (o : Option PathLink) → find (owes_flow list s.sending) s.links ≡ o → takes n (told_on o s).links ≡ takes n s.links
    by None e = refl
    by (Some l) e = put_alike (owes_flow list s.sending) n s.links l (told_once l) t.rising e refl refl

-- the detach that is due went: it is no more, or the gateway's
pub takes_parted : (n : ℕ) (s : LinksState) (l : PathLink) → Tied s → find (has_number l.link) s.links ≡ Some l → takes n (parted (Some l) s).links ≡ (not (n == l.link) && takes n s.links)
takes_parted n s l t e = by (is_left l) refl
  where
    by : (b : Bool) → is_left l ≡ b → takes n (cond b (gone_on (Some l) s) (given_on (Some l) s)).links ≡ (not (n == l.link) && takes n s.links)
    by true is = ap (takes n) (gone_is (has_number l.link) s.sending s.links s.handles l t e is) ∙ dropped_takes n l.link s.links
    by false is = given_takes n s.links (given_by l) (not_taking (given_by l) refl)

-- what is found unless the session is lost
pub unless_lost : (lost : Bool) (o : Option PathLink) (l : PathLink) → cond lost None o ≡ Some l → o ≡ Some l
unless_lost true o l e = absurd cc
unless_lost false o l e = e

-- a link that takes transfers
pub taking_takes : (peer : ℕ) (s : LinksState) (l : PathLink) → taking_in (named peer s) ≡ Some l → takes l.link s.links ≡ true
taking_takes peer s l e = by (named_by s.handles peer) e
  where
    one : (h : ℕ) (o : Option PathLink) → find (is_at h) s.links ≡ o → taking_in o ≡ Some l → takes l.link s.links ≡ true
    one h None f e = absurd (cc)
    one h (Some k) f e = pick (k.receives && is_stage_whole k.stage) refl e
      where
        pick : (b : Bool) → (k.receives && is_stage_whole k.stage) ≡ b → cond b (Some k) None ≡ Some l → takes l.link s.links ≡ true
        pick true is e =
            let same : k ≡ l = cc in
            subst (λ (z : PathLink). takes z.link s.links ≡ true) same
            (any_found (is_at h) (takes_one k.link) s.links k f (takes_itself k (ap (λ b. b && not (is_given k)) (and_left k.receives (is_stage_whole k.stage) is) ∙ ap not (not_given is_stage_whole (λ h. refl) k (and_right k.receives (is_stage_whole k.stage) is)))))
        pick false is e = absurd (cc)

    by : (o : Option ℕ) → taking_in (at_handle o s.links) ≡ Some l → takes l.link s.links ≡ true
    by None e = absurd (cc)
    by (Some h) e = one h (find (is_at h) s.links) refl e
