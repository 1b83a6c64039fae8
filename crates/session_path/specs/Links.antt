-- The links of a session: the credit of the sending ones, how far each is, and their handles.
use Rattle.std.specs.Prelude.{◌≡◌, ℕ, Bool, true, false, not, ◌+◌, ◌-◌, ◌≤◌, ◌==◌, ◌&&◌, ◌||◌}
use Rattle.std.specs.Prelude.{min, nat_lt, count_by}
use Rattle.std.specs.Prelude.{if◌then◌else◌, List, [], ◌∷◌, ◌++◌, map, filter, find, insert, Option}
use Rattle.std.specs.Prelude.{Some, None, is_some, codes, decimal}
use Rattle.std.specs.List.{list_any, AllByRecursion}
use Rattle.link_table.specs.declared.handles.HandleState.{HandleState}
use Rattle.link_table.specs.declared.handles.HandleState.TheVariants as state
use Rattle.link_table.specs.Table.{HandleTable, after_attach, after_attached, after_detach_read}
use Rattle.link_table.specs.Table.{after_detach_sent, after_limit, free_of, is_asked, named_by}
use Rattle.link_table.specs.Table.{new_table, state_of}
use Rattle.links_10.specs.Send.{advanced}
use Rattle.publish_path.specs.Links.{asked_link, drained, flowed, link_of, link_to, now_attached}
use Rattle.publish_path.specs.Links.{without}
use Rattle.publish_path.specs.declared.send_links.SendingLink.{SendingLink}
use Rattle.session_path.specs.declared.path.AttachFault.{AttachFault}
use Rattle.session_path.specs.declared.path.AttachFault.TheVariants.{NotAsked, HandleInUse}
use Rattle.session_path.specs.declared.path.PathLink.{PathLink}
use Rattle.session_path.specs.declared.path.Stage.{Stage}
use Rattle.session_path.specs.declared.path.Stage.TheVariants.{Wanted, Asked, Open, Refused, Left}
use Rattle.session_path.specs.declared.path.Stage.TheVariants.{Failed, Given}
use Rattle.consume_path.specs.declared.receiving.TransferFault.{TransferFault}
use Rattle.session_path.specs.declared.path.AttachHeard.{AttachHeard}

pub record LinksState : Type 0 where
  -- the credit of each link that isn't lost, by address
  pub sending : List SendingLink
  -- how far each link is, in the order of their numbers
  pub links : List PathLink
  -- the handles of the session (AMQP 1.0 2.6.2)
  pub handles : HandleTable

-- ---- one link

abbrev pub handle_in : Stage → Option ℕ
handle_in Wanted = None
handle_in (Asked h) = Some h
handle_in (Open h) = Some h
handle_in (Refused h) = Some h
handle_in (Left h) = Some h
handle_in (Given h) = Some h
handle_in (Failed h fault) = Some h

-- its handle; 0 where it has none
abbrev pub handle_of : Stage → ℕ
handle_of Wanted = 0
handle_of (Asked h) = h
handle_of (Open h) = h
handle_of (Refused h) = h
handle_of (Left h) = h
handle_of (Given h) = h
handle_of (Failed h fault) = h

abbrev pub is_stage_wanted : Stage → Bool
is_stage_wanted Wanted = true
is_stage_wanted (Asked h) = false
is_stage_wanted (Open h) = false
is_stage_wanted (Refused h) = false
is_stage_wanted (Left h) = false
is_stage_wanted (Given h) = false
is_stage_wanted (Failed h fault) = false

abbrev pub is_stage_asked : Stage → Bool
is_stage_asked Wanted = false
is_stage_asked (Asked h) = true
is_stage_asked (Open h) = false
is_stage_asked (Refused h) = false
is_stage_asked (Left h) = false
is_stage_asked (Given h) = false
is_stage_asked (Failed h fault) = false

abbrev pub is_stage_refused : Stage → Bool
is_stage_refused Wanted = false
is_stage_refused (Asked h) = false
is_stage_refused (Open h) = false
is_stage_refused (Refused h) = true
is_stage_refused (Left h) = false
is_stage_refused (Given h) = false
is_stage_refused (Failed h fault) = false

abbrev pub is_stage_left : Stage → Bool
is_stage_left Wanted = false
is_stage_left (Asked h) = false
is_stage_left (Open h) = false
is_stage_left (Refused h) = false
is_stage_left (Left h) = true
is_stage_left (Given h) = false
is_stage_left (Failed h fault) = false

abbrev pub is_stage_open : Stage → Bool
is_stage_open Wanted = false
is_stage_open (Asked h) = false
is_stage_open (Open h) = true
is_stage_open (Refused h) = false
is_stage_open (Left h) = false
is_stage_open (Given h) = false
is_stage_open (Failed h fault) = false

abbrev pub is_stage_given : Stage → Bool
is_stage_given Wanted = false
is_stage_given (Asked h) = false
is_stage_given (Open h) = false
is_stage_given (Refused h) = false
is_stage_given (Left h) = false
is_stage_given (Given h) = true
is_stage_given (Failed h fault) = false

abbrev pub is_stage_failed : Stage → Bool
is_stage_failed Wanted = false
is_stage_failed (Asked h) = false
is_stage_failed (Open h) = false
is_stage_failed (Refused h) = false
is_stage_failed (Left h) = false
is_stage_failed (Given h) = false
is_stage_failed (Failed h fault) = true

-- the error of the detach that is due
abbrev pub error_of : Stage → Option TransferFault
error_of Wanted = None
error_of (Asked h) = None
error_of (Open h) = None
error_of (Refused h) = None
error_of (Left h) = None
error_of (Given h) = None
error_of (Failed h fault) = Some fault

-- both attached, and none detached or is to
abbrev pub is_stage_whole : Stage → Bool
is_stage_whole Wanted = false
is_stage_whole (Asked h) = false
is_stage_whole (Open h) = true
is_stage_whole (Refused h) = true
is_stage_whole (Left h) = false
is_stage_whole (Given h) = false
is_stage_whole (Failed h fault) = false

-- both attached with this handle of the gateway, and the container didn't detach
abbrev pub is_stage_at : ℕ → Stage → Bool
is_stage_at h Wanted = false
is_stage_at h (Asked k) = false
is_stage_at h (Open k) = k == h
is_stage_at h (Refused k) = k == h
is_stage_at h (Left k) = false
is_stage_at h (Given k) = k == h
is_stage_at h (Failed k fault) = k == h

abbrev pub is_wanted : PathLink → Bool
is_wanted l = is_stage_wanted l.stage

abbrev pub is_left : PathLink → Bool
is_left l = is_stage_left l.stage

abbrev pub is_given : PathLink → Bool
is_given l = is_stage_given l.stage

abbrev pub is_failed : PathLink → Bool
is_failed l = is_stage_failed l.stage

-- the gateway's detach is due
abbrev pub is_to_part : PathLink → Bool
is_to_part l = is_left l || is_failed l

-- one end detached, and its handle will be free
abbrev pub is_parting : PathLink → Bool
is_parting l = is_to_part l || is_given l

abbrev pub is_at : ℕ → PathLink → Bool
is_at h l = is_stage_at h l.stage

-- the names of links on a connection: `l-` and the number of the attach, from 0
abbrev pub link_name : ℕ → List ℕ
link_name n = codes "l-" ++ decimal n

-- the role of the container is the other one (AMQP 1.0 2.6.3)
abbrev pub is_other_end : Bool → PathLink → Bool
is_other_end role l = if role then not l.receives else l.receives

-- its attach was sent under the name with this number, with the other role, and isn't answered
abbrev pub is_asked_as : ℕ → Bool → PathLink → Bool
is_asked_as name role l = is_stage_asked l.stage && (l.name == name) && is_other_end role l

abbrev pub has_number : ℕ → PathLink → Bool
has_number n l = l.link == n

-- the handle of the link with this number; 0 where it has none, or there is no such link
abbrev pub handle_in_link : Option PathLink → ℕ
handle_in_link None = 0
handle_in_link (Some l) = handle_of l.stage

abbrev pub handle_at : ℕ → List PathLink → ℕ
handle_at n links = handle_in_link (find (has_number n) links)

-- a link takes the place of the one with its number
abbrev pub put_for : PathLink → PathLink → PathLink
put_for x l = if has_number x.link l then x else l

abbrev pub put : PathLink → List PathLink → List PathLink
put x links = map (put_for x) links

-- ---- all of them

abbrev pub no_links : LinksState
no_links = record { sending = []; links = []; handles = new_table 255 }

-- the container's begin came, with the greatest handle that it takes (AMQP 1.0 2.7.2)
abbrev pub limited : ℕ → LinksState → LinksState
limited handle_max s = record s { handles = after_limit (min 255 handle_max) s.handles }

-- no link is wanted any more
abbrev pub is_wanted_at : List PathLink → SendingLink → Bool
is_wanted_at links x = list_any (λ l. is_wanted l && has_number x.link l) links

abbrev pub without_wanted : LinksState → LinksState
without_wanted s = record s {
  sending = filter (λ x. not (is_wanted_at s.links x)) s.sending;
  links = filter (λ l. not (is_wanted l)) s.links;
}

-- no link is left
abbrev pub all_lost : LinksState → LinksState
all_lost s = record s { sending = []; links = [] }

-- how many links stand in front with the numbers n, n + 1 ..
abbrev pub gap : ℕ → List PathLink → ℕ
gap n [] = 0
gap n (l ∷ ls) = if l.link == n then gap (n + 1) ls + 1 else 0

-- the lowest number that no link has: the links stand by rising number
abbrev pub free_number : List PathLink → ℕ
free_number links = gap 0 links

abbrev pub wanted_link : ℕ → Bool → PathLink
wanted_link n receives = record {
  link = n;
  receives = receives;
  stage = Wanted;
  name = 0;
  echoes = 0;
  drains = 0;
  draining = false;
  count = 0;
  credit = 0;
}

-- a link with this number is wanted: all that are below it stand in front of it
abbrev pub with_wanted : ℕ → Bool → List PathLink → List PathLink
with_wanted n receives links = insert links n (wanted_link n receives)

-- a link to this address is wanted
abbrev pub with_link_to : List ℕ → LinksState → LinksState
with_link_to address s = record s {
  sending = s.sending ++ asked_link (free_number s.links) address ∷ [];
  links = with_wanted (free_number s.links) false s.links;
}

-- a receiving link is wanted
abbrev pub with_receiver : LinksState → LinksState
with_receiver s = record s { links = with_wanted (free_number s.links) true s.links }

-- receiving links that are wanted aren't any more
abbrev pub is_wanted_receiver : PathLink → Bool
is_wanted_receiver l = is_wanted l && l.receives

abbrev pub without_receivers : LinksState → LinksState
without_receivers s = record s { links = filter (λ l. not (is_wanted_receiver l)) s.links }

-- it is there, or is wanted from now on
abbrev pub linked_to : List ℕ → LinksState → LinksState
linked_to address s = if is_some (link_to s.sending address) then s else with_link_to address s

-- ---- what the container sends

-- its attach answers the link that was asked for under this name; without a source or target it
-- refuses that
abbrev pub answered_stage : Bool → ℕ → Stage
answered_stage there h = if there then Open h else Refused h

abbrev pub answered : Bool → PathLink → PathLink
answered there l = record l { stage = answered_stage there (handle_of l.stage) }

abbrev pub attached_if : Bool → ℕ → List SendingLink → List SendingLink
attached_if there n sending = if there then map (now_attached n) sending else sending

abbrev pub attached_as : Option PathLink → ℕ → Bool → LinksState → LinksState
attached_as None peer there s = s
attached_as (Some l) peer there s = record {
  sending = attached_if there l.link s.sending;
  links = put (answered there l) s.links;
  handles = after_attached (handle_of l.stage) peer s.handles;
}

-- what is wrong with an attach that no attach of the gateway asks for: first a handle of the
-- container that names another link
abbrev pub fault_unasked : ℕ → LinksState → AttachFault
fault_unasked peer s = if is_some (named_by s.handles peer) then HandleInUse else NotAsked

abbrev pub attach_fault : ℕ → Bool → ℕ → LinksState → Option AttachFault
attach_fault name role peer s =
    if is_some (named_by s.handles peer) then Some HandleInUse
    else if is_some (find (is_asked_as name role) s.links) then None
    else Some NotAsked

-- the link that an attach answers; none where it is at fault
abbrev pub asked_by : AttachHeard → LinksState → Option PathLink
asked_by a s =
    if is_some (attach_fault a.name a.role a.peer s) then None
    else find (is_asked_as a.name a.role) s.links

abbrev pub attached : AttachHeard → LinksState → LinksState
attached a s = attached_as (asked_by a s) a.peer a.there s

-- the link that a handle of the container names
abbrev pub at_handle : Option ℕ → List PathLink → Option PathLink
at_handle None links = None
at_handle (Some h) links = find (is_at h) links

abbrev pub named : ℕ → LinksState → Option PathLink
named peer s = at_handle (named_by s.handles peer) s.links

-- a flow on a link: its credit, and what it asks for
abbrev pub one_if : Bool → ℕ
one_if b = if b then 1 else 0

abbrev pub told_by : Bool → Bool → PathLink → PathLink
told_by drain echo l = record l {
  echoes = l.echoes + one_if echo;
  drains = l.drains + one_if drain;
  draining = drain;
}

abbrev pub flowed_on : Option PathLink → Option ℕ → ℕ → Bool → Bool → LinksState → LinksState
flowed_on None count credit drain echo s = s
flowed_on (Some l) count credit drain echo s = record s {
  sending = map (flowed l.link count credit) s.sending;
  links = put (told_by drain echo l) s.links;
}

abbrev pub link_flowed : ℕ → Option ℕ → ℕ → Bool → Bool → LinksState → LinksState
link_flowed peer count credit drain echo s = flowed_on (named peer s) count credit drain echo s

-- its detach: the link is lost for the publishes, and the gateway's detach is due; one that the
-- gateway detached is no more. A sending link is asked for its state no more; its delivery-count
-- and credit stay with it, since a drain may still be due (AMQP 1.0 2.6.7)
abbrev pub count_in : Option SendingLink → ℕ
count_in None = 0
count_in (Some x) = x.state.count

abbrev pub credit_in : Option SendingLink → ℕ
credit_in None = 0
credit_in (Some x) = x.state.credit

abbrev pub left_by : List SendingLink → PathLink → PathLink
left_by sending l = record l {
  stage = Left (handle_of l.stage);
  echoes = 0;
  count = count_in (link_of sending l.link);
  credit = credit_in (link_of sending l.link);
}

abbrev pub detached_from : List SendingLink → PathLink → List PathLink → List PathLink
detached_from sending l links =
    if is_given l then filter (λ k. not (has_number l.link k)) links
    else put (left_by sending l) links

abbrev pub detached_on : Option PathLink → LinksState → LinksState
detached_on None s = s
detached_on (Some l) s = record {
  sending = without l.link s.sending;
  links = detached_from s.sending l s.links;
  handles = after_detach_read (handle_of l.stage) s.handles;
}

abbrev pub link_detached : ℕ → LinksState → LinksState
link_detached peer s = detached_on (named peer s) s

-- a transfer on it passed a limit: the gateway's detach is due, with this error
abbrev pub failed_by : TransferFault → PathLink → PathLink
failed_by fault l = record l { stage = Failed (handle_of l.stage) fault }

abbrev pub failed_on : Option PathLink → TransferFault → LinksState → LinksState
failed_on None fault s = s
failed_on (Some l) fault s =
    if is_stage_whole l.stage && l.receives
    then record s { links = put (failed_by fault l) s.links } else s

abbrev pub link_failed : ℕ → TransferFault → LinksState → LinksState
link_failed peer fault s = failed_on (named peer s) fault s

-- ---- what goes to the container

-- the attach of the first link that is wanted, under this name, with the lowest free handle
abbrev pub asked_as : ℕ → ℕ → PathLink → PathLink
asked_as handle name l = record l { stage = Asked handle; name = name }

abbrev pub asked_on : Option PathLink → Option ℕ → ℕ → LinksState → LinksState
asked_on None o name s = s
asked_on (Some l) None name s = s
asked_on (Some l) (Some h) name s = record s {
  links = put (asked_as h name l) s.links;
  handles = after_attach h s.handles;
}

abbrev pub link_asked : ℕ → LinksState → LinksState
link_asked name s = asked_on (find is_wanted s.links) (free_of s.handles) name s

-- a flow of a link answers what was asked first of these: its state, and then that its credit is
-- given back
abbrev pub told_once : PathLink → PathLink
told_once l = record l {
  echoes = l.echoes - 1;
  drains = if l.echoes == 0 then l.drains - 1 else l.drains;
  count = if l.echoes == 0 then advanced l.count l.credit else l.count;
  credit = if l.echoes == 0 then 0 else l.credit;
}

abbrev pub drained_if : Bool → ℕ → List SendingLink → List SendingLink
drained_if drain n sending = if drain then map (drained n) sending else sending

abbrev pub told_on : Option PathLink → LinksState → LinksState
told_on None s = s
told_on (Some l) s = record s {
  sending = drained_if (l.echoes == 0) l.link s.sending;
  links = put (told_once l) s.links;
}

-- the detach of the first link that the container detached: it is no more
abbrev pub is_left_at : ℕ → Stage → Bool
is_left_at h Wanted = false
is_left_at h (Asked k) = false
is_left_at h (Open k) = false
is_left_at h (Refused k) = false
is_left_at h (Left k) = k == h
is_left_at h (Given k) = false
is_left_at h (Failed k fault) = false

abbrev pub gone_from : ℕ → List PathLink → List PathLink
gone_from h links = filter (λ k. not (is_left_at h k.stage)) links

abbrev pub gone_on : Option PathLink → LinksState → LinksState
gone_on None s = s
gone_on (Some l) s = record s {
  links = gone_from (handle_of l.stage) s.links;
  handles = after_detach_sent (handle_of l.stage) s.handles;
}

-- a handle is wanting: none is free, and more links are wanted than are on their way to give theirs
-- back
abbrev pub is_wanting : LinksState → Bool
is_wanting s =
    not (is_some (free_of s.handles))
    && nat_lt (count_by is_parting s.links) (count_by is_wanted s.links)

-- the link with the lowest handle
abbrev pub lower : PathLink → Option PathLink → PathLink
lower l None = l
lower l (Some k) = if nat_lt (handle_of k.stage) (handle_of l.stage) then k else l

abbrev pub lowest : List PathLink → Option PathLink
lowest [] = None
lowest (l ∷ ls) = Some (lower l (lowest ls))

-- the lowest so far, once this one is looked at, which counts or not
abbrev pub is_below : PathLink → Option PathLink → Bool
is_below l None = true
is_below l (Some k) = nat_lt (handle_of l.stage) (handle_of k.stage)

abbrev pub lower_if : Bool → Option PathLink → PathLink → Option PathLink
lower_if counts best l = if counts && is_below l best then Some l else best

-- a link is detached for its handle, which is free once the container detached too
abbrev pub given_by : PathLink → PathLink
given_by l = record l { stage = Given (handle_of l.stage) }

abbrev pub given_on : Option PathLink → LinksState → LinksState
given_on None s = s
given_on (Some l) s = record {
  sending = without l.link s.sending;
  links = put (given_by l) s.links;
  handles = after_detach_sent (handle_of l.stage) s.handles;
}

-- the detach that is due went: of a link that the container detached, or of another one
abbrev pub parted_on : PathLink → LinksState → LinksState
parted_on l s = if is_left l then gone_on (Some l) s else given_on (Some l) s

abbrev pub parted : Option PathLink → LinksState → LinksState
parted None s = s
parted (Some l) s = parted_on l s

-- ---- what holds of them at all times

-- their numbers rise, from n on
abbrev pub Rises : ℕ → List PathLink → Type 0
Rises n [] = Unit {0}
Rises n (l ∷ ls) = (n ≤ l.link) × Rises (l.link + 1) ls

-- no two have one handle
abbrev pub is_one : Option ℕ → Option ℕ → Bool
is_one None o = false
is_one (Some h) None = false
is_one (Some h) (Some k) = h == k

abbrev pub meets : PathLink → PathLink → Bool
meets l k = is_one (handle_in l.stage) (handle_in k.stage)

abbrev pub AreApart : List PathLink → Type 0
AreApart [] = Unit {0}
AreApart (l ∷ ls) = AllByRecursion (λ k. meets l k ≡ false) ls × AreApart ls

-- both ends attached; the container detached
abbrev pub is_whole : HandleState → Bool
is_whole state.Free = false
is_whole state.Asked = false
is_whole (state.Attached a) = not a.detach_sent && not a.detach_read

abbrev pub is_half : HandleState → Bool
is_half state.Free = false
is_half state.Asked = false
is_half (state.Attached a) = not a.detach_sent && a.detach_read

-- the gateway detached
abbrev pub is_given_back : HandleState → Bool
is_given_back state.Free = false
is_given_back state.Asked = false
is_given_back (state.Attached a) = a.detach_sent && not a.detach_read

-- the handle of a link stands for what the link is
abbrev pub stands : HandleTable → Stage → Bool
stands t Wanted = true
stands t (Asked h) = is_asked (state_of t h)
stands t (Open h) = is_whole (state_of t h)
stands t (Refused h) = is_whole (state_of t h)
stands t (Left h) = is_half (state_of t h)
stands t (Given h) = is_given_back (state_of t h)
stands t (Failed h fault) = is_whole (state_of t h)

-- a link whose credit is kept is a sending one that neither end detached
abbrev pub is_kept : List PathLink → SendingLink → Bool
is_kept links x =
    list_any (λ l. has_number x.link l && not (is_parting l) && not l.receives) links

pub record AreTied (sending : List SendingLink) (links : List PathLink)
    (t : HandleTable) : Type 0 where
  pub rising : Rises 0 links
  pub apart : AreApart links
  pub standing : AllByRecursion (λ l. stands t l.stage ≡ true) links
  pub kept : AllByRecursion (λ x. is_kept links x ≡ true) sending
