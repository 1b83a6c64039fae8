-- The sending links of a life: each has the handle whose attach named its address, and each publish that is to go is for the address of its link.
use Rattle.std.proofs.Common.{◌≡◌, ◌∙◌, ◌⊎◌, inl, inr, ℕ, ◌+◌, ◌==◌, ◌≤◌, ◌&&◌, ◌||◌, not, Bool, true, false, if◌then◌else◌, cond, List, [], ◌∷◌, ◌++◌}
use Rattle.std.proofs.Common.{map, Option, None, Some, refl, sym, ap, subst, arith}
use Rattle.std.proofs.lemmas.Bool.Decides.{nat_tests}
use Rattle.std.proofs.lemmas.Slice.Eq.{bytes_eq-Decides}
use Rattle.std.specs.List.{AllByRecursion}
use Rattle.std.specs.Option.{option_map, option_or}
use Rattle.std.specs.Prelude.{filter, find, is_some, nat_le}
use Rattle.open_items.proofs.Filtered.{all_filter, all_find, all_map, all_push, find-filter}
use Rattle.open_items.specs.Numbers.{least}
use Rattle.link_table.specs.Table.{free_of, is_free, named_by, state_of}
use Rattle.publish_path.specs.Journal.{Fate, IsTaken, confirms_of, fate_of, goes_on, has_rest, is_to_go, new_fate, numbers_of}
use Rattle.publish_path.specs.Laws.{frame_at, frame_by, may_begin}
use Rattle.publish_path.specs.Links.{address_in, address_of, asked_link, begun_on, can_send, drained, flowed, has_address, has_number as is_of, link_of}
use Rattle.publish_path.specs.Links.{link_to, now_attached, without}
use Rattle.publish_path.specs.Offers.{links_after}
use Rattle.publish_path.specs.Publishes.{ConfirmSent, FrameSent, LinesTold, LinkGone, OutcomeCame, PublishEvent, ReturnSent, TakenUp, is_on, next_number}
use Rattle.publish_path.specs.declared.publish.NextFrame.{NextFrame}
use Rattle.publish_path.specs.declared.send_links.SendingLink.{SendingLink}
use Rattle.consume_path.specs.Offers.{next_settle_of}
use Rattle.consume_path.specs.declared.receiving.TransferFault.{TransferFault}
use Rattle.session_path.specs.Due.{address_at, attach_of, next_attach}
use Rattle.session_path.specs.Events as event
use Rattle.session_path.specs.Events.{PathEvent, after_event, after_events, losses, publish_events, publishes_of}
use Rattle.session_path.specs.Links.{LinksState, answered, answered_stage, asked_as, asked_by, asked_on, at_handle, attach_fault, attached, attached_as}
use Rattle.session_path.specs.Links.{detached_on, drained_if, failed_by, failed_on, flowed_on, free_number, given_by, given_on, gone_on, handle_at, handle_in, handle_in_link, handle_of}
use Rattle.session_path.specs.Links.{has_number, is_asked_as, is_at, is_given, is_left, is_stage_failed, is_stage_left, is_stage_open, is_stage_wanted, is_stage_whole, is_wanted}
use Rattle.session_path.specs.Links.{is_wanted_receiver, left_by, link_asked, linked_to, link_flowed, named, parted, put, stands, told_by, told_on, told_once, wanted_link, with_link_to}
use Rattle.session_path.specs.Links.{with_receiver, without_receivers}
use Rattle.session_path.specs.Path.{IsThere, PathState, flow_of, get_link, is_grant_next, number_of, owes_flow, queue_or, receiver_in, sender_in, source_of, taking}
use Rattle.session_path.specs.declared.path.AttachDue.{AttachDue}
use Rattle.session_path.specs.declared.path.AttachHeard.{AttachHeard}
use Rattle.session_path.specs.declared.path.PathLink.{PathLink}
use Rattle.session_path.specs.declared.path.Stage.{Stage}
use Rattle.session_path.specs.declared.path.Stage.TheVariants as stage
use Rattle.session_path.proofs.SameLinks.{attach_same, disposed_same, flow_sent_same, flowed_if, flowed_same, got_links, got_same, transfer_same}
use Rattle.session_path.proofs.Tied.{Tied, tied_after}
use Rattle.session_path.proofs.Ties.{and_left, and_right, dropped, eq_of, eq_to, found_number, found_passes, gone_is, ne_to, no_clash, not_false}
use Rattle.session_path.proofs.Wanted.{absent, free_none, link_to_new}
use Rattle.gate_model.specs.Addresses.{target_of}
use Rattle.gate_model.specs.Giving.{AreDone}
use Rattle.gate_model.proofs.Basics.{or_one}
use Rattle.gate_model.proofs.Fates.{IsToGo, least_passes, to_go}
use Rattle.gate_model.proofs.LinkCredits.{apart, found_filter, inserted_here, inserted_other, left_handle, mapped_here, mapped_other, none_passes, or_none}
use Rattle.gate_model.proofs.LinkCredits.{placed_here, placed_other, pushed, stage_asked, up_handle, without_here, without_other}
use Rattle.gate_model.proofs.LinkSends.{free_at, held}
use Rattle.gate_model.proofs.LinkSteps.{passes}
use Rattle.gate_model.proofs.Losing.{less_rest}
use Rattle.session_path.specs.Links.{without_wanted}
use Rattle.session_path.proofs.Tied.{tied_without}
use Rattle.session_path.proofs.Unwanted.{are_left}

-- the addresses that a fold says of handles, or of publishes
abbrev Names : Type 0
Names = ℕ → Option (List ℕ)

-- ---- a link

-- one that isn't asked for isn't attached; the handle of another is that of its address
abbrev Has : Names → SendingLink → Stage → Type 0
Has f x stage.Wanted = x.attached ≡ false
Has f x (stage.Asked h) = f h ≡ Some x.address
Has f x (stage.Open h) = f h ≡ Some x.address
Has f x (stage.Refused h) = f h ≡ Some x.address
Has f x (stage.Left h) = ⊥
Has f x (stage.Given h) = ⊥
Has f x (stage.Failed h fault) = ⊥

abbrev At : Names → Option SendingLink → Option PathLink → Type 0
At f None p = Unit {0}
At f (Some x) None = ⊥
At f (Some x) (Some l) = (l.receives ≡ false) × Has f x l.stage

abbrev pub Keeps : Names → LinksState → Type 0
Keeps f s = (n : ℕ) → At f (link_of s.sending n) (find (has_number n) s.links)

-- one that isn't wanted any more has a handle whose attach named its address
pub sends_on : (f : Names) (s : LinksState) (n : ℕ) (x : SendingLink) → Keeps f s → link_of s.sending n ≡ Some x
    → ((l : PathLink) → find (has_number n) s.links ≡ Some l → is_wanted l ≡ false) → (h : ℕ) × (f h ≡ Some x.address)
sends_on f s n x k e unwanted = by (find (has_number n) s.links) refl (subst (λ (o : Option SendingLink). At f o (find (has_number n) s.links)) e (k n))
  where
    at : (l : PathLink) (q : Stage) → l.stage ≡ q → is_wanted l ≡ false → Has f x q → (h : ℕ) × (f h ≡ Some x.address)
    at l stage.Wanted same i has = let wanted : is_wanted l ≡ true = ap is_stage_wanted same in absurd (no_clash (is_wanted l) wanted i)
    at l (stage.Asked h) same i has = (h, has)
    at l (stage.Open h) same i has = (h, has)
    at l (stage.Refused h) same i has = (h, has)
    at l (stage.Left h) same i has = absurd has
    at l (stage.Given h) same i has = absurd has
    at l (stage.Failed h fault) same i has = absurd has

    by : (p : Option PathLink) → find (has_number n) s.links ≡ p → At f (Some x) p → (h : ℕ) × (f h ≡ Some x.address)
    by None g a = absurd a
    by (Some l) g a = at l l.stage refl (unwanted l g) a.1

at_as : (f : Names) (o o' : Option SendingLink) (p p' : Option PathLink) → o' ≡ o → p' ≡ p → At f o p → At f o' p'
at_as f o o' p p' e g a = subst (λ (x : Option SendingLink). At f x p') (sym e) (subst (λ (x : Option PathLink). At f o x) (sym g) a)

has_on : (f g : Names) (x y : SendingLink) (q : Stage) → y.address ≡ x.address → (x.attached ≡ false → y.attached ≡ false)
    → ((h : ℕ) → handle_in q ≡ Some h → g h ≡ f h) → Has f x q → Has g y q
has_on f g x y stage.Wanted e b same i = b i
has_on f g x y (stage.Asked h) e b same i = same h refl ∙ i ∙ ap Some (sym e)
has_on f g x y (stage.Open h) e b same i = same h refl ∙ i ∙ ap Some (sym e)
has_on f g x y (stage.Refused h) e b same i = same h refl ∙ i ∙ ap Some (sym e)
has_on f g x y (stage.Left h) e b same i = i
has_on f g x y (stage.Given h) e b same i = i
has_on f g x y (stage.Failed h fault) e b same i = i

at_on : (f g : Names) (o : Option SendingLink) (p : Option PathLink) → ((l : PathLink) → p ≡ Some l → (h : ℕ) → handle_in l.stage ≡ Some h → g h ≡ f h)
    → At f o p → At g o p
at_on f g None p same a = tt
at_on f g (Some x) None same a = a
at_on f g (Some x) (Some l) same a = (a.0, has_on f g x x l.stage refl (λ e. e) (same l refl) a.1)

-- another link in its place that is as far
at_like : (f : Names) (l k : PathLink) → k.receives ≡ l.receives → k.stage ≡ l.stage → (o : Option SendingLink) → At f o (Some l) → At f o (Some k)
at_like f l k role st None a = tt
at_like f l k role st (Some x) a = (role ∙ a.0, subst (Has f x) (sym st) a.1)

-- no credit is kept of a receiving link, and of one that either end detached
none_at : (f : Names) (l : PathLink) (o : Option SendingLink) → l.receives ≡ true → At f o (Some l) → o ≡ None
none_at f l None role a = refl
none_at f l (Some x) role a = absurd (no_clash l.receives role a.0)

gone_at : (f : Names) (l : PathLink) (o : Option SendingLink) → is_left l ≡ true → At f o (Some l) → o ≡ None
gone_at f l None e a = refl
gone_at f l (Some x) e a = absurd (by l.stage e a.1)
  where
    by : (q : Stage) → is_stage_left q ≡ true → Has f x q → ⊥
    by stage.Wanted e i = absurd cc
    by (stage.Asked h) e i = absurd cc
    by (stage.Open h) e i = absurd cc
    by (stage.Refused h) e i = absurd cc
    by (stage.Left h) e i = i
    by (stage.Given h) e i = i
    by (stage.Failed h fault) e i = i

-- ---- changes of links

changed : (f g : Names) (s u : LinksState) (k : ℕ)
    → ((n : ℕ) → (k == n) ≡ false → At f (link_of s.sending n) (find (has_number n) s.links) → At g (link_of u.sending n) (find (has_number n) u.links))
    → (At f (link_of s.sending k) (find (has_number k) s.links) → At g (link_of u.sending k) (find (has_number k) u.links)) → Keeps f s → Keeps g u
changed f g s u k others here a n = by (k == n) refl
  where
    by : (b : Bool) → (k == n) ≡ b → At g (link_of u.sending n) (find (has_number n) u.links)
    by true e = subst (λ (m : ℕ). At g (link_of u.sending m) (find (has_number m) u.links)) (eq_of k n e) (here (a k))
    by false e = others n e (a n)

placed : (f : Names) (s : LinksState) (l x : PathLink) → find (has_number l.link) s.links ≡ Some l → x.link ≡ l.link → ((o : Option SendingLink) → At f o (Some l) → At f o (Some x))
    → Keeps f s → Keeps f (record s { links = put x s.links })
placed f s l x own number to =
    changed f f s (record s { links = put x s.links }) l.link
    (λ n ne a. at_as f _ _ _ _ refl (placed_other n x s.links (ap (λ (m : ℕ). m == n) number ∙ ne)) a)
    (λ a. at_as f _ _ _ _ refl (placed_here l.link x l s.links number own) (to (link_of s.sending l.link) (at_as f _ _ _ _ refl (sym own) a)))

-- a change of each sending link that leaves its number and its address
record Moves (c : SendingLink → SendingLink) : Type 0 where
  number : (x : SendingLink) → (c x).link ≡ x.link
  address : (x : SendingLink) → (c x).address ≡ x.address
  raised : (x : SendingLink) → x.attached ≡ true → (c x).attached ≡ true

at_moved : (f : Names) (c : SendingLink → SendingLink) → Moves c → ((x : SendingLink) → x.attached ≡ false → (c x).attached ≡ false) → (o : Option SendingLink) (p : Option PathLink)
    → At f o p → At f (option_map c o) p
at_moved f c m lower None p a = tt
at_moved f c m lower (Some x) None a = a
at_moved f c m lower (Some x) (Some l) a = (a.0, has_on f f x (c x) l.stage (m.address x) (lower x) (λ h e. refl) a.1)

moved : (f : Names) (c : SendingLink → SendingLink) → Moves c → ((x : SendingLink) → x.attached ≡ false → (c x).attached ≡ false) → (s : LinksState)
    → Keeps f s → Keeps f (record s { sending = map c s.sending })
moved f c m lower s a n = at_as f _ _ _ _ (mapped_here n c m.number s.sending) refl (at_moved f c m lower (link_of s.sending n) (find (has_number n) s.links) (a n))

flow_moves : (link : ℕ) (count : Option ℕ) (credit : ℕ) → Moves (flowed link count credit)
flow_moves link count credit = record { number = λ x. refl; address = λ x. refl; raised = λ x e. e }

drain_moves : (link : ℕ) → Moves (drained link)
drain_moves link = record { number = λ x. refl; address = λ x. refl; raised = λ x e. e }

begun_moves : (link : ℕ) → Moves (begun_on link)
begun_moves link = record { number = λ x. refl; address = λ x. refl; raised = λ x e. e }

attach_moves : (link : ℕ) → Moves (now_attached link)
attach_moves link = record { number = λ x. refl; address = λ x. refl; raised = λ x. by (x.link == link) x.attached }
  where
    by : (b r : Bool) → r ≡ true → (if b then true else r) ≡ true
    by true r e = refl
    by false r e = e

dropped_other : (n k : ℕ) (ls : List PathLink) → (k == n) ≡ false → find (has_number n) (dropped k ls) ≡ find (has_number n) ls
dropped_other n k ls ne =
    find-filter (λ x. not (has_number k x)) (has_number n) (λ x e. ne_to x.link n (λ same. no_clash (k == n) (eq_to k n (sym (eq_of x.link k (not_false (x.link == k) e)) ∙ same)) ne)) ls

-- a link of which no credit is kept any more
removed : (f : Names) (s u : LinksState) (k : ℕ) → u.sending ≡ without k s.sending → ((n : ℕ) → (k == n) ≡ false → find (has_number n) u.links ≡ find (has_number n) s.links)
    → Keeps f s → Keeps f u
removed f s u k is others =
    changed f f s u k (λ n ne a. at_as f _ _ _ _ (ap (λ (xs : List SendingLink). link_of xs n) is ∙ without_other n k s.sending ne) (others n ne) a)
    (λ a. at_as f None _ _ _ (ap (λ (xs : List SendingLink). link_of xs k) is ∙ without_here k s.sending) refl tt)

-- ---- no two sending links have one number

abbrev AreSingle : List SendingLink → Type 0
AreSingle [] = Unit {0}
AreSingle (x ∷ xs) = AllByRecursion (λ y. (x.link == y.link) ≡ false) xs × AreSingle xs

single_map : (c : SendingLink → SendingLink) → ((x : SendingLink) → (c x).link ≡ x.link) → (xs : List SendingLink) → AreSingle xs → AreSingle (map c xs)
single_map c number [] a = tt
single_map c number (x ∷ xs) a = (
  all_map c (λ y. (x.link == y.link) ≡ false) (λ y. ((c x).link == y.link) ≡ false) (λ y e. ap (λ (k : ℕ). k == (c y).link) (number x) ∙ ap (λ (k : ℕ). x.link == k) (number y) ∙ e) xs a.0,
  single_map c number xs a.1,
)

single_filter : (o : SendingLink → Bool) (xs : List SendingLink) → AreSingle xs → AreSingle (filter o xs)
single_filter o [] a = tt
single_filter o (x ∷ xs) a = by (o x) (single_filter o xs a.1)
  where
    by : (b : Bool) → AreSingle (filter o xs) → AreSingle (cond b (x ∷ filter o xs) (filter o xs))
    by true rest = (all_filter o (λ y. (x.link == y.link) ≡ false) xs a.0, rest)
    by false rest = rest

single_push : (xs : List SendingLink) (y : SendingLink) → AllByRecursion (λ x. (x.link == y.link) ≡ false) xs → AreSingle xs → AreSingle (xs ++ y ∷ [])
single_push [] y n a = (tt, tt)
single_push (x ∷ xs) y n a = (all_push (λ z. (x.link == z.link) ≡ false) xs y a.0 n.0, single_push xs y n.1 a.1)

single_of : (xs : List SendingLink) (address : List ℕ) (x : SendingLink) → AreSingle xs → link_to xs address ≡ Some x → link_of xs x.link ≡ Some x
single_of [] address x a e = absurd cc
single_of (y ∷ ys) address x a e = by (has_address address y) (single_of ys address x a.1) e
  where
    by : (b : Bool) → (link_to ys address ≡ Some x → link_of ys x.link ≡ Some x) → cond b (Some y) (link_to ys address) ≡ Some x
        → cond (y.link == x.link) (Some y) (link_of ys x.link) ≡ Some x
    by true ih f =
        let same : y ≡ x = cc in
        ap (λ (b : Bool). cond b (Some y) (link_of ys x.link)) (eq_to y.link x.link (ap (λ (z : SendingLink). z.link) same)) ∙ ap Some same
    by false ih f = ap (λ (b : Bool). cond b (Some y) (link_of ys x.link)) (all_find (λ z. (y.link == z.link) ≡ false) (has_address address) ys x a.0 f).0 ∙ ih f

-- ---- the publishes that are to go

-- of one: its link is there, to its address; and is attached, where a frame of it went
pub record Goes (a : Names) (xs : List SendingLink) (k : ℕ) (f : Fate) : Type 0 where
  pub link : SendingLink
  pub is : link_of xs f.link ≡ Some link
  pub address : a k ≡ Some link.address
  pub attached : f.begun ≡ true → link.attached ≡ true

abbrev pub AllGo : Names → List SendingLink → List PublishEvent → Type 0
AllGo a xs ds = (k : ℕ) → IsTaken ds k → is_to_go (fate_of k ds) ≡ true → Goes a xs k (fate_of k ds)

-- a link that is there still
record Later (ys : List SendingLink) (n : ℕ) (x : SendingLink) : Type 0 where
  link : SendingLink
  is : link_of ys n ≡ Some link
  address : link.address ≡ x.address
  attached : x.attached ≡ true → link.attached ≡ true

abbrev Stays : List SendingLink → List SendingLink → ℕ → Type 0
Stays xs ys n = (x : SendingLink) → link_of xs n ≡ Some x → Later ys n x

stay : (xs ys : List SendingLink) (n : ℕ) → link_of ys n ≡ link_of xs n → Stays xs ys n
stay xs ys n same x e = record { link = x; is = same ∙ e; address = refl; attached = λ t. t }

stay_moved : (c : SendingLink → SendingLink) → Moves c → (xs : List SendingLink) (n : ℕ) → Stays xs (map c xs) n
stay_moved c m xs n x e = record { link = c x; is = mapped_here n c m.number xs ∙ ap (option_map c) e; address = m.address x; attached = m.raised x }

still : (a : Names) (xs ys : List SendingLink) (k : ℕ) (f g : Fate) → g.link ≡ f.link → (g.begun ≡ true → f.begun ≡ true) → Stays xs ys f.link → Goes a xs k f → Goes a ys k g
still a xs ys k f g link begun stays t =
    let y = stays t.link t.is in
    record { link = y.link; is = ap (link_of ys) link ∙ y.is; address = t.address ∙ ap Some (sym y.address); attached = λ e. y.attached (t.attached (begun e)) }

all_still : (a : Names) (xs ys : List SendingLink) (ds : List PublishEvent) → ((n : ℕ) → Stays xs ys n) → AllGo a xs ds → AllGo a ys ds
all_still a xs ys ds stays all k taken go = still a xs ys k (fate_of k ds) (fate_of k ds) refl (λ b. b) (stays (fate_of k ds).link) (all k taken go)

-- by an event that leaves what is to go
abbrev is_calm : PublishEvent → Bool
is_calm (TakenUp link confirm payload back) = false
is_calm (FrameSent number first part) = false
is_calm (LinkGone link not_found) = false
is_calm x = true

calm_go : (a : Names) (xs : List SendingLink) (ds : List PublishEvent) (x : PublishEvent) → is_calm x ≡ true → AllGo a xs ds → AllGo a xs (x ∷ ds)
calm_go a xs ds (TakenUp link confirm payload back) e all = absurd cc
calm_go a xs ds (FrameSent number first part) e all = absurd cc
calm_go a xs ds (LinkGone link not_found) e all = absurd cc
calm_go a xs ds x e all = λ k taken go. still a xs xs k (fate_of k ds) (fate_of k (x ∷ ds)) refl (λ b. b) (stay xs xs _ refl) (all k taken go)

uncut : (cut on begun rest : Bool) → ((not (cut || on) && not begun) || (not (cut || on) && begun && rest)) ≡ true
    → (on ≡ false) × (((not cut && not begun) || (not cut && begun && rest)) ≡ true)
uncut true on begun rest e = absurd cc
uncut false true begun rest e = absurd cc
uncut false false begun rest e = (refl, e)

-- a link is lost
gone_go : (a : Names) (xs ys : List SendingLink) (ds : List PublishEvent) (link : Option ℕ) (not_found : Bool) → ((n : ℕ) → is_on link n ≡ false → Stays xs ys n)
    → AllGo a xs ds → AllGo a ys (LinkGone link not_found ∷ ds)
gone_go a xs ys ds link not_found stays all k taken go =
    let f = fate_of k ds in
    let left = uncut f.cut (is_on link f.link) f.begun (has_rest f) go in
    still a xs ys k f (fate_of k (LinkGone link not_found ∷ ds)) refl (λ b. b) (stays f.link left.0) (all k taken left.1)

-- a frame went
before_frame : (cut begun here rest later : Bool) → (rest ≡ false → later ≡ false) → ((not cut && not (begun || here)) || (not cut && (begun || here) && later)) ≡ true
    → ((not cut && not begun) || (not cut && begun && rest)) ≡ true
before_frame true begun here rest later less e = absurd cc
before_frame false false here rest later less e = refl
before_frame false true here true later less e = refl
before_frame false true here false later less e = let no : later ≡ false = less refl in absurd (no_clash later e no)

framed_go : (a : Names) (xs ys : List SendingLink) (ds : List PublishEvent) (number : ℕ) (first : Bool) (part : List ℕ) → ((n : ℕ) → Stays xs ys n)
    → (((fate_of number ds).begun ≡ true) ⊎ (can_send (link_of xs (fate_of number ds).link) ≡ true)) → AllGo a xs ds → AllGo a ys (FrameSent number first part ∷ ds)
framed_go a xs ys ds number first part stays ready all k taken go =
    record { link = y.link; is = y.is; address = old.address ∙ ap Some (sym y.address); attached = λ e. y.attached (begun (k == number) refl e) }
  where
    f : Fate
    f = fate_of k ds

    old : Goes a xs k f
    old = all k taken (before_frame f.cut f.begun (k == number) (has_rest f) _ (less_rest (k == number) f.sent part f.payload) go)

    y : Later ys f.link old.link
    y = stays f.link old.link old.is

    sends : (x : SendingLink) → can_send (Some x) ≡ true → x.attached ≡ true
    sends x e = and_left x.attached (nat_le 1 x.state.credit) e

    now : ((f.begun ≡ true) ⊎ (can_send (link_of xs f.link) ≡ true)) → old.link.attached ≡ true
    now (inl e) = old.attached e
    now (inr e) = sends old.link (subst (λ (o : Option SendingLink). can_send o ≡ true) old.is e)

    begun : (b : Bool) → (k == number) ≡ b → (f.begun || b) ≡ true → old.link.attached ≡ true
    begun true e g = now (subst (λ (i : ℕ). ((fate_of i ds).begun ≡ true) ⊎ (can_send (link_of xs (fate_of i ds).link) ≡ true)) (sym (eq_of k number e)) ready)
    begun false e g = old.attached (sym (or_one f.begun) ∙ g)

-- ---- the frame that goes

pub record Sends (xs : List SendingLink) (ds : List PublishEvent) (frame : NextFrame) : Type 0 where
  pub link : frame.link ≡ (fate_of frame.publish ds).link
  pub ready : ((fate_of frame.publish ds).begun ≡ true) ⊎ (can_send (link_of xs (fate_of frame.publish ds).link) ≡ true)

pub sends : (xs : List SendingLink) (ds : List PublishEvent) (frame : NextFrame) → frame_by xs ds ≡ Some frame → Sends xs ds frame
sends xs ds frame e = by _ refl _ refl e
  where
    begun : (f : Fate) → goes_on f ≡ true → f.begun ≡ true
    begun f g = by f.cut f.begun (has_rest f) g
      where
        by : (c b r : Bool) → (not c && b && r) ≡ true → b ≡ true
        by true b r i = absurd cc
        by false true r i = refl
        by false false r i = absurd cc

    by : (p : Option ℕ) → least (λ n. goes_on (fate_of n ds)) (numbers_of ds) ≡ p → (q : Option ℕ) → least (λ n. may_begin xs (fate_of n ds)) (numbers_of ds) ≡ q
        → option_or (option_map (frame_at false ds) p) (option_map (frame_at true ds) q) ≡ Some frame → Sends xs ds frame
    by (Some k) i q j g =
        let same : frame_at false ds k ≡ frame = cc in
        subst (Sends xs ds) same (record { link = refl; ready = inl (begun (fate_of k ds) (least_passes (λ n. goes_on (fate_of n ds)) (numbers_of ds) k i).2) })
    by None i (Some k) j g =
        let same : frame_at true ds k ≡ frame = cc in
        subst (Sends xs ds) same (record { link = refl; ready = inr (and_right _ _ (least_passes (λ n. may_begin xs (fate_of n ds)) (numbers_of ds) k j).2) })
    by None i None j g = absurd cc

-- ---- both, after some events

-- so many publishes were taken up
pub record Holds (f a : Names) (count : ℕ) (s : LinksState) (ds : List PublishEvent) : Type 0 where
  pub keeps : Keeps f s
  pub single : AreSingle s.sending
  pub goes : AllGo a s.sending ds
  pub counted : numbers_of ds ≡ count

module _ (f a : Names) (c : ℕ) (ds : List PublishEvent) where
  abbrev On : LinksState → Type 0
  On s = Holds f a c s ds

  -- the sending links stay
  as_sent : (s u : LinksState) → u.sending ≡ s.sending → (Keeps f s → Keeps f u) → On s → On u
  as_sent s u same keeps h = record {
    keeps = keeps h.keeps;
    single = subst AreSingle (sym same) h.single;
    goes = subst (λ (xs : List SendingLink). AllGo a xs ds) (sym same) h.goes;
    counted = h.counted;
  }

  -- or change, and are there still
  as_moved : (m : SendingLink → SendingLink) → Moves m → (s u : LinksState) → u.sending ≡ map m s.sending → (Keeps f s → Keeps f u) → On s → On u
  as_moved m moves s u same keeps h = record {
    keeps = keeps h.keeps;
    single = subst AreSingle (sym same) (single_map m moves.number s.sending h.single);
    goes = subst (λ (xs : List SendingLink). AllGo a xs ds) (sym same) (all_still a s.sending (map m s.sending) ds (stay_moved m moves s.sending) h.goes);
    counted = h.counted;
  }

  -- ---- links that are wanted, and those that aren't any more

  received : (s : LinksState) → Tied s → On s → On (with_receiver s)
  received s t =
      as_sent s (with_receiver s) refl
      (changed f f s (with_receiver s) k (λ n ne x. at_as f _ _ _ _ refl (inserted_other n k k true s.links ne) x) (λ x. at_as f None _ _ _ (free_none s.sending s.links s.handles t) refl tt))
    where
      k : ℕ
      k = free_number s.links

  unwanted : (s : LinksState) → On s → On (without_receivers s)
  unwanted s = as_sent s (without_receivers s) refl (λ keeps n. by n (link_of s.sending n) (find (has_number n) s.links) refl (keeps n))
    where
      sent : (b r : Bool) → r ≡ false → not (b && r) ≡ true
      sent b true e = absurd cc
      sent true false e = refl
      sent false false e = refl

      by : (n : ℕ) (o : Option SendingLink) (p : Option PathLink) → find (has_number n) s.links ≡ p → At f o p → At f o (find (has_number n) (without_receivers s).links)
      by n None p e x = tt
      by n (Some y) None e x = absurd x
      by n (Some y) (Some l) e x =
          at_as f (Some y) (Some y) (Some l) _ refl (found_filter (has_number n) (λ k. not (is_wanted_receiver k)) s.links l e (sent (is_wanted l) l.receives x.0)) x

  -- ---- what the container sends

  -- its attach answers a link that was asked for
  answers : (at : AttachHeard) (s : LinksState) (l : PathLink) → Tied s → find (is_asked_as at.name at.role) s.links ≡ Some l → On s → On (attached_as (Some l) at.peer at.there s)
  answers at s l t found = by at.there refl
    where
      own : find (has_number l.link) s.links ≡ Some l
      own = found_number (is_asked_as at.name at.role) s.links l t.rising found

      staged : l.stage ≡ stage.Asked (handle_of l.stage)
      staged = stage_asked l.stage (and_left _ _ (and_left _ _ (found_passes (is_asked_as at.name at.role) s.links l found)))

      u : Bool → LinksState
      u b = attached_as (Some l) at.peer b s

      has : (b : Bool) (x : SendingLink) → Has f x l.stage → Has f x (answered_stage b (handle_of l.stage))
      has true x i = subst (Has f x) staged i
      has false x i = subst (Has f x) staged i

      others : (n : ℕ) → (l.link == n) ≡ false → (xs : List SendingLink) → link_of (map (now_attached l.link) xs) n ≡ link_of xs n
      others n ne =
          mapped_other n (now_attached l.link) (λ x. refl)
          (λ x e. ap (λ (b : Bool). record x { attached = cond b true x.attached }) (ne_to x.link l.link (λ same. no_clash (l.link == n) (eq_to l.link n (sym same ∙ e)) ne)))

      here : (o : Option SendingLink) → At f o (Some l) → At f (option_map (now_attached l.link) o) (Some (answered true l))
      here None x = tt
      here (Some y) x = (x.0, has true y x.1)

      keeps : Keeps f s → Keeps f (u true)
      keeps =
          changed f f s (u true) l.link (λ n ne x. at_as f _ _ _ _ (others n ne s.sending) (placed_other n (answered true l) s.links ne) x)
          (λ x. at_as f _ _ _ _ (mapped_here l.link (now_attached l.link) (λ y. refl) s.sending) (placed_here l.link (answered true l) l s.links refl own)
          (here (link_of s.sending l.link) (at_as f _ _ _ _ refl (sym own) x)))

      refused : (o : Option SendingLink) → At f o (Some l) → At f o (Some (answered false l))
      refused None x = tt
      refused (Some y) x = (x.0, has false y x.1)

      by : (b : Bool) → at.there ≡ b → On s → On (u b)
      by true e = as_moved (now_attached l.link) (attach_moves l.link) s (u true) refl keeps
      by false e = as_sent s (u false) refl (placed f s l (answered false l) own refl refused)

  attaches : (at : AttachHeard) (s : LinksState) → Tied s → On s → On (attached at s)
  attaches at s t h = by (is_some (attach_fault at.name at.role at.peer s)) (find (is_asked_as at.name at.role) s.links) refl
    where
      by : (b : Bool) (o : Option PathLink) → find (is_asked_as at.name at.role) s.links ≡ o → On (attached_as (cond b None o) at.peer at.there s)
      by true o e = h
      by false None e = h
      by false (Some l) e = answers at s l t e h

  -- the link that its handle names
  named_there : (peer : ℕ) (s : LinksState) (l : PathLink) → Tied s → named peer s ≡ Some l → find (has_number l.link) s.links ≡ Some l
  named_there peer s l t = by (named_by s.handles peer)
    where
      by : (o : Option ℕ) → at_handle o s.links ≡ Some l → find (has_number l.link) s.links ≡ Some l
      by None e = absurd cc
      by (Some h) e = found_number (is_at h) s.links l t.rising e

  flows : (peer : ℕ) (count : Option ℕ) (credit : ℕ) (drain echo : Bool) (s : LinksState) → Tied s → On s → On (link_flowed peer count credit drain echo s)
  flows peer count credit drain echo s t h = by (named peer s) refl
    where
      by : (o : Option PathLink) → named peer s ≡ o → On (flowed_on o count credit drain echo s)
      by None e = h
      by (Some l) e =
          as_moved (flowed l.link count credit) (flow_moves l.link count credit) s (flowed_on (Some l) count credit drain echo s) refl
          (λ keeps. moved f (flowed l.link count credit) (flow_moves l.link count credit) (λ x i. i) (record s { links = put (told_by drain echo l) s.links })
          (placed f s l (told_by drain echo l) (named_there peer s l t e) refl (at_like f l (told_by drain echo l) refl refl) keeps)) h

  fails : (peer : ℕ) (fault : TransferFault) (s : LinksState) → Tied s → On s → On (failed_on (named peer s) fault s)
  fails peer fault s t h = by (named peer s) refl
    where
      one : (l : PathLink) → l.receives ≡ true → (o : Option SendingLink) → At f o (Some l) → At f o (Some (failed_by fault l))
      one l role None x = tt
      one l role (Some y) x = absurd (no_clash l.receives role x.0)

      if_so : (l : PathLink) → named peer s ≡ Some l → (b : Bool) → (is_stage_whole l.stage && l.receives) ≡ b → On (cond b (record s { links = put (failed_by fault l) s.links }) s)
      if_so l e false g = h
      if_so l e true g =
          as_sent s (record s { links = put (failed_by fault l) s.links }) refl (placed f s l (failed_by fault l) (named_there peer s l t e) refl (one l (and_right _ _ g))) h

      by : (o : Option PathLink) → named peer s ≡ o → On (failed_on o fault s)
      by None e = h
      by (Some l) e = if_so l e (is_stage_whole l.stage && l.receives) refl

  -- ---- the gateway's flow of a sending link

  tells : (p : PathLink → Bool) (s : LinksState) (o : Option PathLink) → Tied s → find p s.links ≡ o → On s → On (told_on o s)
  tells p s None t e h = h
  tells p s (Some l) t e h = by (l.echoes == 0)
    where
      u : Bool → LinksState
      u b = record s { sending = drained_if b l.link s.sending; links = put (told_once l) s.links }

      keeps : Keeps f s → Keeps f (u false)
      keeps = placed f s l (told_once l) (found_number p s.links l t.rising e) refl (at_like f l (told_once l) refl refl)

      by : (b : Bool) → On (u b)
      by true = as_moved (drained l.link) (drain_moves l.link) s (u true) refl (λ k. moved f (drained l.link) (drain_moves l.link) (λ x i. i) (u false) (keeps k)) h
      by false = as_sent s (u false) refl keeps h

-- ---- losses of links

detached : (f a : Names) (c : ℕ) (not_found : Bool) (peer : ℕ) (s : LinksState) (ds : List PublishEvent) → Tied s → Holds f a c s ds
    → Holds f a c (detached_on (named peer s) s) (losses not_found (sender_in (named peer s)) ++ ds)
detached f a c not_found peer s ds t h = by (named peer s) refl
  where
    one : (l : PathLink) → named peer s ≡ Some l → (b : Bool) → l.receives ≡ b → Holds f a c (detached_on (Some l) s) (losses not_found (cond b None (Some l)) ++ ds)
    one l e b role = role_by b role
      where
        u : LinksState
        u = detached_on (Some l) s

        own : find (has_number l.link) s.links ≡ Some l
        own = named_there f a c ds peer s l t e

        others : (n : ℕ) → (l.link == n) ≡ false → find (has_number n) u.links ≡ find (has_number n) s.links
        others n ne = kind (is_given l)
          where
            kind : (g : Bool) → find (has_number n) (cond g (dropped l.link s.links) (put (left_by s.sending l) s.links)) ≡ find (has_number n) s.links
            kind true = dropped_other n l.link s.links ne
            kind false = placed_other n (left_by s.sending l) s.links ne

        keeps : Keeps f u
        keeps = removed f s u l.link refl others h.keeps

        single : AreSingle u.sending
        single = single_filter (λ x. not (is_of l.link x)) s.sending h.single

        -- none is left on it that is to go
        none : l.receives ≡ true → link_of s.sending l.link ≡ None
        none role = none_at f l (link_of s.sending l.link) role (at_as f _ _ _ _ refl (sym own) (h.keeps l.link))

        kept : l.receives ≡ true → (n : ℕ) → Stays s.sending u.sending n
        kept role n x is = stay s.sending u.sending n (without_other n l.link s.sending (ne_to l.link n (λ same. cut (ap (link_of s.sending) (sym same) ∙ none role) is))) x is
          where
            cut : link_of s.sending n ≡ None → link_of s.sending n ≡ Some x → ⊥
            cut i j = let no : None ≡ Some x = sym i ∙ j in cc

        apart_from : (n : ℕ) → (n == l.link) ≡ false → (l.link == n) ≡ false
        apart_from n ne = ne_to l.link n (λ same. no_clash (n == l.link) (eq_to n l.link (sym same)) ne)

        role_by : (b : Bool) → l.receives ≡ b → Holds f a c u (losses not_found (cond b None (Some l)) ++ ds)
        role_by true role = record { keeps = keeps; single = single; goes = all_still a s.sending u.sending ds (kept role) h.goes; counted = h.counted }
        role_by false role = record {
          keeps = keeps;
          single = single;
          goes = gone_go a s.sending u.sending ds (Some l.link) not_found (λ n off. stay s.sending u.sending n (without_other n l.link s.sending (apart_from n off))) h.goes;
          counted = h.counted;
        }

    by : (o : Option PathLink) → named peer s ≡ o → Holds f a c (detached_on o s) (losses not_found (sender_in o) ++ ds)
    by None e = h
    by (Some l) e = one l e l.receives refl

-- all are
lost : (f a : Names) (c : ℕ) (s u : LinksState) (ds : List PublishEvent) → u.sending ≡ [] → Holds f a c s ds → Holds f a c u (LinkGone None false ∷ ds)
lost f a c s u ds none h = record {
  keeps = λ n. at_as f None _ _ _ (ap (λ (xs : List SendingLink). link_of xs n) none) refl tt;
  single = subst AreSingle (sym none) tt;
  goes = gone_go a s.sending u.sending ds None false (λ n off. absurd cc) h.goes;
  counted = h.counted;
}

-- all publishes are, and no link is wanted any more
unlinked : (f a : Names) (c : ℕ) (s : LinksState) (ds : List PublishEvent) → Tied s → Holds f a c s ds → Holds f a c (without_wanted s) (LinkGone None false ∷ ds)
unlinked f a c s ds t h = record {
  keeps = λ n. elim (are_left n s t.rising) [
    | inl (e, g) ↦ at_as f None _ None _ e g tt
    | inr (e, g) ↦ at_as f _ _ _ _ e g (h.keeps n)
  ];
  single = single_filter _ s.sending h.single;
  goes = gone_go a s.sending (without_wanted s).sending ds None false (λ n off. absurd cc) h.goes;
  counted = h.counted;
}

calm : (f a : Names) (c : ℕ) (s : LinksState) (ds : List PublishEvent) (x : PublishEvent) → is_calm x ≡ true → Holds f a c s ds → Holds f a c s (x ∷ ds)
calm f a c s ds x e h = record { keeps = h.keeps; single = h.single; goes = calm_go a s.sending ds x e h.goes; counted = count x e }
  where
    count : (x : PublishEvent) → is_calm x ≡ true → numbers_of (x ∷ ds) ≡ c
    count (TakenUp link confirm payload back) i = absurd cc
    count (FrameSent number first part) i = absurd cc
    count (LinkGone link not_found) i = absurd cc
    count y i = h.counted

-- ---- events that name no address

abbrev pub is_mute : PathEvent → Bool
is_mute (event.Published address payload back) = false
is_mute (event.AttachSent name) = false
is_mute (event.TransferSent frame count) = false
is_mute event.DetachSent = false
is_mute x = true

module _ (f a : Names) (c : ℕ) where
  mute_holds : (x : PathEvent) (s : PathState) (ds : List PublishEvent) → is_mute x ≡ true → Tied s.links → Holds f a c s.links ds
      → Holds f a c (after_event x s).links (publish_events s x ++ ds)
  mute_holds (event.Published address payload back) s ds e t h = absurd cc
  mute_holds (event.AttachSent name) s ds e t h = absurd cc
  mute_holds (event.TransferSent frame count) s ds e t h = absurd cc
  mute_holds event.DetachSent s ds e t h = absurd cc
  mute_holds (event.Began handle_max) s ds e t h = as_sent f a c ds s.links (after_event (event.Began handle_max) s).links refl (λ k. k) h
  mute_holds (event.Consumed queue tag no_ack no_wait) s ds e t h = received f a c ds s.links t h
  mute_holds (event.Declared queue no_wait) s ds e t h = received f a c ds s.links t h
  mute_holds (event.GetAsked queue no_ack) s ds e t h =
      subst (λ (z : LinksState). Holds f a c z ds) (sym (got_same (get_link (queue_or s.queue queue) s) (queue_or s.queue queue) no_ack s)) (by (get_link (queue_or s.queue queue) s))
    where
      by : (o : Option PathLink) → Holds f a c (got_links o s.links) ds
      by None = received f a c ds s.links t h
      by (Some l) = h
  mute_holds (event.AttachCame at) s ds e t h =
      subst (λ (z : LinksState). Holds f a c z ds) (sym (attach_same (asked_by at s.links) at (record s { links = attached at s.links }))) (attaches f a c ds at s.links t h)
  mute_holds (event.FlowCame peer count credit drain echo) s ds e t h =
      subst (λ (z : LinksState). Holds f a c z ds) (sym (flowed_same (receiver_in (named peer s.links)) peer count credit drain echo s)) (by (receiver_in (named peer s.links)))
    where
      by : (o : Option PathLink) → Holds f a c (flowed_if o peer count credit drain echo s.links) ds
      by None = flows f a c ds peer count credit drain echo s.links t h
      by (Some l) = h
  mute_holds (event.DetachCame peer not_found) s ds e t h = detached f a c not_found peer s.links ds t h
  mute_holds (event.TransferCame peer part payload image again) s ds e t h =
      subst (λ (z : LinksState). Holds f a c z ds) (sym (transfer_same (taking peer s) part payload image again s)) h
  mute_holds (event.LinkFailed peer fault) s ds e t h = fails f a c ds peer fault s.links t h
  mute_holds (event.DispositionCame first last outcome settled) s ds e t h = calm f a c s.links ds (OutcomeCame _ _ _) refl h
  mute_holds event.LinkFlowSent s ds e t h =
      subst (λ (z : LinksState). Holds f a c z ds) (sym (flow_sent_same s)) (by (is_grant_next s))
    where
      by : (b : Bool) → Holds f a c (cond b s.links (told_on (flow_of s.publishes.list s.links) s.links)) ds
      by true = h
      by false = tells f a c ds (owes_flow s.publishes.list s.links.sending) s.links (flow_of s.publishes.list s.links) t refl h
  mute_holds event.DisposeSent s ds e t h = subst (λ (z : LinksState). Holds f a c z ds) (sym (disposed_same (next_settle_of s.deliveries.list) s)) h
  mute_holds (event.ConfirmWent confirm) s ds e t h = calm f a c s.links ds (ConfirmSent confirm) refl h
  mute_holds (event.ReturnWent number) s ds e t h = calm f a c s.links ds (ReturnSent number) refl h
  mute_holds event.LinesWent s ds e t h = calm f a c s.links ds LinesTold refl h
  mute_holds event.LifeClosed s ds e t h = unwanted f a c ds s.links h
  mute_holds event.SessionLost s ds e t h = unlinked f a c (without_receivers s.links) ds (tied_without s.links t) (unwanted f a c ds s.links h)
  mute_holds event.SessionEnded s ds e t h = lost f a c s.links (after_event event.SessionEnded s).links ds refl h
  mute_holds event.UpLost s ds e t h = lost f a c s.links (after_event event.UpLost s).links ds refl h
  mute_holds x s ds e t h = h

  pub mutes_hold : (life : ℕ) (xs es : List PathEvent) → AllByRecursion (λ x. is_mute x ≡ true) xs → Holds f a c (after_events life es).links (publishes_of life es)
      → Holds f a c (after_events life (xs ++ es)).links (publishes_of life (xs ++ es))
  mutes_hold life [] es m h = h
  mutes_hold life (x ∷ xs) es m h =
      mute_holds x (after_events life (xs ++ es)) (publishes_of life (xs ++ es)) m.0 (tied_after life (xs ++ es)) (mutes_hold life xs es m.1 h)

-- ---- a publish

-- the link to an address
record LinkedTo (ys : List SendingLink) (address : List ℕ) : Type 0 where
  link : SendingLink
  is : link_of ys (number_of (link_to ys address)) ≡ Some link
  to : link.address ≡ address

linked_there : (ys : List SendingLink) (address : List ℕ) (x : SendingLink) → AreSingle ys → link_to ys address ≡ Some x → LinkedTo ys address
linked_there ys address x single e = record {
  link = x;
  is = ap (λ (o : Option SendingLink). link_of ys (number_of o)) e ∙ single_of ys address x single e;
  to = (bytes_eq-Decides x.address address).0 (passes (has_address address) ys x e);
}

pub published : (f a : Names) (c : ℕ) (address payload : List ℕ) (back : List (List ℕ)) (confirm : Bool) (s : LinksState) (ds : List PublishEvent) → Tied s → Holds f a c s ds
    → Holds f (λ k. if k == c + 1 then Some address else a k) (c + 1) (linked_to address s) (TakenUp (number_of (link_to (linked_to address s).sending address)) confirm payload back ∷ ds)
published f a c address payload back confirm s ds t h = record { keeps = keeps (is_some (link_to s.sending address)); single = single (is_some (link_to s.sending address)); goes = goes; counted = ap (λ (k : ℕ). k + 1) h.counted }
  where
    m : ℕ
    m = free_number s.links

    new : LinksState
    new = with_link_to address s

    u : LinksState
    u = linked_to address s

    free : link_of s.sending m ≡ None
    free = free_none s.sending s.links s.handles t

    keeps : (b : Bool) → Keeps f (cond b s new)
    keeps true = h.keeps
    keeps false =
        changed f f s new m
        (λ n ne x. at_as f _ _ _ _ (pushed n s.sending (asked_link m address) false ne ∙ or_none (link_of s.sending n)) (inserted_other n m m false s.links ne) x)
        (λ x. at_as f (Some (asked_link m address)) _ (Some (wanted_link m false)) _
        (pushed m s.sending (asked_link m address) true (eq_to m m refl) ∙ ap (λ (o : Option SendingLink). option_or o (Some (asked_link m address))) free)
        (inserted_here m m false s.links (absent s.links t.rising)) (refl, refl)) h.keeps

    single : (b : Bool) → AreSingle (cond b s new).sending
    single true = h.single
    single false = single_push s.sending (asked_link m address) (none_passes (is_of m) s.sending free) h.single

    stays : (b : Bool) (n : ℕ) → Stays s.sending (cond b s new).sending n
    stays true n x e = stay s.sending s.sending n refl x e
    stays false n x e = record {
      link = x;
      is = pushed n s.sending (asked_link m address) (m == n) refl ∙ ap (λ (o : Option SendingLink). option_or o (cond (m == n) (Some (asked_link m address)) None)) e;
      address = refl;
      attached = λ i. i;
    }

    there : LinkedTo u.sending address
    there = by (link_to s.sending address) refl (single (is_some (link_to s.sending address)))
      where
        by : (o : Option SendingLink) → link_to s.sending address ≡ o → AreSingle (cond (is_some o) s new).sending → LinkedTo (cond (is_some o) s new).sending address
        by None e x = linked_there new.sending address (asked_link m address) x (link_to_new m address s.sending ((bytes_eq-Decides address address).1 refl) e)
        by (Some l) e x = linked_there s.sending address l x e

    event : PublishEvent
    event = TakenUp (number_of (link_to u.sending address)) confirm payload back

    after : Names
    after k = if k == c + 1 then Some address else a k

    goes : AllGo after u.sending (event ∷ ds)
    goes k taken go = by (k == numbers_of ds + 1) refl go
      where
        it : (b : Bool) → Fate
        it b = if b then new_fate (number_of (link_to u.sending address)) (next_number confirm (confirms_of ds)) payload back else fate_of k ds

        here : (k == numbers_of ds + 1) ≡ (k == c + 1)
        here = ap (λ (i : ℕ). k == i + 1) h.counted

        old : (k == numbers_of ds + 1) ≡ false → IsTaken ds k
        old e = (taken.0, (let most : k ≤ numbers_of ds + 1 = taken.1 in let less : k ≤ numbers_of ds = grind (arith, nat_tests, e, most) in less))

        by : (b : Bool) → (k == numbers_of ds + 1) ≡ b → is_to_go (it b) ≡ true → Goes after u.sending k (it b)
        by true e g = record {
          link = there.link;
          is = there.is;
          address = ap (λ (b : Bool). if b then Some address else a k) (sym here ∙ e) ∙ ap Some (sym there.to);
          attached = λ i. absurd cc;
        }
        by false e g =
            let l = still a s.sending u.sending k (fate_of k ds) (fate_of k ds) refl (λ i. i) (stays (is_some (link_to s.sending address)) (fate_of k ds).link) (h.goes k (old e) g) in
            record { link = l.link; is = l.is; address = ap (λ (b : Bool). if b then Some address else a k) (sym here ∙ e) ∙ l.address; attached = l.attached }

-- ---- a frame of a transfer

pub framed : (f a : Names) (c : ℕ) (frame : NextFrame) (part : List ℕ) (s : LinksState) (ds : List PublishEvent) → Sends s.sending ds frame → Holds f a c s ds
    → Holds f a c (record s { sending = links_after frame s.sending }) (FrameSent frame.publish frame.first part ∷ ds)
framed f a c frame part s ds sent h = by frame.first
  where
    by : (b : Bool) → Holds f a c (record s { sending = cond b (map (begun_on frame.link) s.sending) s.sending }) (FrameSent frame.publish b part ∷ ds)
    by true = record {
      keeps = moved f (begun_on frame.link) (begun_moves frame.link) (λ x i. i) s h.keeps;
      single = single_map (begun_on frame.link) (λ x. refl) s.sending h.single;
      goes = framed_go a s.sending (map (begun_on frame.link) s.sending) ds frame.publish true part (stay_moved (begun_on frame.link) (begun_moves frame.link) s.sending) sent.ready h.goes;
      counted = h.counted;
    }
    by false = record {
      keeps = h.keeps;
      single = h.single;
      goes = framed_go a s.sending s.sending ds frame.publish false part (λ n. stay s.sending s.sending n refl) sent.ready h.goes;
      counted = h.counted;
    }

-- ---- an attach of the gateway

-- what it says of its handle
abbrev pub with_attach : ℕ → Bool → List ℕ → Names → Names
with_attach handle receives text f k = if handle == k then target_of receives text else f k

asked : (f a : Names) (c : ℕ) (s : PathState) (l : PathLink) (hand name : ℕ) (ds : List PublishEvent) → Tied s.links → find is_wanted s.links.links ≡ Some l → free_of s.links.handles ≡ Some hand
    → Holds f a c s.links ds
    → Holds (with_attach hand l.receives (address_at (record { link = l.link; handle = hand; receives = l.receives }) s) f) a c (asked_on (Some l) (Some hand) name s.links) ds
asked f a c s l hand name ds t found free h = record { keeps = keeps; single = h.single; goes = h.goes; counted = h.counted }
  where
    text : List ℕ
    text = address_at (record { link = l.link; handle = hand; receives = l.receives }) s

    g : Names
    g = with_attach hand l.receives text f

    own : find (has_number l.link) s.links.links ≡ Some l
    own = found_number is_wanted s.links.links l t.rising found

    -- a handle that is free is no link's
    alone : (n : ℕ) (k : PathLink) → find (has_number n) s.links.links ≡ Some k → (j : ℕ) → handle_in k.stage ≡ Some j → (hand == j) ≡ false
    alone n k is j has =
        let off : is_free (state_of s.links.handles j) ≡ false = held s.links.handles k.stage j (all_find (λ x. stands s.links.handles x.stage ≡ true) (has_number n) s.links.links k t.standing is).0 has in
        ne_to hand j (λ same. no_clash (is_free (state_of s.links.handles j)) (subst (λ (m : ℕ). is_free (state_of s.links.handles m) ≡ true) same (free_at s.links.handles hand free).1) off)

    here : (o : Option SendingLink) → link_of s.links.sending l.link ≡ o → At f o (Some l) → At g o (Some (asked_as hand name l))
    here None e x = tt
    here (Some y) e x = (
      x.0,
      ap (λ (b : Bool). if b then target_of l.receives text else f hand) (eq_to hand hand refl)
          ∙ ap (λ (r : Bool). target_of r (if r then source_of l.link s else address_of s.links.sending l.link)) x.0 ∙ ap (λ (z : Option SendingLink). Some (address_in z)) e,
    )

    keeps : Keeps g (asked_on (Some l) (Some hand) name s.links)
    keeps =
        changed f g s.links (asked_on (Some l) (Some hand) name s.links) l.link
        (λ n ne x. at_as g _ _ _ _ refl (placed_other n (asked_as hand name l) s.links.links ne)
        (at_on f g (link_of s.links.sending n) (find (has_number n) s.links.links) (λ k is j has. ap (λ (b : Bool). if b then target_of l.receives text else f j) (alone n k is j has)) x))
        (λ x. at_as g _ _ _ _ refl (placed_here l.link (asked_as hand name l) l s.links.links refl own) (here (link_of s.links.sending l.link) refl (at_as f _ _ _ _ refl (sym own) x)))
        h.keeps

pub attach_holds : (f a : Names) (c name : ℕ) (due : AttachDue) (s : PathState) (ds : List PublishEvent) → Tied s.links → next_attach s ≡ Some due → Holds f a c s.links ds
    → Holds (with_attach due.handle due.receives (address_at due s) f) a c (link_asked name s.links) ds
attach_holds f a c name due s ds t e h = by (find is_wanted s.links.links) refl (free_of s.links.handles) refl e
  where
    by : (o : Option PathLink) → find is_wanted s.links.links ≡ o → (q : Option ℕ) → free_of s.links.handles ≡ q → attach_of o q ≡ Some due
        → Holds (with_attach due.handle due.receives (address_at due s) f) a c (asked_on o q name s.links) ds
    by None i q j g = absurd cc
    by (Some l) i None j g = absurd cc
    by (Some l) i (Some hand) j g =
        let same : record { link = l.link; handle = hand; receives = l.receives } ≡ due = cc in
        subst (λ (d : AttachDue). Holds (with_attach d.handle d.receives (address_at d s) f) a c (asked_on (Some l) (Some hand) name s.links) ds) same (asked f a c s l hand name ds t i j h)

-- ---- a detach of the gateway

abbrev pub with_detach : ℕ → Names → Names
with_detach handle f k = if handle == k then None else f k

pub detach_holds : (f a : Names) (c : ℕ) (s : LinksState) (l : PathLink) (ds : List PublishEvent) → Tied s → IsThere s l
    → (l.receives ≡ false → is_stage_open l.stage ≡ true → AreDone ds l.link) → Holds f a c s ds → Holds (with_detach (handle_of l.stage) f) a c (parted (Some l) s) ds
detach_holds f a c s l ds t there done h = by (is_left l) refl
  where
    hand : ℕ
    hand = handle_of l.stage

    g : Names
    g = with_detach hand f

    own : find (has_number l.link) s.links ≡ Some l
    own = there.0

    old : At f (link_of s.sending l.link) (Some l)
    old = at_as f _ _ _ _ refl (sym own) (h.keeps l.link)

    -- of other links the handles stay
    others : handle_in l.stage ≡ Some hand → (n : ℕ) → (l.link == n) ≡ false → At f (link_of s.sending n) (find (has_number n) s.links) → At g (link_of s.sending n) (find (has_number n) s.links)
    others has n ne =
        at_on f g (link_of s.sending n) (find (has_number n) s.links)
        (λ k is j has_too. ap (λ (b : Bool). if b then None else f j) (apart (has_number l.link) n s l k t own is ne hand j has has_too))

    -- where the container detached it
    gone : is_left l ≡ true → Holds g a c (gone_on (Some l) s) ds
    gone e = record {
      keeps =
          changed f g s (gone_on (Some l) s) l.link
          (λ n ne x. at_as g _ _ _ _ refl (ap (find (has_number n)) (gone_is (has_number l.link) s.sending s.links s.handles l t own e) ∙ dropped_other n l.link s.links ne) (others (left_handle l.stage e) n ne x))
          (λ x. at_as g None _ _ _ (gone_at f l (link_of s.sending l.link) e old) refl tt) h.keeps;
      single = h.single;
      goes = h.goes;
      counted = h.counted;
    }

    -- else it goes for its handle, or a transfer on it failed
    open_still : (x : SendingLink) → At f (Some x) (Some l) → (is_stage_open l.stage || is_stage_failed l.stage) ≡ true → is_stage_open l.stage ≡ true
    open_still x i up = stage_by l.stage i.1 up
      where
        stage_by : (q : Stage) → Has f x q → (is_stage_open q || is_stage_failed q) ≡ true → is_stage_open q ≡ true
        stage_by stage.Wanted j e = absurd cc
        stage_by (stage.Asked k) j e = absurd cc
        stage_by (stage.Open k) j e = refl
        stage_by (stage.Refused k) j e = absurd cc
        stage_by (stage.Left k) j e = absurd cc
        stage_by (stage.Given k) j e = absurd cc
        stage_by (stage.Failed k fault) j e = absurd j

    given : (is_stage_open l.stage || is_stage_failed l.stage) ≡ true → Holds g a c (given_on (Some l) s) ds
    given up = record {
      keeps =
          changed f g s (given_on (Some l) s) l.link
          (λ n ne x. at_as g _ _ _ _ (without_other n l.link s.sending ne) (placed_other n (given_by l) s.links ne) (others (up_handle l.stage up) n ne x))
          (λ x. at_as g None _ _ _ (without_here l.link s.sending) refl tt) h.keeps;
      single = single_filter (λ x. not (is_of l.link x)) s.sending h.single;
      goes = goes;
      counted = h.counted;
    }
      where
        goes : AllGo a (without l.link s.sending) ds
        goes k taken go = still a s.sending (without l.link s.sending) k (fate_of k ds) (fate_of k ds) refl (λ i. i) (stay s.sending (without l.link s.sending) (fate_of k ds).link (kept (l.link == (fate_of k ds).link) refl)) x
          where
            x : Goes a s.sending k (fate_of k ds)
            x = h.goes k taken go

            kept : (b : Bool) → (l.link == (fate_of k ds).link) ≡ b → link_of (without l.link s.sending) (fate_of k ds).link ≡ link_of s.sending (fate_of k ds).link
            kept false ne = without_other (fate_of k ds).link l.link s.sending ne
            kept true e =
                let same : l.link ≡ (fate_of k ds).link = eq_of l.link (fate_of k ds).link e in
                let at : At f (Some x.link) (Some l) = at_as f _ _ _ _ (sym (ap (link_of s.sending) same ∙ x.is)) refl old in
                absurd (no_clash (is_to_go (fate_of k ds)) go (done at.0 (open_still x.link at up) k taken (sym same)).0)

    by : (b : Bool) → is_left l ≡ b → Holds g a c (cond b (gone_on (Some l) s) (given_on (Some l) s)) ds
    by true e = gone e
    by false e = given (there.1 e)

-- ---- the handle of a frame

-- that of its link is the handle whose attach named the address of its publish
pub record Reached (f a : Names) (s : LinksState) (frame : NextFrame) : Type 0 where
  pub address : List ℕ
  pub attached : f (handle_at frame.link s.links) ≡ Some address
  pub wanted : a frame.publish ≡ Some address

pub reached : (f a : Names) (c : ℕ) (s : LinksState) (ds : List PublishEvent) (frame : NextFrame) → Holds f a c s ds → frame_by s.sending ds ≡ Some frame → Reached f a s frame
reached f a c s ds frame h e = record {
  address = x.link.address;
  attached = ap (λ (m : ℕ). f (handle_at m s.links)) sent.link ∙ by (find (has_number n) s.links) refl (at_as f _ _ _ _ (sym x.is) refl (h.keeps n));
  wanted = x.address;
}
  where
    to : IsToGo ds frame.publish
    to = to_go s.sending ds frame e

    sent : Sends s.sending ds frame
    sent = sends s.sending ds frame e

    n : ℕ
    n = (fate_of frame.publish ds).link

    x : Goes a s.sending frame.publish (fate_of frame.publish ds)
    x = h.goes frame.publish to.taken to.goes

    ready : ((fate_of frame.publish ds).begun ≡ true) ⊎ (can_send (link_of s.sending n) ≡ true) → x.link.attached ≡ true
    ready (inl b) = x.attached b
    ready (inr b) = and_left x.link.attached (nat_le 1 x.link.state.credit) (subst (λ (o : Option SendingLink). can_send o ≡ true) x.is b)

    stage_by : (q : Stage) → Has f x.link q → f (handle_of q) ≡ Some x.link.address
    stage_by stage.Wanted i = absurd (no_clash x.link.attached (ready sent.ready) i)
    stage_by (stage.Asked k) i = i
    stage_by (stage.Open k) i = i
    stage_by (stage.Refused k) i = i
    stage_by (stage.Left k) i = absurd i
    stage_by (stage.Given k) i = absurd i
    stage_by (stage.Failed k fault) i = absurd i

    by : (o : Option PathLink) → find (has_number n) s.links ≡ o → At f (Some x.link) o → f (handle_in_link (find (has_number n) s.links)) ≡ Some x.link.address
    by None i j = absurd j
    by (Some l) i j = ap (λ (o : Option PathLink). f (handle_in_link o)) i ∙ stage_by l.stage j.1
