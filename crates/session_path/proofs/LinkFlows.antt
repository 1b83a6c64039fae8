-- The flows on a link answer what the container asked, each once.
use Rattle.std.proofs.Common.{◌≡◌, ◌∙◌, ℕ, zero, suc, ◌+◌, ◌-◌, ◌≤◌, List, [], ◌∷◌, Bool, true}
use Rattle.std.proofs.Common.{false, Option, Some, None, refl, sym, subst, ap, arith, cond}
use Rattle.std.specs.Prelude.{filter, find, is_some, not, ◌==◌, ◌&&◌, ◌||◌, insert, nat_lt}
use Rattle.std.specs.Prelude.{IfSome}
use Rattle.std.specs.List.{AllByRecursion}
use Rattle.open_items.proofs.Filtered.{all_filter, all_weaker}
use Rattle.link_table.specs.Table.{free_of, named_by}
use Rattle.publish_path.specs.Links.{link_to}
use Rattle.publish_path.specs.declared.publish.Publish.{Publish}
use Rattle.publish_path.specs.declared.send_links.SendingLink.{SendingLink}
use Rattle.consume_path.specs.Offers.{next_settle_of}
use Rattle.consume_path.specs.declared.receiving.TransferFault.{TransferFault}
use Rattle.session_path.specs.declared.path.AttachHeard.{AttachHeard}
use Rattle.session_path.specs.declared.path.PathLink.{PathLink}
use Rattle.session_path.specs.Links.{LinksState, Rises, answered, asked_as, asked_by, asked_on}
use Rattle.session_path.specs.Links.{at_handle, attach_fault, attached, attached_as, detached_on}
use Rattle.session_path.specs.Links.{failed_by, failed_on, flowed_on, free_number, given_by}
use Rattle.session_path.specs.Links.{given_on}
use Rattle.session_path.specs.Links.{gone_on, has_number, is_asked_as, is_at, is_given, is_left}
use Rattle.session_path.specs.Links.{is_stage_whole, is_wanted}
use Rattle.session_path.specs.Links.{is_wanted_receiver, left_by, link_asked, link_detached}
use Rattle.session_path.specs.Links.{link_failed, link_flowed, linked_to, named, one_if, parted}
use Rattle.session_path.specs.Links.{put}
use Rattle.session_path.specs.Links.{told_by, told_on, told_once, wanted_link, with_link_to}
use Rattle.session_path.specs.Links.{with_receiver}
use Rattle.session_path.specs.Path.{IsThere, PathState, detaching_of, flow_of, get_link}
use Rattle.session_path.specs.Path.{is_grant_next, may_drain, owes_flow, queue_or, receiver_in}
use Rattle.session_path.specs.Path.{sender_in, taking}
use Rattle.session_path.specs.Events.{PathEvent, Began, Published, Selected, Owed, Consumed}
use Rattle.session_path.specs.Events.{AnswerCame, CancelCame, Declared, GetAsked, AttachCame}
use Rattle.session_path.specs.Events.{FlowCame, DetachCame, TransferCame}
use Rattle.session_path.specs.Events.{LinkFailed, DispositionCame, AttachSent, LinkFlowSent}
use Rattle.session_path.specs.Events.{TransferSent, SettleSent, DisposeSent, DetachSent}
use Rattle.session_path.specs.Events.{ConfirmWent, ReturnWent, DeliverSent, ContentSent}
use Rattle.session_path.specs.Events.{ContentWhole, OkSent, LinesWent, LifeClosed, SessionLost}
use Rattle.session_path.specs.Events.{SessionEnded, UpLost, after_event, after_events}
use Rattle.session_path.specs.Flows.{causes_by, causes_on, echoes_on, flows_by, flows_on, given_in}
use Rattle.session_path.specs.Flows.{given_named, is_link, left_in, owed_in}
use Rattle.session_path.specs.Flows.{owed_on}
use Rattle.session_path.proofs.Fresh.{AreFresh, IsFresh, fresh_after}
use Rattle.session_path.proofs.Idle.{detaching_there}
use Rattle.session_path.proofs.SameLinks.{attach_same, disposed_same, dropped_same, flow_sent_same}
use Rattle.session_path.proofs.SameLinks.{flowed_if, flowed_same, got_links, got_same}
use Rattle.session_path.proofs.SameLinks.{transfer_same}
use Rattle.session_path.proofs.Ties.{and_left, dropped, eq_of, eq_to, found_number, found_passes}
use Rattle.session_path.proofs.Ties.{gone_is, ne_to, no_clash, none_at, rises_above, rises_filter}
use Rattle.session_path.proofs.Wanted.{absent}
use Rattle.session_path.proofs.Tied.{Tied, tied_after}

-- a link in the place of the one with its number

abbrev placed : PathLink → Option PathLink → Option PathLink
placed x None = None
placed x (Some l) = Some x

find_put : (n : ℕ) (x : PathLink) (ls : List PathLink) → find (has_number n) (put x ls) ≡ cond (x.link == n) (placed x (find (has_number n) ls)) (find (has_number n) ls)
find_put n x [] = by (x.link == n)
  where
    by : (b : Bool) → ◌≡◌ {A = Option PathLink} None (cond b None None)
    by true = refl
    by false = refl
find_put n x (l ∷ ls) = by (l.link == x.link) refl (l.link == n) refl (x.link == n) refl (find_put n x ls)
  where
    by : (b : Bool) → (l.link == x.link) ≡ b → (c : Bool) → (l.link == n) ≡ c → (d : Bool) → (x.link == n) ≡ d
        → find (has_number n) (put x ls) ≡ cond d (placed x (find (has_number n) ls)) (find (has_number n) ls)
        → cond ((cond b x l).link == n) (Some (cond b x l)) (find (has_number n) (put x ls)) ≡ cond d (placed x (cond c (Some l) (find (has_number n) ls))) (cond c (Some l) (find (has_number n) ls))
    by true e true f true g ih = ap (λ b. cond b (Some x) (find (has_number n) (put x ls))) g
    by true e true f false g ih = absurd (no_clash (x.link == n) (eq_to x.link n (sym (eq_of l.link x.link e) ∙ eq_of l.link n f)) g)
    by true e false f true g ih = absurd (no_clash (l.link == n) (eq_to l.link n (eq_of l.link x.link e ∙ eq_of x.link n g)) f)
    by true e false f false g ih = ap (λ b. cond b (Some x) (find (has_number n) (put x ls))) g ∙ ih
    by false e true f true g ih = absurd (no_clash (l.link == x.link) (eq_to l.link x.link (eq_of l.link n f ∙ sym (eq_of x.link n g))) e)
    by false e true f false g ih = ap (λ b. cond b (Some l) (find (has_number n) (put x ls))) f
    by false e false f d g ih = ap (λ b. cond b (Some l) (find (has_number n) (put x ls))) f ∙ ih

-- what it is owed

abbrev owed_of : PathLink → ℕ
owed_of l = l.echoes + l.drains

owed_put : (n : ℕ) (p : PathLink → Bool) (ls : List PathLink) (l x : PathLink) → Rises 0 ls → find p ls ≡ Some l → x.link ≡ l.link
    → owed_on n (put x ls) + cond (l.link == n) (owed_of l) 0 ≡ owed_on n ls + cond (l.link == n) (owed_of x) 0
owed_put n p ls l x r e same =
    ap (λ o. owed_in o + cond (l.link == n) (owed_of l) 0) (find_put n x ls)
    ∙ (ap (λ b. owed_in (cond b (placed x (find (has_number n) ls)) (find (has_number n) ls)) + cond (l.link == n) (owed_of l) 0) (ap (λ k. k == n) same)
    ∙ by (l.link == n) refl)
  where
    swap : (a b : ℕ) → a + b ≡ b + a
    swap a b = omega arith

    by : (b : Bool) → (l.link == n) ≡ b
        → owed_in (cond b (placed x (find (has_number n) ls)) (find (has_number n) ls)) + cond b (owed_of l) 0 ≡ owed_in (find (has_number n) ls) + cond b (owed_of x) 0
    by true f =
        let there : find (has_number n) ls ≡ Some l = subst (λ k. find (has_number k) ls ≡ Some l) (eq_of l.link n f) (found_number p ls l r e) in
        ap (λ o. owed_in (placed x o) + owed_of l) there ∙ (swap (owed_of x) (owed_of l) ∙ ap (λ o. owed_in o + owed_of x) (sym there))
    by false f = refl

-- the counts stay
owed_same : (n : ℕ) (p : PathLink → Bool) (ls : List PathLink) (l x : PathLink) → Rises 0 ls → find p ls ≡ Some l → x.link ≡ l.link → owed_of x ≡ owed_of l
    → owed_on n (put x ls) ≡ owed_on n ls
owed_same n p ls l x r e same owes =
    let put_it = owed_put n p ls l x r e same in
    by (l.link == n) put_it
  where
    by : (b : Bool) → owed_on n (put x ls) + cond b (owed_of l) 0 ≡ owed_on n ls + cond b (owed_of x) 0 → owed_on n (put x ls) ≡ owed_on n ls
    by true h = less (owed_on n (put x ls)) (owed_on n ls) (owed_of l) (owed_of x) h owes
      where
        less : (a b k m : ℕ) → a + k ≡ b + m → m ≡ k → a ≡ b
        less a b k m e f = omega arith
    by false h = omega arith

-- a link that is wanted

owed_insert : (n k i : ℕ) (receives : Bool) (ls : List PathLink) → AllByRecursion (λ l. (l.link == k) ≡ false) ls → owed_on n (insert ls i (wanted_link k receives)) ≡ owed_on n ls
owed_insert n k zero receives ls a = by (k == n) refl
  where
    by : (b : Bool) → (k == n) ≡ b → owed_in (cond b (Some (wanted_link k receives)) (find (has_number n) ls)) ≡ owed_in (find (has_number n) ls)
    by true e = sym (ap owed_in (subst (λ m. find (has_number m) ls ≡ None) (eq_of k n e) (none_at k ls a)))
    by false e = refl
owed_insert n k (suc i) receives [] a = by (k == n)
  where
    by : (b : Bool) → owed_in (cond b (Some (wanted_link k receives)) None) ≡ 0
    by true = refl
    by false = refl
owed_insert n k (suc i) receives (l ∷ ls) a = by (l.link == n) (owed_insert n k i receives ls a.1)
  where
    by : (b : Bool) → owed_on n (insert ls i (wanted_link k receives)) ≡ owed_on n ls → owed_in (cond b (Some l) (find (has_number n) (insert ls i (wanted_link k receives)))) ≡ owed_in (cond b (Some l) (find (has_number n) ls))
    by true e = refl
    by false e = e

owed_linked : (n : ℕ) (address : List ℕ) (s : LinksState) → Tied s → owed_on n (linked_to address s).links ≡ owed_on n s.links
owed_linked n address s t = by (is_some (link_to s.sending address))
  where
    by : (b : Bool) → owed_on n (cond b s (with_link_to address s)).links ≡ owed_on n s.links
    by true = refl
    by false = owed_insert n (free_number s.links) (free_number s.links) false s.links (absent s.links t.rising)

owed_received : (n : ℕ) (s : LinksState) → Tied s → owed_on n (with_receiver s).links ≡ owed_on n s.links
owed_received n s t = owed_insert n (free_number s.links) (free_number s.links) true s.links (absent s.links t.rising)

-- links that are wanted no more

owed_without : (out : PathLink → Bool) → ((k : PathLink) → out k ≡ true → is_wanted k ≡ true) → (n m : ℕ) (ls : List PathLink) → Rises m ls → AllByRecursion IsFresh ls
    → owed_on n (filter (λ l. not (out l)) ls) ≡ owed_on n ls
owed_without out wanted n m [] r fresh = refl
owed_without out wanted n m (l ∷ ls) r fresh = by (out l) refl (l.link == n) refl (owed_without out wanted n (l.link + 1) ls r.1 fresh.1)
  where
    stay : List PathLink
    stay = filter (λ k. not (out k)) ls

    above : l.link ≡ n → AllByRecursion (λ k. (k.link == n) ≡ false) stay
    above same = all_filter (λ k. not (out k)) (λ k. (k.link == n) ≡ false) ls
        (all_weaker (λ k. l.link + 1 ≤ k.link) _ (λ k le. ne_to k.link n (λ s. omega arith)) ls (rises_above (l.link + 1) ls r.1))

    by : (b : Bool) → out l ≡ b → (c : Bool) → (l.link == n) ≡ c → owed_on n stay ≡ owed_on n ls
        → owed_in (find (has_number n) (cond (not b) (l ∷ stay) stay)) ≡ owed_in (cond c (Some l) (find (has_number n) ls))
    by true e true f ih = ap owed_in (none_at n stay (above (eq_of l.link n f))) ∙ sym (fresh.0 (wanted l e))
    by true e false f ih = ih
    by false e true f ih = ap (λ b. owed_in (cond b (Some l) (find (has_number n) stay))) f
    by false e false f ih = ap (λ b. owed_in (cond b (Some l) (find (has_number n) stay))) f ∙ ih

owed_closed : (n : ℕ) (ls : List PathLink) → Rises 0 ls → AllByRecursion IsFresh ls → owed_on n (filter (λ l. not (is_wanted_receiver l)) ls) ≡ owed_on n ls
owed_closed n ls r fresh = owed_without is_wanted_receiver (λ k e. and_left (is_wanted k) k.receives e) n 0 ls r fresh

owed_unwanted : (n : ℕ) (ls : List PathLink) → Rises 0 ls → AllByRecursion IsFresh ls → owed_on n (filter (λ l. not (is_wanted l)) (filter (λ l. not (is_wanted_receiver l)) ls)) ≡ owed_on n ls
owed_unwanted n ls r fresh =
    owed_without is_wanted (λ k e. e) n 0 _ (rises_filter _ 0 ls r) (all_filter _ IsFresh ls fresh) ∙ owed_closed n ls r fresh

-- one that is no more

owed_dropped : (n m : ℕ) (ls : List PathLink) → owed_on n (dropped m ls) ≡ cond (m == n) 0 (owed_on n ls)
owed_dropped n m [] = by (m == n)
  where
    by : (b : Bool) → ◌≡◌ {A = ℕ} 0 (cond b 0 0)
    by true = refl
    by false = refl
owed_dropped n m (k ∷ ls) = by (k.link == m) refl (k.link == n) refl (m == n) refl (owed_dropped n m ls)
  where
    by : (b : Bool) → (k.link == m) ≡ b → (c : Bool) → (k.link == n) ≡ c → (d : Bool) → (m == n) ≡ d → owed_on n (dropped m ls) ≡ cond d 0 (owed_on n ls)
        → owed_in (find (has_number n) (cond (not b) (k ∷ dropped m ls) (dropped m ls))) ≡ cond d 0 (owed_in (cond c (Some k) (find (has_number n) ls)))
    by true e c f true g ih = ih
    by true e true f false g ih = absurd (no_clash (m == n) (eq_to m n (sym (eq_of k.link m e) ∙ eq_of k.link n f)) g)
    by true e false f false g ih = ih
    by false e true f true g ih = absurd (no_clash (k.link == m) (eq_to k.link m (eq_of k.link n f ∙ sym (eq_of m n g))) e)
    by false e true f false g ih = ap (λ b. owed_in (cond b (Some k) (find (has_number n) (dropped m ls)))) f
    by false e false f d g ih = ap (λ b. owed_in (cond b (Some k) (find (has_number n) (dropped m ls)))) f ∙ ih

-- it is owed no more than went
owed_none : (n m flows causes : ℕ) (ls : List PathLink) → flows + owed_on n ls ≡ causes → (flows + 0) + owed_on n (dropped m ls) ≡ cond (m == n) flows causes
owed_none n m flows causes ls is = ap (λ k. (flows + 0) + k) (owed_dropped n m ls) ∙ one (m == n)
  where
    one : (b : Bool) → (flows + 0) + cond b 0 (owed_on n ls) ≡ cond b flows causes
    one true = omega arith
    one false = omega arith

-- the steps, where so many flows went and so many were owed

kept : (flows old new causes : ℕ) → flows + old ≡ causes → new ≡ old → (flows + 0) + new ≡ causes
kept flows old new causes e f = omega arith

attached_step : (n : ℕ) (a : AttachHeard) (s : LinksState) → Tied s → owed_on n (attached a s).links ≡ owed_on n s.links
attached_step n a s t = by (is_some (attach_fault a.name a.role a.peer s)) (find (is_asked_as a.name a.role) s.links) refl
  where
    by : (b : Bool) (o : Option PathLink) → find (is_asked_as a.name a.role) s.links ≡ o → owed_on n (attached_as (cond b None o) a.peer a.there s).links ≡ owed_on n s.links
    by true o e = refl
    by false None e = refl
    by false (Some l) e = owed_same n (is_asked_as a.name a.role) s.links l (answered a.there l) t.rising e refl refl

flowed_one : (n h flows causes : ℕ) (count : Option ℕ) (credit : ℕ) (drain echo : Bool) (s : LinksState) (o : Option PathLink) → Tied s → find (is_at h) s.links ≡ o → flows + owed_on n s.links ≡ causes
    → (flows + 0) + owed_on n (flowed_on o count credit drain echo s).links ≡ causes + cond (is_link n o) (one_if echo + one_if drain) 0
flowed_one n h flows causes count credit drain echo s None t e is = omega arith
flowed_one n h flows causes count credit drain echo s (Some l) t e is = by (l.link == n) (owed_put n (is_at h) s.links l (told_by drain echo l) t.rising e refl)
  where
    sum : (new old e d a b f c : ℕ) → new + (e + d) ≡ old + ((e + a) + (d + b)) → f + old ≡ c → (f + 0) + new ≡ c + (a + b)
    sum new old e d a b f c p q = omega arith

    by : (b : Bool) → owed_on n (put (told_by drain echo l) s.links) + cond b (l.echoes + l.drains) 0 ≡ owed_on n s.links + cond b ((l.echoes + one_if echo) + (l.drains + one_if drain)) 0
        → (flows + 0) + owed_on n (put (told_by drain echo l) s.links) ≡ causes + cond b (one_if echo + one_if drain) 0
    by true h = sum (owed_on n (put (told_by drain echo l) s.links)) (owed_on n s.links) l.echoes l.drains (one_if echo) (one_if drain) flows causes h is
    by false h = omega arith

flowed_step : (n peer flows causes : ℕ) (count : Option ℕ) (credit : ℕ) (drain echo : Bool) (s : LinksState) → Tied s → flows + owed_on n s.links ≡ causes
    → (flows + 0) + owed_on n (link_flowed peer count credit drain echo s).links ≡ causes + cond (is_link n (named peer s)) (one_if echo + one_if drain) 0
flowed_step n peer flows causes count credit drain echo s t is = by (named_by s.handles peer)
  where
    by : (o : Option ℕ) → (flows + 0) + owed_on n (flowed_on (at_handle o s.links) count credit drain echo s).links ≡ causes + cond (is_link n (at_handle o s.links)) (one_if echo + one_if drain) 0
    by None = omega arith
    by (Some h) = flowed_one n h flows causes count credit drain echo s (find (is_at h) s.links) t refl is

detached_one : (n h flows causes : ℕ) (s : LinksState) (o : Option PathLink) → Tied s → find (is_at h) s.links ≡ o → flows + owed_on n s.links ≡ causes
    → (flows + 0) + owed_on n (detached_on o s).links ≡ cond (is_link n (given_in o)) flows (causes - echoes_on n o)
detached_one n h flows causes s None t e is = omega arith
detached_one n h flows causes s (Some l) t e is = by (is_given l)
  where
    gone : (c : Bool) → (flows + 0) + owed_on n (dropped l.link s.links) ≡ cond c flows causes → (flows + 0) + owed_on n (dropped l.link s.links) ≡ cond c flows (causes - cond c l.echoes 0)
    gone true f = f
    gone false f = omega arith

    fewer : (new old e d f c : ℕ) → new + (e + d) ≡ old + (0 + d) → f + old ≡ c → (f + 0) + new ≡ c - e
    fewer new old e d f c p q = omega arith

    left : (c : Bool) → owed_on n (put (left_by s.sending l) s.links) + cond c (l.echoes + l.drains) 0 ≡ owed_on n s.links + cond c (0 + l.drains) 0
        → (flows + 0) + owed_on n (put (left_by s.sending l) s.links) ≡ causes - cond c l.echoes 0
    left true f = fewer (owed_on n (put (left_by s.sending l) s.links)) (owed_on n s.links) l.echoes l.drains flows causes f is
    left false f = omega arith

    by : (b : Bool) → (flows + 0) + owed_on n (cond b (dropped l.link s.links) (put (left_by s.sending l) s.links)) ≡ cond (is_link n (cond b (Some l) None)) flows (causes - cond (l.link == n) l.echoes 0)
    by true = gone (l.link == n) (owed_none n l.link flows causes s.links is)
    by false = left (l.link == n) (owed_put n (is_at h) s.links l (left_by s.sending l) t.rising e refl)

detached_step : (n peer flows causes : ℕ) (s : LinksState) → Tied s → flows + owed_on n s.links ≡ causes
    → (flows + 0) + owed_on n (link_detached peer s).links ≡ cond (is_link n (given_named peer s)) flows (causes - echoes_on n (named peer s))
detached_step n peer flows causes s t is = by (named_by s.handles peer)
  where
    by : (o : Option ℕ) → (flows + 0) + owed_on n (detached_on (at_handle o s.links) s).links ≡ cond (is_link n (given_in (at_handle o s.links))) flows (causes - echoes_on n (at_handle o s.links))
    by None = omega arith
    by (Some h) = detached_one n h flows causes s (find (is_at h) s.links) t refl is

asked_step : (n name : ℕ) (s : LinksState) → Tied s → owed_on n (link_asked name s).links ≡ owed_on n s.links
asked_step n name s t = by (find is_wanted s.links) refl (free_of s.handles)
  where
    by : (o : Option PathLink) → find is_wanted s.links ≡ o → (f : Option ℕ) → owed_on n (asked_on o f name s).links ≡ owed_on n s.links
    by None e f = refl
    by (Some l) e None = refl
    by (Some l) e (Some h) = owed_same n is_wanted s.links l (asked_as h name l) t.rising e refl refl

parted_step : (n flows causes : ℕ) (s : LinksState) (o : Option PathLink) → Tied s → IfSome o (IsThere s) → flows + owed_on n s.links ≡ causes
    → (flows + 0) + owed_on n (parted o s).links ≡ cond (is_link n (left_in o)) flows causes
parted_step n flows causes s None t there is = kept flows (owed_on n s.links) _ causes is refl
parted_step n flows causes s (Some l) t there is = by (is_left l) refl
  where
    by : (b : Bool) → is_left l ≡ b → (flows + 0) + owed_on n (cond b (gone_on (Some l) s) (given_on (Some l) s)).links ≡ cond (is_link n (cond b (Some l) None)) flows causes
    by true left = ap (λ ks. (flows + 0) + owed_on n ks) (gone_is (has_number l.link) s.sending s.links s.handles l t there.0 left) ∙ owed_none n l.link flows causes s.links is
    by false left = kept flows (owed_on n s.links) _ causes is (owed_same n (has_number l.link) s.links l (given_by l) t.rising there.0 refl refl)

failed_one : (n h : ℕ) (fault : TransferFault) (s : LinksState) (o : Option PathLink) → Tied s → find (is_at h) s.links ≡ o → owed_on n (failed_on o fault s).links ≡ owed_on n s.links
failed_one n h fault s None t e = refl
failed_one n h fault s (Some l) t e = by (is_stage_whole l.stage && l.receives)
  where
    by : (b : Bool) → owed_on n (cond b (record s { links = put (failed_by fault l) s.links }) s).links ≡ owed_on n s.links
    by true = owed_same n (is_at h) s.links l (failed_by fault l) t.rising e refl refl
    by false = refl

failed_step : (n peer : ℕ) (fault : TransferFault) (s : LinksState) → Tied s → owed_on n (link_failed peer fault s).links ≡ owed_on n s.links
failed_step n peer fault s t = by (named_by s.handles peer)
  where
    by : (o : Option ℕ) → owed_on n (failed_on (at_handle o s.links) fault s).links ≡ owed_on n s.links
    by None = refl
    by (Some h) = failed_one n h fault s (find (is_at h) s.links) t refl

-- a flow that is due answers one cause
told_less : (list : List Publish) (sending : List SendingLink) (l : PathLink) → owes_flow list sending l ≡ true → (l.echoes - 1) + cond (l.echoes == 0) (l.drains - 1) l.drains + 1 ≡ l.echoes + l.drains
told_less list sending l e = by (is_given l) l.echoes l.drains (may_drain list sending l) e
  where
    plain : (k d : ℕ) → (suc k - 1) + d + 1 ≡ suc k + d
    plain k d = omega arith

    by : (b : Bool) (echoes drains : ℕ) (m : Bool) → (not b && (nat_lt 0 echoes || (nat_lt 0 drains && m))) ≡ true → (echoes - 1) + cond (echoes == 0) (drains - 1) drains + 1 ≡ echoes + drains
    by true echoes drains m e = absurd (cc)
    by false zero zero m e = absurd (cc)
    by false zero (suc d) m e = omega arith
    by false (suc k) d m e = ap (λ b. (suc k - 1) + cond b (d - 1) d + 1) (ne_to (suc k) 0 (λ s. omega arith)) ∙ plain k d

told_step : (n flows causes : ℕ) (list : List Publish) (s : LinksState) → Tied s → flows + owed_on n s.links ≡ causes
    → (flows + cond (is_link n (flow_of list s)) 1 0) + owed_on n (told_on (flow_of list s) s).links ≡ causes
told_step n flows causes list s t is = by (flow_of list s) refl
  where
    sum : (new old e d e' d' f c : ℕ) → new + (e + d) ≡ old + (e' + d') → (e' + d') + 1 ≡ e + d → f + old ≡ c → (f + 1) + new ≡ c
    sum new old e d e' d' f c p q r = omega arith

    by : (o : Option PathLink) → find (owes_flow list s.sending) s.links ≡ o → (flows + cond (is_link n o) 1 0) + owed_on n (told_on o s).links ≡ causes
    by None e = omega arith
    by (Some l) e = one (l.link == n) (owed_put n (owes_flow list s.sending) s.links l (told_once l) t.rising e refl)
      where
        owes : owes_flow list s.sending l ≡ true
        owes = found_passes (owes_flow list s.sending) s.links l e

        one : (b : Bool) → owed_on n (put (told_once l) s.links) + cond b (l.echoes + l.drains) 0 ≡ owed_on n s.links + cond b ((told_once l).echoes + (told_once l).drains) 0
            → (flows + cond b 1 0) + owed_on n (put (told_once l) s.links) ≡ causes
        one true h = sum (owed_on n (put (told_once l) s.links)) (owed_on n s.links) l.echoes l.drains (told_once l).echoes (told_once l).drains flows causes h (told_less list s.sending l owes) is
        one false h = omega arith

lost : (flows : ℕ) → (flows + 0) + 0 ≡ flows
lost flows = omega arith

-- a flow came, and one went

flow_came_step : (n peer flows causes : ℕ) (count : Option ℕ) (credit : ℕ) (drain echo : Bool) (s : PathState) → Tied s.links → flows + owed_on n s.links.links ≡ causes
    → (flows + 0) + owed_on n (after_event (FlowCame peer count credit drain echo) s).links.links ≡ causes + cond (is_link n (sender_in (named peer s.links))) (one_if echo + one_if drain) 0
flow_came_step n peer flows causes count credit drain echo s t e =
    ap (λ (z : LinksState). (flows + 0) + owed_on n z.links) (flowed_same (receiver_in (named peer s.links)) peer count credit drain echo s)
    ∙ by (named peer s.links) (flowed_step n peer flows causes count credit drain echo s.links t e)
  where
    by : (o : Option PathLink) → (flows + 0) + owed_on n (link_flowed peer count credit drain echo s.links).links ≡ causes + cond (is_link n o) (one_if echo + one_if drain) 0
        → (flows + 0) + owed_on n (flowed_if (receiver_in o) peer count credit drain echo s.links).links ≡ causes + cond (is_link n (sender_in o)) (one_if echo + one_if drain) 0
    by None h = h
    by (Some l) h = role l.receives
      where
        role : (r : Bool) → (flows + 0) + owed_on n (flowed_if (cond r (Some l) None) peer count credit drain echo s.links).links ≡ causes + cond (is_link n (cond r None (Some l))) (one_if echo + one_if drain) 0
        role true = omega arith
        role false = h

flow_sent_step : (n flows causes : ℕ) (s : PathState) → Tied s.links → flows + owed_on n s.links.links ≡ causes
    → (flows + flows_by n s LinkFlowSent) + owed_on n (after_event LinkFlowSent s).links.links ≡ causes
flow_sent_step n flows causes s t e =
    ap (λ (z : LinksState). (flows + flows_by n s LinkFlowSent) + owed_on n z.links) (flow_sent_same s) ∙ by (is_grant_next s)
  where
    by : (b : Bool) → (flows + cond (not b && is_link n (flow_of s.publishes.list s.links)) 1 0) + owed_on n (cond b s.links (told_on (flow_of s.publishes.list s.links) s.links)).links ≡ causes
    by true = omega arith
    by false = told_step n flows causes s.publishes.list s.links t e

detach_sent_step : (n flows causes : ℕ) (s : PathState) → Tied s.links → flows + owed_on n s.links.links ≡ causes
    → (flows + 0) + owed_on n (after_event DetachSent s).links.links ≡ causes_by n s flows causes DetachSent
detach_sent_step n flows causes s t e =
    ap (λ (z : LinksState). (flows + 0) + owed_on n z.links)
    (dropped_same (detaching_of s) (record s { links = parted (detaching_of s) s.links }))
    ∙ parted_step n flows causes s.links (detaching_of s) t (detaching_there s.publishes.list s.deliveries s.oks s.links t.rising) e

owed_got : (n : ℕ) (o : Option PathLink) (s : LinksState) → Tied s → owed_on n (got_links o s).links ≡ owed_on n s.links
owed_got n None s t = owed_received n s t
owed_got n (Some l) s t = refl

-- the links stay as they were
as_before : (n : ℕ) (new old : LinksState) → new ≡ old → owed_on n new.links ≡ owed_on n old.links
as_before n new old e = ap (λ (z : LinksState). owed_on n z.links) e

step : (n flows causes : ℕ) (x : PathEvent) (s : PathState) → Tied s.links → AreFresh s.links → flows + owed_on n s.links.links ≡ causes
    → (flows + flows_by n s x) + owed_on n (after_event x s).links.links ≡ causes_by n s flows causes x
step n flows causes (Began handle_max) s t fresh e = kept flows (owed_on n s.links.links) _ causes e refl
step n flows causes (Published address payload back) s t fresh e = kept flows (owed_on n s.links.links) _ causes e (owed_linked n address s.links t)
step n flows causes Selected s t fresh e = kept flows (owed_on n s.links.links) _ causes e refl
step n flows causes (Owed ok) s t fresh e = kept flows (owed_on n s.links.links) _ causes e refl
step n flows causes (Consumed address tag no_ack no_wait) s t fresh e = kept flows (owed_on n s.links.links) _ causes e (owed_received n s.links t)
step n flows causes (CancelCame tag no_wait) s t fresh e = kept flows (owed_on n s.links.links) _ causes e refl
step n flows causes (Declared queue no_wait) s t fresh e = kept flows (owed_on n s.links.links) _ causes e (owed_received n s.links t)
step n flows causes (GetAsked queue no_ack) s t fresh e =
    kept flows (owed_on n s.links.links) _ causes e
    (as_before n _ (got_links (get_link (queue_or s.queue queue) s) s.links) (got_same (get_link (queue_or s.queue queue) s) (queue_or s.queue queue) no_ack s)
    ∙ owed_got n (get_link (queue_or s.queue queue) s) s.links t)
step n flows causes (AnswerCame tag multiple settle) s t fresh e = kept flows (owed_on n s.links.links) _ causes e refl
step n flows causes (AttachCame attach) s t fresh e =
    kept flows (owed_on n s.links.links) _ causes e (as_before n _ (attached attach s.links) (attach_same (asked_by attach s.links) attach (record s { links = attached attach s.links })) ∙ attached_step n attach s.links t)
step n flows causes (FlowCame peer count credit drain echo) s t fresh e = flow_came_step n peer flows causes count credit drain echo s t e
step n flows causes (DetachCame peer not_found) s t fresh e = detached_step n peer flows causes s.links t e
step n flows causes (TransferCame peer part payload image again) s t fresh e = kept flows (owed_on n s.links.links) _ causes e (as_before n _ s.links (transfer_same (taking peer s) part payload image again s))
step n flows causes (LinkFailed peer fault) s t fresh e = kept flows (owed_on n s.links.links) _ causes e (failed_step n peer fault s.links t)
step n flows causes (DispositionCame first last outcome settled) s t fresh e = kept flows (owed_on n s.links.links) _ causes e refl
step n flows causes (AttachSent own) s t fresh e = kept flows (owed_on n s.links.links) _ causes e (asked_step n own s.links t)
step n flows causes LinkFlowSent s t fresh e = flow_sent_step n flows causes s t e
step n flows causes (TransferSent frame count) s t fresh e = kept flows (owed_on n s.links.links) _ causes e refl
step n flows causes (SettleSent settling) s t fresh e = kept flows (owed_on n s.links.links) _ causes e refl
step n flows causes DisposeSent s t fresh e = kept flows (owed_on n s.links.links) _ causes e (as_before n _ s.links (disposed_same (next_settle_of s.deliveries.list) s))
step n flows causes DetachSent s t fresh e = detach_sent_step n flows causes s t e
step n flows causes (ConfirmWent confirm) s t fresh e = kept flows (owed_on n s.links.links) _ causes e refl
step n flows causes (ReturnWent number) s t fresh e = kept flows (owed_on n s.links.links) _ causes e refl
step n flows causes (DeliverSent due) s t fresh e = kept flows (owed_on n s.links.links) _ causes e refl
step n flows causes ContentSent s t fresh e = kept flows (owed_on n s.links.links) _ causes e refl
step n flows causes (ContentWhole tag) s t fresh e = kept flows (owed_on n s.links.links) _ causes e refl
step n flows causes (OkSent ok) s t fresh e = kept flows (owed_on n s.links.links) _ causes e refl
step n flows causes LinesWent s t fresh e = kept flows (owed_on n s.links.links) _ causes e refl
step n flows causes LifeClosed s t fresh e = kept flows (owed_on n s.links.links) _ causes e (owed_closed n s.links.links t.rising fresh)
step n flows causes SessionLost s t fresh e = kept flows (owed_on n s.links.links) _ causes e (owed_unwanted n s.links.links t.rising fresh)
step n flows causes SessionEnded s t fresh e = lost flows
step n flows causes UpLost s t fresh e = lost flows

pub flows_are : (life n : ℕ) (h : List PathEvent) → flows_on life n h + owed_on n (after_events life h).links.links ≡ causes_on life n h
flows_are life n [] = refl
flows_are life n (x ∷ h) = step n (flows_on life n h) (causes_on life n h) x (after_events life h) (tied_after life h) (fresh_after life h) (flows_are life n h)
