-- The container attaches a link no more often than the gateway asked under its name.
use Rattle.std.proofs.Common.{◌≡◌, ◌∙◌, ℕ, zero, suc, ◌+◌, ◌≤◌, List, [], ◌∷◌, Bool, true, false}
use Rattle.std.proofs.Common.{Option, Some, None, refl, sym, subst, ap, arith, cond}
use Rattle.std.specs.Prelude.{filter, find, is_some, not, ◌==◌, ◌&&◌, insert, IfSome}
use Rattle.std.specs.List.{AllByRecursion}
use Rattle.open_items.proofs.Filtered.{all_find}
use Rattle.link_table.specs.Table.{free_of, named_by}
use Rattle.publish_path.specs.Links.{link_to}
use Rattle.publish_path.specs.declared.publish.Publish.{Publish}
use Rattle.consume_path.specs.Offers.{next_settle_of}
use Rattle.consume_path.specs.declared.receiving.TransferFault.{TransferFault}
use Rattle.session_path.specs.declared.path.AttachFault.TheVariants.{NotAsked, HandleInUse}
use Rattle.session_path.specs.declared.path.AttachHeard.{AttachHeard}
use Rattle.session_path.specs.declared.path.PathLink.{PathLink}
use Rattle.session_path.specs.Links.{LinksState, Rises, answered, asked_as, asked_by, asked_on}
use Rattle.session_path.specs.Links.{at_handle, attached, attached_as, attach_fault, detached_on}
use Rattle.session_path.specs.Links.{failed_by, failed_on, flowed_on, free_number, given_by}
use Rattle.session_path.specs.Links.{given_on}
use Rattle.session_path.specs.Links.{gone_on, has_number, is_asked_as, is_at, is_given, is_left}
use Rattle.session_path.specs.Links.{is_other_end, is_stage_asked, is_stage_whole}
use Rattle.session_path.specs.Links.{is_wanted, is_wanted_receiver, left_by, link_asked, link_detached, link_failed}
use Rattle.session_path.specs.Links.{link_flowed, linked_to, named, parted, put, told_by, told_on}
use Rattle.session_path.specs.Links.{told_once, wanted_link, with_link_to, with_receiver}
use Rattle.session_path.specs.Path.{IsThere, PathState, detaching_of, flow_of, get_link}
use Rattle.session_path.specs.Path.{is_grant_next, owes_flow, queue_or, receiver_in, taking}
use Rattle.session_path.specs.Events.{PathEvent, Began, Published, Selected, Owed, Consumed}
use Rattle.session_path.specs.Events.{AnswerCame, CancelCame, Declared, GetAsked, AttachCame}
use Rattle.session_path.specs.Events.{FlowCame, DetachCame, TransferCame}
use Rattle.session_path.specs.Events.{LinkFailed, DispositionCame, AttachSent, LinkFlowSent}
use Rattle.session_path.specs.Events.{TransferSent, SettleSent, DisposeSent, DetachSent}
use Rattle.session_path.specs.Events.{ConfirmWent, ReturnWent, DeliverSent, ContentSent}
use Rattle.session_path.specs.Events.{ContentWhole, OkSent, LinesWent, LifeClosed, SessionLost}
use Rattle.session_path.specs.Events.{SessionEnded, UpLost, after_event, after_events}
use Rattle.session_path.specs.Attaches.{asks_as, attaches_as, times_asked, times_attached}
use Rattle.session_path.proofs.Idle.{detaching_there}
use Rattle.session_path.proofs.SameLinks.{attach_same, disposed_same, dropped_same, flow_sent_same}
use Rattle.session_path.proofs.SameLinks.{flowed_if, flowed_same, got_links, got_same}
use Rattle.session_path.proofs.SameLinks.{transfer_same}
use Rattle.session_path.proofs.Ties.{and_left, dropped, eq_of, eq_to, found_passes, ne_to}
use Rattle.session_path.proofs.Ties.{rises_above}
use Rattle.session_path.proofs.Tied.{Tied, tied_after}

abbrev one : Bool → ℕ
one b = cond b 1 0

-- how many links are asked for under this name
abbrev is_asked_at : ℕ → PathLink → Bool
is_asked_at name l = is_stage_asked l.stage && (l.name == name)

abbrev waiting : ℕ → List PathLink → ℕ
waiting name [] = 0
waiting name (l ∷ ls) = one (is_asked_at name l) + waiting name ls

put_above : (x : PathLink) (ls : List PathLink) → AllByRecursion (λ k. x.link + 1 ≤ k.link) ls → put x ls ≡ ls
put_above x [] a = refl
put_above x (l ∷ ls) a =
    ap (λ b. cond b x l ∷ put x ls) (ne_to l.link x.link (λ s. let le = a.0 in omega arith)) ∙ ap (λ ks. l ∷ ks) (put_above x ls a.1)

waiting_put : (name m : ℕ) (p : PathLink → Bool) (ls : List PathLink) (l x : PathLink) → Rises m ls → find p ls ≡ Some l → x.link ≡ l.link
    → waiting name (put x ls) + one (is_asked_at name l) ≡ waiting name ls + one (is_asked_at name x)
waiting_put name m p [] l x r e same = absurd (cc)
waiting_put name m p (y ∷ ys) l x r e same = by (p y) refl (λ f. waiting_put name (y.link + 1) p ys l x r.1 f same) e
  where
    above : AllByRecursion (λ k. y.link + 1 ≤ k.link) ys
    above = rises_above (y.link + 1) ys r.1

    swap : (a b c : ℕ) → (a + b) + c ≡ (c + b) + a
    swap a b c = omega arith

    more : (a b c d f : ℕ) → b + c ≡ d + f → (a + b) + c ≡ (a + d) + f
    more a b c d f h = omega arith

    by : (b : Bool) → p y ≡ b → (find p ys ≡ Some l → waiting name (put x ys) + one (is_asked_at name l) ≡ waiting name ys + one (is_asked_at name x)) → cond b (Some y) (find p ys) ≡ Some l
        → waiting name (cond (y.link == x.link) x y ∷ put x ys) + one (is_asked_at name l) ≡ waiting name (y ∷ ys) + one (is_asked_at name x)
    by true is ih e =
        let is_l : y ≡ l = cc in
        let number : y.link ≡ x.link = ap (λ (z : PathLink). z.link) is_l ∙ sym same in
        ap (λ b. waiting name (cond b x y ∷ put x ys) + one (is_asked_at name l)) (eq_to y.link x.link number)
        ∙ (ap (λ ks. waiting name (x ∷ ks) + one (is_asked_at name l)) (put_above x ys (subst (λ n. AllByRecursion (λ k. n + 1 ≤ k.link) ys) number above))
        ∙ (swap (one (is_asked_at name x)) (waiting name ys) (one (is_asked_at name l))
        ∙ ap (λ (z : PathLink). (one (is_asked_at name z) + waiting name ys) + one (is_asked_at name x)) (sym is_l)))
    by false is ih e =
        let a : y.link + 1 ≤ l.link = (all_find (λ k. y.link + 1 ≤ k.link) p ys l above e).0 in
        ap (λ b. waiting name (cond b x y ∷ put x ys) + one (is_asked_at name l)) (ne_to y.link x.link (λ s. omega arith))
        ∙ more (one (is_asked_at name y)) (waiting name (put x ys)) (one (is_asked_at name l)) (waiting name ys) (one (is_asked_at name x)) (ih e)

waiting_insert : (name n i : ℕ) (receives : Bool) (ls : List PathLink) → waiting name (insert ls i (wanted_link n receives)) ≡ waiting name ls
waiting_insert name n zero receives ls = omega arith
waiting_insert name n (suc i) receives [] = omega arith
waiting_insert name n (suc i) receives (l ∷ ls) = ap (λ k. one (is_asked_at name l) + k) (waiting_insert name n i receives ls)

waiting_filter : (name : ℕ) (o : PathLink → Bool) (ls : List PathLink) → waiting name (filter o ls) ≤ waiting name ls
waiting_filter name o [] = omega arith
waiting_filter name o (l ∷ ls) = by (o l) (waiting_filter name o ls)
  where
    by : (b : Bool) → waiting name (filter o ls) ≤ waiting name ls → waiting name (cond b (l ∷ filter o ls) (filter o ls)) ≤ one (is_asked_at name l) + waiting name ls
    by true e = omega arith
    by false e = omega arith

waiting_unwanted : (name : ℕ) (ls : List PathLink) → waiting name (filter (λ l. not (is_wanted l)) (filter (λ l. not (is_wanted_receiver l)) ls)) ≤ waiting name ls
waiting_unwanted name ls =
    let a = waiting_filter name (λ l. not (is_wanted l)) (filter (λ l. not (is_wanted_receiver l)) ls) in
    let b = waiting_filter name (λ l. not (is_wanted_receiver l)) ls in omega arith

-- the steps: no more are asked for than before

waiting_linked : (name : ℕ) (address : List ℕ) (s : LinksState) → waiting name (linked_to address s).links ≤ waiting name s.links
waiting_linked name address s = by (is_some (link_to s.sending address))
  where
    by : (b : Bool) → waiting name (cond b s (with_link_to address s)).links ≤ waiting name s.links
    by true = omega arith
    by false = let e = waiting_insert name (free_number s.links) (free_number s.links) false s.links in omega arith

waiting_received : (name : ℕ) (s : LinksState) → waiting name (with_receiver s).links ≤ waiting name s.links
waiting_received name s = let e = waiting_insert name (free_number s.links) (free_number s.links) true s.links in omega arith

flowed_one : (name h : ℕ) (count : Option ℕ) (credit : ℕ) (drain echo : Bool) (s : LinksState) (o : Option PathLink) → Tied s → find (is_at h) s.links ≡ o
    → waiting name (flowed_on o count credit drain echo s).links ≤ waiting name s.links
flowed_one name h count credit drain echo s None t e = omega arith
flowed_one name h count credit drain echo s (Some l) t e = let a = waiting_put name 0 (is_at h) s.links l (told_by drain echo l) t.rising e refl in omega arith

waiting_flowed : (name peer : ℕ) (count : Option ℕ) (credit : ℕ) (drain echo : Bool) (s : LinksState) → Tied s → waiting name (link_flowed peer count credit drain echo s).links ≤ waiting name s.links
waiting_flowed name peer count credit drain echo s t = by (named_by s.handles peer)
  where
    by : (o : Option ℕ) → waiting name (flowed_on (at_handle o s.links) count credit drain echo s).links ≤ waiting name s.links
    by None = omega arith
    by (Some h) = flowed_one name h count credit drain echo s (find (is_at h) s.links) t refl

detached_one : (name h : ℕ) (s : LinksState) (o : Option PathLink) → Tied s → find (is_at h) s.links ≡ o → waiting name (detached_on o s).links ≤ waiting name s.links
detached_one name h s None t e = omega arith
detached_one name h s (Some l) t e = by (is_given l)
  where
    by : (b : Bool) → waiting name (cond b (dropped l.link s.links) (put (left_by s.sending l) s.links)) ≤ waiting name s.links
    by true = waiting_filter name _ s.links
    by false = let a = waiting_put name 0 (is_at h) s.links l (left_by s.sending l) t.rising e refl in omega arith

waiting_detached : (name peer : ℕ) (s : LinksState) → Tied s → waiting name (link_detached peer s).links ≤ waiting name s.links
waiting_detached name peer s t = by (named_by s.handles peer)
  where
    by : (o : Option ℕ) → waiting name (detached_on (at_handle o s.links) s).links ≤ waiting name s.links
    by None = omega arith
    by (Some h) = detached_one name h s (find (is_at h) s.links) t refl

failed_one : (name h : ℕ) (fault : TransferFault) (s : LinksState) (o : Option PathLink) → Tied s → find (is_at h) s.links ≡ o → waiting name (failed_on o fault s).links ≤ waiting name s.links
failed_one name h fault s None t e = omega arith
failed_one name h fault s (Some l) t e = by (is_stage_whole l.stage && l.receives)
  where
    by : (b : Bool) → waiting name (cond b (record s { links = put (failed_by fault l) s.links }) s).links ≤ waiting name s.links
    by true = let a = waiting_put name 0 (is_at h) s.links l (failed_by fault l) t.rising e refl in omega arith
    by false = omega arith

waiting_failed : (name peer : ℕ) (fault : TransferFault) (s : LinksState) → Tied s → waiting name (link_failed peer fault s).links ≤ waiting name s.links
waiting_failed name peer fault s t = by (named_by s.handles peer)
  where
    by : (o : Option ℕ) → waiting name (failed_on (at_handle o s.links) fault s).links ≤ waiting name s.links
    by None = omega arith
    by (Some h) = failed_one name h fault s (find (is_at h) s.links) t refl

waiting_told : (name : ℕ) (list : List Publish) (s : LinksState) → Tied s → waiting name (told_on (flow_of list s) s).links ≤ waiting name s.links
waiting_told name list s t = by (flow_of list s) refl
  where
    by : (o : Option PathLink) → find (owes_flow list s.sending) s.links ≡ o → waiting name (told_on o s).links ≤ waiting name s.links
    by None e = omega arith
    by (Some l) e = let a = waiting_put name 0 (owes_flow list s.sending) s.links l (told_once l) t.rising e refl in omega arith

waiting_parted : (name : ℕ) (s : LinksState) (o : Option PathLink) → Tied s → IfSome o (IsThere s) → waiting name (parted o s).links ≤ waiting name s.links
waiting_parted name s None t there = omega arith
waiting_parted name s (Some l) t there = by (is_left l)
  where
    by : (b : Bool) → waiting name (cond b (gone_on (Some l) s) (given_on (Some l) s)).links ≤ waiting name s.links
    by true = waiting_filter name _ s.links
    by false = let a = waiting_put name 0 (has_number l.link) s.links l (given_by l) t.rising there.0 refl in omega arith

waiting_got : (name : ℕ) (o : Option PathLink) (s : LinksState) → waiting name (got_links o s).links ≤ waiting name s.links
waiting_got name None s = waiting_received name s
waiting_got name (Some l) s = omega arith

-- one more at most, under its own name
waiting_asked : (name own : ℕ) (s : LinksState) → Tied s → waiting name (link_asked own s).links ≤ waiting name s.links + one (own == name)
waiting_asked name own s t = by (find is_wanted s.links) refl (free_of s.handles)
  where
    by : (o : Option PathLink) → find is_wanted s.links ≡ o → (f : Option ℕ) → waiting name (asked_on o f own s).links ≤ waiting name s.links + one (own == name)
    by None e f = omega arith
    by (Some l) e None = omega arith
    by (Some l) e (Some h) = let a = waiting_put name 0 is_wanted s.links l (asked_as h own l) t.rising e refl in omega arith

-- one that attaches isn't asked for any more
waiting_attached : (name : ℕ) (a : AttachHeard) (s : LinksState) → Tied s
    → one ((a.name == name) && not (is_some (attach_fault a.name a.role a.peer s))) + waiting name (attached a s).links ≤ waiting name s.links
waiting_attached name a s t = by (find (is_asked_as a.name a.role) s.links) refl (is_some (named_by s.handles a.peer))
  where
    none : (b : Bool) (k : ℕ) → one (b && false) + k ≤ k
    none true k = omega arith
    none false k = omega arith

    answer : (l : PathLink) (b : Bool) → is_asked_at name (answered b l) ≡ false
    answer l true = refl
    answer l false = refl

    less : (l : PathLink) (b : Bool) → (a.name == name) ≡ b → is_asked_as a.name a.role l ≡ true → one b ≤ one (is_asked_at name l)
    less l true e is =
        let same : is_asked_at name l ≡ true = subst (λ n. is_asked_at n l ≡ true) (eq_of a.name name e) (and_left (is_asked_at a.name l) (is_other_end a.role l) is) in
        subst (λ b. 1 ≤ one b) (sym same) (omega arith)
    less l false e is = omega arith

    true_and : (b : Bool) → one (b && true) ≤ one b
    true_and true = omega arith
    true_and false = omega arith

    by : (o : Option PathLink) → find (is_asked_as a.name a.role) s.links ≡ o → (used : Bool)
        → one ((a.name == name) && not (is_some (cond used (Some HandleInUse) (cond (is_some o) None (Some NotAsked)))))
        + waiting name (attached_as (cond (is_some (cond used (Some HandleInUse) (cond (is_some o) None (Some NotAsked)))) None o) a.peer a.there s).links ≤ waiting name s.links
    by None e true = none (a.name == name) (waiting name s.links)
    by None e false = none (a.name == name) (waiting name s.links)
    by (Some l) e true = none (a.name == name) (waiting name s.links)
    by (Some l) e false =
        let p : waiting name (put (answered a.there l) s.links) + one (is_asked_at name l) ≡ waiting name s.links + 0 = waiting_put name 0 (is_asked_as a.name a.role) s.links l (answered a.there l) t.rising e refl ∙ ap (λ b. waiting name s.links + one b) (answer l a.there) in
        let q : one (a.name == name) ≤ one (is_asked_at name l) = less l (a.name == name) refl (found_passes (is_asked_as a.name a.role) s.links l e) in
        let r : one ((a.name == name) && true) ≤ one (a.name == name) = true_and (a.name == name) in
        omega arith

waiting_flow_came : (name peer : ℕ) (count : Option ℕ) (credit : ℕ) (drain echo : Bool) (s : PathState) → Tied s.links
    → waiting name (after_event (FlowCame peer count credit drain echo) s).links.links ≤ waiting name s.links.links
waiting_flow_came name peer count credit drain echo s t =
    subst (λ (z : LinksState). waiting name z.links ≤ waiting name s.links.links) (sym (flowed_same (receiver_in (named peer s.links)) peer count credit drain echo s)) (by (receiver_in (named peer s.links)))
  where
    by : (o : Option PathLink) → waiting name (flowed_if o peer count credit drain echo s.links).links ≤ waiting name s.links.links
    by None = waiting_flowed name peer count credit drain echo s.links t
    by (Some l) = omega arith

waiting_flow_sent : (name : ℕ) (s : PathState) → Tied s.links → waiting name (after_event LinkFlowSent s).links.links ≤ waiting name s.links.links
waiting_flow_sent name s t = subst (λ (z : LinksState). waiting name z.links ≤ waiting name s.links.links) (sym (flow_sent_same s)) (by (is_grant_next s))
  where
    by : (b : Bool) → waiting name (cond b s.links (told_on (flow_of s.publishes.list s.links) s.links)).links ≤ waiting name s.links.links
    by true = omega arith
    by false = waiting_told name s.publishes.list s.links t

stays : (times asked old new : ℕ) → times + old ≤ asked → new ≤ old → (times + 0) + new ≤ asked + 0
stays times asked old new h e = omega arith

asks : (times asked old new more : ℕ) → times + old ≤ asked → new ≤ old + more → (times + 0) + new ≤ asked + more
asks times asked old new more h e = omega arith

comes : (times asked old new more : ℕ) → times + old ≤ asked → more + new ≤ old → (times + more) + new ≤ asked + 0
comes times asked old new more h e = omega arith

same : (k : ℕ) → k ≤ k
same k = omega arith

low : (k : ℕ) → 0 ≤ k
low k = omega arith

-- the links stay as they were
as_before : (name : ℕ) (new old : LinksState) → new ≡ old → waiting name new.links ≤ waiting name old.links
as_before name new old e = subst (λ (z : LinksState). waiting name z.links ≤ waiting name old.links) (sym e) (same (waiting name old.links))

waiting_attach_came : (name : ℕ) (a : AttachHeard) (s : PathState) → Tied s.links → attaches_as name s (AttachCame a) + waiting name (after_event (AttachCame a) s).links.links ≤ waiting name s.links.links
waiting_attach_came name a s t =
    subst (λ (z : LinksState). attaches_as name s (AttachCame a) + waiting name z.links ≤ waiting name s.links.links) (sym (attach_same (asked_by a s.links) a (record s { links = attached a s.links })))
    (waiting_attached name a s.links t)

waiting_detach_sent : (name : ℕ) (s : PathState) → Tied s.links → waiting name (after_event DetachSent s).links.links ≤ waiting name s.links.links
waiting_detach_sent name s t =
    subst (λ (z : LinksState). waiting name z.links ≤ waiting name s.links.links)
    (sym (dropped_same (detaching_of s) (record s { links = parted (detaching_of s) s.links })))
    (waiting_parted name s.links (detaching_of s) t (detaching_there s.publishes.list s.deliveries s.oks s.links t.rising))

waiting_get_asked : (name : ℕ) (queue : List ℕ) (no_ack : Bool) (s : PathState) → waiting name (after_event (GetAsked queue no_ack) s).links.links ≤ waiting name s.links.links
waiting_get_asked name queue no_ack s =
    subst (λ (z : LinksState). waiting name z.links ≤ waiting name s.links.links)
    (sym (got_same (get_link (queue_or s.queue queue) s) (queue_or s.queue queue) no_ack s))
    (waiting_got name (get_link (queue_or s.queue queue) s) s.links)

step : (name times asked : ℕ) (x : PathEvent) (s : PathState) → Tied s.links → times + waiting name s.links.links ≤ asked
    → (times + attaches_as name s x) + waiting name (after_event x s).links.links ≤ asked + asks_as name x
step name times asked (Began handle_max) s t e = stays times asked (waiting name s.links.links) _ e (same (waiting name s.links.links))
step name times asked (Published address payload back) s t e = stays times asked (waiting name s.links.links) _ e (waiting_linked name address s.links)
step name times asked Selected s t e = stays times asked (waiting name s.links.links) _ e (same (waiting name s.links.links))
step name times asked (Owed ok) s t e = stays times asked (waiting name s.links.links) _ e (same (waiting name s.links.links))
step name times asked (Consumed address tag no_ack no_wait) s t e = stays times asked (waiting name s.links.links) _ e (waiting_received name s.links)
step name times asked (CancelCame tag no_wait) s t e = stays times asked (waiting name s.links.links) _ e (same (waiting name s.links.links))
step name times asked (Declared queue no_wait) s t e = stays times asked (waiting name s.links.links) _ e (waiting_received name s.links)
step name times asked (GetAsked queue no_ack) s t e = stays times asked (waiting name s.links.links) _ e (waiting_get_asked name queue no_ack s)
step name times asked (AnswerCame tag multiple settle) s t e = stays times asked (waiting name s.links.links) _ e (same (waiting name s.links.links))
step name times asked (AttachCame attach) s t e = comes times asked (waiting name s.links.links) _ _ e (waiting_attach_came name attach s t)
step name times asked (FlowCame peer count credit drain echo) s t e = stays times asked (waiting name s.links.links) _ e (waiting_flow_came name peer count credit drain echo s t)
step name times asked (DetachCame peer not_found) s t e = stays times asked (waiting name s.links.links) _ e (waiting_detached name peer s.links t)
step name times asked (TransferCame peer part payload image again) s t e = stays times asked (waiting name s.links.links) _ e (as_before name _ s.links (transfer_same (taking peer s) part payload image again s))
step name times asked (LinkFailed peer fault) s t e = stays times asked (waiting name s.links.links) _ e (waiting_failed name peer fault s.links t)
step name times asked (DispositionCame first last outcome settled) s t e = stays times asked (waiting name s.links.links) _ e (same (waiting name s.links.links))
step name times asked (AttachSent own) s t e = asks times asked (waiting name s.links.links) _ (one (own == name)) e (waiting_asked name own s.links t)
step name times asked LinkFlowSent s t e = stays times asked (waiting name s.links.links) _ e (waiting_flow_sent name s t)
step name times asked (TransferSent frame count) s t e = stays times asked (waiting name s.links.links) _ e (same (waiting name s.links.links))
step name times asked (SettleSent settling) s t e = stays times asked (waiting name s.links.links) _ e (same (waiting name s.links.links))
step name times asked DisposeSent s t e = stays times asked (waiting name s.links.links) _ e (as_before name _ s.links (disposed_same (next_settle_of s.deliveries.list) s))
step name times asked DetachSent s t e = stays times asked (waiting name s.links.links) _ e (waiting_detach_sent name s t)
step name times asked (ConfirmWent confirm) s t e = stays times asked (waiting name s.links.links) _ e (same (waiting name s.links.links))
step name times asked (ReturnWent number) s t e = stays times asked (waiting name s.links.links) _ e (same (waiting name s.links.links))
step name times asked (DeliverSent due) s t e = stays times asked (waiting name s.links.links) _ e (same (waiting name s.links.links))
step name times asked ContentSent s t e = stays times asked (waiting name s.links.links) _ e (same (waiting name s.links.links))
step name times asked (ContentWhole tag) s t e = stays times asked (waiting name s.links.links) _ e (same (waiting name s.links.links))
step name times asked (OkSent ok) s t e = stays times asked (waiting name s.links.links) _ e (same (waiting name s.links.links))
step name times asked LinesWent s t e = stays times asked (waiting name s.links.links) _ e (same (waiting name s.links.links))
step name times asked LifeClosed s t e = stays times asked (waiting name s.links.links) _ e (waiting_filter name _ s.links.links)
step name times asked SessionLost s t e = stays times asked (waiting name s.links.links) _ e (waiting_unwanted name s.links.links)
step name times asked SessionEnded s t e = stays times asked (waiting name s.links.links) _ e (low (waiting name s.links.links))
step name times asked UpLost s t e = stays times asked (waiting name s.links.links) _ e (low (waiting name s.links.links))

attached_waiting : (life name : ℕ) (h : List PathEvent) → times_attached life name h + waiting name (after_events life h).links.links ≤ times_asked name h
attached_waiting life name [] = omega arith
attached_waiting life name (x ∷ h) = step name (times_attached life name h) (times_asked name h) x (after_events life h) (tied_after life h) (attached_waiting life name h)

pub attaches_are : (life name : ℕ) (h : List PathEvent) → times_attached life name h ≤ times_asked name h
attaches_are life name h = let a = attached_waiting life name h in omega arith
