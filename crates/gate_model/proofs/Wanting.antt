-- Where no attach is due and a handle was never used, each publish that is to go has a link to its address that the gateway attached, and so has each receiving link that is wanted.
use Rattle.std.proofs.Common.{◌≡◌, ◌∙◌, inl, inr, ℕ, zero, suc, ◌+◌, ◌==◌, ◌≤◌, ◌<◌, nat_le, nat_lt, ◌&&◌, ◌||◌, Bool, true, false, if◌then◌else◌, cond, length, replicate}
use Rattle.std.proofs.Common.{List, [], ◌∷◌, ◌++◌, Option, None, Some, refl, sym, ap, subst, arith}
use Rattle.std.proofs.lemmas.Bool.{cases_lt}
use Rattle.std.proofs.lemmas.Bool.Decides.{nat_tests}
use Rattle.std.proofs.lemmas.List.{get_or-set_same, get_or_past, length-set}
use Rattle.std.proofs.lemmas.List.Sums.{fails_before_first}
use Rattle.std.specs.List.{AllByRecursion, list_any, position_or_len}
use Rattle.std.specs.Prelude.{find, is_some, slice_index_or}
use Rattle.open_items.proofs.Filtered.{all_find}
use Rattle.link_table.specs.declared.handles.HandleState.{HandleState}
use Rattle.link_table.specs.declared.handles.HandleState.TheVariants as state
use Rattle.link_table.specs.Table.{HandleTable, free_of, is_free, new_table, state_of, up_to, with_read, with_sent, with_state}
use Rattle.machine_091.specs.declared.limits.TheConstants.{CHANNEL_MAX}
use Rattle.consume_path.specs.Deliveries as on
use Rattle.consume_path.specs.Deliveries.{DeliveryEvent, DeliveryState}
use Rattle.consume_path.specs.Journal.{is_closed}
use Rattle.consume_path.specs.Links.{link_of as receiving_link}
use Rattle.consume_path.specs.Offers.{next_settle_of}
use Rattle.consume_path.specs.declared.receiving.ReceivingLink.{ReceivingLink}
use Rattle.consume_path.specs.declared.receiving.TransferFault.{TransferFault}
use Rattle.publish_path.specs.Journal.{IsTaken, fate_of, is_to_go}
use Rattle.publish_path.specs.Links.{link_to}
use Rattle.session_path.specs.Due.{attach_of, next_attach}
use Rattle.session_path.specs.Events as event
use Rattle.session_path.specs.Events.{PathEvent, after_event, after_events, deliveries_of, publishes_of}
use Rattle.session_path.specs.Laws.{AreHeard}
use Rattle.session_path.specs.Links.{LinksState, asked_by, asked_on, attach_fault, attached, attached_as, detached_on, failed_on, flowed_on, given_on, gone_on, handle_in, handle_of}
use Rattle.session_path.specs.Links.{has_number, is_asked_as, is_given, is_left, is_stage_asked, is_stage_whole, is_wanted, named, parted, stands, told_on}
use Rattle.session_path.specs.Links.{failed_by, put, with_link_to}
use Rattle.session_path.specs.Path.{PathState, detaching_of, flow_of, get_link, got_on, is_grant_next, queue_or, receiver_in, taking}
use Rattle.session_path.specs.declared.path.AttachDue.{AttachDue}
use Rattle.session_path.specs.declared.path.PathLink.{PathLink}
use Rattle.session_path.specs.declared.path.Stage.{Stage}
use Rattle.session_path.specs.declared.path.Stage.TheVariants as stage
use Rattle.session_path.proofs.Numbers.{takes, takes_one}
use Rattle.session_path.proofs.SameLinks.{attach_same, disposed_same, dropped_same, flow_sent_same, flowed_if, flowed_same, transfer_same}
use Rattle.session_path.proofs.Tied.{tied_after}
use Rattle.session_path.proofs.Ties.{eq_of, eq_to, found_passes, state_other}
use Rattle.gate_model.specs.declared.channel.AttachOut.{AttachOut}
use Rattle.gate_model.specs.declared.channel.SessionUnit.{SessionUnit}
use Rattle.gate_model.specs.declared.channel.SessionUnit.TheVariants as unit
use Rattle.gate_model.specs.declared.outgoing.Outgoing.TheVariants.{ToUp}
use Rattle.gate_model.specs.declared.outgoing.UpUnit.{UpUnit}
use Rattle.gate_model.specs.declared.outgoing.UpUnit.TheVariants as up
use Rattle.gate_model.specs.Addresses.{address_in, target_in}
use Rattle.gate_model.specs.Credits.{kind_in}
use Rattle.gate_model.specs.Folds.{connection, peers}
use Rattle.gate_model.specs.Handles.{handle_in as handle_by_steps}
use Rattle.gate_model.specs.Paths.{path_at}
use Rattle.gate_model.specs.Picks.{ArePicks}
use Rattle.gate_model.specs.Publishing.{given_event, opens_channel, path_events, path_life, step_events, up_events}
use Rattle.gate_model.specs.Rests.{SuppliesContainers}
use Rattle.gate_model.specs.State.{Gave, Step, before, is_later}
use Rattle.gate_model.specs.Supplies.{AreAttached, AttachesLinks, HasHandle, IsTargeted, most_handle, uses, uses_step, uses_up, was_used}
use Rattle.gate_model.proofs.Basics.{and_left, and_right, not_true}
use Rattle.gate_model.proofs.Connections.{clash}
use Rattle.gate_model.proofs.Credits.{JoinedAre}
use Rattle.gate_model.proofs.Fates.{FramesAre, PublishesAre, RestsAre, path_of}
use Rattle.gate_model.proofs.Filling.{known_takes, told_of}
use Rattle.gate_model.proofs.Firsts.{OfSession, goes_up_as}
use Rattle.gate_model.proofs.Givings.{end_all, gives_up, is_given as is_sent, step_all}
use Rattle.gate_model.proofs.Granting.{DeliveriesAre}
use Rattle.gate_model.proofs.Handles.{names, there_held}
use Rattle.gate_model.proofs.Heard.{ClosedAre, open_heard}
use Rattle.gate_model.proofs.LinkHandles.{IsNamed}
use Rattle.gate_model.proofs.LinkSends.{held}
use Rattle.gate_model.proofs.LinkSteps.{IsDue, is_due}
use Rattle.gate_model.proofs.Reaches.{holds}
use Rattle.gate_model.proofs.Receivers.{LinksAre}
use Rattle.gate_model.proofs.Rests.{LivesBelow}
use Rattle.gate_model.proofs.Settles.{CallsAre}
use Rattle.gate_model.proofs.Sources.{QueuesAre}
use Rattle.gate_model.proofs.Targets.{sends_on}

-- ---- a handle that isn't free was used

record Table (f : ℕ → Bool) (most : ℕ) (t : HandleTable) : Type 0 where
  long : length t.states ≡ 256
  most_is : t.most ≡ most
  used : (j : ℕ) → is_free (state_of t j) ≡ false → f j ≡ true

-- where a state is written under a handle that isn't free
written : (f : ℕ → Bool) (most : ℕ) (t : HandleTable) (h : ℕ) (st : HandleState) → (is_free st ≡ false → f h ≡ true) → Table f most t → Table f most (with_state h st t)
written f most t h st mine w = record {
  long = length-set t.states h st ∙ w.long;
  most_is = w.most_is;
  used = λ j e. by j (h == j) refl e;
}
  where
    there : is_free (state_of (with_state h st t) h) ≡ false → f h ≡ true
    there e = elim (cases_lt h (length t.states)) [
      | inl lt ↦ mine (sym (ap is_free (get_or-set_same t.states h st state.Free lt)) ∙ e)
      | inr le ↦ absurd (gone (let long : length (with_state h st t).states ≡ length t.states = length-set t.states h st in get_or_past (with_state h st t).states h state.Free (omega (arith, le, long))) e)
    ]
      where
        gone : state_of (with_state h st t) h ≡ state.Free → is_free (state_of (with_state h st t) h) ≡ false → ⊥
        gone past e = clash _ (ap is_free past) e

    by : (j : ℕ) (b : Bool) → (h == j) ≡ b → is_free (state_of (with_state h st t) j) ≡ false → f j ≡ true
    by j true i e =
        let same : h ≡ j = eq_of h j i in
        subst (λ (k : ℕ). f k ≡ true) same (there (subst (λ (k : ℕ). is_free (state_of (with_state h st t) k) ≡ false) (sym same) e))
    by j false i e = w.used j (sym (ap is_free (state_other t h j st i)) ∙ e)

read_free : (s : HandleState) → is_free (with_read s) ≡ false → is_free s ≡ false
read_free state.Free e = absurd cc
read_free state.Asked e = refl
read_free (state.Attached a) e = refl

sent_free : (s : HandleState) → is_free (with_sent s) ≡ false → is_free s ≡ false
sent_free state.Free e = absurd cc
sent_free state.Asked e = refl
sent_free (state.Attached a) e = refl

asked_handle : (g : Stage) → is_stage_asked g ≡ true → handle_in g ≡ Some (handle_of g)
asked_handle (stage.Asked h) e = refl
asked_handle g e = absurd cc

-- an attach of the gateway
abbrev is_attach : PathEvent → Bool
is_attach (event.AttachSent name) = true
is_attach x = false

module _ (f : ℕ → Bool) (life : ℕ) where
  abbrev On : List PathEvent → Type 0
  On es = Table f (most_handle es) (after_events life es).links.handles

  stays : (x : PathEvent) (es : List PathEvent) → is_attach x ≡ false → On es → On (x ∷ es)
  stays x es e w = by x e
    where
      s : PathState
      s = after_events life es

      m : ℕ
      m = most_handle es

      In : LinksState → Type 0
      In z = Table f m z.handles

      -- the state of the handle that a link has
      of_link : (l : PathLink) (st : HandleState) → (is_free st ≡ false → is_free (state_of s.links.handles (handle_of l.stage)) ≡ false)
          → Table f m (with_state (handle_of l.stage) st s.links.handles)
      of_link l st less = written f m s.links.handles (handle_of l.stage) st (λ i. w.used (handle_of l.stage) (less i)) w

      linked : (b : Bool) (address : List ℕ) → In (if b then s.links else with_link_to address s.links)
      linked true address = w
      linked false address = w

      got : (o : Option PathLink) (queue : List ℕ) (no_ack : Bool) → In (got_on o queue no_ack s).links
      got None queue no_ack = w
      got (Some l) queue no_ack = w

      attaches : (b : Bool) (name : ℕ) (role : Bool) (peer : ℕ) (there : Bool) (o : Option PathLink) → find (is_asked_as name role) s.links.links ≡ o
          → In (attached_as (if b then None else o) peer there s.links)
      attaches true name role peer there o i = w
      attaches false name role peer there None i = w
      attaches false name role peer there (Some l) i =
          let asked : is_stage_asked l.stage ≡ true = and_left _ _ (and_left _ _ (found_passes (is_asked_as name role) s.links.links l i)) in
          let standing : stands s.links.handles l.stage ≡ true = (all_find (λ (k : PathLink). stands s.links.handles k.stage ≡ true) (is_asked_as name role) s.links.links l (tied_after life es).standing i).0 in
          of_link l _ (λ z. held s.links.handles l.stage (handle_of l.stage) standing (asked_handle l.stage asked))

      flowed_on_it : (o : Option PathLink) (count : Option ℕ) (credit : ℕ) (drain echo : Bool) → In (flowed_on o count credit drain echo s.links)
      flowed_on_it None count credit drain echo = w
      flowed_on_it (Some l) count credit drain echo = w

      flowing : (o : Option PathLink) (peer : ℕ) (count : Option ℕ) (credit : ℕ) (drain echo : Bool) → In (flowed_if o peer count credit drain echo s.links)
      flowing None peer count credit drain echo = flowed_on_it (named peer s.links) count credit drain echo
      flowing (Some l) peer count credit drain echo = w

      detaches : (o : Option PathLink) → In (detached_on o s.links)
      detaches None = w
      detaches (Some l) = of_link l _ (read_free (state_of s.links.handles (handle_of l.stage)))

      fails : (o : Option PathLink) (fault : TransferFault) → In (failed_on o fault s.links)
      fails None fault = w
      fails (Some l) fault = at (is_stage_whole l.stage && l.receives)
        where
          at : (b : Bool) → In (if b then record s.links { links = put (failed_by fault l) s.links.links } else s.links)
          at true = w
          at false = w

      told_one : (o : Option PathLink) → In (told_on o s.links)
      told_one None = w
      told_one (Some l) = w

      telling : (b : Bool) → In (cond b s.links (told_on (flow_of s.publishes.list s.links) s.links))
      telling true = w
      telling false = told_one (flow_of s.publishes.list s.links)

      parts : (o : Option PathLink) → In (parted o s.links)
      parts None = w
      parts (Some l) = at (is_left l)
        where
          at : (b : Bool) → In (if b then gone_on (Some l) s.links else given_on (Some l) s.links)
          at true = of_link l _ (sent_free (state_of s.links.handles (handle_of l.stage)))
          at false = of_link l _ (sent_free (state_of s.links.handles (handle_of l.stage)))

      by : (x : PathEvent) → is_attach x ≡ false → Table f (most_handle (x ∷ es)) (after_event x s).links.handles
      by (event.AttachSent name) e = absurd cc
      by (event.Began handle_max) e = record { long = w.long; most_is = refl; used = w.used }
      by (event.Published address payload back) e = linked (is_some (link_to s.links.sending address)) address
      by (event.GetAsked queue no_ack) e = got (get_link (queue_or s.queue queue) s) (queue_or s.queue queue) no_ack
      by (event.AttachCame a) e =
          subst In (sym (attach_same (asked_by a s.links) a (record s { links = attached a s.links })))
          (attaches (is_some (attach_fault a.name a.role a.peer s.links)) a.name a.role a.peer a.there (find (is_asked_as a.name a.role) s.links.links) refl)
      by (event.FlowCame peer count credit drain echo) e =
          subst In (sym (flowed_same (receiver_in (named peer s.links)) peer count credit drain echo s)) (flowing (receiver_in (named peer s.links)) peer count credit drain echo)
      by (event.DetachCame peer not_found) e = detaches (named peer s.links)
      by (event.TransferCame peer part payload image again) e = subst In (sym (transfer_same (taking peer s) part payload image again s)) w
      by (event.LinkFailed peer fault) e = fails (named peer s.links) fault
      by event.LinkFlowSent e = subst In (sym (flow_sent_same s)) (telling (is_grant_next s))
      by event.DisposeSent e = subst In (sym (disposed_same (next_settle_of s.deliveries.list) s)) w
      by event.DetachSent e = subst In (sym (dropped_same (detaching_of s) (record s { links = parted (detaching_of s) s.links }))) (parts (detaching_of s))
      by y e = w

  all_stay : (xs es : List PathEvent) → AllByRecursion (λ x. is_attach x ≡ false) xs → On es → On (xs ++ es)
  all_stay [] es a w = w
  all_stay (x ∷ xs) es a w = stays x (xs ++ es) a.0 (all_stay xs es a.1 w)

-- none was at the opening
all_free : (k j : ℕ) → slice_index_or (replicate k state.Free) j state.Free ≡ state.Free
all_free zero zero = refl
all_free zero (suc j) = refl
all_free (suc k) zero = refl
all_free (suc k) (suc j) = all_free k j

first_table : (f : ℕ → Bool) → Table f 255 (new_table 255)
first_table f = record { long = refl; most_is = refl; used = λ j e. absurd (clash (is_free (state_of (new_table 255) j)) (ap is_free (all_free 256 j)) e) }

table_as : (f g : ℕ → Bool) (most : ℕ) (t : HandleTable) → ((j : ℕ) → g j ≡ f j) → Table f most t → Table g most t
table_as f g most t same w = record { long = w.long; most_is = w.most_is; used = λ j e. same j ∙ w.used j e }

-- the attach that is due goes under a handle that is used from then on
attach_table : (f : ℕ → Bool) (s : PathState) (m name : ℕ) (a : AttachDue) → next_attach s ≡ Some a → Table f m s.links.handles
    → Table (λ j. (a.handle == j) || f j) m (after_event (event.AttachSent name) s).links.handles
attach_table f s m name a e w = by (find is_wanted s.links.links) (free_of s.links.handles) e
  where
    either : (b c : Bool) → c ≡ true → (b || c) ≡ true
    either true c g = refl
    either false c g = g

    more : Table (λ j. (a.handle == j) || f j) m s.links.handles
    more = record { long = w.long; most_is = w.most_is; used = λ j i. either (a.handle == j) (f j) (w.used j i) }

    by : (o : Option PathLink) (q : Option ℕ) → attach_of o q ≡ Some a → Table (λ j. (a.handle == j) || f j) m (asked_on o q name s.links).handles
    by None q i = absurd cc
    by (Some l) None i = absurd cc
    by (Some l) (Some h) i =
        let handle : a.handle ≡ h = cc in
        written (λ j. (a.handle == j) || f j) m s.links.handles h state.Asked (λ z. ap (λ (b : Bool). b || f h) (eq_to a.handle h handle)) more

-- ---- all steps

still : (x : PathEvent) → is_sent x ≡ false → is_attach x ≡ false
still (event.AttachSent name) e = absurd cc
still x e = refl

unused_step : (n x : ℕ) (s : Step) → gives_up s ≡ false → uses_step n x s ≡ false
unused_step n x (Gave (ToUp u) text) e = absurd cc
unused_step n x s e = refl

module _ (n life : ℕ) (below : n ≤ CHANNEL_MAX) where
  abbrev Used : List Step → ℕ → Bool
  Used h j = was_used n j h

  module _ (h : List Step) (p : ArePicks h) (lives : path_life h n ≡ Some life) (old : On (Used h) life (path_events h n)) where
    abbrev es : List PathEvent
    es = path_events h n

    abbrev s : PathState
    s = after_events life es

    now : path_at (before h).paths n ≡ s
    now = path_of h n life p below lives

    unit_table : (u : SessionUnit) → IsDue (before h) n u → On (λ j. uses j u || was_used n j h) life (given_event u ∷ es)
    unit_table (unit.Attach a) d =
        subst (λ (x : AttachOut). On (λ j. (x.handle == j) || was_used n j h) life (event.AttachSent x.name ∷ es)) (sym d.2)
        (attach_table (Used h) s (most_handle es) (before h).attached d.0 (ap next_attach (sym now) ∙ d.1) old)
    unit_table (unit.Flow f) d = stays (Used h) life event.LinkFlowSent es refl old
    unit_table (unit.Transfer t) d = stays (Used h) life (event.TransferSent t.frame t.bytes) es refl old
    unit_table (unit.Dispose x) d = stays (Used h) life event.DisposeSent es refl old
    unit_table (unit.Settle x) d = stays (Used h) life (event.SettleSent x) es refl old
    unit_table (unit.Detach link handle why) d = stays (Used h) life event.DetachSent es refl old

    up_table : (later : Bool) (u : UpUnit) → OfSession (IsDue (before h)) u → On (λ j. uses_up n j u || was_used n j h) life (up_events later n u ++ es)
    up_table later (up.OnSession m u) d = by (m == n) refl
      where
        by : (b : Bool) → (m == n) ≡ b → On (λ j. (b && uses j u) || was_used n j h) life ((if b then given_event u ∷ [] else []) ++ es)
        by true e = unit_table u (subst (λ (i : ℕ). IsDue (before h) i u) (eq_of m n e) d)
        by false e = old
    up_table later (up.End m why) d = all_stay (Used h) life (up_events later n (up.End m why)) es (end_all (λ x. is_attach x ≡ false) still later n m why) old
    up_table later u d = old

  other_table : (step : Step) (h : List Step) → gives_up step ≡ false → (path_life h n ≡ Some life → On (Used h) life (path_events h n)) → path_life (step ∷ h) n ≡ Some life
      → On (Used (step ∷ h)) life (path_events (step ∷ h) n)
  other_table step h e old l = by (opens_channel n h step) l
    where
      by : (b : Bool) → (if b then Some ((peers h).opened + 1) else path_life h n) ≡ Some life
          → On (λ j. if b then false else uses_step n j step || was_used n j h) life (if b then [] else step_events n h step ++ path_events h n)
      by true l = first_table (λ j. false)
      by false l =
          table_as (Used h) (λ j. uses_step n j step || was_used n j h) _ _ (λ j. ap (λ (b : Bool). b || was_used n j h) (unused_step n j step e))
          (all_stay (Used h) life (step_events n h step) (path_events h n) (step_all (λ x. is_attach x ≡ false) still n h step e) (old l))

tables : (n life : ℕ) → n ≤ CHANNEL_MAX → (h : List Step) → ArePicks h → path_life h n ≡ Some life → On (λ j. was_used n j h) life (path_events h n)
tables n life below [] p l = absurd cc
tables n life below (Gave (ToUp u) text ∷ h) p l =
    up_table n life below h p.1 l (tables n life below h p.1 l) (is_later (connection h) u) u (goes_up_as (IsDue (before h)) (before h) u (is_due (before h)) p.0.1)
tables n life below (s ∷ h) p l = other_table n life below s h refl (tables n life below h p.1) l

-- ---- one that is free

free_there : (t : HandleTable) (x : ℕ) → x < length t.states → is_free (state_of t x) ≡ true → x ≤ t.most → is_some (free_of t) ≡ true
free_there t x inside free within = elim (cases_lt x p) [
  | inl lt ↦ absurd (clash (is_free (state_of t x)) free (fails_before_first is_free t.states x state.Free (omega (arith, lt))))
  | inr le ↦
      ap (λ (o : Option ℕ). is_some (up_to t.most o)) (ap (λ (b : Bool). cond b (Some p) None) (less p (length t.states) (omega (arith, le, inside))))
      ∙ ap (λ (b : Bool). is_some (cond b (Some p) None)) (most p t.most (omega (arith, le, within)))
]
  where
    p : ℕ
    p = position_or_len is_free t.states

    less : (m n : ℕ) → m < n → nat_lt m n ≡ true
    less m n lt = grind (arith, nat_tests, lt)

    most : (m n : ℕ) → m ≤ n → nat_le m n ≡ true
    most m n le = grind (arith, nat_tests, le)

most_below : (es : List PathEvent) → most_handle es ≤ 255
most_below [] = omega arith
most_below (event.Began handle_max ∷ es) = omega arith
most_below (x ∷ es) = most_below es

none_wanted : (o : Option PathLink) (q : Option ℕ) → attach_of o q ≡ None → is_some q ≡ true → o ≡ None
none_wanted None q e f = refl
none_wanted (Some l) None e f = absurd cc
none_wanted (Some l) (Some h) e f = absurd cc

pub none_all : {A : Type 0} (p : A → Bool) (xs : List A) → find p xs ≡ None → AllByRecursion (λ x. p x ≡ false) xs
none_all p [] e = tt
none_all p (x ∷ xs) e = by (p x) refl e (none_all p xs)
  where
    by : (b : Bool) → p x ≡ b → cond b (Some x) (find p xs) ≡ None → (find p xs ≡ None → AllByRecursion (λ y. p y ≡ false) xs) → AllByRecursion (λ y. p y ≡ false) (x ∷ xs)
    by true i f rest = absurd cc
    by false i f rest = (i, rest f)

pub none_any : {A : Type 0} (p : A → Bool) (xs : List A) → find p xs ≡ None → list_any p xs ≡ false
none_any p [] e = refl
none_any p (x ∷ xs) e = by (p x) e (none_any p xs)
  where
    by : (b : Bool) → cond b (Some x) (find p xs) ≡ None → (find p xs ≡ None → list_any p xs ≡ false) → (b || list_any p xs) ≡ false
    by true f rest = absurd cc
    by false f rest = rest f

-- ---- where no attach is due

module _ (arrives : DeliveriesAre) (closed : ClosedAre) (calls : CallsAre) (joined : JoinedAre) (tied : LinksAre) (queues : QueuesAre) (publishes : PublishesAre) (frames : FramesAre)
    (rests : RestsAre) (below : LivesBelow) where
  attached_all : (h : List Step) (n life : ℕ) → ArePicks h → path_life h n ≡ Some life → next_attach (after_events life (path_events h n)) ≡ None → HasHandle h n → AreAttached h n life
  attached_all h n life p lives none room = record { publishes = sent; receivers = received }
    where
      es : List PathEvent
      es = path_events h n

      s : PathState
      s = after_events life es

      least : n ≤ CHANNEL_MAX
      least = below h n life lives

      table : Table (λ j. was_used n j h) (most_handle es) s.links.handles
      table = tables n life least h p lives

      unused : (b : Bool) → is_free (state_of s.links.handles room.handle) ≡ b → b ≡ true
      unused true e = refl
      unused false e = absurd (clash (was_used n room.handle h) (table.used room.handle e) room.unused)

      free : is_some (free_of s.links.handles) ≡ true
      free =
          let within : room.handle ≤ most_handle es = room.within in
          let most : most_handle es ≤ 255 = most_below es in
          let long : length s.links.handles.states ≡ 256 = table.long in
          let same : s.links.handles.most ≡ most_handle es = table.most_is in
          free_there s.links.handles room.handle (omega (arith, within, most, long)) (unused (is_free (state_of s.links.handles room.handle)) refl) (omega (arith, within, same))

      unwanted : AllByRecursion (λ l. is_wanted l ≡ false) s.links.links
      unwanted = none_all is_wanted s.links.links (none_wanted (find is_wanted s.links.links) (free_of s.links.handles) none free)

      sent : (k : ℕ) (address : List ℕ) → IsTaken (publishes_of life es) k → is_to_go (fate_of k (publishes_of life es)) ≡ true → address_in n k h ≡ Some address → IsTargeted h n address
      sent k address taken go is =
          let all = holds publishes frames rests tied below n h p life lives in
          let g = all.goes k taken go in
          let j = (fate_of k (publishes_of life es)).link in
          let there = sends_on (λ x. target_in n x h) s.links j g.link all.keeps g.is (λ l e. (all_find (λ (m : PathLink). is_wanted m ≡ false) (has_number j) s.links.links l unwanted e).0) in
          record { handle = there.0; is = there.1 ∙ sym g.address ∙ is }

      received : (k : ℕ) → is_closed (deliveries_of life es) ≡ false → is_some (kind_in k (deliveries_of life es)) ≡ true → is_some (handle_by_steps n k h) ≡ true
      received k on_yet some = by (receiving_link (on.after_events life ds).links k) refl
        where
          ds : List DeliveryEvent
          ds = deliveries_of life es

          heard : AreHeard life es
          heard = open_heard arrives closed h n life p least lives on_yet

          held_one : takes k s.links.links ≡ true → (o : Option PathLink) → find (takes_one k) s.links.links ≡ o → is_some (handle_by_steps n k h) ≡ true
          held_one t None e = absurd (clash (takes k s.links.links) t (none_any (takes_one k) s.links.links e))
          held_one t (Some l) e =
              let passes : takes_one k l ≡ true = found_passes (takes_one k) s.links.links l e in
              let number : l.link ≡ k = eq_of l.link k (and_left (has_number k l) _ passes) in
              let given : is_given l ≡ false = not_true (is_given l) (and_right l.receives _ (and_right (has_number k l) _ passes)) in
              let wanted : is_wanted l ≡ false = (all_find (λ (m : PathLink). is_wanted m ≡ false) (takes_one k) s.links.links l unwanted e).0 in
              let named_by_steps : handle_by_steps n l.link h ≡ Some (handle_of l.stage) =
              (all_find (IsNamed (λ j. handle_by_steps n j h)) (takes_one k) s.links.links l (names n life least h p lives).each e).0 (handle_of l.stage) (there_held l.stage wanted given) in
              ap (λ (j : ℕ). is_some (handle_by_steps n j h)) (sym number) ∙ ap is_some named_by_steps

          by : (o : Option ReceivingLink) → receiving_link (on.after_events life ds).links k ≡ o → is_some (handle_by_steps n k h) ≡ true
          by None e = let away : kind_in k ds ≡ None = told_of joined life ds k None (calls life es heard) e in absurd (clash (is_some (kind_in k ds)) some (ap is_some away))
          by (Some l) e = held_one (known_takes arrives closed tied queues life es k heard on_yet l e) (find (takes_one k) s.links.links) refl

  pub attaches_links : ((h : List Step) → ArePicks h → SuppliesContainers h) → (h : List Step) → ArePicks h → AttachesLinks h
  attaches_links supplies h p n life r memory room =
      attached_all h n life p r.lives ((supplies h p r.none r.readable r.unclosed n life r.lives r.carried).attaches memory) room
