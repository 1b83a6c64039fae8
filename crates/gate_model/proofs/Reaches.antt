-- Each frame of a transfer goes under the handle whose attach named the address of its publish, by the steps.
use Rattle.std.proofs.Common.{◌≡◌, ◌∙◌, ℕ, ◌+◌, ◌==◌, ◌≤◌, ◌&&◌, not, Bool, true, false, if◌then◌else◌, List, [], ◌∷◌, ◌++◌, Option, None, Some}
use Rattle.std.proofs.Common.{refl, sym, ap, subst, arith}
use Rattle.std.proofs.lemmas.Bool.Decides.{nat_tests}
use Rattle.std.specs.List.{AllByRecursion}
use Rattle.std.specs.Prelude.{IfSome, find}
use Rattle.machine_091.specs.declared.limits.TheConstants.{CHANNEL_MAX}
use Rattle.machine_091.specs.declared.unit.Refusal.{Refusal}
use Rattle.machine_091.specs.declared.unit.Unit91.{Unit91}
use Rattle.machine_091.specs.declared.unit.Want91.{Want91}
use Rattle.machine_091.specs.declared.unit.Want91.TheVariants as want
use Rattle.methods_091.specs.declared.method.Method91.{Method91}
use Rattle.methods_091.specs.declared.method.Method91.TheVariants as method
use Rattle.property_map.specs.Spelling.{image_text}
use Rattle.performatives_10.specs.declared.condition.Condition.{Condition}
use Rattle.publish_path.specs.Laws.{frame_by}
use Rattle.publish_path.specs.Publishes.{PublishEvent}
use Rattle.session_path.specs.Due.{address_at, next_attach, next_detach}
use Rattle.session_path.specs.Events as event
use Rattle.session_path.specs.Events.{PathEvent, after_events, publishes_of}
use Rattle.session_path.specs.Links.{LinksState, handle_of, has_number, is_stage_open, parted}
use Rattle.session_path.specs.Path.{IsThere, PathState, detaching_of, opened}
use Rattle.session_path.specs.declared.path.AttachDue.{AttachDue}
use Rattle.session_path.specs.declared.path.PathLink.{PathLink}
use Rattle.session_path.proofs.Idle.{detaching_there}
use Rattle.session_path.proofs.SameLinks.{dropped_same}
use Rattle.session_path.proofs.Tied.{tied_after}
use Rattle.gate_model.specs.declared.channel.AttachOut.{AttachOut}
use Rattle.gate_model.specs.declared.channel.ChannelUnit.{ChannelUnit}
use Rattle.gate_model.specs.declared.channel.ChannelUnit.TheVariants as to_client
use Rattle.gate_model.specs.declared.channel.SessionUnit.{SessionUnit}
use Rattle.gate_model.specs.declared.channel.SessionUnit.TheVariants as unit
use Rattle.gate_model.specs.declared.channel.TransferOut.{TransferOut}
use Rattle.gate_model.specs.declared.outgoing.Outgoing.TheVariants.{ToClient, ToUp}
use Rattle.gate_model.specs.declared.outgoing.UpUnit.{UpUnit}
use Rattle.gate_model.specs.declared.outgoing.UpUnit.TheVariants as up
use Rattle.gate_model.specs.declared.reply.Reply.{Reply}
use Rattle.gate_model.specs.declared.reply.Reply.TheVariants as reply
use Rattle.gate_model.specs.declared.setup.Route.{Route}
use Rattle.gate_model.specs.Addresses.{MayReach, Reaches, ReachesAddress, address_by, address_in, address_wanted, target_by, target_in, target_on}
use Rattle.gate_model.specs.Due.{carries_of, carries_up}
use Rattle.gate_model.specs.Folds.{connection, paths_in, peers, ran_out_in, routes_in}
use Rattle.gate_model.specs.Giving.{AreDone, MayGive}
use Rattle.gate_model.specs.Lives.{is_of_channel}
use Rattle.gate_model.specs.Once.{is_channel_open, is_method_on}
use Rattle.gate_model.specs.Paths.{attach_out, path_at}
use Rattle.gate_model.specs.Picks.{ArePicks}
use Rattle.gate_model.specs.Publishing.{MayCarry, MayTransfer, given_event, method_events, one_more, path_events, path_life, publishes_in, refusal_events, reply_events, step_events}
use Rattle.gate_model.specs.Publishing.{text_wanted, told_event, up_events, want_events}
use Rattle.gate_model.specs.Requests.{address_of, message_of}
use Rattle.gate_model.specs.Returns.{back_of}
use Rattle.gate_model.specs.State.{Came, Gave, State, Step, before, conn_step, is_later, want_in}
use Rattle.gate_model.proofs.Fates.{FramesAre, PublishesAre, RestsAre, carry_is, path_of}
use Rattle.gate_model.proofs.Firsts.{OfSession, SessionUnits, goes_up_as}
use Rattle.gate_model.proofs.Giving.{gives_up_idle}
use Rattle.gate_model.proofs.Givings.{end_all, gives_up, is_given, method_all, step_all}
use Rattle.gate_model.proofs.Receivers.{LinksAre}
use Rattle.gate_model.proofs.Releases.{life_same}
use Rattle.gate_model.proofs.Rests.{LivesBelow}
use Rattle.gate_model.proofs.Targets.{Holds, attach_holds, detach_holds, framed, is_mute, mutes_hold, published, reached, sends, with_attach, with_detach}
use Rattle.gate_model.proofs.Wholes.{ArePlain, is_plain, is_unit, method_plain, step_plain, up_plain}

-- ---- events that name no address

abbrev AreMute : List PathEvent → Type 0
AreMute xs = AllByRecursion (λ x. is_mute x ≡ true) xs

-- of a plain event
abbrev IfPlain : PathEvent → Type 0
IfPlain x = is_plain x ≡ true → is_mute x ≡ true

if_plain : (x : PathEvent) → is_given x ≡ false → IfPlain x
if_plain (event.Published address payload back) e f = absurd cc
if_plain (event.AttachSent name) e f = absurd cc
if_plain (event.TransferSent frame count) e f = absurd cc
if_plain event.DetachSent e f = absurd cc
if_plain x e f = refl

both : (xs : List PathEvent) → AllByRecursion IfPlain xs → ArePlain xs → AreMute xs
both [] p q = tt
both (x ∷ xs) p q = (p.0 q.0, both xs p.1 q.1)

gives_none : (s : Step) → is_unit s ≡ false → gives_up s ≡ false
gives_none (Gave u text) e = absurd cc
gives_none s e = refl

step_mute : (n : ℕ) (h : List Step) (s : Step) → is_unit s ≡ false → AreMute (step_events n h s)
step_mute n h s e = both (step_events n h s) (step_all IfPlain if_plain n h s (gives_none s e)) (step_plain n h s e)

method_mute : (m : Method91) → AreMute (method_events m)
method_mute m = both (method_events m) (method_all IfPlain (λ x given answer. if_plain x given) m) (method_plain m)

refusal_mute : (n : ℕ) (r : Refusal) → AreMute (refusal_events n r)
refusal_mute n r = by (is_of_channel r) (r.channel == n)
  where
    by : (b c : Bool) → AreMute (if b then (if c then event.LifeClosed ∷ [] else []) else event.LifeClosed ∷ [])
    by true true = (refl, tt)
    by true false = tt
    by false c = (refl, tt)

reply_mute : (n : ℕ) (u : Reply) → AreMute (reply_events n u)
reply_mute n (reply.OnChannel k u) = by (k == n)
  where
    told : (u : ChannelUnit) → is_mute (told_event u) ≡ true
    told (to_client.Ok x) = refl
    told (to_client.Deliver d) = refl
    told (to_client.Content c) = refl
    told (to_client.Confirm c) = refl
    told (to_client.Return r) = refl

    by : (b : Bool) → AreMute (if b then told_event u ∷ [] else [])
    by true = (told u, tt)
    by false = tt
reply_mute n u = tt

-- ---- what goes

abbrev IsDue : State → ℕ → SessionUnit → Type 0
IsDue w n (unit.Attach a) = (d : AttachDue) × (next_attach (path_at w.paths n) ≡ Some d) × (a ≡ attach_out w.attached d)
IsDue w n (unit.Detach link handle why) = (l : PathLink) × (next_detach (path_at w.paths n) ≡ Some l) × (link ≡ l.link) × (handle ≡ handle_of l.stage)
IsDue w n x = Unit {0}

is_due : (w : State) → SessionUnits (IsDue w) w
is_due w = record {
  attach = λ n a e. (a, e, refl);
  flow = λ n f e. tt;
  transfer = λ n f e. tt;
  dispose = λ n x e. tt;
  settle = λ n x e. tt;
  detach = λ n x e. (x, e, refl, refl);
}

-- ---- the life in progress

abbrev In : ℕ → List Step → ℕ → Type 0
In n h life =
    Holds (λ k. target_in n k h) (λ k. address_in n k h) (publishes_in n h) (after_events life (path_events h n)).links (publishes_of life (path_events h n))

fresh : (life : ℕ) → Holds (λ k. None) (λ k. None) 0 (opened life).links []
fresh life = record { keeps = λ n. tt; single = tt; goes = λ k taken go. absurd (omega (arith, taken.0, taken.1)); counted = refl }

-- after a unit of the client with these events, which opens the channel or not
abbrev Now : ℕ → List Step → ℕ → Bool → List PathEvent → Option (List ℕ) → Option (List ℕ) → Type 0
Now n h life opens xs address text =
    Holds (λ k. if opens then None else target_in n k h) (λ k. if opens then None else address_by address (k == publishes_in n h + 1) (address_in n k h))
    (if opens then 0 else one_more text (publishes_in n h)) (after_events life (if opens then [] else xs ++ path_events h n)).links
    (publishes_of life (if opens then [] else xs ++ path_events h n))

module _ (n : ℕ) (h : List Step) (life : ℕ) (old : path_life h n ≡ Some life → In n h life) where
  abbrev es : List PathEvent
  es = path_events h n

  abbrev Lives : Bool → Type 0
  Lives opens = (if opens then Some ((peers h).opened + 1) else path_life h n) ≡ Some life

  mutes : (xs : List PathEvent) → AreMute xs → path_life h n ≡ Some life → Now n h life false xs None None
  mutes xs m l = mutes_hold (λ k. target_in n k h) (λ k. address_in n k h) (publishes_in n h) life xs es m (old l)

  method_now : (b : Bool) (m : Method91) → Lives (b && is_channel_open m) → Now n h life (b && is_channel_open m) (if b then method_events m else []) None None
  method_now false m l = old l
  method_now true method.ChannelOpen l = fresh life
  method_now true m l = mutes (method_events m) (method_mute m) l

  want_now : (rs : List Route) (limit : ℕ) (x : Want91) → Lives (is_method_on is_channel_open n x)
      → Now n h life (is_method_on is_channel_open n x) (want_events rs limit n x) (address_wanted rs n x) (text_wanted n x)
  want_now rs limit (want.Method k m) l = method_now (k == n) m l
  want_now rs limit (want.Publish k m c) l = by (k == n)
    where
      address : List ℕ
      address = address_of rs (message_of m c)

      text : List ℕ
      text = image_text (message_of m c)

      back : List (List ℕ)
      back = back_of limit k m (message_of m c)

      by : (b : Bool) → Now n h life false (if b then event.Published address text back ∷ [] else []) (if b then Some address else None) (if b then Some text else None)
      by true =
          published (λ k. target_in n k h) (λ k. address_in n k h) (publishes_in n h) address text back (after_events life es).confirms (after_events life es).links (publishes_of life es)
          (tied_after life es) (old l)
      by false = old l
  want_now rs limit want.Close l = mutes (event.LifeClosed ∷ []) (refl, tt) l
  want_now rs limit (want.Refuse r) l = mutes (refusal_events n r) (refusal_mute n r) l
  want_now rs limit x l = old l

  came_now : (u : Unit91) → path_life (Came u ∷ h) n ≡ Some life → In n (Came u ∷ h) life
  came_now u = by (ran_out_in h)
    where
      x : Want91
      x = want_in (routes_in h) (paths_in h) (connection h) u

      limit : ℕ
      limit = (conn_step (routes_in h) (paths_in h) (connection h) u).limits.frame_max

      by : (b : Bool) → Lives (not b && is_method_on is_channel_open n x)
          → Now n h life (not b && is_method_on is_channel_open n x) (if b then [] else want_events (routes_in h) limit n x) (if b then None else address_wanted (routes_in h) n x)
          (if b then None else text_wanted n x)
      by true l = old l
      by false l = want_now (routes_in h) limit x l

  -- ---- a unit to the container

  module _ (p : ArePicks h) (below : n ≤ CHANNEL_MAX) (l : path_life h n ≡ Some life) (text : List ℕ) where
    abbrev s : PathState
    s = after_events life es

    abbrev ds : List PublishEvent
    ds = publishes_of life es

    -- what is known of one that goes on a session
    abbrev Given : ℕ → SessionUnit → Type 0
    Given k u = IsDue (before h) k u × (text ≡ carries_of (path_at (before h).paths k) u) × MayCarry h (up.OnSession k u) text × MayGive h (up.OnSession k u)

    abbrev After : (ℕ → Option (List ℕ)) → List PathEvent → Type 0
    After f xs = Holds f (λ k. address_in n k h) (publishes_in n h) (after_events life (xs ++ es)).links (publishes_of life (xs ++ es))

    now : path_at (before h).paths n ≡ s
    now = path_of h n life p below l

    -- what the steps say of handles
    abbrev old_target : ℕ → Option (List ℕ)
    old_target k = target_in n k h

    attach_now : (a : AttachOut) → Given n (unit.Attach a) → After (with_attach a.handle a.receives text old_target) (event.AttachSent a.name ∷ [])
    attach_now a g =
        subst (λ (x : AttachOut). After (with_attach x.handle x.receives text old_target) (event.AttachSent x.name ∷ [])) (sym is)
        (subst (λ (t : List ℕ). After (with_attach due.handle due.receives t old_target) (event.AttachSent (before h).attached ∷ [])) (sym text_is)
        (attach_holds old_target (λ k. address_in n k h) (publishes_in n h) (before h).attached due s ds (tied_after life es) (ap next_attach (sym now) ∙ g.0.1) (old l)))
      where
        due : AttachDue
        due = g.0.0

        is : a ≡ attach_out (before h).attached due
        is = g.0.2

        text_is : text ≡ address_at due s
        text_is = g.1 ∙ ap (λ (x : AttachOut). carries_of (path_at (before h).paths n) (unit.Attach x)) is ∙ ap (address_at due) now

    detach_now : (link handle : ℕ) (why : Option Condition) → Given n (unit.Detach link handle why) → After (with_detach handle old_target) (event.DetachSent ∷ [])
    detach_now link handle why g =
        subst (λ (k : ℕ). After (with_detach k old_target) (event.DetachSent ∷ [])) (sym g.0.3)
        (subst (λ (z : LinksState). Holds (with_detach (handle_of x.stage) old_target) (λ k. address_in n k h) (publishes_in n h) z ds)
        (sym (dropped_same (detaching_of s) (record s { links = parted (detaching_of s) s.links })))
        (subst (λ (o : Option PathLink). Holds (with_detach (handle_of x.stage) old_target) (λ k. address_in n k h) (publishes_in n h) (parted o s.links) ds) (sym due)
        (detach_holds old_target (λ k. address_in n k h) (publishes_in n h) s.links x ds (tied_after life es) there done (old l))))
      where
        x : PathLink
        x = g.0.0

        due : detaching_of s ≡ Some x
        due = ap next_detach (sym now) ∙ g.0.1

        there : IsThere s.links x
        there = subst (λ (o : Option PathLink). IfSome o (IsThere s.links)) due (detaching_there s.publishes.list s.deliveries s.oks s.links (tied_after life es).rising)

        done : x.receives ≡ false → is_stage_open x.stage ≡ true → AreDone ds x.link
        done sends up =
            subst (AreDone ds) g.0.2
            (g.3 life x l (subst (λ (k : ℕ). find (has_number k) s.links.links ≡ Some x) (sym g.0.2) there.0) sends up)

    transfer_now : (t : TransferOut) → MayTransfer h n t text → After old_target (event.TransferSent t.frame t.bytes ∷ [])
    transfer_now t m =
        framed old_target (λ k. address_in n k h) (publishes_in n h) t.frame _ s.links ds (sends s.links.sending ds t.frame frame) (old l)
      where
        frame : frame_by s.links.sending ds ≡ Some t.frame
        frame = subst (λ (i : ℕ). frame_by (after_events i es).links.sending (publishes_of i es) ≡ Some t.frame) (life_same (sym m.lives ∙ l)) m.frame

    other_now : (x : PathEvent) → is_mute x ≡ true → After old_target (x ∷ [])
    other_now x e = mutes_hold old_target (λ k. address_in n k h) (publishes_in n h) life (x ∷ []) es (e, tt) (old l)

    unit_now : (u : SessionUnit) → Given n u → After (λ k. target_by k u text (target_in n k h)) (given_event u ∷ [])
    unit_now (unit.Attach a) g = attach_now a g
    unit_now (unit.Flow f) g = other_now event.LinkFlowSent refl
    unit_now (unit.Transfer t) g = transfer_now t g.2
    unit_now (unit.Dispose x) g = other_now event.DisposeSent refl
    unit_now (unit.Settle x) g = other_now (event.SettleSent x) refl
    unit_now (unit.Detach link handle why) g = detach_now link handle why g

    up_now : (u : UpUnit) → OfSession (IsDue (before h)) u → text ≡ carries_up (before h) u → MayCarry h u text → MayGive h u
        → After (λ k. target_on n k u text (target_in n k h)) (up_events (is_later (connection h) u) n u)
    up_now (up.OnSession k u) d same m g = by (k == n) refl
      where
        by : (b : Bool) → (k == n) ≡ b → After (λ i. if b then target_by i u text (target_in n i h) else target_in n i h) (if b then given_event u ∷ [] else [])
        by true e = let is : k ≡ n = grind (arith, nat_tests, e) in unit_now u (subst (λ (i : ℕ). Given i u) is (d, same, m, g))
        by false e = old l
    up_now (up.End k why) d same m g =
        mutes_hold old_target (λ i. address_in n i h) (publishes_in n h) life (up_events (is_later (connection h) (up.End k why)) n (up.End k why)) es
        (both _ (end_all IfPlain if_plain (is_later (connection h) (up.End k why)) n k why) (up_plain n h (up.End k why) (λ j t e. cc))) (old l)
    up_now u d same m g = old l

-- ---- all steps

module _ (publishes : PublishesAre) (frames : FramesAre) (rests : RestsAre) (tied : LinksAre) (below : LivesBelow) where
  pub holds : (n : ℕ) (h : List Step) → ArePicks h → (life : ℕ) → path_life h n ≡ Some life → In n h life
  holds n [] p life l = absurd cc
  holds n (Came u ∷ h) p life l = came_now n h life (holds n h p.1 life) u l
  holds n (Gave (ToClient u) text ∷ h) p life l =
      mutes_hold (λ k. target_in n k h) (λ k. address_in n k h) (publishes_in n h) life (reply_events n u) (path_events h n) (reply_mute n u) (holds n h p.1 life l)
  holds n (Gave (ToUp u) text ∷ h) p life l =
      up_now n h life (holds n h p.1 life) p.1 (below h n life l) l text u (goes_up_as (IsDue (before h)) (before h) u (is_due (before h)) p.0.1) p.0.2
      (carry_is publishes frames rests h u text p.1 p.0.1 p.0.2) (gives_up_idle publishes tied (Gave (ToUp u) text ∷ h) p).0
  holds n (s ∷ h) p life l =
      mutes_hold (λ k. target_in n k h) (λ k. address_in n k h) (publishes_in n h) life (step_events n h s) (path_events h n) (step_mute n h s refl) (holds n h p.1 life l)

  reaches : (h : List Step) (n : ℕ) (t : TransferOut) (text : List ℕ) → ArePicks h → MayTransfer h n t text → Reaches h n t
  reaches h n t text p m =
      let es = path_events h n in
      let r = reached (λ k. target_in n k h) (λ k. address_in n k h) (publishes_in n h) (after_events m.life es).links (publishes_of m.life es) t.frame (holds n h p m.life m.lives) m.frame in
      record { address = r.address; attached = ap (λ (k : ℕ). target_in n k h) m.handle ∙ r.attached; wanted = r.wanted }

  may_reach : (h : List Step) (u : UpUnit) (text : List ℕ) → ArePicks h → MayCarry h u text → MayReach h u
  may_reach h (up.OnSession n (unit.Transfer t)) text p m = reaches h n t text p m
  may_reach h u text p m = tt

  pub reaches_address : (h : List Step) → ArePicks h → ReachesAddress h
  reaches_address [] p = tt
  reaches_address (Gave (ToUp u) text ∷ h) p = (may_reach h u text p.1 (carry_is publishes frames rests h u text p.1 p.0.1 p.0.2), reaches_address h p.1)
  reaches_address (s ∷ h) p = reaches_address h p.1
