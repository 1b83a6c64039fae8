-- An end of the gateway goes where the state lingered long enough, and the folds say the same.
use Rattle.property_map.specs.declared.told.Told.{Told}
use Rattle.std.proofs.Common.{◌≡◌, ℕ, ◌+◌, ◌-◌, ◌==◌, ◌≤◌, ◌&&◌, ◌||◌, not, nat_le, Bool, true, false, if◌then◌else◌, List, [], ◌∷◌}
use Rattle.std.proofs.Common.{Option, None, Some, is_some, refl, sym, ap, ◌∙◌, subst, arith, length, zero, suc, cond}
use Rattle.std.proofs.lemmas.Bool.Decides.{nat_tests}
use Rattle.std.specs.Option.{option_or}
use Rattle.std.specs.Prelude.{count_by}
use Rattle.open_items.specs.Numbers.{first as first_number, how_many, passing, passing_above}
use Rattle.open_items.proofs.Counted.{how_many_passing, least_none}
use Rattle.close_translate.specs.Conditions.{condition_of}
use Rattle.gate_outside.specs.declared.ports.End.TheVariants.{Client, Up}
use Rattle.gate_outside.specs.declared.ports.Linked.TheVariants as link
use Rattle.gate_relay.specs.declared.loss.Loss.TheVariants as loss
use Rattle.machine_091.specs.State.{is_closing, is_open, is_opening}
use Rattle.machine_091.specs.declared.limits.TheConstants.{CHANNEL_MAX}
use Rattle.machine_091.specs.declared.unit.Unit91.{Unit91}
use Rattle.machine_091.specs.declared.unit.Want91.{Want91}
use Rattle.machine_091.specs.declared.unit.Want91.TheVariants as want
use Rattle.machine_10.specs.Transitions as ten
use Rattle.machine_10.specs.Transitions.{Meaning}
use Rattle.machine_10.specs.declared.unit.Unit10.{Unit10}
use Rattle.machine_10.specs.declared.state.Upstream.{Upstream}
use Rattle.methods_091.specs.declared.method.Method91.{Method91}
use Rattle.methods_091.specs.declared.method.Method91.TheVariants as method
use Rattle.performatives_10.specs.declared.condition.Condition.{Condition}
use Rattle.publish_path.specs.Journal.{Fate, IsTaken, fate_of, is_done as is_fate_done, is_to_come, is_to_go, is_to_return, is_undecided, numbers_of}
use Rattle.publish_path.specs.Kept.{number_of}
use Rattle.publish_path.specs.Offers.{is_pending}
use Rattle.publish_path.specs.Publishes.{PublishEvent, PublishState, has_no_outcome, is_sending}
use Rattle.publish_path.specs.Publishes.{after_events as publishes_after}
use Rattle.publish_path.specs.declared.publish.Publish.{Publish}
use Rattle.publish_path.proofs.Keeping.{follows, to_do_comes}
use Rattle.publish_path.proofs.Matching.{Matches, sending_test, undecided_test}
use Rattle.session_path.specs.Due as path_due
use Rattle.session_path.specs.Events.{publishes_of}
use Rattle.session_path.specs.Path.{PathState}
use Rattle.gate_model.specs.declared.life.Life.{Life}
use Rattle.gate_model.specs.declared.outgoing.Outgoing.TheVariants.{ToClient, ToUp}
use Rattle.gate_model.specs.declared.outgoing.UpUnit.{UpUnit}
use Rattle.gate_model.specs.declared.outgoing.UpUnit.TheVariants as up
use Rattle.gate_model.specs.declared.reply.Reply.{Reply}
use Rattle.gate_model.specs.declared.reply.Reply.TheVariants as reply
use Rattle.gate_model.specs.declared.setup.Route.{Route}
use Rattle.gate_model.specs.declared.timers.TheConstants.{LINGER_LIMIT}
use Rattle.gate_model.specs.Due.{is_end_due, is_lingered, is_long_ago}
use Rattle.gate_model.specs.Folds.{connection, moment_in, paths_in, peers, ran_out_in, routes_in}
use Rattle.gate_model.specs.Linger.{AreOver, IsOver, Late, Done, Ended, Leaves, Lingers, MayLeave, Overdue, RanOut, shut_in}
use Rattle.gate_model.specs.Lives.{closed_life, failed_life, freed_life, is_begun, is_ended, is_of_channel, life_at, lives_by}
use Rattle.gate_model.specs.Lives.{method_life, no_lives, reason_of, session_in, with_life}
use Rattle.gate_model.specs.Once.{is_channel_open, is_method_on}
use Rattle.gate_model.specs.Paths.{path_at}
use Rattle.gate_model.specs.Picks.{ArePicks}
use Rattle.gate_model.specs.Publishing.{opens_channel, path_events, path_life}
use Rattle.gate_model.specs.Requests.{client_step, client_told}
use Rattle.gate_model.specs.State.{Began, Came, Fed, Gave, Heard, Joined, Lost, Moment}
use Rattle.gate_model.specs.State.{Queued, Silent, State, Step, TakenUp, Whole, before, came, carried, closes_at}
use Rattle.gate_model.specs.State.{dequeued, fail, failed, heard, left, runs, sessions_lost, want_in, windowed, with_meaning, without_begin, without_life}
use Rattle.gate_model.specs.Upstream.{heard_up, meaning_by}
use Rattle.gate_model.proofs.Arrived.{MayGo, may_go}
use Rattle.gate_model.proofs.Basics.{and_right, less_both, left_false, right_false}
use Rattle.gate_model.proofs.Connections.{clash}
use Rattle.gate_model.proofs.Fates.{PublishesAre, path_of}
use Rattle.gate_model.proofs.Firsts.{closes_all}
use Rattle.gate_model.proofs.Known.{Known, closed_is, conn_is, container_is, known, memory_is, moment_is, paths_are, routes_are}
use Rattle.gate_model.proofs.Overs.{goes_on}
use Rattle.gate_model.proofs.Places.{Beyond, Elsewhere, Here, SetAt, isnt, new_at, set_at}
use Rattle.gate_model.proofs.Rests.{LivesBelow}
use Rattle.gate_model.proofs.Sessions.{session_cases}
use Rattle.gate_model.proofs.Times.{Either, OnLeft, OnRight, either}

-- ---- the closing event of a life

-- what a step makes of it: it stays, there is none, or it is now; then the life is over
data Comes (ms : ℕ) (l m : Life) : Type 0 where
  Stays : m.closed_at ≡ l.closed_at → (l.over ≡ true → m.over ≡ true) → Comes ms l m
  Anew : m.closed_at ≡ None → Comes ms l m
  Now : m.closed_at ≡ Some ms → m.over ≡ true → Comes ms l m

same : {ms : ℕ} {l m : Life} → m ≡ l → Comes ms l m
same e = Stays (ap (λ (x : Life). x.closed_at) e) (λ o. ap (λ (x : Life). x.over) e ∙ o)

chain : {ms : ℕ} {l m k : Life} → Comes ms l m → Comes ms m k → Comes ms l k
chain (Stays e f) (Stays g i) = Stays (g ∙ e) (λ o. i (f o))
chain (Anew e) (Stays g i) = Anew (g ∙ e)
chain (Now e o) (Stays g i) = Now (g ∙ e) (i o)
chain a (Anew g) = Anew g
chain a (Now g o) = Now g o

abbrev AllCome : ℕ → List Life → List Life → Type 0
AllCome ms ls ks = (n : ℕ) → Comes ms (life_at ls n) (life_at ks n)

all_same : (ms : ℕ) (ls : List Life) → AllCome ms ls ls
all_same ms ls n = same refl

one_comes : {ms : ℕ} (ls : List Life) (k : ℕ) (m : Life) → Comes ms (life_at ls k) m → AllCome ms ls (with_life k m ls)
one_comes {ms} ls k m c n = by (set_at ls k n m)
  where
    by : SetAt ls k n m → Comes ms (life_at ls n) (life_at (with_life k m ls) n)
    by (Here e f) = subst (λ (x : Life). Comes ms (life_at ls n) x) (sym f) (subst (λ (i : ℕ). Comes ms (life_at ls i) m) e c)
    by (Elsewhere d f) = same f
    by (Beyond e f g) = same (g ∙ sym f)

closed : (ms : ℕ) (l : Life) → Comes ms l (closed_life ms l)
closed ms l = by l.closed_at refl
  where
    by : (o : Option ℕ) → l.closed_at ≡ o → Comes ms l (closed_life ms l)
    by None e = Now (ap (λ (x : Option ℕ). option_or x (Some ms)) e) refl
    by (Some at) e = Stays (ap (λ (x : Option ℕ). option_or x (Some ms)) e ∙ sym e) (λ o. refl)

method_comes : (ms : ℕ) (m : Method91) (l : Life) → Comes ms l (method_life ms m l)
method_comes ms method.ChannelOpen l = Anew refl
method_comes ms (method.ChannelClose code text class id) l = closed ms l
method_comes ms m l = same refl

want_comes : (ms : ℕ) (told : Option Told) (x : Want91) (ls : List Life) → AllCome ms ls (lives_by ms told x ls)
want_comes ms told (want.Method k m) ls = one_comes ls k _ (method_comes ms m (life_at ls k))
want_comes ms told (want.ChannelCloseOk k) ls = one_comes ls k (freed_life (life_at ls k)) (Anew refl)
want_comes ms told (want.Refuse r) ls = by (is_of_channel r)
  where
    by : (b : Bool) → AllCome ms ls (if b then with_life r.channel (failed_life false ms (reason_of told r) (Some (condition_of r.code)) (life_at ls r.channel)) ls else ls)
    by true = one_comes ls r.channel _ (Now refl refl)
    by false = all_same _ _
want_comes ms told x ls = all_same _ _

-- of a state
abbrev ComesIn : State → State → Type 0
ComesIn w v = AllCome w.moment w.lives v.lives

fail_comes : (code : ℕ) (why : Option Condition) (w : State) (ls : List Life) (ms : ℕ) → AllCome ms ls w.lives → AllCome ms ls (fail code why w).lives
fail_comes code why w ls ms c = by (is_closing w.conn)
  where
    by : (b : Bool) → AllCome ms ls (if b then sessions_lost w else failed code why w).lives
    by true = c
    by false = c

meaning_comes : (m : Meaning) (w : State) → ComesIn w (with_meaning m w)
meaning_comes ten.Nothing w = all_same _ _
meaning_comes ten.Init w = all_same _ _
meaning_comes ten.AmqpHeader w = all_same _ _
meaning_comes ten.Opened w = by (is_opening w.conn)
  where
    by : (b : Bool) → AllCome w.moment w.lives (if b then runs w else w).lives
    by true = all_same _ _
    by false = all_same _ _
meaning_comes (ten.OfSession g p payload) w =
    let kept : ComesIn w (carried g p payload w) = one_comes w.lives g _ (Stays refl (λ o. o)) in
    let ended : (m : Life) → m.closed_at ≡ Some w.moment → m.over ≡ true → AllCome w.moment w.lives (with_life g m (carried g p payload w).lives) =
    λ m e o n. chain (kept n) (one_comes (carried g p payload w).lives g m (Now e o) n) in
    session_cases (λ (v : State). ComesIn w v) g p payload w (record {
      begins = λ n. chain (kept n) (one_comes (carried g p payload w).lives g _ (Stays refl (λ o. o)) n);
      stays = kept;
      ends = λ code why. ended _ refl refl;
      parts = kept;
      drops = λ code why. ended _ refl refl;
      fails = λ why. fail_comes _ why (windowed g p w) w.lives w.moment kept;
    })
meaning_comes (ten.Closed x) w = fail_comes _ _ w _ _ (all_same _ _)
meaning_comes ten.Refused w = fail_comes _ _ w _ _ (all_same _ _)
meaning_comes (ten.Violation c) w = fail_comes _ _ w _ _ (all_same _ _)

given_comes : {ms : ℕ} (u : Reply) (ls : List Life) → AllCome ms ls (without_life u ls)
given_comes (reply.ChannelOpenOk n) ls = one_comes ls n _ (Stays refl (λ o. o))
given_comes (reply.ChannelCloseOk n) ls = one_comes ls n _ (Stays refl (λ o. o))
given_comes (reply.CrossedOk n) ls = one_comes ls n _ (Stays refl (λ o. o))
given_comes (reply.ChannelClose n r) ls = one_comes ls n _ (Stays refl (λ o. o))
given_comes x ls = all_same _ _

begun_comes : {ms : ℕ} (u : UpUnit) (ls : List Life) → AllCome ms ls (without_begin u ls)
begun_comes (up.OnSession n u) ls = one_comes ls n _ (Stays refl (λ o. o))
begun_comes (up.Flow n i o) ls = one_comes ls n _ (Stays refl (λ x. x))
begun_comes (up.Begin n) ls = one_comes ls n _ (Stays refl (λ o. o))
begun_comes (up.End n why) ls = one_comes ls n _ (Stays refl (λ o. o))
begun_comes x ls = all_same _ _

came_comes : (w : State) (u : Unit91) → ComesIn w (if w.out_of_memory then w else came (dequeued w) u)
came_comes w u = by w.out_of_memory
  where
    by : (b : Bool) → ComesIn w (if b then w else came (dequeued w) u)
    by true = all_same _ _
    by false = want_comes w.moment (client_told w.routes w.conn u) (client_step w.routes w.paths w.conn u).1 w.lives

heard_comes : (w : State) (u : Unit10) → ComesIn w (if w.out_of_memory then w else heard w u)
heard_comes w u = by w.out_of_memory
  where
    by : (b : Bool) → ComesIn w (if b then w else heard w u)
    by true = all_same _ _
    by false = meaning_comes (meaning_by w.up.container u) (record w { up = heard_up u w.up })

queued_comes : (w : State) (us : List Unit91) → ComesIn w (if w.out_of_memory then w else record w { queue = us })
queued_comes w us = by w.out_of_memory
  where
    by : (b : Bool) → ComesIn w (if b then w else record w { queue = us })
    by true = all_same _ _
    by false = all_same _ _

left_comes : (w : State) (b : Bool) → ComesIn w (if b then left w else w)
left_comes w true = all_same _ _
left_comes w false = all_same _ _

-- at the moment of the step
abbrev StepComes : Step → List Step → Type 0
StepComes s h = AllCome (moment_in (s ∷ h)) (before h).lives (before (s ∷ h)).lives

at_moment : (h : List Step) (ls ks : List Life) → ArePicks h → AllCome (before h).moment ls ks → AllCome (moment_in h) ls ks
at_moment h ls ks p c = subst (λ (ms : ℕ). AllCome ms ls ks) (moment_is (known h p)) c

comes : (s : Step) (h : List Step) → ArePicks (s ∷ h) → StepComes s h
comes (Fed Client) h p = all_same _ _
comes (Silent Up) h p = fail_comes _ _ _ _ _ (all_same _ _)
comes (Queued u) h p = at_moment h _ _ p.1 (queued_comes (before h) _)
comes (Came u) h p = at_moment h _ _ p.1 (came_comes (before h) u)
comes TakenUp h p = at_moment h _ _ p.1 (left_comes (before h) _)
comes (Heard u) h p = at_moment h _ _ p.1 (heard_comes (before h) u)
comes (Joined link.Failed) h p = fail_comes _ _ _ _ _ (all_same _ _)
comes (Lost Client loss.Ended) h p = all_same _ _
comes (Lost Up loss.Ended) h p = fail_comes _ _ _ _ _ (all_same _ _)
comes (Lost Up loss.Failed) h p = fail_comes _ _ _ _ _ (all_same _ _)
comes (Gave (ToClient u) text) h p = given_comes u (before h).lives
comes (Gave (ToUp u) text) h p = begun_comes u (before h).lives
comes (Whole Client) h p = all_same _ _
comes s h p = all_same _ _

-- a life with one is over
pub over_is : (h : List Step) → ArePicks h → (n at : ℕ) → (life_at (before h).lives n).closed_at ≡ Some at → (life_at (before h).lives n).over ≡ true
over_is [] p n at e = let none : (life_at no_lives n).closed_at ≡ None = ap (λ (l : Life). l.closed_at) (new_at n) in let wrong : None ≡ Some at = sym none ∙ e in absurd cc
over_is (s ∷ h) p n at e = by (over_is h p.1 n at) (comes s h p n)
  where
    by : ((life_at (before h).lives n).closed_at ≡ Some at → (life_at (before h).lives n).over ≡ true)
        → Comes (moment_in (s ∷ h)) (life_at (before h).lives n) (life_at (before (s ∷ h)).lives n) → (life_at (before (s ∷ h)).lives n).over ≡ true
    by old (Stays f g) = g (old (sym f ∙ e))
    by old (Anew f) = let wrong : None ≡ Some at = sym f ∙ e in absurd cc
    by old (Now f o) = o

-- ---- channels that aren't open

-- its channel isn't
shut_is : (h : List Step) (n at : ℕ) → ArePicks h → n ≤ CHANNEL_MAX → is_some (path_life h n) ≡ true → (life_at (before h).lives n).closed_at ≡ Some at
    → is_open (connection h) n ≡ false
shut_is h n at p below there e = by (is_open (connection h) n) refl
  where
    by : (b : Bool) → is_open (connection h) n ≡ b → b ≡ false
    by true f = absurd (clash _ (over_is h p n at e) (goes_on h n p below there f))
    by false f = refl

pub rises : (s : Step) (h : List Step) → ArePicks (s ∷ h) → moment_in h ≤ moment_in (s ∷ h)
rises (Began site n ms) h p = let none : moment_in h ≡ 0 = ap moment_in p.0 in omega (arith, none)
rises (Moment ms) h p = p.0
rises s h p = omega arith

early : (h : List Step) (n at : ℕ) → ArePicks h → shut_in h n ≡ Some at → at ≤ moment_in h
early [] n at p e = absurd cc
early (s ∷ h) n at p e = by (early h n at p.1) (is_open (connection (s ∷ h)) n) (shut_in h n) refl e
  where
    by : (shut_in h n ≡ Some at → at ≤ moment_in h) → (b : Bool) (o : Option ℕ) → shut_in h n ≡ o
        → (if b then None else closes_at o true (moment_in (s ∷ h))) ≡ Some at → at ≤ moment_in (s ∷ h)
    by old true o f g = absurd cc
    by old false None f g = let is : moment_in (s ∷ h) ≡ at = cc in omega (arith, is)
    by old false (Some k) f g =
        let is : k ≡ at = cc in
        let a : at ≤ moment_in h = old (f ∙ ap Some is) in
        less_both at (moment_in h) (moment_in (s ∷ h)) a (rises s h p)

-- a channel that is opened has no closing event
method_opens : (ms : ℕ) (b : Bool) (m : Method91) (l : Life) → (b && is_channel_open m) ≡ true → (method_life ms m l).closed_at ≡ None
method_opens ms true method.ChannelOpen l e = refl
method_opens ms true m l e = absurd cc
method_opens ms false m l e = absurd cc

want_opens : (n ms : ℕ) (told : Option Told) (x : Want91) (ls : List Life) → is_method_on is_channel_open n x ≡ true
    → (life_at (lives_by ms told x ls) n).closed_at ≡ None
want_opens n ms told (want.Method k m) ls e = by (set_at ls k n (method_life ms m (life_at ls k)))
  where
    by : SetAt ls k n (method_life ms m (life_at ls k)) → (life_at (with_life k (method_life ms m (life_at ls k)) ls) n).closed_at ≡ None
    by (Here s i) = ap (λ (y : Life). y.closed_at) i ∙ method_opens ms (k == n) m (life_at ls k) e
    by (Elsewhere d i) = absurd (let wrong : (false && is_channel_open m) ≡ true = sym (ap (λ (b : Bool). b && is_channel_open m) (isnt k n d)) ∙ e in cc)
    by (Beyond s i j) = ap (λ (y : Life). y.closed_at) j
want_opens n ms told x ls e = absurd cc

came_opens : (n : ℕ) (u : Unit91) (h : List Step) → ArePicks h → opens_channel n h (Came u) ≡ true → (life_at (before (Came u ∷ h)).lives n).closed_at ≡ None
came_opens n u h p e = by (ran_out_in h) (memory_is k) e
  where
    k : Known h
    k = known h p

    w : State
    w = before h

    same_want : want_in w.routes w.paths w.conn u ≡ want_in (routes_in h) (paths_in h) (connection h) u
    same_want =
        ap (λ (rs : List Route). want_in rs w.paths w.conn u) (routes_are k)
        ∙ ap (λ (ps : List (Option PathState)). want_in (routes_in h) ps w.conn u) (paths_are k)
        ∙ ap (λ c. want_in (routes_in h) (paths_in h) c u) (conn_is k)

    by : (m : Bool) → w.out_of_memory ≡ m → (not m && is_method_on is_channel_open n (want_in (routes_in h) (paths_in h) (connection h) u)) ≡ true
        → (life_at (if w.out_of_memory then w else came (dequeued w) u).lives n).closed_at ≡ None
    by true f g = absurd cc
    by false f g =
        ap (λ (m : Bool). (life_at (if m then w else came (dequeued w) u).lives n).closed_at) f
        ∙ want_opens n w.moment (client_told w.routes w.conn u) (want_in w.routes w.paths w.conn u) w.lives (ap (is_method_on is_channel_open n) same_want ∙ g)

opens_none : (n : ℕ) (s : Step) (h : List Step) → ArePicks h → opens_channel n h s ≡ true → (life_at (before (s ∷ h)).lives n).closed_at ≡ None
opens_none n (Came u) h p e = came_opens n u h p e
opens_none n s h p e = absurd cc

-- ---- the channel isn't open since that event, or longer

record Since (h : List Step) (n at : ℕ) : Type 0 where
  from : ℕ
  is : shut_in h n ≡ Some from
  early_is : from ≤ at

since : (h : List Step) (n at : ℕ) → ArePicks h → n ≤ CHANNEL_MAX → is_some (path_life h n) ≡ true → (life_at (before h).lives n).closed_at ≡ Some at → Since h n at
since [] n at p below there e = absurd cc
since (s ∷ h) n at p below there e = by (since h n at p.1 below) (opens_channel n h s) refl there
  where
    shut : is_open (connection (s ∷ h)) n ≡ false
    shut = shut_is (s ∷ h) n at p below there e

    made : (from : ℕ) → closes_at (shut_in h n) true (moment_in (s ∷ h)) ≡ Some from → from ≤ at → Since (s ∷ h) n at
    made from f less = record {
      from = from;
      is = ap (λ (b : Bool). if b then None else closes_at (shut_in h n) true (moment_in (s ∷ h))) shut ∙ f;
      early_is = less;
    }

    kept : Since h n at → Since (s ∷ h) n at
    kept x = made x.from (ap (λ (o : Option ℕ). closes_at o true (moment_in (s ∷ h))) x.is) x.early_is

    now : moment_in (s ∷ h) ≡ at → Since (s ∷ h) n at
    now f = at_in (shut_in h n) refl
      where
        at_in : (o : Option ℕ) → shut_in h n ≡ o → Since (s ∷ h) n at
        at_in None g = made (moment_in (s ∷ h)) (ap (λ (o : Option ℕ). closes_at o true (moment_in (s ∷ h))) g) (omega (arith, f))
        at_in (Some k) g =
            let a : k ≤ moment_in h = early h n k p.1 g in
            let r : moment_in h ≤ moment_in (s ∷ h) = rises s h p in
            made k (ap (λ (o : Option ℕ). closes_at o true (moment_in (s ∷ h))) g) (omega (arith, a, r, f))

    come : ((life_at (before h).lives n).closed_at ≡ Some at → Since h n at) → Comes (moment_in (s ∷ h)) (life_at (before h).lives n) (life_at (before (s ∷ h)).lives n) → Since (s ∷ h) n at
    come old (Stays f g) = kept (old (sym f ∙ e))
    come old (Anew f) = let wrong : None ≡ Some at = sym f ∙ e in absurd cc
    come old (Now f o) = let is : Some (moment_in (s ∷ h)) ≡ Some at = sym f ∙ e in now (let same_is : moment_in (s ∷ h) ≡ at = cc in same_is)

    by : (is_some (path_life h n) ≡ true → (life_at (before h).lives n).closed_at ≡ Some at → Since h n at) → (b : Bool) → opens_channel n h s ≡ b
        → is_some (if b then Some ((peers h).opened + 1) else path_life h n) ≡ true → Since (s ∷ h) n at
    by more true f old = let wrong : None ≡ Some at = sym (opens_none n s h p.1 f) ∙ e in absurd cc
    by more false f old = come (more old) (comes s h p n)

-- ---- publishes that are done

-- a publish goes on, or isn't decided
abbrev is_left : Fate → Bool
is_left f = is_to_go f || is_undecided f

undecided_left : (answered x : Bool) (outcome : Option Bool) → (not (is_some outcome) && not answered) ≡ true → not (answered || (x && is_some outcome)) ≡ true
undecided_left true x outcome e = let wrong : false ≡ true = sym (never (is_some outcome)) ∙ e in absurd cc
  where
    never : (b : Bool) → (not b && false) ≡ false
    never true = refl
    never false = refl
undecided_left false x (Some a) e = absurd cc
undecided_left false true None e = refl
undecided_left false false None e = refl

left_comes_on : (f : Fate) → is_left f ≡ true → is_to_come f ≡ true
left_comes_on f e = by (is_to_go f) refl e
  where
    by : (b : Bool) → is_to_go f ≡ b → (b || is_undecided f) ≡ true → is_to_come f ≡ true
    by true g x = ap (λ (c : Bool). c || not (is_fate_done f) || is_some f.line || is_to_return f) g
    by false g x = to_do_comes f (undecided_left f.answered (not (is_some f.confirm)) f.outcome x)

none_of : (xs : List ℕ) → length xs ≡ 0 → first_number xs ≡ None
none_of [] e = refl
none_of (x ∷ xs) e = absurd cc

-- the publishes that are left are so many fates
left_many : (life : ℕ) (es : List PublishEvent)
    → count_by (is_pending None) (publishes_after life es).list ≡ how_many (λ n. is_left (fate_of n es)) (numbers_of es)
left_many life es =
    how_many_passing number_of Matches is_to_come (is_pending None) is_left (λ n. fate_of n es) (numbers_of es) (publishes_after life es).list pending left_comes_on
    (follows life es)
  where
    on_any : (b : Bool) → (b && true) ≡ b
    on_any true = refl
    on_any false = refl

    pending : (p : Publish) (f : Fate) → Matches p f → is_pending None p ≡ is_left f
    pending p f m =
        on_any (is_sending p.place || has_no_outcome p.answer)
        ∙ ap (λ (b : Bool). b || has_no_outcome p.answer) (sending_test p f m) ∙ ap (λ (b : Bool). is_to_go f || b) (undecided_test p f m)

all_over : (life k : ℕ) (es : List PublishEvent) → count_by (is_pending None) (publishes_after life es).list ≡ 0 → IsTaken es k → IsOver es k
all_over life k es none taken =
    let left : is_left (fate_of k es) ≡ false =
    least_none (λ n. is_left (fate_of n es)) (numbers_of es) (none_of (passing (λ n. is_left (fate_of n es)) (numbers_of es)) (sym (left_many life es) ∙ none)) k taken.0 taken.1 in
    record { sent = left_false (is_to_go (fate_of k es)) _ left; decided = right_false (is_to_go (fate_of k es)) _ left }

-- and where each is over, none is left
none_passing : (t : ℕ → Bool) (low n : ℕ) → ((k : ℕ) → low + 1 ≤ k → k ≤ low + n → t k ≡ false) → length (passing_above t low n) ≡ 0
none_passing t low zero f = refl
none_passing t low (suc n) f =
    ap (λ (b : Bool). length (cond b ((low + 1) ∷ passing_above t (low + 1) n) (passing_above t (low + 1) n))) (f (low + 1) (omega arith) (omega arith))
    ∙ none_passing t (low + 1) n (λ k a b. f k (omega (arith, a)) (omega (arith, b)))

pub none_left_over : (life : ℕ) (es : List PublishEvent) → ((k : ℕ) → IsTaken es k → IsOver es k) → count_by (is_pending None) (publishes_after life es).list ≡ 0
none_left_over life es over = left_many life es ∙ none_passing (λ n. is_left (fate_of n es)) 0 (numbers_of es) (λ k a b. one k (over k (omega (arith, a), omega (arith, b))))
  where
    one : (k : ℕ) → IsOver es k → is_left (fate_of k es) ≡ false
    one k o = ap (λ (b : Bool). b || is_undecided (fate_of k es)) o.sent ∙ o.decided

-- ---- ends

long_ago : (at ms : ℕ) → nat_le LINGER_LIMIT (ms - at) ≡ true → at + LINGER_LIMIT ≤ ms
long_ago at ms e = grind (arith, nat_tests)

module _ (publishes : PublishesAre) (below : LivesBelow) where
  may_leave : (h : List Step) (n : ℕ) → ArePicks h → is_end_due (closes_all (before h)) (before h) n ≡ true → MayLeave h n
  may_leave h n p e = one (either _ _ e)
    where
      w : State
      w = before h

      k : Known h
      k = known h p

      done : path_due.is_done (path_at w.paths n) ≡ true → AreOver h n
      done d life i lives taken =
          let is : (path_at w.paths n).publishes ≡ publishes_after life (publishes_of life (path_events h n)) =
          ap (λ (s : PathState). s.publishes) (path_of h n life p (below h n life lives) lives) ∙ publishes life (path_events h n) in
          let none : count_by (is_pending None) (path_at w.paths n).publishes.list ≡ 0 = grind (arith, nat_tests, d) in
          all_over life i (publishes_of life (path_events h n)) (ap (λ (s : PublishState). count_by (is_pending None) s.list) (sym is) ∙ none) taken

      overdue : (o : Option ℕ) → w.closed_at ≡ o → is_long_ago o w.moment ≡ true → MayLeave h n
      overdue None f x = absurd cc
      overdue (Some at) f x = Overdue at (sym (closed_is k) ∙ f) (subst (λ (ms : ℕ). at + LINGER_LIMIT ≤ ms) (moment_is k) (long_ago at w.moment x))

      -- a channel without a life published nothing
      late : (o : Option ℕ) → (life_at w.lives n).closed_at ≡ o → is_long_ago o w.moment ≡ true → MayLeave h n
      late None f x = absurd cc
      late (Some at) f x = by (path_life h n) refl
        where
          by : (o : Option ℕ) → path_life h n ≡ o → MayLeave h n
          by None g = Done (λ life i lives taken. let wrong : None ≡ Some life = sym g ∙ lives in absurd cc)
          by (Some life) g =
              let s = since h n at p (below h n life g) (ap is_some g) f in
              let a : at + LINGER_LIMIT ≤ moment_in h = subst (λ (ms : ℕ). at + LINGER_LIMIT ≤ ms) (moment_is k) (long_ago at w.moment x) in
              let b : s.from ≤ at = s.early_is in
              Late s.from s.is (omega (arith, a, b))

      four : Either (is_long_ago (life_at w.lives n).closed_at w.moment) (is_long_ago w.closed_at w.moment) → MayLeave h n
      four (OnLeft x) = late _ refl x
      four (OnRight x) = overdue _ refl x

      three : Either (path_due.is_done (path_at w.paths n)) (is_long_ago (life_at w.lives n).closed_at w.moment || is_long_ago w.closed_at w.moment) → MayLeave h n
      three (OnLeft x) = Done (done x)
      three (OnRight x) = four (either _ _ x)

      two : Either w.out_of_memory (path_due.is_done (path_at w.paths n) || (is_long_ago (life_at w.lives n).closed_at w.moment || is_long_ago w.closed_at w.moment)) → MayLeave h n
      two (OnLeft x) = RanOut (sym (memory_is k) ∙ x)
      two (OnRight x) = three (either _ _ x)

      one : Either (is_ended (session_in w.up.container n))
          (is_begun (session_in w.up.container n) && ((closes_all w || not (is_open w.conn n)) && is_lingered w n)) → MayLeave h n
      one (OnLeft x) = Ended (ap (λ (o : Option Upstream). is_ended (session_in o n)) (sym (container_is k)) ∙ x)
      one (OnRight x) = two (either _ _ (and_right (closes_all w || not (is_open w.conn n)) _ (and_right (is_begun (session_in w.up.container n)) _ x)))

  leaves : (h : List Step) (u : UpUnit) → ArePicks h → MayGo (before h) u → Leaves h u
  leaves h (up.End n why) p e = may_leave h n p e
  leaves h u p e = tt

  pub lingers : (h : List Step) → ArePicks h → Lingers h
  lingers [] p = tt
  lingers (Gave (ToUp u) text ∷ h) p = (leaves h u p.1 (may_go (before h) u p.0.1), lingers h p.1)
  lingers (s ∷ h) p = lingers h p.1
