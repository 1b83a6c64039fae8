-- The life of a channel that is open goes on.
use Rattle.property_map.specs.declared.told.Told.{Told}
use Rattle.std.proofs.Common.{◌≡◌, ℕ, zero, suc, ◌==◌, ◌<◌, ◌≤◌, ◌&&◌, Bool, true, false, if◌then◌else◌}
use Rattle.std.proofs.Common.{List, [], ◌∷◌, ◌++◌, length, Option, Some, is_some, refl, sym, ap, ◌∙◌, subst, arith, ◌+◌, not}
use Rattle.std.specs.Prelude.{slice_get, slice_set}
use Rattle.close_translate.specs.Conditions.{condition_of}
use Rattle.close_translate.specs.declared.conditions.Scope.TheVariants as scope
use Rattle.gate_outside.specs.declared.ports.End.TheVariants.{Client, Up}
use Rattle.gate_outside.specs.declared.ports.Linked.TheVariants as link
use Rattle.gate_relay.specs.declared.loss.Loss.TheVariants as loss
use Rattle.machine_091.specs.Calls.{after_closing, after_ended}
use Rattle.machine_091.specs.State.{is_closing, is_open, is_open_channel, is_opening, is_running, or_free}
use Rattle.machine_091.specs.Transitions as machine
use Rattle.machine_091.specs.declared.limits.TheConstants.{CHANNEL_MAX}
use Rattle.machine_091.specs.declared.state.Channel91.{Channel91}
use Rattle.machine_091.specs.declared.state.Channel91.TheVariants as channel
use Rattle.machine_091.specs.declared.state.Connection.{Connection}
use Rattle.machine_091.specs.declared.unit.Unit91.{Unit91}
use Rattle.machine_091.specs.declared.unit.Want91.{Want91}
use Rattle.machine_091.specs.declared.unit.Want91.TheVariants as want
use Rattle.machine_091.proofs.ChannelSteps.{Opens, closing_opens, method_opens, opens_by}
use Rattle.machine_10.specs.Transitions as ten
use Rattle.machine_10.specs.Transitions.{Meaning}
use Rattle.machine_10.specs.declared.unit.Unit10.{Unit10}
use Rattle.methods_091.specs.declared.method.Method91.{Method91}
use Rattle.methods_091.specs.declared.method.Method91.TheVariants as method
use Rattle.performatives_10.specs.declared.condition.Condition.{Condition}
use Rattle.session_path.specs.Path.{PathState}
use Rattle.gate_model.specs.Folds.{connection, paths_in, peers, ran_out_in, routes_in}
use Rattle.gate_model.specs.Lives.{failed_life, freed_life, is_of_channel, life_at, lives_by, method_life, reason_of, with_life}
use Rattle.gate_model.specs.Once.{is_channel_open, is_method_on}
use Rattle.gate_model.specs.Picks.{ArePicks}
use Rattle.gate_model.specs.Publishing.{path_life}
use Rattle.gate_model.specs.Requests.{client_step, client_told}
use Rattle.gate_model.specs.State.{Began, Came, Fed, Gave, Heard, Joined, Lost, Moment}
use Rattle.gate_model.specs.State.{OutOfMemory, Queued, Silent, State, Step, TakenUp, Whole, before, came}
use Rattle.gate_model.specs.State.{carried, close, close_if, dequeued, fail, failed, heard, is_limit_reached, left, sessions_lost}
use Rattle.gate_model.specs.State.{runs, want_in, windowed, with_meaning, without_begin, without_life}
use Rattle.gate_model.specs.Upstream.{heard_up, meaning_by}
use Rattle.gate_model.specs.declared.life.Life.{Life}
use Rattle.gate_model.specs.declared.outgoing.Outgoing.TheVariants.{ToClient, ToUp}
use Rattle.gate_model.specs.declared.outgoing.UpUnit.{UpUnit}
use Rattle.gate_model.specs.declared.outgoing.UpUnit.TheVariants as up
use Rattle.gate_model.specs.declared.reply.Reply.{Reply}
use Rattle.gate_model.specs.declared.reply.Reply.TheVariants as reply
use Rattle.gate_model.specs.declared.setup.Route.{Route}
use Rattle.gate_model.proofs.Basics.{and_none}
use Rattle.gate_model.proofs.Channels.{client_opens, given_open}
use Rattle.gate_model.proofs.Closed.{is_late, late_is, long_is, none_open}
use Rattle.gate_model.proofs.Connections.{clash, close_closes, opening_phase}
use Rattle.gate_model.proofs.Known.{Known, conn_is, known, memory_is, paths_are, routes_are}
use Rattle.gate_model.proofs.Outcomes.{Outcome, Frees, outcome}
use Rattle.gate_model.proofs.Places.{Beyond, Elsewhere, Here, SetAt, isnt, itself, set_at}
use Rattle.gate_model.proofs.Sessions.{session_cases}

-- a life that is over is that of a channel that isn't open
abbrev Shut : ℕ → List Life → Connection → Type 0
Shut n ls c = (life_at ls n).over ≡ true → is_open c n ≡ false

-- one that is set as over as it was
stays_over : (n k : ℕ) (ls : List Life) (l : Life) → l.over ≡ (life_at ls k).over → (life_at (with_life k l ls) n).over ≡ (life_at ls n).over
stays_over n k ls l e = by (set_at ls k n l)
  where
    by : SetAt ls k n l → (life_at (with_life k l ls) n).over ≡ (life_at ls n).over
    by (Here s f) = ap (λ (x : Life). x.over) f ∙ e ∙ ap (λ (m : ℕ). (life_at ls m).over) s
    by (Elsewhere d f) = ap (λ (x : Life). x.over) f
    by (Beyond s f g) = ap (λ (x : Life). x.over) (g ∙ sym f)

keeps : (n k : ℕ) (ls : List Life) (l : Life) (c : Connection) → l.over ≡ (life_at ls k).over → Shut n ls c → Shut n (with_life k l ls) c
keeps n k ls l c e f x = f (sym (stays_over n k ls l e) ∙ x)

-- the channel of one that is set is closed
closes_at : (n k : ℕ) (ls : List Life) (l : Life) (is : Bool) → ((life_at ls n).over ≡ true → is ≡ false) → (life_at (with_life k l ls) n).over ≡ true
    → (if k == n then false else is) ≡ false
closes_at n k ls l is f x = by (set_at ls k n l)
  where
    by : SetAt ls k n l → (if k == n then false else is) ≡ false
    by (Here s g) = ap (λ (m : ℕ). if m == n then false else is) s ∙ ap (λ (b : Bool). if b then false else is) (itself n)
    by (Elsewhere d g) = ap (λ (b : Bool). if b then false else is) (isnt k n d) ∙ f (sym (ap (λ (y : Life). y.over) g) ∙ x)
    by (Beyond s g i) = absurd (clash _ x (ap (λ (y : Life). y.over) i))

-- ---- what the client's units make of it

free_here : (cs : List Channel91) (n : ℕ) → is_open_channel (or_free (slice_get (slice_set cs n channel.Free) n)) ≡ false
free_here [] n = refl
free_here (x ∷ cs) zero = refl
free_here (x ∷ cs) (suc n) = free_here cs n

-- a channel that is freed wasn't open
abbrev pub Freed : ℕ → Bool → Want91 → Type 0
Freed n is (want.ChannelCloseOk k) = k ≡ n → is ≡ false
Freed n is x = Unit {0}

pub freed : (n : ℕ) (c : Connection) (u : Unit91) (x : machine.Step) → n < length c.channels → Outcome c u x → Opens n c x → Freed n (is_open c n) x.1
freed n c u _ less (Frees k e) o = λ same.
    sym (o.is less) ∙ ap (λ (m : ℕ). is_running c.phase && is_open_channel (or_free (slice_get (slice_set c.channels m channel.Free) n))) same
    ∙ and_none (is_running c.phase) _ (free_here c.channels n)
freed n c u _ less o i = tt

method_shuts : (ms : ℕ) (m : Method91) (l : Life) (is : Bool) → (l.over ≡ true → is ≡ false) → (method_life ms m l).over ≡ true → method_opens m is ≡ false
method_shuts ms method.ChannelOpen l is f e = absurd cc
method_shuts ms (method.ChannelClose code text class id) l is f e = refl
method_shuts ms m l is f e = f e

want_shuts : (n ms : ℕ) (told : Option Told) (x : Want91) (ls : List Life) (is : Bool) → Freed n is x → ((life_at ls n).over ≡ true → is ≡ false)
    → (life_at (lives_by ms told x ls) n).over ≡ true → opens_by n x is ≡ false
want_shuts n ms told (want.Method k m) ls is g f e = by (set_at ls k n (method_life ms m (life_at ls k)))
  where
    by : SetAt ls k n (method_life ms m (life_at ls k)) → (if k == n then method_opens m is else is) ≡ false
    by (Here s i) =
        ap (λ (j : ℕ). if j == n then method_opens m is else is) s ∙ ap (λ (b : Bool). if b then method_opens m is else is) (itself n)
        ∙ method_shuts ms m (life_at ls k) is (λ x. f (sym (ap (λ (j : ℕ). (life_at ls j).over) s) ∙ x)) (sym (ap (λ (y : Life). y.over) i) ∙ e)
    by (Elsewhere d i) = ap (λ (b : Bool). if b then method_opens m is else is) (isnt k n d) ∙ f (sym (ap (λ (y : Life). y.over) i) ∙ e)
    by (Beyond s i j) = absurd (clash _ e (ap (λ (y : Life). y.over) j))
want_shuts n ms told (want.ChannelCloseOk k) ls is g f e = by (freed_life (life_at ls k)) (set_at ls k n (freed_life (life_at ls k))) e
  where
    by : (l : Life) → SetAt ls k n l → (life_at (with_life k l ls) n).over ≡ true → is ≡ false
    by l (Here s i) x = g s
    by l (Elsewhere d i) x = f (sym (ap (λ (y : Life). y.over) i) ∙ x)
    by l (Beyond s i j) x = absurd (clash _ x (ap (λ (y : Life). y.over) j))
want_shuts n ms told want.Close ls is g f e = refl
want_shuts n ms told (want.Refuse r) ls is g f e = by (is_of_channel r) e
  where
    new : Life
    new = failed_life false ms (reason_of told r) (Some (condition_of r.code)) (life_at ls r.channel)

    by : (b : Bool) → (life_at (if b then with_life r.channel new ls else ls) n).over ≡ true
        → (if b then (if r.channel == n then false else is) else false) ≡ false
    by true x = closes_at n r.channel ls new is f x
    by false x = refl
want_shuts n ms told x ls is g f e = f e

-- one that is opened begins anew
method_opens_life : (ms : ℕ) (b : Bool) (m : Method91) (l : Life) → (b && is_channel_open m) ≡ true → (method_life ms m l).over ≡ false
method_opens_life ms true method.ChannelOpen l e = refl
method_opens_life ms true m l e = absurd cc
method_opens_life ms false m l e = absurd cc

opens_life : (n ms : ℕ) (told : Option Told) (x : Want91) (ls : List Life) → is_method_on is_channel_open n x ≡ true
    → (life_at (lives_by ms told x ls) n).over ≡ false
opens_life n ms told (want.Method k m) ls e = by (set_at ls k n (method_life ms m (life_at ls k)))
  where
    by : SetAt ls k n (method_life ms m (life_at ls k)) → (life_at (with_life k (method_life ms m (life_at ls k)) ls) n).over ≡ false
    by (Here s i) = ap (λ (y : Life). y.over) i ∙ method_opens_life ms (k == n) m (life_at ls k) e
    by (Elsewhere d i) = absurd (let wrong : (false && is_channel_open m) ≡ true = sym (ap (λ (b : Bool). b && is_channel_open m) (isnt k n d)) ∙ e in cc)
    by (Beyond s i j) = ap (λ (y : Life). y.over) j
opens_life n ms told x ls e = absurd cc

came_shuts : (n : ℕ) (w : State) (u : Unit91) → n < length w.conn.channels → Shut n w.lives w.conn
    → Shut n (came (dequeued w) u).lives (came (dequeued w) u).conn
came_shuts n w u less f e =
    opens.is less
    ∙ want_shuts n w.moment (client_told w.routes w.conn u) x.1 w.lives (is_open w.conn n)
    (freed n w.conn u x less (outcome w.routes w.paths w.conn u) opens) f e
  where
    x : machine.Step
    x = client_step w.routes w.paths w.conn u

    opens : Opens n w.conn x
    opens = client_opens n w.routes w.paths w.conn u

-- ---- and what the container's

fail_shuts : (n code : ℕ) (why : Option Condition) (w : State) → Shut n w.lives w.conn → Shut n (fail code why w).lives (fail code why w).conn
fail_shuts n code why w f = by (is_closing w.conn)
  where
    by : (b : Bool) → Shut n (if b then sessions_lost w else failed code why w).lives (if b then sessions_lost w else failed code why w).conn
    by true = f
    by false = λ e. none_open n (close w.conn) (close_closes w.conn.phase)

-- a channel closes
ends : (n k : ℕ) (ls : List Life) (l : Life) (c : Connection) → n < length c.channels → Shut n ls c
    → Shut n (with_life k l ls) (after_closing scope.Channel k c)
ends n k ls l c less f e = closing_opens k n c less ∙ closes_at n k ls l (is_open c n) f e

meaning_shuts : (n : ℕ) (m : Meaning) (w : State) → n < length w.conn.channels → is_late w.conn.phase ≡ true → Shut n w.lives w.conn
    → Shut n (with_meaning m w).lives (with_meaning m w).conn
meaning_shuts n ten.Nothing w less late f = f
meaning_shuts n ten.Init w less late f = f
meaning_shuts n ten.AmqpHeader w less late f = f
meaning_shuts n ten.Opened w less late f = by (is_opening w.conn) refl
  where
    by : (b : Bool) → is_opening w.conn ≡ b → Shut n (if b then runs w else w).lives (if b then runs w else w).conn
    by true e = absurd (clash _ late (ap is_late (opening_phase w.conn e)))
    by false e = f
meaning_shuts n (ten.OfSession g q payload) w less late f =
    let kept : Shut n (carried g q payload w).lives w.conn = keeps n g w.lives _ w.conn refl f in
    session_cases (λ (v : State). Shut n v.lives v.conn) g q payload w (record {
      begins = keeps n g (carried g q payload w).lives _ w.conn refl kept;
      stays = kept;
      ends = λ code why. ends n g (carried g q payload w).lives _ w.conn less kept;
      parts = kept;
      drops = λ code why. ends n g (carried g q payload w).lives _ w.conn less kept;
      fails = λ why. fail_shuts n _ why (windowed g q w) kept;
    })
meaning_shuts n (ten.Closed x) w less late f = fail_shuts n _ _ w f
meaning_shuts n ten.Refused w less late f = fail_shuts n _ _ w f
meaning_shuts n (ten.Violation c) w less late f = fail_shuts n _ _ w f

heard_shuts : (n : ℕ) (w : State) (u : Unit10) → n < length w.conn.channels → is_late w.conn.phase ≡ true → Shut n w.lives w.conn
    → Shut n (if w.out_of_memory then w else heard w u).lives (if w.out_of_memory then w else heard w u).conn
heard_shuts n w u less late f = by w.out_of_memory
  where
    by : (b : Bool) → Shut n (if b then w else heard w u).lives (if b then w else heard w u).conn
    by true = f
    by false = meaning_shuts n (meaning_by w.up.container u) (record w { up = heard_up u w.up }) less late f

-- ---- units that go

given_over : (n : ℕ) (u : Reply) (ls : List Life) → (life_at (without_life u ls) n).over ≡ (life_at ls n).over
given_over n (reply.ChannelOpenOk k) ls = stays_over n k ls _ refl
given_over n (reply.ChannelCloseOk k) ls = stays_over n k ls _ refl
given_over n (reply.CrossedOk k) ls = stays_over n k ls _ refl
given_over n (reply.ChannelClose k r) ls = stays_over n k ls _ refl
given_over n u ls = refl

begun_over : (n : ℕ) (u : UpUnit) (ls : List Life) → (life_at (without_begin u ls) n).over ≡ (life_at ls n).over
begun_over n (up.OnSession k u) ls = stays_over n k ls _ refl
begun_over n (up.Flow k i o) ls = stays_over n k ls _ refl
begun_over n (up.Begin k) ls = stays_over n k ls _ refl
begun_over n (up.End k why) ls = stays_over n k ls _ refl
begun_over n u ls = refl

-- ---- all steps

-- of a channel with a life
abbrev ShutIn : ℕ → List Step → Type 0
ShutIn n h = is_some (path_life h n) ≡ true → Shut n (before h).lives (before h).conn

pub inside : (n : ℕ) (h : List Step) → n < 256 → ArePicks h → n < length (before h).conn.channels
inside n h less p = subst (λ (c : Connection). n < length c.channels) (sym (conn_is (known h p))) (subst (λ (m : ℕ). n < m) (sym (long_is n h less p)) less)

came_in : (n : ℕ) (u : Unit91) (h : List Step) → n < 256 → ArePicks h → ShutIn n h → ShutIn n (Came u ∷ h)
came_in n u h less p f = by (ran_out_in h) (memory_is k) (is_method_on is_channel_open n (want_in (routes_in h) (paths_in h) (connection h) u)) refl
  where
    k : Known h
    k = known h p

    w : State
    w = before h

    same : want_in w.routes w.paths w.conn u ≡ want_in (routes_in h) (paths_in h) (connection h) u
    same =
        ap (λ (rs : List Route). want_in rs w.paths w.conn u) (routes_are k)
        ∙ ap (λ (ps : List (Option PathState)). want_in (routes_in h) ps w.conn u) (paths_are k)
        ∙ ap (λ (c : Connection). want_in (routes_in h) (paths_in h) c u) (conn_is k)

    After : Bool → Type 0
    After m = Shut n (if m then w else came (dequeued w) u).lives (if m then w else came (dequeued w) u).conn

    by : (m : Bool) → w.out_of_memory ≡ m → (o : Bool) → is_method_on is_channel_open n (want_in (routes_in h) (paths_in h) (connection h) u) ≡ o
        → is_some (if not m && o then Some ((peers h).opened + 1) else path_life h n) ≡ true
        → After w.out_of_memory
    by true e o g there = subst After (sym e) (f there)
    by false e true g there =
        subst After (sym e)
        (λ x. absurd (clash _ x (opens_life n w.moment (client_told w.routes w.conn u) (want_in w.routes w.paths w.conn u) w.lives
        (ap (is_method_on is_channel_open n) same ∙ g))))
    by false e false g there =
        subst After (sym e) (came_shuts n w u (inside n h less p) (f there))

shut : (n : ℕ) (h : List Step) → n < 256 → ArePicks h → ShutIn n h
shut n [] less p there = absurd cc
shut n (Began site number ms ∷ h) less p there = λ e. refl
shut n (Moment ms ∷ h) less p there = by (is_limit_reached (before h).conn (before h).accepted_at ms) (shut n h less p.1 there)
  where
    by : (b : Bool) → Shut n (before h).lives (before h).conn → Shut n (before h).lives (close_if b (before h).conn)
    by true f = λ e. none_open n (close (before h).conn) (close_closes (before h).conn.phase)
    by false f = f
shut n (Fed Client ∷ h) less p there = shut n h less p.1 there
shut n (Silent Client ∷ h) less p there = λ e. none_open n (after_ended (before h).conn) refl
shut n (Silent Up ∷ h) less p there = fail_shuts n _ _ _ (shut n h less p.1 there)
shut n (Queued u ∷ h) less p there = by (before h).out_of_memory (shut n h less p.1 there)
  where
    by : (b : Bool) → Shut n (before h).lives (before h).conn
        → Shut n (if b then before h else record (before h) { queue = (before h).queue ++ u ∷ [] }).lives
        (if b then before h else record (before h) { queue = (before h).queue ++ u ∷ [] }).conn
    by true f = f
    by false f = f
shut n (Came u ∷ h) less p there = came_in n u h less p.1 (shut n h less p.1) there
shut n (TakenUp ∷ h) less p there = by (not (before h).out_of_memory && (before h).leaving) (shut n h less p.1 there)
  where
    by : (b : Bool) → Shut n (before h).lives (before h).conn
        → Shut n (if b then left (before h) else before h).lives (if b then left (before h) else before h).conn
    by true f = λ e. none_open n (after_ended (before h).conn) refl
    by false f = f
shut n (Heard u ∷ h) less p there =
    heard_shuts n (before h) u (inside n h less p.1) (ap (λ (c : Connection). is_late c.phase) (conn_is (known h p.1)) ∙ late_is n h less p.1 there)
    (shut n h less p.1 there)
shut n (Joined link.Failed ∷ h) less p there = fail_shuts n _ _ _ (shut n h less p.1 there)
shut n (Lost Client loss.Ended ∷ h) less p there = shut n h less p.1 there
shut n (Lost Up loss.Ended ∷ h) less p there = fail_shuts n _ _ _ (shut n h less p.1 there)
shut n (Lost Up loss.Failed ∷ h) less p there = fail_shuts n _ _ _ (shut n h less p.1 there)
shut n (Gave (ToClient u) text ∷ h) less p there = λ e.
    (given_open n u (before h).conn).is (inside n h less p.1) ∙ shut n h less p.1 there (sym (given_over n u (before h).lives) ∙ e)
shut n (Gave (ToUp u) text ∷ h) less p there = λ e. shut n h less p.1 there (sym (begun_over n u (before h).lives) ∙ e)
shut n (Whole Client ∷ h) less p there = shut n h less p.1 there
shut n (OutOfMemory ∷ h) less p there = λ e. none_open n (close (before h).conn) (close_closes (before h).conn.phase)
shut n (s ∷ h) less p there = shut n h less p.1 there

-- an open channel with a life goes on
pub goes_on : (h : List Step) (n : ℕ) → ArePicks h → n ≤ CHANNEL_MAX → is_some (path_life h n) ≡ true → is_open (connection h) n ≡ true
    → (life_at (before h).lives n).over ≡ false
goes_on h n p below there e = by (life_at (before h).lives n).over refl
  where
    inside_is : n < 256
    inside_is = let most : CHANNEL_MAX ≡ 255 = refl in omega (arith, below, most)

    by : (b : Bool) → (life_at (before h).lives n).over ≡ b → b ≡ false
    by true f = absurd (clash _ (ap (λ (c : Connection). is_open c n) (conn_is (known h p)) ∙ e) (shut n h inside_is p there f))
    by false f = refl
