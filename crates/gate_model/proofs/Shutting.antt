-- The moment at which a channel was closed is that of its life, or the connection was closed no later.
use Rattle.property_map.specs.declared.told.Told.{Told}
use Rattle.std.proofs.Common.{◌≡◌, ◌⊎◌, inl, inr, ℕ, ◌+◌, ◌==◌, ◌<◌, ◌≤◌, not, ◌&&◌, ◌||◌, Bool, true, false, if◌then◌else◌, List, [], ◌∷◌, ◌++◌, length}
use Rattle.std.proofs.Common.{Option, None, Some, is_some, refl, sym, ap, ◌∙◌, arith, subst}
use Rattle.std.specs.Option.{option_or}
use Rattle.close_translate.specs.Conditions.{condition_of}
use Rattle.close_translate.specs.declared.codes.TheConstants.{INTERNAL_ERROR, PRECONDITION_FAILED}
use Rattle.close_translate.specs.declared.conditions.Scope.{Scope}
use Rattle.close_translate.specs.declared.conditions.Scope.TheVariants as scope
use Rattle.gate_outside.specs.declared.ports.End.TheVariants.{Client, Up}
use Rattle.gate_outside.specs.declared.ports.Linked.TheVariants as link
use Rattle.gate_relay.specs.declared.loss.Loss.TheVariants as loss
use Rattle.machine_091.specs.State.{channel_at, is_closing, is_open, is_open_channel, is_opening, is_running}
use Rattle.machine_091.specs.Transitions as machine
use Rattle.machine_091.specs.declared.state.Connection.{Connection}
use Rattle.machine_091.specs.declared.state.Phase91.{Phase91}
use Rattle.machine_091.specs.declared.unit.Unit91.{Unit91}
use Rattle.machine_091.specs.declared.unit.Want91.{Want91}
use Rattle.machine_091.specs.declared.unit.Want91.TheVariants as want
use Rattle.machine_091.proofs.ChannelSteps.{Opens, closing_opens, method_opens, opens_by}
use Rattle.machine_10.specs.Parts.{Parts}
use Rattle.machine_10.specs.Transitions as ten
use Rattle.machine_10.specs.Transitions.{Meaning}
use Rattle.machine_10.specs.declared.unit.Unit10.{Unit10}
use Rattle.methods_091.specs.declared.method.Method91.{Method91}
use Rattle.methods_091.specs.declared.method.Method91.TheVariants as method
use Rattle.performatives_10.specs.declared.condition.Condition.{Condition}
use Rattle.session_path.specs.Path.{PathState}
use Rattle.gate_model.specs.declared.life.Life.{Life}
use Rattle.gate_model.specs.declared.outgoing.Outgoing.TheVariants.{ToClient, ToUp}
use Rattle.gate_model.specs.declared.outgoing.UpUnit.{UpUnit}
use Rattle.gate_model.specs.declared.outgoing.UpUnit.TheVariants as up
use Rattle.gate_model.specs.declared.reply.Reply.{Reply}
use Rattle.gate_model.specs.declared.reply.Reply.TheVariants as reply
use Rattle.machine_091.specs.declared.limits.TheConstants.{CHANNEL_MAX}
use Rattle.gate_model.specs.Folds.{closed_in, connection, moment_in, paths_in, peers, ran_out_in, routes_in}
use Rattle.gate_model.specs.Lives.{begun_life, failed_life, freed_life, is_of_channel, life_at, lives_by, method_life, reason_of, refusal_on, with_life}
use Rattle.gate_model.specs.Once.{is_channel_open, is_method_on}
use Rattle.gate_model.specs.Paths.{closed_path, path_at}
use Rattle.gate_model.specs.Picks.{ArePicks}
use Rattle.gate_model.specs.Publishing.{opens_channel, path_life}
use Rattle.gate_model.specs.Requests.{client_step, client_told}
use Rattle.gate_model.specs.Shuts.{closed_on, frees_channel, is_freed}
use Rattle.gate_model.specs.State.{Began, Came, Fed, Gave, Heard, Joined, Lost, Moment, OutOfMemory, Queued, Silent, State, Step, TakenUp, Whole}
use Rattle.gate_model.specs.State.{before, begun_session, came, carried, close_if, closed_for, closes_at, closing_code, closing_error, dequeued, ending_error, fail}
use Rattle.gate_model.specs.State.{fail_life, heard, is_limit_reached, left, life_failed, link_scope, runs, scoped, session_lost, want_in, windowed}
use Rattle.gate_model.specs.State.{with_meaning, with_session, without_begin, without_life}
use Rattle.gate_model.specs.Upstream.{heard_up, meaning_by}
use Rattle.gate_model.proofs.Arrived.{ends_all, unit_shuts}
use Rattle.gate_model.proofs.Channels.{client_opens, given_open}
use Rattle.gate_model.proofs.Clear.{want_is}
use Rattle.gate_model.proofs.Connections.{clash, close_closes, opening_phase}
use Rattle.gate_model.proofs.Known.{conn_is, known, memory_is, moment_is}
use Rattle.gate_model.proofs.Lingering.{over_is, rises}
use Rattle.gate_model.proofs.Living.{FindsOpen, fail_closes, fail_lives, finds_open, step_leaves, was_open}
use Rattle.gate_model.proofs.Lives.{set_all}
use Rattle.gate_model.proofs.Overs.{goes_on, inside}
use Rattle.gate_model.proofs.Places.{Beyond, Elsewhere, Here, SetAt, itself, set_at}
use Rattle.gate_model.proofs.Refusing.{client_stands}
use Rattle.gate_model.proofs.Staying.{Other, Set, This, long, set_in}

-- whether the channel is open before and after, whether the connection closes, and the moment of the closing event of its life: that stays, and
-- the channel stays open or the connection closes; the client closes it; or it was open, and is closed for a fault
data Shuts (ms : ℕ) (was now closing : Bool) (l m : Life) : Type 0 where
  Stays : m.closed_at ≡ l.closed_at → (was ≡ true → (now ≡ true) ⊎ (closing ≡ true)) → Shuts ms was now closing l m
  Closes : m.closed_at ≡ option_or l.closed_at (Some ms) → Shuts ms was now closing l m
  Fails : was ≡ true → m.closed_at ≡ Some ms → Shuts ms was now closing l m

abbrev ShutsIn : ℕ → ℕ → State → State → Type 0
ShutsIn ms n w v = Shuts ms (is_open w.conn n) (is_open v.conn n) (is_closing v.conn) (life_at w.lives n) (life_at v.lives n)

abbrev closed : Life → Option ℕ
closed l = l.closed_at

-- ---- lives

one_same : (n k : ℕ) (ls : List Life) (m : Life) → closed m ≡ closed (life_at ls k) → closed (life_at (with_life k m ls) n) ≡ closed (life_at ls n)
one_same n k ls m e = by (set_at ls k n m)
  where
    by : SetAt ls k n m → closed (life_at (with_life k m ls) n) ≡ closed (life_at ls n)
    by (Here s f) = ap closed f ∙ e ∙ ap (λ (i : ℕ). closed (life_at ls i)) s
    by (Elsewhere d f) = ap closed f
    by (Beyond s f g) = ap closed (g ∙ sym f)

still : (ms n : ℕ) (w : State) → ShutsIn ms n w w
still ms n w = Stays refl (λ e. inl e)

-- the connection closes
ends : (ms n : ℕ) (w v : State) → is_closing v.conn ≡ true → closed (life_at v.lives n) ≡ closed (life_at w.lives n) → ShutsIn ms n w v
ends ms n w v c e = Stays e (λ z. inr c)

-- ---- the client's units

method_shuts : (ms : ℕ) (m : Method91) (l : Life) (was closing : Bool) → is_channel_open m ≡ false → Shuts ms was (method_opens m was) closing l (method_life ms m l)
method_shuts ms method.ChannelOpen l was closing e = absurd cc
method_shuts ms (method.ChannelClose code text class id) l was closing e = Closes refl
method_shuts ms m l was closing e = Stays refl (λ z. inl z)

want_shuts : (n ms : ℕ) (told : Option Told) (y : Want91) (ls : List Life) (was now closing : Bool) → n < length ls → now ≡ opens_by n y was → FindsOpen n was y
    → is_method_on is_channel_open n y ≡ false → is_freed n y ≡ false → (ends_all y ≡ true → closing ≡ true)
    → Shuts ms was now closing (life_at ls n) (life_at (lives_by ms told y ls) n)
want_shuts n ms told (want.Method j m) ls was now closing less same finds none freed all = by (set_in n j ls (method_life ms m (life_at ls j)) less)
  where
    new : Life
    new = method_life ms m (life_at ls j)

    by : Set n j ls new → Shuts ms was now closing (life_at ls n) (life_at (with_life j new ls) n)
    by (This e f) =
        let here : (j == n) ≡ true = ap (λ (i : ℕ). i == n) e ∙ itself n in
        let now_here : now ≡ method_opens m was = same ∙ ap (λ (b : Bool). if b then method_opens m was else was) here in
        let unopened : is_channel_open m ≡ false = sym (ap (λ (b : Bool). b && is_channel_open m) here) ∙ none in
        subst (λ (b : Bool). Shuts ms was b closing (life_at ls n) (life_at (with_life j new ls) n)) (sym now_here)
        (subst (λ (z : Life). Shuts ms was (method_opens m was) closing (life_at ls n) z) (sym f)
        (subst (λ (i : ℕ). Shuts ms was (method_opens m was) closing (life_at ls n) (method_life ms m (life_at ls i))) (sym e)
        (method_shuts ms m (life_at ls n) was closing unopened)))
    by (Other d f) = Stays (ap closed f) (λ z. inl (same ∙ ap (λ (b : Bool). if b then method_opens m was else was) d ∙ z))
want_shuts n ms told (want.ChannelCloseOk j) ls was now closing less same finds none freed all = by (set_in n j ls (freed_life (life_at ls j)) less)
  where
    by : Set n j ls (freed_life (life_at ls j)) → Shuts ms was now closing (life_at ls n) (life_at (with_life j (freed_life (life_at ls j)) ls) n)
    by (This e f) = absurd (clash _ (ap (λ (i : ℕ). i == n) e ∙ itself n) freed)
    by (Other d f) = Stays (ap closed f) (λ z. inl (same ∙ z))
want_shuts n ms told want.Close ls was now closing less same finds none freed all = Stays refl (λ z. inr (all refl))
want_shuts n ms told (want.Refuse r) ls was now closing less same finds none freed all = by (is_of_channel r) refl
  where
    new : Life
    new = failed_life false ms (reason_of told r) (Some (condition_of r.code)) (life_at ls r.channel)

    one : is_of_channel r ≡ true → now ≡ (if r.channel == n then false else was) → Set n r.channel ls new
        → Shuts ms was now closing (life_at ls n) (life_at (with_life r.channel new ls) n)
    one t f (This e g) = Fails (finds t e) (ap closed g)
    one t f (Other d g) = Stays (ap closed g) (λ z. inl (f ∙ ap (λ (b : Bool). if b then false else was) d ∙ z))

    by : (b : Bool) → is_of_channel r ≡ b → Shuts ms was now closing (life_at ls n) (life_at (if b then with_life r.channel new ls else ls) n)
    by true e = one e (same ∙ ap (λ (b : Bool). if b then (if r.channel == n then false else was) else false) e) (set_in n r.channel ls new less)
    by false e = Stays refl (λ z. inr (all (ap not e)))
want_shuts n ms told y ls was now closing less same finds none freed all = Stays refl (λ z. inl (same ∙ z))

came_shuts : (n : ℕ) (w : State) (u : Unit91) → n < length w.conn.channels → n < length w.lives → is_method_on is_channel_open n (want_in w.routes w.paths w.conn u) ≡ false
    → is_freed n (want_in w.routes w.paths w.conn u) ≡ false → ShutsIn w.moment n w (came (dequeued w) u)
came_shuts n w u less there none freed =
    want_shuts n w.moment (client_told w.routes w.conn u) x.1 w.lives (is_open w.conn n) (is_open x.0 n) (is_closing x.0) there (opens.is less)
    (finds_open n w.conn x.1 (client_stands w.routes w.paths w.conn u)) none freed (unit_shuts w.routes w.paths w.conn u)
  where
    x : machine.Step
    x = client_step w.routes w.paths w.conn u

    opens : Opens n w.conn x
    opens = client_opens n w.routes w.paths w.conn u

-- ---- the container's

fail_ends : (ms n code : ℕ) (why : Option Condition) (w v : State) → closed (life_at v.lives n) ≡ closed (life_at w.lives n) → ShutsIn ms n w (fail code why v)
fail_ends ms n code why w v e = ends ms n w (fail code why v) (fail_closes code why v) (ap (λ (ls : List Life). closed (life_at ls n)) (fail_lives code why v) ∙ e)

fail_one : (n g code : ℕ) (why : Option Condition) (f : PathState → PathState) (w v : State) → n < length w.conn.channels → n < length v.lives
    → v.conn ≡ w.conn → v.moment ≡ w.moment → closed (life_at v.lives n) ≡ closed (life_at w.lives n) → ShutsIn w.moment n w (fail_life g code why f v)
fail_one n g code why f w v less there c at a = by (is_open v.conn g) refl
  where
    new : Life
    new = failed_life true v.moment (reason_of None (refusal_on g code)) why (life_at v.lives g)

    opens : is_open (life_failed g (refusal_on g code) why f v).conn n ≡ (if g == n then false else is_open v.conn n)
    opens = closing_opens g n v.conn (subst (λ (d : Connection). n < length d.channels) (sym c) less)

    was : is_open v.conn n ≡ is_open w.conn n
    was = ap (λ (k : Connection). is_open k n) c

    one : is_open v.conn g ≡ true → Set n g v.lives new → ShutsIn w.moment n w (life_failed g (refusal_on g code) why f v)
    one o (This e i) = Fails (sym was ∙ subst (λ (j : ℕ). is_open v.conn j ≡ true) e o) (ap closed i ∙ ap Some at)
    one o (Other d i) = Stays (ap closed i ∙ a) (λ z. inl (opens ∙ ap (λ (b : Bool). if b then false else is_open v.conn n) d ∙ was ∙ z))

    by : (b : Bool) → is_open v.conn g ≡ b → ShutsIn w.moment n w (if b then life_failed g (refusal_on g code) why f v else v)
    by true o = one o (set_in n g v.lives new there)
    by false o = Stays a (λ z. inl (was ∙ z))

session_shuts : (n g : ℕ) (q : Parts) (payload : List ℕ) (w : State) → n < length w.conn.channels → n < length w.lives → ShutsIn w.moment n w (with_session g q payload w)
session_shuts n g q payload w less there = by (link_scope q payload (life_at w.lives g).session (path_at w.paths g))
  where
    c : State
    c = carried g q payload w

    d : State
    d = windowed g q w

    long_still : (m : Life) → n < length (with_life g m w.lives)
    long_still m = subst (λ (i : ℕ). n < i) (sym (set_all w.lives g m)) there

    kept : closed (life_at c.lives n) ≡ closed (life_at w.lives n)
    kept = one_same n g w.lives _ refl

    closes : (o : Option ℕ) → ShutsIn w.moment n w (closed_for g o c)
    closes None = Stays kept (λ z. inl z)
    closes (Some code) = fail_one n g code None closed_path w c less (long_still _) refl refl kept

    met : (b : Bool) → ShutsIn w.moment n w (if b then begun_session g c else closed_for g (closing_code q payload (path_at w.paths g)) c)
    met true = Stays (one_same n g c.lives (begun_life (life_at c.lives g)) refl ∙ kept) (λ z. inl z)
    met false = closes (closing_code q payload (path_at w.paths g))

    by : (o : Option Scope) → ShutsIn w.moment n w (scoped o g q payload w)
    by None = met (q.0 == 17)
    by (Some scope.Connection) = fail_ends w.moment n INTERNAL_ERROR (Some (closing_error q (path_at w.paths g))) w d kept
    by (Some scope.Channel) =
        fail_one n g PRECONDITION_FAILED (Some (ending_error q payload (life_at w.lives g).session (path_at w.paths g))) closed_path w (session_lost g d) less (long_still _) refl refl kept

meaning_shuts : (n : ℕ) (m : Meaning) (w : State) → n < length w.conn.channels → n < length w.lives → ShutsIn w.moment n w (with_meaning m w)
meaning_shuts n ten.Nothing w less there = still _ n w
meaning_shuts n ten.Init w less there = Stays refl (λ z. inl z)
meaning_shuts n ten.AmqpHeader w less there = Stays refl (λ z. inl z)
meaning_shuts n ten.Opened w less there = by (is_opening w.conn) refl
  where
    by : (b : Bool) → is_opening w.conn ≡ b → ShutsIn w.moment n w (if b then runs w else w)
    by true e = Stays refl (λ z. absurd (clash _ z (ap (λ (p : Phase91). is_running p && is_open_channel (channel_at w.conn n)) (opening_phase w.conn e))))
    by false e = still _ n w
meaning_shuts n (ten.OfSession g q payload) w less there = session_shuts n g q payload w less there
meaning_shuts n (ten.Closed x) w less there = fail_ends _ n _ _ w w refl
meaning_shuts n ten.Refused w less there = fail_ends _ n _ _ w w refl
meaning_shuts n (ten.Violation c) w less there = fail_ends _ n _ _ w w refl

-- ---- units that go

given_same : (n : ℕ) (u : Reply) (ls : List Life) → closed (life_at (without_life u ls) n) ≡ closed (life_at ls n)
given_same n (reply.ChannelOpenOk k) ls = one_same n k ls _ refl
given_same n (reply.ChannelCloseOk k) ls = one_same n k ls _ refl
given_same n (reply.CrossedOk k) ls = one_same n k ls _ refl
given_same n (reply.ChannelClose k r) ls = one_same n k ls _ refl
given_same n u ls = refl

begun_same : (n : ℕ) (u : UpUnit) (ls : List Life) → closed (life_at (without_begin u ls) n) ≡ closed (life_at ls n)
begun_same n (up.OnSession k u) ls = one_same n k ls _ refl
begun_same n (up.Flow k i o) ls = one_same n k ls _ refl
begun_same n (up.Begin k) ls = one_same n k ls _ refl
begun_same n (up.End k why) ls = one_same n k ls _ refl
begun_same n u ls = refl

-- ---- all steps

came_step : (n : ℕ) (u : Unit91) (h : List Step) → n < 256 → ArePicks h → opens_channel n h (Came u) ≡ false → frees_channel n h (Came u) ≡ false
    → ShutsIn (before h).moment n (before h) (before (Came u ∷ h))
came_step n u h less p none freed = by (before h).out_of_memory (memory_is (known h p))
  where
    w : State
    w = before h

    unless : (test : Want91 → Bool) → (not (ran_out_in h) && test (want_in (routes_in h) (paths_in h) (connection h) u)) ≡ false → ran_out_in h ≡ false
        → test (want_in w.routes w.paths w.conn u) ≡ false
    unless test e f = ap test (want_is h u p) ∙ sym (ap (λ (b : Bool). not b && test (want_in (routes_in h) (paths_in h) (connection h) u)) f) ∙ e

    by : (b : Bool) → b ≡ ran_out_in h → ShutsIn w.moment n w (if b then w else came (dequeued w) u)
    by true e = still _ n w
    by false e = came_shuts n w u (inside n h less p) (long n h less p) (unless (is_method_on is_channel_open n) none (sym e)) (unless (is_freed n) freed (sym e))

heard_step : (n : ℕ) (u : Unit10) (h : List Step) → n < 256 → ArePicks h → ShutsIn (before h).moment n (before h) (before (Heard u ∷ h))
heard_step n u h less p = by (before h).out_of_memory
  where
    w : State
    w = before h

    by : (b : Bool) → ShutsIn w.moment n w (if b then w else heard w u)
    by true = still _ n w
    by false = meaning_shuts n (meaning_by w.up.container u) (record w { up = heard_up u w.up }) (inside n h less p) (long n h less p)

at_moment : (n : ℕ) (h : List Step) (v : State) → ArePicks h → ShutsIn (before h).moment n (before h) v → ShutsIn (moment_in h) n (before h) v
at_moment n h v p = subst (λ (ms : ℕ). ShutsIn ms n (before h) v) (moment_is (known h p))

step_shuts : (n : ℕ) (s : Step) (h : List Step) → n < 256 → ArePicks (s ∷ h) → is_some (path_life h n) ≡ true → opens_channel n h s ≡ false → frees_channel n h s ≡ false
    → ShutsIn (moment_in (s ∷ h)) n (before h) (before (s ∷ h))
step_shuts n (Began site number ms) h less p there none freed = absurd (let wrong : false ≡ true = sym (ap (λ (x : List Step). is_some (path_life x n)) p.0) ∙ there in cc)
step_shuts n (Moment ms) h less p there none freed = by (is_limit_reached (before h).conn (before h).accepted_at ms)
  where
    by : (b : Bool) → Shuts ms (is_open (before h).conn n) (is_open (close_if b (before h).conn) n) (is_closing (close_if b (before h).conn)) (life_at (before h).lives n) (life_at (before h).lives n)
    by true = Stays refl (λ z. inr (close_closes (before h).conn.phase))
    by false = Stays refl (λ z. inl z)
step_shuts n (Fed Client) h less p there none freed = Stays refl (λ z. inl z)
step_shuts n (Silent Client) h less p there none freed = Stays refl (λ z. inr refl)
step_shuts n (Silent Up) h less p there none freed = fail_ends _ n _ _ (before h) _ refl
step_shuts n (Queued u) h less p there none freed = by (before h).out_of_memory
  where
    by : (b : Bool) → ShutsIn (moment_in h) n (before h) (if b then before h else record (before h) { queue = (before h).queue ++ u ∷ [] })
    by true = still _ n (before h)
    by false = Stays refl (λ z. inl z)
step_shuts n (Came u) h less p there none freed = at_moment n h (before (Came u ∷ h)) p.1 (came_step n u h less p.1 none freed)
step_shuts n TakenUp h less p there none freed = by (not (before h).out_of_memory && (before h).leaving)
  where
    by : (b : Bool) → ShutsIn (moment_in h) n (before h) (if b then left (before h) else before h)
    by true = Stays refl (λ z. inr refl)
    by false = still _ n (before h)
step_shuts n (Heard u) h less p there none freed = at_moment n h (before (Heard u ∷ h)) p.1 (heard_step n u h less p.1)
step_shuts n (Joined link.Ok) h less p there none freed = Stays refl (λ z. inl z)
step_shuts n (Joined link.Failed) h less p there none freed = fail_ends _ n _ _ (before h) _ refl
step_shuts n (Lost Client loss.Ended) h less p there none freed = Stays refl (λ z. inl z)
step_shuts n (Lost Up loss.Ended) h less p there none freed = fail_ends _ n _ _ (before h) _ refl
step_shuts n (Lost Up loss.Failed) h less p there none freed = fail_ends _ n _ _ (before h) _ refl
step_shuts n (Gave (ToClient u) text) h less p there none freed =
    Stays (given_same n u (before h).lives) (λ z. inl ((given_open n u (before h).conn).is (inside n h less p.1) ∙ z))
step_shuts n (Gave (ToUp u) text) h less p there none freed = Stays (begun_same n u (before h).lives) (λ z. inl z)
step_shuts n (Whole Client) h less p there none freed = Stays refl (λ z. inl z)
step_shuts n OutOfMemory h less p there none freed = Stays refl (λ z. inr (close_closes (before h).conn.phase))
step_shuts n s h less p there none freed = Stays refl (λ z. inl z)

-- ---- the moment at which a channel was closed

-- it is that of its life, or the connection was closed before
pub data Shut (h : List Step) (n at : ℕ) : Type 0 where
  InLife : closed (life_at (before h).lives n) ≡ Some at → Shut h n at
  InAll : (early : ℕ) → closed_in h ≡ Some early → early ≤ at → Shut h n at

-- and it isn't open
record IsShut (h : List Step) (n at : ℕ) : Type 0 where
  shut : is_open (connection h) n ≡ false
  by : Shut h n at

below : (n : ℕ) → n < 256 → n ≤ CHANNEL_MAX
below n less = let most : CHANNEL_MAX ≡ 255 = refl in omega (arith, less, most)

-- the closing event of a connection that is closing
record IsClosed (h : List Step) : Type 0 where
  at : ℕ
  is : closed_in h ≡ Some at
  early : at ≤ moment_in h

early_in : (h : List Step) (at : ℕ) → ArePicks h → closed_in h ≡ Some at → at ≤ moment_in h
early_in [] at p e = absurd cc
early_in (s ∷ h) at p e = by (closed_in h) refl (is_closing (connection (s ∷ h))) e (early_in h at p.1)
  where
    by : (o : Option ℕ) → closed_in h ≡ o → (b : Bool) → closes_at o b (moment_in (s ∷ h)) ≡ Some at → (closed_in h ≡ Some at → at ≤ moment_in h)
        → at ≤ moment_in (s ∷ h)
    by None f true g rest = let is : moment_in (s ∷ h) ≡ at = cc in omega (arith, is)
    by None f false g rest = absurd cc
    by (Some k) f b g rest =
        let is : k ≡ at = cc in
        let old : at ≤ moment_in h = rest (f ∙ ap Some is) in
        let later : moment_in h ≤ moment_in (s ∷ h) = rises s h p in
        omega (arith, old, later)

closing_now : (s : Step) (h : List Step) → ArePicks (s ∷ h) → is_closing (connection (s ∷ h)) ≡ true → IsClosed (s ∷ h)
closing_now s h p c = by (closed_in h) refl
  where
    by : (o : Option ℕ) → closed_in h ≡ o → IsClosed (s ∷ h)
    by None f = record {
      at = moment_in (s ∷ h);
      is = ap (λ (o : Option ℕ). closes_at o (is_closing (connection (s ∷ h))) (moment_in (s ∷ h))) f ∙ ap (λ (b : Bool). closes_at None b (moment_in (s ∷ h))) c;
      early = omega arith;
    }
    by (Some k) f =
        let is : closed_in (s ∷ h) ≡ Some k = ap (λ (o : Option ℕ). closes_at o (is_closing (connection (s ∷ h))) (moment_in (s ∷ h))) f in
        record { at = k; is = is; early = early_in (s ∷ h) k p is }

shut_is : (n : ℕ) (h : List Step) (at : ℕ) → n < 256 → ArePicks h → is_some (path_life h n) ≡ true → closed_on n h ≡ Some at → IsShut h n at
shut_is n [] at less p there e = absurd cc
shut_is n (s ∷ h) at less p there e = by (opens_channel n h s) refl (frees_channel n h s) refl there e (λ t f. shut_is n h at less p.1 t f)
  where
    w : State
    w = before h

    v : State
    v = before (s ∷ h)

    conn_before : (b : Bool) → is_open (connection h) n ≡ b → is_open w.conn n ≡ b
    conn_before b f = ap (λ (c : Connection). is_open c n) (conn_is (known h p.1)) ∙ f

    -- it was open
    none_before : is_some (path_life h n) ≡ true → is_open (connection h) n ≡ true → closed (life_at w.lives n) ≡ None
    none_before t on = at_life (closed (life_at w.lives n)) refl
      where
        at_life : (o : Option ℕ) → closed (life_at w.lives n) ≡ o → o ≡ None
        at_life None f = refl
        at_life (Some k) f = absurd (clash _ (over_is h p.1 n k f) (goes_on h n p.1 (below n less) t on))

    turns : is_some (path_life h n) ≡ true → is_open (connection h) n ≡ true → is_open (connection (s ∷ h)) n ≡ false → moment_in (s ∷ h) ≡ at
        → Shuts (moment_in (s ∷ h)) (is_open w.conn n) (is_open v.conn n) (is_closing v.conn) (life_at w.lives n) (life_at v.lives n) → Shut (s ∷ h) n at
    turns t on off now (Stays f g) = either (g (conn_before true on))
      where
        either : ((is_open v.conn n ≡ true) ⊎ (is_closing v.conn ≡ true)) → Shut (s ∷ h) n at
        either (inl z) = absurd (clash _ (ap (λ (c : Connection). is_open c n) (sym (conn_is (known (s ∷ h) p))) ∙ z) off)
        either (inr z) =
            let c = closing_now s h p (ap is_closing (sym (conn_is (known (s ∷ h) p))) ∙ z) in
            let early : c.at ≤ moment_in (s ∷ h) = c.early in
            InAll c.at c.is (omega (arith, early, now))
    turns t on off now (Closes f) = InLife (f ∙ ap (λ (o : Option ℕ). option_or o (Some (moment_in (s ∷ h)))) (none_before t on) ∙ ap Some now)
    turns t on off now (Fails b f) = InLife (f ∙ ap Some now)

    stays : is_open (connection h) n ≡ false → Shut h n at
        → Shuts (moment_in (s ∷ h)) (is_open w.conn n) (is_open v.conn n) (is_closing v.conn) (life_at w.lives n) (life_at v.lives n) → Shut (s ∷ h) n at
    stays off (InAll k f le) x = InAll k (ap (λ (o : Option ℕ). closes_at o (is_closing (connection (s ∷ h))) (moment_in (s ∷ h))) f) le
    stays off (InLife f) (Stays g z) = InLife (g ∙ f)
    stays off (InLife f) (Closes g) = InLife (g ∙ ap (λ (o : Option ℕ). option_or o (Some (moment_in (s ∷ h)))) f)
    stays off (InLife f) (Fails b g) = absurd (clash _ b (conn_before false off))

    inner : opens_channel n h s ≡ false → frees_channel n h s ≡ false → is_some (path_life h n) ≡ true → (was now : Bool) → is_open (connection h) n ≡ was
        → is_open (connection (s ∷ h)) n ≡ now → (if was && not now then Some (moment_in (s ∷ h)) else closed_on n h) ≡ Some at
        → (closed_on n h ≡ Some at → IsShut h n at) → IsShut (s ∷ h) n at
    inner o f t true false x y g old =
        record { shut = y; by = turns t x y (let same : moment_in (s ∷ h) ≡ at = cc in same) (step_shuts n s h less p t o f) }
    inner o f t true true x y g old = absurd (clash _ x (old g).shut)
    inner o f t false true x y g old =
        let on : is_open v.conn n ≡ true = ap (λ (c : Connection). is_open c n) (conn_is (known (s ∷ h) p)) ∙ y in
        absurd (clash _ (was_open (step_leaves n s h less p t o) on) (conn_before false x))
    inner o f t false false x y g old = record { shut = y; by = stays x (old g).by (step_shuts n s h less p t o f) }

    by : (a : Bool) → opens_channel n h s ≡ a → (b : Bool) → frees_channel n h s ≡ b → is_some (if a then Some ((peers h).opened + 1) else path_life h n) ≡ true
        → (if a || b then None
        else (if is_open (connection h) n && not (is_open (connection (s ∷ h)) n) then Some (moment_in (s ∷ h)) else closed_on n h)) ≡ Some at
        → (is_some (path_life h n) ≡ true → closed_on n h ≡ Some at → IsShut h n at) → IsShut (s ∷ h) n at
    by true o b f t g old = absurd cc
    by false o true f t g old = absurd cc
    by false o false f t g old = inner o f t (is_open (connection h) n) (is_open (connection (s ∷ h)) n) refl refl g (old t)

pub shut_by : (n : ℕ) (h : List Step) (at : ℕ) → n < 256 → ArePicks h → is_some (path_life h n) ≡ true → closed_on n h ≡ Some at → Shut h n at
shut_by n h at less p there e = (shut_is n h at less p there e).by
