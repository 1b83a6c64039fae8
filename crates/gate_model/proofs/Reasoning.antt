-- A channel.close that is due says what closed its channel.
use Rattle.property_map.specs.declared.told.Told.{Told}
use Rattle.std.proofs.Common.{◌≡◌, ◌⊎◌, inl, inr, ℕ, zero, suc, ◌+◌, ◌==◌, ◌<◌, ◌≤◌, not, ◌&&◌, Bool, true, false, if◌then◌else◌, List, [], ◌∷◌, ◌++◌, length}
use Rattle.std.proofs.Common.{Option, None, Some, is_some, option_map, refl, sym, ap, ◌∙◌, arith, subst}
use Rattle.std.proofs.lemmas.Bool.Decides.{nat_tests}
use Rattle.std.specs.Option.{option_or}
use Rattle.close_translate.specs.Conditions.{condition_of}
use Rattle.close_translate.specs.declared.codes.TheConstants.{INTERNAL_ERROR, PRECONDITION_FAILED}
use Rattle.close_translate.specs.declared.conditions.Scope.{Scope}
use Rattle.close_translate.specs.declared.conditions.Scope.TheVariants as scope
use Rattle.gate_outside.specs.declared.ports.End.TheVariants.{Client, Up}
use Rattle.gate_outside.specs.declared.ports.Linked.TheVariants as link
use Rattle.gate_relay.specs.declared.loss.Loss.TheVariants as loss
use Rattle.machine_091.specs.State.{is_closing, is_open, is_opening}
use Rattle.machine_091.specs.declared.state.Connection.{Connection}
use Rattle.machine_091.specs.declared.unit.Unit91.{Unit91}
use Rattle.machine_091.specs.declared.unit.Want91.{Want91}
use Rattle.machine_091.specs.declared.unit.Want91.TheVariants as want
use Rattle.machine_10.specs.Parts.{Parts}
use Rattle.machine_10.specs.Transitions as ten
use Rattle.machine_10.specs.Transitions.{Meaning}
use Rattle.machine_10.specs.declared.state.Upstream.{Upstream}
use Rattle.machine_10.specs.declared.unit.Unit10.{Unit10}
use Rattle.methods_091.specs.declared.method.Method91.{Method91}
use Rattle.methods_091.specs.declared.method.Method91.TheVariants as method
use Rattle.performatives_10.specs.declared.condition.Condition.{Condition}
use Rattle.session_path.specs.Path.{PathState}
use Rattle.gate_model.specs.declared.life.Life.{Life}
use Rattle.gate_model.specs.declared.life.SessionState.{SessionState}
use Rattle.gate_model.specs.declared.outgoing.Outgoing.TheVariants.{ToClient, ToUp}
use Rattle.gate_model.specs.declared.outgoing.UpUnit.{UpUnit}
use Rattle.gate_model.specs.declared.outgoing.UpUnit.TheVariants as up
use Rattle.gate_model.specs.declared.reply.Reason.{Reason}
use Rattle.gate_model.specs.declared.reply.Reply.{Reply}
use Rattle.gate_model.specs.declared.reply.Reply.TheVariants as reply
use Rattle.gate_model.specs.declared.setup.Route.{Route}
use Rattle.gate_model.specs.Due.{close_oks_on, refused_on, when}
use Rattle.gate_model.specs.Folds.{Peers, connection, container, is_answer, paths_in, peers, ran_out_in, routes_in}
use Rattle.gate_model.specs.Lives.{begun_life, failed_life, freed_life, is_of_channel, life_at, lives_by, method_life, no_lives, reason_of, refusal_on}
use Rattle.gate_model.specs.Lives.{with_life}
use Rattle.gate_model.specs.Once.{one_if, went_in}
use Rattle.gate_model.specs.Paths.{closed_path, path_at}
use Rattle.gate_model.specs.Picks.{ArePicks}
use Rattle.gate_model.specs.Session.{carried_by}
use Rattle.gate_model.specs.Reasons.{ClosesOnce, MaySay, SaysWhy, is_close_on, reason_at, reason_in, reason_meant, reason_scoped, reason_wanted, reason_with, reasons_in}
use Rattle.gate_model.specs.Requests.{client_told}
use Rattle.gate_model.specs.State.{Came, Fed, Gave, Heard, Joined, Lost, Queued, Silent, State, Step, TakenUp, Whole, before, begun_session, came, carried}
use Rattle.gate_model.specs.State.{closed_for, closing_code, closing_error, dequeued, ending_error, fail, fail_life, failed, heard, left, life_failed, link_scope, session_lost, sessions_lost}
use Rattle.gate_model.specs.State.{is_channel_settled, is_settled, runs, scoped, want_in, windowed, with_meaning, with_session, without_begin, without_life}
use Rattle.gate_model.specs.Upstream.{first, heard_up, meaning_by}
use Rattle.gate_model.proofs.Known.{Known, conn_is, container_is, known, memory_is, paths_are, routes_are}
use Rattle.gate_model.proofs.Lives.{lives_all}
use Rattle.gate_model.proofs.Places.{Beyond, Elsewhere, Here, SetAt, isnt, itself, new_at, set_at}
use Rattle.gate_model.proofs.Rows.{first_at}
use Rattle.gate_model.proofs.Said.{Beats, InCloses, InOks, InOpen, InOpenOks, IsDue, IsOfChannel, OnChannel, OnOpen, Picked, calm_now, first_due, picked}
use Rattle.gate_model.proofs.Sessions.{session_on}

-- ---- what a step makes of the channel.close that is due

-- one stays due where the step closes nothing, none is, or the one that the step says
pub data Says (o : Option Reason) (l m : Life) : Type 0 where
  Stays : o ≡ None → m.close ≡ l.close → Says o l m
  Drops : m.close ≡ None → Says o l m
  Tells : (r : Reason) → o ≡ Some r → m.close ≡ Some r → Says o l m

same : (l m : Life) → m ≡ l → Says None l m
same l m e = Stays refl (ap (λ (x : Life). x.close) e)

-- a life is set: this one, which the step says, or another
one_says : (o : Option Reason) (n k : ℕ) (ls : List Life) (m : Life) → (k ≡ n → Says o (life_at ls n) m) → ((k == n) ≡ false → o ≡ None)
    → Says o (life_at ls n) (life_at (with_life k m ls) n)
one_says o n k ls m this other = by (set_at ls k n m)
  where
    by : SetAt ls k n m → Says o (life_at ls n) (life_at (with_life k m ls) n)
    by (Here e f) = subst (λ (x : Life). Says o (life_at ls n) x) (sym f) (this e)
    by (Elsewhere d f) = Stays (other (isnt k n d)) (ap (λ (x : Life). x.close) f)
    by (Beyond e f g) = Drops (ap (λ (x : Life). x.close) g)

-- one that keeps it
keeps_close : (n k : ℕ) (ls : List Life) (m : Life) → m.close ≡ (life_at ls k).close → Says None (life_at ls n) (life_at (with_life k m ls) n)
keeps_close n k ls m e = one_says None n k ls m (λ f. Stays refl (e ∙ ap (λ (i : ℕ). (life_at ls i).close) f)) (λ d. refl)

-- ---- the client's units

method_says : (ms : ℕ) (m : Method91) (l : Life) → Says None l (method_life ms m l)
method_says ms method.ChannelOpen l = Drops refl
method_says ms (method.ChannelClose code text class id) l = Drops refl
method_says ms m l = Stays refl refl

want_says : (n ms : ℕ) (told : Option Told) (y : Want91) (ls : List Life) → Says (reason_wanted n told y) (life_at ls n) (life_at (lives_by ms told y ls) n)
want_says n ms told (want.Method k m) ls =
    one_says None n k ls (method_life ms m (life_at ls k)) (λ e. subst (λ (i : ℕ). Says None (life_at ls n) (method_life ms m (life_at ls i))) (sym e) (method_says ms m (life_at ls n))) (λ d. refl)
want_says n ms told (want.ChannelCloseOk k) ls = one_says None n k ls (freed_life (life_at ls k)) (λ e. Drops refl) (λ d. refl)
want_says n ms told (want.Refuse r) ls = by (is_of_channel r)
  where
    new : Life
    new = failed_life false ms (reason_of told r) (Some (condition_of r.code)) (life_at ls r.channel)

    by : (b : Bool) → Says (if b && r.channel == n then Some (reason_of told r) else None) (life_at ls n) (life_at (if b then with_life r.channel new ls else ls) n)
    by true =
        one_says (if r.channel == n then Some (reason_of told r) else None) n r.channel ls new
        (λ e. Tells (reason_of told r) (ap (λ (b : Bool). if b then Some (reason_of told r) else None) (ap (λ (i : ℕ). i == n) e ∙ itself n)) refl)
        (λ d. ap (λ (b : Bool). if b then Some (reason_of told r) else None) d)
    by false = same _ _ refl
want_says n ms told y ls = same _ _ refl

-- ---- the container's

abbrev SaysIn : Option Reason → ℕ → State → State → Type 0
SaysIn o n w v = Says o (life_at w.lives n) (life_at v.lives n)

fail_says : (n code : ℕ) (why : Option Condition) (w v : State) → SaysIn None n w v → SaysIn None n w (fail code why v)
fail_says n code why w v s = by (is_closing v.conn)
  where
    by : (b : Bool) → SaysIn None n w (if b then sessions_lost v else failed code why v)
    by true = s
    by false = s

-- what a performative of the state's session closes
abbrev pub reason_state : State → ℕ → ℕ → Parts → List ℕ → Option Reason
reason_state w n k q payload =
    if k == n && is_open w.conn n then reason_scoped (link_scope q payload (session_on w n) (path_at w.paths n)) n q payload (path_at w.paths n) else None

-- behind a change that leaves what is due
says_behind : (o : Option Reason) (a b c : Life) → b.close ≡ a.close → Says o b c → Says o a c
says_behind o a b c e (Stays f g) = Stays f (g ∙ e)
says_behind o a b c e (Drops f) = Drops f
says_behind o a b c e (Tells r f g) = Tells r f g

session_same : (n k : ℕ) (x : SessionState) (ls : List Life) → (life_at (with_life k (record (life_at ls k) { session = x }) ls) n).close ≡ (life_at ls n).close
session_same n k x ls = by (set_at ls k n (record (life_at ls k) { session = x }))
  where
    by : SetAt ls k n (record (life_at ls k) { session = x }) → (life_at (with_life k (record (life_at ls k) { session = x }) ls) n).close ≡ (life_at ls n).close
    by (Here e f) = ap (λ (z : Life). z.close) f ∙ ap (λ (i : ℕ). (life_at ls i).close) e
    by (Elsewhere d f) = ap (λ (z : Life). z.close) f
    by (Beyond e f g) = ap (λ (z : Life). z.close) (g ∙ sym f)

-- the container closes the channel of its session
fail_one : (n k code : ℕ) (why : Option Condition) (f : PathState → PathState) (w v : State) → v.conn ≡ w.conn → (life_at v.lives n).close ≡ (life_at w.lives n).close
    → SaysIn (if k == n && is_open w.conn n then Some (reason_with n code) else None) n w (fail_life k code why f v)
fail_one n k code why f w v c e = by (is_open v.conn k) refl
  where
    new : Life
    new = failed_life true v.moment (reason_of None (refusal_on k code)) why (life_at v.lives k)

    o : Option Reason
    o = if k == n && is_open w.conn n then Some (reason_with n code) else None

    opened : k ≡ n → (b : Bool) → is_open v.conn k ≡ b → is_open w.conn n ≡ b
    opened i b g = sym (ap (λ (d : Connection). is_open d n) c) ∙ sym (ap (λ (j : ℕ). is_open v.conn j) i) ∙ g

    here : k ≡ n → (b : Bool) → is_open v.conn k ≡ b → o ≡ (if b then Some (reason_with n code) else None)
    here i b g =
        ap (λ (a : Bool). if a && is_open w.conn n then Some (reason_with n code) else None) (ap (λ (j : ℕ). j == n) i ∙ itself n)
        ∙ ap (λ (a : Bool). if a then Some (reason_with n code) else None) (opened i b g)

    apart : (k == n) ≡ false → o ≡ None
    apart d = ap (λ (a : Bool). if a && is_open w.conn n then Some (reason_with n code) else None) d

    shut : ((k == n) ≡ false) ⊎ (k ≡ n) → is_open v.conn k ≡ false → o ≡ None
    shut (inl d) g = apart d
    shut (inr i) g = here i false g

    either : (b : Bool) → (k == n) ≡ b → ((k == n) ≡ false) ⊎ (k ≡ n)
    either true g = inr (grind (arith, nat_tests, g))
    either false g = inl g

    by : (b : Bool) → is_open v.conn k ≡ b → SaysIn o n w (if b then life_failed k (refusal_on k code) why f v else v)
    by true g =
        says_behind o (life_at w.lives n) (life_at v.lives n) (life_at (life_failed k (refusal_on k code) why f v).lives n) e
        (one_says o n k v.lives new
        (λ i. Tells (reason_with n code) (here i true g) (ap (λ (j : ℕ). Some (reason_with j code)) i)) apart)
    by false g = Stays (shut (either (k == n) refl) g) e

session_says : (n k : ℕ) (q : Parts) (payload : List ℕ) (w : State) → SaysIn (reason_state w n k q payload) n w (with_session k q payload w)
session_says n k q payload w = by (k == n) refl
  where
    c : State
    c = carried k q payload w

    d : State
    d = windowed k q w

    kept : (life_at c.lives n).close ≡ (life_at w.lives n).close
    kept = session_same n k (carried_by q (life_at w.lives k).session) w.lives

    closing_why : Option Condition
    closing_why = Some (closing_error q (path_at w.paths k))

    ending_why : Option Condition
    ending_why = Some (ending_error q payload (life_at w.lives k).session (path_at w.paths k))

    -- a performative on the session of another channel
    other : (k == n) ≡ false → (o : Option Scope) → SaysIn None n w (scoped o k q payload w)
    other e None = met (q.0 == 17) (closing_code q payload (path_at w.paths k))
      where
        closed : (z : Option ℕ) → SaysIn None n w (closed_for k z c)
        closed None = Stays refl kept
        closed (Some code) =
            subst (λ (b : Bool). SaysIn (if b && is_open w.conn n then Some (reason_with n code) else None) n w (fail_life k code None closed_path c)) e
            (fail_one n k code None closed_path w c refl kept)

        met : (b : Bool) (z : Option ℕ) → SaysIn None n w (if b then begun_session k c else closed_for k z c)
        met true z = says_behind None (life_at w.lives n) (life_at c.lives n) (life_at (begun_session k c).lives n) kept (keeps_close n k c.lives (begun_life (life_at c.lives k)) refl)
        met false z = closed z
    other e (Some scope.Connection) = fail_says n INTERNAL_ERROR closing_why w d (Stays refl kept)
    other e (Some scope.Channel) =
        subst (λ (b : Bool). SaysIn (if b && is_open w.conn n then Some (reason_with n PRECONDITION_FAILED) else None) n w (fail_life k PRECONDITION_FAILED ending_why closed_path (session_lost k d))) e
        (fail_one n k PRECONDITION_FAILED ending_why closed_path w (session_lost k d) refl kept)

    -- one on that of this channel
    this : k ≡ n → (o : Option Scope) → SaysIn (if is_open w.conn n then reason_scoped o n q payload (path_at w.paths n) else None) n w (scoped o k q payload w)
    this e None = met (q.0 == 17) (closing_code q payload (path_at w.paths k)) (closing_code q payload (path_at w.paths n)) (ap (λ (i : ℕ). closing_code q payload (path_at w.paths i)) e)
      where
        no_reason : (b : Bool) (o : Option Reason) → o ≡ None → (if b then o else None) ≡ None
        no_reason true o f = f
        no_reason false o f = refl

        closed : (y z : Option ℕ) → y ≡ z → SaysIn (if is_open w.conn n then option_map (reason_with n) z else None) n w (closed_for k y c)
        closed y None f = subst (λ (x : Option ℕ). SaysIn (if is_open w.conn n then None else None) n w (closed_for k x c)) (sym f) (Stays (no_reason (is_open w.conn n) None refl) kept)
        closed y (Some code) f =
            subst (λ (x : Option ℕ). SaysIn (if is_open w.conn n then Some (reason_with n code) else None) n w (closed_for k x c)) (sym f)
            (subst (λ (b : Bool). SaysIn (if b && is_open w.conn n then Some (reason_with n code) else None) n w (fail_life k code None closed_path c))
            (ap (λ (i : ℕ). i == n) e ∙ itself n) (fail_one n k code None closed_path w c refl kept))

        met : (b : Bool) (y z : Option ℕ) → y ≡ z
            → SaysIn (if is_open w.conn n then (if b then None else option_map (reason_with n) z) else None) n w (if b then begun_session k c else closed_for k y c)
        met true y z f =
            says_behind (if is_open w.conn n then None else None) (life_at w.lives n) (life_at c.lives n) (life_at (begun_session k c).lives n) kept (first_none (keeps_close n k c.lives (begun_life (life_at c.lives k)) refl))
          where
            first_none : Says None (life_at c.lives n) (life_at (begun_session k c).lives n)
                → Says (if is_open w.conn n then None else None) (life_at c.lives n) (life_at (begun_session k c).lives n)
            first_none s = subst (λ (o : Option Reason). Says o (life_at c.lives n) (life_at (begun_session k c).lives n)) (sym (no_reason (is_open w.conn n) None refl)) s
        met false y z f = closed y z f
    this e (Some scope.Connection) = at (is_open w.conn n)
      where
        at : (b : Bool) → SaysIn (if b then None else None) n w (fail INTERNAL_ERROR closing_why d)
        at true = fail_says n INTERNAL_ERROR closing_why w d (Stays refl kept)
        at false = fail_says n INTERNAL_ERROR closing_why w d (Stays refl kept)
    this e (Some scope.Channel) =
        subst (λ (b : Bool). SaysIn (if b && is_open w.conn n then Some (reason_with n PRECONDITION_FAILED) else None) n w (fail_life k PRECONDITION_FAILED ending_why closed_path (session_lost k d)))
        (ap (λ (i : ℕ). i == n) e ∙ itself n) (fail_one n k PRECONDITION_FAILED ending_why closed_path w (session_lost k d) refl kept)

    by : (b : Bool) → (k == n) ≡ b
        → SaysIn (if b && is_open w.conn n then reason_scoped (link_scope q payload (session_on w n) (path_at w.paths n)) n q payload (path_at w.paths n) else None) n w
        (with_session k q payload w)
    by true e =
        let is : k ≡ n = grind (arith, nat_tests, e) in
        subst (λ (i : ℕ). SaysIn (if is_open w.conn n then reason_scoped (link_scope q payload (session_on w i) (path_at w.paths i)) n q payload (path_at w.paths n) else None) n w
        (with_session k q payload w)) is (this is (link_scope q payload (session_on w k) (path_at w.paths k)))
    by false e = other e (link_scope q payload (session_on w k) (path_at w.paths k))

-- what the state's session says is what the fold's does
abbrev pub reason_by : State → ℕ → Meaning → Option Reason
reason_by w n (ten.OfSession k q payload) = reason_state w n k q payload
reason_by w n m = None

meaning_says : (n : ℕ) (m : Meaning) (w : State) → SaysIn (reason_by w n m) n w (with_meaning m w)
meaning_says n ten.Nothing w = same _ _ refl
meaning_says n ten.Init w = same _ _ refl
meaning_says n ten.AmqpHeader w = same _ _ refl
meaning_says n ten.Opened w = by (is_opening w.conn)
  where
    by : (b : Bool) → SaysIn None n w (if b then runs w else w)
    by true = same _ _ refl
    by false = same _ _ refl
meaning_says n (ten.OfSession k q payload) w = session_says n k q payload w
meaning_says n (ten.Closed x) w = fail_says n _ _ w w (same _ _ refl)
meaning_says n ten.Refused w = fail_says n _ _ w w (same _ _ refl)
meaning_says n (ten.Violation x) w = fail_says n _ _ w w (same _ _ refl)

pub reasons_same : (n : ℕ) (m : Meaning) (w : State) (o : Peers) → w.conn ≡ o.client → w.paths ≡ o.paths → session_on w n ≡ o.carried n → reason_by w n m ≡ reason_meant o n m
reasons_same n (ten.OfSession k q payload) w o c p s =
    ap (λ (d : Connection). if k == n && is_open d n then reason_scoped (link_scope q payload (session_on w n) (path_at w.paths n)) n q payload (path_at w.paths n) else None) c
    ∙ ap (λ (ps : List (Option PathState)). if k == n && is_open o.client n then reason_scoped (link_scope q payload (session_on w n) (path_at ps n)) n q payload (path_at ps n) else None) p
    ∙ ap (λ (x : SessionState). if k == n && is_open o.client n then reason_scoped (link_scope q payload x (path_at o.paths n)) n q payload (path_at o.paths n) else None) s
reasons_same n ten.Nothing w o c p s = refl
reasons_same n ten.Init w o c p s = refl
reasons_same n ten.AmqpHeader w o c p s = refl
reasons_same n ten.Opened w o c p s = refl
reasons_same n (ten.Closed x) w o c p s = refl
reasons_same n ten.Refused w o c p s = refl
reasons_same n (ten.Violation x) w o c p s = refl

-- ---- units that go

given_says : (n : ℕ) (u : Reply) (ls : List Life) → Says None (life_at ls n) (life_at (without_life u ls) n)
given_says n (reply.ChannelOpenOk k) ls = keeps_close n k ls _ refl
given_says n (reply.ChannelCloseOk k) ls = keeps_close n k ls _ refl
given_says n (reply.CrossedOk k) ls = keeps_close n k ls _ refl
given_says n (reply.ChannelClose k r) ls = one_says None n k ls (record (life_at ls k) { close = None; told = true }) (λ e. Drops refl) (λ d. refl)
given_says n u ls = same _ _ refl

begun_says : (n : ℕ) (u : UpUnit) (ls : List Life) → Says None (life_at ls n) (life_at (without_begin u ls) n)
begun_says n (up.OnSession k u) ls = keeps_close n k ls _ refl
begun_says n (up.Flow k i o) ls = keeps_close n k ls _ refl
begun_says n (up.Begin k) ls = keeps_close n k ls _ refl
begun_says n (up.End k why) ls = keeps_close n k ls _ refl
begun_says n u ls = same _ _ refl

-- ---- all steps

came_says : (n : ℕ) (u : Unit91) (h : List Step) → ArePicks h → SaysIn (reason_at n h (Came u)) n (before h) (before (Came u ∷ h))
came_says n u h p = by (before h).out_of_memory (memory_is k)
  where
    k : Known h
    k = known h p

    w : State
    w = before h

    told_is : client_told w.routes w.conn u ≡ client_told (routes_in h) (connection h) u
    told_is = ap (λ (rs : List Route). client_told rs w.conn u) (routes_are k) ∙ ap (λ (c : Connection). client_told (routes_in h) c u) (conn_is k)

    want_is : want_in w.routes w.paths w.conn u ≡ want_in (routes_in h) (paths_in h) (connection h) u
    want_is =
        ap (λ (rs : List Route). want_in rs w.paths w.conn u) (routes_are k)
        ∙ ap (λ (ps : List (Option PathState)). want_in (routes_in h) ps w.conn u) (paths_are k)
        ∙ ap (λ (c : Connection). want_in (routes_in h) (paths_in h) c u) (conn_is k)

    reason_is : reason_wanted n (client_told w.routes w.conn u) (want_in w.routes w.paths w.conn u)
        ≡ reason_wanted n (client_told (routes_in h) (connection h) u) (want_in (routes_in h) (paths_in h) (connection h) u)
    reason_is = ap (λ (t : Option Told). reason_wanted n t (want_in w.routes w.paths w.conn u)) told_is
        ∙ ap (reason_wanted n (client_told (routes_in h) (connection h) u)) want_is

    by : (b : Bool) → b ≡ ran_out_in h → SaysIn (reason_at n h (Came u)) n w (if b then w else came (dequeued w) u)
    by true e =
        Stays (ap (λ (b : Bool). if b then None else reason_wanted n (client_told (routes_in h) (connection h) u) (want_in (routes_in h) (paths_in h) (connection h) u)) (sym e)) refl
    by false e =
        subst (λ (o : Option Reason). SaysIn o n w (came (dequeued w) u))
        (reason_is ∙ ap (λ (b : Bool). if b then None else reason_wanted n (client_told (routes_in h) (connection h) u) (want_in (routes_in h) (paths_in h) (connection h) u)) e)
        (want_says n w.moment (client_told w.routes w.conn u) (want_in w.routes w.paths w.conn u) w.lives)

heard_says : (n : ℕ) (u : Unit10) (h : List Step) → n < 256 → ArePicks h → SaysIn (reason_at n h (Heard u)) n (before h) (before (Heard u ∷ h))
heard_says n u h less p = by (before h).out_of_memory (memory_is k)
  where
    k : Known h
    k = known h p

    w : State
    w = before h

    v : State
    v = record w { up = heard_up u w.up }

    m : Meaning
    m = meaning_by w.up.container u

    m_is : m ≡ meaning_by (container h) u
    m_is = ap (λ (o : Option Upstream). meaning_by o u) (container_is k)

    reason_is : reason_by v n m ≡ reason_meant (peers h) n (meaning_by (container h) u)
    reason_is = reasons_same n m v (peers h) (conn_is k) (paths_are k) (k.carries n less) ∙ ap (reason_meant (peers h) n) m_is

    by : (b : Bool) → b ≡ ran_out_in h → SaysIn (reason_at n h (Heard u)) n w (if b then w else heard w u)
    by true e = Stays (ap (λ (b : Bool). if b then None else reason_meant (peers h) n (meaning_by (container h) u)) (sym e)) refl
    by false e =
        subst (λ (o : Option Reason). SaysIn o n w (heard w u))
        (reason_is ∙ ap (λ (b : Bool). if b then None else reason_meant (peers h) n (meaning_by (container h) u)) e)
        (meaning_says n m v)

pub step_says : (n : ℕ) (s : Step) (h : List Step) → n < 256 → ArePicks (s ∷ h) → SaysIn (reason_at n h s) n (before h) (before (s ∷ h))
step_says n (Fed Client) h less p = same _ _ refl
step_says n (Silent Up) h less p = fail_says n _ _ (before h) _ (same _ _ refl)
step_says n (Queued u) h less p = by (before h).out_of_memory
  where
    by : (b : Bool) → SaysIn None n (before h) (if b then before h else record (before h) { queue = (before h).queue ++ u ∷ [] })
    by true = same _ _ refl
    by false = same _ _ refl
step_says n (Came u) h less p = came_says n u h p.1
step_says n TakenUp h less p = by (not (before h).out_of_memory && (before h).leaving)
  where
    by : (b : Bool) → SaysIn None n (before h) (if b then left (before h) else before h)
    by true = same _ _ refl
    by false = same _ _ refl
step_says n (Heard u) h less p = heard_says n u h less p.1
step_says n (Joined link.Failed) h less p = fail_says n _ _ (before h) _ (same _ _ refl)
step_says n (Lost Client loss.Ended) h less p = same _ _ refl
step_says n (Lost Up loss.Ended) h less p = fail_says n _ _ (before h) _ (same _ _ refl)
step_says n (Lost Up loss.Failed) h less p = fail_says n _ _ (before h) _ (same _ _ refl)
step_says n (Gave (ToClient u) text) h less p = given_says n u (before h).lives
step_says n (Gave (ToUp u) text) h less p = begun_says n u (before h).lives
step_says n (Whole Client) h less p = same _ _ refl
step_says n s h less p = same _ _ refl

reasons : (n : ℕ) (h : List Step) → n < 256 → ArePicks h → (r : Reason) → (life_at (before h).lives n).close ≡ Some r → reason_in n h ≡ Some r
reasons n [] less p r e = let wrong : None ≡ Some r = sym (ap (λ (l : Life). l.close) (new_at n)) ∙ e in absurd cc
reasons n (s ∷ h) less p r e = by (reasons n h less p.1 r) (step_says n s h less p)
  where
    by : ((life_at (before h).lives n).close ≡ Some r → reason_in n h ≡ Some r) → SaysIn (reason_at n h s) n (before h) (before (s ∷ h)) → reason_in n (s ∷ h) ≡ Some r
    by old (Stays f g) = ap (λ (o : Option Reason). option_or o (reason_in n h)) f ∙ old (sym g ∙ e)
    by old (Drops f) = let wrong : None ≡ Some r = sym f ∙ e in absurd cc
    by old (Tells x f g) = ap (λ (o : Option Reason). option_or o (reason_in n h)) f ∙ sym g ∙ e

-- ---- a channel.close that goes is due

in_range : (ls : List Life) (n : ℕ) (r : Reason) → (life_at ls n).close ≡ Some r → n < length ls
in_range [] n r e = absurd cc
in_range (x ∷ ls) zero r e = omega arith
in_range (x ∷ ls) (suc n) r e = let less : n < length ls = in_range ls n r e in omega (arith, less)

abbrev pub IsDueClose : List Life → Reply → Type 0
IsDueClose ls (reply.ChannelClose k r) = (life_at ls k).close ≡ Some r
IsDueClose ls u = Unit {0}

due_answer : (ls : List Life) (u : Reply) → is_answer u ≡ true → IsDueClose ls u
due_answer ls (reply.ChannelClose k r) e = absurd cc
due_answer ls u e = tt

due_when : (ls : List Life) (b : Bool) (u v : Reply) → IsDueClose ls u → first (when b u) ≡ Some v → IsDueClose ls v
due_when ls true u v d e = let here : u ≡ v = cc in subst (IsDueClose ls) here d
due_when ls false u v d e = absurd cc

due_ok : (ls : List Life) (k : ℕ) (b c : Bool) (v : Reply) → first (when b (reply.CrossedOk k) ++ when c (reply.ChannelCloseOk k)) ≡ Some v → IsDueClose ls v
due_ok ls k true c v e = let here : reply.CrossedOk k ≡ v = cc in subst (IsDueClose ls) here tt
due_ok ls k false c v e = due_when ls c (reply.ChannelCloseOk k) v tt e

due_refused : (ls : List Life) (b : Bool) (k : ℕ) (o : Option Reason) (v : Reply) → (life_at ls k).close ≡ o → first (refused_on b k o) ≡ Some v → IsDueClose ls v
due_refused ls b k None v f e = absurd cc
due_refused ls b k (Some r) v f e = due_when ls b (reply.ChannelClose k r) v f e

due_on : (w : State) (r : Reply) → IsOfChannel w r → IsDueClose w.lives r
due_on w r (InOpen (OnOpen k u e)) = subst (IsDueClose w.lives) e tt
due_on w r (InOpenOks e) =
    first_at (IsDueClose w.lives) (λ (n : ℕ) (l : Life). when l.open_ok (reply.ChannelOpenOk n)) w.lives r
    (λ k v f. due_when w.lives (life_at w.lives k).open_ok (reply.ChannelOpenOk k) v tt f) e
due_on w r (InOks e) =
    first_at (IsDueClose w.lives) (λ (n : ℕ) (l : Life). close_oks_on n (l.close_ok && is_channel_settled w n) l) w.lives r
    (λ k v f. due_ok w.lives k (life_at w.lives k).crossed_ok _ v f) e
due_on w r (InCloses e) =
    first_at (IsDueClose w.lives) (λ (n : ℕ) (l : Life). refused_on (is_channel_settled w n) n l.close) w.lives r
    (λ k v f. due_refused w.lives _ k (life_at w.lives k).close v refl f) e

pub due_picked : (h : List Step) (r : Reply) → ArePicks h → Picked (before h) r → IsDueClose (before h).lives r
due_picked h r p (IsDue x) = due_answer (before h).lives r (first_due (is_settled (before h)) (before h).pending r (calm_now h p) x).answers
due_picked h r p (OnChannel x) = due_on (before h) r x
due_picked h r p (Beats none due is) = subst (IsDueClose (before h).lives) (sym is) tt

may_say : (h : List Step) (u : Reply) → ArePicks h → IsDueClose (before h).lives u → MaySay h u
may_say h (reply.ChannelClose n r) p e =
    reasons n h (subst (λ (m : ℕ). n < m) (lives_all h p) (in_range (before h).lives n r e)) p r e
may_say h u p e = tt

pub says_why : (h : List Step) → ArePicks h → SaysWhy h
says_why [] p = tt
says_why (Gave (ToClient u) text ∷ h) p = (may_say h u p.1 (due_picked h u p.1 (picked (before h) u p.0.1)), says_why h p.1)
says_why (s ∷ h) p = says_why h p.1

-- ---- each reason has one channel.close at most

abbrev Counted : ℕ → List Step → Type 0
Counted n h = went_in (is_close_on n) h + one_if (is_some (life_at (before h).lives n).close) ≤ reasons_in n h

-- one is due more only where the step has a reason
due_more : (o : Option Reason) (l m : Life) → Says o l m → one_if (is_some m.close) ≤ one_if (is_some l.close) + one_if (is_some o)
due_more o l m (Stays f g) = let e : one_if (is_some m.close) ≡ one_if (is_some l.close) = ap (λ (x : Option Reason). one_if (is_some x)) g in omega (arith, e)
due_more o l m (Drops f) = let e : one_if (is_some m.close) ≡ 0 = ap (λ (x : Option Reason). one_if (is_some x)) f in omega (arith, e)
due_more o l m (Tells r f g) =
    let e : one_if (is_some m.close) ≡ 1 = ap (λ (x : Option Reason). one_if (is_some x)) g in
    let i : one_if (is_some o) ≡ 1 = ap (λ (x : Option Reason). one_if (is_some x)) f in omega (arith, e, i)

counted_on : (n : ℕ) (s : Step) (h : List Step) → n < 256 → ArePicks (s ∷ h) → went_in (is_close_on n) (s ∷ h) ≡ went_in (is_close_on n) h → Counted n h → Counted n (s ∷ h)
counted_on n s h less p e old =
    let more : one_if (is_some (life_at (before (s ∷ h)).lives n).close) ≤ one_if (is_some (life_at (before h).lives n).close) + one_if (is_some (reason_at n h s)) =
    due_more _ _ _ (step_says n s h less p) in
    omega (arith, e, more, old)

-- one that goes is due no more
pub close_gone : (n : ℕ) (ls : List Life) → (life_at (with_life n (record (life_at ls n) { close = None; told = true }) ls) n).close ≡ None
close_gone n ls = by (set_at ls n n (record (life_at ls n) { close = None; told = true }))
  where
    by : SetAt ls n n (record (life_at ls n) { close = None; told = true }) → (life_at (with_life n (record (life_at ls n) { close = None; told = true }) ls) n).close ≡ None
    by (Here e f) = ap (λ (x : Life). x.close) f
    by (Elsewhere d f) = absurd (d refl)
    by (Beyond e f g) = ap (λ (x : Life). x.close) g

-- a unit that is none of channel n, and one that is
pub data IsClose (n : ℕ) : Reply → Type 0 where
  Closes : (r : Reason) → IsClose n (reply.ChannelClose n r)
  Others : (u : Reply) → is_close_on n u ≡ false → IsClose n u

pub is_close : (n : ℕ) (u : Reply) → IsClose n u
is_close n (reply.ChannelClose k r) = by (k == n) refl
  where
    by : (b : Bool) → (k == n) ≡ b → IsClose n (reply.ChannelClose k r)
    by true e = let is : k ≡ n = grind (arith, nat_tests, e) in subst (λ (i : ℕ). IsClose n (reply.ChannelClose i r)) (sym is) (Closes r)
    by false e = Others (reply.ChannelClose k r) e
is_close n u = Others u refl

given_counted : (n : ℕ) (h : List Step) (u : Reply) (text : List ℕ) → n < 256 → ArePicks (Gave (ToClient u) text ∷ h) → IsDueClose (before h).lives u → Counted n h
    → Counted n (Gave (ToClient u) text ∷ h)
given_counted n h u text less p due old = by u (is_close n u) p due
  where
    by : (u : Reply) → IsClose n u → ArePicks (Gave (ToClient u) text ∷ h) → IsDueClose (before h).lives u → Counted n (Gave (ToClient u) text ∷ h)
    by _ (Closes r) q d =
        let was : one_if (is_some (life_at (before h).lives n).close) ≡ 1 = ap (λ (x : Option Reason). one_if (is_some x)) d in
        let is : one_if (is_some (life_at (before (Gave (ToClient (reply.ChannelClose n r)) text ∷ h)).lives n).close) ≡ 0 =
        ap (λ (x : Option Reason). one_if (is_some x)) (close_gone n (before h).lives) in
        let one : one_if (n == n) ≡ 1 = ap one_if (itself n) in
        omega (arith, was, is, one, old)
    by u (Others x e) q d =
        let none : one_if (is_close_on n u) ≡ 0 = ap one_if e in
        counted_on n (Gave (ToClient u) text) h less q (omega (arith, none)) old

counted : (n : ℕ) (h : List Step) → n < 256 → ArePicks h → Counted n h
counted n [] less p = let none : one_if (is_some (life_at no_lives n).close) ≡ 0 = ap (λ (l : Life). one_if (is_some l.close)) (new_at n) in omega (arith, none)
counted n (Gave (ToClient u) text ∷ h) less p =
    given_counted n h u text less p (due_picked h u p.1 (picked (before h) u p.0.1)) (counted n h less p.1)
counted n (Gave (ToUp u) text ∷ h) less p = counted_on n (Gave (ToUp u) text) h less p refl (counted n h less p.1)
counted n (s ∷ h) less p = counted_on n s h less p refl (counted n h less p.1)

pub closes_once : (h : List Step) → ArePicks h → ClosesOnce h
closes_once h p n less = let x : Counted n h = counted n h less p in omega (arith, x)
