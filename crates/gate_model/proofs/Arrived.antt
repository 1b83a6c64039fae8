-- Nothing arrived in a life whose session the container didn't begin; and no channel is open whose session it ended.
use Rattle.std.proofs.Common.{◌≡◌, ℕ, ◌+◌, ◌==◌, ◌<◌, ◌⊎◌, inl, inr, ◌&&◌, ◌||◌, not, Bool, true, false}
use Rattle.std.proofs.Common.{if◌then◌else◌, List, [], ◌∷◌, ◌++◌, length, Option, None, Some}
use Rattle.std.proofs.Common.{refl, sym, ap, ◌∙◌, subst, zero, suc, replicate}
use Rattle.std.proofs.lemmas.List.Folds.{list_any-append}
use Rattle.std.specs.List.{list_any}
use Rattle.std.specs.Prelude.{is_some, slice_get}
use Rattle.close_translate.specs.Conditions.{condition_of}
use Rattle.consume_path.specs.Deliveries as on
use Rattle.consume_path.specs.Deliveries.{DeliveryEvent}
use Rattle.consume_path.specs.Journal.{arrives as comes, numbers_of}
use Rattle.gate_outside.specs.declared.ports.End.TheVariants.{Client, Up}
use Rattle.gate_outside.specs.declared.ports.Linked.TheVariants as link
use Rattle.gate_relay.specs.declared.loss.Loss.TheVariants as loss
use Rattle.machine_091.specs.State.{channel_at, is_closing, is_open, is_open_channel, is_running, new_connection}
use Rattle.machine_091.specs.declared.state.Phase91.{Phase91}
use Rattle.machine_091.specs.Transitions as machine
use Rattle.machine_091.specs.declared.state.Connection.{Connection}
use Rattle.machine_091.specs.declared.unit.Unit91.{Unit91}
use Rattle.machine_091.specs.declared.unit.Want91.{Want91}
use Rattle.machine_091.specs.declared.unit.Want91.TheVariants as want
use Rattle.machine_091.proofs.ChannelSteps.{method_opens, opens_by}
use Rattle.machine_10.specs.Calls.{asked as asks_on, left as leaves_on, may_begin}
use Rattle.machine_10.specs.State.{no_sessions, or_free, session_at, with_session as with_session_at}
use Rattle.machine_10.specs.Transitions.{Meaning}
use Rattle.machine_10.specs.declared.state.Session.{Session}
use Rattle.machine_10.specs.declared.state.Session.TheVariants as session
use Rattle.machine_10.specs.declared.state.Upstream.{Upstream}
use Rattle.machine_10.specs.declared.unit.Unit10.{Unit10}
use Rattle.machine_10.proofs.SessionSteps.{is_asked, is_ended, is_live, set_either}
use Rattle.methods_091.specs.declared.method.Method91.{Method91}
use Rattle.methods_091.specs.declared.method.Method91.TheVariants as method
use Rattle.performatives_10.specs.declared.condition.Condition.{Condition}
use Rattle.property_map.specs.declared.told.Told.{Told}
use Rattle.session_path.specs.Events as event
use Rattle.session_path.specs.Events.{PathEvent, after_events, deliveries_of, delivery_events}
use Rattle.session_path.specs.Path.{PathState}
use Rattle.gate_model.specs.Due.{is_end_due, pick, up_rows}
use Rattle.gate_model.specs.Folds.{connection, container, going_in, leaving_in, paths_in, peers, ran_out_in, routes_in}
use Rattle.gate_model.specs.Lives.{asked_life, closed_life, failed_life, freed_life, is_begun}
use Rattle.gate_model.specs.Lives.{is_free, is_of_channel, life_at, lives_by, method_life, no_lives, reason_of, session_in, with_life}
use Rattle.gate_model.specs.Lives.{is_ended as is_ended_session}
use Rattle.gate_model.specs.Once.{is_channel_open, is_method_on}
use Rattle.gate_model.specs.Picks.{ArePicks}
use Rattle.gate_model.specs.Publishing.{closed_if, failing, losing, losing_up, meaning_events, path_events, path_life, reply_events}
use Rattle.gate_model.specs.Publishing.{up_events, want_events, wrote_events}
use Rattle.gate_model.specs.Requests.{client_step, client_told}
use Rattle.gate_model.specs.State.{Began, Came, Fed, Gave, Heard, Joined, Lost, Moment}
use Rattle.gate_model.specs.State.{OutOfMemory, Queued, Silent, State, Step, TakenUp, Whole, before, came, close_if}
use Rattle.gate_model.specs.State.{conn_given, conn_step, dequeued, gave, heard, is_later, is_limit_reached, keep_login, left}
use Rattle.gate_model.specs.State.{next_unit, want_in, with_meaning, without_life, condition_by}
use Rattle.gate_model.specs.Upstream.{sessions_given, UpState, closing_with, container_by, container_given, ended_in, heard_up, meaning_by}
use Rattle.gate_model.specs.declared.life.Life.{Life}
use Rattle.gate_model.specs.declared.outgoing.Outgoing.TheVariants.{ToClient, ToUp}
use Rattle.gate_model.specs.declared.outgoing.UpUnit.{UpUnit}
use Rattle.gate_model.specs.declared.outgoing.UpUnit.TheVariants as up
use Rattle.gate_model.specs.declared.reply.Reply.{Reply}
use Rattle.gate_model.specs.declared.reply.Reply.TheVariants as reply
use Rattle.gate_model.specs.declared.setup.Route.{Route}
use Rattle.gate_model.proofs.Basics.{both_true, none_any, or_left, right_false}
use Rattle.gate_model.proofs.Channels.{client_opens, given_open}
use Rattle.gate_model.proofs.Brought.{OfEvent, event_all, is_mild}
use Rattle.gate_model.proofs.Clear.{open_lives, opens_unended, want_is}
use Rattle.gate_model.proofs.Closed.{is_late, late_is, long_is, want_begins}
use Rattle.gate_model.proofs.Connections.{clash, close_closes, closing_only, only_given, step_closes}
use Rattle.gate_model.proofs.Firsts.{is_free as is_free_unit, of_up, session_by, up_rows_by}
use Rattle.gate_model.proofs.Known.{Known, conn_is, container_is, known, memory_is}
use Rattle.gate_model.proofs.Outcomes.{Outcome, LogsIn, Refuses, Declines, Drops, Parting, Closes, outcome}
use Rattle.gate_model.proofs.Places.{Beyond, Elsewhere, Here, SetAt, isnt, new_at, set_at}
use Rattle.gate_model.proofs.Said.{shuts_in}
use Rattle.gate_model.proofs.Moves.{Apart, Moves, NoBegin, There, Waits, arrives, begins_at, both, fail_moves, have_come, keeps_begin}
use Rattle.gate_model.proofs.Moves.{moved, moves, no_begin, same_eq, shut_moves, stays_shut}
use Rattle.gate_model.proofs.Comings.{EndHeard, TransferHeard, closed_none, end_shuts, heard_waits, meaning_come, meaning_moves}
use Rattle.gate_model.proofs.Comings.{re_session, reply_none, tells_of, up_none, want_none, wrote_none}

-- ---- a unit of the client

-- it closes the connection
abbrev pub ends_all : Want91 → Bool
ends_all want.Close = true
ends_all (want.Refuse r) = not (is_of_channel r)
ends_all x = false

pub unit_shuts : (rs : List Route) (ps : List (Option PathState)) (c : Connection) (u : Unit91) → ends_all (want_in rs ps c u) ≡ true → is_closing (conn_step rs ps c u) ≡ true
unit_shuts rs ps c u = by (client_step rs ps c u) (outcome rs ps c u)
  where
    by : (x : machine.Step) → Outcome c u x → ends_all x.1 ≡ true → is_closing x.0 ≡ true
    by _ (Refuses r a f e g) k = refl
    by _ (Declines r d o e g) k = close_closes d.phase
    by _ (Drops r d o e g) k = absurd (clash _ k (ap not g))
    by _ (Parting e) k = refl
    by _ (Closes e) k = refl
    by _ x k = absurd cc

-- a channel that is opened by no unit was open
still_by : (n : ℕ) (x : Want91) (b : Bool) → is_method_on is_channel_open n x ≡ false → opens_by n x b ≡ true → b ≡ true
still_by n (want.Method k m) b e f = by (k == n) m e f
  where
    by : (a : Bool) (m : Method91) → (a && is_channel_open m) ≡ false → (if a then method_opens m b else b) ≡ true → b ≡ true
    by false m e f = f
    by true method.ChannelOpen e f = absurd cc
    by true (method.ChannelClose code text class id) e f = absurd cc
    by true m e f = f
still_by n want.Close b e f = absurd cc
still_by n (want.Refuse r) b e f = by (is_of_channel r) (r.channel == n) f
  where
    by : (a d : Bool) → (if a then (if d then false else b) else false) ≡ true → b ≡ true
    by true true f = absurd cc
    by true false f = f
    by false d f = absurd cc
still_by n x b e f = f

-- where a begin is due still, it was, and the channel stays open or the connection closes
record StillDue (n : ℕ) (x : Want91) (ls : List Life) : Type 0 where
  was : (life_at ls n).begin ≡ true
  on : (opens_by n x true ≡ true) ⊎ (ends_all x ≡ true)

due_apart : (n k : ℕ) (x : Want91) (ls : List Life) (l : Life) → ((k == n) ≡ false → opens_by n x true ≡ true) → l.begin ≡ false
    → (life_at (with_life k l ls) n).begin ≡ true → StillDue n x ls
due_apart n k x ls l elsewhere none e = by (no_begin ls k n l none)
  where
    by : NoBegin ls k n l → StillDue n x ls
    by (There s f) = absurd (clash _ e f)
    by (Apart d f) = record { was = ap (λ (y : Life). y.begin) (sym f) ∙ e; on = inl (elsewhere (isnt k n d)) }

if_false : (b x y : Bool) → b ≡ false → y ≡ true → (if b then x else y) ≡ true
if_false true x y e f = absurd cc
if_false false x y e f = f

if_one : (b : Bool) → (if b then true else true) ≡ true
if_one true = refl
if_one false = refl

method_due : (n k ms : ℕ) (m : Method91) (ls : List Life) → is_method_on is_channel_open n (want.Method k m) ≡ false
    → (life_at (with_life k (method_life ms m (life_at ls k)) ls) n).begin ≡ true → StillDue n (want.Method k m) ls
method_due n k ms (method.ChannelClose code text class id) ls e f =
    due_apart n k (want.Method k (method.ChannelClose code text class id)) ls (closed_life ms (life_at ls k)) (λ g. if_false (k == n) false true g refl) refl f
method_due n k ms method.ChannelOpen ls e f = by (set_at ls k n (asked_life (life_at ls k)))
  where
    by : SetAt ls k n (asked_life (life_at ls k)) → StillDue n (want.Method k method.ChannelOpen) ls
    by (Here s g) = absurd (clash _ (ap (λ (b : Bool). b && true) (same_eq k n s)) e)
    by (Elsewhere d g) = record { was = ap (λ (y : Life). y.begin) (sym g) ∙ f; on = inl (if_one (k == n)) }
    by (Beyond s g h) = absurd (clash _ (ap (λ (b : Bool). b && true) (same_eq k n s)) e)
method_due n k ms m ls e f = record { was = sym (keeps_begin n k ls (life_at ls k) refl) ∙ f; on = inl (if_one (k == n)) }

want_due : (n ms : ℕ) (told : Option Told) (x : Want91) (ls : List Life) → is_method_on is_channel_open n x ≡ false
    → (life_at (lives_by ms told x ls) n).begin ≡ true → StillDue n x ls
want_due n ms told (want.Method k m) ls e f = method_due n k ms m ls e f
want_due n ms told (want.ChannelCloseOk k) ls e f = due_apart n k (want.ChannelCloseOk k) ls (freed_life (life_at ls k)) (λ g. refl) refl f
want_due n ms told want.Close ls e f = record { was = f; on = inr refl }
want_due n ms told (want.Refuse r) ls e f = by (is_of_channel r) refl f
  where
    l : Life
    l = failed_life false ms (reason_of told r) (Some (condition_of r.code)) (life_at ls r.channel)

    by : (b : Bool) → is_of_channel r ≡ b → (life_at (if b then with_life r.channel l ls else ls) n).begin ≡ true → StillDue n (want.Refuse r) ls
    by true g h =
        due_apart n r.channel (want.Refuse r) ls l
        (λ x. ap (λ (a : Bool). if a then (if r.channel == n then false else true) else false) g ∙ if_false (r.channel == n) false true x refl) refl h
    by false g h = record { was = h; on = inr (ap not g) }
want_due n ms told x ls e f = record { was = f; on = inl refl }

pub none_session : (n : ℕ) → or_free (slice_get no_sessions n) ≡ session.Free
unfolding no_sessions
none_session n = at 256 n
  where
    at : (k n : ℕ) → or_free (slice_get (replicate k session.Free) n) ≡ session.Free
    at zero n = refl
    at (suc k) zero = refl
    at (suc k) (suc n) = at k n

abbrev is_login : Want91 → Bool
is_login (want.Login mechanism response) = true
is_login x = false

-- a login comes before any channel is open
unit_login : (n : ℕ) (rs : List Route) (ps : List (Option PathState)) (c : Connection) (u : Unit91) → is_login (want_in rs ps c u) ≡ true → is_open c n ≡ false
unit_login n rs ps c u = by (client_step rs ps c u) (outcome rs ps c u)
  where
    by : (x : machine.Step) → Outcome c u x → is_login x.1 ≡ true → is_open c n ≡ false
    by _ (LogsIn m r e) k = ap (λ (p : Phase91). is_running p && is_open_channel (channel_at c n)) e
    by _ x k = absurd cc

abbrev Kept : ℕ → Want91 → UpState → UpState → Type 0
Kept n x s t = (session_in t.container n ≡ session_in s.container n) ⊎ ((session_in t.container n ≡ session.Free) × (is_login x ≡ true))

login_kept : (n : ℕ) (b : Bool) (why : Option Condition) (x : Want91) (s : UpState) → Kept n x s (closing_with b why (keep_login x s))
login_kept n true why (want.Login mechanism response) s = inr (none_session n, refl)
login_kept n false why (want.Login mechanism response) s = inr (none_session n, refl)
login_kept n true why want.Nothing s = inl refl
login_kept n false why want.Nothing s = inl refl
login_kept n true why want.Start s = inl refl
login_kept n false why want.Start s = inl refl
login_kept n true why want.Tuned s = inl refl
login_kept n false why want.Tuned s = inl refl
login_kept n true why want.OpenUp s = inl refl
login_kept n false why want.OpenUp s = inl refl
login_kept n true why (want.Method k m) s = inl refl
login_kept n false why (want.Method k m) s = inl refl
login_kept n true why (want.Publish k m c) s = inl refl
login_kept n false why (want.Publish k m c) s = inl refl
login_kept n true why (want.ChannelCloseOk k) s = inl refl
login_kept n false why (want.ChannelCloseOk k) s = inl refl
login_kept n true why want.Close s = inl refl
login_kept n false why want.Close s = inl refl
login_kept n true why want.CloseOk s = inl refl
login_kept n false why want.CloseOk s = inl refl
login_kept n true why (want.Refuse r) s = inl refl
login_kept n false why (want.Refuse r) s = inl refl

ended_in_state : (s : Session) → is_ended s ≡ true → is_ended_session s ≡ true
ended_in_state (session.Ended m) e = refl
ended_in_state x e = absurd cc

came_waits : (n : ℕ) (w : State) (u : Unit91) (there : Bool) (xs es : List PathEvent) → n < length w.conn.channels → have_come xs ≡ false
    → Waits n w.conn w.up.container (begins_at w n) there (have_come es)
    → (is_method_on is_channel_open n (want_in w.routes w.paths w.conn u) ≡ true → is_ended_session (session_in w.up.container n) ≡ false)
    → (o : Bool) → is_method_on is_channel_open n (want_in w.routes w.paths w.conn u) ≡ o
    → Waits n (came (dequeued w) u).conn (came (dequeued w) u).up.container (begins_at (came (dequeued w) u) n) (if o then true else there)
    (have_come (if o then [] else xs ++ es))
came_waits n w u there xs es less quiet f left true e = record {
  asked = λ a. refl;
  ended = λ a t. absurd (unended (login_kept n (is_closing w.conn) (condition_by x) x w.up) a);
  begins = λ a b c. refl;
  opens = λ b. or_right (is_closing d) (is ∙ want_begins n x (is_open w.conn n) e);
}
  where
    x : Want91
    x = want_in w.routes w.paths w.conn u

    d : Connection
    d = conn_step w.routes w.paths w.conn u

    -- a channel is opened where the container's end doesn't wait for the gateway's
    unended : Kept n x w.up (came (dequeued w) u).up → is_ended (session_in (came (dequeued w) u).up.container n) ≡ true → ⊥
    unended (inl s) a = clash _ (ended_in_state _ (ap is_ended (sym s) ∙ a)) (left e)
    unended (inr s) a = clash _ a (ap is_ended s.0)

    is : is_open d n ≡ opens_by n x (is_open w.conn n)
    is = (client_opens n w.routes w.paths w.conn u).is less

    or_right : (a : Bool) {b : Bool} → b ≡ true → (a || b) ≡ true
    or_right true g = refl
    or_right false g = g
came_waits n w u there xs es less quiet f left false e =
    subst (λ (b : Bool). Waits n d v.up.container (begins_at v n) there b) (sym (list_any-append arrives xs es ∙ ap (λ (b : Bool). b || have_come es) quiet))
    (by (login_kept n (is_closing w.conn) (condition_by x) x w.up))
  where
    x : Want91
    x = want_in w.routes w.paths w.conn u

    d : Connection
    d = conn_step w.routes w.paths w.conn u

    v : State
    v = came (dequeued w) u

    is : is_open d n ≡ opens_by n x (is_open w.conn n)
    is = (client_opens n w.routes w.paths w.conn u).is less

    due : begins_at v n ≡ true → StillDue n x w.lives
    due b = want_due n w.moment (client_told w.routes w.conn u) x w.lives e b

    unclosed : is_closing d ≡ false → is_closing w.conn ≡ false
    unclosed c = at (is_closing w.conn) refl
      where
        at : (b : Bool) → is_closing w.conn ≡ b → b ≡ false
        at true g = absurd (clash _ (step_closes w.routes w.paths w.conn u g) c)
        at false g = refl

    opens : begins_at v n ≡ true → (is_closing d || is_open d n) ≡ true
    opens b = at (due b).on
      where
        closing_or : (a z : Bool) → is_closing w.conn ≡ a → is_open w.conn n ≡ z → (a || z) ≡ true → opens_by n x true ≡ true → (is_closing d || is_open d n) ≡ true
        closing_or true z g h i j = or_left _ _ (step_closes w.routes w.paths w.conn u g)
        closing_or false true g h i j = or_right (is_closing d) (is ∙ ap (opens_by n x) h ∙ j)
          where
            or_right : (a : Bool) {b : Bool} → b ≡ true → (a || b) ≡ true
            or_right true g = refl
            or_right false g = g
        closing_or false false g h i j = absurd cc

        at : (opens_by n x true ≡ true) ⊎ (ends_all x ≡ true) → (is_closing d || is_open d n) ≡ true
        at (inl j) = closing_or (is_closing w.conn) (is_open w.conn n) refl refl (f.opens (due b).was) j
        at (inr j) = or_left _ _ (unit_shuts w.routes w.paths w.conn u j)

    by : Kept n x w.up v.up → Waits n d v.up.container (begins_at v n) there (have_come es)
    by (inl s) = record {
      asked = λ a. f.asked (ap is_asked (sym s) ∙ a);
      ended = λ a t. stays_shut (is_open d n) refl (λ b. still_by n x (is_open w.conn n) e (sym is ∙ b)) (f.ended (ap is_ended (sym s) ∙ a) t);
      begins = λ c b l. f.begins (unclosed c) (due b).was (ap is_live (sym s) ∙ l);
      opens = opens;
    }
    by (inr s) = record {
      asked = λ a. absurd (clash _ a (ap is_asked s.0));
      ended = λ a t. absurd (clash _ a (ap is_ended s.0));
      begins = λ c b l. fresh c b;
      opens = opens;
    }
      where
        open_now : (a z : Bool) → a ≡ false → (a || z) ≡ true → z ≡ true
        open_now true z g h = absurd cc
        open_now false z g h = h

        fresh : is_closing d ≡ false → begins_at v n ≡ true → have_come es ≡ false
        fresh c b = absurd (clash _ (still_by n x (is_open w.conn n) e (sym is ∙ open_now (is_closing d) (is_open d n) c (opens b))) (unit_login n w.routes w.paths w.conn u s.1))

-- ---- a unit of the gateway to the container

-- a begin goes where one is due and the session is free, and an end where that is due
pub record BeginGoes (w : State) (k : ℕ) : Type 0 where
  pub running : is_closing w.conn ≡ false
  pub due : begins_at w k ≡ true
  pub free : is_free (session_in w.up.container k) ≡ true

abbrev pub MayGo : State → UpUnit → Type 0
MayGo w (up.Begin k) = BeginGoes w k
MayGo w (up.End k why) = is_end_due (w.out_of_memory || is_closing w.conn) w k ≡ true
MayGo w u = Unit {0}

pub may_go : (w : State) (u : UpUnit) → pick w Up ≡ Some (ToUp u) → MayGo w u
may_go w u e =
    of_up (MayGo w) (up_rows w) u
    (up_rows_by (MayGo w) w (record {
      free = free;
      begin = λ n c g. let b = both_true (begins_at w n) (is_free (session_in w.up.container n)) g in
          record { running = right_false w.out_of_memory (is_closing w.conn) c; due = b.0; free = b.1 };
      last = λ n less g. g;
      session = session_by (MayGo w) w (record {
        attach = λ n a x. tt;
        flow = λ n f x. tt;
        transfer = λ n f x. tt;
        dispose = λ n a x. tt;
        settle = λ n a x. tt;
        detach = λ n l x. tt;
      }) free;
    })) e
  where
    free : (u : UpUnit) → is_free_unit u ≡ true → MayGo w u
    free (up.Begin k) f = absurd cc
    free (up.End k why) f = absurd cc
    free u f = tt

free_is : (s : Session) → is_free s ≡ true → s ≡ session.Free
free_is session.Free e = refl
free_is x e = absurd cc

begin_session : (n k : ℕ) (o : Option Upstream) → is_free (session_in o k) ≡ true
    → (session_in (container_given (up.Begin k) o) n ≡ session_in o n) ⊎ ((k ≡ n) × (session_in (container_given (up.Begin k) o) n ≡ session.Asked))
begin_session n k None e = inl refl
begin_session n k (Some c) e = by (may_begin c k)
  where
    set : ((k ≡ n) × (session_at (with_session_at c k session.Asked) n ≡ session.Asked)) ⊎ (session_at (with_session_at c k session.Asked) n ≡ session_at c n)
    set = set_either c.sessions k n session.Asked

    at : (s : Session) → s ≡ session.Free → (session_at (asks_on s k c) n ≡ session_at c n) ⊎ ((k ≡ n) × (session_at (asks_on s k c) n ≡ session.Asked))
    at s f = subst (λ (x : Session). (session_at (asks_on x k c) n ≡ session_at c n) ⊎ ((k ≡ n) × (session_at (asks_on x k c) n ≡ session.Asked))) (sym f) (swap set)
      where
        swap : ((k ≡ n) × (session_at (with_session_at c k session.Asked) n ≡ session.Asked)) ⊎ (session_at (with_session_at c k session.Asked) n ≡ session_at c n)
            → (session_at (with_session_at c k session.Asked) n ≡ session_at c n) ⊎ ((k ≡ n) × (session_at (with_session_at c k session.Asked) n ≡ session.Asked))
        swap (inl x) = inr x
        swap (inr x) = inl x

    by : (b : Bool) → (session_at (if b then asks_on (session_at c k) k c else c) n ≡ session_at c n)
        ⊎ ((k ≡ n) × (session_at (if b then asks_on (session_at c k) k c else c) n ≡ session.Asked))
    by true = at (session_at c k) (free_is (session_at c k) e)
    by false = inl refl

-- after the gateway's end it is neither asked for nor ended
record Gone (s : Session) : Type 0 where
  asked : is_asked s ≡ false
  ended : is_ended s ≡ false

end_session : (n k : ℕ) (o : Option Upstream)
    → (session_in (container_given (up.End k None) o) n ≡ session_in o n) ⊎ ((k ≡ n) × Gone (session_in (container_given (up.End k None) o) n))
end_session n k None = inl refl
end_session n k (Some c) = by (session_at c k)
  where
    set : (s : Session) → Gone s → (session_at (with_session_at c k s) n ≡ session_at c n) ⊎ ((k ≡ n) × Gone (session_at (with_session_at c k s) n))
    set s g = swap (set_either c.sessions k n s)
      where
        swap : ((k ≡ n) × (session_at (with_session_at c k s) n ≡ s)) ⊎ (session_at (with_session_at c k s) n ≡ session_at c n)
            → (session_at (with_session_at c k s) n ≡ session_at c n) ⊎ ((k ≡ n) × Gone (session_at (with_session_at c k s) n))
        swap (inl x) = inr (x.0, subst Gone (sym x.1) g)
        swap (inr x) = inl x

    by : (s : Session) → (session_at (leaves_on s k c) n ≡ session_at c n) ⊎ ((k ≡ n) × Gone (session_at (leaves_on s k c) n))
    by session.Free = inl refl
    by session.Asked = set session.Left (record { asked = refl; ended = refl })
    by session.Left = inl refl
    by (session.Open m) = set (session.Leaving m) (record { asked = refl; ended = refl })
    by (session.Leaving m) = inl refl
    by (session.Ended m) = set session.Free (record { asked = refl; ended = refl })

live_not_free : (s : Session) → s ≡ session.Free → is_live s ≡ false
live_not_free s e = ap is_live e

live_begun : (s : Session) → is_live s ≡ true → (is_ended_session s ≡ false) × (is_begun s ≡ true)
live_begun (session.Open m) e = (refl, refl)
live_begun x e = absurd cc

gave_waits : (n : ℕ) (w : State) (u : UpUnit) (there : Bool) (xs es : List PathEvent) → (w.out_of_memory ≡ true → is_closing w.conn ≡ true) → MayGo w u
    → have_come xs ≡ false → Waits n w.conn w.up.container (begins_at w n) there (have_come es)
    → Waits n (gave w (ToUp u)).conn (gave w (ToUp u)).up.container (begins_at (gave w (ToUp u)) n) there (have_come (xs ++ es))
gave_waits n w u there xs es memory go quiet f =
    subst (λ (b : Bool). Waits n v.conn v.up.container (begins_at v n) there b) (sym (list_any-append arrives xs es ∙ ap (λ (b : Bool). b || have_come es) quiet)) (by u go)
  where
    v : State
    v = gave w (ToUp u)

    After : UpUnit → Type 0
    After x = Waits n w.conn (gave w (ToUp x)).up.container (begins_at (gave w (ToUp x)) n) there (have_come es)

    -- the session and what is due stay
    same : (x : UpUnit) → session_in (container_given x w.up.container) n ≡ session_in w.up.container n
        → (begins_at (gave w (ToUp x)) n ≡ true → begins_at w n ≡ true) → After x
    same x s b = record {
      asked = λ e. f.asked (ap is_asked (sym s) ∙ e);
      ended = λ e t. f.ended (ap is_ended (sym s) ∙ e) t;
      begins = λ c e l. f.begins c (b e) (ap is_live (sym s) ∙ l);
      opens = λ e. f.opens (b e);
    }

    sessions : (x : UpUnit) → ((c : Upstream) → sessions_given x c ≡ c) → session_in (container_given x w.up.container) n ≡ session_in w.up.container n
    sessions x g = at w.up.container
      where
        at : (o : Option Upstream) → session_in (container_given x o) n ≡ session_in o n
        at None = refl
        at (Some c) = ap (λ (d : Upstream). session_at d n) (g c)

    begin : (k : ℕ) → BeginGoes w k → After (up.Begin k)
    begin k g = at (begin_session n k w.up.container g.free)
      where
        l : Life
        l = record (life_at w.lives k) { begin = false }

        was : begins_at (gave w (ToUp (up.Begin k))) n ≡ true → begins_at w n ≡ true
        was e = due (no_begin w.lives k n l refl)
          where
            due : NoBegin w.lives k n l → begins_at w n ≡ true
            due (There s h) = absurd (clash _ e h)
            due (Apart d h) = ap (λ (x : Life). x.begin) (sym h) ∙ e

        none : k ≡ n → begins_at (gave w (ToUp (up.Begin k))) n ≡ true → ⊥
        none s e = due (no_begin w.lives k n l refl)
          where
            due : NoBegin w.lives k n l → ⊥
            due (There t h) = clash _ e h
            due (Apart d h) = d s

        at : (session_in (container_given (up.Begin k) w.up.container) n ≡ session_in w.up.container n)
            ⊎ ((k ≡ n) × (session_in (container_given (up.Begin k) w.up.container) n ≡ session.Asked)) → After (up.Begin k)
        at (inl s) = same (up.Begin k) s was
        at (inr s) = record {
          asked = λ e. f.begins g.running (subst (λ (m : ℕ). begins_at w m ≡ true) s.0 g.due)
              (subst (λ (m : ℕ). is_live (session_in w.up.container m) ≡ false) s.0 (live_not_free _ (free_is _ g.free)));
          ended = λ e t. absurd (clash _ e (ap is_ended s.1));
          begins = λ c e x. absurd (none s.0 e);
          opens = λ e. absurd (none s.0 e);
        }

    ending : (k : ℕ) (why : Option Condition) → is_end_due (w.out_of_memory || is_closing w.conn) w k ≡ true → After (up.End k why)
    ending k why g = at (end_session n k w.up.container)
      where
        was : begins_at (gave w (ToUp (up.End k why))) n ≡ true → begins_at w n ≡ true
        was e = sym (keeps_begin n k w.lives (record (life_at w.lives k) { why = None }) refl) ∙ e

        -- one that is live ends where its channel isn't open, and then no begin is due
        wrong : (a b c o x m : Bool) → a ≡ false → b ≡ true → c ≡ false → o ≡ true → (m ≡ true → c ≡ true) → (a || (b && (((m || c) || not o) && x))) ≡ true → ⊥
        wrong a b c o x true h i j p q r = clash c (q refl) j
        wrong true b c o x false h i j p q r = absurd cc
        wrong false b true o x false h i j p q r = absurd cc
        wrong false true false true x false h i j p q r = absurd cc
        wrong false true false false x false h i j p q r = absurd cc
        wrong false false false o x false h i j p q r = absurd cc

        open_now : (a z : Bool) → a ≡ false → (a || z) ≡ true → z ≡ true
        open_now true z e h = absurd cc
        open_now false z e h = h

        was_live : k ≡ n → is_closing w.conn ≡ false → begins_at w n ≡ true → (b : Bool) → is_live (session_in w.up.container n) ≡ b → b ≡ false
        was_live s c e false h = refl
        was_live s c e true h =
            let l = live_begun (session_in w.up.container n) h in
            let due = subst (λ (m : ℕ). is_end_due (w.out_of_memory || is_closing w.conn) w m ≡ true) s g in
            absurd (wrong _ _ (is_closing w.conn) (is_open w.conn n) _ w.out_of_memory l.0 l.1 c (open_now (is_closing w.conn) (is_open w.conn n) c (f.opens e)) memory due)

        at : (session_in (container_given (up.End k None) w.up.container) n ≡ session_in w.up.container n)
            ⊎ ((k ≡ n) × Gone (session_in (container_given (up.End k None) w.up.container) n)) → After (up.End k why)
        at (inl s) = same (up.End k why) s was
        at (inr s) = record {
          asked = λ e. absurd (clash _ e s.1.asked);
          ended = λ e t. absurd (clash _ e s.1.ended);
          begins = λ c e l. f.begins c (was e) (was_live s.0 c (was e) _ refl);
          opens = λ e. f.opens (was e);
        }

    by : (x : UpUnit) → MayGo w x → After x
    by up.SaslHeader g = same up.SaslHeader (sessions up.SaslHeader (λ c. refl)) (λ e. e)
    by up.SaslInit g = same up.SaslInit (sessions up.SaslInit (λ c. refl)) (λ e. e)
    by up.AmqpHeader g = same up.AmqpHeader (sessions up.AmqpHeader (λ c. refl)) (λ e. e)
    by up.Open g = same up.Open (sessions up.Open (λ c. refl)) (λ e. e)
    by (up.Close why) g = same (up.Close why) (sessions (up.Close why) (λ c. refl)) (λ e. e)
    by up.Empty g = same up.Empty (sessions up.Empty (λ c. refl)) (λ e. e)
    by (up.OnSession k x) g = same (up.OnSession k x) (sessions (up.OnSession k x) (λ c. refl)) (λ e. sym (keeps_begin n k w.lives _ refl) ∙ e)
    by (up.Flow k i o) g = same (up.Flow k i o) (sessions (up.Flow k i o) (λ c. refl)) (λ e. sym (keeps_begin n k w.lives _ refl) ∙ e)
    by (up.Begin k) g = begin k g
    by (up.End k why) g = ending k why g

-- ---- a unit of the gateway to the client

given_begin : (n : ℕ) (u : Reply) (ls : List Life) → (life_at (without_life u ls) n).begin ≡ (life_at ls n).begin
given_begin n (reply.ChannelOpenOk k) ls = keeps_begin n k ls _ refl
given_begin n (reply.ChannelCloseOk k) ls = keeps_begin n k ls _ refl
given_begin n (reply.CrossedOk k) ls = keeps_begin n k ls _ refl
given_begin n (reply.ChannelClose k r) ls = keeps_begin n k ls _ refl
given_begin n x ls = refl

given_moves : (n : ℕ) (u : Reply) (w : State) → n < length w.conn.channels → Moves n w (gave w (ToClient u))
given_moves n u w less = record {
  session = refl;
  begin = λ e. sym (given_begin n u w.lives) ∙ e;
  closing = λ e. sym (closing_only (only_given u w.conn)) ∙ e;
  still = λ late e. sym ((given_open n u w.conn).is less) ∙ e;
  opens = λ b e. ap (λ (x : Bool). x || is_open (conn_given u w.conn) n) (closing_only (only_given u w.conn))
      ∙ ap (λ (x : Bool). is_closing w.conn || x) ((given_open n u w.conn).is less) ∙ e;
}

-- ---- all steps

abbrev came_on : State → Unit91 → State
came_on w u = came (dequeued w) u

abbrev heard_on : State → Unit10 → State
heard_on w u = heard w u

abbrev WaitsAfter : ℕ → List Step → Type 0
WaitsAfter n h = Waits n (before h).conn (before h).up.container (begins_at (before h) n) (is_some (path_life h n)) (have_come (path_events h n))

new_waits : (n : ℕ) (vhost : List ℕ) → Waits n (new_connection vhost) None (life_at no_lives n).begin false false
new_waits n vhost = record {
  asked = λ e. refl;
  ended = λ e t. refl;
  begins = λ c b l. refl;
  opens = λ b. absurd (clash _ b (ap (λ (l : Life). l.begin) (new_at n)));
}

ended_session : (n : ℕ) (o : Option Upstream) → session_in (ended_in o) n ≡ session_in o n
ended_session n None = refl
ended_session n (Some c) = refl

closing_session : (n : ℕ) (b : Bool) (why : Option Condition) (s : UpState) → session_in (closing_with b why s).container n ≡ session_in s.container n
closing_session n true why s = refl
closing_session n false why s = refl

left_moves : (n : ℕ) (w : State) → Moves n w (left w)
left_moves n w = shut_moves n w (left w) (closing_session n (is_closing w.conn) None w.up) refl refl

limit_moves : (n : ℕ) (w v : State) (b : Bool) → session_in v.up.container n ≡ session_in w.up.container n → v.lives ≡ w.lives → v.conn ≡ close_if b w.conn → Moves n w v
limit_moves n w v true s l c = shut_moves n w v s l (ap is_closing c ∙ close_closes w.conn.phase)
limit_moves n w v false s l c = moves n w v s l c

module _ (n : ℕ) (less : n < 256) where
  late_now : (h : List Step) → ArePicks h → is_some (path_life h n) ≡ true → is_late (before h).conn.phase ≡ true
  late_now h p t = ap (λ (c : Connection). is_late c.phase) (conn_is (known h p)) ∙ late_is n h less p t

  inside_now : (h : List Step) → ArePicks h → n < length (before h).conn.channels
  inside_now h p = subst (λ (m : ℕ). n < m) (sym (ap (λ (c : Connection). length c.channels) (conn_is (known h p)) ∙ long_is n h less p)) less

  steps : (h : List Step) (s : Step) (v : State) (xs : List PathEvent) → ArePicks h → Moves n (before h) v → have_come xs ≡ false → WaitsAfter n h
      → Waits n v.conn v.up.container (begins_at v n) (is_some (path_life h n)) (have_come (xs ++ path_events h n))
  steps h s v xs p m quiet f = moved n (before h) v (is_some (path_life h n)) xs (path_events h n) (late_now h p) m quiet f

  came_next : (h : List Step) (u : Unit91) → ArePicks h → next_unit (before h) ≡ Some u → WaitsAfter n h → WaitsAfter n (Came u ∷ h)
  came_next h u p next f = by (before h).out_of_memory refl
    where
      k : Known h
      k = known h p

      w : State
      w = before h

      x : Want91
      x = want_in (routes_in h) (paths_in h) (connection h) u

      same : want_in w.routes w.paths w.conn u ≡ x
      same = want_is h u p

      events : List PathEvent
      events = want_events (routes_in h) (conn_step (routes_in h) (paths_in h) (connection h) u).limits.frame_max n x

      After : Bool → State → Type 0
      After b v = Waits n v.conn v.up.container (begins_at v n)
          (is_some (if not b && is_method_on is_channel_open n x then Some ((peers h).opened + 1) else path_life h n))
          (have_come (if not b && is_method_on is_channel_open n x then [] else (if b then [] else events) ++ path_events h n))

      unit : (o : Bool) → is_method_on is_channel_open n x ≡ o
          → Waits n (came_on w u).conn (came_on w u).up.container (begins_at (came_on w u) n)
          (is_some (if o then Some ((peers h).opened + 1) else path_life h n)) (have_come (if o then [] else events ++ path_events h n))
      unit true e =
          came_waits n w u (is_some (path_life h n)) events (path_events h n) (inside_now h p) (want_none (routes_in h) _ n x) f (opens_unended h u n less p next) true
          (ap (is_method_on is_channel_open n) same ∙ e)
      unit false e =
          came_waits n w u (is_some (path_life h n)) events (path_events h n) (inside_now h p) (want_none (routes_in h) _ n x) f (opens_unended h u n less p next) false
          (ap (is_method_on is_channel_open n) same ∙ e)

      by : (b : Bool) → w.out_of_memory ≡ b → WaitsAfter n (Came u ∷ h)
      by true m =
          subst (λ (b : Bool). After b (if w.out_of_memory then w else came_on w u)) (sym m ∙ memory_is k)
          (subst (λ (b : Bool). After true (if b then w else came_on w u)) (sym m) f)
      by false m =
          subst (λ (b : Bool). After b (if w.out_of_memory then w else came_on w u)) (sym m ∙ memory_is k)
          (subst (λ (b : Bool). After false (if b then w else came_on w u)) (sym m) (unit (is_method_on is_channel_open n x) refl))

  heard_next : (h : List Step) (u : Unit10) → ArePicks h → WaitsAfter n h → WaitsAfter n (Heard u ∷ h)
  heard_next h u p f = by (before h).out_of_memory refl
    where
      k : Known h
      k = known h p

      w : State
      w = before h

      y : State
      y = record w { up = heard_up u w.up }

      m : Meaning
      m = meaning_by w.up.container u

      v : State
      v = with_meaning m y

      events : List PathEvent
      events = meaning_events (peers h) n (meaning_by (container h) u)

      meant : meaning_by (container h) u ≡ m
      meant = ap (λ (o : Option Upstream). meaning_by o u) (sym (container_is k))

      After : Bool → State → Type 0
      After b z = Waits n z.conn z.up.container (begins_at z n) (is_some (path_life h n)) (have_come ((if b then [] else events) ++ path_events h n))

      go : Moves n y v
      go = meaning_moves n m y (inside_now h p)

      shuts : EndHeard n m → is_open v.conn n ≡ false
      shuts e = subst (λ (z : Meaning). is_open (with_meaning z y).conn n ≡ false) (sym e.is) (end_shuts n e.parts e.payload y (inside_now h p) e.code)

      heard_now : Waits n v.conn v.up.container (begins_at v n) (is_some (path_life h n)) (have_come (events ++ path_events h n))
      heard_now =
          re_session n v.conn (container_by w.up.container u) v.up.container (begins_at v n) _ _ go.session
          (heard_waits n w v m w.up.container (container_by w.up.container u) (is_some (path_life h n)) events (path_events h n) (late_now h p)
          (tells_of n w.up.container u) go.begin go.closing go.still go.opens
          (λ e. subst (TransferHeard n) meant (meaning_come n (meaning_by (container h) u) (peers h) e)) shuts f)

      by : (b : Bool) → w.out_of_memory ≡ b → WaitsAfter n (Heard u ∷ h)
      by true e =
          subst (λ (b : Bool). After b (if w.out_of_memory then w else heard_on w u)) (sym e ∙ memory_is k)
          (subst (λ (b : Bool). After true (if b then w else heard_on w u)) (sym e) f)
      by false e =
          subst (λ (b : Bool). After b (if w.out_of_memory then w else heard_on w u)) (sym e ∙ memory_is k)
          (subst (λ (b : Bool). After false (if b then w else heard_on w u)) (sym e) heard_now)

  queued : (h : List Step) (u : Unit91) → WaitsAfter n h → WaitsAfter n (Queued u ∷ h)
  queued h u f = by (before h).out_of_memory
    where
      After : State → Type 0
      After v = Waits n v.conn v.up.container (begins_at v n) (is_some (path_life h n)) (have_come (path_events h n))

      by : (b : Bool) → After (if b then before h else record (before h) { queue = (before h).queue ++ u ∷ [] })
      by true = f
      by false = f

  taken : (h : List Step) → ArePicks (TakenUp ∷ h) → WaitsAfter n h → WaitsAfter n (TakenUp ∷ h)
  taken h p f = by (not (before h).out_of_memory && (before h).leaving)
    where
      After : State → Type 0
      After v = Waits n v.conn v.up.container (begins_at v n) (is_some (path_life h n)) (have_come (closed_if (not (ran_out_in h) && leaving_in h) ++ path_events h n))

      events : List PathEvent
      events = closed_if (not (ran_out_in h) && leaving_in h)

      quiet : have_come events ≡ false
      quiet = closed_none (not (ran_out_in h) && leaving_in h)

      by : (b : Bool) → After (if b then left (before h) else before h)
      by true = steps h TakenUp (left (before h)) events p.1 (left_moves n (before h)) quiet f
      by false = steps h TakenUp (before h) events p.1 (moves n (before h) (before h) refl refl refl) quiet f

  waits : (h : List Step) → ArePicks h → WaitsAfter n h
  waits [] p = new_waits n []
  waits (Began site number ms ∷ h) p = subst (λ (x : List Step). WaitsAfter n (Began site number ms ∷ x)) (sym p.0) (new_waits n site.vhost)
  waits (Moment ms ∷ h) p =
      steps h (Moment ms) (before (Moment ms ∷ h)) (event.LinesWent ∷ []) p.1
      (limit_moves n (before h) (before (Moment ms ∷ h)) (is_limit_reached (before h).conn (before h).accepted_at ms) refl refl refl) refl (waits h p.1)
  waits (Fed Client ∷ h) p = waits h p.1
  waits (Silent Client ∷ h) p =
      steps h (Silent Client) (before (Silent Client ∷ h)) (event.LifeClosed ∷ []) p.1
      (shut_moves n (before h) (before (Silent Client ∷ h)) (closing_session n (is_closing (before h).conn) None (before h).up) refl refl) refl (waits h p.1)
  waits (Silent Up ∷ h) p =
      steps h (Silent Up) (before (Silent Up ∷ h)) failing p.1
      (both refl (moves n (before h) _ refl refl refl) (fail_moves n _ _ _)) refl (waits h p.1)
  waits (Queued u ∷ h) p = queued h u (waits h p.1)
  waits (Came u ∷ h) p = came_next h u p.1 p.0 (waits h p.1)
  waits (TakenUp ∷ h) p = taken h p (waits h p.1)
  waits (Heard u ∷ h) p = heard_next h u p.1 (waits h p.1)
  waits (Joined link.Failed ∷ h) p =
      steps h (Joined link.Failed) (before (Joined link.Failed ∷ h)) losing p.1
      (both refl (moves n (before h) _ refl refl refl) (fail_moves n _ None _)) refl (waits h p.1)
  waits (Lost Client loss.Ended ∷ h) p = waits h p.1
  waits (Lost Up loss.Ended ∷ h) p =
      steps h (Lost Up loss.Ended) (before (Lost Up loss.Ended ∷ h)) (failing ++ losing_up) p.1
      (both refl (moves n (before h) _ (ended_session n (before h).up.container) refl refl) (fail_moves n _ None _)) refl (waits h p.1)
  waits (Lost Up loss.Failed ∷ h) p =
      steps h (Lost Up loss.Failed) (before (Lost Up loss.Failed ∷ h)) (failing ++ losing_up) p.1
      (both refl (moves n (before h) _ (ended_session n (before h).up.container) refl refl) (fail_moves n _ None _)) refl (waits h p.1)
  waits (Gave (ToClient u) text ∷ h) p =
      steps h (Gave (ToClient u) text) (before (Gave (ToClient u) text ∷ h)) (reply_events n u) p.1 (given_moves n u (before h) (inside_now h p.1)) (reply_none n u) (waits h p.1)
  waits (Gave (ToUp u) text ∷ h) p =
      gave_waits n (before h) u (is_some (path_life h n)) (up_events (is_later (connection h) u) n u) (path_events h n)
      (λ m. ap is_closing (conn_is (known h p.1)) ∙ shuts_in (known h p.1) (sym (memory_is (known h p.1)) ∙ m)) (may_go (before h) u p.0.1) (up_none (is_later (connection h) u) n u) (waits h p.1)
  waits (Whole Client ∷ h) p =
      steps h (Whole Client) (before (Whole Client ∷ h)) (wrote_events n (going_in h)) p.1 (moves n (before h) _ refl refl refl) (wrote_none n (going_in h)) (waits h p.1)
  waits (OutOfMemory ∷ h) p =
      steps h OutOfMemory (before (OutOfMemory ∷ h)) (event.LifeClosed ∷ []) p.1
      (shut_moves n (before h) (before (OutOfMemory ∷ h)) (closing_session n (is_closing (before h).conn) _ (before h).up) refl (close_closes (before h).conn.phase)) refl (waits h p.1)
  waits (s ∷ h) p = waits h p.1

-- ---- the deliveries of a life

pub counted : (ds h : List DeliveryEvent) → list_any comes ds ≡ false → numbers_of (ds ++ h) ≡ numbers_of h
counted [] h e = refl
counted (d ∷ ds) h e = by (comes d) refl e (counted ds h)
  where
    by : (b : Bool) → comes d ≡ b → (b || list_any comes ds) ≡ false → (list_any comes ds ≡ false → numbers_of (ds ++ h) ≡ numbers_of h)
        → (if b then numbers_of (ds ++ h) + 1 else numbers_of (ds ++ h)) ≡ numbers_of h
    by true f g more = absurd cc
    by false f g more = more g

pub event_none : (s : PathState) (x : PathEvent) → arrives x ≡ false → list_any comes (delivery_events s x) ≡ false
event_none s x e = none_any comes (delivery_events s x) (event_all (λ (d : DeliveryEvent). comes d ≡ false) mild s x (others x e))
  where
    mild : (d : DeliveryEvent) → is_mild d ≡ true → comes d ≡ false
    mild (on.Arrived a content again) f = absurd cc
    mild d f = refl

    others : (x : PathEvent) → arrives x ≡ false → OfEvent (λ (d : DeliveryEvent). comes d ≡ false) s x
    others (event.TransferCame peer part payload image again) f = absurd cc
    others (event.Consumed address tag no_ack no_wait) f = refl
    others (event.Declared queue no_wait) f = refl
    others (event.GetAsked queue no_ack) f = refl
    others (event.ContentWhole tag) f = refl
    others event.LifeClosed f = refl
    others event.SessionLost f = refl
    others event.SessionEnded f = refl
    others event.UpLost f = (refl, refl)
    others x f = tt

none_came : (life : ℕ) (es : List PathEvent) → have_come es ≡ false → numbers_of (deliveries_of life es) ≡ 0
none_came life [] e = refl
none_came life (x ∷ es) e = by (arrives x) refl e (none_came life es)
  where
    by : (b : Bool) → arrives x ≡ b → (b || have_come es) ≡ false → (have_come es ≡ false → numbers_of (deliveries_of life es) ≡ 0)
        → numbers_of (delivery_events (after_events life es) x ++ deliveries_of life es) ≡ 0
    by true f g more = absurd cc
    by false f g more = counted (delivery_events (after_events life es) x) (deliveries_of life es) (event_none (after_events life es) x f) ∙ more g

ended_as : (s : Session) → is_ended_session s ≡ true → is_ended s ≡ true
ended_as (session.Ended m) e = refl
ended_as x e = absurd cc

-- no delivery came in a life whose session the container's begin didn't answer
pub none_asked : (h : List Step) (n life : ℕ) → ArePicks h → n < 256 → is_asked (session_in (container h) n) ≡ true
    → numbers_of (deliveries_of life (path_events h n)) ≡ 0
none_asked h n life p less e =
    none_came life (path_events h n)
    ((waits n less h p).asked (ap (λ (o : Option Upstream). is_asked (session_in o n)) (container_is (known h p)) ∙ e))

-- a channel isn't open whose session the container ended, before the gateway's end went
pub ended_shut : (h : List Step) (n : ℕ) → ArePicks h → n < 256 → is_ended_session (session_in (container h) n) ≡ true → is_open (connection h) n ≡ false
ended_shut h n p less e =
    stays_shut (is_open (connection h) n) refl (λ o. ap (λ (c : Connection). is_open c n) (conn_is (known h p)) ∙ o)
    (by (is_some (path_life h n)) refl)
  where
    by : (b : Bool) → is_some (path_life h n) ≡ b → is_open (before h).conn n ≡ false
    by true t =
        (waits n less h p).ended (ended_as _ (ap (λ (x : Option Upstream). is_ended_session (session_in x n)) (container_is (known h p)) ∙ e)) t
    by false t =
        stays_shut (is_open (before h).conn n) refl
        (λ o. open_lives h n less p (sym (ap (λ (c : Connection). is_open c n) (conn_is (known h p))) ∙ o)) t
