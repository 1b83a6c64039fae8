-- What a step leaves of a channel that stays open.
use Rattle.property_map.specs.declared.told.Told.{Told}
use Rattle.std.proofs.Common.{◌≡◌, ℕ, ◌==◌, ◌<◌, not, ◌&&◌, Bool, true, false, if◌then◌else◌, List, [], ◌∷◌, ◌++◌, length, Option, None, Some, is_some}
use Rattle.std.proofs.Common.{refl, sym, ap, ◌∙◌, arith, subst}
use Rattle.std.proofs.lemmas.Bool.Decides.{nat_tests}
use Rattle.close_translate.specs.Conditions.{condition_of}
use Rattle.close_translate.specs.declared.codes.TheConstants.{INTERNAL_ERROR, PRECONDITION_FAILED}
use Rattle.close_translate.specs.declared.conditions.Scope.{Scope}
use Rattle.close_translate.specs.declared.conditions.Scope.TheVariants as scope
use Rattle.gate_outside.specs.declared.ports.End.TheVariants.{Client, Up}
use Rattle.gate_outside.specs.declared.ports.Linked.TheVariants as link
use Rattle.gate_relay.specs.declared.loss.Loss.TheVariants as loss
use Rattle.machine_091.specs.State.{is_closing, is_open, is_opening}
use Rattle.machine_091.specs.Transitions as machine
use Rattle.machine_091.specs.declared.state.Connection.{Connection}
use Rattle.machine_091.specs.declared.unit.Unit91.{Unit91}
use Rattle.machine_091.specs.declared.unit.Want91.{Want91}
use Rattle.machine_091.specs.declared.unit.Want91.TheVariants as want
use Rattle.machine_091.proofs.ChannelSteps.{Opens, closing_opens, method_opens, opens_by}
use Rattle.machine_10.specs.Parts.{Parts}
use Rattle.machine_10.specs.Transitions as ten
use Rattle.machine_10.specs.Transitions.{Meaning}
use Rattle.machine_10.specs.declared.state.Upstream.{Upstream}
use Rattle.machine_10.specs.declared.unit.Unit10.{Unit10}
use Rattle.methods_091.specs.declared.method.Method91.{Method91}
use Rattle.methods_091.specs.declared.method.Method91.TheVariants as method
use Rattle.performatives_10.specs.declared.condition.Condition.{Condition}
use Rattle.session_path.specs.Path.{PathState}
use Rattle.gate_model.specs.declared.life.Life.{Life}
use Rattle.gate_model.specs.declared.outgoing.Outgoing.TheVariants.{ToClient, ToUp}
use Rattle.gate_model.specs.declared.outgoing.UpUnit.{UpUnit}
use Rattle.gate_model.specs.declared.outgoing.UpUnit.TheVariants as up
use Rattle.gate_model.specs.declared.reply.Reply.{Reply}
use Rattle.gate_model.specs.declared.reply.Reply.TheVariants as reply
use Rattle.gate_model.specs.Begins.{begun_at, begun_by, begun_meant}
use Rattle.gate_model.specs.Dues.{begins_session}
use Rattle.gate_model.specs.Folds.{connection, container, paths_in, ran_out_in, routes_in}
use Rattle.gate_model.specs.Lives.{begun_life, failed_life, freed_life, is_of_channel, life_at, lives_by, method_life, reason_of, refusal_on, with_life}
use Rattle.gate_model.specs.Once.{is_channel_close, is_channel_open, is_method_on}
use Rattle.gate_model.specs.Paths.{closed_path, path_at}
use Rattle.gate_model.specs.Picks.{ArePicks}
use Rattle.gate_model.specs.Publishing.{opens_channel, path_life}
use Rattle.gate_model.specs.Repeats.{is_begin_on}
use Rattle.gate_model.specs.Requests.{client_step, client_told}
use Rattle.gate_model.specs.State.{Began, Came, Fed, Gave, Heard, Joined, Lost, Moment, OutOfMemory, Queued, Silent, State, Step, TakenUp, Whole}
use Rattle.gate_model.specs.State.{before, begun_session, came, carried, close, close_if, closed_for, closing_code, closing_error, dequeued, ending_error, fail}
use Rattle.gate_model.specs.State.{fail_life, failed, heard, is_limit_reached, left, life_failed, link_scope, runs, scoped, session_lost, sessions_lost, want_in, windowed}
use Rattle.gate_model.specs.State.{with_meaning, with_session, without_begin, without_life}
use Rattle.gate_model.specs.Takes.{left_at, left_wanted}
use Rattle.gate_model.specs.Upstream.{heard_up, meaning_by}
use Rattle.gate_model.proofs.Channels.{client_opens, given_open}
use Rattle.gate_model.proofs.Clear.{want_is}
use Rattle.gate_model.proofs.Closed.{is_late, late_is, none_open}
use Rattle.gate_model.proofs.Connections.{clash, close_closes, opening_phase}
use Rattle.gate_model.proofs.Known.{Known, conn_is, container_is, known, memory_is}
use Rattle.gate_model.proofs.Lives.{set_all}
use Rattle.gate_model.proofs.Outcomes.{outcome}
use Rattle.gate_model.proofs.Overs.{Freed, freed, inside}
use Rattle.gate_model.proofs.Places.{Beyond, Elsewhere, Here, SetAt, itself, set_at}
use Rattle.gate_model.proofs.Refusing.{StandsOpen, client_stands}
use Rattle.gate_model.proofs.Staying.{Other, Set, This, long, set_in}

-- the container's begin is awaited or not as it was, and its end; no channel.open-ok and no channel.close becomes due; and the gateway's
-- begin is due as it was, unless it goes
pub record IsLeft (z : Bool) (l m : Life) : Type 0 where
  pub waits : m.waits ≡ l.waits
  pub ok : l.open_ok ≡ false → m.open_ok ≡ false
  pub close : l.close ≡ None → m.close ≡ None
  pub over : m.over ≡ l.over
  pub awaits : m.awaits_end ≡ l.awaits_end
  pub begin : z ≡ false → m.begin ≡ l.begin

-- whether the channel is open before and after; its life; what the step says of the session; what of the client's channel.close; and that the
-- gateway's begin goes
pub data Leaves (o o' : Bool) (l m : Life) (x y : Option Bool) (z : Bool) : Type 0 where
  Stays : o' ≡ o → IsLeft z l m → x ≡ None → y ≡ None → Leaves o o' l m x y z
  -- the container's begin comes
  Begins : o' ≡ o → (l.close ≡ None → m.close ≡ None) → m.over ≡ l.over → m.awaits_end ≡ l.awaits_end → m.begin ≡ l.begin → x ≡ Some true → y ≡ None → Leaves o o' l m x y z
  -- the connection closes, or the channel isn't open
  Ends : o' ≡ false → IsLeft z l m → y ≡ None → Leaves o o' l m x y z
  -- the client closes it, or answers the gateway's channel.close
  Closes : o' ≡ false → y ≡ Some o → m.over ≡ true → m.awaits_end ≡ not l.over → Leaves o o' l m x y z
  Frees : o' ≡ false → y ≡ Some false → Leaves o o' l m x y z
  -- a refusal closes it, or the container
  Fails : o ≡ true → o' ≡ false → y ≡ None → Leaves o o' l m x y z

abbrev pub LeavesIn : Option Bool → Option Bool → Bool → ℕ → State → State → Type 0
LeavesIn x y z n w v = Leaves (is_open w.conn n) (is_open v.conn n) (life_at w.lives n) (life_at v.lives n) x y z

-- a channel that is open was so, if the step doesn't open it
pub was_open : {o o' : Bool} {l m : Life} {x y : Option Bool} {z : Bool} → Leaves o o' l m x y z → o' ≡ true → o ≡ true
was_open (Stays e i f g) on = sym e ∙ on
was_open (Begins e c v a b f g) on = sym e ∙ on
was_open (Ends e i g) on = absurd (clash _ on e)
was_open (Closes e g v a) on = absurd (clash _ on e)
was_open (Frees e g) on = absurd (clash _ on e)
was_open (Fails b e g) on = absurd (clash _ on e)

-- and no channel.close becomes due there
pub none_due : {o o' : Bool} {l m : Life} {x y : Option Bool} {z : Bool} → Leaves o o' l m x y z → o' ≡ true → l.close ≡ None → m.close ≡ None
none_due (Stays e i f g) on c = i.close c
none_due (Begins e d v a b f g) on c = d c
none_due (Ends e i g) on c = i.close c
none_due (Closes e g v a) on c = absurd (clash _ on e)
none_due (Frees e g) on c = absurd (clash _ on e)
none_due (Fails b e g) on c = absurd (clash _ on e)

-- ---- lives

same : {z : Bool} (l m : Life) → m ≡ l → IsLeft z l m
same l m e = record {
  waits = ap (λ (z : Life). z.waits) e;
  ok = λ f. ap (λ (z : Life). z.open_ok) e ∙ f;
  close = λ f. ap (λ (z : Life). z.close) e ∙ f;
  over = ap (λ (z : Life). z.over) e;
  awaits = ap (λ (z : Life). z.awaits_end) e;
  begin = λ f. ap (λ (z : Life). z.begin) e;
}

both : (a b c : Life) → IsLeft false a b → IsLeft false b c → IsLeft false a c
both a b c x y = record {
  waits = y.waits ∙ x.waits;
  ok = λ e. y.ok (x.ok e);
  close = λ e. y.close (x.close e);
  over = y.over ∙ x.over;
  awaits = y.awaits ∙ x.awaits;
  begin = λ e. y.begin e ∙ x.begin e;
}

-- a life is set
one_left : {z : Bool} (n k : ℕ) (ls : List Life) (m : Life) → IsLeft z (life_at ls k) m → IsLeft z (life_at ls n) (life_at (with_life k m ls) n)
one_left {z} n k ls m a = by (set_at ls k n m)
  where
    by : SetAt ls k n m → IsLeft z (life_at ls n) (life_at (with_life k m ls) n)
    by (Here e f) = subst (λ (x : Life). IsLeft z (life_at ls n) x) (sym f) (subst (λ (i : ℕ). IsLeft z (life_at ls i) m) e a)
    by (Elsewhere d f) = same _ _ f
    by (Beyond e f g) = same _ _ (g ∙ sym f)

-- ---- the client's units

method_leaves : (ms : ℕ) (m : Method91) (l : Life) (o : Bool) → is_channel_open m ≡ false
    → Leaves o (method_opens m o) l (method_life ms m l) None (if is_channel_close m then Some o else None) false
method_leaves ms method.ChannelOpen l o e = absurd cc
method_leaves ms (method.ChannelClose code text class id) l o e = Closes refl refl refl refl
method_leaves ms m l o e = Stays refl (same l l refl) refl refl

-- a refusal of channel n finds it open
abbrev pub FindsOpen : ℕ → Bool → Want91 → Type 0
FindsOpen n o (want.Refuse r) = is_of_channel r ≡ true → r.channel ≡ n → o ≡ true
FindsOpen n o x = Unit {0}

pub finds_open : (n : ℕ) (c : Connection) (x : Want91) → StandsOpen c x → FindsOpen n (is_open c n) x
finds_open n c (want.Refuse r) s = λ f e. subst (λ (k : ℕ). is_open c k ≡ true) e (s f)
finds_open n c x s = tt

want_leaves : (n ms : ℕ) (told : Option Told) (y : Want91) (ls : List Life) (o o' : Bool) → n < length ls → o' ≡ opens_by n y o → Freed n o y → FindsOpen n o y
    → is_method_on is_channel_open n y ≡ false → Leaves o o' (life_at ls n) (life_at (lives_by ms told y ls) n) None (left_wanted n o y) false
want_leaves n ms told (want.Method j m) ls o o' less is free finds none = by (set_in n j ls (method_life ms m (life_at ls j)) less)
  where
    new : Life
    new = method_life ms m (life_at ls j)

    left : Bool → Option Bool
    left b = if b && is_channel_close m then Some o else None

    by : Set n j ls new → Leaves o o' (life_at ls n) (life_at (with_life j new ls) n) None (left (j == n)) false
    by (This e f) =
        let here : (j == n) ≡ true = ap (λ (i : ℕ). i == n) e ∙ itself n in
        let is_here : o' ≡ method_opens m o = is ∙ ap (λ (b : Bool). if b then method_opens m o else o) here in
        let closed : is_channel_open m ≡ false = sym (ap (λ (b : Bool). b && is_channel_open m) here) ∙ none in
        subst (λ (b : Bool). Leaves o o' (life_at ls n) (life_at (with_life j new ls) n) None (left b) false) (sym here)
        (subst (λ (b : Bool). Leaves o b (life_at ls n) (life_at (with_life j new ls) n) None (left true) false) (sym is_here)
        (subst (λ (z : Life). Leaves o (method_opens m o) (life_at ls n) z None (left true) false) (sym f)
        (subst (λ (i : ℕ). Leaves o (method_opens m o) (life_at ls n) (method_life ms m (life_at ls i)) None (left true) false) (sym e)
        (method_leaves ms m (life_at ls n) o closed))))
    by (Other d f) = Stays (is ∙ ap (λ (b : Bool). if b then method_opens m o else o) d) (same _ _ f) refl (ap left d)
want_leaves n ms told (want.ChannelCloseOk j) ls o o' less is free finds none = by (set_in n j ls (freed_life (life_at ls j)) less)
  where
    left : Bool → Option Bool
    left b = if b then Some false else None

    by : Set n j ls (freed_life (life_at ls j)) → Leaves o o' (life_at ls n) (life_at (with_life j (freed_life (life_at ls j)) ls) n) None (left (j == n)) false
    by (This e f) = Frees (is ∙ free e) (ap left (ap (λ (i : ℕ). i == n) e ∙ itself n))
    by (Other d f) = Stays is (same _ _ f) refl (ap left d)
want_leaves n ms told want.Close ls o o' less is free finds none = Ends is (same _ _ refl) refl
want_leaves n ms told (want.Refuse r) ls o o' less is free finds none = by (is_of_channel r) refl
  where
    new : Life
    new = failed_life false ms (reason_of told r) (Some (condition_of r.code)) (life_at ls r.channel)

    one : is_of_channel r ≡ true → o' ≡ (if r.channel == n then false else o) → Set n r.channel ls new → Leaves o o' (life_at ls n) (life_at (with_life r.channel new ls) n) None None false
    one t f (This e g) = Fails (finds t e) (f ∙ ap (λ (b : Bool). if b then false else o) (ap (λ (i : ℕ). i == n) e ∙ itself n)) refl
    one t f (Other d g) = Stays (f ∙ ap (λ (b : Bool). if b then false else o) d) (same _ _ g) refl refl

    by : (b : Bool) → is_of_channel r ≡ b → Leaves o o' (life_at ls n) (life_at (if b then with_life r.channel new ls else ls) n) None None false
    by true e = one e (is ∙ ap (λ (b : Bool). if b then (if r.channel == n then false else o) else false) e) (set_in n r.channel ls new less)
    by false e = Ends (is ∙ ap (λ (b : Bool). if b then (if r.channel == n then false else o) else false) e) (same _ _ refl) refl
want_leaves n ms told y ls o o' less is free finds none = Stays is (same _ _ refl) refl refl

came_leaves : (n : ℕ) (w : State) (u : Unit91) → n < length w.conn.channels → n < length w.lives → is_method_on is_channel_open n (want_in w.routes w.paths w.conn u) ≡ false
    → LeavesIn None (left_wanted n (is_open w.conn n) (want_in w.routes w.paths w.conn u)) false n w (came (dequeued w) u)
came_leaves n w u less inside none =
    want_leaves n w.moment (client_told w.routes w.conn u) x.1 w.lives (is_open w.conn n) (is_open x.0 n) inside
    (opens.is less) (freed n w.conn u x less (outcome w.routes w.paths w.conn u) opens)
    (finds_open n w.conn x.1 (client_stands w.routes w.paths w.conn u)) none
  where
    x : machine.Step
    x = client_step w.routes w.paths w.conn u

    opens : Opens n w.conn x
    opens = client_opens n w.routes w.paths w.conn u

-- ---- the container's

pub fail_closes : (code : ℕ) (why : Option Condition) (v : State) → is_closing (fail code why v).conn ≡ true
fail_closes code why v = by (is_closing v.conn) refl
  where
    by : (b : Bool) → is_closing v.conn ≡ b → is_closing (if b then sessions_lost v else failed code why v).conn ≡ true
    by true e = e
    by false e = close_closes v.conn.phase

pub fail_lives : (code : ℕ) (why : Option Condition) (v : State) → (fail code why v).lives ≡ v.lives
fail_lives code why v = by (is_closing v.conn)
  where
    by : (b : Bool) → (if b then sessions_lost v else failed code why v).lives ≡ v.lives
    by true = refl
    by false = refl

fail_leaves : (n code : ℕ) (why : Option Condition) (w v : State) (x : Option Bool) → IsLeft false (life_at w.lives n) (life_at v.lives n) → LeavesIn x None false n w (fail code why v)
fail_leaves n code why w v x a =
    Ends (none_open n (fail code why v).conn (fail_closes code why v))
    (subst (λ (ls : List Life). IsLeft false (life_at w.lives n) (life_at ls n)) (sym (fail_lives code why v)) a) refl

-- it closes channel g, if that is open
fail_one : (n g code : ℕ) (why : Option Condition) (f : PathState → PathState) (w v : State) (x : Option Bool) → n < length w.conn.channels → n < length v.lives
    → v.conn ≡ w.conn → IsLeft false (life_at w.lives n) (life_at v.lives n) → ((g == n) ≡ false → x ≡ None) → LeavesIn x None false n w (fail_life g code why f v)
fail_one n g code why f w v x less inside c a none = by (is_open v.conn g) refl
  where
    new : Life
    new = failed_life true v.moment (reason_of None (refusal_on g code)) why (life_at v.lives g)

    opens : is_open (life_failed g (refusal_on g code) why f v).conn n ≡ (if g == n then false else is_open v.conn n)
    opens = closing_opens g n v.conn (subst (λ (d : Connection). n < length d.channels) (sym c) less)

    was : is_open v.conn n ≡ is_open w.conn n
    was = ap (λ (k : Connection). is_open k n) c

    one : is_open v.conn g ≡ true → Set n g v.lives new → LeavesIn x None false n w (life_failed g (refusal_on g code) why f v)
    one o (This e i) =
        Fails (sym was ∙ subst (λ (j : ℕ). is_open v.conn j ≡ true) e o)
        (opens ∙ ap (λ (b : Bool). if b then false else is_open v.conn n) (ap (λ (j : ℕ). j == n) e ∙ itself n)) refl
    one o (Other d i) =
        Stays (opens ∙ ap (λ (b : Bool). if b then false else is_open v.conn n) d ∙ was)
        (both (life_at w.lives n) (life_at v.lives n) _ a (same _ _ i)) (none d) refl

    shut : is_open v.conn g ≡ false → (b : Bool) → (g == n) ≡ b → LeavesIn x None false n w v
    shut o true e = let here : g ≡ n = grind (arith, nat_tests, e) in Ends (subst (λ (j : ℕ). is_open v.conn j ≡ false) here o) a refl
    shut o false e = Stays was a (none e) refl

    by : (b : Bool) → is_open v.conn g ≡ b → LeavesIn x None false n w (if b then life_failed g (refusal_on g code) why f v else v)
    by true o = one o (set_in n g v.lives new inside)
    by false o = shut o (g == n) refl

session_leaves : (n g : ℕ) (q : Parts) (payload : List ℕ) (w : State) → n < length w.conn.channels → n < length w.lives
    → LeavesIn (if g == n then begun_by q else None) None false n w (with_session g q payload w)
session_leaves n g q payload w less inside = by (link_scope q payload (life_at w.lives g).session (path_at w.paths g))
  where
    x : Option Bool
    x = if g == n then begun_by q else None

    none : (g == n) ≡ false → x ≡ None
    none e = ap (λ (b : Bool). if b then begun_by q else None) e

    c : State
    c = carried g q payload w

    d : State
    d = windowed g q w

    long_still : (m : Life) → n < length (with_life g m w.lives)
    long_still m = subst (λ (i : ℕ). n < i) (sym (set_all w.lives g m)) inside

    kept : IsLeft false (life_at w.lives n) (life_at c.lives n)
    kept = one_left n g w.lives _ (record { waits = refl; ok = λ e. e; close = λ e. e; over = refl; awaits = refl; begin = λ f. refl })

    begins : (q.0 == 17) ≡ true → Set n g c.lives (begun_life (life_at c.lives g)) → LeavesIn x None false n w (begun_session g c)
    begins e (This f i) =
        Begins refl (λ z. ap (λ (l : Life). l.close) i ∙ ap (λ (j : ℕ). (life_at c.lives j).close) f ∙ kept.close z)
        (ap (λ (l : Life). l.over) i ∙ ap (λ (j : ℕ). (life_at c.lives j).over) f ∙ kept.over)
        (ap (λ (l : Life). l.awaits_end) i ∙ ap (λ (j : ℕ). (life_at c.lives j).awaits_end) f ∙ kept.awaits)
        (ap (λ (l : Life). l.begin) i ∙ ap (λ (j : ℕ). (life_at c.lives j).begin) f ∙ kept.begin refl)
        (ap (λ (b : Bool). if b then begun_by q else None) (ap (λ (j : ℕ). j == n) f ∙ itself n)
        ∙ ap (λ (b : Bool). if b then Some true else (if q.0 == 23 then Some false else None)) e) refl
    begins e (Other f i) = Stays refl (both (life_at w.lives n) (life_at c.lives n) _ kept (same _ _ i)) (none f) refl

    no_end : closing_code q payload (path_at w.paths g) ≡ None → (q.0 == 23) ≡ false
    no_end e = at (q.0 == 23) _ _ e
      where
        at : (b : Bool) (code : ℕ) (rest : Option ℕ) → (if b then Some code else rest) ≡ None → b ≡ false
        at true code rest f = absurd cc
        at false code rest f = refl

    quiet : (a b : Bool) → a ≡ false → b ≡ false → (k : Bool) → (if k then (if a then Some true else (if b then Some false else None)) else None) ≡ None
    quiet true b e f k = absurd cc
    quiet false true e f k = absurd cc
    quiet false false e f true = refl
    quiet false false e f false = refl

    closed : (o : Option ℕ) → closing_code q payload (path_at w.paths g) ≡ o → (q.0 == 17) ≡ false → LeavesIn x None false n w (closed_for g o c)
    closed None e f = Stays refl kept (quiet (q.0 == 17) (q.0 == 23) f (no_end e) (g == n)) refl
    closed (Some code) e f = fail_one n g code None closed_path w c x less (long_still _) refl kept none

    met : (b : Bool) → (q.0 == 17) ≡ b → LeavesIn x None false n w (if b then begun_session g c else closed_for g (closing_code q payload (path_at w.paths g)) c)
    met true e = begins e (set_in n g c.lives (begun_life (life_at c.lives g)) (long_still _))
    met false e = closed (closing_code q payload (path_at w.paths g)) refl e

    by : (o : Option Scope) → LeavesIn x None false n w (scoped o g q payload w)
    by None = met (q.0 == 17) refl
    by (Some scope.Connection) = fail_leaves n INTERNAL_ERROR (Some (closing_error q (path_at w.paths g))) w d x kept
    by (Some scope.Channel) =
        fail_one n g PRECONDITION_FAILED (Some (ending_error q payload (life_at w.lives g).session (path_at w.paths g))) closed_path w (session_lost g d) x less (long_still _) refl kept none

meaning_leaves : (n : ℕ) (m : Meaning) (w : State) → n < length w.conn.channels → n < length w.lives → is_late w.conn.phase ≡ true
    → LeavesIn (begun_meant n m) None false n w (with_meaning m w)
meaning_leaves n ten.Nothing w less inside late = Stays refl (same _ _ refl) refl refl
meaning_leaves n ten.Init w less inside late = Stays refl (same _ _ refl) refl refl
meaning_leaves n ten.AmqpHeader w less inside late = Stays refl (same _ _ refl) refl refl
meaning_leaves n ten.Opened w less inside late = by (is_opening w.conn) refl
  where
    by : (b : Bool) → is_opening w.conn ≡ b → LeavesIn None None false n w (if b then runs w else w)
    by true e = absurd (clash _ late (ap is_late (opening_phase w.conn e)))
    by false e = Stays refl (same _ _ refl) refl refl
meaning_leaves n (ten.OfSession g q payload) w less inside late = session_leaves n g q payload w less inside
meaning_leaves n (ten.Closed x) w less inside late = fail_leaves n _ _ w w None (same _ _ refl)
meaning_leaves n ten.Refused w less inside late = fail_leaves n _ _ w w None (same _ _ refl)
meaning_leaves n (ten.Violation c) w less inside late = fail_leaves n _ _ w w None (same _ _ refl)

-- ---- units that go

given_left : (n : ℕ) (u : Reply) (ls : List Life) → IsLeft false (life_at ls n) (life_at (without_life u ls) n)
given_left n (reply.ChannelOpenOk k) ls = one_left n k ls _ (record { waits = refl; ok = λ e. refl; close = λ e. e; over = refl; awaits = refl; begin = λ f. refl })
given_left n (reply.ChannelCloseOk k) ls = one_left n k ls _ (record { waits = refl; ok = λ e. e; close = λ e. e; over = refl; awaits = refl; begin = λ f. refl })
given_left n (reply.CrossedOk k) ls = one_left n k ls _ (record { waits = refl; ok = λ e. e; close = λ e. e; over = refl; awaits = refl; begin = λ f. refl })
given_left n (reply.ChannelClose k r) ls = one_left n k ls _ (record { waits = refl; ok = λ e. e; close = λ e. refl; over = refl; awaits = refl; begin = λ f. refl })
given_left n u ls = same _ _ refl

begun_left : (n : ℕ) (u : UpUnit) (ls : List Life) → IsLeft (is_begin_on n u) (life_at ls n) (life_at (without_begin u ls) n)
begun_left n (up.OnSession k u) ls = one_left n k ls _ (record { waits = refl; ok = λ e. e; close = λ e. e; over = refl; awaits = refl; begin = λ f. refl })
begun_left n (up.Flow k i o) ls = one_left n k ls _ (record { waits = refl; ok = λ e. e; close = λ e. e; over = refl; awaits = refl; begin = λ f. refl })
begun_left n (up.Begin k) ls = by (set_at ls k n (record (life_at ls k) { begin = false }))
  where
    by : SetAt ls k n (record (life_at ls k) { begin = false }) → IsLeft (k == n) (life_at ls n) (life_at (with_life k (record (life_at ls k) { begin = false }) ls) n)
    by (Here e f) =
        subst (λ (x : Life). IsLeft (k == n) (life_at ls n) x) (sym f)
        (subst (λ (i : ℕ). IsLeft (k == n) (life_at ls i) (record (life_at ls k) { begin = false })) e
        (record { waits = refl; ok = λ e. e; close = λ e. e; over = refl; awaits = refl; begin = λ d. absurd (clash _ (ap (λ (i : ℕ). i == n) e ∙ itself n) d) }))
    by (Elsewhere d f) = same _ _ f
    by (Beyond e f g) = same _ _ (g ∙ sym f)
begun_left n (up.End k why) ls = one_left n k ls _ (record { waits = refl; ok = λ e. e; close = λ e. e; over = refl; awaits = refl; begin = λ f. refl })
begun_left n u ls = same _ _ refl

-- ---- all steps

still : (n : ℕ) (w : State) → LeavesIn None None false n w w
still n w = Stays refl (same _ _ refl) refl refl

came_step : (n : ℕ) (u : Unit91) (h : List Step) → n < 256 → ArePicks h → opens_channel n h (Came u) ≡ false
    → LeavesIn None (left_at n h (Came u)) false n (before h) (before (Came u ∷ h))
came_step n u h less p none = by (before h).out_of_memory (memory_is k)
  where
    k : Known h
    k = known h p

    w : State
    w = before h

    wanted : Option Bool
    wanted = left_wanted n (is_open (connection h) n) (want_in (routes_in h) (paths_in h) (connection h) u)

    is : left_wanted n (is_open w.conn n) (want_in w.routes w.paths w.conn u) ≡ left_wanted n (is_open (connection h) n) (want_in (routes_in h) (paths_in h) (connection h) u)
    is = ap (λ (c : Connection). left_wanted n (is_open c n) (want_in w.routes w.paths w.conn u)) (conn_is k) ∙ ap (left_wanted n (is_open (connection h) n)) (want_is h u p)

    by : (b : Bool) → b ≡ ran_out_in h → LeavesIn None (left_at n h (Came u)) false n w (if b then w else came (dequeued w) u)
    by true e = Stays refl (same _ _ refl) refl (ap (λ (b : Bool). if b then None else wanted) (sym e))
    by false e =
        let unopened : is_method_on is_channel_open n (want_in w.routes w.paths w.conn u) ≡ false =
        ap (is_method_on is_channel_open n) (want_is h u p)
        ∙ ap (λ (b : Bool). not b && is_method_on is_channel_open n (want_in (routes_in h) (paths_in h) (connection h) u)) e ∙ none in
        subst (λ (o : Option Bool). LeavesIn None o false n w (came (dequeued w) u)) (is ∙ ap (λ (b : Bool). if b then None else wanted) e)
        (came_leaves n w u (inside n h less p) (long n h less p) unopened)

heard_step : (n : ℕ) (u : Unit10) (h : List Step) → n < 256 → ArePicks h → is_some (path_life h n) ≡ true
    → LeavesIn (begun_at n h (Heard u)) None false n (before h) (before (Heard u ∷ h))
heard_step n u h less p there = by (before h).out_of_memory (memory_is k)
  where
    k : Known h
    k = known h p

    w : State
    w = before h

    meant : begun_meant n (meaning_by w.up.container u) ≡ begun_meant n (meaning_by (container h) u)
    meant = ap (λ (o : Option Upstream). begun_meant n (meaning_by o u)) (container_is k)

    by : (b : Bool) → b ≡ ran_out_in h → LeavesIn (begun_at n h (Heard u)) None false n w (if b then w else heard w u)
    by true e = Stays refl (same _ _ refl) (ap (λ (b : Bool). if b then None else begun_meant n (meaning_by (container h) u)) (sym e)) refl
    by false e =
        subst (λ (o : Option Bool). LeavesIn o None false n w (heard w u)) (meant ∙ ap (λ (b : Bool). if b then None else begun_meant n (meaning_by (container h) u)) e)
        (meaning_leaves n (meaning_by w.up.container u) (record w { up = heard_up u w.up }) (inside n h less p) (long n h less p)
        (ap (λ (c : Connection). is_late c.phase) (conn_is k) ∙ late_is n h less p there))

-- a step that opens no channel n, which has a life
pub step_leaves : (n : ℕ) (s : Step) (h : List Step) → n < 256 → ArePicks (s ∷ h) → is_some (path_life h n) ≡ true → opens_channel n h s ≡ false
    → LeavesIn (begun_at n h s) (left_at n h s) (begins_session n s) n (before h) (before (s ∷ h))
step_leaves n (Began site number ms) h less p there none = absurd (let wrong : false ≡ true = sym (ap (λ (x : List Step). is_some (path_life x n)) p.0) ∙ there in cc)
step_leaves n (Moment ms) h less p there none = by (is_limit_reached (before h).conn (before h).accepted_at ms)
  where
    by : (b : Bool) → Leaves (is_open (before h).conn n) (is_open (close_if b (before h).conn) n) (life_at (before h).lives n) (life_at (before h).lives n) None None false
    by true = Ends (none_open n (close (before h).conn) (close_closes (before h).conn.phase)) (same _ _ refl) refl
    by false = Stays refl (same _ _ refl) refl refl
step_leaves n (Fed Client) h less p there none = Stays refl (same _ _ refl) refl refl
step_leaves n (Silent Client) h less p there none = Ends refl (same _ _ refl) refl
step_leaves n (Silent Up) h less p there none = fail_leaves n _ _ (before h) _ None (same _ _ refl)
step_leaves n (Queued u) h less p there none = by (before h).out_of_memory
  where
    by : (b : Bool) → LeavesIn None None false n (before h) (if b then before h else record (before h) { queue = (before h).queue ++ u ∷ [] })
    by true = still n (before h)
    by false = Stays refl (same _ _ refl) refl refl
step_leaves n (Came u) h less p there none = came_step n u h less p.1 none
step_leaves n TakenUp h less p there none = by (not (before h).out_of_memory && (before h).leaving)
  where
    by : (b : Bool) → LeavesIn None None false n (before h) (if b then left (before h) else before h)
    by true = Ends refl (same _ _ refl) refl
    by false = still n (before h)
step_leaves n (Heard u) h less p there none = heard_step n u h less p.1 there
step_leaves n (Joined link.Ok) h less p there none = Stays refl (same _ _ refl) refl refl
step_leaves n (Joined link.Failed) h less p there none = fail_leaves n _ _ (before h) _ None (same _ _ refl)
step_leaves n (Lost Client loss.Ended) h less p there none = Stays refl (same _ _ refl) refl refl
step_leaves n (Lost Up loss.Ended) h less p there none = fail_leaves n _ _ (before h) _ None (same _ _ refl)
step_leaves n (Lost Up loss.Failed) h less p there none = fail_leaves n _ _ (before h) _ None (same _ _ refl)
step_leaves n (Gave (ToClient u) text) h less p there none = Stays ((given_open n u (before h).conn).is (inside n h less p.1)) (given_left n u (before h).lives) refl refl
step_leaves n (Gave (ToUp u) text) h less p there none = Stays refl (begun_left n u (before h).lives) refl refl
step_leaves n (Whole Client) h less p there none = Stays refl (same _ _ refl) refl refl
step_leaves n OutOfMemory h less p there none = Ends (none_open n (close (before h).conn) (close_closes (before h).conn.phase)) (same _ _ refl) refl
step_leaves n s h less p there none = Stays refl (same _ _ refl) refl refl

-- ---- a channel that is opened

-- its begin is due, the container's is awaited, and nothing is due to its client
pub record IsAsked (l : Life) : Type 0 where
  pub waits : l.waits ≡ true
  pub ok : l.open_ok ≡ false
  pub close : l.close ≡ None
  pub begin : l.begin ≡ true

method_asks : (ms : ℕ) (b : Bool) (m : Method91) (l : Life) → (b && is_channel_open m) ≡ true → IsAsked (method_life ms m l)
method_asks ms true method.ChannelOpen l e = record { waits = refl; ok = refl; close = refl; begin = refl }
method_asks ms true m l e = absurd cc
method_asks ms false m l e = absurd cc

want_asks : (n ms : ℕ) (told : Option Told) (y : Want91) (ls : List Life) → n < length ls → is_method_on is_channel_open n y ≡ true
    → IsAsked (life_at (lives_by ms told y ls) n)
want_asks n ms told (want.Method j m) ls less e = by (set_in n j ls (method_life ms m (life_at ls j)) less)
  where
    by : Set n j ls (method_life ms m (life_at ls j)) → IsAsked (life_at (with_life j (method_life ms m (life_at ls j)) ls) n)
    by (This f g) = subst IsAsked (sym g) (method_asks ms (j == n) m (life_at ls j) e)
    by (Other d g) = absurd (let wrong : (false && is_channel_open m) ≡ true = sym (ap (λ (b : Bool). b && is_channel_open m) d) ∙ e in cc)
want_asks n ms told y ls less e = absurd cc

pub opened_asks : (n : ℕ) (s : Step) (h : List Step) → n < 256 → ArePicks h → opens_channel n h s ≡ true → IsAsked (life_at (before (s ∷ h)).lives n)
opened_asks n (Came u) h less p e = by (ran_out_in h) (memory_is (known h p)) e
  where
    w : State
    w = before h

    made : is_method_on is_channel_open n (want_in w.routes w.paths w.conn u) ≡ true → IsAsked (life_at (came (dequeued w) u).lives n)
    made g = want_asks n w.moment (client_told w.routes w.conn u) (want_in w.routes w.paths w.conn u) w.lives (long n h less p) g

    by : (m : Bool) → w.out_of_memory ≡ m → (not m && is_method_on is_channel_open n (want_in (routes_in h) (paths_in h) (connection h) u)) ≡ true
        → IsAsked (life_at (if w.out_of_memory then w else came (dequeued w) u).lives n)
    by true f g = absurd cc
    by false f g = subst (λ (m : Bool). IsAsked (life_at (if m then w else came (dequeued w) u).lives n)) (sym f) (made (ap (is_method_on is_channel_open n) (want_is h u p) ∙ g))
opened_asks n s h less p e = absurd cc
