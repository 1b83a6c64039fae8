-- What a step makes of what is due to the client of the life of a channel.
use Rattle.property_map.specs.declared.told.Told.{Told}
use Rattle.std.proofs.Common.{◌≡◌, ℕ, ◌==◌, ◌<◌, not, ◌&&◌, ◌||◌, Bool, true, false, if◌then◌else◌, List, [], ◌∷◌, ◌++◌, length}
use Rattle.std.proofs.Common.{Option, None, Some, option_map, refl, sym, ap, ◌∙◌, arith, subst}
use Rattle.std.proofs.lemmas.Bool.Decides.{nat_tests}
use Rattle.close_translate.specs.Conditions.{condition_of}
use Rattle.close_translate.specs.declared.codes.TheConstants.{INTERNAL_ERROR, PRECONDITION_FAILED}
use Rattle.close_translate.specs.declared.conditions.Scope.{Scope}
use Rattle.close_translate.specs.declared.conditions.Scope.TheVariants as scope
use Rattle.gate_outside.specs.declared.ports.End.TheVariants.{Client, Up}
use Rattle.gate_outside.specs.declared.ports.Linked.TheVariants as link
use Rattle.gate_relay.specs.declared.loss.Loss.TheVariants as loss
use Rattle.machine_091.proofs.ChannelSteps.{Opens as OpensFrom, closing_opens, method_opens, opens_by}
use Rattle.machine_091.specs.State.{channel_at, is_open, is_opening}
use Rattle.machine_091.specs.Transitions as machine
use Rattle.machine_091.specs.declared.state.Channel91.TheVariants as channel
use Rattle.machine_091.specs.declared.state.Connection.{Connection}
use Rattle.machine_091.specs.declared.unit.Unit91.{Unit91}
use Rattle.machine_091.specs.declared.unit.Want91.{Want91}
use Rattle.machine_091.specs.declared.unit.Want91.TheVariants as want
use Rattle.machine_10.specs.Parts.{Parts}
use Rattle.machine_10.specs.Transitions as ten
use Rattle.machine_10.specs.Transitions.{Meaning}
use Rattle.machine_10.specs.declared.state.Upstream.{Upstream}
use Rattle.machine_10.specs.declared.unit.Unit10.{Unit10}
use Rattle.methods_091.specs.declared.method.Method91.{Method91}
use Rattle.methods_091.specs.declared.method.Method91.TheVariants as method
use Rattle.performatives_10.specs.declared.condition.Condition.{Condition}
use Rattle.session_path.specs.Path.{PathState}
use Rattle.gate_model.specs.Begins.{begun_at, begun_by, begun_meant}
use Rattle.gate_model.specs.Folds.{connection, container, paths_in, peers, ran_out_in, routes_in}
use Rattle.gate_model.specs.Lives.{begun_life, failed_life, freed_life, is_of_channel, life_at, lives_by, method_life, reason_of, refusal_on, with_life}
use Rattle.gate_model.specs.Once.{is_channel_close, is_channel_open, is_method_on}
use Rattle.gate_model.specs.Owes.{closes_channel}
use Rattle.gate_model.specs.Paths.{closed_path, path_at}
use Rattle.gate_model.specs.Picks.{ArePicks}
use Rattle.gate_model.specs.Publishing.{opens_channel}
use Rattle.gate_model.specs.Reasons.{reason_at, reason_meant, reason_scoped, reason_wanted, reason_with}
use Rattle.gate_model.specs.Requests.{client_step, client_told}
use Rattle.gate_model.specs.Session.{carried_by}
use Rattle.gate_model.specs.Shuts.{frees_channel, is_freed}
use Rattle.gate_model.specs.State.{Came, Fed, Gave, Heard, Joined, Lost, Queued, Silent, State, Step, TakenUp, Whole}
use Rattle.gate_model.specs.State.{before, begun_session, came, carried, closed_for, closing_code, closing_error, dequeued, ending_error, fail, fail_life, heard, left}
use Rattle.gate_model.specs.State.{life_failed, link_scope, runs, scoped, session_lost, want_in, windowed, with_meaning, with_session, without_begin}
use Rattle.gate_model.specs.Upstream.{heard_up, meaning_by}
use Rattle.gate_model.specs.declared.life.Life.{Life}
use Rattle.gate_model.specs.declared.life.SessionState.{SessionState}
use Rattle.gate_model.specs.declared.outgoing.Outgoing.TheVariants.{ToClient, ToUp}
use Rattle.gate_model.specs.declared.outgoing.UpUnit.{UpUnit}
use Rattle.gate_model.specs.declared.outgoing.UpUnit.TheVariants as up
use Rattle.gate_model.specs.declared.reply.Reason.{Reason}
use Rattle.gate_model.specs.declared.setup.Route.{Route}
use Rattle.gate_model.proofs.Channels.{client_opens}
use Rattle.gate_model.proofs.Clear.{IsClear, free_clear, open_clear, want_is}
use Rattle.gate_model.proofs.Closed.{none_open}
use Rattle.gate_model.proofs.Connections.{clash}
use Rattle.gate_model.proofs.Known.{Known, conn_is, container_is, known, memory_is, paths_are, routes_are}
use Rattle.gate_model.proofs.Lives.{set_all}
use Rattle.gate_model.proofs.Living.{FindsOpen, fail_closes, fail_lives, finds_open}
use Rattle.gate_model.proofs.Outcomes.{outcome}
use Rattle.gate_model.proofs.Overs.{Freed, freed, inside}
use Rattle.gate_model.proofs.Places.{Beyond, Elsewhere, Here, SetAt, itself, set_at}
use Rattle.gate_model.proofs.Reasoning.{reason_by, reason_state, reasons_same}
use Rattle.gate_model.proofs.Refusing.{client_stands}
use Rattle.gate_model.proofs.Sessions.{session_cases, session_on}
use Rattle.gate_model.proofs.Staying.{Other, Set, This, long, set_in}
use Rattle.gate_model.proofs.Turning.{client_turns}

-- ---- what is due of a life

-- it is as it was
pub record IsKept (l m : Life) : Type 0 where
  pub opened : m.open_ok ≡ l.open_ok
  pub ok : m.close_ok ≡ l.close_ok
  pub crossed : m.crossed_ok ≡ l.crossed_ok
  pub close : m.close ≡ l.close

-- the step is no channel.open of the channel, none of its client's channel.close and channel.close-ok, and no reason to close it
pub record IsQuiet (a c f : Bool) (r : Option Reason) : Type 0 where
  pub opens : a ≡ false
  pub closes : c ≡ false
  pub frees : f ≡ false
  pub reason : r ≡ None

-- whether the channel is open behind the step; whether the step is one of these; and what it says of the session
pub data Becomes (o a c f : Bool) (r : Option Reason) (x : Option Bool) (l m : Life) : Type 0 where
  Stays : IsQuiet a c f r → (x ≡ Some true → ⊥) → IsKept l m → Becomes o a c f r x l m
  Shut : o ≡ false → IsQuiet a c f r → IsKept l m → Becomes o a c f r x l m
  -- the container's begin comes
  Begins : IsQuiet a c f r → m.open_ok ≡ (l.open_ok || l.waits) → m.close_ok ≡ l.close_ok → m.crossed_ok ≡ l.crossed_ok → m.close ≡ l.close → Becomes o a c f r x l m
  -- a channel that is opened was free; its client closes it, or answers; and one that fails was open
  Opens : a ≡ true → c ≡ false → f ≡ false → r ≡ None → IsClear l → m.crossed_ok ≡ l.crossed_ok → Becomes o a c f r x l m
  Closes : o ≡ false → c ≡ true → f ≡ false → r ≡ None → m.close_ok ≡ true → m.crossed_ok ≡ l.crossed_ok → Becomes o a c f r x l m
  Frees : o ≡ false → c ≡ false → f ≡ true → r ≡ None → m.crossed_ok ≡ (l.crossed_ok || l.close_ok) → Becomes o a c f r x l m
  Fails : o ≡ false → c ≡ false → f ≡ false → (y : Reason) → m.close ≡ Some y → IsClear l → m.crossed_ok ≡ l.crossed_ok → Becomes o a c f r x l m

abbrev pub BecomesIn : Bool → Bool → Bool → Option Reason → Option Bool → ℕ → State → State → Type 0
BecomesIn a c f r x n w v = Becomes (is_open v.conn n) a c f r x (life_at w.lives n) (life_at v.lives n)

-- ---- lives

same : (l m : Life) → m ≡ l → IsKept l m
same l m e = record {
  opened = ap (λ (z : Life). z.open_ok) e;
  ok = ap (λ (z : Life). z.close_ok) e;
  crossed = ap (λ (z : Life). z.crossed_ok) e;
  close = ap (λ (z : Life). z.close) e;
}

-- a life is set
one_kept : (n k : ℕ) (ls : List Life) (m : Life) → IsKept (life_at ls k) m → IsKept (life_at ls n) (life_at (with_life k m ls) n)
one_kept n k ls m a = by (set_at ls k n m)
  where
    by : SetAt ls k n m → IsKept (life_at ls n) (life_at (with_life k m ls) n)
    by (Here e f) = subst (λ (x : Life). IsKept (life_at ls n) x) (sym f) (subst (λ (i : ℕ). IsKept (life_at ls i) m) e a)
    by (Elsewhere d f) = same _ _ f
    by (Beyond e f g) = same _ _ (g ∙ sym f)

elsewhere : (n k : ℕ) (ls : List Life) (m : Life) → (k == n) ≡ false → life_at (with_life k m ls) n ≡ life_at ls n
elsewhere n k ls m d = by (set_at ls k n m)
  where
    by : SetAt ls k n m → life_at (with_life k m ls) n ≡ life_at ls n
    by (Here e f) = absurd (clash _ (ap (λ (i : ℕ). i == n) e ∙ itself n) d)
    by (Elsewhere e f) = f
    by (Beyond e f g) = g ∙ sym f

here : (n : ℕ) (ls : List Life) (m : Life) → n < length ls → life_at (with_life n m ls) n ≡ m
here n ls m less = by (set_in n n ls m less)
  where
    by : Set n n ls m → life_at (with_life n m ls) n ≡ m
    by (This e f) = f
    by (Other d f) = absurd (clash _ (itself n) d)

quiet : IsQuiet false false false None
quiet = record { opens = refl; closes = refl; frees = refl; reason = refl }

quiet_by : (r : Option Reason) → r ≡ None → IsQuiet false false false r
quiet_by r e = record { opens = refl; closes = refl; frees = refl; reason = e }

-- ---- the client's units

method_becomes : (ms : ℕ) (m : Method91) (l : Life) (o o' : Bool) → o' ≡ method_opens m o → (is_channel_open m ≡ true → IsClear l)
    → Becomes o' (is_channel_open m) (is_channel_close m) false None None l (method_life ms m l)
method_becomes ms method.ChannelOpen l o o' is clear = Opens refl refl refl refl (clear refl) refl
method_becomes ms (method.ChannelClose code text class id) l o o' is clear = Closes is refl refl refl refl refl
method_becomes ms m l o o' is clear = Stays quiet (λ e. cc) (same l l refl)

want_becomes : (n ms : ℕ) (told : Option Told) (y : Want91) (ls : List Life) (o o' : Bool) → n < length ls → o' ≡ opens_by n y o → Freed n o y → FindsOpen n o y
    → (o ≡ true → IsClear (life_at ls n)) → (is_method_on is_channel_open n y ≡ true → IsClear (life_at ls n))
    → Becomes o' (is_method_on is_channel_open n y) (is_method_on is_channel_close n y) (is_freed n y) (reason_wanted n told y) None
    (life_at ls n) (life_at (lives_by ms told y ls) n)
want_becomes n ms told (want.Method j m) ls o o' less is free finds clear opens = by (set_in n j ls (method_life ms m (life_at ls j)) less)
  where
    new : Life
    new = method_life ms m (life_at ls j)

    At : Bool → Life → Type 0
    At b l = Becomes o' (b && is_channel_open m) (b && is_channel_close m) false None None (life_at ls n) l

    by : Set n j ls new → At (j == n) (life_at (with_life j new ls) n)
    by (This e f) =
        let it : (j == n) ≡ true = ap (λ (i : ℕ). i == n) e ∙ itself n in
        subst (λ (b : Bool). At b (life_at (with_life j new ls) n)) (sym it)
        (subst (λ (l : Life). At true l) (sym f)
        (subst (λ (i : ℕ). At true (method_life ms m (life_at ls i))) (sym e)
        (method_becomes ms m (life_at ls n) o o' (is ∙ ap (λ (b : Bool). if b then method_opens m o else o) it)
        (λ g. opens (ap (λ (b : Bool). b && is_channel_open m) it ∙ g)))))
    by (Other d f) = subst (λ (b : Bool). At b (life_at (with_life j new ls) n)) (sym d) (Stays quiet (λ e. cc) (same _ _ f))
want_becomes n ms told (want.ChannelCloseOk j) ls o o' less is free finds clear opens = by (set_in n j ls (freed_life (life_at ls j)) less)
  where
    new : Life
    new = freed_life (life_at ls j)

    At : Bool → Life → Type 0
    At b l = Becomes o' false false b None None (life_at ls n) l

    by : Set n j ls new → At (j == n) (life_at (with_life j new ls) n)
    by (This e f) =
        let it : (j == n) ≡ true = ap (λ (i : ℕ). i == n) e ∙ itself n in
        subst (λ (b : Bool). At b (life_at (with_life j new ls) n)) (sym it)
        (subst (λ (l : Life). At true l) (sym f)
        (subst (λ (i : ℕ). At true (freed_life (life_at ls i))) (sym e) (Frees (is ∙ free e) refl refl refl refl)))
    by (Other d f) = subst (λ (b : Bool). At b (life_at (with_life j new ls) n)) (sym d) (Stays quiet (λ e. cc) (same _ _ f))
want_becomes n ms told (want.Refuse r) ls o o' less is free finds clear opens = by (is_of_channel r) refl
  where
    new : Life
    new = failed_life false ms (reason_of told r) (Some (condition_of r.code)) (life_at ls r.channel)

    one : is_of_channel r ≡ true → o' ≡ (if r.channel == n then false else o) → Set n r.channel ls new
        → Becomes o' false false false (if r.channel == n then Some (reason_of told r) else None) None (life_at ls n) (life_at (with_life r.channel new ls) n)
    one t f (This e g) =
        Fails (f ∙ ap (λ (b : Bool). if b then false else o) (ap (λ (i : ℕ). i == n) e ∙ itself n)) refl refl (reason_of told r) (ap (λ (l : Life). l.close) g) (clear (finds t e))
        (ap (λ (l : Life). l.crossed_ok) g ∙ ap (λ (i : ℕ). (life_at ls i).crossed_ok) e)
    one t f (Other d g) = Stays (quiet_by _ (ap (λ (b : Bool). if b then Some (reason_of told r) else None) d)) (λ e. cc) (same _ _ g)

    by : (b : Bool) → is_of_channel r ≡ b
        → Becomes o' false false false (if b && r.channel == n then Some (reason_of told r) else None) None (life_at ls n) (life_at (if b then with_life r.channel new ls else ls) n)
    by true e = one e (is ∙ ap (λ (b : Bool). if b then (if r.channel == n then false else o) else false) e) (set_in n r.channel ls new less)
    by false e = Stays quiet (λ e. cc) (same _ _ refl)
want_becomes n ms told y ls o o' less is free finds clear opens = Stays quiet (λ e. cc) (same _ _ refl)

came_becomes : (n : ℕ) (w : State) (u : Unit91) → n < length w.conn.channels → n < length w.lives → (is_open w.conn n ≡ true → IsClear (life_at w.lives n))
    → (channel_at w.conn n ≡ channel.Free → IsClear (life_at w.lives n))
    → BecomesIn (is_method_on is_channel_open n (want_in w.routes w.paths w.conn u)) (is_method_on is_channel_close n (want_in w.routes w.paths w.conn u))
    (is_freed n (want_in w.routes w.paths w.conn u)) (reason_wanted n (client_told w.routes w.conn u) (want_in w.routes w.paths w.conn u)) None n w (came (dequeued w) u)
came_becomes n w u less long clear free =
    want_becomes n w.moment (client_told w.routes w.conn u) x.1 w.lives (is_open w.conn n) (is_open x.0 n) long
    (opens.is less) (freed n w.conn u x less (outcome w.routes w.paths w.conn u) opens) (finds_open n w.conn x.1 (client_stands w.routes w.paths w.conn u))
    clear (λ e. free ((client_turns n w.routes w.paths w.conn u).opens e).free)
  where
    x : machine.Step
    x = client_step w.routes w.paths w.conn u

    opens : OpensFrom n w.conn x
    opens = client_opens n w.routes w.paths w.conn u

-- ---- the container's

no_reason : (b : Bool) (o : Option Reason) → o ≡ None → (if b then o else None) ≡ None
no_reason true o e = e
no_reason false o e = refl

-- it closes the channel of its session, if that is open
fail_becomes : (n code : ℕ) (why : Option Condition) (f : PathState → PathState) (v : State) (l : Life) (r : Option Reason) (x : Option Bool) → n < length v.conn.channels → n < length v.lives
    → (is_open v.conn n ≡ true → IsClear l) → (is_open v.conn n ≡ false → r ≡ None) → IsKept l (life_at v.lives n)
    → Becomes (is_open (fail_life n code why f v).conn n) false false false r x l (life_at (fail_life n code why f v).lives n)
fail_becomes n code why f v l r x less long clear none kept = by (is_open v.conn n) refl
  where
    new : Life
    new = failed_life true v.moment (reason_of None (refusal_on n code)) why (life_at v.lives n)

    is : life_at (with_life n new v.lives) n ≡ new
    is = here n v.lives new long

    by : (b : Bool) → is_open v.conn n ≡ b
        → Becomes (is_open (if b then life_failed n (refusal_on n code) why f v else v).conn n) false false false r x l (life_at (if b then life_failed n (refusal_on n code) why f v else v).lives n)
    by true e =
        Fails (closing_opens n n v.conn less ∙ ap (λ (b : Bool). if b then false else is_open v.conn n) (itself n)) refl refl (reason_of None (refusal_on n code))
        (ap (λ (z : Life). z.close) is) (clear e) (ap (λ (z : Life). z.crossed_ok) is ∙ kept.crossed)
    by false e = Shut e (quiet_by r (none e)) kept

-- a performative of its session
this_becomes : (n : ℕ) (q : Parts) (payload : List ℕ) (w : State) → n < length w.conn.channels → n < length w.lives → (is_open w.conn n ≡ true → IsClear (life_at w.lives n)) → (o : Option Scope)
    → BecomesIn false false false (if is_open w.conn n then reason_scoped o n q payload (path_at w.paths n) else None) (begun_by q) n w (scoped o n q payload w)
this_becomes n q payload w less long clear o = by o
  where
    c : State
    c = carried n q payload w

    d : State
    d = windowed n q w

    s : SessionState
    s = carried_by q (life_at w.lives n).session

    c_is : life_at c.lives n ≡ record (life_at w.lives n) { session = s }
    c_is = here n w.lives _ long

    kept : IsKept (life_at w.lives n) (life_at c.lives n)
    kept = one_kept n n w.lives _ (record { opened = refl; ok = refl; crossed = refl; close = refl })

    long_still : n < length c.lives
    long_still = subst (λ (i : ℕ). n < i) (sym (set_all w.lives n _)) long

    begun_is : life_at (begun_session n c).lives n ≡ begun_life (record (life_at w.lives n) { session = s })
    begun_is = here n c.lives (begun_life (life_at c.lives n)) long_still ∙ ap begun_life c_is

    none_begins : (b : Bool) → (if b then Some false else None) ≡ Some true → ⊥
    none_begins true e = cc
    none_begins false e = cc

    closed : (z : Option ℕ)
        → BecomesIn false false false (if is_open w.conn n then option_map (reason_with n) z else None) (if q.0 == 23 then Some false else None) n w (closed_for n z c)
    closed None = Stays (quiet_by _ (no_reason (is_open w.conn n) None refl)) (none_begins (q.0 == 23)) kept
    closed (Some code) =
        fail_becomes n code None closed_path c (life_at w.lives n) _ _ less long_still clear (λ e. ap (λ (b : Bool). if b then Some (reason_with n code) else None) e) kept

    met : (b : Bool) (z : Option ℕ)
        → BecomesIn false false false (if is_open w.conn n then (if b then None else option_map (reason_with n) z) else None)
        (if b then Some true else (if q.0 == 23 then Some false else None)) n w (if b then begun_session n c else closed_for n z c)
    met true z =
        Begins (quiet_by _ (no_reason (is_open w.conn n) None refl)) (ap (λ (z : Life). z.open_ok) begun_is) (ap (λ (z : Life). z.close_ok) begun_is)
        (ap (λ (z : Life). z.crossed_ok) begun_is) (ap (λ (z : Life). z.close) begun_is)
    met false z = closed z

    by : (o : Option Scope)
        → BecomesIn false false false (if is_open w.conn n then reason_scoped o n q payload (path_at w.paths n) else None) (begun_by q) n w (scoped o n q payload w)
    by None = met (q.0 == 17) (closing_code q payload (path_at w.paths n))
    by (Some scope.Connection) =
        let why : Option Condition = Some (closing_error q (path_at w.paths n)) in
        Shut (none_open n (fail INTERNAL_ERROR why d).conn (fail_closes INTERNAL_ERROR why d)) (quiet_by _ (no_reason (is_open w.conn n) None refl))
        (subst (λ (ls : List Life). IsKept (life_at w.lives n) (life_at ls n)) (sym (fail_lives INTERNAL_ERROR why d)) kept)
    by (Some scope.Channel) =
        fail_becomes n PRECONDITION_FAILED (Some (ending_error q payload (life_at w.lives n).session (path_at w.paths n))) closed_path (session_lost n d) (life_at w.lives n) _ _ less long_still clear
        (λ e. ap (λ (b : Bool). if b then Some (reason_with n PRECONDITION_FAILED) else None) e) kept

-- one of another channel's leaves this one's life
other_same : (n k : ℕ) (q : Parts) (payload : List ℕ) (w : State) → (k == n) ≡ false → life_at (with_session k q payload w).lives n ≡ life_at w.lives n
other_same n k q payload w e = session_cases (λ (v : State). life_at v.lives n ≡ life_at w.lives n) k q payload w (record {
  begins = elsewhere n k c.lives _ e ∙ kept;
  stays = kept;
  ends = λ code why. elsewhere n k c.lives _ e ∙ kept;
  parts = kept;
  drops = λ code why. elsewhere n k c.lives _ e ∙ kept;
  fails = λ why. ap (λ (ls : List Life). life_at ls n) (fail_lives INTERNAL_ERROR why (windowed k q w)) ∙ kept;
})
  where
    c : State
    c = carried k q payload w

    kept : life_at c.lives n ≡ life_at w.lives n
    kept = elsewhere n k w.lives _ e

session_becomes : (n k : ℕ) (q : Parts) (payload : List ℕ) (w : State) → n < length w.conn.channels → n < length w.lives → (is_open w.conn n ≡ true → IsClear (life_at w.lives n))
    → BecomesIn false false false (reason_state w n k q payload) (if k == n then begun_by q else None) n w (with_session k q payload w)
session_becomes n k q payload w less long clear = by (k == n) refl
  where
    by : (b : Bool) → (k == n) ≡ b
        → BecomesIn false false false
        (if b && is_open w.conn n then reason_scoped (link_scope q payload (session_on w n) (path_at w.paths n)) n q payload (path_at w.paths n) else None)
        (if b then begun_by q else None) n w (with_session k q payload w)
    by true e =
        let is : k ≡ n = grind (arith, nat_tests, e) in
        subst (λ (i : ℕ). BecomesIn false false false
        (if is_open w.conn n then reason_scoped (link_scope q payload (session_on w n) (path_at w.paths n)) n q payload (path_at w.paths n) else None)
        (begun_by q) n w (with_session i q payload w)) (sym is)
        (this_becomes n q payload w less long clear (link_scope q payload (session_on w n) (path_at w.paths n)))
    by false e = Stays quiet (λ f. cc) (same _ _ (other_same n k q payload w e))

fail_same : (n code : ℕ) (why : Option Condition) (w v : State) → v.lives ≡ w.lives → IsKept (life_at w.lives n) (life_at (fail code why v).lives n)
fail_same n code why w v e = same _ _ (ap (λ (ls : List Life). life_at ls n) (fail_lives code why v ∙ e))

meaning_becomes : (n : ℕ) (m : Meaning) (w : State) → n < length w.conn.channels → n < length w.lives → (is_open w.conn n ≡ true → IsClear (life_at w.lives n))
    → BecomesIn false false false (reason_by w n m) (begun_meant n m) n w (with_meaning m w)
meaning_becomes n ten.Nothing w less long clear = Stays quiet (λ e. cc) (same _ _ refl)
meaning_becomes n ten.Init w less long clear = Stays quiet (λ e. cc) (same _ _ refl)
meaning_becomes n ten.AmqpHeader w less long clear = Stays quiet (λ e. cc) (same _ _ refl)
meaning_becomes n ten.Opened w less long clear = by (is_opening w.conn)
  where
    by : (b : Bool) → BecomesIn false false false None None n w (if b then runs w else w)
    by true = Stays quiet (λ e. cc) (same _ _ refl)
    by false = Stays quiet (λ e. cc) (same _ _ refl)
meaning_becomes n (ten.OfSession k q payload) w less long clear = session_becomes n k q payload w less long clear
meaning_becomes n (ten.Closed x) w less long clear = Stays quiet (λ e. cc) (fail_same n _ _ w w refl)
meaning_becomes n ten.Refused w less long clear = Stays quiet (λ e. cc) (fail_same n _ _ w w refl)
meaning_becomes n (ten.Violation x) w less long clear = Stays quiet (λ e. cc) (fail_same n _ _ w w refl)

-- ---- all steps but a unit that goes to the client

came_step : (n : ℕ) (u : Unit91) (h : List Step) → n < 256 → ArePicks h
    → BecomesIn (opens_channel n h (Came u)) (closes_channel n h (Came u)) (frees_channel n h (Came u)) (reason_at n h (Came u)) None n (before h) (before (Came u ∷ h))
came_step n u h less p = by (before h).out_of_memory (memory_is k)
  where
    k : Known h
    k = known h p

    w : State
    w = before h

    told_is : client_told w.routes w.conn u ≡ client_told (routes_in h) (connection h) u
    told_is = ap (λ (rs : List Route). client_told rs w.conn u) (routes_are k) ∙ ap (λ (c : Connection). client_told (routes_in h) c u) (conn_is k)

    At : Bool → Want91 → Option Told → State → Type 0
    At out y t v =
        BecomesIn (not out && is_method_on is_channel_open n y) (not out && is_method_on is_channel_close n y) (not out && is_freed n y) (if out then None else reason_wanted n t y) None n w v

    by : (b : Bool) → b ≡ ran_out_in h
        → At (ran_out_in h) (want_in (routes_in h) (paths_in h) (connection h) u) (client_told (routes_in h) (connection h) u) (if b then w else came (dequeued w) u)
    by true e =
        subst (λ (out : Bool). At out (want_in (routes_in h) (paths_in h) (connection h) u) (client_told (routes_in h) (connection h) u) w) e (Stays quiet (λ f. cc) (same _ _ refl))
    by false e =
        subst (λ (out : Bool). At out (want_in (routes_in h) (paths_in h) (connection h) u) (client_told (routes_in h) (connection h) u) (came (dequeued w) u)) e
        (subst (λ (y : Want91). At false y (client_told (routes_in h) (connection h) u) (came (dequeued w) u)) (want_is h u p)
        (subst (λ (t : Option Told). At false (want_in w.routes w.paths w.conn u) t (came (dequeued w) u)) told_is
        (came_becomes n w u (inside n h less p) (long n h less p) (open_clear h n less p) (free_clear h n less p))))

none_says : (o : Option Bool) → o ≡ None → o ≡ Some true → ⊥
none_says None e f = cc
none_says (Some b) e f = cc

heard_step : (n : ℕ) (u : Unit10) (h : List Step) → n < 256 → ArePicks h
    → BecomesIn false false false (reason_at n h (Heard u)) (begun_at n h (Heard u)) n (before h) (before (Heard u ∷ h))
heard_step n u h less p = by (before h).out_of_memory (memory_is k)
  where
    k : Known h
    k = known h p

    w : State
    w = before h

    v : State
    v = record w { up = heard_up u w.up }

    m : Meaning
    m = meaning_by w.up.container u

    m_is : m ≡ meaning_by (container h) u
    m_is = ap (λ (o : Option Upstream). meaning_by o u) (container_is k)

    reason_is : reason_by v n m ≡ reason_meant (peers h) n (meaning_by (container h) u)
    reason_is = reasons_same n m v (peers h) (conn_is k) (paths_are k) (k.carries n less) ∙ ap (reason_meant (peers h) n) m_is

    by : (b : Bool) → b ≡ ran_out_in h → BecomesIn false false false (reason_at n h (Heard u)) (begun_at n h (Heard u)) n w (if b then w else heard w u)
    by true e =
        Stays (quiet_by _ (ap (λ (b : Bool). if b then None else reason_meant (peers h) n (meaning_by (container h) u)) (sym e)))
        (none_says _ (ap (λ (b : Bool). if b then None else begun_meant n (meaning_by (container h) u)) (sym e))) (same _ _ refl)
    by false e =
        subst (λ (o : Option Reason). BecomesIn false false false o (begun_at n h (Heard u)) n w (heard w u))
        (reason_is ∙ ap (λ (b : Bool). if b then None else reason_meant (peers h) n (meaning_by (container h) u)) e)
        (subst (λ (x : Option Bool). BecomesIn false false false (reason_by v n m) x n w (heard w u))
        (ap (begun_meant n) m_is ∙ ap (λ (b : Bool). if b then None else begun_meant n (meaning_by (container h) u)) e)
        (meaning_becomes n m v (inside n h less p) (long n h less p) (open_clear h n less p)))

begun_kept : (n : ℕ) (u : UpUnit) (ls : List Life) → IsKept (life_at ls n) (life_at (without_begin u ls) n)
begun_kept n (up.OnSession k u) ls = one_kept n k ls _ (record { opened = refl; ok = refl; crossed = refl; close = refl })
begun_kept n (up.Flow k i o) ls = one_kept n k ls _ (record { opened = refl; ok = refl; crossed = refl; close = refl })
begun_kept n (up.Begin k) ls = one_kept n k ls _ (record { opened = refl; ok = refl; crossed = refl; close = refl })
begun_kept n (up.End k why) ls = one_kept n k ls _ (record { opened = refl; ok = refl; crossed = refl; close = refl })
begun_kept n u ls = same _ _ refl

abbrev pub IsPlain : Step → Type 0
IsPlain (Gave (ToClient u) text) = ⊥
IsPlain s = Unit {0}

pub step_becomes : (n : ℕ) (s : Step) (h : List Step) → n < 256 → ArePicks (s ∷ h) → IsPlain s
    → BecomesIn (opens_channel n h s) (closes_channel n h s) (frees_channel n h s) (reason_at n h s) (begun_at n h s) n (before h) (before (s ∷ h))
step_becomes n (Fed Client) h less p plain = Stays quiet (λ e. cc) (same _ _ refl)
step_becomes n (Silent Client) h less p plain = Stays quiet (λ e. cc) (same _ _ refl)
step_becomes n (Silent Up) h less p plain = Stays quiet (λ e. cc) (fail_same n _ _ (before h) _ refl)
step_becomes n (Queued u) h less p plain = by (before h).out_of_memory
  where
    by : (b : Bool) → BecomesIn false false false None None n (before h) (if b then before h else record (before h) { queue = (before h).queue ++ u ∷ [] })
    by true = Stays quiet (λ e. cc) (same _ _ refl)
    by false = Stays quiet (λ e. cc) (same _ _ refl)
step_becomes n (Came u) h less p plain = came_step n u h less p.1
step_becomes n TakenUp h less p plain = by (not (before h).out_of_memory && (before h).leaving)
  where
    by : (b : Bool) → BecomesIn false false false None None n (before h) (if b then left (before h) else before h)
    by true = Stays quiet (λ e. cc) (same _ _ refl)
    by false = Stays quiet (λ e. cc) (same _ _ refl)
step_becomes n (Heard u) h less p plain = heard_step n u h less p.1
step_becomes n (Joined link.Failed) h less p plain = Stays quiet (λ e. cc) (fail_same n _ None (before h) _ refl)
step_becomes n (Lost Client loss.Ended) h less p plain = Stays quiet (λ e. cc) (same _ _ refl)
step_becomes n (Lost Up loss.Ended) h less p plain = Stays quiet (λ e. cc) (fail_same n _ None (before h) _ refl)
step_becomes n (Lost Up loss.Failed) h less p plain = Stays quiet (λ e. cc) (fail_same n _ None (before h) _ refl)
step_becomes n (Gave (ToClient u) text) h less p plain = absurd plain
step_becomes n (Gave (ToUp u) text) h less p plain = Stays quiet (λ e. cc) (begun_kept n u (before h).lives)
step_becomes n (Whole Client) h less p plain = Stays quiet (λ e. cc) (same _ _ refl)
step_becomes n s h less p plain = Stays quiet (λ e. cc) (same _ _ refl)
