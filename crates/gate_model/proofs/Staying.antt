-- A channel whose life goes on is open while its connection is; and a life is closed by the container where that did it.
use Rattle.property_map.specs.declared.told.Told.{Told}
use Rattle.std.proofs.Common.{◌≡◌, ◌≢◌, ◌⊎◌, inl, inr, ℕ, zero, suc, ◌+◌, ◌==◌, ◌<◌, ◌≤◌, not, ◌&&◌, Bool, true, false, if◌then◌else◌, List, [], ◌∷◌, ◌++◌, length}
use Rattle.std.proofs.Common.{Option, None, Some, is_some, refl, sym, ap, ◌∙◌, arith, subst}
use Rattle.close_translate.specs.Conditions.{condition_of}
use Rattle.close_translate.specs.declared.codes.TheConstants.{INTERNAL_ERROR, PRECONDITION_FAILED}
use Rattle.close_translate.specs.declared.conditions.Scope.{Scope}
use Rattle.close_translate.specs.declared.conditions.Scope.TheVariants as scope
use Rattle.gate_outside.specs.declared.ports.End.TheVariants.{Client, Up}
use Rattle.gate_outside.specs.declared.ports.Linked.TheVariants as link
use Rattle.gate_relay.specs.declared.loss.Loss.TheVariants as loss
use Rattle.machine_091.specs.State.{is_closing, is_open, is_opening}
use Rattle.machine_091.specs.Transitions as machine
use Rattle.machine_091.specs.declared.limits.TheConstants.{CHANNEL_MAX}
use Rattle.machine_091.specs.declared.state.Connection.{Connection}
use Rattle.machine_091.specs.declared.unit.Unit91.{Unit91}
use Rattle.machine_091.specs.declared.unit.Want91.{Want91}
use Rattle.machine_091.specs.declared.unit.Want91.TheVariants as want
use Rattle.machine_091.proofs.ChannelSteps.{Opens, closing_opens, method_opens, opens_by}
use Rattle.machine_10.specs.Parts.{Parts}
use Rattle.machine_10.specs.Transitions as ten
use Rattle.machine_10.specs.Transitions.{Meaning}
use Rattle.methods_091.specs.declared.method.Method91.{Method91}
use Rattle.methods_091.specs.declared.method.Method91.TheVariants as method
use Rattle.performatives_10.specs.declared.condition.Condition.{Condition}
use Rattle.session_path.specs.Path.{PathState}
use Rattle.gate_model.specs.declared.life.Life.{Life}
use Rattle.gate_model.specs.declared.outgoing.Outgoing.TheVariants.{ToClient, ToUp}
use Rattle.gate_model.specs.declared.outgoing.UpUnit.{UpUnit}
use Rattle.gate_model.specs.declared.outgoing.UpUnit.TheVariants as up
use Rattle.gate_model.specs.declared.reply.Reply.{Reply}
use Rattle.gate_model.specs.declared.reply.Reply.TheVariants as reply
use Rattle.gate_model.specs.declared.setup.Route.{Route}
use Rattle.gate_model.specs.Folds.{connection, paths_in, peers, ran_out_in, routes_in}
use Rattle.gate_model.specs.Lives.{begun_life, failed_life, freed_life, is_of_channel, life_at, lives_by, method_life, reason_of, refusal_on, with_life}
use Rattle.gate_model.specs.Once.{is_channel_open, is_method_on}
use Rattle.gate_model.specs.Parting.{by_container, is_containers}
use Rattle.gate_model.specs.Paths.{closed_path, path_at}
use Rattle.gate_model.specs.Picks.{ArePicks}
use Rattle.gate_model.specs.Publishing.{opens_channel, path_life}
use Rattle.gate_model.specs.Requests.{client_step, client_told}
use Rattle.gate_model.specs.State.{Began, Came, Fed, Gave, Heard, Joined, Lost, Moment}
use Rattle.gate_model.specs.State.{OutOfMemory, Queued, Silent, State, Step, TakenUp, Whole, before, begun_session, came, carried}
use Rattle.gate_model.specs.State.{close, close_if, closed_for, closing_code, closing_error, dequeued, ending_error, fail, fail_life, failed, heard, is_limit_reached, left, sessions_lost}
use Rattle.gate_model.specs.State.{life_failed, link_scope, runs, scoped, session_lost, want_in, windowed, with_meaning, with_session, without_begin, without_life}
use Rattle.gate_model.specs.Upstream.{heard_up, meaning_by}
use Rattle.gate_model.proofs.Arrived.{ends_all, unit_shuts}
use Rattle.gate_model.proofs.Channels.{client_opens, given_open}
use Rattle.gate_model.proofs.Closed.{is_late, late_is, none_open, want_begins}
use Rattle.gate_model.proofs.Closings.{closes_on}
use Rattle.gate_model.proofs.Connections.{clash, close_closes, closing_only, only_given, opening_early, opening_phase, step_closes}
use Rattle.gate_model.proofs.Lives.{lives_all, set_all}
use Rattle.gate_model.proofs.Known.{Known, conn_is, known, memory_is, paths_are, routes_are}
use Rattle.gate_model.proofs.Outcomes.{only_closing, outcome}
use Rattle.gate_model.proofs.Overs.{Freed, freed, goes_on, inside}
use Rattle.gate_model.proofs.Sessions.{session_cases}
use Rattle.gate_model.proofs.Places.{Beyond, Elsewhere, Here, SetAt, isnt, itself, same_or_not, set_at}

-- ---- what a step makes of a channel

-- its life is over as it was, and by the same
record Alike (l m : Life) : Type 0 where
  over : m.over ≡ l.over
  peer : m.by_peer ≡ l.by_peer

alike : (l m : Life) → m ≡ l → Alike l m
alike l m e = record { over = ap (λ (x : Life). x.over) e; peer = ap (λ (x : Life). x.by_peer) e }

-- whether the step is the container's; whether its channel is open before and after, and the connection closing; whether the
-- container closed the connection; and the lives
data Moves (x o o' k k' q q' : Bool) (l m : Life) : Type 0 where
  Stays : o' ≡ o → q' ≡ q → Alike l m → Moves x o o' k k' q q' l m
  -- the client or the gateway closes it, or the connection
  Shuts : o' ≡ false → q' ≡ q → m.over ≡ true → (m.by_peer ≡ true → l.by_peer ≡ true) → Moves x o o' k k' q q' l m
  Ends : x ≡ false → o' ≡ false → k' ≡ true → q' ≡ q → Alike l m → Moves x o o' k k' q q' l m
  -- the container does
  Fails : o ≡ true → o' ≡ false → x ≡ true → q' ≡ q → m.over ≡ true → Moves x o o' k k' q q' l m
  Falls : k ≡ false → o' ≡ false → k' ≡ true → x ≡ true → q' ≡ true → Alike l m → Moves x o o' k k' q q' l m

-- ---- what holds of a channel with a life

pub record Stands (o k q : Bool) (l : Life) (b : Bool) : Type 0 where
  pub goes : l.over ≡ false → k ≡ false → o ≡ true
  pub fresh : l.over ≡ false → l.by_peer ≡ false
  pub peer : l.by_peer ≡ true → b ≡ true
  pub all : l.over ≡ false → q ≡ true → b ≡ true
  pub only : l.over ≡ false → b ≡ true → q ≡ true

-- of any channel with a life
record Shut (o k q : Bool) (l : Life) : Type 0 where
  over : l.over ≡ true → o ≡ false
  closing : k ≡ true → o ≡ false
  peer : q ≡ true → k ≡ true

kept : (x o o' b : Bool) → o' ≡ false → o ≡ false → b ≡ true → (if o' then false else (if o then x else b)) ≡ true
kept x o true b e f g = absurd cc
kept x true false b e f g = absurd cc
kept x false false b e f g = g

-- one that was open, or that no step of the container closed, was closed before
stayed : (x o o' b : Bool) → o' ≡ o → (if o' then false else (if o then x else b)) ≡ true → b ≡ true
stayed x true true b e f = absurd cc
stayed x true false b e f = absurd cc
stayed x false true b e f = absurd cc
stayed x false false b e f = f

ended : (x o o' b : Bool) → x ≡ false → o' ≡ false → (if o' then false else (if o then x else b)) ≡ true → b ≡ true
ended true o o' b z e f = absurd cc
ended false o true b z e f = absurd cc
ended false true false b z e f = absurd cc
ended false false false b z e f = f

told : (x o o' b : Bool) → o' ≡ false → o ≡ true → x ≡ true → (if o' then false else (if o then x else b)) ≡ true
told x o true b e f g = absurd cc
told x false false b e f g = absurd cc
told x true false b e f g = g

-- one by the container is over
pub over_by : (o k q : Bool) (l : Life) (b : Bool) → Stands o k q l b → l.by_peer ≡ true → l.over ≡ true
over_by o k q l b s e = by l.over refl
  where
    by : (v : Bool) → l.over ≡ v → v ≡ true
    by true f = refl
    by false f = absurd (clash _ e (s.fresh f))

falls_back : (k k' : Bool) → (k ≡ true → k' ≡ true) → k' ≡ false → k ≡ false
falls_back true k' f e = absurd (clash _ (f refl) e)
falls_back false k' f e = refl

moved : (x o o' k k' q q' : Bool) (l m : Life) (b : Bool) → Moves x o o' k k' q q' l m → (k ≡ true → k' ≡ true) → Shut o k q l → Stands o k q l b
    → Stands o' k' q' m (if o' then false else (if o then x else b))
moved x o o' k k' q q' l m b (Stays e f a) on t s = record {
  goes = λ v c. e ∙ s.goes (sym a.over ∙ v) (falls_back k k' on c);
  fresh = λ v. a.peer ∙ s.fresh (sym a.over ∙ v);
  peer = λ v. let was = sym a.peer ∙ v in let off = t.over (over_by o k q l b s was) in kept x o o' b (e ∙ off) off (s.peer was);
  all = λ v w. let was = sym f ∙ w in let off = t.closing (t.peer was) in kept x o o' b (e ∙ off) off (s.all (sym a.over ∙ v) was);
  only = λ v w. f ∙ s.only (sym a.over ∙ v) (stayed x o o' b e w);
}
moved x o o' k k' q q' l m b (Shuts e f v g) on t s = record {
  goes = λ w c. absurd (clash _ v w);
  fresh = λ w. absurd (clash _ v w);
  peer = λ w. let was = g w in kept x o o' b e (t.over (over_by o k q l b s was)) (s.peer was);
  all = λ w z. absurd (clash _ v w);
  only = λ w z. absurd (clash _ v w);
}
moved x o o' k k' q q' l m b (Ends y e c f a) on t s = record {
  goes = λ v d. absurd (clash _ c d);
  fresh = λ v. a.peer ∙ s.fresh (sym a.over ∙ v);
  peer = λ v. let was = sym a.peer ∙ v in kept x o o' b e (t.over (over_by o k q l b s was)) (s.peer was);
  all = λ v w. let was = sym f ∙ w in kept x o o' b e (t.closing (t.peer was)) (s.all (sym a.over ∙ v) was);
  only = λ v w. f ∙ s.only (sym a.over ∙ v) (ended x o o' b y e w);
}
moved x o o' k k' q q' l m b (Fails e g c f v) on t s = record {
  goes = λ w d. absurd (clash _ v w);
  fresh = λ w. absurd (clash _ v w);
  peer = λ w. told x o o' b g e c;
  all = λ w z. absurd (clash _ v w);
  only = λ w z. absurd (clash _ v w);
}
moved x o o' k k' q q' l m b (Falls n e c y f a) on t s = record {
  goes = λ v d. absurd (clash _ c d);
  fresh = λ v. a.peer ∙ s.fresh (sym a.over ∙ v);
  peer = λ v. let was = sym a.peer ∙ v in kept x o o' b e (t.over (over_by o k q l b s was)) (s.peer was);
  all = λ v w. told x o o' b e (s.goes (sym a.over ∙ v) n) y;
  only = λ v w. f;
}

-- ---- lives

one_alike : (n k : ℕ) (ls : List Life) (m : Life) → Alike (life_at ls k) m → Alike (life_at ls n) (life_at (with_life k m ls) n)
one_alike n k ls m a = by (set_at ls k n m)
  where
    by : SetAt ls k n m → Alike (life_at ls n) (life_at (with_life k m ls) n)
    by (Here e f) = subst (λ (x : Life). Alike (life_at ls n) x) (sym f) (subst (λ (i : ℕ). Alike (life_at ls i) m) e a)
    by (Elsewhere d f) = alike _ _ f
    by (Beyond e f g) = alike _ _ (g ∙ sym f)

-- one that is set is over, or another one is set
pub data Set (n k : ℕ) (ls : List Life) (m : Life) : Type 0 where
  This : k ≡ n → life_at (with_life k m ls) n ≡ m → Set n k ls m
  Other : (k == n) ≡ false → life_at (with_life k m ls) n ≡ life_at ls n → Set n k ls m

set_life : (ls : List Life) (n : ℕ) (m : Life) → n < length ls → life_at (with_life n m ls) n ≡ m
set_life [] n m e = absurd (omega (arith, e))
set_life (x ∷ ls) zero m e = refl
set_life (x ∷ ls) (suc n) m e = set_life ls n m (omega (arith, e))

pub set_in : (n k : ℕ) (ls : List Life) (m : Life) → n < length ls → Set n k ls m
set_in n k ls m less = by (same_or_not k n)
  where
    apart : k ≢ n → SetAt ls k n m → life_at (with_life k m ls) n ≡ life_at ls n
    apart d (Here e f) = absurd (d e)
    apart d (Elsewhere e f) = f
    apart d (Beyond e f g) = absurd (d e)

    by : (k ≡ n) ⊎ (k ≢ n) → Set n k ls m
    by (inl e) = This e (subst (λ (i : ℕ). life_at (with_life i m ls) n ≡ m) (sym e) (set_life ls n m less))
    by (inr d) = Other (isnt k n d) (apart d (set_at ls k n m))

pub long : (n : ℕ) (h : List Step) → n < 256 → ArePicks h → n < length (before h).lives
long n h less p = subst (λ (m : ℕ). n < m) (sym (lives_all h p)) less

-- ---- what the client's units make of it

-- a channel.close, and any other method that opens none
method_moves : (x k k' q : Bool) (ms : ℕ) (m : Method91) (l : Life) (o : Bool) → is_channel_open m ≡ false
    → Moves x o (method_opens m o) k k' q q l (method_life ms m l)
method_moves x k k' q ms method.ChannelOpen l o e = absurd cc
method_moves x k k' q ms (method.ChannelClose code text class id) l o e = Shuts refl refl refl (λ p. p)
method_moves x k k' q ms m l o e = Stays refl refl (alike l l refl)

-- by what a unit wants, that is open after it which the machine says
want_moves : (n ms : ℕ) (told : Option Told) (y : Want91) (ls : List Life) (o o' k k' q : Bool) → n < length ls → o' ≡ opens_by n y o → Freed n o y
    → (ends_all y ≡ true → k' ≡ true) → is_method_on is_channel_open n y ≡ false
    → Moves false o o' k k' q q (life_at ls n) (life_at (lives_by ms told y ls) n)
want_moves n ms told (want.Method j m) ls o o' k k' q less is free ends none = by (set_in n j ls (method_life ms m (life_at ls j)) less)
  where
    new : Life
    new = method_life ms m (life_at ls j)

    by : Set n j ls new → Moves false o o' k k' q q (life_at ls n) (life_at (with_life j new ls) n)
    by (This e f) =
        let here : (j == n) ≡ true = ap (λ (i : ℕ). i == n) e ∙ itself n in
        let is_here : o' ≡ method_opens m o = is ∙ ap (λ (b : Bool). if b then method_opens m o else o) here in
        let closed : is_channel_open m ≡ false = sym (ap (λ (b : Bool). b && is_channel_open m) here) ∙ none in
        subst (λ (b : Bool). Moves false o b k k' q q (life_at ls n) (life_at (with_life j new ls) n)) (sym is_here)
        (subst (λ (z : Life). Moves false o (method_opens m o) k k' q q (life_at ls n) z) (sym f)
        (subst (λ (i : ℕ). Moves false o (method_opens m o) k k' q q (life_at ls n) (method_life ms m (life_at ls i))) (sym e)
        (method_moves false k k' q ms m (life_at ls n) o closed)))
    by (Other d f) = Stays (is ∙ ap (λ (b : Bool). if b then method_opens m o else o) d) refl (alike _ _ f)
want_moves n ms told (want.ChannelCloseOk j) ls o o' k k' q less is free ends none = by (set_in n j ls (freed_life (life_at ls j)) less)
  where
    by : Set n j ls (freed_life (life_at ls j)) → Moves false o o' k k' q q (life_at ls n) (life_at (with_life j (freed_life (life_at ls j)) ls) n)
    by (This e f) = Shuts (is ∙ free e) refl (ap (λ (z : Life). z.over) f) (λ p. let wrong : false ≡ true = sym (ap (λ (z : Life). z.by_peer) f) ∙ p in absurd cc)
    by (Other d f) = Stays is refl (alike _ _ f)
want_moves n ms told want.Close ls o o' k k' q less is free ends none = Ends refl is (ends refl) refl (alike _ _ refl)
want_moves n ms told (want.Refuse r) ls o o' k k' q less is free ends none = by (is_of_channel r) refl
  where
    new : Life
    new = failed_life false ms (reason_of told r) (Some (condition_of r.code)) (life_at ls r.channel)

    one : o' ≡ (if r.channel == n then false else o) → Set n r.channel ls new → Moves false o o' k k' q q (life_at ls n) (life_at (with_life r.channel new ls) n)
    one f (This e g) =
        Shuts (f ∙ ap (λ (b : Bool). if b then false else o) (ap (λ (i : ℕ). i == n) e ∙ itself n)) refl (ap (λ (z : Life). z.over) g)
        (λ p. let wrong : false ≡ true = sym (ap (λ (z : Life). z.by_peer) g) ∙ p in absurd cc)
    one f (Other d g) = Stays (f ∙ ap (λ (b : Bool). if b then false else o) d) refl (alike _ _ g)

    by : (b : Bool) → is_of_channel r ≡ b → Moves false o o' k k' q q (life_at ls n) (life_at (if b then with_life r.channel new ls else ls) n)
    by true e = one (is ∙ ap (λ (b : Bool). if b then (if r.channel == n then false else o) else false) e) (set_in n r.channel ls new less)
    by false e = Ends refl (is ∙ ap (λ (b : Bool). if b then (if r.channel == n then false else o) else false) e) (ends (ap not e)) refl (alike _ _ refl)
want_moves n ms told y ls o o' k k' q less is free ends none = Stays is refl (alike _ _ refl)

-- ---- of a state

abbrev MovesIn : Bool → ℕ → State → State → Type 0
MovesIn x n w v = Moves x (is_open w.conn n) (is_open v.conn n) (is_closing w.conn) (is_closing v.conn) w.by_peer v.by_peer (life_at w.lives n) (life_at v.lives n)

came_moves : (n : ℕ) (w : State) (u : Unit91) → n < length w.conn.channels → n < length w.lives → is_method_on is_channel_open n (want_in w.routes w.paths w.conn u) ≡ false
    → MovesIn false n w (came (dequeued w) u)
came_moves n w u less inside none =
    want_moves n w.moment (client_told w.routes w.conn u) x.1 w.lives (is_open w.conn n) (is_open x.0 n) (is_closing w.conn) (is_closing x.0) w.by_peer inside
    (opens.is less) (freed n w.conn u x less (outcome w.routes w.paths w.conn u) opens) (unit_shuts w.routes w.paths w.conn u) none
  where
    x : machine.Step
    x = client_step w.routes w.paths w.conn u

    opens : Opens n w.conn x
    opens = client_opens n w.routes w.paths w.conn u

-- ---- and what the container's

-- behind a change that leaves the channel
fail_moves : (n code : ℕ) (why : Option Condition) (w v : State) → is_open v.conn n ≡ is_open w.conn n → is_closing v.conn ≡ is_closing w.conn → v.by_peer ≡ w.by_peer
    → Alike (life_at w.lives n) (life_at v.lives n) → MovesIn true n w (fail code why v)
fail_moves n code why w v e c q a = by (is_closing v.conn) refl
  where
    by : (b : Bool) → is_closing v.conn ≡ b → MovesIn true n w (if b then sessions_lost v else failed code why v)
    by true f = Stays e q a
    by false f = Falls (sym c ∙ f) (none_open n (close v.conn) (close_closes v.conn.phase)) (close_closes v.conn.phase) refl refl a

-- the container closes one channel
fail_one : (n g code : ℕ) (why : Option Condition) (f : PathState → PathState) (w v : State) → n < length w.conn.channels → n < length v.lives → v.conn ≡ w.conn
    → v.by_peer ≡ w.by_peer → Alike (life_at w.lives n) (life_at v.lives n) → MovesIn true n w (fail_life g code why f v)
fail_one n g code why f w v less inside c q a = by (is_open v.conn g) refl
  where
    new : Life
    new = failed_life true v.moment (reason_of None (refusal_on g code)) why (life_at v.lives g)

    opens : is_open (life_failed g (refusal_on g code) why f v).conn n ≡ (if g == n then false else is_open v.conn n)
    opens = closing_opens g n v.conn (subst (λ (d : Connection). n < length d.channels) (sym c) less)

    one : is_open v.conn g ≡ true → Set n g v.lives new → MovesIn true n w (life_failed g (refusal_on g code) why f v)
    one o (This e i) =
        Fails (sym (ap (λ (d : Connection). is_open d n) c) ∙ subst (λ (j : ℕ). is_open v.conn j ≡ true) e o)
        (opens ∙ ap (λ (b : Bool). if b then false else is_open v.conn n) (ap (λ (j : ℕ). j == n) e ∙ itself n)) refl q (ap (λ (z : Life). z.over) i)
    one o (Other d i) =
        Stays (opens ∙ ap (λ (b : Bool). if b then false else is_open v.conn n) d ∙ ap (λ (x : Connection). is_open x n) c) q
        (record { over = ap (λ (z : Life). z.over) i ∙ a.over; peer = ap (λ (z : Life). z.by_peer) i ∙ a.peer })

    by : (b : Bool) → is_open v.conn g ≡ b → MovesIn true n w (if b then life_failed g (refusal_on g code) why f v else v)
    by true o = one o (set_in n g v.lives new inside)
    by false o = Stays (ap (λ (d : Connection). is_open d n) c) q a

session_moves : (n g : ℕ) (p : Parts) (payload : List ℕ) (w : State) → n < length w.conn.channels → n < length w.lives → MovesIn true n w (with_session g p payload w)
session_moves n g p payload w less inside = by (link_scope p payload (life_at w.lives g).session (path_at w.paths g))
  where
    c : State
    c = carried g p payload w

    d : State
    d = windowed g p w

    long : (m : Life) → n < length (with_life g m w.lives)
    long m = subst (λ (i : ℕ). n < i) (sym (set_all w.lives g m)) inside

    same : Alike (life_at w.lives n) (life_at c.lives n)
    same = one_alike n g w.lives _ (record { over = refl; peer = refl })

    begins : Alike (life_at w.lives n) (life_at (begun_session g c).lives n)
    begins =
        let more = one_alike n g c.lives (begun_life (life_at c.lives g)) (record { over = refl; peer = refl }) in
        record { over = more.over ∙ same.over; peer = more.peer ∙ same.peer }

    closed : (o : Option ℕ) → MovesIn true n w (closed_for g o c)
    closed None = Stays refl refl same
    closed (Some code) = fail_one n g code None closed_path w c less (long _) refl refl same

    met : (b : Bool) (o : Option ℕ) → MovesIn true n w (if b then begun_session g c else closed_for g o c)
    met true o = Stays refl refl begins
    met false o = closed o

    by : (o : Option Scope) → MovesIn true n w (scoped o g p payload w)
    by None = met (p.0 == 17) (closing_code p payload (path_at w.paths g))
    by (Some scope.Connection) = fail_moves n INTERNAL_ERROR (Some (closing_error p (path_at w.paths g))) w d refl refl refl same
    by (Some scope.Channel) =
        fail_one n g PRECONDITION_FAILED (Some (ending_error p payload (life_at w.lives g).session (path_at w.paths g))) closed_path w (session_lost g d) less (long _) refl refl same

meaning_moves : (n : ℕ) (m : Meaning) (w : State) → n < length w.conn.channels → n < length w.lives → is_late w.conn.phase ≡ true → MovesIn true n w (with_meaning m w)
meaning_moves n ten.Nothing w less inside late = Stays refl refl (alike _ _ refl)
meaning_moves n ten.Init w less inside late = Stays refl refl (alike _ _ refl)
meaning_moves n ten.AmqpHeader w less inside late = Stays refl refl (alike _ _ refl)
meaning_moves n ten.Opened w less inside late = by (is_opening w.conn) refl
  where
    by : (b : Bool) → is_opening w.conn ≡ b → MovesIn true n w (if b then runs w else w)
    by true e = absurd (clash _ late (ap is_late (opening_phase w.conn e)))
    by false e = Stays refl refl (alike _ _ refl)
meaning_moves n (ten.OfSession g q payload) w less inside late = session_moves n g q payload w less inside
meaning_moves n (ten.Closed x) w less inside late = fail_moves n _ _ w w refl refl refl (alike _ _ refl)
meaning_moves n ten.Refused w less inside late = fail_moves n _ _ w w refl refl refl (alike _ _ refl)
meaning_moves n (ten.Violation c) w less inside late = fail_moves n _ _ w w refl refl refl (alike _ _ refl)

-- ---- units that go

given_alike : (n : ℕ) (u : Reply) (ls : List Life) → Alike (life_at ls n) (life_at (without_life u ls) n)
given_alike n (reply.ChannelOpenOk k) ls = one_alike n k ls _ (record { over = refl; peer = refl })
given_alike n (reply.ChannelCloseOk k) ls = one_alike n k ls _ (record { over = refl; peer = refl })
given_alike n (reply.CrossedOk k) ls = one_alike n k ls _ (record { over = refl; peer = refl })
given_alike n (reply.ChannelClose k r) ls = one_alike n k ls _ (record { over = refl; peer = refl })
given_alike n u ls = alike _ _ refl

begun_alike : (n : ℕ) (u : UpUnit) (ls : List Life) → Alike (life_at ls n) (life_at (without_begin u ls) n)
begun_alike n (up.OnSession k u) ls = one_alike n k ls _ (record { over = refl; peer = refl })
begun_alike n (up.Flow k i o) ls = one_alike n k ls _ (record { over = refl; peer = refl })
begun_alike n (up.Begin k) ls = one_alike n k ls _ (record { over = refl; peer = refl })
begun_alike n (up.End k why) ls = one_alike n k ls _ (record { over = refl; peer = refl })
begun_alike n u ls = alike _ _ refl

-- ---- all steps

-- the client's end is taken up, or the pair runs out of memory
leaves : (n : ℕ) (w v : State) → is_closing v.conn ≡ true → v.by_peer ≡ w.by_peer → Alike (life_at w.lives n) (life_at v.lives n) → MovesIn false n w v
leaves n w v c q a = Ends refl (none_open n v.conn c) c q a

still : (x : Bool) (n : ℕ) (w : State) → MovesIn x n w w
still x n w = Stays refl refl (alike _ _ refl)

-- a step that opens no channel n, which has a life
step_moves : (n : ℕ) (s : Step) (h : List Step) → n < 256 → ArePicks (s ∷ h) → is_some (path_life h n) ≡ true → opens_channel n h s ≡ false
    → MovesIn (is_containers s) n (before h) (before (s ∷ h))
step_moves n (Began site number ms) h less p there none = absurd (let wrong : false ≡ true = sym (ap (λ (x : List Step). is_some (path_life x n)) p.0) ∙ there in cc)
step_moves n (Moment ms) h less p there none = by (is_limit_reached (before h).conn (before h).accepted_at ms)
  where
    after : Bool → Connection
    after b = close_if b (before h).conn

    by : (b : Bool) → Moves false (is_open (before h).conn n) (is_open (after b) n) (is_closing (before h).conn) (is_closing (after b)) (before h).by_peer (before h).by_peer
        (life_at (before h).lives n) (life_at (before h).lives n)
    by true = Ends refl (none_open n (close (before h).conn) (close_closes (before h).conn.phase)) (close_closes (before h).conn.phase) refl (alike _ _ refl)
    by false = Stays refl refl (alike _ _ refl)
step_moves n (Fed Client) h less p there none = Stays refl refl (alike _ _ refl)
step_moves n (Silent Client) h less p there none = leaves n (before h) (before (Silent Client ∷ h)) refl refl (alike _ _ refl)
step_moves n (Silent Up) h less p there none = fail_moves n _ _ (before h) _ refl refl refl (alike _ _ refl)
step_moves n (Queued u) h less p there none = by (before h).out_of_memory
  where
    by : (b : Bool) → MovesIn false n (before h) (if b then before h else record (before h) { queue = (before h).queue ++ u ∷ [] })
    by true = still false n (before h)
    by false = Stays refl refl (alike _ _ refl)
step_moves n (Came u) h less p there none = by (before h).out_of_memory refl
  where
    k : Known h
    k = known h p.1

    w : State
    w = before h

    same_want : want_in w.routes w.paths w.conn u ≡ want_in (routes_in h) (paths_in h) (connection h) u
    same_want =
        ap (λ (rs : List Route). want_in rs w.paths w.conn u) (routes_are k)
        ∙ ap (λ (ps : List (Option PathState)). want_in (routes_in h) ps w.conn u) (paths_are k)
        ∙ ap (λ (c : Connection). want_in (routes_in h) (paths_in h) c u) (conn_is k)

    by : (b : Bool) → w.out_of_memory ≡ b → MovesIn false n w (if b then w else came (dequeued w) u)
    by true e = still false n w
    by false e =
        let unopened : is_method_on is_channel_open n (want_in w.routes w.paths w.conn u) ≡ false =
        ap (is_method_on is_channel_open n) same_want ∙ sym (ap (λ (b : Bool). not b && is_method_on is_channel_open n (want_in (routes_in h) (paths_in h) (connection h) u)) (sym (memory_is k) ∙ e)) ∙ none in
        came_moves n w u (inside n h less p.1) (long n h less p.1) unopened
step_moves n TakenUp h less p there none = by (not (before h).out_of_memory && (before h).leaving)
  where
    by : (b : Bool) → MovesIn false n (before h) (if b then left (before h) else before h)
    by true = leaves n (before h) (left (before h)) refl refl (alike _ _ refl)
    by false = still false n (before h)
step_moves n (Heard u) h less p there none = by (before h).out_of_memory
  where
    by : (b : Bool) → MovesIn true n (before h) (if b then before h else heard (before h) u)
    by true = still true n (before h)
    by false =
        meaning_moves n (meaning_by (before h).up.container u) (record (before h) { up = heard_up u (before h).up }) (inside n h less p.1) (long n h less p.1)
        (ap (λ (c : Connection). is_late c.phase) (conn_is (known h p.1)) ∙ late_is n h less p.1 there)
step_moves n (Joined link.Ok) h less p there none = Stays refl refl (alike _ _ refl)
step_moves n (Joined link.Failed) h less p there none = fail_moves n _ _ (before h) _ refl refl refl (alike _ _ refl)
step_moves n (Lost Client loss.Ended) h less p there none = Stays refl refl (alike _ _ refl)
step_moves n (Lost Up loss.Ended) h less p there none = fail_moves n _ _ (before h) _ refl refl refl (alike _ _ refl)
step_moves n (Lost Up loss.Failed) h less p there none = fail_moves n _ _ (before h) _ refl refl refl (alike _ _ refl)
step_moves n (Gave (ToClient u) text) h less p there none =
    Stays ((given_open n u (before h).conn).is (inside n h less p.1)) refl (given_alike n u (before h).lives)
step_moves n (Gave (ToUp u) text) h less p there none = Stays refl refl (begun_alike n u (before h).lives)
step_moves n (Whole Client) h less p there none = Stays refl refl (alike _ _ refl)
step_moves n OutOfMemory h less p there none = leaves n (before h) (before (OutOfMemory ∷ h)) (close_closes (before h).conn.phase) refl (alike _ _ refl)
step_moves n s h less p there none = Stays refl refl (alike _ _ refl)

-- ---- a connection that the container closed is closing

abbrev Closes : State → Type 0
Closes w = w.by_peer ≡ true → is_closing w.conn ≡ true

fail_closes : (code : ℕ) (why : Option Condition) (w : State) → Closes w → Closes (fail code why w)
fail_closes code why w c = by (is_closing w.conn)
  where
    by : (b : Bool) → Closes (if b then sessions_lost w else failed code why w)
    by true = c
    by false = λ q. close_closes w.conn.phase

meaning_peer : (m : Meaning) (w : State) → Closes w → Closes (with_meaning m w)
meaning_peer ten.Nothing w c = c
meaning_peer ten.Init w c = c
meaning_peer ten.AmqpHeader w c = c
meaning_peer ten.Opened w c = by (is_opening w.conn) refl
  where
    by : (b : Bool) → is_opening w.conn ≡ b → Closes (if b then runs w else w)
    by true e = λ q. absurd (opening_early w.conn e (c q))
    by false e = c
meaning_peer (ten.OfSession g p payload) w c = session_cases Closes g p payload w (record {
  begins = c;
  stays = c;
  ends = λ code why q. closing_only (only_closing g w.conn) ∙ c q;
  parts = c;
  drops = λ code why q. closing_only (only_closing g w.conn) ∙ c q;
  fails = λ why. fail_closes _ why (windowed g p w) c;
})
meaning_peer (ten.Closed x) w c = fail_closes _ _ w c
meaning_peer ten.Refused w c = fail_closes _ _ w c
meaning_peer (ten.Violation x) w c = fail_closes _ _ w c

if_closes : (b : Bool) (w v : State) → Closes w → Closes v → Closes (if b then w else v)
if_closes true w v c d = c
if_closes false w v c d = d

none_at_first : (h : List Step) → h ≡ [] → (before h).by_peer ≡ false
none_at_first h e = ap (λ (x : List Step). (before x).by_peer) e

pub peer_closes : (h : List Step) → ArePicks h → Closes (before h)
peer_closes [] p = λ q. absurd cc
peer_closes (Began site number ms ∷ h) p = λ q. absurd (clash _ q (none_at_first h p.0))
peer_closes (Moment ms ∷ h) p = by (is_limit_reached (before h).conn (before h).accepted_at ms) (peer_closes h p.1)
  where
    by : (b : Bool) → Closes (before h) → (before h).by_peer ≡ true → is_closing (close_if b (before h).conn) ≡ true
    by true c q = close_closes (before h).conn.phase
    by false c q = c q
peer_closes (Fed Client ∷ h) p = peer_closes h p.1
peer_closes (Silent Client ∷ h) p = λ q. refl
peer_closes (Silent Up ∷ h) p = fail_closes _ _ _ (peer_closes h p.1)
peer_closes (Queued u ∷ h) p = if_closes (before h).out_of_memory _ _ (peer_closes h p.1) (peer_closes h p.1)
peer_closes (Came u ∷ h) p =
    if_closes (before h).out_of_memory (before h) (came (dequeued (before h)) u) (peer_closes h p.1)
    (λ q. step_closes (before h).routes (before h).paths (before h).conn u (peer_closes h p.1 q))
peer_closes (TakenUp ∷ h) p = if_closes (not (before h).out_of_memory && (before h).leaving) (left (before h)) (before h) (λ q. refl) (peer_closes h p.1)
peer_closes (Heard u ∷ h) p =
    if_closes (before h).out_of_memory (before h) (heard (before h) u) (peer_closes h p.1)
    (meaning_peer (meaning_by (before h).up.container u) (record (before h) { up = heard_up u (before h).up }) (peer_closes h p.1))
peer_closes (Joined link.Ok ∷ h) p = peer_closes h p.1
peer_closes (Joined link.Failed ∷ h) p = fail_closes _ _ _ (peer_closes h p.1)
peer_closes (Lost Client loss.Ended ∷ h) p = peer_closes h p.1
peer_closes (Lost Up loss.Ended ∷ h) p = fail_closes _ _ _ (peer_closes h p.1)
peer_closes (Lost Up loss.Failed ∷ h) p = fail_closes _ _ _ (peer_closes h p.1)
peer_closes (Gave (ToClient u) text ∷ h) p = λ q. closing_only (only_given u (before h).conn) ∙ peer_closes h p.1 q
peer_closes (Gave (ToUp u) text ∷ h) p = peer_closes h p.1
peer_closes (Whole Client ∷ h) p = peer_closes h p.1
peer_closes (OutOfMemory ∷ h) p = λ q. close_closes (before h).conn.phase
peer_closes (s ∷ h) p = peer_closes h p.1

-- ---- a channel that is opened

record Fresh (l : Life) : Type 0 where
  over : l.over ≡ false
  peer : l.by_peer ≡ false

method_fresh : (ms : ℕ) (b : Bool) (m : Method91) (l : Life) → (b && is_channel_open m) ≡ true → Fresh (method_life ms m l)
method_fresh ms true method.ChannelOpen l e = record { over = refl; peer = refl }
method_fresh ms true m l e = absurd cc
method_fresh ms false m l e = absurd cc

want_fresh : (n ms : ℕ) (told : Option Told) (y : Want91) (ls : List Life) → n < length ls → is_method_on is_channel_open n y ≡ true → Fresh (life_at (lives_by ms told y ls) n)
want_fresh n ms told (want.Method j m) ls less e = by (set_in n j ls (method_life ms m (life_at ls j)) less)
  where
    by : Set n j ls (method_life ms m (life_at ls j)) → Fresh (life_at (with_life j (method_life ms m (life_at ls j)) ls) n)
    by (This f g) = subst Fresh (sym g) (method_fresh ms (j == n) m (life_at ls j) e)
    by (Other d g) = absurd (let wrong : (false && is_channel_open m) ≡ true = sym (ap (λ (b : Bool). b && is_channel_open m) d) ∙ e in cc)
want_fresh n ms told y ls less e = absurd cc

record Opened (n : ℕ) (w : State) : Type 0 where
  open_is : is_open w.conn n ≡ true
  life : Fresh (life_at w.lives n)

came_opened : (n : ℕ) (u : Unit91) (h : List Step) → n < 256 → ArePicks h → opens_channel n h (Came u) ≡ true → Opened n (before (Came u ∷ h))
came_opened n u h less p e = by (ran_out_in h) (memory_is k) e
  where
    k : Known h
    k = known h p

    w : State
    w = before h

    x : Want91
    x = want_in w.routes w.paths w.conn u

    same_want : x ≡ want_in (routes_in h) (paths_in h) (connection h) u
    same_want =
        ap (λ (rs : List Route). want_in rs w.paths w.conn u) (routes_are k)
        ∙ ap (λ (ps : List (Option PathState)). want_in (routes_in h) ps w.conn u) (paths_are k)
        ∙ ap (λ (c : Connection). want_in (routes_in h) (paths_in h) c u) (conn_is k)

    made : is_method_on is_channel_open n x ≡ true → Opened n (came (dequeued w) u)
    made g = record {
      open_is = (client_opens n w.routes w.paths w.conn u).is (inside n h less p) ∙ want_begins n x (is_open w.conn n) g;
      life = want_fresh n w.moment (client_told w.routes w.conn u) x w.lives (long n h less p) g;
    }

    by : (m : Bool) → w.out_of_memory ≡ m → (not m && is_method_on is_channel_open n (want_in (routes_in h) (paths_in h) (connection h) u)) ≡ true
        → Opened n (if w.out_of_memory then w else came (dequeued w) u)
    by true f g = absurd cc
    by false f g = subst (λ (m : Bool). Opened n (if m then w else came (dequeued w) u)) (sym f) (made (ap (is_method_on is_channel_open n) same_want ∙ g))

opened_is : (n : ℕ) (s : Step) (h : List Step) → n < 256 → ArePicks h → opens_channel n h s ≡ true → Opened n (before (s ∷ h))
opened_is n (Came u) h less p e = came_opened n u h less p e
opened_is n s h less p e = absurd cc

-- ---- all steps

abbrev pub StandsIn : ℕ → List Step → Type 0
StandsIn n h = Stands (is_open (before h).conn n) (is_closing (before h).conn) (before h).by_peer (life_at (before h).lives n) (by_container h n)

most_is : (n : ℕ) → n < 256 → n ≤ CHANNEL_MAX
most_is n less = let most : CHANNEL_MAX ≡ 255 = refl in omega (arith, less, most)

shut_of : (n : ℕ) (h : List Step) → n < 256 → ArePicks h → is_some (path_life h n) ≡ true
    → Shut (is_open (before h).conn n) (is_closing (before h).conn) (before h).by_peer (life_at (before h).lives n)
shut_of n h less p there = record { over = λ v. by v (is_open (before h).conn n) refl; closing = none_open n (before h).conn; peer = peer_closes h p }
  where
    by : (life_at (before h).lives n).over ≡ true → (b : Bool) → is_open (before h).conn n ≡ b → b ≡ false
    by v true f = absurd (clash _ v (goes_on h n p (most_is n less) there (sym (ap (λ (c : Connection). is_open c n) (conn_is (known h p))) ∙ f)))
    by v false f = refl

pub stands : (n : ℕ) (h : List Step) → n < 256 → ArePicks h → is_some (path_life h n) ≡ true → StandsIn n h
stands n [] less p there = absurd cc
stands n (s ∷ h) less p there = by (stands n h less p.1) (opens_channel n h s) refl there
  where
    -- by the state's connections
    is : by_container (s ∷ h) n ≡ (if is_open (before (s ∷ h)).conn n then false else (if is_open (before h).conn n then is_containers s else by_container h n))
    is =
        ap (λ (c : Connection). if is_open c n then false else (if is_open (connection h) n then is_containers s else by_container h n)) (sym (conn_is (known (s ∷ h) p)))
        ∙ ap (λ (c : Connection). if is_open (before (s ∷ h)).conn n then false else (if is_open c n then is_containers s else by_container h n)) (sym (conn_is (known h p.1)))

    on : is_closing (before h).conn ≡ true → is_closing (before (s ∷ h)).conn ≡ true
    on c = ap is_closing (conn_is (known (s ∷ h) p)) ∙ closes_on s h p (sym (ap is_closing (conn_is (known h p.1))) ∙ c)

    made : Opened n (before (s ∷ h)) → StandsIn n (s ∷ h)
    made o = record {
      goes = λ v c. o.open_is;
      fresh = λ v. o.life.peer;
      peer = λ v. absurd (clash _ v o.life.peer);
      all = λ v q. absurd (clash _ o.open_is (none_open n (before (s ∷ h)).conn (peer_closes (s ∷ h) p q)));
      only = λ v b. absurd (clash _ b (is
          ∙ ap (λ (i : Bool). if i then false else (if is_open (before h).conn n then is_containers s else by_container h n)) o.open_is));
    }

    by : (is_some (path_life h n) ≡ true → StandsIn n h) → (b : Bool) → opens_channel n h s ≡ b
        → is_some (if b then Some ((peers h).opened + 1) else path_life h n) ≡ true → StandsIn n (s ∷ h)
    by old true f t = made (opened_is n s h less p.1 f)
    by old false f t =
        subst (Stands (is_open (before (s ∷ h)).conn n) (is_closing (before (s ∷ h)).conn) (before (s ∷ h)).by_peer (life_at (before (s ∷ h)).lives n)) (sym is)
        (moved (is_containers s) _ _ _ _ _ _ _ _ (by_container h n) (step_moves n s h less p t f) on (shut_of n h less p.1 t) (old t))
