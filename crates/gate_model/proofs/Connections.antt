-- What units, closing events and the handshake limit leave of a connection.
use Rattle.std.proofs.Common.{◌≡◌, ℕ, ◌-◌, ◌≤◌, nat_le, Bool, true, false, not, ◌&&◌, ◌||◌, Option}
use Rattle.std.proofs.Common.{List, None, Some, refl, sym, ap, ◌∙◌, subst, arith}
use Rattle.std.specs.Prelude.{is_some}
use Rattle.std.proofs.lemmas.Bool.Decides.{nat_tests}
use Rattle.machine_091.specs.Calls.{after_closed, after_ended, after_opened, after_told}
use Rattle.machine_091.specs.Calls.{closing_contents, closing_phase, freed_channel, opened_phase, told_channel}
use Rattle.machine_091.specs.declared.state.Channel91.{Channel91}
use Rattle.machine_091.specs.declared.state.Channel91.TheVariants as channel
use Rattle.gate_model.specs.declared.reply.Reply.{Reply}
use Rattle.gate_model.specs.declared.reply.Reply.TheVariants as reply
use Rattle.machine_091.specs.State.{awaits, channel_at, is_closing, is_closing_phase, is_open_phase, is_opening}
use Rattle.machine_091.specs.Transitions.{stream_after}
use Rattle.machine_091.specs.Transitions as machine
use Rattle.machine_091.specs.declared.state.Connection.{Connection}
use Rattle.machine_091.specs.declared.state.Phase91.{Phase91}
use Rattle.machine_091.specs.declared.state.Phase91.TheVariants as phase
use Rattle.machine_091.specs.declared.state.Stream91.{Stream91}
use Rattle.machine_091.specs.declared.state.Stream91.TheVariants as stream
use Rattle.machine_091.specs.declared.unit.Unit91.{Unit91}
use Rattle.machine_091.specs.declared.unit.Unit91.TheVariants as unit
use Rattle.gate_model.specs.declared.timers.TheConstants.{HANDSHAKE_LIMIT}
use Rattle.gate_model.specs.Picks.{MayComeAs}
use Rattle.gate_model.specs.Requests.{client_step}
use Rattle.gate_model.specs.State.{close, close_if, closes_at, conn_given, conn_step, has_left, is_limit_reached}
use Rattle.session_path.specs.Path.{PathState}
use Rattle.gate_model.specs.declared.setup.Route.{Route}
use Rattle.gate_model.proofs.Outcomes.{OnlyChannels, none_differ, one_differs, Outcome, Greets, Parts, LogsIn, Tunes, Asks, Refuses}
use Rattle.gate_model.proofs.Outcomes.{Declines, Drops, Parting, Closes, Answers, Ignores, outcome}

-- ---- phases

other_phase : (p q : Phase91) → p ≡ q → is_closing_phase q ≡ false → is_closing_phase p ≡ true → ⊥
other_phase p q e never is = let wrong : true ≡ false = sym is ∙ ap is_closing_phase e ∙ never in absurd cc

pub clash : (b : Bool) → b ≡ true → b ≡ false → ⊥
clash b is isnt = absurd cc

pub close_closes : (p : Phase91) → is_closing_phase (closing_phase p) ≡ true
close_closes phase.Header = refl
close_closes x = refl

-- a connection that is closing stays as it is
pub close_same : (c : Connection) → is_closing c ≡ true → close c ≡ c
close_same c = by c.phase
  where
    by : (p : Phase91) → is_closing_phase p ≡ true
        → record c { phase = closing_phase p; contents = closing_contents p c.contents } ≡ record c { phase = p }
    by phase.Closing e = refl
    by phase.Closed e = refl
    by x e = absurd cc

-- ---- the container opened

pub opening_phase : (c : Connection) → is_opening c ≡ true → c.phase ≡ phase.Open
opening_phase c = by c.phase c.asked
  where
    by : (p : Phase91) (b : Bool) → (is_open_phase p && b) ≡ true → p ≡ phase.Open
    by phase.Open b e = refl
    by x b e = absurd cc

pub opening_early : (c : Connection) → is_opening c ≡ true → is_closing c ≡ true → ⊥
opening_early c e k = other_phase c.phase phase.Open (opening_phase c e) refl k

pub opened_runs : (most : ℕ) (c : Connection) → is_opening c ≡ true → (after_opened most c).phase ≡ phase.Running
opened_runs most c = by c.phase c.asked
  where
    by : (p : Phase91) (b : Bool) → (is_open_phase p && b) ≡ true → opened_phase b p ≡ phase.Running
    by phase.Open true e = refl
    by phase.Open false e = absurd cc
    by phase.Running b e = refl
    by x b e = absurd cc

-- ---- channels

only_told : (n : ℕ) (c : Connection) → OnlyChannels c (after_told n c)
only_told n c = by (channel_at c n)
  where
    by : (s : Channel91) → OnlyChannels c (told_channel s n c)
    by channel.Free = none_differ c
    by channel.Open = none_differ c
    by channel.Closing = one_differs c n channel.Told
    by channel.Told = none_differ c

only_closed : (n : ℕ) (c : Connection) → OnlyChannels c (after_closed n c)
only_closed n c = by (channel_at c n)
  where
    by : (s : Channel91) → OnlyChannels c (freed_channel s n c)
    by channel.Free = none_differ c
    by channel.Open = none_differ c
    by channel.Closing = one_differs c n channel.Free
    by channel.Told = none_differ c

-- so it is where a unit went to the client
pub only_given : (u : Reply) (c : Connection) → OnlyChannels c (conn_given u c)
only_given (reply.ChannelCloseOk n) c = only_closed n c
only_given (reply.ChannelClose n r) c = only_told n c
only_given x c = none_differ c

pub phase_only : {c d : Connection} → OnlyChannels c d → d.phase ≡ c.phase
phase_only o = ap (λ (x : Connection). x.phase) o.same

pub stream_only : {c d : Connection} → OnlyChannels c d → d.stream ≡ c.stream
stream_only o = ap (λ (x : Connection). x.stream) o.same

pub limits_only : {c d : Connection} → OnlyChannels c d → d.limits ≡ c.limits
limits_only o = ap (λ (x : Connection). x.limits) o.same

asked_only : {c d : Connection} → OnlyChannels c d → d.asked ≡ c.asked
asked_only o = ap (λ (x : Connection). x.asked) o.same

pub closing_only : {c d : Connection} → OnlyChannels c d → is_closing d ≡ is_closing c
closing_only o = ap is_closing_phase (phase_only o)

-- ---- after a unit

abbrev Next : machine.Step → Connection
Next x = x.0

pub step_closes : (rs : List Route) (ps : List (Option PathState)) (c : Connection) (u : Unit91) → is_closing c ≡ true → is_closing (conn_step rs ps c u) ≡ true
step_closes rs ps c u k = by (client_step rs ps c u) (outcome rs ps c u)
  where
    by : (x : machine.Step) → Outcome c u x → is_closing (Next x) ≡ true
    by _ (Greets e) = absurd (other_phase c.phase phase.Header e refl k)
    by _ (Parts e) = refl
    by _ (LogsIn m r e) = absurd (other_phase c.phase phase.Start e refl k)
    by _ (Tunes l e) = absurd (other_phase c.phase phase.Tune e refl k)
    by _ (Refuses r a f e g) = refl
    by _ (Declines r d o e g) = close_closes d.phase
    by _ (Drops r d o e g) = closing_only o ∙ k
    by _ (Parting e) = refl
    by _ (Closes e) = refl
    by _ (Answers e) = refl
    by _ x = k

-- a closing connection isn't asked to open any more
pub step_asked : (rs : List Route) (ps : List (Option PathState)) (c : Connection) (u : Unit91) → is_closing c ≡ true → (conn_step rs ps c u).asked ≡ c.asked
step_asked rs ps c u k = by (client_step rs ps c u) (outcome rs ps c u)
  where
    by : (x : machine.Step) → Outcome c u x → (Next x).asked ≡ c.asked
    by _ (Asks e) = absurd (other_phase c.phase phase.Open e refl k)
    by _ (Refuses r a f e g) = absurd (clash (is_closing c) k e)
    by _ (Declines r d o e g) = asked_only o
    by _ (Drops r d o e g) = asked_only o
    by _ x = refl

pub step_stays_asked : (rs : List Route) (ps : List (Option PathState)) (c : Connection) (u : Unit91) → c.asked ≡ true → (conn_step rs ps c u).asked ≡ true
step_stays_asked rs ps c u k = by (client_step rs ps c u) (outcome rs ps c u)
  where
    by : (x : machine.Step) → Outcome c u x → (Next x).asked ≡ true
    by _ (Asks e) = refl
    by _ (Refuses r a f e g) = f k
    by _ (Declines r d o e g) = asked_only o ∙ k
    by _ (Drops r d o e g) = asked_only o ∙ k
    by _ x = k

stays_here : (u : Unit91) (s : Stream91) → has_left (stream_after u s) ≡ true → has_left s ≡ true
stays_here unit.Protocol stream.Header e = absurd cc
stays_here unit.Protocol stream.Frames e = absurd cc
stays_here unit.Protocol stream.Foreign e = absurd cc
stays_here unit.Protocol stream.Bad e = absurd cc
stays_here unit.Protocol stream.Answered e = absurd cc
stays_here unit.Protocol stream.Ended e = refl
stays_here (unit.Frame f) s e = e
stays_here (unit.Bad code) s e = absurd cc

-- no unit ends the client's end
pub step_here : (rs : List Route) (ps : List (Option PathState)) (c : Connection) (u : Unit91) → has_left (conn_step rs ps c u).stream ≡ true → has_left c.stream ≡ true
step_here rs ps c u = by (client_step rs ps c u) (outcome rs ps c u)
  where
    by : (x : machine.Step) → Outcome c u x → has_left (Next x).stream ≡ true → has_left c.stream ≡ true
    by _ (Greets e) k = absurd cc
    by _ (Parts e) k = absurd cc
    by _ (Refuses r a f e g) k = stays_here u c.stream k
    by _ (Declines r d o e g) k = sym (ap has_left (stream_only o)) ∙ k
    by _ (Drops r d o e g) k = sym (ap has_left (stream_only o)) ∙ k
    by _ (Answers e) k = absurd cc
    by _ (Ignores e) k = stays_here u c.stream k
    by _ x k = k

-- nothing is awaited of an end that ended
pub none_comes : (c : Connection) (u : Unit91) → has_left c.stream ≡ true → MayComeAs (awaits c) u → ⊥
none_comes c u = by c.stream
  where
    by : (s : Stream91) → has_left s ≡ true → MayComeAs (awaits (record c { stream = s })) u → ⊥
    by stream.Ended e m = m
    by x e m = absurd cc

-- ---- closing events

pub asked_if : (b : Bool) (c : Connection) → (close_if b c).asked ≡ c.asked
asked_if true c = refl
asked_if false c = refl

pub stream_if : (b : Bool) (c : Connection) → (close_if b c).stream ≡ c.stream
stream_if true c = refl
stream_if false c = refl

-- an end that was taken up is closed whatever comes then
pub ended_if : (b : Bool) (c : Connection) → after_ended c ≡ c → after_ended (close_if b c) ≡ close_if b c
ended_if b c e = subst (λ (x : Connection). after_ended (close_if b x) ≡ close_if b x) e (by b)
  where
    by : (b : Bool) → after_ended (close_if b (after_ended c)) ≡ close_if b (after_ended c)
    by true = refl
    by false = refl

-- ---- the moment of the closing event

pub closes_again : (o : Option ℕ) (b : Bool) (ms : ℕ) → (b ≡ true → is_some o ≡ true) → closes_at o b ms ≡ o
closes_again (Some at) b ms f = refl
closes_again None true ms f = absurd (clash false (f refl) refl)
closes_again None false ms f = refl

pub closes_some : (o : Option ℕ) (b : Bool) (ms : ℕ) → b ≡ true → is_some (closes_at o b ms) ≡ true
closes_some (Some at) b ms e = refl
closes_some None true ms e = refl
closes_some None false ms e = absurd cc

-- ---- the handshake limit

pub implied : (a b : Bool) → (a ≡ true → b ≡ true) → (a || b) ≡ b
implied true b f = sym (f refl)
implied false b f = refl

le_later : (n a m ms : ℕ) → m ≤ ms → nat_le n (m - a) ≡ true → nat_le n (ms - a) ≡ true
le_later n a m ms le e = grind (arith, nat_tests)

pub late_later : (c : Connection) (a m ms : ℕ) → m ≤ ms → is_limit_reached c a m ≡ true → is_limit_reached c a ms ≡ true
late_later c a m ms le = by c.asked
  where
    by : (b : Bool) → (not b && nat_le HANDSHAKE_LIMIT (m - a)) ≡ true → (not b && nat_le HANDSHAKE_LIMIT (ms - a)) ≡ true
    by true e = e
    by false e = le_later HANDSHAKE_LIMIT a m ms le e

-- a unit neither reaches the limit nor takes it back
pub late_step : (rs : List Route) (ps : List (Option PathState)) (c : Connection) (u : Unit91) (a ms : ℕ) → (is_limit_reached c a ms ≡ true → is_closing c ≡ true)
    → is_limit_reached (conn_step rs ps c u) a ms ≡ is_limit_reached c a ms
late_step rs ps c u a ms k = by c.asked (nat_le HANDSHAKE_LIMIT (ms - a)) refl refl
  where
    by : (b le : Bool) → c.asked ≡ b → nat_le HANDSHAKE_LIMIT (ms - a) ≡ le → is_limit_reached (conn_step rs ps c u) a ms ≡ is_limit_reached c a ms
    by true le e f = ap (λ x. not x && nat_le HANDSHAKE_LIMIT (ms - a)) (step_stays_asked rs ps c u e) ∙ sym (ap (λ x. not x && nat_le HANDSHAKE_LIMIT (ms - a)) e)
    by false true e f =
        let closing : is_closing c ≡ true = k (ap (λ x. not x && nat_le HANDSHAKE_LIMIT (ms - a)) e ∙ f) in
        ap (λ x. not x && nat_le HANDSHAKE_LIMIT (ms - a)) (step_asked rs ps c u closing)
    by false false e f = none (conn_step rs ps c u).asked ∙ sym (none c.asked)
      where
        none : (x : Bool) → (not x && nat_le HANDSHAKE_LIMIT (ms - a)) ≡ false
        none true = refl
        none false = f
