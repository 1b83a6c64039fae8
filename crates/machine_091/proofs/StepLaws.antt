-- What holds of each step of a connection.
use Rattle.std.proofs.Common.{◌≡◌, ℕ, List, [], Bool, true, false, ◌&&◌, cond, eqb, Option, Some}
use Rattle.std.proofs.Common.{refl, sym, ◌∙◌, ap, subst, arith, inl, inr}
use Rattle.std.proofs.lemmas.Bool.Decides.{nat_tests}
use Rattle.frames_091.specs.declared.frame.Kind91.{Kind91}
use Rattle.frames_091.specs.declared.frame.Kind91.TheVariants as frame
use Rattle.close_translate.specs.declared.conditions.Scope.{Scope}
use Rattle.close_translate.specs.declared.conditions.Scope.TheVariants as scope
use Rattle.machine_091.specs.Calls.{closing_channel, after_closing}
use Rattle.machine_091.specs.Laws.{ClosesConnection, ClosesChannel, Closes, StaysClosed}
use Rattle.machine_091.specs.Limits.{AreWithin, is_agreed, agreed_limits}
use Rattle.machine_091.specs.Refusals.{refusal_by, refusal_of, refusal_with, publish_refusal}
use Rattle.machine_091.specs.Refusals.{channel_refusal, channel_of, refusal_by_order, unit_ruling}
use Rattle.machine_091.specs.RefusalsOpening.{is_login}
use Rattle.machine_091.specs.State.{is_running, is_closing_phase, is_open_channel, is_open}
use Rattle.machine_091.specs.State.{channel_at}
use Rattle.machine_091.specs.Transitions.{Step, unit_step}
use Rattle.machine_091.specs.Transitions as machine
use Rattle.machine_091.specs.declared.state.Channel91.{Channel91}
use Rattle.machine_091.specs.declared.state.Channel91.TheVariants as channel
use Rattle.machine_091.specs.declared.state.Connection.{Connection}
use Rattle.machine_091.specs.declared.state.Phase91.TheVariants as phase
use Rattle.machine_091.specs.declared.unit.Refusal.{Refusal}
use Rattle.machine_091.specs.declared.unit.Ruling.{Ruling}
use Rattle.machine_091.specs.declared.unit.Unit91.{Unit91}
use Rattle.machine_091.specs.declared.unit.Unit91.TheVariants as unit
use Rattle.machine_091.specs.declared.unit.Want91.{Want91}
use Rattle.machine_091.specs.declared.unit.Want91.TheVariants as want
use Rattle.machine_091.proofs.StepCases.{step_rows}

-- ---- limits

pub agreed_within : (channels size heartbeat : ℕ) → is_agreed channels size ≡ true → AreWithin (agreed_limits channels size heartbeat)
agreed_within channels size heartbeat e = by (eqb size 0) (eqb channels 0) refl refl
  where
    by : (b d : Bool) → eqb size 0 ≡ b → eqb channels 0 ≡ d
        → AreWithin (record { frame_max = cond b 131072 size; channel_max = cond d 255 channels; heartbeat = heartbeat })
    by true true z y = record { frame_min = omega arith; frame_max = omega arith; channel_min = omega arith; channel_max = omega arith }
    by true false z y = record {
      frame_min = omega arith;
      frame_max = omega arith;
      channel_min = grind (arith, nat_tests, y);
      channel_max = grind (arith, nat_tests, e, z);
    }
    by false true z y = record {
      frame_min = grind (arith, nat_tests, e, z);
      frame_max = grind (arith, nat_tests, e, z);
      channel_min = omega arith;
      channel_max = omega arith;
    }
    by false false z y = record {
      frame_min = grind (arith, nat_tests, e, z);
      frame_max = grind (arith, nat_tests, e, z);
      channel_min = grind (arith, nat_tests, y);
      channel_max = grind (arith, nat_tests, e, z);
    }

-- a closing event leaves them
pub limits_closing : (s : Scope) (n : ℕ) (c : Connection) → AreWithin c.limits → AreWithin (after_closing s n c).limits
limits_closing scope.Connection n c w = w
limits_closing scope.Channel n c w = by (channel_at c n)
  where
    by : (x : Channel91) → AreWithin (closing_channel x n c).limits
    by channel.Free = w
    by channel.Open = w
    by channel.Closing = w
    by channel.Told = w

-- no unit takes the limits out of their range
pub limits_stay : (c : Connection) (u : Unit91) → AreWithin c.limits → AreWithin (unit_step c u).0.limits
limits_stay c u w = step_rows (λ (x : Step). AreWithin x.0.limits) c u (record {
  greeted = λ e. w;
  foreign = λ e. w;
  refused = λ code e r. w;
  publish_refused = λ code e r. w;
  channel_refused = λ code on large r. limits_closing scope.Channel (channel_of u) c w;
  nothing = λ idle. w;
  login = λ a b e named. w;
  tuned = λ channels size heartbeat e agreed. agreed_within channels size heartbeat agreed;
  asked = λ e. w;
  closed = λ e. w;
  opened = λ n m o. w;
  ended = λ n m o. w;
  passed_on = λ n m o. w;
  begun = λ f k args b. w;
  grown = λ f i a t. w;
  published = λ f i a d t later. w;
  freed = λ n o. w;
  crossed = λ e. w;
  answered = λ e. w;
  passed = λ e. w;
})

-- ---- phases

-- the closing event of a channel leaves the phase
pub phase_closing : (n : ℕ) (c : Connection) → c.phase ≡ (after_closing scope.Channel n c).phase
phase_closing n c = by (channel_at c n)
  where
    by : (x : Channel91) → c.phase ≡ (closing_channel x n c).phase
    by channel.Free = refl
    by channel.Open = refl
    by channel.Closing = refl
    by channel.Told = refl

-- no unit makes a connection run
pub none_runs : (c : Connection) (u : Unit91) → (unit_step c u).0.phase ≡ phase.Running → c.phase ≡ phase.Running
none_runs c u = step_rows (λ (x : Step). x.0.phase ≡ phase.Running → c.phase ≡ phase.Running) c u (record {
  greeted = λ e k. absurd cc;
  foreign = λ e k. absurd cc;
  refused = λ code e r k. absurd cc;
  publish_refused = λ code e r k. absurd cc;
  channel_refused = λ code on large r e. phase_closing (channel_of u) c ∙ e;
  nothing = λ idle k. k;
  login = λ a b e named k. absurd cc;
  tuned = λ channels size heartbeat e agreed k. absurd cc;
  asked = λ e k. k;
  closed = λ e k. absurd cc;
  opened = λ n m o k. k;
  ended = λ n m o k. k;
  passed_on = λ n m o k. k;
  begun = λ f kind args b k. k;
  grown = λ f i a t k. k;
  published = λ f i a d t later k. k;
  freed = λ n o k. k;
  crossed = λ e k. absurd cc;
  answered = λ e k. absurd cc;
  passed = λ e k. k;
})

-- a connection that runs isn't closed
runs_open : (c : Connection) → c.phase ≡ phase.Closed → is_running c.phase ≡ true → ⊥
runs_open c at e = let k : is_running c.phase ≡ false = ap is_running at in absurd cc

closes_open : (c : Connection) → c.phase ≡ phase.Closed → is_closing_phase c.phase ≡ false → ⊥
closes_open c at e = let k : is_closing_phase c.phase ≡ true = ap is_closing_phase at in absurd cc

-- a connection that is closed stays so
pub closed_stays : (c : Connection) (u : Unit91) → c.phase ≡ phase.Closed → StaysClosed c (unit_step c u)
closed_stays c u at = step_rows (λ (x : Step). StaysClosed c x) c u (record {
  greeted = λ e. absurd cc;
  foreign = λ e. absurd cc;
  refused = λ code e r. absurd (closes_open c at e);
  publish_refused = λ code e r. absurd (closes_open c at e);
  channel_refused = λ code on large r. absurd (runs_open c at on.runs);
  nothing = λ idle. record { phase = at; limits = refl; channels = refl; contents = refl; want = inl refl };
  login = λ a b e named. absurd cc;
  tuned = λ channels size heartbeat e agreed. absurd cc;
  asked = λ e. absurd cc;
  closed = λ e. absurd (runs_open c at e);
  opened = λ n m o. absurd (runs_open c at o.runs);
  ended = λ n m o. absurd (runs_open c at o.runs);
  passed_on = λ n m o. absurd (runs_open c at o.runs);
  begun = λ f k args b. absurd (runs_open c at b.on.runs);
  grown = λ f i a t. absurd (runs_open c at t.on.runs);
  published = λ f i a d t later. absurd (runs_open c at t.on.runs);
  freed = λ n o. absurd (runs_open c at o.runs);
  crossed = λ e. absurd cc;
  answered = λ e. record { phase = refl; limits = refl; channels = refl; contents = refl; want = inr refl };
  passed = λ e. record { phase = at; limits = refl; channels = refl; contents = refl; want = inl refl };
})

-- ---- refusals

of_connection : (code : ℕ) (u : Unit91) → ((refusal_of code u).scope ≡ scope.Connection) × ((refusal_of code u).channel ≡ 0)
of_connection code unit.Protocol = (refl, refl)
of_connection code (unit.Bad c) = (refl, refl)
of_connection code (unit.Frame f) = by f.kind
  where
    by : (k : Kind91) → ((refusal_by k code f.payload).scope ≡ scope.Connection) × ((refusal_by k code f.payload).channel ≡ 0)
    by frame.Method = (refl, refl)
    by frame.Header = (refl, refl)
    by frame.Body = (refl, refl)
    by frame.Heartbeat = (refl, refl)

-- a channel is open
pub is_open_by : (c : Connection) (n : ℕ) → is_running c.phase ≡ true → is_open_channel (channel_at c n) ≡ true → is_open c n ≡ true
is_open_by c n runs opened = ap (λ (b : Bool). b && is_open_channel (channel_at c n)) runs ∙ opened

-- the refusal that is told; any other where none is
abbrev told : Want91 → Refusal
told want.Nothing = refusal_with 0 0 0
told want.Start = refusal_with 0 0 0
told (want.Login a b) = refusal_with 0 0 0
told want.Tuned = refusal_with 0 0 0
told want.OpenUp = refusal_with 0 0 0
told (want.Method n m) = refusal_with 0 0 0
told (want.Publish n m d) = refusal_with 0 0 0
told (want.ChannelCloseOk n) = refusal_with 0 0 0
told want.Close = refusal_with 0 0 0
told want.CloseOk = refusal_with 0 0 0
told (want.Refuse r) = r

-- a refusal of the connection closes it
connection_closes : (c after : Connection) (q r : Refusal) → q ≡ r → q.scope ≡ scope.Connection → ClosesConnection c q after → Closes r.scope c r after
connection_closes c after q r same of closes =
    subst (λ (x : Refusal). Closes x.scope c x after) same (subst (λ (s : Scope). Closes s c q after) (sym of) closes)

-- that of a channel closes the channel
channel_closes : (c after : Connection) (q r : Refusal) → q ≡ r → q.scope ≡ scope.Channel → ClosesChannel c q after → Closes r.scope c r after
channel_closes c after q r same of closes =
    subst (λ (x : Refusal). Closes x.scope c x after) same (subst (λ (s : Scope). Closes s c q after) (sym of) closes)

-- a refusal closes what it says
pub refusal_closes : (c : Connection) (u : Unit91) (r : Refusal) → (unit_step c u).1 ≡ want.Refuse r → Closes r.scope c r (unit_step c u).0
refusal_closes c u r = step_rows (λ (x : Step). x.1 ≡ want.Refuse r → Closes r.scope c r x.0) c u (record {
  greeted = λ e k. absurd cc;
  foreign = λ e k. absurd cc;
  refused = λ code e ruled k.
      connection_closes c (machine.refused c u code) (refusal_of code u) r (ap told k) (of_connection code u).0
      (record { channel = (of_connection code u).1; phase = refl; limits = refl; channels = refl; contents = refl });
  publish_refused = λ code e ruled k.
      connection_closes c (machine.refused c u code) (publish_refusal code) r (ap told k) refl
      (record { channel = refl; phase = refl; limits = refl; channels = refl; contents = refl });
  channel_refused = λ code on large ruled k.
      channel_closes c (after_closing scope.Channel (channel_of u) c) (channel_refusal code (channel_of u)) r (ap told k) refl
      (record { code = large; was_open = is_open_by c (channel_of u) on.runs on.opened; closing = refl });
  nothing = λ idle k. absurd cc;
  login = λ a b e named k. absurd cc;
  tuned = λ channels size heartbeat e agreed k. absurd cc;
  asked = λ e k. absurd cc;
  closed = λ e k. absurd cc;
  opened = λ n m o k. absurd cc;
  ended = λ n m o k. absurd cc;
  passed_on = λ n m o k. absurd cc;
  begun = λ f kind args b k. absurd cc;
  grown = λ f i a t k. absurd cc;
  published = λ f i a d t later k. absurd cc;
  freed = λ n o k. absurd cc;
  crossed = λ e k. absurd cc;
  answered = λ e k. absurd cc;
  passed = λ e k. absurd cc;
})

-- ---- the order of refusals

-- a refusal is that of the first place of the order that applies
pub refusal_ruled : (c : Connection) (u : Unit91) (r : Refusal) → (unit_step c u).1 ≡ want.Refuse r → refusal_by_order (unit_ruling c u) u ≡ Some r
refusal_ruled c u r = step_rows (λ (x : Step). x.1 ≡ want.Refuse r → refusal_by_order (unit_ruling c u) u ≡ Some r) c u (record {
  greeted = λ e k. absurd cc;
  foreign = λ e k. absurd cc;
  refused = λ code e ruled k. ap (λ (o : Option Ruling). refusal_by_order o u) ruled ∙ ap (λ (q : Refusal). Some q) (ap told k);
  publish_refused = λ code e ruled k. ap (λ (o : Option Ruling). refusal_by_order o u) ruled ∙ ap (λ (q : Refusal). Some q) (ap told k);
  channel_refused = λ code on large ruled k. ap (λ (o : Option Ruling). refusal_by_order o u) ruled ∙ ap (λ (q : Refusal). Some q) (ap told k);
  nothing = λ idle k. absurd cc;
  login = λ a b e named k. absurd cc;
  tuned = λ channels size heartbeat e agreed k. absurd cc;
  asked = λ e k. absurd cc;
  closed = λ e k. absurd cc;
  opened = λ n m o k. absurd cc;
  ended = λ n m o k. absurd cc;
  passed_on = λ n m o k. absurd cc;
  begun = λ f kind args b k. absurd cc;
  grown = λ f i a t k. absurd cc;
  published = λ f i a d t later k. absurd cc;
  freed = λ n o k. absurd cc;
  crossed = λ e k. absurd cc;
  answered = λ e k. absurd cc;
  passed = λ e k. absurd cc;
})

-- ---- logins

abbrev mechanism_in : Want91 → List ℕ
mechanism_in want.Nothing = []
mechanism_in want.Start = []
mechanism_in (want.Login a b) = a
mechanism_in want.Tuned = []
mechanism_in want.OpenUp = []
mechanism_in (want.Method n m) = []
mechanism_in (want.Publish n m d) = []
mechanism_in (want.ChannelCloseOk n) = []
mechanism_in want.Close = []
mechanism_in want.CloseOk = []
mechanism_in (want.Refuse r) = []

abbrev response_in : Want91 → List ℕ
response_in want.Nothing = []
response_in want.Start = []
response_in (want.Login a b) = b
response_in want.Tuned = []
response_in want.OpenUp = []
response_in (want.Method n m) = []
response_in (want.Publish n m d) = []
response_in (want.ChannelCloseOk n) = []
response_in want.Close = []
response_in want.CloseOk = []
response_in (want.Refuse r) = []

-- a login that is taken is by a mechanism that is offered, and its response is short
pub logins_named : (c : Connection) (u : Unit91) (a b : List ℕ) → (unit_step c u).1 ≡ want.Login a b → is_login a b ≡ true
logins_named c u a b = step_rows (λ (x : Step). x.1 ≡ want.Login a b → is_login a b ≡ true) c u (record {
  greeted = λ e k. absurd cc;
  foreign = λ e k. absurd cc;
  refused = λ code e r k. absurd cc;
  publish_refused = λ code e r k. absurd cc;
  channel_refused = λ code on large r k. absurd cc;
  nothing = λ idle k. absurd cc;
  login = λ x y e named k. ap (is_login a) (sym (ap response_in k)) ∙ ap (λ (m : List ℕ). is_login m y) (sym (ap mechanism_in k)) ∙ named;
  tuned = λ channels size heartbeat e agreed k. absurd cc;
  asked = λ e k. absurd cc;
  closed = λ e k. absurd cc;
  opened = λ n m o k. absurd cc;
  ended = λ n m o k. absurd cc;
  passed_on = λ n m o k. absurd cc;
  begun = λ f kind args b k. absurd cc;
  grown = λ f i a t k. absurd cc;
  published = λ f i a d t later k. absurd cc;
  freed = λ n o k. absurd cc;
  crossed = λ e k. absurd cc;
  answered = λ e k. absurd cc;
  passed = λ e k. absurd cc;
})
