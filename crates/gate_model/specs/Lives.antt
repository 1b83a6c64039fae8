-- The lives of channels: what is due on each channel of a client, which a session of the container
-- of the same number carries (AMQP 0-9-1 1.5; AMQP 1.0 2.5).
use Rattle.std.specs.Prelude.{Bool, List, None, Option, Some, [], false, if◌then◌else◌, not}
use Rattle.std.specs.Prelude.{is_some, replicate, slice_get, slice_set, true, ℕ, ◌++◌, ◌+◌}
use Rattle.std.specs.Prelude.{◌||◌, ◌∷◌}
use Rattle.std.specs.Option.{option_or}
use Rattle.close_translate.specs.Conditions.{condition_of}
use Rattle.close_translate.specs.declared.conditions.Scope.{Scope}
use Rattle.close_translate.specs.declared.conditions.Scope.TheVariants as scope
use Rattle.machine_091.specs.declared.unit.Refusal.{Refusal}
use Rattle.machine_091.specs.declared.unit.Want91.{Want91}
use Rattle.machine_091.specs.declared.unit.Want91.TheVariants as want
use Rattle.machine_10.specs.State.{session_at}
use Rattle.machine_10.specs.declared.state.Session.{Session}
use Rattle.machine_10.specs.declared.state.Session.TheVariants as session
use Rattle.machine_10.specs.declared.state.Upstream.{Upstream}
use Rattle.methods_091.specs.declared.method.Method91.{Method91}
use Rattle.methods_091.specs.declared.method.Method91.TheVariants as method
use Rattle.performatives_10.specs.declared.condition.Condition.{Condition}
use Rattle.gate_model.specs.declared.life.Life.{Life}
use Rattle.gate_model.specs.declared.life.SessionState.{SessionState}
use Rattle.gate_model.specs.declared.reply.Reason.{Reason}
use Rattle.property_map.specs.declared.told.Told.{Told}
use Rattle.gate_model.specs.Session.{no_session}

abbrev pub is_channel : Scope → Bool
is_channel scope.Channel = true
is_channel scope.Connection = false

-- what a refusal closes
abbrev pub is_of_channel : Refusal → Bool
is_of_channel r = is_channel r.scope

-- ---- one life

abbrev pub no_life : Life
no_life = record {
  waits = false;
  begin = false;
  open_ok = false;
  awaits_end = false;
  over = false;
  closed_at = None;
  by_peer = false;
  close_ok = false;
  crossed_ok = false;
  close = None;
  told = false;
  why = None;
  session = no_session;
}

-- what is due for the life before: a close-ok, and what concerns its session
abbrev pub old_life : Life → Life
old_life l = record no_life { crossed_ok = l.crossed_ok; why = l.why; session = l.session }

-- channel.open was taken up
abbrev pub asked_life : Life → Life
asked_life l = record (old_life l) { waits = true; begin = true }

-- the container's begin came: channel.open-ok is due, where that was awaited
abbrev pub begun_life : Life → Life
begun_life l = record l { waits = false; open_ok = l.open_ok || l.waits }

-- its client closes it: nothing but channel.close-ok is due to it any more
abbrev pub closed_life : ℕ → Life → Life
closed_life ms l =
    record (old_life l) {
      awaits_end = not l.over;
      over = true;
      closed_at = option_or l.closed_at (Some ms);
      by_peer = l.by_peer;
      close_ok = true;
      told = l.told;
    }

-- it is at fault, or the container is: channel.close is due, and what is owed for publishes where
-- the container was the cause
abbrev pub failed_life : Bool → ℕ → Reason → Option Condition → Life → Life
failed_life by_peer ms r why l = record (old_life l) {
  over = true;
  closed_at = Some ms;
  by_peer = by_peer;
  close = Some r;
  why = why;
}

-- the client answered channel.close: its own, that crossed the gateway's, is still to be answered
abbrev pub freed_life : Life → Life
freed_life l = record (old_life l) { over = true; crossed_ok = l.crossed_ok || l.close_ok }

-- nothing that ends it is due to the client or awaited of it: its channel is open, or it may be
-- opened again
abbrev pub is_clear : Life → Bool
is_clear l = not (l.told || (l.close_ok || is_some l.close))

-- ---- all lives, by the numbers of channels

unfoldable pub no_lives : List Life
no_lives = replicate 256 no_life

-- no number above the last is of a channel
abbrev pub or_none : Option Life → Life
or_none None = no_life
or_none (Some l) = l

abbrev pub life_at : List Life → ℕ → Life
life_at ls n = or_none (slice_get ls n)

abbrev pub with_life : ℕ → Life → List Life → List Life
with_life n l ls = slice_set ls n l

-- the session of a channel changes
abbrev pub with_state : ℕ → SessionState → List Life → List Life
with_state n s ls = with_life n (record (life_at ls n) { session = s }) ls

-- what the lives are after a method of a channel
abbrev pub method_life : ℕ → Method91 → Life → Life
method_life ms method.ChannelOpen l = asked_life l
method_life ms (method.ChannelClose code text class id) l = closed_life ms l
method_life ms m l = l

-- why a channel closes: for a refusal, of which nothing more is told, or this
abbrev pub reason_of : Option Told → Refusal → Reason
reason_of told r = record { refusal = r; told = told }

-- a refusal of a channel closes that
abbrev pub refused_life : ℕ → Option Told → Refusal → List Life → List Life
refused_life ms told r ls =
    if is_of_channel r then
    with_life r.channel
    (failed_life false ms (reason_of told r) (Some (condition_of r.code)) (life_at ls r.channel))
    ls
    else ls

-- after what a unit wants; of a publish that is refused this is told
abbrev pub lives_by : ℕ → Option Told → Want91 → List Life → List Life
lives_by ms told want.Nothing ls = ls
lives_by ms told want.Start ls = ls
lives_by ms told (want.Login mechanism response) ls = ls
lives_by ms told want.Tuned ls = ls
lives_by ms told want.OpenUp ls = ls
lives_by ms told (want.Method n m) ls = with_life n (method_life ms m (life_at ls n)) ls
lives_by ms told (want.Publish n m c) ls = ls
lives_by ms told (want.ChannelCloseOk n) ls = with_life n (freed_life (life_at ls n)) ls
lives_by ms told want.Close ls = ls
lives_by ms told want.CloseOk ls = ls
lives_by ms told (want.Refuse r) ls = refused_life ms told r ls

-- what each life has, by rising numbers of channels
abbrev pub each : {A : Type 0} → (ℕ → Life → List A) → ℕ → List Life → List A
each f n [] = []
each f n (l ∷ ls) = f n l ++ each f (n + 1) ls

-- some life passes a test
abbrev pub any_life : (ℕ → Life → Bool) → ℕ → List Life → Bool
any_life t n [] = false
any_life t n (l ∷ ls) = t n l || any_life t (n + 1) ls

-- ---- sessions

-- the session of a channel; there is none without a container
abbrev pub session_in : Option Upstream → ℕ → Session
session_in None n = session.Free
session_in (Some c) n = session_at c n

abbrev pub is_free : Session → Bool
is_free session.Free = true
is_free session.Asked = false
is_free session.Left = false
is_free (session.Open m) = false
is_free (session.Leaving m) = false
is_free (session.Ended m) = false

-- nothing of the container is waited for: no begin went, or its end came
abbrev pub is_done : Session → Bool
is_done session.Free = true
is_done session.Asked = false
is_done session.Left = false
is_done (session.Open m) = false
is_done (session.Leaving m) = false
is_done (session.Ended m) = true

-- the gateway's end is to answer the container's
abbrev pub is_ended : Session → Bool
is_ended session.Free = false
is_ended session.Asked = false
is_ended session.Left = false
is_ended (session.Open m) = false
is_ended (session.Leaving m) = false
is_ended (session.Ended m) = true

-- both begins went, and the gateway's end didn't
abbrev pub is_carried : Session → Bool
is_carried session.Free = false
is_carried session.Asked = false
is_carried session.Left = false
is_carried (session.Open m) = true
is_carried (session.Leaving m) = false
is_carried (session.Ended m) = true

-- the gateway's begin went, and no end of either side
abbrev pub is_begun : Session → Bool
is_begun session.Free = false
is_begun session.Asked = true
is_begun session.Left = false
is_begun (session.Open m) = true
is_begun (session.Leaving m) = false
is_begun (session.Ended m) = false

-- what is told of a channel whose session is at fault
abbrev pub refusal_on : ℕ → ℕ → Refusal
refusal_on n code =
    record { code = code; scope = scope.Channel; channel = n; class = 0; method = 0 }
