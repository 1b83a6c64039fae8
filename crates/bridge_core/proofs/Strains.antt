-- A unit for which memory may run out once its connection took it: nothing but a content in progress
-- changed, which a close drops.
use Rattle.std.proofs.Common.{◌≡◌, ◌∙◌, ℕ, Bool, true, false, cond, eqb, List, [], Option, None}
use Rattle.std.proofs.Common.{Some, Result, Ok, Err, OnErr, refl, sym, ap}
use Rattle.std.specs.Prelude.{slice_set}
use Rattle.close_translate.specs.Conditions.{condition_of}
use Rattle.close_translate.specs.declared.codes.TheConstants.{RESOURCE_ERROR}
use Rattle.content_091.specs.declared.assembly.Step.TheVariants as content
use Rattle.frames_091.specs.declared.frame.Kind91.{Kind91}
use Rattle.frames_091.specs.declared.frame.Kind91.TheVariants as frame
use Rattle.methods_091.specs.Arguments.{Arg}
use Rattle.methods_091.specs.Reading.{Read, method_in}
use Rattle.methods_091.specs.Rows.{Kind}
use Rattle.methods_091.specs.declared.method.Method91.TheVariants as method
use Rattle.machine_091.specs.Calls.{closing_contents, closing_phase}
use Rattle.machine_091.specs.Contents.{Taking, begun, no_contents, taken}
use Rattle.machine_091.specs.Methods.{ack_of, cancel_of, close_of, consume_of, declare_of, flow_of}
use Rattle.machine_091.specs.Methods.{get_of}
use Rattle.machine_091.specs.Methods.{nack_of, publish_of, qos_of, queue_declare_of, recover_async_of, recover_of}
use Rattle.machine_091.specs.Methods.{reject_of, select_of}
use Rattle.machine_091.specs.Refusals.{unit_ruling}
use Rattle.machine_091.specs.State.{channel_at, content_at, is_closing_phase, is_running}
use Rattle.machine_091.specs.State.{with_channel, with_content}
use Rattle.machine_091.specs.Transitions.{Step, channel_effect, closed_by, closed_step}
use Rattle.machine_091.specs.Transitions.{closing_step, content_effect, frame_effect, header_step}
use Rattle.machine_091.specs.Transitions.{method_effect, opening_effect, ruled_step, running_effect}
use Rattle.machine_091.specs.Transitions.{step_in, unit_step, with_stream}
use Rattle.machine_091.specs.declared.contents.Incoming.{Incoming}
use Rattle.machine_091.specs.declared.state.Channel91.TheVariants as channel
use Rattle.machine_091.specs.declared.state.Connection.{Connection}
use Rattle.machine_091.specs.declared.state.Phase91.{Phase91}
use Rattle.machine_091.specs.declared.state.Phase91.TheVariants as phase
use Rattle.machine_091.specs.declared.state.Stream91.TheVariants as stream
use Rattle.machine_091.specs.declared.unit.Ruling.{Ruling}
use Rattle.machine_091.specs.declared.unit.Ruling.TheVariants as ruling
use Rattle.machine_091.specs.declared.unit.Unit91.{Unit91}
use Rattle.machine_091.specs.declared.unit.Unit91.TheVariants as unit
use Rattle.machine_091.specs.declared.unit.Want91.{Want91}
use Rattle.machine_091.specs.declared.unit.Want91.TheVariants as want
use Rattle.gate_model.specs.Paths.{closed_paths}
use Rattle.gate_model.specs.State.{State, close, closes_at, last_pending, ran_out}
use Rattle.gate_model.specs.Upstream.{closing_with}
use Rattle.bridge_core.specs.Met.{takes_memory_for}

-- ---- the connection

-- it closes to the same
pub record ClosesAlike (c d : Connection) : Type 0 where
  pub phase : d.phase ≡ c.phase
  pub close : close d ≡ close c

-- so does the connection after a step for which memory may run out
abbrev IsLight : Connection → Step → Type 0
IsLight c x = takes_memory_for x.1 ≡ true → ClosesAlike c x.0

dropped : (c : Connection) (n : ℕ) → is_closing_phase c.phase ≡ false → ClosesAlike c (with_content c n None)
dropped c n e = record {
  phase = refl;
  close = ap (λ (xs : List (Option Incoming)). record c { phase = closing_phase c.phase; contents = xs }) (by c.phase e);
}
  where
    by : (p : Phase91) → is_closing_phase p ≡ false → closing_contents p (slice_set c.contents n None) ≡ closing_contents p c.contents
    by phase.Header e = refl
    by phase.Start e = refl
    by phase.Tune e = refl
    by phase.Open e = refl
    by phase.Running e = refl
    by phase.Closing e = absurd cc
    by phase.Closed e = absurd cc

-- ---- methods

-- one that changes nothing, one that takes no memory, and one of two
same : (c : Connection) (x : Want91) → IsLight c (c, x)
same c x = λ e. record { phase = refl; close = refl }

never : (c : Connection) (x : Step) → takes_memory_for x.1 ≡ false → IsLight c x
never c x is = λ e. absurd cc

either : (c : Connection) (b : Bool) (x y : Step) → IsLight c x → IsLight c y → IsLight c (cond b x y)
either c true x y e f = e
either c false x y e f = f

channel_light : (c : Connection) (n : ℕ) (k : Kind) (args : List Arg) → IsLight c (channel_effect c n k args)
channel_light c n k args =
    by _ _ _ _ _ _ _ _ _ _ _ _ _ _ _ _
  where
    by : (opens shuts stops declares probes selects consumes gets acks rejects nacks limits cancels recovers releases publishes : Bool)
        → IsLight c (cond {A = Step} opens (with_channel c n channel.Open, want.Method n method.ChannelOpen)
        (cond {A = Step} shuts (with_channel c n (closed_by (channel_at c n)), want.Method n (close_of args))
        (cond {A = Step} stops (c, want.Method n (flow_of args))
        (cond {A = Step} declares (c, want.Method n (declare_of args))
        (cond {A = Step} probes (c, want.Method n (queue_declare_of args))
        (cond {A = Step} selects (c, want.Method n (select_of args))
        (cond {A = Step} consumes (c, want.Method n (consume_of args))
        (cond {A = Step} gets (c, want.Method n (get_of args))
        (cond {A = Step} acks (c, want.Method n (ack_of args))
        (cond {A = Step} rejects (c, want.Method n (reject_of args))
        (cond {A = Step} nacks (c, want.Method n (nack_of args))
        (cond {A = Step} limits (c, want.Method n (qos_of args))
        (cond {A = Step} cancels (c, want.Method n (cancel_of args))
        (cond {A = Step} recovers (c, want.Method n (recover_of args))
        (cond {A = Step} releases (c, want.Method n (recover_async_of args))
        (cond {A = Step} publishes (with_content c n (Some (begun (publish_of args))), want.Nothing)
        (with_channel c n channel.Free, want.ChannelCloseOk n)))))))))))))))))
    by opens shuts stops declares probes selects consumes gets acks rejects nacks limits cancels recovers releases publishes =
        either c opens _ _ (never c (with_channel c n channel.Open, want.Method n method.ChannelOpen) refl)
        (either c shuts _ _ (never c (with_channel c n (closed_by (channel_at c n)), want.Method n (close_of args)) refl)
        (either c stops _ _ (same c (want.Method n (flow_of args)))
        (either c declares _ _ (same c (want.Method n (declare_of args)))
        (either c probes _ _ (same c (want.Method n (queue_declare_of args)))
        (either c selects _ _ (same c (want.Method n (select_of args)))
        (either c consumes _ _ (same c (want.Method n (consume_of args)))
        (either c gets _ _ (same c (want.Method n (get_of args)))
        (either c acks _ _ (same c (want.Method n (ack_of args)))
        (either c rejects _ _ (same c (want.Method n (reject_of args)))
        (either c nacks _ _ (same c (want.Method n (nack_of args)))
        (either c limits _ _ (same c (want.Method n (qos_of args)))
        (either c cancels _ _ (same c (want.Method n (cancel_of args)))
        (either c recovers _ _ (same c (want.Method n (recover_of args)))
        (either c releases _ _ (same c (want.Method n (recover_async_of args)))
        (either c publishes _ _ (never c (with_content c n (Some (begun (publish_of args))), want.Nothing) refl)
        (never c (with_channel c n channel.Free, want.ChannelCloseOk n) refl))))))))))))))))

running_light : (c : Connection) (n : ℕ) (k : Kind) (args : List Arg) → IsLight c (running_effect c n k args)
running_light c n k args = by (eqb n 0)
  where
    by : (b : Bool) → IsLight c (cond {A = Step} b (record c { phase = phase.Closed; contents = no_contents }, want.Close) (channel_effect c n k args))
    by true = λ e. absurd cc
    by false = channel_light c n k args

opening_light : (c : Connection) (args : List Arg) (p : Phase91) → IsLight c (opening_effect c args p)
opening_light c args phase.Header = λ e. absurd cc
opening_light c args phase.Start = λ e. absurd cc
opening_light c args phase.Tune = λ e. absurd cc
opening_light c args phase.Open = λ e. absurd cc
opening_light c args phase.Running = λ e. absurd cc
opening_light c args phase.Closing = λ e. absurd cc
opening_light c args phase.Closed = λ e. absurd cc

method_light : (c : Connection) (n : ℕ) (read : Read) → IsLight c (method_effect c n read)
method_light c n (Err x) = λ e. absurd cc
method_light c n (Ok m) = by (is_running c.phase)
  where
    by : (b : Bool) → IsLight c (cond {A = Step} b (running_effect c n m.0 m.1) (opening_effect c m.1 c.phase))
    by true = running_light c n m.0 m.1
    by false = opening_light c m.1 c.phase

-- ---- units

content_light : (c : Connection) (n : ℕ) (o : Option Incoming) (t : Taking) → is_closing_phase c.phase ≡ false → IsLight c (content_effect c n o t)
content_light c n None t none = λ e. absurd cc
content_light c n (Some i) (Err x) none = λ e. absurd cc
content_light c n (Some i) (Ok (a, content.More)) none = λ e. absurd cc
content_light c n (Some i) (Ok (a, content.Whole d)) none = λ e. dropped c n none

frame_light : (c : Connection) (n : ℕ) (payload : List ℕ) (k : Kind91) → is_closing_phase c.phase ≡ false → IsLight c (frame_effect c n payload k)
frame_light c n payload frame.Method none = method_light c n (method_in payload)
frame_light c n payload frame.Header none = content_light c n (content_at c n) (taken frame.Header payload (content_at c n)) none
frame_light c n payload frame.Body none = content_light c n (content_at c n) (taken frame.Body payload (content_at c n)) none
frame_light c n payload frame.Heartbeat none = λ e. absurd cc

ruled_light : (c : Connection) (u : Unit91) (r : Option Ruling) → is_closing_phase c.phase ≡ false → IsLight c (ruled_step c u r)
ruled_light c unit.Protocol None none = λ e. absurd cc
ruled_light c (unit.Bad code) None none = λ e. absurd cc
ruled_light c (unit.Frame f) None none = frame_light c f.channel f.payload f.kind none
ruled_light c u (Some ruling.PassedOver) none = λ e. absurd cc
ruled_light c u (Some (ruling.Refused code)) none = λ e. absurd cc
ruled_light c u (Some (ruling.MethodRefused code)) none = λ e. absurd cc
ruled_light c u (Some (ruling.ChannelRefused code)) none = λ e. absurd cc

closed_light : (c : Connection) (u : Unit91) → IsLight c (closed_step c u)
closed_light c u = by _
  where
    by : (b : Bool) → IsLight c (cond {A = Step} b (record c { phase = phase.Closed; stream = stream.Answered }, want.CloseOk) (with_stream u c, want.Nothing))
    by true = λ e. absurd cc
    by false = λ e. absurd cc

closing_light : (c : Connection) (u : Unit91) → IsLight c (closing_step c u)
closing_light c u = by _
  where
    by : (b : Bool) → IsLight c (cond {A = Step} b (record c { phase = phase.Closed }, want.Close) (closed_step c u))
    by true = λ e. absurd cc
    by false = closed_light c u

header_light : (c : Connection) (u : Unit91) → IsLight c (header_step c u)
header_light c unit.Protocol = λ e. absurd cc
header_light c (unit.Frame f) = λ e. absurd cc
header_light c (unit.Bad code) = λ e. absurd cc

step_light : (c : Connection) (u : Unit91) → IsLight c (unit_step c u)
step_light c u = by c.phase refl
  where
    by : (p : Phase91) → c.phase ≡ p → IsLight c (step_in p c u)
    by phase.Header e = header_light c u
    by phase.Start e = ruled_light c u (unit_ruling c u) (ap is_closing_phase e)
    by phase.Tune e = ruled_light c u (unit_ruling c u) (ap is_closing_phase e)
    by phase.Open e = ruled_light c u (unit_ruling c u) (ap is_closing_phase e)
    by phase.Running e = ruled_light c u (unit_ruling c u) (ap is_closing_phase e)
    by phase.Closing e = closing_light c u
    by phase.Closed e = closed_light c u

-- ---- the state

-- a pair that runs out of memory over what a unit wants is as one that did before the unit
strained : (w : State) (d : Connection) → ClosesAlike w.conn d → ran_out (record w { conn = d }) ≡ ran_out w
strained w d s = ap (ended (close d)) s.phase ∙ ap (λ (e : Connection). ended e w.conn.phase) s.close
  where
    ended : Connection → Phase91 → State
    ended d p = record w {
      conn = d;
      paths = closed_paths w.paths;
      pending = last_pending p w.pending;
      up = closing_with (is_closing_phase p) (Some (condition_of RESOURCE_ERROR)) w.up;
      queue = [];
      closed_at = closes_at w.closed_at true w.moment;
      out_of_memory = true;
    }

pub runs_out : (v w : State) (u : Unit91) (x : Want91) (c d : Connection) → v ≡ w → c ≡ (unit_step v.conn u).0 → x ≡ (unit_step v.conn u).1
    → d ≡ c → takes_memory_for x ≡ true → ran_out (record v { conn = d }) ≡ ran_out w
runs_out v w u x c d same at is kept e =
    ap (λ (k : Connection). ran_out (record v { conn = k })) (kept ∙ at)
    ∙ strained v (unit_step v.conn u).0 (step_light v.conn u (ap takes_memory_for (sym is) ∙ e))
    ∙ ap ran_out same

-- what is known at the return of an error
pub on_err : {T E P : Type 0} (r : Result T E) → P → OnErr r P
on_err (Ok x) p = tt
on_err (Err e) p = p
