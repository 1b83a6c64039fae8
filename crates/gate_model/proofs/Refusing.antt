-- What is refused for a channel is refused on an open one.
use Rattle.std.proofs.Common.{◌≡◌, ℕ, ◌==◌, Bool, true, false, List, Option, None, Some, refl, if◌then◌else◌}
use Rattle.close_translate.specs.declared.codes.TheConstants.{NOT_ALLOWED}
use Rattle.close_translate.specs.declared.conditions.Scope.TheVariants as scope
use Rattle.machine_091.specs.Refusals.{channel_of, refusal_with}
use Rattle.machine_091.specs.State.{channel_at, is_open, is_open_channel, is_running}
use Rattle.machine_091.specs.Transitions.{unit_step}
use Rattle.machine_091.specs.Transitions as machine
use Rattle.machine_091.specs.declared.state.Connection.{Connection}
use Rattle.machine_091.specs.declared.unit.Unit91.{Unit91}
use Rattle.machine_091.specs.declared.unit.Want91.{Want91}
use Rattle.machine_091.specs.declared.unit.Want91.TheVariants as want
use Rattle.machine_091.proofs.Asking.{IsOnTime, is_request, unit_on_time}
use Rattle.machine_091.proofs.Places.{IsOnOpen}
use Rattle.machine_091.proofs.StepCases.{step_rows}
use Rattle.methods_091.specs.Rows.{class_of, id_of}
use Rattle.methods_091.specs.View.{kind_of}
use Rattle.methods_091.specs.declared.method.Method91.{Method91}
use Rattle.methods_091.specs.declared.method.Method91.TheVariants as method
use Rattle.session_path.specs.Path.{PathState}
use Rattle.gate_model.specs.declared.setup.Route.{Route}
use Rattle.gate_model.specs.Lives.{is_of_channel}
use Rattle.gate_model.specs.Paths.{path_at}
use Rattle.gate_model.specs.Requests.{client_step, message_of, method_fault, publish_fault, refusal_of_want, refused_by, refused_for}
use Rattle.gate_model.proofs.Basics.{and_both}
use Rattle.gate_model.proofs.Connections.{clash}
use Rattle.gate_model.proofs.Outcomes.{of_unit}

-- a whole publish, and a refusal of a channel
abbrev pub StandsOpen : Connection → Want91 → Type 0
StandsOpen c (want.Publish n m d) = is_open c n ≡ true
StandsOpen c (want.Refuse r) = is_of_channel r ≡ true → is_open c r.channel ≡ true
StandsOpen c x = Unit {0}

on_open : (c : Connection) (n : ℕ) → IsOnOpen c n → is_open c n ≡ true
on_open c n o = and_both (is_running c.phase) (is_open_channel (channel_at c n)) o.runs o.opened

unit_stands : (c : Connection) (u : Unit91) → StandsOpen c (unit_step c u).1
unit_stands c u = step_rows (λ (x : machine.Step). StandsOpen c x.1) c u (record {
  greeted = λ e. tt;
  foreign = λ e. tt;
  refused = λ code e ruled f. absurd (clash _ f (of_unit code u));
  publish_refused = λ code e ruled f. absurd cc;
  channel_refused = λ code on large ruled f. on_open c (channel_of u) on;
  nothing = λ idle. tt;
  login = λ a b e l. tt;
  tuned = λ channels size heartbeat e l. tt;
  asked = λ e. tt;
  closed = λ e. tt;
  opened = λ n m of. tt;
  ended = λ n m of. tt;
  passed_on = λ n m of. tt;
  begun = λ f k args is. tt;
  grown = λ f i a is. tt;
  published = λ f i a d is at_once. on_open c f.channel is.on;
  freed = λ n of. tt;
  crossed = λ e. tt;
  answered = λ e. tt;
  passed = λ e. tt;
})

-- a method with a fault is a request
faulty : (rs : List Route) (s : PathState) (m : Method91) (code : ℕ) → method_fault rs s m ≡ Some code → is_request m ≡ true
faulty rs s (method.ExchangeDeclare name kind passive durable deletes internal no_wait arguments) code e = refl
faulty rs s (method.QueueDeclare queue passive durable exclusive deletes no_wait arguments) code e = refl
faulty rs s (method.BasicConsume queue tag no_local no_ack exclusive no_wait arguments) code e = refl
faulty rs s (method.BasicGet queue no_ack) code e = refl
faulty rs s (method.BasicCancel tag no_wait) code e = refl
faulty rs s (method.BasicAck tag multiple) code e = refl
faulty rs s (method.BasicReject tag requeue) code e = refl
faulty rs s (method.BasicNack tag multiple requeue) code e = refl
faulty rs s m code e = absurd cc

pub client_stands : (rs : List Route) (ps : List (Option PathState)) (c : Connection) (u : Unit91) → StandsOpen c (client_step rs ps c u).1
client_stands rs ps c u = by (unit_step c u) (unit_stands c u) (unit_on_time c u)
  where
    met : (d : Connection) (n : ℕ) (m : Method91) (x : Want91) (o : Option ℕ) → StandsOpen c x → ((code : ℕ) → o ≡ Some code → is_open c n ≡ true)
        → StandsOpen c (refused_by (refused_for n m o) (d, x)).1
    met d n m x None s on = s
    met d n m x (Some code) s on = at (code == NOT_ALLOWED)
      where
        at : (b : Bool) → StandsOpen c (want.Refuse (if b then refusal_with code (class_of (kind_of m)) (id_of (kind_of m)) else record {
          code = code;
          scope = scope.Channel;
          channel = n;
          class = class_of (kind_of m);
          method = id_of (kind_of m);
        }))
        at true = λ f. absurd cc
        at false = λ f. on code refl

    by : (x : machine.Step) → StandsOpen c x.1 → IsOnTime c x → StandsOpen c (refused_by (refusal_of_want rs ps x.1) x).1
    by (d, want.Nothing) s t = tt
    by (d, want.Start) s t = tt
    by (d, want.Login a b) s t = tt
    by (d, want.Tuned) s t = tt
    by (d, want.OpenUp) s t = tt
    by (d, want.Method n m) s t =
        met d n m (want.Method n m) (method_fault rs (path_at ps n) m) tt (λ code e. t.holds n m refl (faulty rs (path_at ps n) m code e))
    by (d, want.Publish n m k) s t = met d n m (want.Publish n m k) (publish_fault rs (message_of m k)) s (λ code e. s)
    by (d, want.ChannelCloseOk n) s t = tt
    by (d, want.Close) s t = tt
    by (d, want.CloseOk) s t = tt
    by (d, want.Refuse r) s t = s
